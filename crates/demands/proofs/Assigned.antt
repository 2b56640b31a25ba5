-- The values of a netlist's variables: how many, that they are digits, the inputs' and the gates'.
use mathlib.Core.Path.{◌≡◌, refl, sym, ◌∙◌}
use mathlib.Core.List.{List, [], ◌∷◌}
use mathlib.Core.Logic.{⊎_elim}
use Prim.Native.Nat.{ℕ, zero, suc, ◌+◌, ◌-◌, ◌*◌, ◌<◌, ◌≤◌}
use native.Mathlib.Nat.{eq-or-lt_of_le, zero-mul, one-mul}
use native.Mathlib.Numerals.{one-add}
use native.Mathlib.Omega.{arith}
use lib.ListN.{length, get_or, length-append, get_or-append}
use lib.Seq.{get_or_at, get_or-append-add}
use Rattle.rules.specs.Each.{listed}
use Rattle.rules.specs.Netlist.{variable, inverted, gate, record_at, EveryVariable}
use Rattle.rules.specs.Values.{width, bit, turned, literal_value, input_values, record_value, gate_value, values_to, values}
use Rattle.rules.specs.declared.counts.Counts.{Counts}
use Rattle.rules.specs.declared.records.Record.{Record}
use Rattle.rules.specs.declared.records.Record.TheVariants.{Gate, Cell}
use Rattle.rules.proofs.All.{all_append}
use Rattle.rules.proofs.Bits.{digit_cases, bit_digit}
use Rattle.rules.proofs.Indices.{length_listed, get_or_listed}
use Rattle.rules.proofs.Sound.{RightCounts, SoundTable, every_variable}
use Rattle.demands.proofs.Value.{Digits, digit_at}

-- the bits of a number are digits
digits_bits : (n x : ℕ) → Digits (listed n (bit x))
unfolding listed
digits_bits zero x = tt
digits_bits (suc n) x = all_append (λ (x : ℕ). x < 2) (listed n (bit x)) (bit x n ∷ []) (digits_bits n x) (bit_digit x n, tt)

-- a digit or 1 less it is a digit
turned_digit : (n x : ℕ) → x < 2 → turned n x < 2
unfolding turned
turned_digit zero x h = h
turned_digit (suc k) x h = omega arith

-- the value of a literal is a digit
pub literal_digit : (vs : List ℕ) (x : ℕ) → Digits vs → literal_value vs x < 2
unfolding literal_value
literal_digit vs x d = turned_digit (inverted x) (get_or vs (variable x) 0) (digit_at vs d (variable x))

-- the product of two digits is a digit
product_digit : (x y : ℕ) → x < 2 → y < 2 → x * y < 2
product_digit x y h k = digit_cases (λ x. x * y < 2) (rw zero-mul (omega arith)) (rw one-mul k) x h

-- the value of a record is a digit
record_digit : (vs : List ℕ) (r : Record) → Digits vs → record_value vs r < 2
unfolding record_value
record_digit vs (Gate x y) d = product_digit _ _ (literal_digit vs x d) (literal_digit vs y d)
record_digit vs (Cell byte x1 x2 x3) d = bit_digit byte _

-- a record has the same value in two lists that agree on its variables
pub record_same : (us vs : List ℕ) (r : Record) → EveryVariable (λ w. get_or us w 0 ≡ get_or vs w 0) r → record_value us r ≡ record_value vs r
unfolding record_value literal_value
record_same us vs (Gate x y) h = rw (h.0, h.1)
record_same us vs (Cell byte x1 x2 x3) h = rw (h.0, h.1, h.2)

module _ (n a b : ℕ) where
  -- the inputs have 2n + 1 values, with the false one
  pub length_inputs : length (input_values n a b) ≡ suc (n + n)
  unfolding input_values
  length_inputs = simp (length-append, length_listed) (omega arith)

  -- they are digits
  digits_inputs : Digits (input_values n a b)
  unfolding input_values
  digits_inputs = all_append (λ (x : ℕ). x < 2) (0 ∷ listed n (bit a)) (listed n (bit b)) (omega arith, digits_bits n a) (digits_bits n b)

  -- the first of them is 0
  input_false : get_or (input_values n a b) 0 0 ≡ 0
  unfolding input_values
  input_false = refl

  -- then come the bits of a
  input_first : (i : ℕ) → i < n → get_or (input_values n a b) (1 + i) 0 ≡ bit a i
  unfolding input_values
  input_first i l =
      rw one-add
      (get_or-append (listed n (bit a)) (listed n (bit b)) 0 i (rw length_listed l) ∙ get_or_listed n (bit a) 0 i l)

  -- and then those of b
  input_second : (i : ℕ) → i < n → get_or (input_values n a b) (n + 1 + i) 0 ≡ bit b i
  unfolding input_values
  input_second i l =
      let place : n + 1 + i ≡ suc (length (listed n (bit a)) + i) = rw length_listed (omega arith) in
      rw place (get_or-append-add (listed n (bit a)) (listed n (bit b)) i 0 ∙ get_or_listed n (bit b) 0 i l)

module _ (c : Counts) (table : List ℕ) (a b : ℕ) where
  -- how many values the inputs and the first gates have
  length_values_to : (k : ℕ) → length (values_to c table a b k) ≡ 2 * width c + 1 + k
  unfolding values_to
  length_values_to zero = length_inputs (width c) a b ∙ omega arith
  length_values_to (suc k) = simp (length-append, length_values_to k) (omega arith)

  -- they are digits
  digits_values_to : (k : ℕ) → Digits (values_to c table a b k)
  unfolding values_to gate_value
  digits_values_to zero = digits_inputs (width c) a b
  digits_values_to (suc k) =
      let before = values_to c table a b k in
      let digits = digits_values_to k in
      all_append (λ (x : ℕ). x < 2) before (gate_value c table before (gate c k) ∷ []) digits
      (record_digit before (record_at c table (gate c k)) digits, tt)

  -- the values of more gates leave those before
  values_kept : (k n v : ℕ) → k ≤ n → v < 2 * width c + 1 + k → get_or (values_to c table a b n) v 0 ≡ get_or (values_to c table a b k) v 0
  unfolding values_to
  values_kept k zero v h l = let none : k ≡ 0 = omega arith in rw none
  values_kept k (suc n) v h l =
      ⊎_elim
      (λ (e : k ≡ suc n). rw e)
      (λ (e : k < suc n).
      get_or-append (values_to c table a b n) _ 0 v (rw length_values_to (omega arith)) ∙ values_kept k n v (omega arith) l)
      (eq-or-lt_of_le h)

  -- the values are digits
  pub values_digits : Digits (values c table a b)
  unfolding values
  values_digits = digits_values_to c.a

  -- variable 0 is false
  pub values_false : get_or (values c table a b) 0 0 ≡ 0
  unfolding values values_to
  values_false = values_kept 0 c.a 0 (omega arith) (omega arith) ∙ input_false (width c) a b

  -- variables 1 to n are the first operand's bits
  pub values_first : (i : ℕ) → i < width c → get_or (values c table a b) (1 + i) 0 ≡ bit a i
  unfolding values values_to
  values_first i l = values_kept 0 c.a (1 + i) (omega arith) (omega arith) ∙ input_first (width c) a b i l

  -- variables n + 1 to 2n are the second operand's bits
  pub values_second : (i : ℕ) → i < width c → get_or (values c table a b) (width c + 1 + i) 0 ≡ bit b i
  unfolding values values_to
  values_second i l = values_kept 0 c.a (width c + 1 + i) (omega arith) (omega arith) ∙ input_second (width c) a b i l

  -- there is a value for each variable
  pub values_length : RightCounts c → length (values c table a b) ≡ c.m + 1
  unfolding values
  values_length right = length_values_to c.a ∙ omega arith

  -- a gate's value is that of its record
  pub values_gate : RightCounts c → SoundTable c table → (v : ℕ) → c.i < v → v ≤ c.m
      → get_or (values c table a b) v 0 ≡ record_value (values c table a b) (record_at c table v)
  unfolding values values_to gate_value gate
  values_gate right sound v above below =
      let k = v - (c.i + 1) in
      let own : c.i + 1 + k ≡ v = omega arith in
      let before = values_to c table a b k in
      let facts = sound.gates v above (omega arith) in
      let made : get_or (values_to c table a b (suc k)) v 0 ≡ gate_value c table before (c.i + 1 + k) =
      get_or_at before (gate_value c table before (c.i + 1 + k)) [] 0 v (length_values_to k ∙ omega arith)
      in
      let all = values_to c table a b c.a in
      let same : EveryVariable (λ w. get_or before w 0 ≡ get_or all w 0) (record_at c table v) =
      every_variable (λ w. w < v) _ (λ w l. sym (values_kept k c.a w (omega arith) (omega arith))) (record_at c table v) facts.low
      in
      values_kept (suc k) c.a v (omega arith) (omega arith) ∙ made
      ∙ rw own (record_same before all (record_at c table v) same)
