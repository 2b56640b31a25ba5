-- How the values of the variables are filled in, one behind the other.
use mathlib.Core.Path.{◌≡◌, ap, sym, ◌∙◌}
use mathlib.Core.List.{List, [], ◌∷◌, ◌++◌, append_assoc, append-nil}
use Prim.Native.Nat.{ℕ, zero, suc, ◌+◌, ◌*◌, ◌/◌, ◌%◌, ◌^◌, ◌<◌, ◌≤◌}
use native.Mathlib.Nat.{add_assoc, mul-le-mul, zero-mul}
use native.Mathlib.Numerals.{add-one}
use native.Mathlib.Omega.{arith}
use lib.Bits.{bit_and, bit_xor, and_zero_l, and_zero_r, and_self, xor_zero_l, xor_zero_r, xor_self}
use lib.ListN.{length, get_or, take, set}
use lib.Seq.{take-suc-set, get_or-take}
use Rattle.rules.specs.Each.{sum, listed}
use Rattle.rules.specs.Netlist.{variable, inverted, gate, output, record_at, EveryVariable}
use Rattle.rules.specs.Values.{width, bit, turned, literal_value, input_values, record_value, gate_value, values_to, values, shown}
use Rattle.rules.specs.declared.counts.Counts.{Counts}
use Rattle.rules.specs.declared.records.Record.{Record}
use Rattle.rules.specs.declared.records.Record.TheVariants.{Gate, Cell}
use Rattle.rules.proofs.Indices.{sum_same}
use Rattle.rules.proofs.Sound.{SoundRecord, every_variable}
use Rattle.netlist.specs.Taken.{Sound, Bits, BitAt, Readable}
use Rattle.netlist.proofs.Facts.{Facts, facts, output_within}

-- a store behind what is filled
take_more : (xs : List ℕ) (k b : ℕ) → k < length xs → take (k + 1) (set xs k b) ≡ take k xs ++ b ∷ []
take_more xs k b h = rw (add-one k) (take-suc-set xs k b h)

-- a literal of the first variables asks only those
literal_take : (n : ℕ) (xs : List ℕ) (x : ℕ) → variable x < n → literal_value (take n xs) x ≡ literal_value xs x
unfolding literal_value
literal_take n xs x h = rw (get_or-take n xs (variable x) 0 h)

-- and so does a record
record_take : (n : ℕ) (xs : List ℕ) (r : Record) → EveryVariable (λ w. w < n) r → record_value (take n xs) r ≡ record_value xs r
unfolding record_value
record_take n xs (Gate x y) h = rw (literal_take n xs x h.0, literal_take n xs y h.1)
record_take n xs (Cell byte x1 x2 x3) h =
    rw (get_or-take n xs x1 0 h.0, get_or-take n xs x2 0 h.1, get_or-take n xs x3 0 h.2)

-- the value of a literal is 0 or 1 where its variable's is
pub literal_bit : (xs : List ℕ) (x : ℕ) → get_or xs (variable x) 0 ≤ 1 → literal_value xs x ≤ 1
unfolding literal_value turned
literal_bit xs x h = go (inverted x)
  where
    go : (k : ℕ) → turned k (get_or xs (variable x) 0) ≤ 1
    go zero = h
    go (suc k) = omega arith

-- the variable of an output has a bit
pub output_bit : {c : Counts} {table : List ℕ} (values : List ℕ) → Sound c table → c.m < length values → Bits (c.m + 1) values → (i : ℕ) → i < c.o
    → BitAt values (variable (output table i))
unfolding Bits
output_bit values s long bits i l =
    let w = output_within s i l in
    (omega arith, bits _ (omega arith))

-- the product of two such values is 0 or 1
times_bit : (x y : ℕ) → x ≤ 1 → y ≤ 1 → x * y ≤ 1
times_bit x y h k = mul-le-mul h k

-- of two bits, both is their product
pub and_bits : (x y : ℕ) → x ≤ 1 → y ≤ 1 → bit_and x y ≡ x * y
and_bits zero y h k = and_zero_l y ∙ sym (zero-mul y)
and_bits (suc zero) zero h k = and_zero_r 1
and_bits (suc zero) (suc zero) h k = and_self 1
and_bits (suc zero) (suc (suc y)) h k = absurd (omega arith)
and_bits (suc (suc x)) y h k = absurd (omega arith)

-- of two bits, one turned by the other
pub turned_bits : (i value : ℕ) → i ≤ 1 → value ≤ 1 → bit_xor value i ≡ turned i value
unfolding turned
turned_bits zero value h k = xor_zero_r value
turned_bits (suc zero) zero h k = xor_zero_l 1
turned_bits (suc zero) (suc zero) h k = xor_self 1
turned_bits (suc zero) (suc (suc value)) h k = absurd (omega arith)
turned_bits (suc (suc i)) value h k = absurd (omega arith)

-- false, then the bits of a, then those of b
pub inputs_put : (xs ys zs : List ℕ) (n a b : ℕ) → 0 < length xs → take (1 + n) ys ≡ take 1 (set xs 0 0) ++ listed n (bit a)
    → take (1 + n + n) zs ≡ take (1 + n) ys ++ listed n (bit b) → take (1 + n + n) zs ≡ input_values n a b
unfolding input_values
inputs_put xs ys zs n a b h e f = rw (f, e, take-suc-set xs 0 0 h)

-- the bits below a gate are those that its record reads
pub readable : (v : ℕ) (xs : List ℕ) (r : Record) → v < length xs → Bits v xs → SoundRecord v r → Readable xs r
unfolding Bits
readable v xs r l bits s =
    record { bits = every_variable (λ w. w < v) (BitAt xs) (λ w h. (omega arith, bits w h)) r s.low; byte = s.byte }

-- the value of gate v, behind those of the variables below it
pub gate_put : (c : Counts) (table xs : List ℕ) (v x : ℕ) → v < length xs → SoundRecord v (record_at c table v)
    → x ≡ record_value xs (record_at c table v) → take (v + 1) (set xs v x) ≡ take v xs ++ gate_value c table (take v xs) v ∷ []
unfolding gate_value
gate_put c table xs v x h s e = rw (take_more xs v x h, record_take v xs (record_at c table v) s.low, e)

-- each entry of a list is 0 or 1
abbrev All_bits : List ℕ → Type 0
All_bits xs = (j : ℕ) → get_or xs j 0 ≤ 1

-- a record of such entries is 0 or 1
record_bit : (xs : List ℕ) (r : Record) → All_bits xs → record_value xs r ≤ 1
unfolding record_value bit
record_bit xs (Gate x y) h = times_bit _ _ (literal_bit xs x (h _)) (literal_bit xs y (h _))
record_bit xs (Cell byte x1 x2 x3) h = omega arith

-- with one more
one_more : (xs : List ℕ) (b : ℕ) → All_bits xs → b ≤ 1 → All_bits (xs ++ b ∷ [])
one_more [] b h l zero = l
one_more [] b h l (suc j) = omega arith
one_more (x ∷ xs) b h l zero = h 0
one_more (x ∷ xs) b h l (suc j) = one_more xs b (λ k. h (suc k)) l j

-- with the bits of a number
bits_behind : (n x : ℕ) (xs : List ℕ) → All_bits xs → All_bits (xs ++ listed n (bit x))
unfolding listed bit
bits_behind zero x xs h j = rw append-nil (h j)
bits_behind (suc n) x xs h j =
    let front = xs ++ listed n (bit x) in
    rw (← append_assoc xs (listed n (bit x)) (bit x n ∷ [])) (one_more front (bit x n) (bits_behind n x xs h) (omega arith) j)

module _ (c : Counts) (table : List ℕ) (a b : ℕ) where
  -- every value of a variable is 0 or 1
  values_bit : (k : ℕ) → All_bits (values_to c table a b k)
  unfolding values_to input_values gate_value
  values_bit zero =
      let first = bits_behind (width c) a (0 ∷ []) (one_more [] 0 (λ j. omega arith) (omega arith)) in
      bits_behind (width c) b ((0 ∷ []) ++ listed (width c) (bit a)) first
  values_bit (suc k) =
      let xs = values_to c table a b k in
      let h = values_bit k in
      one_more xs _ h (record_bit xs (record_at c table (gate c k)) h)

  -- so is each entry of a list that begins with the values
  pub bits_filled : (xs : List ℕ) (k n : ℕ) → take n xs ≡ values_to c table a b k → Bits n xs
  unfolding Bits
  bits_filled xs k n e i h = rw (← get_or-take n xs i 0 h, e) (values_bit k i)

  -- the inputs are the values before the first gate
  pub values_start : (xs : List ℕ) → c.i % 2 ≡ 0 → take (1 + c.i / 2 + c.i / 2) xs ≡ input_values (c.i / 2) a b
      → take (c.i + 1 + 0) xs ≡ values_to c table a b 0
  unfolding values_to width
  values_start xs h e =
      let n : c.i + 1 + 0 ≡ 1 + c.i / 2 + c.i / 2 = omega arith in
      rw n e

  -- the values with one gate more
  pub values_more : (old new : List ℕ) (k : ℕ) → take (c.i + 1 + k) old ≡ values_to c table a b k
      → take (c.i + 1 + k + 1) new ≡ take (c.i + 1 + k) old ++ gate_value c table (take (c.i + 1 + k) old) (c.i + 1 + k) ∷ []
      → take (c.i + 1 + (k + 1)) new ≡ values_to c table a b (k + 1)
  unfolding values_to gate
  values_more old new k e f = rw (← add_assoc (c.i + 1) k 1, f, e, add-one k)

  -- the values with the last gate are those of all variables
  pub values_end : (xs : List ℕ) (k : ℕ) → Facts c table → k ≡ c.a → take (c.i + 1 + k) xs ≡ values_to c table a b k
      → take (c.m + 1) xs ≡ values c table a b
  unfolding values
  values_end xs k f l e =
      let n : c.m + 1 ≡ c.i + 1 + c.a = omega arith in
      rw n (rw l at e)

  -- the word that is shown, from a list that begins with the values
  pub shown_filled : (xs : List ℕ) → Sound c table → take (c.m + 1) xs ≡ values c table a b
      → sum c.o (λ i. 2 ^ i * literal_value xs (output table i)) ≡ shown c table a b
  unfolding shown
  shown_filled xs s e = sum_same c.o _ _ (λ i l. ap (λ (y : ℕ). 2 ^ i * y) (same i l))
    where
      same : (i : ℕ) → i < c.o → literal_value xs (output table i) ≡ literal_value (values c table a b) (output table i)
      same i l =
          let w = output_within s i l in
          sym (literal_take (c.m + 1) xs (output table i) (omega arith)) ∙ rw e

-- how the values are filled in, gate by gate
pub ruleset filling = (facts, bits_filled, values_start, values_more, values_end)
