-- At all operands the start polynomial has the value got - wanted, modulo 2^l.
use mathlib.Core.Path.{◌≡◌, refl, ap, sym, ◌∙◌}
use mathlib.Core.Bool.{Bool, true, false, cond, ◌&&◌}
use mathlib.Core.List.{List, [], ◌∷◌}
use mathlib.Core.Logic.{◌⊎◌, inl, inr}
use Prim.Native.Nat.{ℕ, zero, suc, ◌+◌, ◌-◌, ◌*◌, ◌/◌, ◌%◌, ◌^◌, ◌<◌, ◌≤◌}
use native.Mathlib.Nat.{add_comm, add-zero, mul_comm, mul_left_comm, mul-one, mod-mod, mod-add-mod, mod-eq_of_lt, mod-one, mod-lt, two-pow-succ, pow-le-pow_right, mul-zero, mul-le-mul_left, one-le-pow}
use native.Mathlib.Numerals.{one-add}
use native.Mathlib.Omega.{arith}
use lib.Dec.{leb}
use lib.ListN.{length}
use lib.Pow.{mod-pow-add}
use borrow.Author.Tests.{le-leb, lt-leb}
use Rattle.rules.specs.Each.{sum}
use Rattle.rules.specs.Netlist.{variable, output}
use Rattle.rules.specs.Values.{bit, literal_value, values, shown}
use Rattle.rules.specs.Product.{Kind, complement, operand_width, addend_width, outputs_of, operand, negative, size, modulo, product, wanted_word}
use Rattle.rules.specs.Polynomial.{times_literal}
use Rattle.rules.specs.Steps.{modulus, start_terms, start}
use Rattle.rules.specs.Judging.{shown_for}
use Rattle.rules.specs.declared.counts.Counts.{Counts}
use Rattle.rules.proofs.Bits.{bit_cases}
use Rattle.rules.proofs.Indices.{sum_same}
use Rattle.rules.proofs.Sound.{RightCounts, SoundTable, right_counts, sound_table}
use Rattle.rules.proofs.Places.{Fits, fits}
use Rattle.rules.proofs.Remainders.{same_add, same_cancel, opposite, without, modulo_cond, modulo_mul, sum_mod, sum_factor}
use Rattle.rules.proofs.Weighed.{weighed, weighed_joined, weighed_one}
use Rattle.demands.specs.Polynomials.{set_value, value, plain_outputs, values_for, StartValue}
use Rattle.demands.proofs.Value.{weighed_value, set_value_none, set_value_one, set_value_two, value_gather, value_times_literal}
use Rattle.demands.proofs.Assigned.{literal_digit, values_digits, values_false, values_length}
use Rattle.demands.proofs.Operands.{bit_weight, operand_sum, product_sum, addend_sum, specified_sum, modulus_positive, plain_sum, signed_sum, weighed_start}
use Rattle.demands.proofs.Places.{value_first, value_second, value_third}

-- one bit more of a number's rest
rest_suc : (n x : ℕ) → x % 2 ^ suc n ≡ x % 2 ^ n + 2 ^ n * bit x n
unfolding bit
rest_suc n x = rw (← one-add n) (mod-pow-add x 1 n ∙ rw (mul_comm (x / 2 ^ n % 2) (2 ^ n)) (add_comm _ _))

-- the first bits of a number, each times its power of 2, are its rest
bits_sum : (n x : ℕ) → sum n (λ i. 2 ^ i * bit x i) ≡ x % 2 ^ n
unfolding sum
bits_sum zero x = sym (mod-one x)
bits_sum (suc n) x = rw (bits_sum n x, rest_suc n x)

-- digits, each times its power of 2, stay below the next power
digits_below : (n : ℕ) (digit : ℕ → ℕ) → ((i : ℕ) → i < n → digit i < 2) → sum n (λ i. 2 ^ i * digit i) < 2 ^ n
unfolding sum
digits_below zero digit h = omega arith
digits_below (suc n) digit h =
    let one : digit n ≤ 1 = omega (arith, h n (omega arith)) in
    omega (arith, digits_below n digit (λ i l. h i (omega arith)), mul-le-mul_left (2 ^ n) one, mul-one (2 ^ n), two-pow-succ n)

-- r with m - 1 times p is minus p - r
less_power : (m p r : ℕ) → 0 < m → r ≤ p → (r + (m - 1) * p) % m ≡ modulo m true (p - r)
less_power m p r positive h =
    let whole : r + (m - 1) * p + (p - r) ≡ (m - 1) * p + p = omega arith in
    same_cancel m positive (r + (m - 1) * p) ((m - 1) * (p - r)) (p - r)
    (rw whole (opposite m positive p) ∙ sym (opposite m positive (p - r)))
    ∙ sym (modulo_cond m positive true (p - r))

-- two's complement: a rest r below p and a top digit d that weighs minus p, as the sign and the size of the number
top_digit : (m p r d : ℕ) → 0 < m → r < p → (d ≡ 0) ⊎ (d ≡ 1)
    → (r + (m - 1) * p * d) % m ≡ modulo m (leb p (r + p * d)) (cond (leb p (r + p * d)) (p + p - (r + p * d)) (r + p * d))
unfolding modulo
top_digit m p r d positive h (inl e) = rw (e, mul-zero, mul-zero, add-zero, lt-leb p r h)
top_digit m p r d positive h (inr e) =
    let less : p + p - (r + p) ≡ p - r = omega arith in
    rw (e, mul-one, mul-one, le-leb p (r + p) (omega arith), less) (less_power m p r positive (omega arith))

-- an operand's bits, each with its weight, are the operand as the reading reads it
operand_value : (kind : Kind) (m n x : ℕ) → 0 < m → 0 < n
    → operand_sum (complement kind) m n (bit x) % m ≡ modulo m (negative kind n x) (size kind n x)
unfolding negative size operand modulo
operand_value kind m n x positive h = go (complement kind) n h
  where
    go : (two : Bool) (n : ℕ) → 0 < n
        → operand_sum two m n (bit x) % m
        ≡ modulo m (two && leb (2 ^ (n - 1)) (x % 2 ^ n)) (cond (two && leb (2 ^ (n - 1)) (x % 2 ^ n)) (2 ^ n - x % 2 ^ n) (x % 2 ^ n))
    go false n h = rw (plain_sum m n (bit x), bits_sum n x)
    go true zero h = absurd (omega arith)
    go true (suc k) h =
        let less : suc k - 1 ≡ k = omega arith in
        rw (signed_sum m k (bit x), bits_sum k x, less, rest_suc k x, two-pow-succ k)
        (top_digit m (2 ^ k) (x % 2 ^ k) (bit x k) positive (mod-lt x (one-le-pow k 2 (omega arith))) (bit_cases x k))

module _ (two : Bool) (m n : ℕ) where
  -- equal numbers of the bits have equal sums
  operand_same : (f g : ℕ → ℕ) → ((i : ℕ) → i < n → f i ≡ g i) → operand_sum two m n f ≡ operand_sum two m n g
  unfolding operand_sum
  operand_same f g h = sum_same n _ _ (λ i l. ap (λ (x : ℕ). bit_weight two m n i * x) (h i l))

  -- a factor of the number of every bit
  operand_factor : (k : ℕ) (f : ℕ → ℕ) → operand_sum two m n (λ i. k * f i) ≡ k * operand_sum two m n f
  unfolding operand_sum
  operand_factor k f = sum_same n _ _ (λ i l. mul_left_comm (bit_weight two m n i) k (f i)) ∙ sum_factor n k _

  -- where two bits together have the product of their numbers, two operands have the product of their sums
  product_split : (weight f g : ℕ → ℕ) → ((i j : ℕ) → i < n → j < n → weight (2 ^ (1 + i) + 2 ^ (n + 1 + j)) ≡ f i * g j)
      → product_sum two m n weight ≡ operand_sum two m n f * operand_sum two m n g
  unfolding product_sum
  product_split weight f g h =
      operand_same _ _ (λ i k. operand_same _ _ (λ j l. h i j k l) ∙ operand_factor (f i) g ∙ mul_comm (f i) (operand_sum two m n g))
      ∙ operand_factor (operand_sum two m n g) f ∙ mul_comm (operand_sum two m n g) (operand_sum two m n f)

module _ (c : Counts) (table : List ℕ) (a b : ℕ) (right : RightCounts c) where
  -- an output has its power of 2 times its literal's value
  output_value : (m i x : ℕ) → 2 ^ i ≤ m → variable x ≤ c.m
      → weighed (set_value (values c table a b)) (times_literal m x ((2 ^ i, 0) ∷ [])) % m
      ≡ (2 ^ i * literal_value (values c table a b) x) % m
  output_value m i x h k =
      let all = values c table a b in
      let entries : length all ≡ c.m + 1 = values_length c table a b right in
      sym (ap (λ (y : ℕ). y % m) (weighed_value all (times_literal m x ((2 ^ i, 0) ∷ []))))
      ∙ value_times_literal all m (values_digits c table a b) (values_false c table a b) x ((2 ^ i, 0) ∷ []) (omega arith) (h, tt)
      ∙ rw (weighed_value all ((2 ^ i, 0) ∷ []), weighed_one (set_value all) (2 ^ i) 0, set_value_none all, mul-one, mul_comm)

  -- the outputs have the value of the word that they show
  outputs_value : (m : ℕ) → SoundTable c table → m ≡ 2 ^ c.o
      → weighed (set_value (values c table a b)) (plain_outputs m table c.o) % m ≡ shown c table a b % m
  unfolding plain_outputs shown
  outputs_value m sound e =
      rw (weighed_joined (set_value (values c table a b)) c.o (λ i. times_literal m (output table i) ((2 ^ i, 0) ∷ [])))
      (sum_mod m c.o _ _ (λ i l. output_value m i (output table i) (rw e (pow-le-pow_right (omega arith) (omega arith))) (sound.output_variables i l)))

  -- the word shown has as many bits as there are outputs
  shown_below : (m : ℕ) → m ≡ 2 ^ c.o → shown c table a b < m
  unfolding shown
  shown_below m e = rw e (digits_below c.o _ (λ i l. literal_digit (values c table a b) (output table i) (values_digits c table a b)))

-- the wanted word: the product of the operands' bits, each with its weight, and c
abbrev wanted_sum : Kind → ℕ → ℕ → ℕ → ℕ → ℕ → ℕ
wanted_sum kind m n a b c =
    operand_sum (complement kind) m n (bit a) * operand_sum (complement kind) m n (bit b) + c % 2 ^ addend_width kind n

wanted_value : (kind : Kind) (m n a b c : ℕ) → 0 < n → 0 < m → m ≡ 2 ^ outputs_of kind n → wanted_word kind n a b c ≡ wanted_sum kind m n a b c % m
unfolding wanted_word product operand
wanted_value kind m n a b c some positive e =
    let whole = modulo_mul m positive _ _ _ _ _ _ (operand_value kind m n a positive some) (operand_value kind m n b positive some) in
    rw (← e, ← whole, mod-add-mod)

module _ (kind : Kind) (c : Counts) (table : List ℕ) (right : RightCounts c) (fit : Fits kind c) (a b addend : ℕ)
    (h : a < 2 ^ operand_width kind c) (k : b < 2 ^ operand_width kind c) (l : addend < 2 ^ addend_width kind (operand_width kind c)) where
  -- n, and the values of the variables
  abbrev n : ℕ
  n = operand_width kind c

  abbrev all : List ℕ
  all = values_for kind c table a b addend

  -- two bits together have the product of their values
  two_bits : (i j : ℕ) → i < n → j < n → set_value all (2 ^ (1 + i) + 2 ^ (n + 1 + j)) ≡ bit a i * bit b j
  two_bits i j p q =
      let entries : length all ≡ c.m + 1 = values_length c table _ _ right in
      rw (← value_first kind c fit a b addend h k l table i p, ← value_second kind c fit a b addend h k l table j q)
      (set_value_two all (1 + i) (n + 1 + j) (λ e. omega arith) (omega (arith, fit.inputs, right.variables)) (omega (arith, fit.inputs, right.variables)))

  -- a bit of c has its value
  one_bit : (i : ℕ) → i < addend_width kind n → set_value all (2 ^ (2 * n + 1 + i)) ≡ bit addend i
  one_bit i p =
      let entries : length all ≡ c.m + 1 = values_length c table _ _ right in
      rw (← value_third kind c fit a b addend h k l table i p)
      (set_value_one all (2 * n + 1 + i) (omega (arith, fit.inputs, right.variables)))

  -- the bits of the specification have the value of the wanted word
  specified_value : specified_sum kind c (set_value all) ≡ wanted_sum kind (modulus kind c) n a b addend
  unfolding addend_sum
  specified_value =
      rw (
        product_split (complement kind) (modulus kind c) n (set_value all) (bit a) (bit b) two_bits,
        sum_same (addend_width kind n) _ _ (λ i p. ap (λ (x : ℕ). 2 ^ i * x) (one_bit i p)),
        bits_sum (addend_width kind n) addend,
      )

-- the start polynomial has the value got - wanted
pub start_value : StartValue
unfolding start modulus shown_for
start_value kind c table right sound same a b addend h k l =
    same_add m (value (all kind c table counts fit a b addend h k l) (start kind c table)) (shows + (m - 1) * x) (wanted_word kind (operand_width kind c) a b addend) x got wanted
    ∙ without m (modulus_positive kind c) shows x
    ∙ mod-eq_of_lt (shown_below c table _ _ counts m power)
  where
    m : ℕ
    m = modulus kind c

    counts : RightCounts c
    counts = right_counts c right

    fit : Fits kind c
    fit = fits kind c right same

    power : m ≡ 2 ^ c.o
    power = ap (λ (l : ℕ). 2 ^ l) (sym fit.outputs)

    shows : ℕ
    shows = shown_for kind c table a b addend

    x : ℕ
    x = wanted_sum kind m (operand_width kind c) a b addend

    wanted : wanted_word kind (operand_width kind c) a b addend % m ≡ x % m
    wanted = rw (wanted_value kind m (operand_width kind c) a b addend fit.some (modulus_positive kind c) refl, mod-mod)

    got : value (all kind c table counts fit a b addend h k l) (start kind c table) % m ≡ (shows + (m - 1) * x) % m
    got =
        let values = all kind c table counts fit a b addend h k l in
        value_gather values m (start_terms kind c table)
        ∙ ap (λ (y : ℕ). y % m) (weighed_value values (start_terms kind c table))
        ∙ weighed_start kind c table (set_value values)
        ∙ rw (specified_value kind c table counts fit a b addend h k l)
        (same_add m _ _ _ _ (outputs_value c table _ _ counts m (sound_table c table sound) power) refl)
