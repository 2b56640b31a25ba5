-- Operands as one number, as the evaluator's two words, and as the set of the variables that are 1 there.
use mathlib.Core.Path.{◌≡◌, refl, ap, sym, ◌∙◌}
use mathlib.Core.Bool.{Bool, true, false}
use mathlib.Core.List.{List}
use mathlib.Core.Logic.{inl, inr}
use Prim.Native.Nat.{ℕ, suc, ◌+◌, ◌*◌, ◌/◌, ◌%◌, ◌^◌, ◌<◌}
use native.Mathlib.Nat.{add_assoc, add-zero, mul-add, mul_assoc, mul_comm, mul-zero, zero-add, pow-succ', mod-lt, mod-add-div, div-div-eq-div-mul}
use native.Mathlib.Omega.{arith}
use lib.Arith.{digits_lt, lt-one}
use lib.Count.{ones, ones_step, ones_cat}
use lib.ListN.{get_or}
use lib.Pow.{pow_pos, pow-add, shr_lt}
use Rattle.rules.specs.Values.{width, bit}
use Rattle.rules.specs.Product.{Kind, adds, operand_width, addend_width, operand_a, operand_b, operand_c, first_word, second_word}
use Rattle.rules.specs.declared.counts.Counts.{Counts}
use Rattle.rules.proofs.Bits.{bit_first, bit_next, bit_low, bit_high}
use Rattle.rules.proofs.Places.{Fits}
use Rattle.demands.specs.Answers.{together, Before}
use Rattle.demands.specs.Polynomials.{values_for}
use Rattle.demands.proofs.Absent.{Lacks}
use Rattle.demands.proofs.Pairs.{pair_set, input_bit}
use Rattle.demands.proofs.Soonest.{Earlier}

-- the set of the variables that are 1 for the operands
abbrev pub operand_set : ℕ → ℕ → ℕ → ℕ → ℕ
operand_set n a b c = 2 * together n a b c

-- 2^(2n) is the square of 2^n
power_twice : (n : ℕ) → 2 ^ (2 * n) ≡ 2 ^ n * 2 ^ n
power_twice n = ap (λ (k : ℕ). 2 ^ k) (omega arith) ∙ pow-add 2 n n

-- a below b and c
nested : (n a b c : ℕ) → together n a b c ≡ a + 2 ^ n * (b + 2 ^ n * c)
nested n a b c = rw (power_twice n, mul-add, mul_assoc, add_assoc)

module _ (n a b c : ℕ) (h : a < 2 ^ n) (k : b < 2 ^ n) where
  -- the set has as many variables as the operands have 1 bits
  set_ones : ones (operand_set n a b c) ≡ ones a + ones b + ones c
  set_ones =
      let low : operand_set n a b c % 2 ≡ 0 = omega arith in
      let half : operand_set n a b c / 2 ≡ (c * 2 ^ n + b) * 2 ^ n + a =
      omega (arith, nested n a b c, mul_comm (c * 2 ^ n + b) (2 ^ n), mul_comm c (2 ^ n)) in
      rw (ones_step, low, half, zero-add, ones_cat n (c * 2 ^ n + b) a h, ones_cat n c b k) (omega arith)

  -- the bits of a, of b and of c in it
  set_first : (i : ℕ) → i < n → bit (operand_set n a b c) (1 + i) ≡ bit a i
  set_first i l =
      let half : operand_set n a b c / 2 ≡ together n a b c = omega arith in
      let place : 1 + i ≡ suc i = omega arith in
      rw place (bit_next (operand_set n a b c) i ∙ rw (half, nested n a b c) (bit_low n a (b + 2 ^ n * c) i l))

  set_second : (j : ℕ) → j < n → bit (operand_set n a b c) (n + 1 + j) ≡ bit b j
  set_second j l =
      let half : operand_set n a b c / 2 ≡ together n a b c = omega arith in
      let place : n + 1 + j ≡ suc (n + j) = omega arith in
      rw place
      (bit_next (operand_set n a b c) (n + j) ∙ rw (half, nested n a b c) (bit_high n a (b + 2 ^ n * c) j h ∙ bit_low n b c j l))

  set_third : (i : ℕ) → bit (operand_set n a b c) (2 * n + 1 + i) ≡ bit c i
  set_third i =
      let half : operand_set n a b c / 2 ≡ together n a b c = omega arith in
      let place : 2 * n + 1 + i ≡ suc (n + (n + i)) = omega arith in
      rw place
      (bit_next (operand_set n a b c) (n + (n + i))
      ∙ rw (half, nested n a b c) (bit_high n a (b + 2 ^ n * c) (n + i) h ∙ bit_high n b c i k))

-- operands that come before have the set that comes before
pub set_earlier : (n a b c d e f : ℕ) → a < 2 ^ n → b < 2 ^ n → d < 2 ^ n → e < 2 ^ n
    → Before n a b c d e f → Earlier (operand_set n a b c) (operand_set n d e f)
set_earlier n a b c d e f h k i j (inl fewer) = inl (rw (set_ones n a b c h k, set_ones n d e f i j) fewer)
set_earlier n a b c d e f h k i j (inr less) = inr (rw (set_ones n a b c h k, set_ones n d e f i j) less.0, omega (arith, less.1))

module _ (kind : Kind) (c : Counts) (fit : Fits kind c) where
  -- n, the bits of a and of b
  abbrev n : ℕ
  n = operand_width kind c

  -- the operands that are named for a set have their bits, and the set is their own
  pub record OperandsOf (s : ℕ) : Type 0 where
    pub first : operand_a n s < 2 ^ n
    pub second : operand_b n s < 2 ^ n
    pub third : operand_c n s < 2 ^ addend_width kind n
    pub set : operand_set n (operand_a n s) (operand_b n s) (operand_c n s) ≡ s

  -- so it is for every set of input variables
  pub operands_of : (s : ℕ) → Lacks 0 s → s < 2 ^ suc c.i → OperandsOf s
  unfolding operand_a operand_b operand_c
  operands_of s even below =
      let half = s / 2 in
      let inputs : addend_width kind n + 2 * n ≡ c.i = omega (arith, fit.inputs) in
      let top : half / 2 ^ n / 2 ^ n ≡ half / 2 ^ (2 * n) = rw (div-div-eq-div-mul, power_twice n) in
      record {
        first = mod-lt half (pow_pos n);
        second = mod-lt (half / 2 ^ n) (pow_pos n);
        third = shr_lt (addend_width kind n) (2 * n) (rw inputs (omega (arith, pow-succ' 2 c.i)));
        set =
            rw (nested n (half % 2 ^ n) (half / 2 ^ n % 2 ^ n) (half / 2 ^ (2 * n)), ← top, mod-add-div (half / 2 ^ n) (2 ^ n), mod-add-div half (2 ^ n))
            (omega (arith, sym (bit_first s) ∙ even));
      }

  module _ (a b addend : ℕ) (h : a < 2 ^ n) (k : b < 2 ^ n) (l : addend < 2 ^ addend_width kind n) where
    -- the evaluator's two words
    abbrev x : ℕ
    x = first_word kind n a b

    abbrev y : ℕ
    y = second_word kind b addend

    -- they hold the inputs, and their set is that of the operands
    pub record TwoWords : Type 0 where
      pub inputs : width c + width c ≡ c.i
      pub first : x < 2 ^ width c
      pub second : y < 2 ^ width c
      pub set : pair_set (width c) x y ≡ operand_set n a b addend

    -- so it is for every kind: with c the first word has a and b, and without it c is 0
    pub two_words : TwoWords
    unfolding first_word second_word addend_width width
    two_words = go (adds kind) refl
      where
        go : (t : Bool) → adds kind ≡ t → TwoWords
        go true e =
            let inputs : c.i ≡ n + n + 2 * n = rw e at fit.inputs in
            let bits : c.i / 2 ≡ 2 * n = omega arith in
            record {
              inputs = omega arith;
              first = rw (e, bits, power_twice n) (omega (arith, digits_lt k h, mul_comm b (2 ^ n)));
              second = rw (e, bits) (rw e at l);
              set = rw (e, bits);
            }
        go false e =
            let inputs : c.i ≡ n + n + 0 = rw e at fit.inputs in
            let bits : c.i / 2 ≡ n = omega arith in
            let none : addend ≡ 0 = lt-one (rw e at l) in
            record {
              inputs = omega arith;
              first = rw (e, bits) h;
              second = rw (e, bits) k;
              set = rw (e, bits, none, mul-zero, add-zero);
            }

    module _ (table : List ℕ) where
      -- the value of an input variable is its digit in the operands' set
      value_bit : (v : ℕ) → v < suc c.i → get_or (values_for kind c table a b addend) v 0 ≡ bit (operand_set n a b addend) v
      value_bit v i =
          let words = two_words in
          rw (← words.set) (input_bit c table x y words.first v (rw words.inputs i))

      -- the bits of a, of b and of c
      pub value_first : (i : ℕ) → i < n → get_or (values_for kind c table a b addend) (1 + i) 0 ≡ bit a i
      value_first i m = value_bit (1 + i) (omega (arith, fit.inputs)) ∙ set_first n a b addend h k i m

      pub value_second : (j : ℕ) → j < n → get_or (values_for kind c table a b addend) (n + 1 + j) 0 ≡ bit b j
      value_second j m = value_bit (n + 1 + j) (omega (arith, fit.inputs)) ∙ set_second n a b addend h k j m

      pub value_third : (i : ℕ) → i < addend_width kind n → get_or (values_for kind c table a b addend) (2 * n + 1 + i) 0 ≡ bit addend i
      value_third i m = value_bit (2 * n + 1 + i) (omega (arith, fit.inputs)) ∙ set_third n a b addend h k i
