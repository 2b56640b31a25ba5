-- The digits that a text begins with, and the number that they write.
use mathlib.Core.Path.{◌≡◌, refl}
use mathlib.Core.Bool.{Bool, true, false, cond}
use mathlib.Core.List.{List, [], ◌∷◌}
use Prim.Native.Nat.{ℕ, suc, ◌+◌, ◌-◌, ◌*◌, ◌^◌, ◌<◌, ◌≤◌}
use native.Mathlib.Nat.{add-zero, pow-succ'}
use native.Mathlib.Numerals.{add-one}
use native.Mathlib.Omega.{arith}
use lib.ListN.{length, get_or, drop, drop_of_length-le}
use lib.Seq.{drop-cons}
use borrow.Author.Tests.{le-leb, lt-leb}
use Rattle.std.proofs.Common.{Some, None}
use Rattle.std.proofs.lemmas.Bool.Decides.{nat_tests}
use Rattle.std.proofs.lemmas.List.{take_rest}
use Rattle.rules.specs.Reading.{Scan, found, missing, with_numbers, and_then, behind, field, digit, leading_digits, value_from, well_written}
use Rattle.lines.specs.Found.{digits_of, number_of}

-- a digit stands before the others
pub digits_more : (text : List ℕ) (at : ℕ) → at < length text → digit (get_or text at 0) ≡ true
    → leading_digits (drop at text) ≡ get_or text at 0 ∷ leading_digits (drop (at + 1) text)
unfolding leading_digits
digits_more text at h d = rw (drop-cons text at 0 h, d, add-one)

-- so many digits were passed, at most four, and their value so far
pub record Passed (text : List ℕ) (value count : ℕ) : Type 0 where
  pub few : count ≤ 4
  pub small : value < 10 ^ count
  pub same_value : value_from value (leading_digits (drop count text)) ≡ value_from 0 (leading_digits text)
  pub same_end : count + length (leading_digits (drop count text)) ≡ length (leading_digits text)

-- none were passed at the start
pub passed_none : (text : List ℕ) → Passed text 0 0
passed_none text = record { few = omega arith; small = omega arith; same_value = refl; same_end = omega arith }

module _ (text : List ℕ) (value count : ℕ) (passed : Passed text value count) where
  -- no more digits: this is the number
  passed_all : leading_digits (drop count text) ≡ [] → Some (value, count) ≡ digits_of text
  unfolding digits_of value_from
  passed_all e =
      let end = rw e at passed.same_end in
      let same = rw e at passed.same_value in
      rw (le-leb (length (leading_digits text)) 4 (omega arith), ← same, ← end, add-zero)

  -- nothing is left
  pub passed_end : length text ≤ count → Some (value, count) ≡ digits_of text
  unfolding leading_digits
  passed_end h = passed_all (rw (drop_of_length-le text h))

  module _ (here : count < length text) where
    -- a byte that is no digit
    pub passed_stop : digit (get_or text count 0) ≡ false → Some (value, count) ≡ digits_of text
    unfolding leading_digits
    passed_stop d = passed_all (rw (drop-cons text count 0 here, d))

    module _ (d : digit (get_or text count 0) ≡ true) where
      -- a fifth digit
      pub passed_many : count ≡ 4 → None ≡ digits_of text
      unfolding digits_of
      passed_many e =
          let end = rw (digits_more text count here d) at passed.same_end in
          rw (lt-leb (length (leading_digits text)) 4 (omega arith))

      -- one more digit
      pub passed_more : (x : ℕ) → (count ≡ 4 → ⊥) → x ≡ get_or text count 0 - 48 → Passed text (10 * value + x) (count + 1)
      unfolding value_from digit
      passed_more x e f =
          let more = digits_more text count here d in
          let end = rw more at passed.same_end in
          record {
            few = omega arith;
            small = rw (add-one, pow-succ') (grind (arith, nat_tests));
            same_value = rw f (rw more at passed.same_value);
            same_end = omega arith;
          }

-- where the reading of digits ends
pub ruleset passed = (passed_end, passed_stop, passed_many)

-- the first of some leading digits is the first byte
first_digit : (text : List ℕ) → 1 ≤ length (leading_digits text) → get_or (leading_digits text) 0 0 ≡ get_or text 0 0
unfolding leading_digits
first_digit [] h = absurd (omega arith)
first_digit (x ∷ text) h = go (digit x) h
  where
    go : (b : Bool) → 1 ≤ length (cond b (x ∷ leading_digits text) []) → get_or (cond b (x ∷ leading_digits text) []) 0 0 ≡ x
    go true h = refl
    go false h = absurd (omega arith)

-- no more digits than bytes
digits_within : (text : List ℕ) → length (leading_digits text) ≤ length text
unfolding leading_digits
digits_within [] = omega arith
digits_within (x ∷ text) = go (digit x) (digits_within text)
  where
    go : (b : Bool) → length (leading_digits text) ≤ length text → length (cond b (x ∷ leading_digits text) []) ≤ suc (length text)
    go true h = omega arith
    go false h = omega arith

-- more than four digits are no number
pub number_many : (text : List ℕ) → None ≡ digits_of text → number_of text ≡ missing
unfolding digits_of number_of well_written
number_many text h = grind (arith, nat_tests)

module _ (text : List ℕ) (value count : ℕ) (read : Some (value, count) ≡ digits_of text) where
  -- the digits stand in the text
  pub count_within : count ≤ length text
  unfolding digits_of
  count_within = grind (arith, nat_tests, digits_within)

  -- none are no number
  pub number_none : count ≡ 0 → number_of text ≡ missing
  unfolding digits_of number_of well_written
  number_none none = grind (arith, nat_tests)

  -- one is a number, whichever it is
  pub number_one : count ≡ 1 → number_of text ≡ found (value ∷ []) (drop count text)
  unfolding digits_of number_of well_written
  number_one one = grind (arith, nat_tests)

  module _ (some : 1 < count) where
    -- a zero in front of others is none
    pub number_zero : get_or text 0 0 ≡ 48 → number_of text ≡ missing
    unfolding digits_of number_of well_written
    number_zero zero = grind (arith, nat_tests, first_digit)

    -- no zero in front
    pub number_more : (get_or text 0 0 ≡ 48 → ⊥) → number_of text ≡ found (value ∷ []) (drop count text)
    unfolding digits_of number_of well_written
    number_more first = grind (arith, nat_tests, first_digit)

-- what a number is, by what its digits are
pub ruleset numbers = (take_rest, number_many, count_within, number_none, number_one, number_zero, number_more)

-- a field: the number, and the byte behind it
pub field_of : (end : ℕ) (text : List ℕ) → field end text ≡ and_then (number_of text) (behind end)
unfolding field and_then number_of
field_of end text = go (well_written (leading_digits text)) _ _ (behind end)
  where
    go : (b : Bool) (numbers rest : List ℕ) (next : List ℕ → Scan) → cond b (with_numbers numbers (next rest)) missing ≡ and_then (cond b (found numbers rest) missing) next
    go true numbers rest next = refl
    go false numbers rest next = refl
