-- How many terms there are before gathering, and that gathering makes no more of them.
use mathlib.Core.Path.{◌≡◌}
use mathlib.Core.Bool.{Bool, true, false}
use mathlib.Core.List.{[], ◌∷◌}
use Prim.Native.Nat.{ℕ, zero, suc, ◌+◌, ◌-◌, ◌*◌, ◌%◌, ◌^◌, ◌<◌, ◌≤◌}
use native.Mathlib.Nat.{mul-add}
use native.Mathlib.Omega.{arith}
use lib.Dec.{ltb, eqb}
use lib.ListN.{length, length-append}
use Rattle.rules.specs.Occurrences.{occurring}
use Rattle.rules.specs.Polynomial.{Term, Polynomial, keep, place, insert, gather}
use Rattle.rules.specs.Steps.{where_held, times_record, replaced, all_replaced}
use Rattle.rules.specs.Values.{bit}
use Rattle.rules.specs.declared.records.Record.{Record}
use Rattle.rules.proofs.Bits.{bit_digit, digit_cases}
use Rattle.rules.proofs.Occurring.{counts_bit, occurring_most}

-- a term kept is one more at most
length_keep : (c s : ℕ) (p : Polynomial) → length (keep c s p) ≤ suc (length p)
unfolding keep
length_keep zero s p = omega arith
length_keep (suc c) s p = omega arith

-- one term put in is one more at most
length_place : (m c s : ℕ) (t : Term) (p lower : Polynomial) (same less : Bool) → length lower ≤ suc (length p)
    → length (place m c s t p lower same less) ≤ suc (suc (length p))
unfolding place
length_place m c s t p lower true less h = omega (arith, length_keep ((c + t.0) % m) s p)
length_place m c s t p lower false true h = omega arith
length_place m c s t p lower false false h = length_keep (c % m) s (t ∷ p)

length_insert : (m c s : ℕ) (p : Polynomial) → length (insert m c s p) ≤ suc (length p)
unfolding insert
length_insert m c s [] = length_keep (c % m) s []
length_insert m c s (t ∷ p) = length_place m c s t p (insert m c s p) (eqb s t.1) (ltb s t.1) (length_insert m c s p)

-- gathering makes no more terms
pub length_gather : (m : ℕ) (p : Polynomial) → length (gather m p) ≤ length p
unfolding gather
length_gather m [] = omega arith
length_gather m (t ∷ p) = omega (arith, length_insert m t.0 t.1 (gather m p), length_gather m p)

module _ (m v : ℕ) (r : Record) (n : ℕ) (each : (t : Term) → n ≡ length (times_record m r t)) (l : 0 < v) where
  -- of a term that holds v as many as its record makes of one, of any other itself
  length_replaced : (t : Term) → length (replaced m v r t) ≡ 1 - bit t.1 v + n * bit t.1 v
  unfolding replaced where_held
  length_replaced t =
      digit_cases (λ d. length (where_held d (t ∷ []) (times_record m r (t.0, t.1 - 2 ^ v))) ≡ 1 - d + n * d)
      (omega arith)
      (omega (arith, each (t.0, t.1 - 2 ^ v)))
      (bit t.1 v)
      (bit_digit t.1 v)

  -- the terms that do not hold v, and as many as its record makes of each that does
  pub length_all_replaced : (p : Polynomial) → length (all_replaced m v r p) ≡ length p - occurring p v + n * occurring p v
  unfolding all_replaced occurring
  length_all_replaced [] = omega arith
  length_all_replaced (t ∷ p) =
      simp length-append
      (rw (counts_bit t.1 v l, mul-add n (bit t.1 v) (occurring p v))
      (omega (arith, length_replaced t, bit_digit t.1 v, length_all_replaced p, occurring_most v p)))
