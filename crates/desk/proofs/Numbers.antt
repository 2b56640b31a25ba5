-- Numbers written in decimal: digit by digit, and each behind a space.
use mathlib.Core.Path.{◌≡◌, refl}
use mathlib.Core.List.{List, [], ◌∷◌, ◌++◌, append_assoc, append-nil}
use Prim.Native.Nat.{ℕ, ◌+◌, ◌/◌, ◌%◌, ◌<◌, ◌≤◌}
use native.Mathlib.Numerals.{add-one}
use lib.ListN.{length, take, get_or, set}
use lib.Seq.{take-suc}
use Rattle.rules.specs.Text.{space, decimal}
use Rattle.rules.specs.Desk.{spaced}
use Rattle.desk.specs.Written.{Written}
use Rattle.demands.proofs.Digits.{decimal_one, decimal_more}
use Rattle.desk.proofs.Written.{written_none, written_one, written_joined}

-- a number below 10 is written as one byte
pub written_digit : (list : List ℕ) (at x : ℕ) → x < 10 → at < length list → Written list at (decimal x) (set list at (48 + x)) (at + 1)
written_digit list at x l h = rw (decimal_one x l) (written_one list at (48 + x) h)

-- any other number is written as one byte behind its tens
pub written_tens : (before list : List ℕ) (at middle x : ℕ) → 10 ≤ x → at ≤ length before → middle < length list
    → Written before at (decimal (x / 10)) list middle → Written before at (decimal x) (set list middle (48 + x % 10)) (middle + 1)
written_tens before list at middle x l b h w =
    rw (decimal_more x l) (written_joined before list _ (decimal (x / 10)) _ at middle _ b w (written_one list middle (48 + x % 10) h))

-- numbers, one part behind the other
spaced_append : (a b : List ℕ) → spaced (a ++ b) ≡ spaced a ++ spaced b
unfolding spaced
spaced_append [] b = refl
spaced_append (x ∷ a) b = rw (spaced_append a b, append_assoc)

-- before the first number
pub spaced_none : (list : List ℕ) (at : ℕ) → Written list at (spaced []) list at
unfolding spaced
spaced_none list at = written_none list at

-- one number more
pub spaced_more : (before between after numbers : List ℕ) (at middle r k : ℕ) → at ≤ length before → k < length numbers
    → Written before at (spaced (take k numbers)) between middle → Written between middle (space ∷ decimal (get_or numbers k 0)) after r
    → Written before at (spaced (take (k + 1) numbers)) after r
unfolding spaced
spaced_more before between after numbers at middle r k h l f s =
    let next : spaced (take (k + 1) numbers) ≡ spaced (take k numbers) ++ space ∷ decimal (get_or numbers k 0) =
    rw (add-one, take-suc numbers k 0 l, spaced_append (take k numbers) (get_or numbers k 0 ∷ []), append-nil) in
    rw next (written_joined before between after _ _ at middle r h f s)
