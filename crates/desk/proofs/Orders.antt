-- The order M down to I + 1, written entry by entry.
use mathlib.Core.Path.{◌≡◌, sym, ◌∙◌}
use mathlib.Core.List.{List, [], ◌∷◌, ◌++◌}
use Prim.Native.Nat.{ℕ, ◌+◌, ◌-◌, ◌<◌}
use native.Mathlib.Nat.{zero-add}
use native.Mathlib.Numerals.{add-one}
use native.Mathlib.Omega.{arith}
use lib.ListN.{length, take, set}
use lib.Seq.{take_at}
use Rattle.rules.specs.Each.{listed}
use Rattle.rules.specs.Desk.{falling}
use Rattle.rules.specs.declared.counts.Counts.{Counts}
use Rattle.rules.proofs.Indices.{length_listed}
use Rattle.desk.specs.Written.{Written}
use Rattle.desk.proofs.Written.{written_none, written_one, written_joined}

-- before the first entry
pub falling_none : (list : List ℕ) (top : ℕ) → Written list 0 (listed 0 (λ k. top - k)) list 0
unfolding listed
falling_none list top = written_none list 0

-- one entry more
pub falling_more : (before list : List ℕ) (top k gate : ℕ) → k < length list → gate ≡ top - k
    → Written before 0 (listed k (λ j. top - j)) list k → Written before 0 (listed (k + 1) (λ j. top - j)) (set list k gate) (k + 1)
unfolding listed
falling_more before list top k gate h e w =
    let next : listed (k + 1) (λ j. top - j) ≡ listed k (λ j. top - j) ++ (top - k) ∷ [] = rw add-one in
    rw (e, next) (written_joined before list _ _ _ 0 k _ (omega arith) w (written_one list k (top - k) h))

-- the order is as long as there are gates, and it is the front of the slice
pub falling_front : (c : Counts) (before after : List ℕ) (r : ℕ) → Written before 0 (falling c) after r → (r ≡ c.a) × (take r after ≡ falling c)
unfolding falling
falling_front c before after r w =
    let count : length (falling c) ≡ r = sym (w.end ∙ zero-add (length (falling c))) in
    (sym count ∙ length_listed c.a (λ k. c.m - k), rw w.all (take_at (falling c) _ r count))
