-- The polynomials of a run, one after the other, and the records of its steps.
use mathlib.Core.Path.{◌≡◌, refl, ap}
use mathlib.Core.List.{List, [], ◌∷◌}
use Prim.Native.Nat.{ℕ, zero, suc, ◌<◌, ◌≤◌}
use native.Mathlib.Omega.{arith}
use lib.ListN.{length, get_or}
use Rattle.rules.specs.Product.{Kind}
use Rattle.rules.specs.Polynomial.{Polynomial}
use Rattle.rules.specs.Steps.{made, step, trail, run}
use Rattle.rules.specs.Judging.{records}
use Rattle.rules.specs.declared.answers.StepRecord.{StepRecord}
use Rattle.rules.specs.declared.counts.Counts.{Counts}

-- there is one polynomial more than there are steps
pub length_trail : (m : ℕ) (c : Counts) (table : List ℕ) (p : Polynomial) (order : List ℕ) → length (trail m c table p order) ≡ suc (length order)
unfolding trail
length_trail m c table p [] = refl
length_trail m c table p (v ∷ order) = ap suc (length_trail m c table (step m c table v p) order)

pub length_run : (kind : Kind) (c : Counts) (table order : List ℕ) → length (run kind c table order) ≡ suc (length order)
unfolding run
length_run kind c table order = length_trail _ c table _ order

-- what holds after no step, and is kept by each step from its place to the next, holds after any number of steps
pub trail_keeps : (P : ℕ → Polynomial → Type 0) (m : ℕ) (c : Counts) (table order : List ℕ)
    → ((j : ℕ) → j < length order → (p : Polynomial) → P j p → P (suc j) (step m c table (get_or order j 0) p))
    → (p : Polynomial) → P 0 p → (k : ℕ) → k ≤ length order → P k (get_or (trail m c table p order) k [])
unfolding trail
trail_keeps P m c table [] keeps p h zero l = h
trail_keeps P m c table [] keeps p h (suc k) l = absurd (omega arith)
trail_keeps P m c table (v ∷ order) keeps p h zero l = h
trail_keeps P m c table (v ∷ order) keeps p h (suc k) l =
    trail_keeps (λ j. P (suc j)) m c table order (λ j b. keeps (suc j) (omega arith)) (step m c table v p) (keeps 0 (omega arith) p h) k (omega arith)

module _ (m : ℕ) (c : Counts) (table : List ℕ) where
  -- a trail begins with its polynomial
  pub trail_first : (p : Polynomial) (order : List ℕ) → get_or (trail m c table p order) 0 [] ≡ p
  unfolding trail
  trail_first p [] = refl
  trail_first p (v ∷ order) = refl

  -- each polynomial of a trail is a step from the one before it
  pub trail_next : (order : List ℕ) (p : Polynomial) (k : ℕ) → k < length order
      → get_or (trail m c table p order) (suc k) [] ≡ step m c table (get_or order k 0) (get_or (trail m c table p order) k [])
  unfolding trail
  trail_next [] p k h = absurd (omega arith)
  trail_next (v ∷ order) p zero h = trail_first (step m c table v p) order
  trail_next (v ∷ order) p (suc k) h = trail_next order (step m c table v p) k (omega arith)

  -- a record of each step
  pub length_records : (order : List ℕ) (list : List Polynomial) → length order < length list → length (records m c table order list) ≡ length order
  unfolding records
  length_records [] list h = refl
  length_records (v ∷ order) [] h = absurd (omega arith)
  length_records (v ∷ order) (p ∷ []) h = absurd (omega arith)
  length_records (v ∷ order) (p ∷ q ∷ list) h = ap suc (length_records order (q ∷ list) (omega arith))

  -- that of step k has its gate, the terms after it and those before gathering
  pub records_at : (order : List ℕ) (list : List Polynomial) (k : ℕ) (none : StepRecord) → k < length order → length order < length list
      → get_or (records m c table order list) k none
      ≡ record { gate = get_or order k 0; terms = length (get_or list (suc k) []); made = made m c table (get_or order k 0) (get_or list k []) }
  unfolding records
  records_at [] list k none h l = absurd (omega arith)
  records_at (v ∷ order) [] k none h l = absurd (omega arith)
  records_at (v ∷ order) (p ∷ []) k none h l = absurd (omega arith)
  records_at (v ∷ order) (p ∷ q ∷ list) zero none h l = refl
  records_at (v ∷ order) (p ∷ q ∷ list) (suc k) none h l = records_at order (q ∷ list) k none (omega arith) (omega arith)
