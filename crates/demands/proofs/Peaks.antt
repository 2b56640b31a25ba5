-- The log tells the peak of each step.
use mathlib.Core.Path.{◌≡◌, refl, ap, ◌∙◌}
use mathlib.Core.Logic.{⊎_elim}
use mathlib.Core.List.{List}
use Prim.Native.Nat.{ℕ, zero, suc, pred, ◌*◌, ◌<◌, ◌≤◌}
use native.Mathlib.Omega.{arith}
use lib.ListN.{length, get_or, take, drop, get_or-append}
use lib.Seq.{get_or-take, length-take-le}
use Rattle.rules.specs.Netlist.{record_at}
use Rattle.rules.specs.Product.{kind_of}
use Rattle.rules.specs.Values.{bit}
use Rattle.rules.specs.Steps.{modulus, made, step, run, after}
use Rattle.rules.specs.Judging.{Inputs, most_made, roomy, completed, over, kept_or, polynomials, recorded, log_after}
use Rattle.rules.specs.declared.answers.StepRecord.{StepRecord}
use Rattle.rules.proofs.Bits.{bit_cases}
use Rattle.rules.proofs.Counted.{length_gather}
use Rattle.rules.proofs.Trails.{length_run, trail_next, length_records, records_at}
use Rattle.demands.specs.Answers.{Occurs, following}
use Rattle.demands.specs.Peaks.{raw, Peak, PeakExact}
use Rattle.demands.proofs.Idle.{terms_made, replaced_nowhere}
use Rattle.demands.proofs.TermLimit.{roomy_le}

-- one less than at most one more
less_one : (n k : ℕ) → n ≤ suc k → pred n ≤ k
less_one zero k h = omega arith
less_one (suc n) k h = omega arith

-- the steps completed are no more than the order has
completed_most : (x : Inputs) → completed x.limit (polynomials x) ≤ length x.order
unfolding completed polynomials
completed_most x =
    let list = run (kind_of x.kind) x.counts x.table x.order in
    less_one (roomy x.limit list) (length x.order)
    (omega (arith, roomy_le x.limit list, length_run (kind_of x.kind) x.counts x.table x.order))

-- records written over a log stand there
over_at : (n : ℕ) (new old : List StepRecord) (k : ℕ) (none : StepRecord) → k < n → n ≤ length new → get_or (over n new old) k none ≡ get_or new k none
unfolding over
over_at n new old k none l h =
    get_or-append (take n new) (drop n old) none k (rw (length-take-le n new h) l) ∙ get_or-take n new k none l

module _ (x : Inputs) (k : ℕ) (h : k < length x.order) where
  -- the modulus of the run, its gate here, and the polynomials before and after the step
  abbrev m : ℕ
  m = modulus (kind_of x.kind) x.counts

  abbrev v : ℕ
  v = get_or x.order k 0

  -- the step leads to the next polynomial
  next : following x (suc k) ≡ step m x.counts x.table v (following x k)
  unfolding after run
  next = trail_next m x.counts x.table x.order _ k h

  -- no terms are more than those before gathering
  next_least : length (following x (suc k)) ≤ length (raw x k)
  unfolding step
  next_least = rw next (length_gather m (raw x k))

  -- at most four or eight of each
  next_most : length (raw x k) ≤ most_made x.counts.records * length (following x k)
  unfolding made
  next_most = terms_made m x.counts x.table v (following x k)

  -- where the gate does not occur, the terms are those before the step
  next_idle : (Occurs v (following x k) → ⊥) → length (raw x k) ≡ length (following x k)
  next_idle gone =
      let lacks : (i : ℕ) → i < length (following x k) → bit (get_or (following x k) i (0, 0)).1 v ≡ 0 =
      λ i l. ⊎_elim (λ (e : bit (get_or (following x k) i (0, 0)).1 v ≡ 0). e)
      (λ (e : bit (get_or (following x k) i (0, 0)).1 v ≡ 1). absurd (gone (i, l, e)))
      (bit_cases (get_or (following x k) i (0, 0)).1 v) in
      ap length (replaced_nowhere m v (record_at x.counts x.table v) (following x k) lacks)

  -- the record of the run has all this
  peak : (none : StepRecord) → Peak x k (get_or (recorded x) k none)
  unfolding recorded polynomials made after
  peak none =
      let list = run (kind_of x.kind) x.counts x.table x.order in
      let long : length x.order < length list = omega (arith, length_run (kind_of x.kind) x.counts x.table x.order) in
      rw (records_at m x.counts x.table x.order list k none h long)
      (record { gate = refl; terms = refl; all = refl; least = next_least; most = next_most; idle = next_idle })

-- the log at exit has the record of every step completed
pub peak_exact : PeakExact
unfolding log_after kept_or recorded polynomials
peak_exact x r answered passed k l none =
    let list = run (kind_of x.kind) x.counts x.table x.order in
    let m = modulus (kind_of x.kind) x.counts in
    let exit : answered.log ≡ over (completed x.limit (polynomials x)) (recorded x) x.log = answered.judged.log_records ∙ rw passed refl in
    let long : length (recorded x) ≡ length x.order =
    length_records m x.counts x.table x.order list (omega (arith, length_run (kind_of x.kind) x.counts x.table x.order)) in
    let most = completed_most x in
    rw (exit, over_at (completed x.limit (polynomials x)) (recorded x) x.log k none l (omega arith)) (peak x k (omega arith) none)
