-- The loop of `run`, with no code: where a turn of it begins, and that fewer steps are left at the next.
use mathlib.Core.WellFounded.InvImage
use mathlib.Core.WellFounded.{WellFounded}
use mathlib.Core.List.{List}
use Prim.Native.Nat.{ℕ, ◌-◌, ◌<◌}
use lib.ListN.{length}
use lib.WfN.{lt-wf_rel}
use Rattle.rules.specs.Polynomial.{Polynomial}
use Rattle.rules.specs.declared.answers.StepRecord.{StepRecord}
use Rattle.rules.specs.declared.counts.Counts.{Counts}
use Rattle.judge.proofs.Going.{Going}

-- everything that a run begins with
pub record Begin : Type 0 where
  pub counts : Counts
  pub table : List ℕ
  pub limit : ℕ
  pub order : List ℕ
  pub polynomial : Polynomial
  pub store : List ℕ
  pub scratch : List ℕ
  pub log : List StepRecord
  pub occurrences : List ℕ

-- the step, the terms held, and store, scratch, log and occurrences where a turn begins, and that the run is going there
pub record Place (b : Begin) : Type 0 where
  pub at : ℕ
  pub left : ℕ
  pub store : List ℕ
  pub scratch : List ℕ
  pub log : List StepRecord
  pub occurrences : List ℕ
  pub going : Going b.counts b.table b.limit b.order b.polynomial b.store b.scratch b.log b.occurrences at left store scratch log occurrences

module _ (b : Begin) where
  -- the steps that are left
  abbrev pub steps_left : Place b → ℕ
  steps_left t = length b.order - t.at

  abbrev pub Fewer : Place b → Place b → Type 0
  Fewer s t = steps_left s < steps_left t

  -- they fall to none
  pub falls : WellFounded Fewer
  falls = InvImage.wf steps_left lt-wf_rel.wf
