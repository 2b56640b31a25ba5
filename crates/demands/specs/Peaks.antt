-- The peak of a step: how many terms it had before gathering, as the log tells it.
use Rattle.std.specs.Prelude.{◌≡◌, ℕ, suc, ◌*◌, ◌<◌, ◌≤◌, length, get_or, Result}
use Rattle.rules.specs.Netlist.{record_at}
use Rattle.rules.specs.Product.{kind_of}
use Rattle.rules.specs.Polynomial.{Polynomial}
use Rattle.rules.specs.Steps.{modulus, all_replaced}
use Rattle.rules.specs.Judging.{Inputs, most_made, completed, polynomials, refusal}
use Rattle.rules.specs.declared.refusals.Refusal.{Refusal}
use Rattle.rules.specs.declared.answers.Answer.{Answer}
use Rattle.rules.specs.declared.answers.StepRecord.{StepRecord}
use Rattle.demands.specs.Answers.{Answered, Occurs, following}

-- all terms of the k-th step, counted from 0, before like ones are gathered
abbrev pub raw : Inputs → ℕ → Polynomial
raw x k =
    let v = get_or x.order k 0 in
    all_replaced (modulus (kind_of x.kind) x.counts) v (record_at x.counts x.table v) (following x k)

-- the record of that step: its gate, the terms after it, and all terms before gathering, which are at least those after it, at most four times
-- those before the step, or eight times with lookup cells, and no others than those where the gate does not occur
pub record Peak (x : Inputs) (k : ℕ) (s : StepRecord) : Type 0 where
  pub gate : s.gate ≡ get_or x.order k 0
  pub terms : s.terms ≡ length (following x (suc k))
  pub all : s.made ≡ length (raw x k)
  pub least : s.terms ≤ s.made
  pub most : s.made ≤ most_made x.counts.records * length (following x k)
  pub idle : (Occurs s.gate (following x k) → ⊥) → s.made ≡ length (following x k)

-- where nothing is refused the log has such a record of every step completed
abbrev pub PeakExact : Type 0
PeakExact =
    (x : Inputs) (r : Result Answer Refusal) (answered : Answered x r) → refusal x ≡ 0
    → (k : ℕ) → k < completed x.limit (polynomials x) → (none : StepRecord) → Peak x k (get_or answered.log k none)
