use mathlib.Core.List.{[], ◌∷◌}
use Prim.Native.Nat.{◌^◌}
use lib.ListN.{get_or}
use Rattle.rules.specs.Each.{joined}
use Rattle.rules.specs.Polynomial.{times_literal}
use Rattle.start.specs.Start.{output_terms}
use Rattle.start.proofs.Weighing.{outputs_more, weighs_none, weighs_then}
use Rattle.start.proofs.weights.Weights.weigh.Goals as goal

pub loop-k-init : goal.loop-k-init
unfolding output_terms joined
loop-k-init c =
    weighs_none _

pub loop-k-preserved : goal.loop-k-preserved
loop-k-preserved c =
    let l = c.loop-k in
    let x = get_or c.args.table.now l.k 0 in
    rw (outputs_more _ l.k _) (weighs_then (λ k. times_literal (2 ^ k) x ((2 ^ l.k, 0) ∷ [])) l.invariant c.weigh_output.ensures)
