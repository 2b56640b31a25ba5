-- `weigh_output` adds an output's terms to the weights: one law for each form of its literal. Assumes nothing.
use mathlib.Core.List.{[], ◌∷◌}
use Prim.Native.Nat.{◌-◌, ◌*◌, ◌/◌, ◌%◌, ◌^◌}
use native.Mathlib.Omega.{arith}
use Rattle.rules.specs.Netlist.{variable, inverted}
use Rattle.words.proofs.Numbers.{one_shifted}
use Rattle.start.specs.Start.{single}
use Rattle.start.proofs.Outputs.{literal_false, literal_true, literal_plain, literal_inverse}
use Rattle.start.proofs.Weighing.{weighs_none, weighs_then}
use Rattle.start.proofs.weights.Weights.weigh_output.Goals as goal

pub returns-then-v-gt0 : goal.returns-then-v-gt0
unfolding variable inverted
returns-then-v-gt0 c =
    let a = c.args in
    rw (literal_inverse _ _ a.x (omega arith) (omega arith), ← one_shifted a.k (omega arith))
    (weighs_then (λ l. (2 ^ l - 1 * 2 ^ a.k % 2 ^ 64, single (a.x / 2)) ∷ []) c.add.ensures c.take.ensures)

pub returns-else-v-gt0 : goal.returns-else-v-gt0
unfolding variable inverted
returns-else-v-gt0 c =
    rw (literal_true _ _ c.args.x (omega arith) (omega arith)) (rw (one_shifted c.args.k (omega arith)) at c.add.ensures)

pub returns-then-v-gt0-2 : goal.returns-then-v-gt0-2
unfolding variable inverted
returns-then-v-gt0-2 c =
    rw (literal_plain _ _ c.args.x (omega arith) (omega arith)) (rw (one_shifted c.args.k (omega arith)) at c.add-then-v-gt0-2.ensures)

pub returns-else-v-gt0-2 : goal.returns-else-v-gt0-2
unfolding variable inverted
returns-else-v-gt0-2 c =
    rw (literal_false _ _ c.args.x (omega arith) (omega arith)) (weighs_none _)
