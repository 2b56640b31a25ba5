-- `weigh` adds all outputs. The loop's invariant: those passed are added. Assumes nothing.
use Prim.Native.Nat.{◌^◌}
use Rattle.start.specs.Start.{output_terms}
use Rattle.start.specs.Weighing.{Weighs}
use Rattle.start.proofs.weights.Weights.weigh.Given as goal

abbrev pub invariant-loop-k : goal.invariant-loop-k
invariant-loop-k l = Weighs (output_terms (2 ^ l.initial.self.l) l.table l.k) l.initial.self l.self
