-- `weigh_addend` takes c away. The loop's invariant: the bits of c passed are taken away. Assumes nothing.
use Prim.Native.Nat.{◌^◌}
use Rattle.rules.specs.Polynomial.{minus}
use Rattle.start.specs.Start.{addend_terms}
use Rattle.start.specs.Weighing.{Weighs}
use Rattle.start.proofs.weights.Weights.weigh_addend.Given as goal

abbrev pub invariant-loop-k : goal.invariant-loop-k
invariant-loop-k l = Weighs (minus (2 ^ l.initial.self.l) (addend_terms l.n l.k)) l.initial.self l.self
