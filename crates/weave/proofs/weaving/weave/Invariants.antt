-- What is written and what is left of both lists add up to the whole; each turn leaves less.
use Rattle.weave.specs.Weaving.{left}
use Rattle.weave.proofs.Rounds.{Underway}
use Rattle.weave.proofs.weaving.weave.Given as goal

abbrev pub invariant-loop-z : goal.invariant-loop-z
invariant-loop-z l = Underway l.z l.store l.initial.scratch l.scratch l.p

abbrev pub decreases-loop-z : goal.decreases-loop-z
decreases-loop-z l = left l.z l.p
