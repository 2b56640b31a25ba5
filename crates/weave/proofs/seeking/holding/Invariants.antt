use Rattle.words.specs.Listed.{terms_of}
use Rattle.weave.specs.Seeking.{Free}
use Rattle.weave.proofs.seeking.holding.Given as goal

abbrev pub invariant-loop-i : goal.invariant-loop-i
invariant-loop-i l = Free l.v (terms_of l.terms) l.from l.i
