-- The leap leaves a stretch, which is halved.
use Rattle.std.proofs.Common.{◌-◌}
use Rattle.words.specs.Listed.{terms_of}
use Rattle.words.specs.Numbers.{num, words_at}
use Rattle.weave.specs.Seeking.{Bracket}
use Rattle.weave.proofs.seeking.above.Given as goal

abbrev pub invariant-loop-left : goal.invariant-loop-left
invariant-loop-left l = Bracket (terms_of l.terms) (num (words_at l.others l.t l.terms.width)) l.from l.to l.left

abbrev pub decreases-loop-left : goal.decreases-loop-left
decreases-loop-left l = l.left.high - l.left.low
