-- `mark_word` marks the lowest bit that is left. The loop's invariant: with the bits left, all are marked. Assumes nothing.
use Rattle.tally.proofs.Marking.{Left}
use Rattle.tally.proofs.mark_word.Given as goal

abbrev pub invariant-loop-left : goal.invariant-loop-left
invariant-loop-left l = Left l.base l.by l.x l.left l.initial.numbers l.numbers

abbrev pub decreases-loop-left : goal.decreases-loop-left
decreases-loop-left l = l.left
