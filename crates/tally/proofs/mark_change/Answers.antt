use Rattle.std.proofs.Common.{refl}
use Rattle.tally.specs.Marks.{counts_if}
use Rattle.tally.proofs.Moving.{moved_come, moved_gone}
use Rattle.tally.proofs.mark_change.Goals as goal

pub returns-in-true-false : goal.returns-in-true-false
unfolding counts_if
returns-in-true-false c = rw (c.in-true-false.is-0, c.in-true-false.is-1) (moved_gone (λ u. refl) c.mark.ensures)

pub returns-in-false-true : goal.returns-in-false-true
unfolding counts_if
returns-in-false-true c = rw (c.in-false-true.is-0, c.in-false-true.is-1) (moved_come (λ u. refl) c.mark-in-false-true.ensures)
