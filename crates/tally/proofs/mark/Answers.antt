-- `mark` counts a set at 0, and then at its variables. Assumes nothing.
use Rattle.std.proofs.Common.{refl, rules}
use Rattle.tally.proofs.Marking.{marked_add, marked_zero, counts_both}
use Rattle.tally.proofs.mark.Goals as goal

pub returns : goal.returns
returns c =
    let a = c.args in
    marked_add a.by _ _ _ a.numbers.now _ _ (counts_both _ c.requires.4)
    (marked_zero a.by a.numbers.now _ c.requires.2 (search rules) refl)
    c.mark_set.ensures
