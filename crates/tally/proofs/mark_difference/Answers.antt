-- `mark_difference` passes over both lists, and then over what is left of each. Assumes nothing.
use Rattle.std.proofs.Common.{sym, refl, add-zero}
use Rattle.tally.proofs.Marking.{occurring_rest}
use Rattle.tally.proofs.Moving.{moved_add, moved_come, moved_gone}
use Rattle.tally.proofs.mark_difference.Goals as goal

pub returns : goal.returns
returns c =
    let passed = c.pass-passed in
    moved_add (λ u. sym (add-zero _)) (occurring_rest passed.result.after _)
    (moved_add (occurring_rest passed.result.before _) (λ u. sym (add-zero _)) passed.ensures.2 (moved_gone (λ u. refl) c.mark_rest.ensures))
    (moved_come (λ u. refl) c.mark_rest-2.ensures)
