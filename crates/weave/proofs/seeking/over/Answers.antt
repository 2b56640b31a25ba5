-- Sets that use k words are compared by these.
use Rattle.std.proofs.Common.{ap, ◌∙◌}
use Rattle.std.specs.Ordering.{is_gt}
use Rattle.words.proofs.Numbers.{is_gt-nat_cmp}
use Rattle.weave.proofs.Places.{set_order}
use Rattle.weave.proofs.seeking.over.Goals as goal

pub returns : goal.returns
returns c =
    let a = c.args in
    let e = set_order a.terms.now a.k a.i a.others.now a.t c.requires in
    c.is_gt.ensures ∙ ap is_gt (rw (c.set_at.ensures, e) at c.compare_plain.ensures) ∙ is_gt-nat_cmp _ _
