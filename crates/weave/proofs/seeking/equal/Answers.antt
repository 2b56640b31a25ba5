-- Sets that use k words are the same where these are.
use Rattle.std.proofs.Common.{ap, ◌∙◌}
use Rattle.std.specs.Ordering.{is_eq}
use Rattle.words.proofs.Numbers.{is_eq-nat_cmp, order_short}
use Rattle.weave.proofs.seeking.equal.Goals as goal

pub returns : goal.returns
returns c =
    let a = c.args in
    let p = c.requires in
    c.is_eq.ensures ∙ ap is_eq (c.compare_plain.ensures ∙ order_short a.words.now a.others.now a.i a.h a.w a.k p.0 p.1 p.2 p.3 p.4) ∙ is_eq-nat_cmp _ _
