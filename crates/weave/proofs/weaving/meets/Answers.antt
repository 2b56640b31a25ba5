-- Sets that use k words are the same where these are.
use mathlib.Core.Path.{sym, ◌∙◌}
use native.Mathlib.Omega.{arith}
use Rattle.weave.proofs.States.{meeting_none}
use Rattle.weave.proofs.Turns.{old_room, old_low, new_room, new_low, meeting_words}
use Rattle.weave.proofs.weaving.meets.Goals as goal

pub returns-then-p : goal.returns-then-p
returns-then-p c = sym (meeting_none _ _ _ c.if-p.true)

pub equal-requires : goal.equal-requires
equal-requires c =
    let a = c.args in
    let p = c.requires in
    rw (c.set_at.ensures, c.old_terms.ensures.2) (omega (arith, old_room a.z a.store.now a.scratch.now p.0 a.p.at (omega (arith, c.if-p.false, p.1))), omega (arith, new_room a.z a.store.now a.scratch.now p.0 a.p.used p.2), p.0.short, old_low a.z a.store.now a.scratch.now p.0 a.p.at (omega (arith, c.if-p.false, p.1)), new_low a.z a.store.now a.scratch.now p.0 a.p.used p.2)

pub returns : goal.returns
returns c =
    let a = c.args in
    let p = c.requires in
    rw (c.set_at.ensures, c.old_terms.ensures.2) at c.equal.ensures ∙ sym (meeting_words a.z a.store.now a.scratch.now p.0 a.p c.if-p.false p.1 p.2)
