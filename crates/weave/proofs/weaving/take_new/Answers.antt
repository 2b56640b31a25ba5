-- The sum of both heads, or the new one alone: the largest set that is left.
use Rattle.std.proofs.Common.{refl, sym, ◌∙◌}
use Rattle.weave.proofs.Turns.{old_coefficient, stop_in, met_in, turned_new, turned_both}
use Rattle.weave.proofs.weaving.take_new.Goals as goal

pub meets-requires : goal.meets-requires
meets-requires c =
    let a = c.args in
    let p = c.requires in
    (p.0.task, stop_in a.z a.store.now a.scratch.now a.scratch.now a.p p.0, p.1.some)

pub coefficient-x-requires : goal.coefficient-x-requires
coefficient-x-requires c =
    let a = c.args in
    rw c.old_terms.ensures.1 (met_in a.z a.store.now a.scratch.now a.scratch.now a.p c.requires.0 (sym c.meets.ensures ∙ c.if-meets.true))

pub returns-in_err-out : goal.returns-in_err-out
returns-in_err-out c =
    let a = c.args in
    let x = old_coefficient a.z a.store.now a.scratch.now c.requires.0.task c.old_terms.result c.old_terms.ensures.0 c.old_terms.ensures.1 c.old_terms.ensures.2 a.p.at in
    rw c.from_residual.ensures (rw c.in_err-out.was at (turned_both a.z a.store.now a.scratch.now c.emit.new.scratch a.p c.requires.0 c.requires.1 c.emit.result c.sum.result c.emit.ensures (sym c.meets.ensures ∙ c.if-meets.true) (rw (c.coefficient-x.ensures, x) at c.sum.ensures)))

pub returns-then-meets : goal.returns-then-meets
returns-then-meets c =
    let a = c.args in
    let x = old_coefficient a.z a.store.now a.scratch.now c.requires.0.task c.old_terms.result c.old_terms.ensures.0 c.old_terms.ensures.1 c.old_terms.ensures.2 a.p.at in
    rw c.in_ok-out.was at (turned_both a.z a.store.now a.scratch.now c.emit.new.scratch a.p c.requires.0 c.requires.1 c.emit.result c.sum.result c.emit.ensures (sym c.meets.ensures ∙ c.if-meets.true) (rw (c.coefficient-x.ensures, x) at c.sum.ensures))

pub returns-in_err-out-2 : goal.returns-in_err-out-2
returns-in_err-out-2 c =
    let a = c.args in
    rw c.from_residual-in_err-out-2.ensures (rw c.in_err-out-2.was at (turned_new a.z a.store.now a.scratch.now c.emit-2.new.scratch a.p c.requires.0 c.requires.1 c.emit-2.result _ c.emit-2.ensures (sym c.meets.ensures ∙ c.if-meets.false) refl))

pub returns : goal.returns
returns c =
    let a = c.args in
    rw c.in_ok-out-2.was at (turned_new a.z a.store.now a.scratch.now c.emit-2.new.scratch a.p c.requires.0 c.requires.1 c.emit-2.result _ c.emit-2.ensures (sym c.meets.ensures ∙ c.if-meets.false) refl)
