-- What was found tells which case of a turn it is.
use Rattle.std.proofs.Common.{arith}
use Rattle.weave.proofs.Choices.{head_end, new_left, stretch_cut, head_cut}
use Rattle.weave.proofs.Turns.{new_room, new_count, stop_in, sought, turned_pass}
use Rattle.weave.proofs.weaving.turn.Goals as goal

pub returns-then-p-z : goal.returns-then-p-z
returns-then-p-z c =
    let a = c.args in
    turned_pass a.z a.store.now a.scratch.now a.scratch.now a.p c.requires.0 c.holding-stop.result c.if-p.true c.if-p-z.true (rw (c.old_terms-old.ensures.0, c.old_terms-old.ensures.1, c.old_terms-old.ensures.2) at c.holding-stop.ensures)

pub take_new-requires : goal.take_new-requires
take_new-requires c =
    let a = c.args in
    let p = c.requires in
    (p.0, head_end a.z a.store.now a.scratch.now a.p p.0 p.1 c.if-p.true c.if-p-z.false)

pub overflow_add-t : goal.overflow_add-t
overflow_add-t c =
    let a = c.args in
    let p = c.requires in
    let l = new_left a.z a.store.now a.scratch.now a.p p.0 c.if-p.false c.if-p-z-2.false in
    omega (arith, new_count a.z a.store.now a.scratch.now p.0.task a.p.used l)

pub overflow_mul-t : goal.overflow_mul-t
overflow_mul-t c =
    let a = c.args in
    let p = c.requires in
    let l = new_left a.z a.store.now a.scratch.now a.p p.0 c.if-p.false c.if-p-z-2.false in
    omega (arith, new_room a.z a.store.now a.scratch.now p.0.task a.p.used l)

pub overflow_add-t-3 : goal.overflow_add-t-3
overflow_add-t-3 c =
    let a = c.args in
    let p = c.requires in
    let l = new_left a.z a.store.now a.scratch.now a.p p.0 c.if-p.false c.if-p-z-2.false in
    omega (arith, new_room a.z a.store.now a.scratch.now p.0.task a.p.used l)

pub above-to-requires : goal.above-to-requires
above-to-requires c =
    let a = c.args in
    let p = c.requires in
    let l = new_left a.z a.store.now a.scratch.now a.p p.0 c.if-p.false c.if-p-z-2.false in
    sought a.z a.store.now a.scratch.now p.0.task a.p p.0.state.stop.low (stop_in a.z a.store.now a.scratch.now a.scratch.now a.p p.0) l c.old_terms-old.result c.old_terms-old.ensures.0 c.old_terms-old.ensures.1 c.old_terms-old.ensures.2

pub stretch-requires-then-p-to : goal.stretch-requires-then-p-to
stretch-requires-then-p-to c =
    let a = c.args in
    let p = c.requires in
    (p.0, stretch_cut a.z a.store.now a.scratch.now a.p p.0 c.if-p.false c.if-p-z-2.false c.above-to.result (rw (c.old_terms-old.ensures.0, c.old_terms-old.ensures.1, c.old_terms-old.ensures.2) at c.above-to.ensures) c.if-p-to.true)

pub take_new-requires-2 : goal.take_new-requires-2
take_new-requires-2 c =
    let a = c.args in
    let p = c.requires in
    (p.0, head_cut a.z a.store.now a.scratch.now a.p p.0 c.if-p.false c.if-p-z-2.false c.above-to.result (rw (c.old_terms-old.ensures.0, c.old_terms-old.ensures.1, c.old_terms-old.ensures.2) at c.above-to.ensures) c.if-p-to.false)
