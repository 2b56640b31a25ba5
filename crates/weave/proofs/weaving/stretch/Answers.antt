-- Words copied are terms copied; where they do not fit, neither does the result.
use native.Mathlib.Omega.{arith}
use Rattle.weave.proofs.Turns.{stretch_words, stretch_room, stretch_sum, turned_stretch, turned_full}
use Rattle.weave.proofs.weaving.stretch.Goals as goal

pub overflow_add-out : goal.overflow_add-out
overflow_add-out c =
    let a = c.args in
    let p = c.requires in
    omega (arith, stretch_sum a.z a.store.now a.scratch.now a.p p.0 a.to p.1)

pub returns-then-out-z : goal.returns-then-out-z
returns-then-out-z c =
    let a = c.args in
    let p = c.requires in
    turned_full a.z a.store.now a.scratch.now a.scratch.now a.p p.0 a.to p.1 c.if-out-z.true

pub overflow_mul-p : goal.overflow_mul-p
overflow_mul-p c =
    let a = c.args in
    let p = c.requires in
    omega (arith, stretch_words a.z a.store.now a.scratch.now a.scratch.now a.p p.0 a.to p.1)

pub copy-requires : goal.copy-requires
copy-requires c =
    let a = c.args in
    let p = c.requires in
    (stretch_words a.z a.store.now a.scratch.now a.scratch.now a.p p.0 a.to p.1, stretch_room a.z a.store.now a.scratch.now a.scratch.now a.p p.0 a.to p.1 c.if-out-z.false)

pub returns : goal.returns
returns c =
    let a = c.args in
    let p = c.requires in
    turned_stretch a.z a.store.now a.scratch.now c.copy.new.target a.p p.0 a.to p.1 c.if-out-z.false c.copy.ensures
