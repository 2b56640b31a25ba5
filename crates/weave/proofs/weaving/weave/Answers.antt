use Rattle.std.proofs.Common.{◌+◌, ◌*◌, sym, ◌∙◌}
use native.Mathlib.Nat.{sub-zero}
use Rattle.weave.proofs.Growing.{kept_none}
use Rattle.weave.proofs.Rounds.{underway_begin, underway_turn, underway_on, underway_full, underway_end}
use Rattle.weave.proofs.weaving.weave.Goals as goal

pub loop-z-init : goal.loop-z-init
loop-z-init c =
    let a = c.args in
    underway_begin a.z a.store.now a.scratch.now c.requires c.holding-stop.result (rw (c.old_terms-old.ensures.0, c.old_terms-old.ensures.1, c.old_terms-old.ensures.2) at c.holding-stop.ensures)

pub turn-requires : goal.turn-requires
turn-requires c =
    let a = c.args in
    (underway_turn a.z a.store.now a.scratch.now c.requires c.loop-z.scratch c.loop-z.p c.loop-z.invariant, sym c.goes_on.ensures ∙ c.loop-z-test.true)

pub returns-in_default : goal.returns-in_default
returns-in_default c =
    let a = c.args in
    let z = a.z in
    let f = underway_full z a.store.now a.scratch.now c.requires c.loop-z.scratch c.loop-z.p c.loop-z.invariant c.turn.new.scratch (rw c.in_default.is at c.turn.ensures) in
    (f.full, kept_none z.w z.limit a.scratch.now c.turn.new.scratch c.clear.new.words f.behind (rw (sub-zero (z.limit * (z.w + 1))) at c.clear.ensures))

pub loop-z-preserved : goal.loop-z-preserved
loop-z-preserved c =
    let a = c.args in
    underway_on a.z a.store.now a.scratch.now c.requires c.loop-z.scratch c.loop-z.p c.loop-z.invariant c.turn.new.scratch c.in-Some.next c.turn.auto.scratch (rw c.in-Some.is at c.turn.ensures)

pub returns : goal.returns
returns c =
    let a = c.args in
    let l = c.loop-z in
    let e = underway_end a.z a.store.now a.scratch.now c.requires l.scratch l.p l.invariant (sym c.goes_on.ensures ∙ c.loop-z-test.false) in
    ((l.invariant.state.most, e.0, e.1), l.invariant.behind)
