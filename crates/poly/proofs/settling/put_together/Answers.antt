-- In place, or by way of scratch.
use Rattle.std.proofs.Common.{sym, ◌∙◌, arith}
use Rattle.poly.proofs.Numbered.{front_counts}
use Rattle.poly.proofs.Placed.{placed, first_low, to_splice, together_placed, numbers_placed}
use Rattle.poly.proofs.settling.put_together.Goals as goal

pub goes_in_place-requires : goal.goes_in_place-requires
goes_in_place-requires c =
    let a = c.args in
    let p = c.requires.0 in
    (p.task.room, omega (arith, p.some, p.task.end_in), p.task.end_in, p.task.narrow, p.task.v_in, first_low a.z a.store.now a.scratch.now p)

pub mark_all-requires : goal.mark_all-requires
mark_all-requires c =
    let a = c.args in
    let p = c.requires in
    let front = front_counts a.z a.store.now a.scratch.now p.0 p.1 a.z.end p.0.task.end_in in
    record { short = p.0.task.short; some = p.1.some; falls = front.0; numbered = front.1 }

pub splice_all-requires : goal.splice_all-requires
splice_all-requires c =
    let a = c.args in
    let p = c.requires in
    let q = placed a.z a.store.now (sym c.goes_in_place.ensures ∙ c.if-goes_in_place.true) in
    (rw c.mark_all.ensures.long (to_splice a.z a.store.now a.scratch.now p.0 q p.1), p.0.behind)

pub returns-then-goes_in_place : goal.returns-then-goes_in_place
returns-then-goes_in_place c =
    let a = c.args in
    let p = c.requires in
    let s = c.splice_all in
    let q = placed a.z a.store.now (sym c.goes_in_place.ensures ∙ c.if-goes_in_place.true) in
    (together_placed a.z a.store.now a.scratch.now p.0 q p.1 s.result s.new.store s.ensures.0 s.ensures.1 s.ensures.2, numbers_placed a.z a.store.now a.scratch.now p.0 q p.1 s.result a.numbers.now _ _ s.ensures.0 s.ensures.1 c.mark_all.ensures s.ensures.3)
