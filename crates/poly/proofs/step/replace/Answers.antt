-- The terms that hold v are replaced, and what they become is put together with the others.
use Rattle.std.proofs.Common.{refl, length, arith}
use Rattle.words.proofs.Stored.{stride_le}
use Rattle.poly.proofs.Woven.{end_in, front_fit, part_room, made_room, same_room, both, numbering, numbers_many, step_full, step_terms, step_fits}
use Rattle.poly.proofs.step.replace.Goals as goal

pub invariant_of-front : goal.invariant_of-front
invariant_of-front c =
    let a = c.args in
    let h = c.requires.0 in
    record { within = stride_le a.end a.n a.w (length a.store.now) (end_in _ _ _ _ _ _ _ _ _ h) h.room; narrow = h.narrow }

pub replacements-requires : goal.replacements-requires
replacements-requires c =
    (front_fit _ _ _ _ _ _ _ _ _ c.requires.0, part_room _ _ _ _ _ _ _ _ _ c.requires.0)

pub returns-in_err-made : goal.returns-in_err-made
returns-in_err-made c =
    let h = c.requires.0 in
    let m = c.replacements in
    let e = rw c.in_err-made.was at m.ensures in
    rw c.from_residual.ensures (step_full _ _ _ _ _ _ _ _ _ h m.new.scratch _ m.auto.scratch refl e.0 e.1, numbers_many _ _ _ _ _ _ _ _ _ h m.new.scratch _ m.auto.scratch refl e.0 e.1 c.args.numbers.now)

pub put_together-held-requires : goal.put_together-held-requires
put_together-held-requires c =
    let h = c.requires.0 in
    let m = c.replacements in
    let e = rw c.in_ok-made.was at m.ensures in
    (both _ _ _ _ _ _ _ _ _ h m.new.scratch _ m.auto.scratch refl _ e.0 e.1 c.requires.1, numbering _ _ _ _ _ _ _ _ _ h m.new.scratch _ m.auto.scratch refl _ e.0 e.1 c.requires.1)

pub clear-requires : goal.clear-requires
clear-requires c =
    let h = c.requires.0 in
    let m = c.replacements in
    let e = rw c.in_ok-made.was at m.ensures in
    (omega arith, rw (c.put_together-held.auto.scratch, same_room _ _ _ _ _ _ _ _ _ h m.new.scratch _ m.auto.scratch refl) (made_room _ _ _ _ _ _ _ _ _ h m.new.scratch _ m.auto.scratch refl _ e.0 e.1))

pub returns : goal.returns
returns c =
    let h = c.requires.0 in
    let m = c.replacements in
    let t = c.put_together-held in
    let e = rw c.in_ok-made.was at m.ensures in
    (step_fits _ _ _ _ _ _ _ _ _ h m.new.scratch _ m.auto.scratch refl _ e.0 e.1 t.result t.new.store t.new.scratch c.clear.new.words t.ensures.0 c.clear.ensures, rw (step_terms _ _ _ _ _ _ _ _ _ h m.new.scratch _ m.auto.scratch refl _ e.0 e.1) at t.ensures.1)
