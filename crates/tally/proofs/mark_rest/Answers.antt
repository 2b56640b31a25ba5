use Rattle.std.proofs.Common.{◌≡◌, ◌-◌, refl, drop, length-drop, take_all, arith}
use Rattle.rules.specs.Occurrences.{occurring}
use Rattle.words.specs.Listed.{terms_of}
use Rattle.words.proofs.Stored.{length_terms}
use Rattle.tally.proofs.Marking.{marked_add, marked_none, counted_set, counted_behind}
use Rattle.tally.proofs.mark_rest.Goals as goal

pub loop-i-init : goal.loop-i-init
unfolding occurring
loop-i-init c =
    let a = c.args in
    let e : a.from - a.from ≡ 0 = omega arith in
    rw e (marked_none a.by _ a.numbers.now (λ u. refl) (λ u. (c.type_inv.numbers u).fits))

pub mark-requires : goal.mark-requires
mark-requires c =
    let l = c.loop-i in
    let set = counted_set c.requires.0 l.i (omega arith) in
    rw c.set_at.ensures (set.there, set.narrow, rw l.invariant.long c.requires.0.some, rw l.invariant.long set.low, set.even)

pub loop-i-preserved : goal.loop-i-preserved
loop-i-preserved c =
    let l = c.loop-i in
    marked_add c.args.by _ _ _ c.args.numbers.now l.numbers _ (counted_behind c.requires.0 l.i (omega arith) c.args.from (omega arith)) l.invariant (rw c.set_at.ensures at c.mark.ensures)

pub returns : goal.returns
returns c =
    let a = c.args in
    let e : c.loop-i.i ≡ a.terms.now.count = omega arith in
    let all = take_all (a.terms.now.count - a.from) (drop a.from (terms_of a.terms.now)) (rw (length-drop, length_terms) (omega arith)) in
    rw (e, all) at c.loop-i.invariant
