use Rattle.std.proofs.Common.{Equal, ◌+◌, ◌*◌, sym, refl, ◌∙◌, add-zero, arith}
use Rattle.std.specs.Cmp.{ranked}
use Rattle.words.specs.Numbers.{num, words_at}
use Rattle.tally.proofs.Marking.{counted_set, counted_next}
use Rattle.tally.proofs.Moving.{moved_add, moved_same, moved_come, moved_gone}
use Rattle.tally.proofs.pass.Goals as goal

pub loop-i-preserved-in-Equal : goal.loop-i-preserved-in-Equal
loop-i-preserved-in-Equal c =
    let l = c.loop-i in
    let same = ranked (num (words_at c.args.before.now.words.now (l.i * (c.args.before.now.width + 1) + 1) c.args.k)) (num (words_at c.args.after.now.words.now (l.j * (c.args.after.now.width + 1) + 1) c.args.k)) Equal
    (sym c.in-Equal.is ∙ rw (c.set_at-gone.ensures, c.set_at-come.ensures) at c.compare_plain.ensures) in
    (omega arith, omega arith, moved_add (counted_next c.requires.0 l.i c.loop-i-test.true) (counted_next c.requires.1 l.j c.if-j-after.true) l.invariant.2 (moved_same (λ u. rw same)))

pub mark-requires : goal.mark-requires
mark-requires c =
    let l = c.loop-i in
    let set = counted_set c.requires.0 l.i c.loop-i-test.true in
    rw c.set_at-gone.ensures (set.there, set.narrow, rw l.invariant.2.long c.requires.0.some, rw l.invariant.2.long set.low, set.even)

pub loop-i-preserved-in-Greater : goal.loop-i-preserved-in-Greater
loop-i-preserved-in-Greater c =
    let l = c.loop-i in
    (omega arith, omega arith, moved_add (counted_next c.requires.0 l.i c.loop-i-test.true) (λ u. sym (add-zero _)) l.invariant.2 (moved_gone (λ u. refl) (rw c.set_at-gone.ensures at c.mark.ensures)))

pub mark-requires-in-Less : goal.mark-requires-in-Less
mark-requires-in-Less c =
    let l = c.loop-i in
    let set = counted_set c.requires.1 l.j c.if-j-after.true in
    rw c.set_at-come.ensures (set.there, set.narrow, rw l.invariant.2.long c.requires.1.some, rw l.invariant.2.long set.low, set.even)

pub loop-i-preserved : goal.loop-i-preserved
loop-i-preserved c =
    let l = c.loop-i in
    (omega arith, omega arith, moved_add (λ u. sym (add-zero _)) (counted_next c.requires.1 l.j c.if-j-after.true) l.invariant.2 (moved_come (λ u. refl) (rw c.set_at-come.ensures at c.mark-in-Less.ensures)))
