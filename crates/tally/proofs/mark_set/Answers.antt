use Rattle.std.proofs.Common.{arith}
use Rattle.rules.specs.Values.{bit}
use Rattle.rules.proofs.Bits.{bit_none}
use Rattle.words.specs.Numbers.{num}
use Rattle.tally.proofs.Marking.{marked_add, marked_none, word_within, bit_more}
use Rattle.tally.proofs.mark_set.Goals as goal

pub loop-j-init : goal.loop-j-init
unfolding num
loop-j-init c =
    let a = c.args in
    marked_none a.by (bit 0) a.numbers.now bit_none (λ u. (c.type_inv.numbers u).fits)

pub mark_word-requires : goal.mark_word-requires
mark_word-requires c =
    let l = c.loop-j in
    let a = c.args in
    let p = c.requires in
    (omega (arith, p.1), rw l.invariant.long (word_within a.words.now a.at (λ u. (c.type_inv.words u).fits) l.j a.k _ (omega arith) p.2))

pub loop-j-preserved : goal.loop-j-preserved
loop-j-preserved c =
    let l = c.loop-j in
    let a = c.args in
    marked_add a.by _ _ _ a.numbers.now l.numbers _ (bit_more a.words.now a.at (λ u. (c.type_inv.words u).fits) l.j) l.invariant c.mark_word.ensures
