-- A variable turned in the words of one mask, where the subset has it.
use Rattle.std.proofs.Common.{sym, ◌∙◌, arith, rules}
use Rattle.gates.proofs.Flipped.{bit_yes, bit_no}
use Rattle.gates.proofs.Tables.{mask_stays, mask_turned}
use Rattle.gates.proofs.masks.put_in.Goals as goal

pub returns-then-has : goal.returns-then-has
returns-then-has c =
    let a = c.args in
    rw (bit_yes a.j a.k (sym c.if-has.true ∙ c.has.ensures)) (mask_turned a.masks.now c.turn.new.words a.j a.w a.x (omega arith) (search rules) (omega arith) c.turn.ensures)

pub returns-else-has : goal.returns-else-has
returns-else-has c =
    let a = c.args in
    rw (bit_no a.j a.k (sym c.if-has.false ∙ c.has.ensures)) (mask_stays a.masks.now a.w a.j a.x)
