-- Too few counts, or what reading says.
use Rattle.exports.proofs.Givings.{read_short, read_refused, read_given}
use Rattle.exports.proofs.reading.hraskell_read.Goals as goal

pub returns-then-counts-lt5 : goal.returns-then-counts-lt5
returns-then-counts-lt5 c =
    let a = c.args in
    rw c.refused.ensures (read_short a.text.now a.table.now a.counts.now c.if-counts-lt5.true)

pub returns-in-Err : goal.returns-in-Err
returns-in-Err c =
    let a = c.args in
    rw c.refused-in-Err.ensures (read_refused a.text.now a.table.now a.counts.now _ _ c.read.ensures _ c.if-counts-lt5.false c.in-Err.is)

pub returns-in-Ok : goal.returns-in-Ok
returns-in-Ok c =
    let a = c.args in
    read_given a.text.now a.table.now a.counts.now _ _ c.read.ensures _ _ c.if-counts-lt5.false c.in-Ok.is c.put.ensures
