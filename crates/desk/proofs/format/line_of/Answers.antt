-- `desk::format::line_of` meets its contract: what is written behind the letter, and then the line end. Assumes nothing.
use native.Mathlib.Omega.{arith}
use Rattle.desk.proofs.Lines.{line_holds}
use Rattle.desk.proofs.format.line_of.Goals as goal

pub returns : goal.returns
returns c =
    let a = c.args in
    let put = c.put_numbers-end in
    line_holds a.letter a.numbers.now put.new.bytes put.result (omega arith) put.ensures.written
