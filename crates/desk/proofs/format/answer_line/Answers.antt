-- An answer, or a refusal's number.
use Rattle.rules.specs.Desk.{printed}
use Rattle.desk.proofs.Lines.{told_refusal}
use Rattle.desk.proofs.format.answer_line.Goals as goal

pub returns-in-Ok : goal.returns-in-Ok
returns-in-Ok c = rw c.in-Ok.is c.value_line.ensures

pub returns-in-Err : goal.returns-in-Err
unfolding printed
returns-in-Err c = rw (c.in-Err.is, told_refusal, ← c.from.ensures, ← c.from-in-Err.ensures) c.line_of.ensures
