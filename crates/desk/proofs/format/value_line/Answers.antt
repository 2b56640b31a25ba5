-- Each arm prints the letter and the numbers of its answer.
use Rattle.rules.specs.Says.{answer_says}
use Rattle.rules.specs.Desk.{printed, letter}
use Rattle.desk.proofs.Lines.{told_two}
use Rattle.desk.proofs.format.value_line.Goals as goal

pub returns-in-Equal : goal.returns-in-Equal
unfolding printed answer_says letter
returns-in-Equal c = rw (c.in-Equal.is, told_two) c.line_of.ensures

pub returns-in-Differs : goal.returns-in-Differs
unfolding answer_says
returns-in-Differs c = rw c.in-Differs.is c.differs_line.ensures

pub returns-in-OutOfRoom : goal.returns-in-OutOfRoom
unfolding printed answer_says letter
returns-in-OutOfRoom c = rw (c.in-OutOfRoom.is, told_two) c.line_of-in-OutOfRoom.ensures

pub returns-in-Unfinished : goal.returns-in-Unfinished
unfolding printed answer_says letter
returns-in-Unfinished c = rw (c.in-Unfinished.is, told_two) c.line_of-in-Unfinished.ensures
