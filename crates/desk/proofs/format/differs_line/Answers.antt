-- `desk::format::differs_line` meets its contract: with c and without it. Assumes nothing.
use Rattle.rules.specs.Desk.{printed, told, letter}
use Rattle.desk.proofs.format.differs_line.Goals as goal

pub returns-then-adding : goal.returns-then-adding
unfolding printed told letter
returns-then-adding c = rw c.if-adding.true c.line_of.ensures

pub returns : goal.returns
unfolding printed told letter
returns c = rw c.if-adding.false c.line_of-2.ensures
