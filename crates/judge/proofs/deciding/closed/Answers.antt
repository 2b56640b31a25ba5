-- No room at a step, or the answer by the last polynomial.
use Rattle.rules.specs.Says.{answer_says}
use Rattle.judge.specs.Deciding.{last}
use Rattle.judge.proofs.deciding.closed.Goals as goal

pub returns-in-Ok : goal.returns-in-Ok
unfolding last
returns-in-Ok c = rw c.in-Ok.is c.answer.ensures

pub returns-in-Err : goal.returns-in-Err
unfolding answer_says last
returns-in-Err c = rw c.in-Err.is
