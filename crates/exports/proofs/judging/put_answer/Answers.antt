-- The values of each answer, and its number.
use Rattle.std.proofs.Common.{refl}
use Rattle.rules.specs.Says.{answer_says}
use Rattle.exports.proofs.Givings.{answer_put}
use Rattle.exports.proofs.judging.put_answer.Goals as goal

pub returns-in-Equal : goal.returns-in-Equal
unfolding answer_says
returns-in-Equal c = answer_put 0 _ _ c.in-Equal.is refl c.put.ensures

pub returns-in-OutOfRoom : goal.returns-in-OutOfRoom
unfolding answer_says
returns-in-OutOfRoom c = answer_put 2 _ _ c.in-OutOfRoom.is refl c.put-in-OutOfRoom.ensures

pub returns-in-Unfinished : goal.returns-in-Unfinished
unfolding answer_says
returns-in-Unfinished c = answer_put 3 _ _ c.in-Unfinished.is refl c.put-in-Unfinished.ensures

pub returns-in-Differs : goal.returns-in-Differs
unfolding answer_says
returns-in-Differs c = answer_put 1 _ _ c.in-Differs.is refl c.put-in-Differs.ensures
