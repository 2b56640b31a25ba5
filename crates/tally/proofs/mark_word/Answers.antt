use Rattle.std.proofs.Common.{arith}
use Rattle.tally.proofs.Marking.{left_inside, left_turn, left_none}
use Rattle.tally.proofs.mark_word.Goals as goal

pub bounds-numbers-v : goal.bounds-numbers-v
bounds-numbers-v c = left_inside c.loop-left.invariant c.loop-left-test.true

pub bounds-numbers-v-in-loop-left : goal.bounds-numbers-v-in-loop-left
bounds-numbers-v-in-loop-left c = left_inside c.loop-left.invariant c.loop-left-test.true

pub loop-left-preserved : goal.loop-left-preserved
loop-left-preserved c = left_turn c.loop-left.invariant c.loop-left-test.true

pub returns : goal.returns
returns c = left_none c.loop-left.invariant (omega (arith, c.loop-left-test.false))
