-- The invariant, and that a turn keeps it, is Going.antt's.
use native.Mathlib.Omega.{arith}
use Rattle.judge.proofs.Going.{going_first, going_ready, going_more, going_full, going_end}
use Rattle.judge.proofs.run.run.Goals as goal

pub loop-k-init : goal.loop-k-init
loop-k-init c = going_first c.requires.0

pub take_turn-turn-requires : goal.take_turn-turn-requires
take_turn-turn-requires c = going_ready c.loop-k.invariant c.loop-k-test.true c.requires.1

pub returns-in_default : goal.returns-in_default
returns-in_default c =
    going_full c.loop-k.invariant c.loop-k-test.true c.requires.1 c.take_turn-turn.ensures c.in_default.is

pub loop-k-preserved : goal.loop-k-preserved
loop-k-preserved c =
    rw c.put_record.ensures (going_more c.loop-k.invariant c.loop-k-test.true c.requires.1 c.take_turn-turn.ensures c.requires.2 c.in-Some.is)

pub returns : goal.returns
returns c = going_end c.loop-k.invariant (omega arith)
