use Rattle.std.proofs.Common.{arith}
use Rattle.merge.proofs.Sweeps.{sweep_none, sweep_more}
use Rattle.merge.proofs.streams.Streams.sweep.Goals as goal

pub loop-j-init : goal.loop-j-init
loop-j-init c = sweep_none _ _ _ c.requires.3 c.requires.4

pub loop-j-preserved : goal.loop-j-preserved
loop-j-preserved c =
    sweep_more _ _ _ _ _ _ _ _ (omega arith) c.loop-j.invariant c.take_head-c.ensures
