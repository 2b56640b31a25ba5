use mathlib.Core.Path.{refl}
use native.Mathlib.Omega.{arith}
use Rattle.rules.specs.Each.{each}
use Rattle.rules.specs.Netlist.{gate}
use Rattle.netlist.proofs.Facts.{facts, each_more}
use Rattle.netlist.proofs.table.Block.records_sound.Goals as goal

pub loop-k-init : goal.loop-k-init
unfolding each
loop-k-init c = refl

pub overflow_add-v : goal.overflow_add-v
overflow_add-v c = omega (arith, facts c.args.self.now.fitting)

pub overflow_add-v-in-loop-k : goal.overflow_add-v-in-loop-k
overflow_add-v-in-loop-k c = omega (arith, facts c.args.self.now.fitting)

pub record_at-requires : goal.record_at-requires
record_at-requires c = (omega arith, omega (arith, facts c.args.self.now.fitting))

pub loop-k-preserved : goal.loop-k-preserved
unfolding gate
loop-k-preserved c = each_more _ _ _ _ c.loop-k.invariant (rw (← c.record_at.ensures) c.record_sound-sound.ensures)
