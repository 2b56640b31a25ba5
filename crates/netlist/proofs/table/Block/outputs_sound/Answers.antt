use mathlib.Core.Path.{refl, ap}
use Prim.Native.Nat.{ℕ, ◌+◌, ◌*◌}
use native.Mathlib.Omega.{arith}
use lib.Dec.{leb}
use Rattle.rules.specs.Each.{each}
use Rattle.rules.specs.Netlist.{output_sound}
use Rattle.netlist.proofs.Facts.{facts, each_more}
use Rattle.netlist.proofs.table.Block.outputs_sound.Goals as goal

pub loop-i-init : goal.loop-i-init
unfolding each
loop-i-init c = refl

pub overflow_mul-sound : goal.overflow_mul-sound
overflow_mul-sound c = omega (arith, facts c.args.self.now.fitting)

pub overflow_add-sound : goal.overflow_add-sound
overflow_add-sound c = omega (arith, facts c.args.self.now.fitting)

pub loop-i-preserved : goal.loop-i-preserved
unfolding output_sound
loop-i-preserved c =
    let m = c.args.self.now.counts.m in
    each_more _ _ _ _ c.loop-i.invariant (ap (λ (x : ℕ). leb x (2 * m + 1)) c.output.ensures)
