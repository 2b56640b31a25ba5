use Prim.Native.Nat.{◌<◌, ◌≤◌}
use native.Mathlib.Omega.{arith}
use Rattle.netlist.proofs.Facts.{facts}
use Rattle.netlist.proofs.Filled.{literal_bit, output_bit}
use Rattle.netlist.proofs.Summed.{sum_more, more_below, bit_shift, more_fits}
use Rattle.netlist.proofs.table.SoundBlock.word.Goals as goal
use Rattle.netlist.proofs.table.SoundBlock.word.Goals.{After-literal}

-- the value of an output's literal is a bit
one : (c : After-literal) → c.literal.result ≤ 1
one c =
    let b = output_bit _ c.args.self.now.sound c.requires.0 c.requires.1 c.loop-i.i (omega arith) in
    rw (c.literal.ensures, c.output.ensures) (literal_bit _ _ b.1)

pub overflow_add-word : goal.overflow_add-word
overflow_add-word c =
    let h : c.loop-i.i < 64 = omega (arith, facts c.args.self.now.block.fitting) in
    record { fits = more_fits c.loop-i.i c.loop-i.word c.literal.result h c.loop-i.invariant.1 (one c) }

pub loop-i-preserved : goal.loop-i-preserved
loop-i-preserved c =
    let i = c.loop-i.i in
    let f = facts c.args.self.now.block.fitting in
    let e = rw c.output.ensures at c.literal.ensures in
    let s = sum_more i _ _ _ c.loop-i.invariant.0 e in
    rw (bit_shift i c.literal.result (omega arith) (one c)) (s, more_below i c.loop-i.word _ c.loop-i.invariant.1 (one c))
