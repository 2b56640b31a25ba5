-- So far every output's test has held, or not.
use Rattle.std.proofs.Common.{◌≡◌}
use Rattle.rules.specs.Each.{each}
use Rattle.rules.specs.Netlist.{output, output_sound}
use Rattle.netlist.proofs.table.Block.outputs_sound.Given as goal

abbrev pub invariant-loop-i : goal.invariant-loop-i
invariant-loop-i l = l.sound ≡ each l.i (λ j. output_sound l.self.counts (output l.self.table.now j))
