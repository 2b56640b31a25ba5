-- The loop of `word`: the bits of the outputs so far are summed, and are below the next weight. Assumes nothing.
use mathlib.Core.Path.{◌≡◌}
use Prim.Native.Nat.{◌*◌, ◌^◌, ◌<◌}
use Rattle.rules.specs.Each.{sum}
use Rattle.rules.specs.Netlist.{output}
use Rattle.rules.specs.Values.{literal_value}
use Rattle.netlist.proofs.table.SoundBlock.word.Given as goal

abbrev pub invariant-loop-i : goal.invariant-loop-i
invariant-loop-i l =
    (l.word ≡ sum l.i (λ j. 2 ^ j * literal_value l.values (output l.self.block.table.now j))) × (l.word < 2 ^ l.i)
