-- The loop of `put_values`: the list begins with the values of the inputs and of the gates so far. Assumes nothing.
use mathlib.Core.Path.{◌≡◌}
use Prim.Native.Nat.{◌+◌}
use lib.ListN.{take}
use Rattle.rules.specs.Values.{values_to}
use Rattle.netlist.proofs.table.SoundBlock.put_values.Given as goal

abbrev pub invariant-loop-k : goal.invariant-loop-k
invariant-loop-k l = let b = l.self.block in take (b.counts.i + 1 + l.k) l.values ≡ values_to b.counts b.table.now l.a l.b l.k
