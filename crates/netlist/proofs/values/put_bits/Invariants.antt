-- The loop of `put_bits`: behind what stood there are the bits so far. Assumes nothing.
use mathlib.Core.Path.{◌≡◌}
use mathlib.Core.List.{◌++◌}
use Prim.Native.Nat.{◌+◌}
use lib.ListN.{take}
use Rattle.rules.specs.Each.{listed}
use Rattle.rules.specs.Values.{bit}
use Rattle.netlist.proofs.values.put_bits.Given as goal

abbrev pub invariant-loop-i : goal.invariant-loop-i
invariant-loop-i l = take (l.at + l.i) l.values ≡ take l.at l.initial.values ++ listed l.i (bit l.x)
