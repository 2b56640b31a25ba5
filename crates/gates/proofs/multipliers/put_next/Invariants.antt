-- One place after the other, behind the rows in front.
use Rattle.std.proofs.Common.{◌+◌}
use Rattle.gates.specs.Rows.{row_of, Tabled}
use Rattle.gates.proofs.multipliers.put_next.Given as goal

abbrev pub invariant-loop-u : goal.invariant-loop-u
invariant-loop-u l = Tabled (row_of l.row) (l.start + l.u) l.table
