-- One place after the other, from such as stand behind it.
use Rattle.gates.specs.Rows.{row_of, joining}
use Rattle.gates.proofs.Written.{Writing}
use Rattle.gates.proofs.apart.put_joined.Given as goal

abbrev pub invariant-loop-u : goal.invariant-loop-u
invariant-loop-u l = Writing (joining l.i l.j (row_of l.initial.row)) (row_of l.initial.row) l.u l.row
