-- One place after the other.
use Rattle.gates.specs.Rows.{row_of, leaving}
use Rattle.gates.proofs.Written.{Writing}
use Rattle.gates.proofs.apart.leave_out.Given as goal

abbrev pub invariant-loop-u : goal.invariant-loop-u
invariant-loop-u l = Writing (leaving 0 l.k (row_of l.initial.row)) (row_of l.initial.row) l.u l.row
