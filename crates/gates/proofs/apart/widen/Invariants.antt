-- One place after the other.
use Rattle.gates.specs.Rows.{row_of}
use Rattle.gates.proofs.Written.{Writing}
use Rattle.gates.proofs.apart.widen.Given as goal

abbrev pub invariant-loop-u : goal.invariant-loop-u
invariant-loop-u l = Writing (row_of l.narrow) (row_of l.initial.row) l.u l.row
