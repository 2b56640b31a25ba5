-- The coefficients themselves.
use Rattle.gates.proofs.Multiplied.{first_row}
use Rattle.gates.proofs.multipliers.put_first.Goals as goal

pub returns : goal.returns
returns c =
    rw c.copy_from_slice.ensures.after (first_row c.args.row.now _ c.requires.0)
