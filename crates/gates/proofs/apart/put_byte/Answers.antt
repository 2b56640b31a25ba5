-- The coefficients of a byte are small.
use Rattle.std.proofs.Common.{zero-add}
use Rattle.rules.proofs.CellRule.{coefficient_small}
use Rattle.gates.specs.Rows.{row_of}
use Rattle.gates.proofs.apart.put_byte.Goals as goal

pub widen-requires : goal.widen-requires
unfolding row_of
widen-requires c =
    let w = c.put_row in
    (w.auto.row, c.requires.0, λ u l. rw (rw zero-add at (w.ensures.inside u l)) (coefficient_small c.args.byte u l))
