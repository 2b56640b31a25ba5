-- By the kind of record.
use Rattle.std.proofs.Common.{refl, ◌∙◌}
use Rattle.rules.specs.Cells.{coefficient}
use Rattle.rules.specs.Netlist.{variable, inverted}
use Rattle.gates.specs.Apart.{record_row, record_variables}
use Rattle.gates.specs.Rows.{row_of}
use Rattle.gates.proofs.Joined.{leaving_same}
use Rattle.gates.proofs.Parted.{product_row}
use Rattle.gates.proofs.apart.put_record.Goals as goal

pub returns-in-Gate : goal.returns-in-Gate
unfolding record_row record_variables variable
returns-in-Gate c =
    rw (c.in-Gate.is, c.copy_from_slice.ensures.after, c.product.ensures, c.requires.0) (refl, product_row (inverted c.in-Gate.x) (inverted c.in-Gate.y))

pub returns-in-Cell : goal.returns-in-Cell
unfolding record_row record_variables variable
returns-in-Cell c =
    rw c.in-Cell.is (refl, λ u l. c.leave_out.ensures u l ∙ leaving_same c.in-Cell.x3 2 (row_of c.put_byte.new.row) (coefficient c.in-Cell.byte) c.put_byte.ensures u l)
