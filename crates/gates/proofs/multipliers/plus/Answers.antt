-- Both lie near 0, so their sum has room.
use mir.Facts.{to_z-of_z}
use Rattle.gates.proofs.Whole.{sum_fits}
use Rattle.gates.proofs.multipliers.plus.Goals as goal

pub returns : goal.returns
returns c =
    let p = c.requires in
    rw (to_z-of_z {z = c.args.a} c.ranges.a, to_z-of_z {z = c.args.b} c.ranges.b) (to_z-of_z (sum_fits c.args.a c.args.b (p.0, p.1) (p.2, p.3)))
