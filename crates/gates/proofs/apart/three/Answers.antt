-- Each lies near 0, and so does the sum of two.
use Rattle.std.proofs.Common.{◌≡◌, ◌+ℤ◌, arith}
use Rattle.gates.specs.Rows.{row_of}
use Rattle.gates.proofs.Whole.{whole_within, read_back}
use Rattle.gates.proofs.Written.{near_back}
use Rattle.gates.proofs.apart.three.Goals as goal

pub plus-requires-2 : goal.plus-requires-2
unfolding row_of
plus-requires-2 c =
    let a = c.args in
    let p = c.requires in
    let row = row_of a.row.now in
    let first = p.6 a.u (omega arith) p.1 in
    let second = p.6 a.other p.4 p.2 in
    let third = p.6 a.both p.5 p.3 in
    let two = whole_within (row a.u) (row a.other) 36 36 first second in
    let added : c.plus.result ≡ row a.u +ℤ row a.other = rw (near_back a.u a.u 36 row (omega arith) p.6 (omega arith) p.1, near_back a.u a.other 36 row (omega arith) p.6 p.4 p.2) at c.plus.ensures in
    rw (added, read_back (row a.u +ℤ row a.other) (omega (arith, two.0), omega (arith, two.1)), near_back a.u a.both 36 row (omega arith) p.6 p.5 p.3)
    (omega (arith, two.0), omega (arith, two.1), omega (arith, third.0), omega (arith, third.1))
