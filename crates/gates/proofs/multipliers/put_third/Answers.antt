-- The four rows, each behind the others.
use Rattle.std.proofs.Common.{arith}
use Rattle.gates.proofs.Multiplied.{lowest_first, lowest_second, lowest_third}
use Rattle.gates.proofs.multipliers.put_third.Goals as goal

pub put_next-requires : goal.put_next-requires
put_next-requires c = (c.requires.0, omega arith, lowest_third, c.requires.2)

pub put_next-requires-2 : goal.put_next-requires-2
put_next-requires-2 c = (c.requires.0, omega arith, lowest_first 5 (omega arith) (omega arith), c.put_next.ensures)

pub put_next-requires-3 : goal.put_next-requires-3
put_next-requires-3 c = (c.requires.0, omega arith, lowest_second 6 (omega arith) (omega arith), c.put_next-2.ensures)

pub put_next-requires-4 : goal.put_next-requires-4
put_next-requires-4 c = (c.requires.0, omega arith, lowest_first 7 (omega arith) (omega arith), c.put_next-3.ensures)
