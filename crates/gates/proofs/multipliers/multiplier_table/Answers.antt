-- Each row behind the others; the last four where there is room for them.
use Rattle.std.proofs.Common.{length, arith}
use Rattle.gates.proofs.Multiplied.{lowest_first, lowest_second, rows_long}
use Rattle.gates.proofs.multipliers.multiplier_table.Goals as goal

pub put_next-requires : goal.put_next-requires
put_next-requires c =
    let long = rows_long (length c.args.table.now) c.requires.2 in
    (c.requires.1, omega arith, lowest_first 1 (omega arith) (omega arith), c.put_first.ensures)

pub put_next-requires-2 : goal.put_next-requires-2
put_next-requires-2 c =
    let long = rows_long (length c.args.table.now) c.requires.2 in
    (c.requires.1, omega arith, lowest_second 2 (omega arith) (omega arith), c.put_next.ensures)

pub put_next-requires-3 : goal.put_next-requires-3
put_next-requires-3 c =
    let long = rows_long (length c.args.table.now) c.requires.2 in
    (c.requires.1, omega arith, lowest_first 3 (omega arith) (omega arith), c.put_next-2.ensures)
