use Rattle.std.proofs.Common.{◌≡◌, ◌+◌, ◌/◌, ◌%◌, arith}
use Rattle.gates.specs.Rows.{row_of, multiplier}
use Rattle.gates.proofs.Multiplied.{multiplier_back, table_within, table_more, step_back, next_held}
use Rattle.gates.proofs.multipliers.put_next.Goals as goal

pub holding-requires : goal.holding-requires
holding-requires c =
    let a = c.args in
    let p = c.requires in
    let l = c.loop-u in
    (p.2.low, step_back a.start a.k l.u p.2 (omega arith), omega arith, table_within (row_of a.row.now) l.table (a.start + l.u) p.0 l.invariant)

pub loop-u-preserved : goal.loop-u-preserved
loop-u-preserved c =
    let a = c.args in
    let p = c.requires in
    let l = c.loop-u in
    let row = row_of a.row.now in
    let made : c.holding.result ≡ multiplier row ((a.start + l.u) / 8) ((a.start + l.u) % 8) = rw (c.holding.ensures, c.has.ensures) (next_held a.start a.k l.u p.2 (omega arith) row l.table l.invariant) in
    let back = multiplier_back row ((a.start + l.u) / 8) ((a.start + l.u) % 8) c.holding.result (omega arith) p.0 made in
    let on : a.start + (l.u + 1) ≡ a.start + l.u + 1 = omega arith in
    rw on (table_more row l.table (a.start + l.u) _ (omega arith) back l.invariant)
