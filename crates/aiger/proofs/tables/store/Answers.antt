use Rattle.std.proofs.Common.{arith, ◌≡◌, ◌*◌, ◌+◌, ◌≤◌, length}
use Rattle.std.proofs.lemmas.Grind.{common_steps, rows}
use Rattle.std.proofs.lemmas.Slice.{take-put_mid, drop-put_mid}
use Rattle.aiger.proofs.Stores.{stored_none, stored_more, stored_next}
use Rattle.aiger.proofs.tables.store.Goals as goal

pub loop-k-init : goal.loop-k-init
loop-k-init g c = stored_none (g.L.Lines.rule c.args.section.now) c.args.text.now _ c.args.table.now (grind arith)

pub unreachable-requires : goal.unreachable-requires
unreachable-requires g c =
    let l = c.loop-k in
    stored_next (g.L.Lines.rule c.args.section.now) c.args.text.now l.k _ l.rest.now c.args.table.now l.table l.invariant
    c.args.count (omega arith) c.requires.found c.in_default.ensures

pub loop-k-preserved : goal.loop-k-preserved
loop-k-preserved g c =
    let l = c.loop-k in
    let same : c.copy_from_slice.new.self ≡ c.in-Some.line.0 = c.copy_from_slice.ensures.after in
    let more : g.row.N * (l.k + 1) ≡ g.row.N * l.k + g.row.N = grind arith in
    let room : g.row.N * (l.k + 1) ≤ g.row.N * c.args.count = grind (arith, rows) in
    let n : length c.in-Some.line.0 ≡ g.row.N = grind (arith, common_steps) in
    stored_more (g.L.Lines.rule c.args.section.now) c.args.text.now l.k _ l.rest.now c.args.table.now l.table l.invariant
    c.in-Some.line.0 c.in-Some.line.1.now _ _ c.in-Some.ensures (omega arith)
    (grind (arith, take-put_mid))
    (grind (arith, drop-put_mid))
