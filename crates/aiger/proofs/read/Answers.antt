-- `read` meets its contract, from what both passes ensure. Assumes nothing.
use Rattle.std.proofs.Common.{arith}
use Rattle.std.proofs.lemmas.Grind.{common_steps}
use Rattle.std.proofs.lemmas.List.{take_rest}
use Rattle.aiger.proofs.Passes.{read_refused, right_room, read_right}
use Rattle.aiger.proofs.read.Goals as goal

pub returns-in_err-counts : goal.returns-in_err-counts
returns-in_err-counts c = read_refused _ _ _ _ c.from_residual.ensures c.in_err-counts.ensures

pub store-gates-requires-clause-room : goal.store-gates-requires-clause-room
store-gates-requires-clause-room c = omega (arith, right_room c.in_ok-counts.ensures)

pub slice_bounds-store-count : goal.slice_bounds-store-count
slice_bounds-store-count c = omega (arith, right_room c.in_ok-counts.ensures)

pub store-requires-clause-room : goal.store-requires-clause-room
store-requires-clause-room c = let h = right_room c.in_ok-counts.ensures in grind (arith, common_steps)

pub slice_bounds-store-start : goal.slice_bounds-store-start
slice_bounds-store-start c = omega (arith, right_room c.in_ok-counts.ensures)

pub returns : goal.returns
returns c =
    let h = right_room c.in_ok-counts.ensures in
    let part = take_rest c.store-gates.new.table c.in_ok-counts.counts.o in
    read_right _ _ _ _ _ _ _ _ _ _ c.in_ok-counts.ensures c.store-gates.ensures c.store.ensures c.store-gates.auto.table part c.store.auto.table
    (grind (arith, common_steps))
