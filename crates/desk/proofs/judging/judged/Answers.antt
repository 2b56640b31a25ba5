-- `desk::judging::judged` meets its contract: the order is the front of its array, and the buffers are long enough. Assumes nothing.
use native.Mathlib.Omega.{arith}
use mathlib.Core.Path.{sym, ◌∙◌}
use lib.Seq.{length-take-le}
use Rattle.desk.proofs.Orders.{falling_front}
use Rattle.desk.proofs.Buffers.{desk_judged}
use Rattle.desk.proofs.judging.judged.Goals as goal

pub slice_bounds-order-end : goal.slice_bounds-order-end
slice_bounds-order-end c =
    let a = c.args in
    let put = c.put_falling-count in
    let front = falling_front a.counts _ put.new.order put.result put.ensures in
    omega (arith, front.0, put.auto)

pub slice_bounds-judge_unlogged-end : goal.slice_bounds-judge_unlogged-end
slice_bounds-judge_unlogged-end c =
    let a = c.args in
    let put = c.put_falling-count in
    let front = falling_front a.counts _ put.new.order put.result put.ensures in
    sym (length-take-le put.result put.new.order (omega (arith, front.0, put.auto)))

pub returns : goal.returns
returns c =
    let a = c.args in
    let known = c.requires in
    let put = c.put_falling-count in
    let front = falling_front a.counts _ put.new.order put.result put.ensures in
    let judged = c.judge_unlogged in
    judged.ensures.said
    ∙ desk_judged a.kind a.counts a.table.now _ _ known.0 known.1 known.2 front.1 (omega (arith, known.1))
