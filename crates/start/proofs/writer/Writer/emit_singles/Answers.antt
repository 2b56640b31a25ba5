use Rattle.start.proofs.Loops.{singles_turn, singles_none}
use Rattle.start.proofs.Writing.{leads_more, leads_ended, leads_none}
use Rattle.start.proofs.writer.Writer.emit_singles.Goals as goal

pub loop-k-preserved : goal.loop-k-preserved
loop-k-preserved c =
    let a = c.args in
    leads_more c.loop-k.invariant (λ rest. singles_turn a.weights.now a.low c.loop-k.k rest c.loop-k-test.true) c.in_ok-emit.ensures

pub returns-in_err-emit : goal.returns-in_err-emit
returns-in_err-emit c =
    let a = c.args in
    leads_none c.from_residual.ensures
    (leads_more c.loop-k.invariant (λ rest. singles_turn a.weights.now a.low c.loop-k.k rest c.loop-k-test.true) c.in_err-emit.ensures)

pub returns : goal.returns
returns c =
    let a = c.args in
    leads_ended c.loop-k.invariant (λ rest. singles_none a.weights.now a.low c.loop-k.k rest c.loop-k-test.false)
