-- Too short a word, or what the evaluator says.
use Rattle.exports.specs.Exported.{named}
use Rattle.exports.proofs.Givings.{evaluate_short, evaluate_refused, evaluate_given}
use Rattle.exports.proofs.evaluating.hraskell_evaluate.Goals as goal

pub returns-then-word-lt1 : goal.returns-then-word-lt1
returns-then-word-lt1 c =
    let a = c.args in
    rw c.refused.ensures (evaluate_short (named a.m a.i a.l a.o a.a a.cells) a.table.now a.x a.y a.word.now c.if-word-lt1.true)

pub returns-in-Err : goal.returns-in-Err
returns-in-Err c =
    let a = c.args in
    rw (c.refused-in-Err.ensures) (rw c.counts-counts.ensures at (evaluate_refused _ _ _ _ a.word.now _ c.evaluate.ensures _ c.if-word-lt1.false c.in-Err.is))

pub returns-in-Ok : goal.returns-in-Ok
returns-in-Ok c =
    let a = c.args in
    rw c.counts-counts.ensures at (evaluate_given _ _ _ _ a.word.now _ c.evaluate.ensures _ _ c.if-word-lt1.false c.in-Ok.is c.put.ensures)
