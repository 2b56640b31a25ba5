-- Too short an answer, or what the judge says of the block that the host names.
use Rattle.exports.proofs.Givings.{judge_short, judge_refused, judge_given}
use Rattle.exports.proofs.judging.hraskell_judge.Goals as goal

pub returns-then-answer-lt7 : goal.returns-then-answer-lt7
returns-then-answer-lt7 c = rw c.refused.ensures (judge_short _ _ c.if-answer-lt7.true)

pub returns-in-Ok : goal.returns-in-Ok
returns-in-Ok c =
    let judged = rw c.counts-counts.ensures at c.judge-judged.ensures in
    judge_given _ _ _ _ _ _ _ judged _ c.put_answer.result c.put_answer.new.answer c.if-answer-lt7.false c.in-Ok.is c.put_answer.ensures

pub returns-in-Err : goal.returns-in-Err
returns-in-Err c =
    let judged = rw c.counts-counts.ensures at c.judge-judged.ensures in
    rw c.refused-in-Err.ensures (judge_refused _ _ _ _ _ _ _ judged _ c.if-answer-lt7.false c.in-Err.is)
