use Rattle.std.proofs.Common.{arith}
use Rattle.lines.proofs.Digits.{passed_more}
use Rattle.rules.specs.Reading.{digit}
use Rattle.lines.proofs.fields.digits.Goals as goal

pub loop-count-preserved : goal.loop-count-preserved
unfolding digit
loop-count-preserved c =
    let l = c.loop-count in
    passed_more c.args.text.now l.value l.count l.invariant (omega arith) (cc c.is_ascii_digit.ensures.value) c.from.result (omega arith) c.from.ensures
