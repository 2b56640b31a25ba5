-- `fields::digits` meets its contract. The loop's invariant: the digits passed, at most four, and their value so far. Assumes nothing.
use Rattle.lines.proofs.Digits.{Passed}
use Rattle.lines.proofs.fields.digits.Given as goal

abbrev pub invariant-loop-count : goal.invariant-loop-count
invariant-loop-count l = Passed l.text l.value l.count
