-- `sections::pass` meets its contract. The loop's invariant: the first k lines are right, and `rest` is the text behind them. Assumes nothing.
use Rattle.std.proofs.Common.{◌≡◌, []}
use Rattle.rules.specs.Reading.{found, lines}
use Rattle.lines.specs.Sections.{bare}
use Rattle.lines.proofs.sections.pass.Given as goal

abbrev pub invariant-loop-k : goal.invariant-loop-k
invariant-loop-k g l = bare (lines l.k (g.L.Lines.rule l.section) l.text) ≡ found [] l.rest
