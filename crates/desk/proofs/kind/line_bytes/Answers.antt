-- `desk::kind::line_bytes` meets its contract: the line of `ms` has a byte more. Assumes nothing.
use Rattle.desk.proofs.KindLine.{short_line, long_line}
use Rattle.desk.proofs.kind.line_bytes.Goals as goal

pub returns-then-kind-lt4 : goal.returns-then-kind-lt4
returns-then-kind-lt4 c = short_line c.args.kind c.if-kind-lt4.true

pub returns : goal.returns
returns c = long_line c.args.kind c.if-kind-lt4.false
