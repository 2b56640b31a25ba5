-- The line of what is said.
use Rattle.std.proofs.Common.{rules}
use Rattle.rules.specs.Says.{says}
use Rattle.desk.proofs.Lines.{formatted_lined}
use Rattle.desk.proofs.KindLine.{adding_known}
use Rattle.desk.proofs.line.Goals as goal

pub returns : goal.returns
returns c =
    formatted_lined c.args.input.now (says c.said.result) c.is_some_and.result c.answer_line.result
    c.said.ensures (adding_known c.args.input.now c.kind_asked-kind.result c.is_some_and.result c.kind_asked-kind.ensures (search rules)) c.answer_line.ensures
