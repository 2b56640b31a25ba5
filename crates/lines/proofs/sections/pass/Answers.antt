use Rattle.lines.proofs.Scans.{lines_more}
use Rattle.lines.proofs.sections.pass.Goals as goal

pub loop-k-preserved : goal.loop-k-preserved
loop-k-preserved g c =
    let l = c.loop-k in
    lines_more (g.L.Lines.rule c.args.section.now) c.args.text.now l.k l.rest.now l.invariant
    c.in-Some.field-0-0 c.in-Some.behind.now c.in-Some.ensures
