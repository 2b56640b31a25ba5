use Rattle.std.proofs.Common.{arith}
use Rattle.std.proofs.lemmas.Grind.{common_steps}
use Rattle.lines.proofs.Scans.{reads}
use Rattle.lines.proofs.fields.fields.Goals as goal

pub loop-k-init : goal.loop-k-init
loop-k-init g c = (grind (arith, common_steps), grind (arith, reads))

pub loop-k-preserved : goal.loop-k-preserved
loop-k-preserved g c = (grind (arith, common_steps), grind (arith, reads))
