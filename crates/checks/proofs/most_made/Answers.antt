-- `most_made` names the number of each kind. Assumes nothing.
use Rattle.rules.specs.Judging.{most_made}
use Rattle.checks.proofs.most_made.Goals as goal

pub returns-in-Gates : goal.returns-in-Gates
unfolding most_made
returns-in-Gates c = rw c.in-Gates.is

pub returns-in-Cells : goal.returns-in-Cells
unfolding most_made
returns-in-Cells c = rw c.in-Cells.is
