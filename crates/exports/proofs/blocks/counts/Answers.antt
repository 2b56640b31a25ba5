-- `counts` gives the counts that a host names. Assumes nothing.
use Rattle.exports.specs.Exported.{named}
use Rattle.exports.proofs.blocks.counts.Goals as goal

pub returns : goal.returns
unfolding named
returns c = rw c.kind_of_record-records.ensures
