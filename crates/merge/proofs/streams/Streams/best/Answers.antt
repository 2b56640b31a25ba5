-- The first head is the best of one.
use Rattle.std.proofs.Common.{◌≡◌, arith}
use Rattle.merge.proofs.Flow.{streams_few}
use Rattle.merge.proofs.streams.Streams.best.Goals as goal

pub loop-j-init : goal.loop-j-init
loop-j-init c = record { within = (streams_few c.args.self.now.weighted.gate).0; largest = λ i l. let e : i ≡ 0 = omega arith in rw e (omega arith) }
