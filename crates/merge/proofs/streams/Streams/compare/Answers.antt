-- The words that the sets use are compared.
use Rattle.merge.proofs.Flow.{set_short}
use Rattle.merge.proofs.streams.Streams.compare.Goals as goal

pub returns : goal.returns
returns c =
    let s = c.args.self.now in
    let p = c.requires in
    rw (set_short s c.args.i c.args.j p.0 p.1, set_short s c.args.h c.args.b p.2 p.3, ← c.set_at-x.ensures, ← c.set_at-y.ensures) c.compare.ensures
