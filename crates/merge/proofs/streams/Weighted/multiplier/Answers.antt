-- The set of a term is the one that its words read.
use Rattle.std.proofs.Common.{◌∙◌}
use mir.Syntax.{w16}
use mir.Facts.{to_z-of_z}
use Rattle.words.proofs.Stored.{decoded_set}
use Rattle.merge.proofs.streams.Weighted.multiplier.Goals as goal

pub returns : goal.returns
returns c =
    let t = c.args.self.now.terms in
    let m = c.multiplier_of in
    let set = decoded_set t.width t.count c.args.i t.words.now c.requires.0 in
    to_z-of_z {w = w16} (record { sfits = m.type_inv }) ∙ rw (c.set_at.ensures, ← set) at m.ensures
