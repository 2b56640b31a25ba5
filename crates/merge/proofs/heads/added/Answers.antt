-- A number below 0 is 2^64 less as many: times x, that falls away modulo 2^l.
use Rattle.std.proofs.Common.{◌≡◌, ap, ◌∙◌}
use mir.Syntax.{w16, w64}
use mir.Val.{of_z}
use mir.Facts.{to_z-of_z}
use Rattle.merge.proofs.Scaled.{times_whole}
use Rattle.merge.proofs.heads.added.Goals as goal

pub returns : goal.returns
returns c =
    let same = c.from.ensures ∙ to_z-of_z {w = w16} c.ranges.k in
    let times : c.cast_unsigned-times.result ≡ of_z w64 c.args.k = c.cast_unsigned-times.ensures ∙ ap (of_z w64) (to_z-of_z {w = w64} (record { sfits = c.from.type_inv }) ∙ same) in
    rw times at c.sum.ensures ∙ times_whole c.args.c c.args.x c.args.l c.args.k c.ranges.k c.requires.0 c.requires.1
