-- Each that the set has counts as its bit of the subset.
use Rattle.std.proofs.Common.{eq-eqb, arith}
use borrow.Author.Tests.{ne_eqb}
use Rattle.merge.specs.Streams.{held_in}
use Rattle.merge.proofs.streams.held_in.Goals as goal

pub returns-then-g-eq0 : goal.returns-then-g-eq0
unfolding held_in
returns-then-g-eq0 c =
    rw (eq-eqb _ 0 c.if-g-eq0.true, ← c.holds-y.ensures, ← c.holds-x.ensures) (omega arith)

pub returns : goal.returns
unfolding held_in
returns c =
    rw (ne_eqb _ 0 c.if-g-eq0.false, ← c.holds-z.ensures, ← c.holds-y.ensures, ← c.holds-x.ensures)
