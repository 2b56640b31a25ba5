use Rattle.std.proofs.Common.{◌+◌, ◌-◌, ◌/◌, sym, ◌∙◌, arith}
use Rattle.weave.proofs.Places.{inside, over_yes}
use Rattle.weave.proofs.seeking.above.Goals as goal

pub over-requires : goal.over-requires
over-requires c =
    let a = c.args in
    let l = c.loop-left in
    inside a.terms.now a.k a.from a.to a.others.now a.t c.requires (l.left.low + (l.left.high - l.left.low) / 2) (omega (arith, l.invariant.high))

pub loop-left-preserved-then-over : goal.loop-left-preserved-then-over
loop-left-preserved-then-over c =
    let a = c.args in
    let l = c.loop-left in
    record {
      low = omega (arith, l.invariant.low);
      ordered = omega arith;
      high = l.invariant.high;
      above = over_yes a.terms.now a.k a.from a.to a.others.now a.t c.requires (l.left.low + (l.left.high - l.left.low) / 2) (omega (arith, l.invariant.high)) (sym c.over.ensures ∙ c.if-over.true);
      under = l.invariant.under;
    }
