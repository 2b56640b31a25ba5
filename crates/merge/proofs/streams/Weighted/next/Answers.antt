-- A multiplier that is 0 gives no weight, and any other gives some.
use Rattle.std.proofs.Common.{◌≡◌, ◌≤◌, ap, arith}
use borrow.Author.Count.{below_more}
use mir.Syntax.{w16}
use mir.Val.{of_z}
use Rattle.merge.specs.Heads.{weight_at}
use Rattle.merge.proofs.Scaled.{from_bits}
use Rattle.merge.proofs.Flow.{weight_none, weight_some}
use Rattle.merge.proofs.streams.Weighted.next.Goals as goal

pub returns-then-multiplier-ne0 : goal.returns-then-multiplier-ne0
returns-then-multiplier-ne0 c =
    let m = c.multiplier in
    record {
      least = omega arith;
      high = omega arith;
      none = λ i a b. c.loop-i.invariant i b a;
      some = λ l. weight_some c.args.self.now c.args.j c.loop-i.i m.result l m.ensures (λ e. c.if-multiplier-ne0.true (ap (of_z w16) e));
    }

pub loop-i-preserved : goal.loop-i-preserved
loop-i-preserved c =
    let s = c.args.self.now in
    let m = c.multiplier in
    below_more (λ i. c.args.low ≤ i → weight_at s c.args.j i ≡ 0) c.loop-i.i c.loop-i.invariant
    (λ _. weight_none s c.args.j c.loop-i.i m.result m.ensures (from_bits m.result 0 (record { sfits = m.type_inv }) c.if-multiplier-ne0.false))
