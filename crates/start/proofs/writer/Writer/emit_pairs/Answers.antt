use Prim.Native.Nat.{◌^◌}
use Rattle.rules.specs.Product.{kind_of}
use Rattle.start.proofs.Loops.{pairs_turn, pairs_none}
use Rattle.start.proofs.Writing.{leads_more, leads_ended, leads_none}
use Rattle.start.proofs.writer.Writer.emit_pairs.Goals as goal

pub loop-i-preserved : goal.loop-i-preserved
loop-i-preserved c =
    let s = c.args.shape in
    leads_more c.loop-i.invariant (λ rest. pairs_turn (kind_of s.kind) (2 ^ s.l) s.n c.args.j c.loop-i.i rest c.loop-i-test.true)
    (rw c.product_weight.ensures at c.in_ok-emit.ensures)

pub returns-in_err-emit : goal.returns-in_err-emit
returns-in_err-emit c =
    let s = c.args.shape in
    leads_none c.from_residual.ensures
    (leads_more c.loop-i.invariant (λ rest. pairs_turn (kind_of s.kind) (2 ^ s.l) s.n c.args.j c.loop-i.i rest c.loop-i-test.true)
    (rw c.product_weight.ensures at c.in_err-emit.ensures))

pub returns : goal.returns
returns c =
    let s = c.args.shape in
    leads_ended c.loop-i.invariant (λ rest. pairs_none (kind_of s.kind) (2 ^ s.l) s.n c.args.j c.loop-i.i rest c.loop-i-test.false)
