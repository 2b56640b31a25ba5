-- `product` below 0 and from 0 on: the sizes are multiplied, and the word is dropped to l bits. Assumes nothing.
use mathlib.Core.Bool.{xor}
use Rattle.std.proofs.Common.{◌≤◌, ◌∙◌, arith}
use Rattle.rules.specs.Product.{modulo}
use Rattle.product.proofs.Readings.{outputs_fit, from_zero, product_of}
use Rattle.product.proofs.product.Goals as goal

pub returns-then-negative : goal.returns-then-negative
unfolding xor
returns-then-negative c =
    let l : c.outputs-l.result ≤ 64 = rw c.outputs-l.ensures (outputs_fit _ _ (omega arith)) in
    c.dropped.ensures
    ∙ from_zero _ _ _ l c.wrapping_neg.ensures
    ∙ product_of _ _ _ _ c.outputs-l.ensures c.size.ensures c.size-2.ensures c.negative.ensures c.negative-2.ensures c.if-negative.true

pub returns-else-negative : goal.returns-else-negative
unfolding modulo xor
returns-else-negative c =
    c.dropped-else-negative.ensures
    ∙ product_of _ _ _ _ c.outputs-l.ensures c.size.ensures c.size-2.ensures c.negative.ensures c.negative-2.ensures c.if-negative.false
