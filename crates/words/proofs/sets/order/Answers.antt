use Rattle.std.proofs.Common.{◌≡◌, suc, ◌-◌, sym, ap, ◌∙◌, Equal, arith}
use Rattle.std.specs.Cmp.{nat_cmp_is}
use Rattle.words.specs.Numbers.{num}
use Rattle.words.proofs.Numbers.{words_differ}
use Rattle.words.proofs.sets.order.Goals as goal

pub returns-then-is_ne : goal.returns-then-is_ne
returns-then-is_ne g c = λ xs ys p q.
    let a = p.count in
    let b = q.count in
    let at = c.loop-at.at - 1 in
    let e : suc at ≡ c.loop-at.at = omega arith in
    words_differ at xs ys _ _ _ (λ i h. p.words i (omega arith)) (λ i h. q.words i (omega arith)) (omega arith) (omega arith)
    (p.given at _ (omega arith) c.left.ensures) (q.given at _ (omega arith) c.right.ensures) (rw e (c.loop-at.invariant xs ys p q)) c.cmp-order.ensures (sym c.is_ne.ensures ∙ c.if-is_ne.true)

pub returns : goal.returns
returns g c = λ xs ys p q.
    let e : c.loop-at.at ≡ 0 = omega arith in
    nat_cmp_is _ _ Equal (ap num (rw e at (c.loop-at.invariant xs ys p q)))
