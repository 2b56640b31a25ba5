use mathlib.Core.List.{[], ◌∷◌}
use Prim.Native.Nat.{◌+◌, ◌-◌, ◌*◌, ◌^◌}
use native.Mathlib.Omega.{arith}
use lib.Pow.{pow_pos}
use Rattle.rules.specs.Each.{joined}
use Rattle.rules.specs.Polynomial.{minus}
use Rattle.words.proofs.Numbers.{one_shifted}
use Rattle.start.specs.Start.{single, addend_terms}
use Rattle.start.proofs.Weighing.{shifted_le, less_one, minus_more, weighs_none, weighs_then, weighs_again}
use Rattle.start.proofs.weights.Weights.weigh_addend.Goals as goal

pub loop-k-init : goal.loop-k-init
unfolding addend_terms joined minus
loop-k-init c =
    weighs_none _

pub loop-k-preserved : goal.loop-k-preserved
loop-k-preserved c =
    let l = c.loop-k in
    let v = 2 * c.args.n + 1 + l.k in
    let bit = one_shifted l.k (omega arith) in
    let least = shifted_le l.k l.self.l (omega arith) (omega arith) in
    rw (minus_more _ c.args.n l.k)
    (weighs_then (λ k. ((2 ^ k - 1) * 2 ^ l.k, single v) ∷ []) l.invariant
    (weighs_again _ _ (single v) (less_one (2 ^ l.self.l) (2 ^ l.k) (pow_pos l.self.l) (rw bit at least)) (rw bit at c.take.ensures)))
