use mathlib.Core.Path.{◌≡◌, refl}
use Prim.Native.Nat.{◌-◌}
use native.Mathlib.Omega.{arith}
use lib.ListN.{length-set}
use Rattle.rules.specs.Desk.{falling}
use Rattle.desk.proofs.Orders.{falling_none, falling_more}
use Rattle.desk.proofs.order.put_falling.Goals as goal

pub loop-k-init : goal.loop-k-init
loop-k-init c = (refl, falling_none c.args.order.now c.args.counts.m)

pub loop-k-preserved : goal.loop-k-preserved
loop-k-preserved c =
    let a = c.args in
    let l = c.loop-k in
    (simp length-set l.invariant.0, falling_more a.order.now l.order a.counts.m l.k (a.counts.m - l.k) (omega arith) refl l.invariant.1)

pub returns : goal.returns
unfolding falling
returns c =
    let e : c.loop-k.k ≡ c.args.counts.a = omega arith in
    rw e at c.loop-k.invariant.1
