use mathlib.Core.Path.{refl}
use native.Mathlib.Omega.{arith}
use lib.Seq.{take_all}
use Rattle.rules.specs.Each.{every}
use Rattle.rules.specs.Judging.{is_gate}
use Rattle.checks.proofs.Checked.{every_more}
use Rattle.checks.proofs.names_gates.Goals as goal

pub loop-v-init : goal.loop-v-init
unfolding every
loop-v-init c = refl

pub loop-v-preserved : goal.loop-v-preserved
unfolding is_gate
loop-v-preserved c = every_more (is_gate c.args.c) c.args.order.now c.loop-v.v-index _ _ (omega arith) c.loop-v.invariant refl

pub returns : goal.returns
returns c = rw (← take_all c.loop-v.v-index c.args.order.now c.loop-v-test.false) c.loop-v.invariant
