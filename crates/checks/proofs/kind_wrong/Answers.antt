-- `kind_wrong` tests the kind's number first, then the inputs and the outputs of a block of it. Assumes nothing.
use native.Mathlib.Omega.{arith}
use Rattle.rules.specs.Judging.{misfits, kind_wrong}
use Rattle.rules.specs.Product.{kind_of}
use Rattle.rules.proofs.Sound.{right_counts}
use Rattle.product.proofs.Readings.{shares_some, width_half}
use Rattle.checks.proofs.kind_wrong.Goals as goal

pub returns-then-kind_unknown : goal.returns-then-kind_unknown
unfolding kind_wrong
returns-then-kind_unknown c = rw (← c.kind_unknown.ensures, c.if-kind_unknown.true)

pub nonzero_rem-result : goal.nonzero_rem-result
nonzero_rem-result c = rw c.shares.ensures (shares_some _)

pub outputs-requires : goal.outputs-requires
outputs-requires c =
    omega (arith, c.operand_bits.ensures, width_half (kind_of c.args.kind) c.args.c, (right_counts _ c.requires).inputs)

pub returns : goal.returns
unfolding kind_wrong misfits
returns c =
    rw (← c.kind_unknown.ensures, c.if-kind_unknown.false, c.shares.ensures, c.outputs.ensures, c.operand_bits.ensures)
