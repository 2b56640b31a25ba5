use mathlib.Core.Path.{sym, ◌∙◌}
use native.Mathlib.Omega.{arith}
use Rattle.ending.proofs.Ended.{ending_halves}
use Rattle.ending.proofs.answer.Goals as goal

pub soonest-half-requires : goal.soonest-half-requires
soonest-half-requires c =
    ending_halves c.args.block.now.block.fitting c.requires (omega (arith, c.if-count-eq0.false)) (sym c.inputs_only.ensures ∙ c.if-not-inputs_only.false)
