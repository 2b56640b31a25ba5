use Rattle.std.proofs.Common.{◌+◌, ◌-◌, sym, ◌∙◌, arith}
use Rattle.weave.proofs.Places.{inside, over_yes}
use Rattle.weave.proofs.seeking.leap.Goals as goal

pub over-requires : goal.over-requires
over-requires c =
    let a = c.args in
    let l = c.loop-step in
    inside a.terms.now a.k a.from a.to a.others.now a.t c.requires (l.low + (l.step - 1)) (omega arith)

pub loop-step-preserved : goal.loop-step-preserved
loop-step-preserved c =
    let a = c.args in
    let l = c.loop-step in
    (omega arith, omega arith, omega arith, over_yes a.terms.now a.k a.from a.to a.others.now a.t c.requires (l.low + (l.step - 1)) (omega arith) (sym c.over.ensures ∙ c.if-not-over.false))
