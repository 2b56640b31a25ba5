-- None where v is not held; else the row of the table is which of x, y and z the set has.
use Rattle.std.proofs.Common.{◌≡◌, suc, ◌-◌, sym, ◌∙◌, arith, rules}
use Rattle.merge.specs.Streams.{multiplier_of, if_held}
use Rattle.merge.proofs.streams.multiplier_of.Goals as goal

pub returns-then-holds-eq0 : goal.returns-then-holds-eq0
unfolding multiplier_of if_held
returns-then-holds-eq0 c =
    rw (← c.holds.ensures, c.if-holds-eq0.true)

pub returns : goal.returns
unfolding multiplier_of if_held
returns c =
    let h : c.holds.result ≡ suc (c.holds.result - 1) = omega (arith, c.if-holds-eq0.false) in
    rw (← c.held_in.ensures, sym c.holds.ensures ∙ h) (search rules)
