-- Each test in turn.
use Rattle.std.proofs.Common.{arith}
use Rattle.std.proofs.lemmas.Bool.Decides.{nat_tests}
use Rattle.poly.specs.Stepping.{in_place}
use Rattle.poly.proofs.settling.goes_in_place.Goals.{then-z-le-FEW, else-z-le-FEW}
use Rattle.poly.proofs.settling.goes_in_place.Goals as goal

pub returns-then-z : goal.returns-then-z
unfolding in_place
returns-then-z c = elim c.if-z-le-FEW.branch [ then-z-le-FEW w ↦ grind (arith, nat_tests) | else-z-le-FEW w ↦ grind (arith, nat_tests) ]

pub returns-else-z : goal.returns-else-z
unfolding in_place
returns-else-z c = elim c.if-z-le-FEW.branch [ then-z-le-FEW w ↦ grind (arith, nat_tests) | else-z-le-FEW w ↦ grind (arith, nat_tests) ]
