-- The test, computed over each part of the table of the source, passes.
use mathlib.Core.Path.{◌≡◌, refl}
use native.Mathlib.Omega.{arith}
use Rattle.rows.proofs.Tested.{rows_from, tested_right}
use Rattle.rows.proofs.part.Goals as goal

pub returns-in-0 : goal.returns-in-0
unfolding rows_from
returns-in-0 c = tested_right 0 _ _ c.in-0.is refl

pub returns-in-1 : goal.returns-in-1
unfolding rows_from
returns-in-1 c = tested_right 1 _ _ c.in-1.is refl

pub returns-in-2 : goal.returns-in-2
unfolding rows_from
returns-in-2 c = tested_right 2 _ _ c.in-2.is refl

pub returns-in-3 : goal.returns-in-3
unfolding rows_from
returns-in-3 c = tested_right 3 _ _ c.in-3.is refl

pub returns-in-4 : goal.returns-in-4
unfolding rows_from
returns-in-4 c = tested_right 4 _ _ c.in-4.is refl

pub returns-in-5 : goal.returns-in-5
unfolding rows_from
returns-in-5 c = tested_right 5 _ _ c.in-5.is refl

pub returns-in-6 : goal.returns-in-6
unfolding rows_from
returns-in-6 c = tested_right 6 _ _ c.in-6.is refl

pub returns-in-7 : goal.returns-in-7
unfolding rows_from
returns-in-7 c = tested_right 7 _ _ c.in-7.is refl

pub returns-in-8 : goal.returns-in-8
unfolding rows_from
returns-in-8 c = tested_right 8 _ _ c.in-8.is refl

pub returns-in-9 : goal.returns-in-9
unfolding rows_from
returns-in-9 c = tested_right 9 _ _ c.in-9.is refl

pub returns-in-10 : goal.returns-in-10
unfolding rows_from
returns-in-10 c = tested_right 10 _ _ c.in-10.is refl

pub returns-in-11 : goal.returns-in-11
unfolding rows_from
returns-in-11 c = tested_right 11 _ _ c.in-11.is refl

pub returns-in-12 : goal.returns-in-12
unfolding rows_from
returns-in-12 c = tested_right 12 _ _ c.in-12.is refl

pub returns-in-13 : goal.returns-in-13
unfolding rows_from
returns-in-13 c = tested_right 13 _ _ c.in-13.is refl

pub returns-in-14 : goal.returns-in-14
unfolding rows_from
returns-in-14 c = tested_right 14 _ _ c.in-14.is refl

pub returns-in_default : goal.returns-in_default
unfolding rows_from
returns-in_default c = tested_right 15 _ _ (let high : c.args.high ≡ 15 = omega arith in high) refl
