-- `lent_short` compares lengths with products that fit. Assumes nothing.
use native.Mathlib.Omega.{arith}
use Rattle.rules.specs.Judging.{lent_short, scratch_needed, term_width, set_width}
use Rattle.checks.proofs.Checked.{made_few, lent_fits}
use Rattle.checks.proofs.lent_short.Goals as goal

pub overflow_mul-result : goal.overflow_mul-result
overflow_mul-result c = record { fits = lent_fits _ _ c.requires.0 (omega arith) }

pub overflow_mul-result-2 : goal.overflow_mul-result-2
overflow_mul-result-2 c =
    rw c.most_made.ensures (omega (arith, made_few c.args.c.records c.args.limit c.requires.1))

pub overflow_mul-result-3 : goal.overflow_mul-result-3
overflow_mul-result-3 c =
    let p = c.requires in
    record { fits = lent_fits _ _ p.0 (rw c.most_made.ensures (made_few _ _ p.1)) }

pub returns : goal.returns
unfolding lent_short scratch_needed term_width set_width
returns c = rw c.most_made.ensures
