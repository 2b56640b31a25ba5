-- `raw` counts what its terms come to; nothing is above eight times the most terms. Assumes nothing.
use native.Mathlib.Nat.{mul-le-mul}
use native.Mathlib.Omega.{arith}
use Rattle.judge.proofs.turn.raw.Goals as goal

pub overflow_mul-result : goal.overflow_mul-result
overflow_mul-result c = record { fits = omega (arith, c.requires, mul-le-mul c.requires.2 c.requires.0) }

pub overflow_add-result : goal.overflow_add-result
overflow_add-result c = record { fits = omega (arith, c.requires, mul-le-mul c.requires.2 c.requires.0) }
