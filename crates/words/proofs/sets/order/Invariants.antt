-- From the last word down: the words passed are equal.
use Rattle.std.proofs.Common.{◌≡◌, ℕ, List, drop}
use Rattle.words.specs.Reading.{Reads}
use Rattle.words.proofs.sets.order.Given as goal

abbrev pub invariant-loop-at : goal.invariant-loop-at
invariant-loop-at g l = (xs ys : List ℕ) → Reads (goal.L-post g l.left) l.k xs → Reads (goal.R-post g l.right) l.k ys → drop l.at xs ≡ drop l.at ys
