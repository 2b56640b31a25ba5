-- The loop of `soonest`: of the best so far and the sets still to come, the soonest is that of all. Assumes nothing.
use mathlib.Core.Path.{◌≡◌}
use Prim.Native.Nat.{◌*◌}
use lib.ListN.{drop}
use Rattle.rules.specs.Judging.{soonest}
use Rattle.words.specs.Numbers.{num, words_at}
use Rattle.words.specs.Stored.{decoded}
use Rattle.ending.proofs.soonest.Given as goal

abbrev pub invariant-loop-k : goal.invariant-loop-k
invariant-loop-k l =
    soonest (2 * l.best) (drop l.k (decoded l.w l.count l.store)) ≡ soonest (num (words_at l.store 1 l.w)) (drop 1 (decoded l.w l.count l.store))
