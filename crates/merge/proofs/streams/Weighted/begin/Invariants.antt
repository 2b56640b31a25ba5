-- One stream after the other.
use Rattle.std.proofs.Common.{ℕ, ◌<◌, get_or}
use Rattle.merge.specs.Heads.{Next}
use Rattle.merge.proofs.streams.Weighted.begin.Given as goal

abbrev pub invariant-loop-j : goal.invariant-loop-j
invariant-loop-j l = (i : ℕ) → i < l.j → Next l.self i 0 (get_or l.at i 0)
