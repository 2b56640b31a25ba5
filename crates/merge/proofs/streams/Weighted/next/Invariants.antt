-- What is passed has no weight in the stream.
use Rattle.std.proofs.Common.{◌≡◌, ℕ, ◌<◌, ◌≤◌}
use Rattle.merge.specs.Heads.{weight_at}
use Rattle.merge.proofs.streams.Weighted.next.Given as goal

abbrev pub invariant-loop-i : goal.invariant-loop-i
invariant-loop-i l = (i : ℕ) → i < l.i → l.low ≤ i → weight_at l.self l.j i ≡ 0
