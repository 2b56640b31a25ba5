-- The best of the heads looked at.
use Rattle.std.proofs.Common.{ℕ, ◌<◌, ◌≤◌}
use Rattle.merge.specs.Heads.{count, rank}
use Rattle.merge.proofs.streams.Streams.best.Given as goal

abbrev pub invariant-loop-j : goal.invariant-loop-j
invariant-loop-j l = record {
  within : l.b < count l.self;
  largest : (i : ℕ) → i < l.j → rank l.self l.at i ≤ rank l.self l.at l.b;
}
