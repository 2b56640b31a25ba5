-- The last word first: what is still to be moved stands in front of what is written.
use Rattle.std.proofs.Common.{◌≡◌, ◌+◌, ◌-◌, ◌++◌, take, drop}
use Rattle.words.proofs.stretches.move_up.Given as goal

abbrev pub invariant-loop-k : goal.invariant-loop-k
invariant-loop-k l = l.words ≡ take (l.to + l.k) l.initial.words ++ (take (l.n - l.k) (drop (l.from + l.k) l.initial.words) ++ drop (l.to + l.n) l.initial.words)
