-- One word after the other.
use Rattle.std.proofs.Common.{◌≡◌, drop}
use lib.Seq.{paste}
use Rattle.words.proofs.stretches.copy.Given as goal

abbrev pub invariant-loop-k : goal.invariant-loop-k
invariant-loop-k l = l.target ≡ paste l.initial.target l.to (drop l.from l.words) l.k
