-- The first word first: what is still to be moved stands behind what is written.
use Rattle.std.proofs.Common.{◌≡◌, drop}
use lib.Seq.{paste}
use Rattle.words.proofs.stretches.move_down.Given as goal

abbrev pub invariant-loop-k : goal.invariant-loop-k
invariant-loop-k l = l.words ≡ paste l.initial.words l.to (drop l.from l.initial.words) l.k
