-- The coefficient, then one word after the other, each under its mask.
use Rattle.std.proofs.Common.{◌≡◌, ◌+◌}
use lib.Seq.{paste}
use Rattle.words.specs.Numbers.{words_at, masked}
use Rattle.words.proofs.terms.write.Given as goal

abbrev pub invariant-loop-k : goal.invariant-loop-k
invariant-loop-k l = l.target ≡ paste l.initial.target (l.t + 1) (masked (words_at l.words l.h l.w) (words_at l.masks l.a l.w)) l.k
