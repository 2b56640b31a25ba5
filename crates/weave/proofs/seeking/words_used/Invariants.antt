-- From the top word down to the first that is not 0.
use Rattle.std.proofs.Common.{◌*◌, ◌^◌, ◌<◌}
use Rattle.words.specs.Numbers.{num, words_at}
use Rattle.weave.proofs.seeking.words_used.Given as goal

abbrev pub invariant-loop-k : goal.invariant-loop-k
invariant-loop-k l = (0 < l.k) × (num (words_at l.words 1 l.terms.width) < 2 ^ (64 * l.k))
