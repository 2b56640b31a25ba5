-- From the top word down to v's: a word that is not 0 has variables above v, and then v's word decides.
use Rattle.std.proofs.Common.{◌*◌, ◌^◌, ◌<◌, ◌≤◌}
use Rattle.words.specs.Numbers.{num, words_at}
use Rattle.weave.proofs.seeking.leads.Given as goal

abbrev pub invariant-loop-k : goal.invariant-loop-k
invariant-loop-k l = (l.place ≤ l.k) × (num (words_at l.words 1 l.w) < 2 ^ (64 * l.k))
