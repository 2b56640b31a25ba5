-- `mark_set` marks one word after the other. The loop's invariant: the words passed are marked. Assumes nothing.
use Rattle.rules.specs.Values.{bit}
use Rattle.words.specs.Numbers.{num, words_at}
use Rattle.tally.specs.Marks.{Marked}
use Rattle.tally.proofs.mark_set.Given as goal

abbrev pub invariant-loop-j : goal.invariant-loop-j
invariant-loop-j l = Marked l.by (bit (num (words_at l.words l.at l.j))) l.initial.numbers l.numbers
