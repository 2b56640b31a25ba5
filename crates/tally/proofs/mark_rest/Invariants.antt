-- `mark_rest` counts one term after the other. The loop's invariant: the terms passed are counted. Assumes nothing.
use Rattle.std.proofs.Common.{◌-◌, take, drop}
use Rattle.rules.specs.Occurrences.{occurring}
use Rattle.words.specs.Listed.{terms_of}
use Rattle.tally.specs.Marks.{Marked}
use Rattle.tally.proofs.mark_rest.Given as goal

abbrev pub invariant-loop-i : goal.invariant-loop-i
invariant-loop-i l = Marked l.by (occurring (take (l.i - l.from) (drop l.from (terms_of l.terms)))) l.initial.numbers l.numbers
