-- `pass` goes over both lists. The loop's invariant: the numbers of what was passed before are now those of what was passed after. Assumes nothing.
use Rattle.std.proofs.Common.{◌+◌, ◌-◌, ◌≤◌, take}
use Rattle.rules.specs.Occurrences.{occurring}
use Rattle.words.specs.Listed.{terms_of}
use Rattle.tally.specs.Marks.{Moved}
use Rattle.tally.proofs.pass.Given as goal

abbrev pub invariant-loop-i : goal.invariant-loop-i
invariant-loop-i l =
    (l.i ≤ l.before.count) × (l.j ≤ l.after.count) × Moved (occurring (take l.i (terms_of l.before))) (occurring (take l.j (terms_of l.after))) l.initial.numbers l.numbers

abbrev pub decreases-loop-i : goal.decreases-loop-i
decreases-loop-i l = (l.before.count - l.i) + (l.after.count - l.j)
