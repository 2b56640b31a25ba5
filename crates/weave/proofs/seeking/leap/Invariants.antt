-- All sets before one that is above are above.
use Rattle.std.proofs.Common.{◌-◌, ◌<◌, ◌≤◌}
use Rattle.words.specs.Listed.{terms_of}
use Rattle.words.specs.Numbers.{num, words_at}
use Rattle.weave.specs.Seeking.{Above}
use Rattle.weave.proofs.seeking.leap.Given as goal

abbrev pub invariant-loop-step : goal.invariant-loop-step
invariant-loop-step l = (l.from ≤ l.low) × (l.low ≤ l.to) × (0 < l.step) × Above (terms_of l.terms) (num (words_at l.others l.t l.terms.width)) l.from l.low

abbrev pub decreases-loop-step : goal.decreases-loop-step
decreases-loop-step l = l.to - l.low
