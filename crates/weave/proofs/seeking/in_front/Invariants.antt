-- Behind the first term that lacks v none holds it.
use Rattle.std.proofs.Common.{◌≡◌, ◌-◌, ◌<◌}
use Rattle.rules.specs.Values.{bit}
use Rattle.words.specs.Listed.{set_of}
use Rattle.weave.proofs.seeking.in_front.Given as goal

abbrev pub invariant-loop-i : goal.invariant-loop-i
invariant-loop-i l = 0 < l.i → bit (set_of l.terms (l.i - 1)) l.v ≡ 1
