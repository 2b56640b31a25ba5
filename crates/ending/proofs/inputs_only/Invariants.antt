-- From the top down to the gates' lowest, the first set has no variable from v on.
use Rattle.std.proofs.Common.{◌^◌, ◌<◌}
use Rattle.rules.specs.Judging.{set_width}
use Rattle.words.specs.Numbers.{num, words_at}
use Rattle.ending.proofs.inputs_only.Given as goal

abbrev pub invariant-loop-v : goal.invariant-loop-v
invariant-loop-v l = (l.fn.c.i < l.v) × (num (words_at l.store 1 (set_width l.fn.c)) < 2 ^ l.v)
