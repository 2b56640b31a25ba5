-- So far every step has named a gate, or not.
use Rattle.std.proofs.Common.{◌≡◌, take}
use Rattle.rules.specs.Each.{every}
use Rattle.rules.specs.Judging.{is_gate}
use Rattle.checks.proofs.names_gates.Given as goal

abbrev pub invariant-loop-v : goal.invariant-loop-v
invariant-loop-v l = l.right ≡ every (is_gate l.c) (take l.v-index l.order)
