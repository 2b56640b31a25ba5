-- One stretch after the other.
use Rattle.std.proofs.Common.{◌≡◌, ◌≤◌, ◌++◌, take, drop, replicate}
use Rattle.poly.proofs.settling.hand_over.Given as goal

abbrev pub invariant-loop-done : goal.invariant-loop-done
invariant-loop-done l = record {
  within : l.done ≤ l.end;
  given : l.store ≡ take l.done l.initial.scratch ++ drop l.done l.initial.store;
  left : l.scratch ≡ replicate l.done 0 ++ drop l.done l.initial.scratch;
}
