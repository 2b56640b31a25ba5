-- So far the order of the gates passed is written.
use Rattle.std.proofs.Common.{◌≡◌, ◌-◌, length}
use Rattle.rules.specs.Each.{listed}
use Rattle.desk.specs.Written.{Written}
use Rattle.desk.proofs.order.put_falling.Given as goal

abbrev pub invariant-loop-k : goal.invariant-loop-k
invariant-loop-k l =
    (length l.order ≡ length l.initial.order) × Written l.initial.order 0 (listed l.k (λ j. l.counts.m - j)) l.order l.k
