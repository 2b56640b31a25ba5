-- After each turn: what `Going` says of the steps so far.
use Rattle.rules.specs.Judging.{set_width}
use Rattle.words.specs.Stored.{decoded}
use Rattle.judge.proofs.Going.{Going}
use Rattle.judge.proofs.run.run.Given as goal

abbrev pub invariant-loop-k : goal.invariant-loop-k
invariant-loop-k l =
    let b = l.block.block in
    Going b.counts b.table.now l.limit l.order (decoded (set_width b.counts) l.held l.initial.store) l.initial.store l.initial.scratch l.initial.log l.initial.occurrences
    l.k l.left l.store l.scratch l.log l.occurrences
