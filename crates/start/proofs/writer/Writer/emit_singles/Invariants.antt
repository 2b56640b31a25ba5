-- `emit_singles` emits variables with their weights. The loop's invariant: those below k are left. Assumes nothing.
use Rattle.std.specs.Prelude.{Some}
use Rattle.start.specs.Start.{singles}
use Rattle.start.specs.Writing.{Leads}
use Rattle.start.proofs.writer.Writer.emit_singles.Given as goal

abbrev pub invariant-loop-k : goal.invariant-loop-k
invariant-loop-k l = Leads (singles l.weights l.low l.count) (singles l.weights l.low l.k) l.initial.self l.self (Some tt)
