-- `tables::store` meets its contract. The loop's invariant: the numbers of the first k lines stand in the table. Assumes nothing.
use Rattle.std.proofs.Common.{◌*◌}
use Rattle.rules.specs.Reading.{lines}
use Rattle.aiger.specs.Stored.{Stored}
use Rattle.aiger.proofs.tables.store.Given as goal

abbrev pub invariant-loop-k : goal.invariant-loop-k
invariant-loop-k g l = Stored (lines l.k (g.L.Lines.rule l.section) l.text) l.rest (g.row.N * l.k) l.initial.table l.table
