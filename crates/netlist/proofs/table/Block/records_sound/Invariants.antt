-- So far every record's test has held, or not.
use Rattle.std.proofs.Common.{◌≡◌}
use Rattle.rules.specs.Each.{each}
use Rattle.rules.specs.Netlist.{gate, record_at, record_sound}
use Rattle.netlist.proofs.table.Block.records_sound.Given as goal

abbrev pub invariant-loop-k : goal.invariant-loop-k
invariant-loop-k l = l.sound ≡ each l.k (λ j. record_sound (gate l.self.counts j) (record_at l.self.counts l.self.table.now (gate l.self.counts j)))
