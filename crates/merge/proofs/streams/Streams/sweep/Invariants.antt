-- One head after the other.
use Rattle.merge.specs.Heads.{set_in}
use Rattle.merge.proofs.Sweeps.{Sweeping}
use Rattle.merge.proofs.streams.Streams.sweep.Given as goal

abbrev pub invariant-loop-j : goal.invariant-loop-j
invariant-loop-j l = Sweeping l.self (set_in l.self l.h l.b) l.j l.initial.at l.at l.c
