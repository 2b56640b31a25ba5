-- What is written and what is left of the streams add up to the whole; each turn leaves less.
use Rattle.std.proofs.Common.{◌-◌, get_or}
use Rattle.rules.specs.Each.{sum}
use Rattle.merge.specs.Heads.{count}
use Rattle.merge.proofs.Merges.{Going}
use Rattle.merge.proofs.streams.Streams.run.Given as goal

abbrev pub invariant-loop-limit : goal.invariant-loop-limit
invariant-loop-limit l = Going l.self l.limit l.initial.scratch l.scratch l.at l.out

abbrev pub decreases-loop-limit : goal.decreases-loop-limit
decreases-loop-limit l = sum (count l.self) (λ i. l.self.weighted.terms.count - get_or l.at i 0)
