-- `mark` puts one variable into a set that lies below it. Assumes nothing.
use native.Mathlib.Omega.{arith}
use Rattle.start.proofs.Words.{marked, unmarked}
use Rattle.start.proofs.terms.mark.Goals as goal

pub returns-then-v-gt0 : goal.returns-then-v-gt0
returns-then-v-gt0 c =
    let a = c.args in
    marked a.store.now c.turn.new.words a.at a.w a.v (omega arith) (omega arith) c.turn.ensures

pub returns-else-v-gt0 : goal.returns-else-v-gt0
returns-else-v-gt0 c =
    let a = c.args in
    unmarked a.store.now a.at a.w a.v (omega arith)
