-- `write_term` writes a term over zeros: the coefficient, then a mark for each variable. Assumes nothing.
use native.Mathlib.Omega.{arith}
use Rattle.start.proofs.Words.{term_written}
use Rattle.start.proofs.terms.write_term.Goals as goal

pub returns : goal.returns
returns c =
    let a = c.args in
    term_written a.store.now c.mark.new.store c.mark-2.new.store a.t a.w a.c a.x a.y (omega arith) c.mark.ensures c.mark-2.ensures
