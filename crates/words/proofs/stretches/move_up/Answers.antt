use Rattle.std.proofs.Common.{◌-◌, arith}
use Rattle.words.proofs.Writing.{raise_none, raise_more, raise_all}
use Rattle.words.proofs.stretches.move_up.Goals as goal

pub loop-k-init : goal.loop-k-init
loop-k-init c = let a = c.args in
    raise_none a.words.now a.from a.to a.n

pub loop-k-preserved : goal.loop-k-preserved
loop-k-preserved c = let a = c.args in
    let l = c.loop-k in
    raise_more a.words.now l.words a.from a.to a.n l.k (l.k - 1) (omega arith) (omega arith) (omega arith) (omega arith) l.invariant

pub returns : goal.returns
returns c = let a = c.args in
    let l = c.loop-k in
    raise_all a.words.now l.words a.from a.to a.n l.k (omega arith) l.invariant
