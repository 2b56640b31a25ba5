-- Both parts in the store, and zeros behind them.
use Rattle.std.proofs.Common.{length, arith}
use Rattle.words.proofs.Stored.{stride_le}
use Rattle.poly.proofs.Settled.{shift_room, settled}
use Rattle.poly.proofs.settling.settle.Goals as goal

pub overflow_mul-at : goal.overflow_mul-at
overflow_mul-at c =
    let a = c.args in
    let p = c.requires in
    omega (arith, stride_le a.at a.n a.w (length a.store.now) p.1 p.2)

pub shift-requires : goal.shift-requires
shift-requires c =
    let a = c.args in
    let p = c.requires in
    shift_room a.n a.w a.at a.out (length a.store.now) p.1 p.2 p.3

pub returns : goal.returns
returns c =
    let a = c.args in
    let p = c.requires in
    (settled a.n a.w a.at a.out c.max.result a.store.now a.scratch.now c.shift.new.words c.hand_over.new.store c.clear.new.words p.1 p.2 p.3 p.4 (omega arith) (omega arith) (omega arith) p.5 c.shift.ensures c.hand_over.ensures.0 c.clear.ensures, c.hand_over.ensures.1)
