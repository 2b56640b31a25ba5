use Rattle.std.proofs.Common.{◌≡◌, ◌+◌, arith}
use Rattle.poly.proofs.Settled.{store_more, scratch_more}
use Rattle.poly.proofs.settling.hand_over.Goals as goal

pub loop-done-preserved : goal.loop-done-preserved
loop-done-preserved c =
    let a = c.args in
    let l = c.loop-done in
    let next : c.min-next.result ≡ l.done + 512 = omega arith in
    record {
      within = omega arith;
      given = rw next at (store_more l.done c.min-next.result a.scratch.now a.store.now l.store l.scratch c.copy.new.target c.clear.new.words (omega arith) (omega arith) l.invariant.given l.invariant.left c.copy.ensures);
      left = rw next at (scratch_more l.done c.min-next.result a.scratch.now a.store.now l.store l.scratch c.copy.new.target c.clear.new.words (omega arith) (omega arith) l.invariant.given l.invariant.left c.clear.ensures);
    }

pub returns : goal.returns
returns c =
    let e : c.loop-done.done ≡ c.args.end = omega arith in
    (rw e at c.loop-done.invariant.given, rw e at c.loop-done.invariant.left)

pub returns-2 : goal.returns-2
returns-2 c =
    let a = c.args in
    let l = c.loop-done in
    let next : c.min-next.result ≡ a.end = omega arith in
    (rw next at (store_more l.done c.min-next.result a.scratch.now a.store.now l.store l.scratch c.copy.new.target c.clear.new.words (omega arith) (omega arith) l.invariant.given l.invariant.left c.copy.ensures), rw next at (scratch_more l.done c.min-next.result a.scratch.now a.store.now l.store l.scratch c.copy.new.target c.clear.new.words (omega arith) (omega arith) l.invariant.given l.invariant.left c.clear.ensures))
