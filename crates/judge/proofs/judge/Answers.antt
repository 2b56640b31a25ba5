-- What the calls leave is put together in Judged.antt.
use Rattle.std.proofs.Common.{rules, ◌≡◌, Err}
use Rattle.judge.proofs.Judged.{judged_stopped, judged_full, block_sound, run_ready, ran_closing, judged_last}
use Rattle.judge.proofs.judge.Goals as goal

pub returns-in_err-start : goal.returns-in_err-start
returns-in_err-start c =
    let a = c.args in
    let e : c.from_residual.result ≡ Err c.in_err-start.field-0.0 = search rules in
    rw e (judged_stopped a.c a.table.now a.kind a.limit a.order.now a.store.now a.scratch.now a.occurrences.now a.log.now
    (rw c.in_err-start.was at c.set_out.ensures))

pub returns-in_default : goal.returns-in_default
returns-in_default c =
    let a = c.args in
    judged_full a.c a.table.now a.kind a.limit a.order.now a.store.now a.scratch.now a.occurrences.now a.log.now
    (rw (c.in_ok-start.was, c.in_default.is) at c.set_out.ensures)

pub invariant_of-block : goal.invariant_of-block
invariant_of-block c =
    let a = c.args in
    let sound = block_sound a.c a.table.now a.kind a.limit a.order.now a.store.now a.scratch.now a.occurrences.now a.log.now
    (rw c.in_ok-start.was at c.set_out.ensures) in
    record { fitting = sound.fitting }

pub invariant_of-block-2 : goal.invariant_of-block-2
invariant_of-block-2 c =
    let a = c.args in
    record {
      sound = block_sound a.c a.table.now a.kind a.limit a.order.now a.store.now a.scratch.now a.occurrences.now a.log.now
          (rw c.in_ok-start.was at c.set_out.ensures);
    }

pub run-ran-requires : goal.run-ran-requires
run-ran-requires c =
    let a = c.args in
    run_ready a.c a.table.now a.kind a.limit a.order.now a.store.now a.scratch.now a.occurrences.now a.log.now
    (rw (c.in_ok-start.was, c.in-Some.is) at c.set_out.ensures)

pub closed-requires : goal.closed-requires
closed-requires c =
    let a = c.args in
    ran_closing a.c a.table.now a.kind a.limit a.order.now a.store.now a.scratch.now a.occurrences.now a.log.now
    (rw (c.in_ok-start.was, c.in-Some.is) at c.set_out.ensures) c.run-ran.ensures

pub returns : goal.returns
returns c =
    let a = c.args in
    judged_last a.c a.table.now a.kind a.limit a.order.now a.store.now a.scratch.now a.occurrences.now a.log.now
    (rw (c.in_ok-start.was, c.in-Some.is) at c.set_out.ensures) c.run-ran.ensures c.closed.ensures
