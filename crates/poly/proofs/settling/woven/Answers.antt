-- Both lists woven. No room: nothing was moved. Room: the terms are in the store.
use Rattle.std.proofs.Common.{length, arith}
use Rattle.words.proofs.Stored.{length_decoded, stride_le}
use Rattle.poly.proofs.Numbered.{front_counts, made_counts, numbers_fit, numbers_full}
use Rattle.poly.proofs.Settled.{left_in, counted, to_settle, together_fits, together_full, together_none}
use Rattle.poly.proofs.settling.woven.Goals as goal

pub returns-in_err-p : goal.returns-in_err-p
returns-in_err-p c =
    let a = c.args in
    let g = rw c.in_err-p.was at c.weave.ensures in
    rw c.from_residual.ensures (together_none a.z _ a.store.now a.scratch.now c.weave.new.scratch c.requires.0 g.0 g.1, numbers_full a.z a.store.now a.scratch.now c.requires.0 c.requires.1 a.numbers.now g.0)

pub overflow_sub-held : goal.overflow_sub-held
overflow_sub-held c =
    let a = c.args in
    let g = rw c.in_ok-p.was at c.weave.ensures in
    omega (arith, g.0.1, length_decoded a.z.w a.z.n a.store.now)

pub returns-then-held-z : goal.returns-then-held-z
returns-then-held-z c =
    let a = c.args in
    let g = rw c.in_ok-p.was at c.weave.ensures in
    (together_full a.z c.in_ok-p.p _ a.store.now a.scratch.now c.weave.new.scratch c.requires.0 g.0 g.1 c.weave.auto.scratch c.clear.new.words (omega arith) c.clear.ensures, numbers_full a.z a.store.now a.scratch.now c.requires.0 c.requires.1 a.numbers.now (omega (arith, counted a.z c.in_ok-p.p _ a.store.now a.scratch.now c.weave.new.scratch c.requires.0 g.0 g.1 c.weave.auto.scratch)))

pub invariant_of-before : goal.invariant_of-before
invariant_of-before c =
    let z = c.args.z in
    let g = rw c.in_ok-p.was at c.weave.ensures in
    record { within = stride_le c.in_ok-p.p.at z.n z.w (length c.args.store.now) (left_in z c.in_ok-p.p _ c.args.store.now c.args.scratch.now c.weave.new.scratch c.requires.0 g.0 g.1 c.weave.auto.scratch) c.requires.0.task.room; narrow = c.requires.0.task.narrow }

pub mark_difference-requires : goal.mark_difference-requires
mark_difference-requires c =
    let a = c.args in
    let p = c.requires in
    let g = rw c.in_ok-p.was at c.weave.ensures in
    let before = front_counts a.z a.store.now a.scratch.now p.0 p.1 c.in_ok-p.p.at (left_in a.z c.in_ok-p.p _ a.store.now a.scratch.now c.weave.new.scratch p.0 g.0 g.1 c.weave.auto.scratch) in
    let after = made_counts a.z a.store.now a.scratch.now p.0 p.1 c.in_ok-p.p c.weave.new.scratch g.0 in
    (record { short = p.0.task.short; some = p.1.some; falls = before.0; numbered = before.1 }, record { short = p.0.task.short; some = p.1.some; falls = after.0; numbered = after.1 })

pub settle-requires : goal.settle-requires
settle-requires c =
    let a = c.args in
    let g = rw c.in_ok-p.was at c.weave.ensures in
    to_settle a.z c.in_ok-p.p _ a.store.now a.scratch.now c.weave.new.scratch c.requires.0 g.0 g.1 c.weave.auto.scratch (omega arith)

pub returns : goal.returns
returns c =
    let a = c.args in
    let p = c.requires in
    let g = rw c.in_ok-p.was at c.weave.ensures in
    (together_fits a.z c.in_ok-p.p _ a.store.now a.scratch.now c.weave.new.scratch p.0 g.0 g.1 c.weave.auto.scratch c.settle.new.store c.settle.new.scratch (omega arith) (λ i. (c.type_inv.store i).fits) c.settle.ensures.0 c.settle.ensures.1, numbers_fit a.z a.store.now a.scratch.now p.0 p.1 c.in_ok-p.p c.weave.new.scratch g.0 a.numbers.now c.mark_difference.new.numbers (omega (arith, counted a.z c.in_ok-p.p _ a.store.now a.scratch.now c.weave.new.scratch p.0 g.0 g.1 c.weave.auto.scratch)) c.mark_difference.ensures)
