use mathlib.Core.Path.{refl}
use Prim.Native.Nat.{◌^◌}
use Rattle.rules.specs.Product.{kind_of}
use Rattle.start.proofs.Loops.{rows_turn, rows_none}
use Rattle.start.proofs.Writing.{leads_more, leads_ended, leads_none}
use Rattle.start.proofs.writer.Writer.emit_rows.Goals as goal

pub returns-in_err-emit_pairs : goal.returns-in_err-emit_pairs
returns-in_err-emit_pairs c =
    let s = c.args.shape in
    leads_none c.from_residual.ensures
    (leads_more c.loop-j.invariant (λ rest. rows_turn (kind_of s.kind) (2 ^ s.l) s.n c.args.weights.now c.loop-j.j rest c.loop-j-test.true)
    c.in_err-emit_pairs.ensures)

pub loop-j-preserved : goal.loop-j-preserved
loop-j-preserved c =
    let s = c.args.shape in
    leads_more
    (leads_more c.loop-j.invariant (λ rest. rows_turn (kind_of s.kind) (2 ^ s.l) s.n c.args.weights.now c.loop-j.j rest c.loop-j-test.true)
    c.in_ok-emit_pairs.ensures)
    (λ rest. refl) c.in_ok-emit.ensures

pub returns-in_err-emit : goal.returns-in_err-emit
returns-in_err-emit c =
    let s = c.args.shape in
    leads_none c.from_residual-in_err-emit.ensures
    (leads_more
    (leads_more c.loop-j.invariant (λ rest. rows_turn (kind_of s.kind) (2 ^ s.l) s.n c.args.weights.now c.loop-j.j rest c.loop-j-test.true)
    c.in_ok-emit_pairs.ensures)
    (λ rest. refl) c.in_err-emit.ensures)

pub returns : goal.returns
returns c =
    let s = c.args.shape in
    leads_ended c.loop-j.invariant (λ rest. rows_none (kind_of s.kind) (2 ^ s.l) s.n c.args.weights.now c.loop-j.j rest c.loop-j-test.false)
