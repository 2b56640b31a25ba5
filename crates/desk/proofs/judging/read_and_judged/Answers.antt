-- A refusal of reading, 13, or what judging says of the words read.
use Rattle.std.proofs.Common.{rules, Err, ◌≡◌, sym, ◌∙◌}
use native.Mathlib.Omega.{arith}
use lib.Seq.{length-take-le}
use Rattle.desk.proofs.Texts.{refused_said, read_taken, words_taken, large_said, judged_said}
use Rattle.desk.proofs.judging.read_and_judged.Goals as goal

pub returns-in_err-counts : goal.returns-in_err-counts
returns-in_err-counts c =
    let a = c.args in
    let read = c.read in
    let e : c.from_residual.result ≡ Err c.in_err-counts.field-0.0 = search rules in
    rw e (refused_said a.kind _ a.text.now read.new.table read.result read.ensures c.in_err-counts.was)

pub returns-then-counts-gt-DESK_VARIABLES_MOST : goal.returns-then-counts-gt-DESK_VARIABLES_MOST
returns-then-counts-gt-DESK_VARIABLES_MOST c = large_said _ _ _ _ (read_taken _ c.read.new.table c.in_ok-counts.counts c.read.result c.read.ensures c.in_ok-counts.was) c.if-counts-gt-DESK_VARIABLES_MOST.true

pub slice_bounds-table-end : goal.slice_bounds-table-end
slice_bounds-table-end c =
    let t = read_taken _ c.read.new.table c.in_ok-counts.counts c.read.result c.read.ensures c.in_ok-counts.was in
    rw (words_taken _ _ _ t) at t.room

pub slice_bounds-judged-end : goal.slice_bounds-judged-end
slice_bounds-judged-end c =
    let t = read_taken _ c.read.new.table c.in_ok-counts.counts c.read.result c.read.ensures c.in_ok-counts.was in
    sym (length-take-le _ c.read.new.table (rw (words_taken _ _ _ t) at t.room))

pub judged-requires : goal.judged-requires
judged-requires c =
    let t = read_taken _ c.read.new.table c.in_ok-counts.counts c.read.result c.read.ensures c.in_ok-counts.was in
    (omega (arith, t.right.variables), omega arith, t.gates)

pub returns : goal.returns
returns c =
    let t = read_taken _ c.read.new.table c.in_ok-counts.counts c.read.result c.read.ensures c.in_ok-counts.was in
    let a = c.args in
    let read = c.read in
    c.judged.ensures ∙ rw (words_taken a.text.now read.new.table c.in_ok-counts.counts t) at (judged_said a.kind a.text.now read.new.table c.in_ok-counts.counts t (omega arith))
