-- The two checks in their order, and the text behind the kind line.
use Rattle.std.proofs.Common.{rules, Err, ◌≡◌, sym, ◌∙◌}
use native.Mathlib.Omega.{arith}
use borrow.Author.Rules.{part_to_end}
use Rattle.demands.proofs.KindLines.{asked_most}
use Rattle.desk.proofs.KindLine.{asked_line, asked_none, asked_some, kind_there, kind_missing, says_long, says_kindless, says_asked}
use Rattle.desk.proofs.said.Goals as goal

pub returns-then-input-gt-DESK_BYTES_MOST : goal.returns-then-input-gt-DESK_BYTES_MOST
returns-then-input-gt-DESK_BYTES_MOST c = says_long c.args.input.now c.if-input-gt-DESK_BYTES_MOST.true

pub returns-in_err-kind : goal.returns-in_err-kind
returns-in_err-kind c =
    let missing = kind_missing _ _ _ (sym c.ok_or.ensures.value ∙ c.in_err-kind.was) in
    let e : c.from_residual.result ≡ Err c.in_err-kind.field-0.0 = search rules in
    rw (e, ← missing.1) (says_kindless c.args.input.now (omega arith) (asked_none _ (asked_most c.args.input.now) (sym missing.0 ∙ c.requires)))

pub slice_bounds-read_and_judged-count : goal.slice_bounds-read_and_judged-count
slice_bounds-read_and_judged-count c =
    let known = asked_some _ _ (sym (kind_there _ _ _ (sym c.ok_or.ensures.value ∙ c.in_ok-kind.was)) ∙ c.requires) in
    rw (c.line_bytes.ensures, known.0) (asked_line c.args.input.now known.1)

pub slice_bounds-read_and_judged-start : goal.slice_bounds-read_and_judged-start
slice_bounds-read_and_judged-start c =
    let known = asked_some _ _ (sym (kind_there _ _ _ (sym c.ok_or.ensures.value ∙ c.in_ok-kind.was)) ∙ c.requires) in
    rw (c.line_bytes.ensures, known.0) (asked_line c.args.input.now known.1)

pub returns : goal.returns
returns c =
    let bytes = c.line_bytes in
    let input = c.args.input.now in
    let known = asked_some _ _ (sym (kind_there _ _ _ (sym c.ok_or.ensures.value ∙ c.in_ok-kind.was)) ∙ c.requires) in
    c.read_and_judged.ensures ∙ rw (part_to_end input bytes.result, bytes.ensures, known.0) (says_asked input (omega arith) known.1)
