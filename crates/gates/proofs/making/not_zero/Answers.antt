-- The chain counts what is not 0 in all eight.
use Rattle.std.proofs.Common.{◌≡◌, ℤ, pos, not, count_by, sym, ap, ◌∙◌, arith, take_all, rules}
use Rattle.std.specs.Ordering.{int_eq}
use Rattle.gates.proofs.Made.{counted_front}
use Rattle.gates.proofs.making.not_zero.Goals as goal

pub returns : goal.returns
returns c =
    let row = c.args.row.now in
    let counted : c.count.result ≡ count_by (λ (z : ℤ). not (int_eq z (pos 0))) row = search rules in
    counted ∙ ap (count_by (λ (z : ℤ). not (int_eq z (pos 0)))) (sym (take_all 8 row (omega arith))) ∙ counted_front row 8 (omega arith)
