-- `set_out`: a refusal, or the start.
use Rattle.std.proofs.Common.{rules, Err, ◌≡◌, refl, sym, ap, ◌∙◌}
use Rattle.rules.specs.Says.{refused}
use Rattle.judge.proofs.Judged.{all_passed}
use Rattle.judge.proofs.deciding.set_out.Goals as goal

pub returns-in_err-check : goal.returns-in_err-check
returns-in_err-check c =
    let e : c.from_residual.result ≡ Err c.in_err-check.field-0.0 = search rules in
    rw e (record { checked = sym (ap refused c.in_err-check.was) ∙ c.check.ensures; left = (refl, refl, refl) })

pub begin-requires : goal.begin-requires
begin-requires c =
    let a = c.args in
    (all_passed a.c a.table.now a.kind a.limit a.order.now a.store.now a.scratch.now a.occurrences.now a.log
    (sym c.check.ensures ∙ ap refused c.in_ok-check.was)).block

pub returns : goal.returns
returns c = record { checked = sym (ap refused c.in_ok-check.was) ∙ c.check.ensures; left = c.begin.ensures }
