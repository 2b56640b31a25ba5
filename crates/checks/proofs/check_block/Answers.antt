-- The block is refused by its maker, or for its kind.
use Rattle.std.proofs.Common.{rules, ◌≡◌, sym, ap, ◌∙◌}
use Rattle.rules.specs.Says.{refused}
use Rattle.checks.proofs.Checked.{refusal_some, made_sound, unsound_first, kind_next}
use Rattle.checks.proofs.check_block.Goals as goal

pub returns-in_err-made : goal.returns-in_err-made
returns-in_err-made c =
    let a = c.args in
    let e : refused c.from_residual.result ≡ refused c.made.result = search rules in
    e ∙ c.made.ensures.number ∙ unsound_first a.c a.table.now a.kind (λ z. refusal_some _ (sym (ap refused c.in_err-made.was) ∙ c.made.ensures.number ∙ z))

pub kind_wrong-requires : goal.kind_wrong-requires
kind_wrong-requires c = made_sound c.args.c c.args.table.now c.args.kind (sym (ap refused c.in_ok-made.was) ∙ c.made.ensures.number)

pub returns-then-kind_wrong : goal.returns-then-kind_wrong
returns-then-kind_wrong c =
    let none = sym (ap refused c.in_ok-made.was) ∙ c.made.ensures.number in
    rw (← c.kind_wrong.ensures, c.if-kind_wrong.true) at (kind_next c.args.c c.args.table.now c.args.kind none)

pub returns : goal.returns
returns c =
    let none = sym (ap refused c.in_ok-made.was) ∙ c.made.ensures.number in
    rw (← c.kind_wrong.ensures, c.if-kind_wrong.false) at (kind_next c.args.c c.args.table.now c.args.kind none)
