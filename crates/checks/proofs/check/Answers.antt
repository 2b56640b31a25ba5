-- The second row of checks is asked only where the first row passed.
use Rattle.std.proofs.Common.{rules, ◌≡◌, sym, ap, ◌∙◌}
use borrow.Author.Tests.{not-false}
use Rattle.rules.specs.Netlist.{counts_wrong, counts_right}
use Rattle.rules.specs.Says.{refused}
use Rattle.checks.proofs.Checked.{refusal_some, block_passed, block_first, run_next}
use Rattle.checks.proofs.check.Goals as goal

pub returns-in_err-check_block : goal.returns-in_err-check_block
returns-in_err-check_block c =
    let a = c.args in
    let e : refused c.from_residual.result ≡ refused c.check_block.result = search rules in
    let some = ap refused c.in_err-check_block.was in
    e ∙ c.check_block.ensures
    ∙ block_first a.c a.table.now a.kind a.limit a.order.now a.lent (λ z. refusal_some _ (sym some ∙ c.check_block.ensures ∙ z))

pub check_run-requires : goal.check_run-requires
unfolding counts_wrong
check_run-requires c =
    let a = c.args in
    not-false (counts_right a.c) (block_passed a.c a.table.now a.kind (sym c.check_block.ensures ∙ ap refused c.in_ok-check_block.was)).0

pub returns : goal.returns
returns c =
    let a = c.args in
    c.check_run.ensures
    ∙ run_next a.c a.table.now a.kind a.limit a.order.now a.lent (sym c.check_block.ensures ∙ ap refused c.in_ok-check_block.was)
