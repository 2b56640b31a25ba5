-- The maker's refusal, or what is asked of limits that it made.
use Rattle.std.proofs.Common.{rules, ◌≡◌, ◌∙◌}
use Rattle.rules.specs.Judging.{order_wrong}
use Rattle.rules.specs.Says.{first, refused}
use Rattle.checks.specs.Checking.{run_checks}
use Rattle.checks.proofs.Checked.{variables_right, made_refused, made_within, limit_small}
use Rattle.checks.proofs.check_run.Goals as goal

pub returns-in_err-limits : goal.returns-in_err-limits
unfolding run_checks order_wrong first
returns-in_err-limits c =
    let e : refused c.from_residual.result ≡ refused c.made.result = search rules in
    e ∙ rw c.in_err-limits.was (made_refused _ _ (variables_right _ c.requires) c.in_err-limits.was c.made.ensures)

pub returns-then-not-names_gates : goal.returns-then-not-names_gates
unfolding run_checks order_wrong first
returns-then-not-names_gates c =
    let w = made_within (variables_right _ c.requires) c.in_ok-limits.was c.made.ensures in
    simp (w.0, w.1, ← c.names_gates.ensures, c.if-not-names_gates.true)

pub lent_short-requires : goal.lent_short-requires
lent_short-requires c =
    let w = made_within (variables_right _ c.requires) c.in_ok-limits.was c.made.ensures in
    (c.requires, rw w.2 (limit_small _ w.0))

pub returns-then-lent_short : goal.returns-then-lent_short
unfolding run_checks order_wrong first
returns-then-lent_short c =
    let w = made_within (variables_right _ c.requires) c.in_ok-limits.was c.made.ensures in
    simp (w.0, w.1, ← c.names_gates.ensures, c.if-not-names_gates.false, ← w.2, ← w.3, ← c.lent_short.ensures, c.if-lent_short.true)

pub returns : goal.returns
unfolding run_checks order_wrong first
returns c =
    let w = made_within (variables_right _ c.requires) c.in_ok-limits.was c.made.ensures in
    simp (w.0, w.1, ← c.names_gates.ensures, c.if-not-names_gates.false, ← w.2, ← w.3, ← c.lent_short.ensures, c.if-lent_short.false)
