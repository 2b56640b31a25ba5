-- `emit_all` emits everything in its order: what each call leaves is what the next begins with. Assumes nothing.
use mathlib.Core.Path.{refl}
use Rattle.start.specs.Start.{single, whole}
use Rattle.start.proofs.Writing.{leads_begun, leads_more, leads_none}
use Rattle.start.proofs.writer.Writer.emit_all.Goals as goal

pub returns-in_err-emit_singles : goal.returns-in_err-emit_singles
unfolding whole
returns-in_err-emit_singles c =
    leads_none c.from_residual.ensures (leads_more (leads_begun _ _) (λ rest. refl) c.in_err-emit_singles.ensures)

pub returns-in_err-emit_rows : goal.returns-in_err-emit_rows
unfolding whole
returns-in_err-emit_rows c =
    leads_none c.from_residual-in_err-emit_rows.ensures
    (leads_more (leads_more (leads_begun _ _) (λ rest. refl) c.in_ok-emit_singles.ensures) (λ rest. refl) c.in_err-emit_rows.ensures)

pub returns-in_err-emit_singles-2 : goal.returns-in_err-emit_singles-2
unfolding whole
returns-in_err-emit_singles-2 c =
    leads_none c.from_residual-in_err-emit_singles-2.ensures
    (leads_more
    (leads_more (leads_more (leads_begun _ _) (λ rest. refl) c.in_ok-emit_singles.ensures) (λ rest. refl) c.in_ok-emit_rows.ensures)
    (λ rest. refl) c.in_err-emit_singles-2.ensures)

pub returns : goal.returns
unfolding single whole
returns c =
    leads_more
    (leads_more
    (leads_more (leads_more (leads_begun _ _) (λ rest. refl) c.in_ok-emit_singles.ensures) (λ rest. refl) c.in_ok-emit_rows.ensures)
    (λ rest. refl) c.in_ok-emit_singles-2.ensures)
    (λ rest. refl) c.emit.ensures
