-- The search finds the place; the term there is looked at.
use Rattle.std.proofs.Common.{sym, ◌∙◌, arith}
use Rattle.splice.proofs.Placing.{asks_equal, found_both, found_alone}
use Rattle.splice.proofs.spots.place.Goals as goal

pub equal-requires : goal.equal-requires
equal-requires c =
    let a = c.args in
    rw c.set_at.ensures (asks_equal a.terms.now a.k a.l a.scratch.now a.from c.requires c.above-at.result c.if-at-terms.true)

pub returns-then-equal : goal.returns-then-equal
returns-then-equal c =
    let a = c.args in
    let at = c.above-at in
    found_both a.terms.now a.k a.l a.scratch.now a.from c.requires at.result at.ensures c.sum.result c.if-at-terms.true (sym (rw c.set_at.ensures at c.equal.ensures) ∙ c.if-equal.true) (rw c.coefficient.ensures at c.sum.ensures)

pub returns-else-equal : goal.returns-else-equal
returns-else-equal c =
    let a = c.args in
    let at = c.above-at in
    found_alone a.terms.now a.k a.l a.scratch.now a.from c.requires at.result at.ensures (λ l. sym (rw c.set_at.ensures at c.equal.ensures) ∙ c.if-equal.false)

pub returns-else-at-terms : goal.returns-else-at-terms
returns-else-at-terms c =
    let a = c.args in
    let at = c.above-at in
    found_alone a.terms.now a.k a.l a.scratch.now a.from c.requires at.result at.ensures (λ l. absurd (omega (arith, c.if-at-terms.false)))
