-- Each return is one of the cases of a head.
use Rattle.std.proofs.Common.{get_or, sym, ◌∙◌, eqb-true, arith, pow_pos}
use borrow.Author.Tests.{eqb-false}
use native.Mathlib.Nat.{mod-lt}
use mir.Syntax.{w16}
use mir.Facts.{to_z-of_z}
use Rattle.merge.specs.Streams.{weight}
use Rattle.merge.specs.Heads.{set_in}
use Rattle.merge.proofs.Flow.{took_end, took_other, took_same}
use Rattle.merge.proofs.streams.Streams.take_head.Goals as goal

pub returns-then-i-self : goal.returns-then-i-self
returns-then-i-self c =
    let p = c.requires in
    took_end c.args.self.now c.args.j c.args.at.now _ c.args.c p.4 (omega arith) p.5 p.6 c.if-i-self.true

pub returns-then-not-same : goal.returns-then-not-same
returns-then-not-same c =
    let a = c.args in
    let p = c.requires in
    took_other a.self.now a.j a.at.now _ a.c p.4 (omega arith) p.5 p.6 c.if-i-self.false
    (eqb-false (set_in a.self.now (get_or a.at.now a.j 0) a.j) (set_in a.self.now a.h a.b) (sym c.same.ensures ∙ c.if-not-same.true))

pub returns : goal.returns
unfolding weight
returns c =
    let a = c.args in
    let p = c.requires in
    let k = to_z-of_z {w = w16} (record { sfits = c.multiplier.type_inv }) ∙ c.multiplier.ensures in
    took_same a.self.now a.j a.at.now _ a.c p.4 (omega arith) p.5 p.6 c.if-i-self.false
    (eqb-true (set_in a.self.now (get_or a.at.now a.j 0) a.j) (set_in a.self.now a.h a.b) (sym c.same.ensures ∙ c.if-not-same.false))
    c.next.result c.added.result c.next.ensures (rw (k, c.coefficient.ensures) at c.added.ensures) (rw c.added.ensures (mod-lt _ (pow_pos _)))
