use Rattle.std.proofs.Common.{◌≡◌, ◌+◌, ◌-◌, sym, ◌∙◌, arith, eqb-true}
use borrow.Author.Tests.{eqb-false}
use Rattle.words.specs.Listed.{terms_of}
use Rattle.words.proofs.Stored.{length_terms}
use Rattle.weave.proofs.Places.{free_join, free_one}
use Rattle.weave.proofs.seeking.from_behind.Goals as goal

pub returns-then-holds : goal.returns-then-holds
returns-then-holds c =
    let t = c.args.terms.now in
    let l = c.loop-i in
    let e : l.i - 1 + 1 ≡ l.i = omega arith in
    record {
      high = omega (arith, length_terms t);
      free = rw (e, length_terms t) l.invariant;
      held = λ u. let f : l.i - 1 + 1 - 1 ≡ l.i - 1 = omega arith in rw f (eqb-true _ _ (sym c.holds.ensures ∙ c.if-holds.true));
    }

pub loop-i-preserved : goal.loop-i-preserved
loop-i-preserved c =
    let t = c.args.terms.now in
    let l = c.loop-i in
    free_join c.args.v (terms_of t) (l.i - 1) l.i t.count
    (free_one c.args.v (terms_of t) (l.i - 1) l.i (omega arith) (eqb-false _ _ (sym c.holds.ensures ∙ c.if-holds.false))) l.invariant

pub returns : goal.returns
returns c =
    let t = c.args.terms.now in
    let l = c.loop-i in
    let z : l.i ≡ 0 = omega arith in
    record {
      high = omega arith;
      free = rw (length_terms t) (rw z at l.invariant);
      held = λ u. absurd (omega arith);
    }
