use Rattle.std.proofs.Common.{◌+◌, sym, ◌∙◌, arith, eqb-true}
use borrow.Author.Tests.{eqb-false}
use Rattle.words.specs.Listed.{terms_of}
use Rattle.words.proofs.Stored.{length_terms}
use Rattle.weave.proofs.Places.{free_join, free_one}
use Rattle.weave.proofs.seeking.holding.Goals as goal

pub returns-then-holds : goal.returns-then-holds
returns-then-holds c =
    let t = c.args.terms.now in
    record {
      low = omega arith;
      high = omega (arith, length_terms t);
      free = c.loop-i.invariant;
      held = λ u. eqb-true _ _ (sym c.holds.ensures ∙ c.if-holds.true);
    }

pub loop-i-preserved : goal.loop-i-preserved
loop-i-preserved c =
    let t = c.args.terms.now in
    let l = c.loop-i in
    free_join c.args.v (terms_of t) c.args.from l.i (l.i + 1) l.invariant
    (free_one c.args.v (terms_of t) l.i (l.i + 1) (omega arith) (eqb-false _ _ (sym c.holds.ensures ∙ c.if-holds.false)))

pub returns : goal.returns
returns c =
    let t = c.args.terms.now in
    let l = c.loop-i in
    record {
      low = omega arith;
      high = omega (arith, length_terms t);
      free = free_join c.args.v (terms_of t) c.args.from l.i t.count l.invariant (λ j f u. c.requires.3 j (omega arith) u);
      held = λ u. absurd (omega (arith, length_terms t));
    }
