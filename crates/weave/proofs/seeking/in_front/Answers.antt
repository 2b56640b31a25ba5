use Rattle.std.proofs.Common.{◌≡◌, sym, ◌∙◌, arith}
use borrow.Author.Tests.{eqb-false}
use Rattle.rules.proofs.Bits.{bit_digit}
use Rattle.words.specs.Listed.{terms_of, set_of}
use Rattle.words.proofs.Stored.{length_terms}
use Rattle.weave.proofs.Tops.{free_behind}
use Rattle.weave.proofs.seeking.in_front.Goals as goal

pub returns-then-not-holds : goal.returns-then-not-holds
returns-then-not-holds c =
    let t = c.args.terms.now in
    let l = c.loop-i in
    let n = eqb-false _ _ (sym c.holds.ensures ∙ c.if-not-holds.true) in
    record {
      high = omega (arith, length_terms t);
      free = free_behind c.args.v (terms_of t) l.i c.requires.1 (omega (arith, n, bit_digit (set_of t l.i) c.args.v));
      held = l.invariant;
    }

pub returns : goal.returns
returns c =
    let t = c.args.terms.now in
    let z : c.loop-i.i ≡ t.count = omega arith in
    record {
      high = omega (arith, length_terms t);
      free = λ i f u. absurd (omega (arith, length_terms t));
      held = rw z at c.loop-i.invariant;
    }
