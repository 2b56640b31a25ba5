-- Where the first set has no variable above v, none has.
use Rattle.std.proofs.Common.{◌+◌, ◌*◌, ◌^◌, sym, ◌∙◌, arith, ltb-true}
use Rattle.words.proofs.Stored.{length_terms}
use Rattle.weave.proofs.Tops.{all_below}
use Rattle.weave.proofs.seeking.last_holding.Goals as goal

pub returns-then-terms-eq0 : goal.returns-then-terms-eq0
returns-then-terms-eq0 c =
    record {
      high = omega arith;
      free = λ i f u. absurd (omega (arith, length_terms c.args.terms.now));
      held = λ u. absurd (omega arith);
    }

pub in_front-requires : goal.in_front-requires
in_front-requires c =
    let t = c.args.terms.now in
    (c.requires.0, all_below (2 ^ (64 * t.width)) (2 ^ (c.args.v + 1)) t.width t.count t.words.now c.requires.1 (ltb-true _ _ (sym c.leads.ensures ∙ c.if-leads.true)))
