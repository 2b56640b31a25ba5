use Rattle.std.proofs.Common.{◌≡◌, ◌+◌, ◌-◌, ◌*◌, ◌^◌, length, arith}
use Rattle.words.proofs.Stored.{stride_in}
use Rattle.weave.proofs.Tops.{word_passed, first_below, all_below}
use Rattle.weave.proofs.seeking.words_used.Goals as goal

pub loop-k-init : goal.loop-k-init
loop-k-init c =
    let t = c.args.terms.now in
    (omega arith, first_below (2 ^ (64 * t.width)) t.width t.count t.words.now c.requires.0 c.requires.2)

pub returns-then-words-k-ne0 : goal.returns-then-words-k-ne0
returns-then-words-k-ne0 c =
    let t = c.args.terms.now in
    let e : c.loop-k.k - 1 + 1 ≡ c.loop-k.k = omega arith in
    record {
      some = omega arith;
      within = omega arith;
      falls = all_below (2 ^ (64 * t.width)) (2 ^ (64 * (c.loop-k.k - 1 + 1))) t.width t.count t.words.now c.requires.2 (rw e c.loop-k.invariant.1);
    }

pub loop-k-preserved : goal.loop-k-preserved
loop-k-preserved c =
    let t = c.args.terms.now in
    let e : c.loop-k.k - 1 + 1 ≡ c.loop-k.k = omega arith in
    (omega arith, word_passed t.words.now t.width (omega (arith, stride_in 0 t.count t.width (length t.words.now) c.requires.0 t.within)) (λ n. (c.type_inv.words n).fits) (c.loop-k.k - 1) (omega arith) (rw e c.loop-k.invariant.1) c.if-words-k-ne0.false)

pub returns : goal.returns
returns c =
    let t = c.args.terms.now in
    let e : c.loop-k.k ≡ 1 = omega arith in
    record {
      some = omega arith;
      within = omega arith;
      falls = all_below (2 ^ (64 * t.width)) (2 ^ (64 * 1)) t.width t.count t.words.now c.requires.2 (rw e at c.loop-k.invariant.1);
    }
