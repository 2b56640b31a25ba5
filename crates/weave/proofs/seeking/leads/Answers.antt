use Rattle.std.proofs.Common.{◌≡◌, ◌+◌, ◌-◌, ◌/◌, sym, arith, le-ltb}
use Rattle.weave.proofs.Tops.{first_low, word_passed, word_stops, word_decides}
use Rattle.weave.proofs.seeking.leads.Goals as goal

pub loop-k-init : goal.loop-k-init
loop-k-init c =
    (omega arith, first_low c.args.words.now c.args.w c.requires.0 (λ n. (c.type_inv.words n).fits))

pub returns-then-words-k-ne0 : goal.returns-then-words-k-ne0
returns-then-words-k-ne0 c =
    sym (le-ltb _ _ (word_stops c.args.words.now c.args.w c.requires.0 (c.loop-k.k - 1) (c.args.v + 1) (omega arith) (omega arith) c.if-words-k-ne0.true))

pub loop-k-preserved : goal.loop-k-preserved
loop-k-preserved c =
    let e : c.loop-k.k - 1 + 1 ≡ c.loop-k.k = omega arith in
    (omega arith, word_passed c.args.words.now c.args.w c.requires.0 (λ n. (c.type_inv.words n).fits) (c.loop-k.k - 1) (omega arith) (rw e c.loop-k.invariant.1) c.if-words-k-ne0.false)

pub returns : goal.returns
returns c =
    let e : c.loop-k.k ≡ 1 + c.args.v / 64 = omega arith in
    word_decides c.args.words.now c.args.w c.requires.0 (λ n. (c.type_inv.words n).fits) c.args.v c.requires.1 (rw e at c.loop-k.invariant.1)
