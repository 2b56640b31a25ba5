use Rattle.std.proofs.Common.{◌≡◌, ◌+◌, length, set, arith, length-set, take_all}
use Rattle.words.specs.Numbers.{words_at, masked}
use Rattle.words.proofs.Numbers.{length_masked, num_masked_at}
use Rattle.words.proofs.Writing.{write_more, write_term}
use Rattle.words.proofs.terms.write.Goals as goal

pub loop-k-preserved : goal.loop-k-preserved
loop-k-preserved c = let a = c.args in
    write_more (set a.target.now a.t a.c) c.loop-k.target a.words.now a.masks.now a.h a.a a.w (a.t + 1) c.loop-k.k (omega arith) (omega arith) (simp length-set (omega arith)) (omega arith) c.loop-k.invariant

pub returns : goal.returns
returns c = let a = c.args in
    let e : c.loop-k.k ≡ a.w = omega arith in
    let m = masked (words_at a.words.now a.h a.w) (words_at a.masks.now a.a a.w) in
    let n : length m ≡ a.w = length_masked a.words.now a.masks.now a.h a.a a.w (omega arith) (omega arith) in
    (write_term a.target.now c.loop-k.target m a.t a.c a.w (omega arith) (rw (e, take_all a.w m (omega arith)) at c.loop-k.invariant), num_masked_at a.words.now a.masks.now a.h a.a a.w (omega arith) (omega arith) (λ n. (c.type_inv.words n).fits) (λ n. (c.type_inv.masks n).fits))
