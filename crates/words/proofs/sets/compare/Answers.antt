-- Each of the two reads the words of its set under its mask.
use Rattle.std.proofs.Common.{ℕ, arith, rules}
use Rattle.words.proofs.Numbers.{num_masked_at, reads_masked}
use Rattle.words.proofs.sets.compare.Goals as goal

pub returns : goal.returns
returns c = let a = c.args in
    let f = λ (n : ℕ). (c.type_inv.words n).fits in
    let g = λ (n : ℕ). (c.type_inv.masks n).fits in
    rw (← num_masked_at a.words.now a.masks.now a.i a.a a.w (omega arith) (omega arith) f g, ← num_masked_at a.words.now a.masks.now a.j a.b a.w (omega arith) (omega arith) f g)
    (c.order.ensures _ _
    (reads_masked a.words.now a.masks.now a.i a.a a.w (omega arith) (omega arith) f g (λ at x h p. search rules))
    (reads_masked a.words.now a.masks.now a.j a.b a.w (omega arith) (omega arith) f g (λ at x h p. search rules)))
