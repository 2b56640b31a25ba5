use Rattle.std.proofs.Common.{◌≡◌, ◌+◌, take, drop, ◌∙◌, append_assoc, arith}
use lib.Seq.{paste-zero}
use Rattle.words.proofs.Writing.{carry_more}
use Rattle.words.proofs.stretches.move_down.Goals as goal

pub loop-k-init : goal.loop-k-init
loop-k-init c = let a = c.args in
    paste-zero a.words.now a.to (drop a.from a.words.now)

pub loop-k-preserved : goal.loop-k-preserved
loop-k-preserved c = let a = c.args in
    carry_more a.words.now c.loop-k.words a.from a.to c.loop-k.k (omega arith) (omega arith) c.loop-k.invariant

pub returns : goal.returns
returns c = let a = c.args in
    let e : c.loop-k.k ≡ a.n = omega arith in
    (rw e at c.loop-k.invariant) ∙ append_assoc (take a.to a.words.now) (take a.n (drop a.from a.words.now)) (drop (a.to + a.n) a.words.now)
