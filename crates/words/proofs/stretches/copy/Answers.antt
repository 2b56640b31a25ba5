use Rattle.std.proofs.Common.{◌≡◌, ◌+◌, take, drop, ◌∙◌, append_assoc, arith}
use lib.Seq.{paste-zero}
use Rattle.words.proofs.Writing.{copy_more}
use Rattle.words.proofs.stretches.copy.Goals as goal

pub loop-k-init : goal.loop-k-init
loop-k-init c = let a = c.args in
    paste-zero a.target.now a.to (drop a.from a.words.now)

pub loop-k-preserved : goal.loop-k-preserved
loop-k-preserved c = let a = c.args in
    copy_more a.target.now c.loop-k.target a.words.now a.from a.to c.loop-k.k (omega arith) (omega arith) c.loop-k.invariant

pub returns : goal.returns
returns c = let a = c.args in
    let e : c.loop-k.k ≡ a.n = omega arith in
    (rw e at c.loop-k.invariant) ∙ append_assoc (take a.to a.target.now) (take a.n (drop a.from a.words.now)) (drop (a.to + a.n) a.target.now)
