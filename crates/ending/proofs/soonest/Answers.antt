use mathlib.Core.Path.{ap, sym, ◌∙◌}
use Prim.Native.Nat.{ℕ}
use native.Mathlib.Omega.{arith}
use lib.ListN.{drop}
use Rattle.rules.specs.Judging.{soonest}
use Rattle.words.specs.Stored.{decoded}
use Rattle.words.proofs.Stored.{length_decoded}
use Rattle.ending.proofs.Ended.{half_whole, first_whole, soonest_next, soonest_done}
use Rattle.ending.proofs.soonest.Goals as goal

pub loop-k-init : goal.loop-k-init
loop-k-init c =
    let a = c.args in
    let rest = drop 1 (decoded a.w a.count a.store.now) in
    ap (λ (s : ℕ). soonest s rest) (first_whole c.requires _ c.halved-best.ensures)

pub loop-k-preserved : goal.loop-k-preserved
loop-k-preserved c =
    let h = c.requires in
    let a = c.args in
    let l = c.loop-k in
    let whole = half_whole h l.k _ (omega arith) c.halved.ensures in
    let inside = length_decoded a.w a.count a.store.now in
    soonest_next (decoded a.w a.count a.store.now) l.k _ _ _ (omega arith) whole c.sooner-best.ensures ∙ l.invariant

pub returns : goal.returns
returns c =
    let a = c.args in
    let l = c.loop-k in
    let inside = length_decoded a.w a.count a.store.now in
    let some = c.requires.some in
    sym (soonest_done (decoded a.w a.count a.store.now) l.k _ (omega arith)) ∙ l.invariant
