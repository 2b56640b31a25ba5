-- The step of the engine, by the record that the table has for the gate.
use mathlib.Core.Path.{refl, sym}
use Prim.Native.Nat.{◌≤◌}
use native.Mathlib.Omega.{arith}
use lib.ListN.{length}
use lib.Seq.{length-take-le}
use Rattle.rules.specs.Judging.{set_width}
use Rattle.rules.proofs.Occurring.{occurring_most}
use Rattle.words.specs.Stored.{decoded}
use Rattle.words.proofs.Stored.{length_decoded}
use Rattle.judge.proofs.Numbers.{with_room, with_entry, turned_numbers}
use Rattle.judge.proofs.Held.{ready, numberable, stepped_to, step_numbers, turned}
use Rattle.judge.proofs.Peak.{each_most, step_peak}
use Rattle.judge.proofs.turn.take_turn.Goals as goal

pub bounds-occurrences-v : goal.bounds-occurrences-v
bounds-occurrences-v c = omega (arith, with_room c.args.block.now.block.counts _ c.args.occurrences.now c.requires.0.numbers, c.requires.2)

pub slice_bounds-step-end : goal.slice_bounds-step-end
slice_bounds-step-end c = with_room c.args.block.now.block.counts _ c.args.occurrences.now c.requires.0.numbers

pub slice_bounds-step-end-2 : goal.slice_bounds-step-end-2
slice_bounds-step-end-2 c = sym (length-take-le _ _ (with_room c.args.block.now.block.counts _ c.args.occurrences.now c.requires.0.numbers))

pub step-after-requires : goal.step-after-requires
step-after-requires c =
    let p = c.requires in
    let e = c.record_at-r.ensures in
    (ready p.0 p.1 p.2 e, numberable p.0 p.1 p.2 e)

pub raw-requires : goal.raw-requires
raw-requires c =
    let a = c.args in
    let p = decoded (set_width a.block.now.block.counts) a.held a.store.now in
    let entry = with_entry a.block.now.block.counts p a.occurrences.now c.requires.0.numbers a.v c.requires.2 in (
      omega (arith, entry, occurring_most a.v p, length_decoded (set_width a.block.now.block.counts) a.held a.store.now),
      omega (arith, c.requires.0.few, c.requires.0.taken),
      each_most (omega (arith, c.requires.1)) c.step-after.ensures.2,
    )

pub returns : goal.returns
unfolding set_width
returns c =
    let a = c.args in
    let b = a.block.now.block in
    let p = decoded (set_width b.counts) a.held a.store.now in
    let s = stepped_to b.counts b.table.now a.v p c.record_at-r.ensures c.step-after.ensures.0 in
    let n = step_numbers b.counts b.table.now a.v p c.record_at-r.ensures c.step-after.ensures.1 in
    let few : length p ≤ a.limit = rw length_decoded c.requires.0.few in
    let peak = step_peak c.requires.0 c.requires.1 c.requires.2 c.record_at-r.ensures c.step-after.ensures.2 c.raw.ensures in
    turned s _ refl peak
    (turned_numbers b.counts p _ a.limit a.occurrences.now _ c.requires.0.numbers few (omega (arith, c.requires.0.taken)) (λ u. (c.type_inv.occurrences u).fits) n)
