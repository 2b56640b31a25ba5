-- `begin` clears both buffers whole, writes the start and counts it.
use native.Mathlib.Omega.{arith}
use Rattle.rules.specs.Judging.{set_width}
use Rattle.judge.proofs.Opened.{cleared, asked, begun, countable, start_narrow, numbers_start}
use Rattle.judge.proofs.deciding.begin.Goals as goal

pub start-held-requires : goal.start-held-requires
start-held-requires c =
    asked c.requires (cleared c.args.store.now _ c.clear.ensures)

pub invariant_of-terms : goal.invariant_of-terms
unfolding set_width
invariant_of-terms c =
    let there = countable c.requires (cleared c.args.store.now _ c.clear.ensures) _ c.start-held.ensures c.unwrap_or.result c.unwrap_or.ensures in
    record { within = there.room; narrow = start_narrow c.requires }

pub count_held-requires : goal.count_held-requires
unfolding set_width
count_held-requires c =
    let there = countable c.requires (cleared c.args.store.now _ c.clear.ensures) _ c.start-held.ensures c.unwrap_or.result c.unwrap_or.ensures in
    (record { short = omega arith; some = omega arith; falls = there.falls; numbered = there.numbered }, there.few, c.requires.numbers_room)

pub returns : goal.returns
unfolding set_width
returns c =
    let zeros = cleared c.args.store.now _ c.clear.ensures in
    let started = c.start-held.ensures in
    begun c.requires zeros (cleared c.args.scratch.now _ c.clear-2.ensures) started
    (numbers_start c.requires zeros _ started (rw c.unwrap_or.ensures at c.count_held.ensures))
