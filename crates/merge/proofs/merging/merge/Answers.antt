-- Each stream begins at its first term; they run, and what has no room is cleared.
use Rattle.std.proofs.Common.{◌≡◌, ℕ, List, ◌++◌, length, take, drop, replicate, ap, sym, ◌∙◌, arith, length-append, length-take-le, take_at}
use Rattle.merge.specs.Streams.{streams_of}
use Rattle.merge.specs.declared.streams.Gate.{Gate}
use Rattle.merge.proofs.Flow.{streams_few}
use Rattle.merge.proofs.merging.merge.Goals as goal

-- of eight places the first n are lent to the n streams of a gate
module _ (n : ℕ) (g : Gate) (e : n ≡ streams_of g) where
  lent : length (take {A = ℕ} n (replicate 8 0)) ≡ n
  lent = length-take-le n (replicate 8 0) (rw e (streams_few g).1)

  -- and come back as `at`, in front of the others
  module _ (at : List ℕ) (l : length at ≡ length (take {A = ℕ} n (replicate 8 0))) where
    begun : take n (at ++ drop n (replicate 8 0)) ≡ at
    begun = take_at at (drop n (replicate 8 0)) n (l ∙ lent)

    count : length (take n (at ++ drop n (replicate 8 0))) ≡ streams_of g
    count = ap length begun ∙ l ∙ lent ∙ e

pub slice_bounds-begin-end : goal.slice_bounds-begin-end
slice_bounds-begin-end c =
    let s = c.streams_of-count in
    sym (lent s.result c.args.streams.now.weighted.gate s.ensures)

pub slice_bounds-at-end-2 : goal.slice_bounds-at-end-2
slice_bounds-at-end-2 c =
    let s = c.streams_of-count in
    let b = c.begin in
    omega (arith, length-append b.new.at (drop s.result (replicate 8 0)), lent s.result c.args.streams.now.weighted.gate s.ensures, b.auto.at)

pub slice_bounds-run-end : goal.slice_bounds-run-end
slice_bounds-run-end c =
    let s = c.streams_of-count in
    s.ensures ∙ sym (count s.result c.args.streams.now.weighted.gate s.ensures c.begin.new.at c.begin.auto.at)

pub run-held-requires : goal.run-held-requires
run-held-requires c =
    let p = c.requires in
    let s = c.streams_of-count in
    let b = begun s.result c.args.streams.now.weighted.gate s.ensures c.begin.new.at c.begin.auto.at in
    let k = count s.result c.args.streams.now.weighted.gate s.ensures c.begin.new.at c.begin.auto.at in
    (k, p.0, p.1, λ j l. rw b (c.begin.ensures j (rw (← c.begin.auto.at, ← b) (omega (arith, k)))))
