-- `count_held` counts in the words in front. Assumes nothing.
use mathlib.Core.Path.{ap, sym}
use mathlib.Core.List.{List, ◌++◌}
use Prim.Native.Nat.{ℕ, ◌+◌}
use lib.ListN.{drop}
use lib.Seq.{length-take-le}
use Rattle.rules.specs.Judging.{set_width}
use Rattle.rules.specs.Occurrences.{occurrences, with_occurrences}
use Rattle.judge.proofs.deciding.count_held.Goals as goal

pub slice_bounds-count-end-2 : goal.slice_bounds-count-end-2
slice_bounds-count-end-2 c = sym (length-take-le _ _ c.requires.2)

pub count-requires : goal.count-requires
unfolding set_width
count-requires c =
    rw (length-take-le _ c.args.occurrences.now c.requires.2) (c.requires.0, c.requires.1)

pub returns : goal.returns
unfolding with_occurrences occurrences set_width
returns c =
    let old = c.args.occurrences.now in
    ap (λ (x : List ℕ). x ++ drop (c.args.c.m + 1) old) (rw (length-take-le (c.args.c.m + 1) old c.requires.2) at c.count.ensures)
