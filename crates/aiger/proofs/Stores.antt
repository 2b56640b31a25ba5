-- The second pass on its way: the numbers of the lines so far stand in the table.
use mathlib.Core.Path.{◌≡◌, refl, ap, ◌∙◌}
use mathlib.Core.List.{List, ◌++◌}
use Prim.Native.Nat.{ℕ, ◌+◌, ◌<◌}
use native.Mathlib.Numerals.{add-one}
use native.Mathlib.Omega.{arith}
use lib.ListN.{length, take, drop}
use lib.Seq.{drop-drop}
use Rattle.rules.specs.Reading.{Scan, found, missing, with_numbers, and_then, lines}
use Rattle.lines.specs.Sections.{bare}
use Rattle.lines.proofs.Scans.{lines_stop}
use Rattle.aiger.specs.Stored.{Finds, Stored}

module _ (line : ℕ → List ℕ → Scan) (text : List ℕ) where
  -- no line yet
  pub stored_none : (size : ℕ) (table : List ℕ) → size ≡ 0 → Stored (lines 0 line text) text size table table
  unfolding lines
  stored_none size table none = rw none (record { words = refl; others = refl })

  module _ (k size : ℕ) (rest table now : List ℕ) (stored : Stored (lines k line text) rest size table now) where
    -- one line more, and its numbers behind the others
    pub stored_more : (numbers later next : List ℕ) (more : ℕ) → found numbers later ≡ line k rest → more ≡ size + length numbers
        → take more next ≡ take size now ++ numbers → drop more next ≡ drop more now → Stored (lines (k + 1) line text) later more table next
    unfolding lines and_then with_numbers
    stored_more numbers later next more e sum front behind =
        let others : drop (length numbers) (drop size now) ≡ drop (length numbers) (drop size table) = ap (drop (length numbers)) stored.others in
        record { words = rw (add-one, stored.words, ← e, front); others = behind ∙ grind (arith, drop-drop) }

    -- where all are found the next is there
    pub stored_next : (n : ℕ) → k < n → Finds (lines n line text) → missing ≡ line k rest → ⊥
    unfolding bare
    stored_next n l all e = go (lines n line text) all (lines_stop line text k rest (ap bare stored.words) n l e)
      where
        go : (s : Scan) → Finds s → missing ≡ bare s → ⊥
        go (found numbers later) h e = cc
        go missing h e = h
