-- Fields and lines of a text, by the one that is read next.
use mathlib.Core.Path.{◌≡◌, refl, ap, sym, ◌∙◌}
use mathlib.Core.Logic.{⊎_elim}
use mathlib.Core.List.{List, [], ◌∷◌, ◌++◌, append_assoc}
use Prim.Native.Nat.{ℕ, zero, suc, ◌+◌, ◌<◌, ◌≤◌}
use native.Mathlib.Nat.{eq-or-lt_of_le}
use native.Mathlib.Numerals.{add-one}
use native.Mathlib.Omega.{arith}
use lib.ListN.{length, get_or, take, drop, set}
use lib.Seq.{drop-cons}
use Rattle.std.proofs.lemmas.Grind.{common_steps}
use Rattle.rules.specs.Reading.{Scan, found, missing, with_numbers, and_then, field, fields, lines}
use Rattle.lines.specs.Sections.{bare}

-- no numbers in front change nothing
pub with_none : (s : Scan) → with_numbers [] s ≡ s
unfolding with_numbers
with_none (found numbers text) = refl
with_none missing = refl

-- numbers in front of numbers
with_both : (xs ys : List ℕ) (s : Scan) → with_numbers xs (with_numbers ys s) ≡ with_numbers (xs ++ ys) s
unfolding with_numbers
with_both xs ys (found numbers text) = simp append_assoc
with_both xs ys missing = refl

-- as many fields as bytes are given: the one at k is read next
module _ (ends numbers text rest : List ℕ) (k : ℕ) (here : k < length ends)
    (before : fields ends text ≡ with_numbers (take k numbers) (fields (drop k ends) rest)) where
  -- it is missing
  pub fields_stop : field (get_or ends k 0) rest ≡ missing → fields ends text ≡ missing
  unfolding fields and_then with_numbers
  fields_stop e = before ∙ rw (drop-cons ends k 0 here, e)

  -- it is there
  pub fields_more : (x : ℕ) (later : List ℕ) → length numbers ≡ length ends → field (get_or ends k 0) rest ≡ found (x ∷ []) later
      → fields ends text ≡ with_numbers (take (k + 1) (set numbers k x)) (fields (drop (k + 1) ends) later)
  unfolding fields and_then
  fields_more x later same e =
      let more : take (k + 1) (set numbers k x) ≡ take k numbers ++ x ∷ [] = grind (arith, common_steps) in
      before ∙ rw (drop-cons ends k 0 here, e, with_both, more, add-one)

-- all of them were read
pub fields_all : (ends numbers text rest : List ℕ) (k : ℕ) → k ≡ length ends → length numbers ≡ length ends
    → fields ends text ≡ with_numbers (take k numbers) (fields (drop k ends) rest) → fields ends text ≡ found numbers rest
unfolding fields with_numbers
fields_all ends numbers text rest k all same before =
    let none : drop k ends ≡ [] = grind (arith, common_steps) in
    before ∙ rw none (grind (arith, common_steps))

-- what fields find, by the one that is read next
pub ruleset reads = (with_none, fields_stop, fields_more, fields_all)

-- so many lines of a text, the k-th read by its rule
module _ (line : ℕ → List ℕ → Scan) (text : List ℕ) where
  -- none are right
  pub lines_none : bare (lines 0 line text) ≡ found [] text
  unfolding bare lines
  lines_none = refl

  module _ (k : ℕ) (rest : List ℕ) (before : bare (lines k line text) ≡ found [] rest) where
    -- the first k are right, and so is the next: the text behind it
    pub lines_more : (numbers later : List ℕ) → found numbers later ≡ line k rest → bare (lines (k + 1) line text) ≡ found [] later
    unfolding bare lines and_then with_numbers
    lines_more numbers later e = rw add-one (go (lines k line text) before)
      where
        go : (s : Scan) → bare s ≡ found [] rest → bare (and_then s (line k)) ≡ found [] later
        go (found first text) b =
            let same : text ≡ rest = cc in
            rw (same, ← e)
        go missing b = cc

    -- the next is wrong, and so are all
    pub lines_stop : (n : ℕ) → k < n → missing ≡ line k rest → missing ≡ bare (lines n line text)
    unfolding bare lines and_then with_numbers
    lines_stop n l e = ap bare (sym (all n l))
      where
        go : (s : Scan) → bare s ≡ found [] rest → and_then s (line k) ≡ missing
        go (found first text) b =
            let same : text ≡ rest = cc in
            rw (same, ← e)
        go missing b = refl

        all : (n : ℕ) → k < n → lines n line text ≡ missing
        all zero l = absurd (omega arith)
        all (suc n) l =
            ⊎_elim
            (λ (same : k ≡ n). rw (← same) (go (lines k line text) before))
            (λ (below : k < n). rw (all n below))
            (let l : k ≤ n = omega arith in eq-or-lt_of_le l)

-- what lines are found, by the one that is read next
pub ruleset passes = (lines_none, lines_more, lines_stop)
