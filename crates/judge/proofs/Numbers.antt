-- The numbers of a run: terms whose variables have numbers, and the occurrences in front of the words lent for them.
use mathlib.Core.Path.{◌≡◌, refl, ap, ◌∙◌}
use mathlib.Core.Bool.{Bool, true, false, cond}
use mathlib.Core.List.{List, [], ◌∷◌, ◌++◌}
use Prim.Native.Nat.{ℕ, ◌+◌, ◌-◌, ◌^◌, ◌<◌, ◌≤◌}
use native.Mathlib.Omega.{arith}
use lib.Dec.{leb}
use lib.ListN.{length, get_or, take, drop, length-append, length-drop, take-append-drop, get_or-append}
use lib.Seq.{take_at, drop_at}
use borrow.Author.Tests.{leb-true, leb-false}
use Rattle.rules.specs.Each.{listed}
use Rattle.rules.specs.Occurrences.{occurring, occurrences, with_occurrences}
use Rattle.rules.specs.Polynomial.{Polynomial, Below}
use Rattle.rules.specs.declared.counts.Counts.{Counts}
use Rattle.rules.proofs.Indices.{length_listed}
use Rattle.demands.proofs.Absent.{Absent}
use Rattle.demands.proofs.Entries.{entry_at}
use Rattle.tally.specs.Marks.{Numbered, Moved, Renumbered}
use Rattle.tally.proofs.Numbering.{moved_on}

-- sets that fall from 2^lent, none with variable 0
pub below_numbered : (lent b : ℕ) (p : Polynomial) → b ≤ 2 ^ lent → Below b p → Absent 0 p → Numbered lent p
below_numbered lent b [] l h none = tt
below_numbered lent b (t ∷ p) l h none = ((omega arith, none.0), below_numbered lent t.1 p (omega arith) h.1 none.1)

module _ (c : Counts) (p : Polynomial) where
  -- a number of all terms, and one of each variable
  length_occurrences : length (occurrences c p) ≡ c.m + 1
  unfolding occurrences
  length_occurrences = length_listed (c.m + 1) (occurring p)

  -- with what stands behind them
  length_front : (words : List ℕ) → length (with_occurrences c p words) ≡ c.m + 1 + (length words - (c.m + 1))
  unfolding with_occurrences
  length_front words =
      length-append (occurrences c p) (drop (c.m + 1) words) ∙ rw (length_occurrences, length-drop (c.m + 1) words)

  -- words with occurrences in front are as many as they were
  pub length_with : (words : List ℕ) → c.m + 1 ≤ length words → length (with_occurrences c p words) ≡ length words
  length_with words room = omega (arith, length_front words)

  -- where occurrences stand, there is room for them
  pub with_room : (words : List ℕ) → words ≡ with_occurrences c p words → c.m + 1 ≤ length words
  with_room words e = omega (arith, ap length e, length_front words)

  -- they are the first of the words
  pub with_front : (words : List ℕ) → words ≡ with_occurrences c p words → take (c.m + 1) words ≡ listed (c.m + 1) (occurring p)
  unfolding with_occurrences occurrences
  with_front words e = ap (λ (x : List ℕ). take (c.m + 1) x) e ∙ take_at (occurrences c p) (drop (c.m + 1) words) (c.m + 1) length_occurrences

  -- an entry is how many terms count there
  pub with_entry : (words : List ℕ) → words ≡ with_occurrences c p words → (v : ℕ) → v ≤ c.m → get_or words v 0 ≡ occurring p v
  with_entry words e v l = ap (λ (x : List ℕ). get_or x v 0) e ∙ entry_at c p words v l

  -- other occurrences take their place
  pub with_again : (q : Polynomial) (words : List ℕ) → with_occurrences c q (with_occurrences c p words) ≡ with_occurrences c q words
  unfolding with_occurrences
  with_again q words = rw (drop_at (occurrences c p) (drop (c.m + 1) words) (c.m + 1) length_occurrences)

-- numbers that go on with a step, in front of the words lent for them
pub turned_numbers : (c : Counts) (p q : Polynomial) (limit : ℕ) (words numbers : List ℕ) → words ≡ with_occurrences c p words → length p ≤ limit → limit < 2 ^ 32
    → ((u : ℕ) → get_or (numbers ++ drop (c.m + 1) words) u 0 < 2 ^ 32) → Renumbered limit p q (take (c.m + 1) words) numbers
    → numbers ++ drop (c.m + 1) words ≡ cond (leb (length q) limit) (with_occurrences c q words) words
unfolding with_occurrences occurrences
turned_numbers c p q limit words numbers e few small fits r = go (leb (length q) limit) refl
  where
    go : (b : Bool) → leb (length q) limit ≡ b → numbers ++ drop (c.m + 1) words ≡ cond b (listed (c.m + 1) (occurring q) ++ drop (c.m + 1) words) words
    go true t =
        let least = leb-true (length q) limit t in
        let moved : Moved (occurring p) (occurring q) (listed (c.m + 1) (occurring p)) numbers = rw (with_front c p words e) at (r.moved least) in
        ap (λ (x : List ℕ). x ++ drop (c.m + 1) words)
        (moved_on p q (c.m + 1) numbers (omega arith) (omega arith) (λ u l. rw (← get_or-append numbers (drop (c.m + 1) words) 0 u l) (fits u)) moved)
    go false t =
        ap (λ (x : List ℕ). x ++ drop (c.m + 1) words) (r.stayed (leb-false (length q) limit t)) ∙ take-append-drop (c.m + 1) words
