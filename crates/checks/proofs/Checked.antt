-- How the checks' tests are put together, and what it says that none of them holds.
use mathlib.Core.Path.{◌≡◌, refl}
use mathlib.Core.Bool.{Bool, true, false, cond, ◌&&◌, ◌||◌}
use mathlib.Core.List.{List, [], ◌∷◌, ◌++◌}
use Prim.Native.Nat.{ℕ, ◌+◌, ◌*◌, ◌/◌, ◌^◌, ◌<◌, ◌≤◌}
use native.Mathlib.Nat.{mul-le-mul}
use native.Mathlib.Numerals.{add-one}
use native.Mathlib.Omega.{arith}
use lib.Dec.{ltb}
use lib.ListN.{length, get_or, take}
use lib.Seq.{take-suc}
use borrow.Author.Tests.{le-ltb, ltb-false, not-false}
use Rattle.rules.specs.Values.{evaluate_checks}
use Rattle.rules.proofs.Indices.{neither}
use Rattle.rules.specs.Each.{every}
use Rattle.rules.specs.Limits.{least_terms, most_terms, least_variables, most_variables, variables_wrong, terms_wrong, steps_wrong, making, Makes}
use Rattle.rules.specs.Judging.{kind_wrong, most_made, judge_checks}
use Rattle.rules.specs.Netlist.{counts_right, counts_wrong, table_short, table_unsound}
use Rattle.rules.specs.Says.{answers, refuses, first, refuse_or, refusal_number}
use Rattle.std.specs.Prelude.{Result, Ok, Err}
use Rattle.rules.specs.declared.counts.Counts.{Counts}
use Rattle.rules.specs.declared.limits.Limits.{Limits}
use Rattle.rules.specs.declared.refusals.Refusal.{Refusal}
use Rattle.rules.specs.declared.refusals.Refusal.TheVariants.{Header, CountOutside, ShortTable, InputLine, OutputLine, GateLine, BytesBehind, UnsoundTable, WrongKind, TermLimit, WrongOrder, ShortBuffer, DeskInput}
use Rattle.rules.specs.declared.records.RecordKind.{RecordKind}
use Rattle.rules.specs.declared.records.RecordKind.TheVariants.{Gates, Cells}
use Rattle.checks.specs.Checking.{block_checks, run_checks}
use Rattle.checks.specs.declared.Lent.{Lent}
use Rattle.rules.proofs.Sound.{right_counts}

-- a test of two parts, the second of more parts
and_assoc : (a b c : Bool) → (a && (b && c)) ≡ (a && b && c)
and_assoc true b c = refl
and_assoc false b c = refl

-- a test of a list with one entry more
every_append : (test : ℕ → Bool) (list : List ℕ) (x : ℕ) → every test (list ++ (x ∷ [])) ≡ (every test list && test x)
unfolding every
every_append test [] x = go (test x)
  where
    go : (t : Bool) → (t && true) ≡ t
    go true = refl
    go false = refl
every_append test (y ∷ list) x = rw (every_append test list x) (and_assoc (test y) (every test list) (test x))

-- a test of the first entries, with that of the next
pub every_more : (test : ℕ → Bool) (list : List ℕ) (k : ℕ) (s t : Bool) → k < length list → s ≡ every test (take k list) → t ≡ test (get_or list k 0)
    → (s && t) ≡ every test (take (k + 1) list)
every_more test list k s t l e f = rw (add-one k, take-suc list k 0 l, every_append test (take k list) (get_or list k 0), e, f)

-- the most terms that a step makes of a limit that is taken
pub made_few : (kind : RecordKind) (limit : ℕ) → limit ≤ most_terms → most_made kind * limit ≤ 8 * most_terms
unfolding most_made
made_few Gates limit l = omega arith
made_few Cells limit l = omega arith

-- the words of so many terms, or of fewer, fit a word
pub lent_fits : (c : Counts) (terms : ℕ) → counts_right c ≡ true → terms ≤ 8 * most_terms → terms * (c.m / 64 + 1 + 1) < 2 ^ 64
lent_fits c terms h l =
    let w : c.m / 64 + 1 + 1 ≤ 17 = omega (arith, (right_counts c h).most) in
    omega (arith, mul-le-mul l w)

-- counts within their limits have a right M
pub variables_right : (c : Counts) → counts_right c ≡ true → variables_wrong c.m ≡ false
unfolding variables_wrong
variables_right c h =
    let r = right_counts c h in
    rw (le-ltb c.m least_variables (omega (arith, r.inputs, r.variables)), le-ltb most_variables c.m r.most)

-- a refusal's number is not 0
pub refusal_some : (r : Refusal) → refusal_number r ≡ 0 → ⊥
refusal_some Header e = omega arith
refusal_some CountOutside e = omega arith
refusal_some ShortTable e = omega arith
refusal_some InputLine e = omega arith
refusal_some OutputLine e = omega arith
refusal_some GateLine e = omega arith
refusal_some BytesBehind e = omega arith
refusal_some UnsoundTable e = omega arith
refusal_some WrongKind e = omega arith
refusal_some TermLimit e = omega arith
refusal_some WrongOrder e = omega arith
refusal_some ShortBuffer e = omega arith
refusal_some DeskInput e = omega arith

-- the maker's refusal is the first of the checks of limit and steps, whatever else is asked of the order and later
pub made_refused : {t m s : ℕ} {refusal : Refusal} {r : Result Limits Refusal} (x : Bool) (later : ℕ) → variables_wrong m ≡ false → r ≡ Err refusal → Makes t m s r
    → refusal_number refusal ≡ cond (terms_wrong t) 10 (cond (steps_wrong s || x) 11 later)
unfolding making first refuse_or
made_refused {t} {m} {s} {refusal} x later v e h = go (terms_wrong t) (steps_wrong s) (rw (e, v) at h.said)
  where
    go : (a b : Bool) → refuses (refusal_number refusal) ≡ refuse_or (cond a 10 (cond b 11 0)) (answers 0 (t ∷ m ∷ s ∷ []))
        → refusal_number refusal ≡ cond a 10 (cond (b || x) 11 later)
    go true b k = cc
    go false true k = cc
    go false false k = let z : ◌≡◌ {A = ℕ} 0 1 = cc in absurd (omega arith)

-- limits that the maker gives are those that it was asked for, and within their bounds
pub made_within : {t m s : ℕ} {x : Limits} {r : Result Limits Refusal} → variables_wrong m ≡ false → r ≡ Ok x → Makes t m s r
    → (terms_wrong t ≡ false) × (steps_wrong s ≡ false) × (x.terms ≡ t) × (x.steps ≡ s)
unfolding making first refuse_or
made_within {t} {m} {s} {x} v e h = go (terms_wrong t) (steps_wrong s) (rw (e, v) at h.said)
  where
    go : (a b : Bool) → answers 0 (x.terms ∷ x.variables ∷ x.steps ∷ []) ≡ refuse_or (cond a 10 (cond b 11 0)) (answers 0 (t ∷ m ∷ s ∷ []))
        → (a ≡ false) × (b ≡ false) × (x.terms ≡ t) × (x.steps ≡ s)
    go true b k = let z : ◌≡◌ {A = ℕ} 0 1 = cc in absurd (omega arith)
    go false true k = let z : ◌≡◌ {A = ℕ} 0 1 = cc in absurd (omega arith)
    go false false k = (refl, refl, (cc), (cc))

-- a limit that is not wrong is at most the most
pub limit_small : (t : ℕ) → terms_wrong t ≡ false → t ≤ most_terms
unfolding terms_wrong
limit_small t h = ltb-false most_terms t (neither (ltb t least_terms) (ltb most_terms t) h).1

-- the first three checks, and what comes later
abbrev trio : Bool → Bool → Bool → ℕ → ℕ
trio a b c later = cond a 2 (cond b 3 (cond c 8 later))

-- where one of them holds, the later ones are not asked
trio_some : (a b c : Bool) (later : ℕ) → (trio a b c 0 ≡ 0 → ⊥) → trio a b c 0 ≡ trio a b c later
trio_some true b c later h = refl
trio_some false true c later h = refl
trio_some false false true later h = refl
trio_some false false false later h = absurd (h refl)

-- where none does, the later ones decide
trio_none : (a b c : Bool) (later : ℕ) → 0 ≡ trio a b c 0 → (a ≡ false) × (later ≡ trio a b c later)
trio_none true b c later h = absurd (omega arith)
trio_none false true c later h = absurd (omega arith)
trio_none false false true later h = absurd (omega arith)
trio_none false false false later h = (refl, refl)

-- the checks of the block, and what comes later
abbrev row : Bool → Bool → Bool → Bool → ℕ → ℕ
row a b c d later = cond a 2 (cond b 3 (cond c 8 (cond d 9 later)))

-- where a check of the block holds, the later ones are not asked
first_row : (a b c d : Bool) (later : ℕ) → (row a b c d 0 ≡ 0 → ⊥) → row a b c d 0 ≡ row a b c d later
first_row true b c d later h = refl
first_row false true c d later h = refl
first_row false false true d later h = refl
first_row false false false true later h = refl
first_row false false false false later h = absurd (h refl)

-- where no check holds, all four of the block failed, and those that come later
pub row_later : (a b c d : Bool) (later : ℕ) → row a b c d later ≡ 0 → (a ≡ false) × (b ≡ false) × (c ≡ false) × (d ≡ false) × (later ≡ 0)
row_later true b c d later h = absurd (omega arith)
row_later false true c d later h = absurd (omega arith)
row_later false false true d later h = absurd (omega arith)
row_later false false false true later h = absurd (omega arith)
row_later false false false false later h = (refl, refl, refl, refl, h)

module _ (c : Counts) (table : List ℕ) (kind : ℕ) where
  -- where the block is not sound, its kind is not asked
  pub unsound_first : (first (evaluate_checks c table) ≡ 0 → ⊥) → first (evaluate_checks c table) ≡ first (block_checks c table kind)
  unfolding evaluate_checks block_checks first
  unsound_first h = trio_some (counts_wrong c) (table_short c (length table)) (table_unsound c table) _ h

  -- a block that is made has right counts
  pub made_sound : 0 ≡ first (evaluate_checks c table) → counts_right c ≡ true
  unfolding evaluate_checks first counts_wrong
  made_sound h = not-false (counts_right c) (trio_none (counts_wrong c) (table_short c (length table)) (table_unsound c table) 0 h).0

  -- and its kind decides
  pub kind_next : 0 ≡ first (evaluate_checks c table) → cond (kind_wrong c kind) 9 0 ≡ first (block_checks c table kind)
  unfolding evaluate_checks block_checks first
  kind_next h = (trio_none (counts_wrong c) (table_short c (length table)) (table_unsound c table) _ h).1

  -- nothing is refused of the block
  pub block_passed : first (block_checks c table kind) ≡ 0
      → (counts_wrong c ≡ false) × (table_short c (length table) ≡ false) × (table_unsound c table ≡ false) × (kind_wrong c kind ≡ false)
  unfolding block_checks first
  block_passed h =
      let p = row_later (counts_wrong c) (table_short c (length table)) (table_unsound c table) (kind_wrong c kind) 0 h in
      (p.0, p.1, p.2, p.3)

  module _ (limit : ℕ) (order : List ℕ) (lent : Lent) where
    -- the first of all checks
    abbrev refused_by : ℕ
    refused_by = first (judge_checks c table kind limit order lent.store lent.scratch lent.log lent.occurrences)

    -- where the block is refused, no more is asked
    pub block_first : (first (block_checks c table kind) ≡ 0 → ⊥) → first (block_checks c table kind) ≡ refused_by
    unfolding block_checks judge_checks first
    block_first h = first_row (counts_wrong c) (table_short c (length table)) (table_unsound c table) (kind_wrong c kind) _ h

    -- where it is not, the other checks decide
    pub run_next : first (block_checks c table kind) ≡ 0 → first (run_checks c limit order lent) ≡ refused_by
    unfolding judge_checks run_checks first
    run_next h = let p = block_passed h in rw (p.0, p.1, p.2, p.3)
