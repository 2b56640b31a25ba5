-- What the first pass finds, from what each of its steps says.
use mathlib.Core.Path.{◌≡◌, refl, ap, sym, ◌∙◌}
use mathlib.Core.List.{List, [], ◌∷◌, ◌++◌}
use Prim.Native.Nat.{ℕ, ◌≤◌}
use native.Mathlib.Omega.{arith}
use lib.ListN.{length}
use Rattle.std.proofs.lemmas.Grind.{common_steps}
use Rattle.std.specs.Borrow.{Bor}
use Rattle.std.specs.Prelude.{Option, None, Result, Ok, Err, IsErr, IsErrAnd}
use Rattle.std.specs.Option.{ok_or}
use Rattle.rules.specs.Netlist.{needed}
use Rattle.rules.specs.Reading.{Scan, found, missing, lines, output_line, gate_line, reading, outputs_read, gates_read, end_read, refused, counts_of}
use Rattle.rules.specs.Says.{refusal_number}
use Rattle.rules.specs.declared.counts.Counts.{Counts}
use Rattle.rules.specs.declared.records.RecordKind.{RecordKind}
use Rattle.rules.specs.declared.records.RecordKind.TheVariants.{Gates}
use Rattle.rules.specs.declared.refusals.Refusal.{Refusal}
use Rattle.lines.specs.Sections.{bare}
use Rattle.aiger.specs.Checked.{Checked, RightText}

-- a refusal that is passed on, where nothing is found
pub refused_by : {A : Type 0} (text : List ℕ) (words : ℕ) (r : Result (Counts × Bor (List ℕ)) Refusal) (x refusal : Refusal) (o : Option A)
    → IsErr r × IsErrAnd r (λ e. e ≡ x) → Err x ≡ ok_or o refusal → o ≡ None → reading words text ≡ refused (refusal_number refusal) → Checked text words r
refused_by text words (Ok y) x refusal o h made none e = cc
refused_by text words (Err y) x refusal o h made none e =
    let same : x ≡ refusal = cc in
    rw (h.1, same) e

-- the numbers that were found, and the text behind them
pub numbers_of : Scan → List ℕ
numbers_of (found numbers text) = numbers
numbers_of missing = []

pub text_of : Scan → List ℕ
text_of (found numbers text) = text
text_of missing = []

-- what is not missing without its numbers is found with them
pub bare_both : (s : Scan) → (bare s ≡ missing → ⊥) → (bare s ≡ found [] (text_of s)) × (s ≡ found (numbers_of s) (text_of s))
unfolding bare numbers_of text_of
bare_both (found numbers text) h = (refl, refl)
bare_both missing h = absurd (h refl)

-- nothing behind the numbers: nothing was found
pub bare_missing : (s : Scan) → bare s ≡ missing → s ≡ missing
unfolding bare
bare_missing (found numbers text) e = cc
bare_missing missing e = refl

-- the numbers that were found
bare_found : (s : Scan) (text : List ℕ) → bare s ≡ found [] text → (numbers : List ℕ) × (s ≡ found numbers text)
unfolding bare
bare_found (found numbers rest) text e = (numbers, cc)
bare_found missing text e = cc

-- the lines up to the last are right
module _ (text : List ℕ) (words : ℕ) (c : Counts) (later rest end : List ℕ) (said : reading words text ≡ outputs_read c (lines c.o (output_line c) later))
    (outputs_there : found [] rest ≡ bare (lines c.o (output_line c) later)) (gates_there : found [] end ≡ bare (lines c.a (gate_line c) rest)) where
  outputs : (numbers : List ℕ) × (lines c.o (output_line c) later ≡ found numbers rest)
  outputs = bare_found _ _ (sym outputs_there)

  gates : (numbers : List ℕ) × (lines c.a (gate_line c) rest ≡ found numbers end)
  gates = bare_found _ _ (sym gates_there)

  -- the end is read
  ends : reading words text ≡ end_read c (outputs.0 ++ gates.0) end
  unfolding outputs_read gates_read
  ends = said ∙ ap (outputs_read c) outputs.1 ∙ ap (gates_read c outputs.0) gates.1

  -- bytes behind the last line
  pub bytes_behind : (length end ≡ 0 → ⊥) → reading words text ≡ refused 7
  unfolding end_read
  bytes_behind some = ends ∙ go end some
    where
      go : (end : List ℕ) → (length end ≡ 0 → ⊥) → end_read c (outputs.0 ++ gates.0) end ≡ refused 7
      go [] some = absurd (some refl)
      go (x ∷ end) some = refl

  -- none: the text is right
  pub right_text : c.records ≡ Gates → needed c ≤ words → length end ≡ 0 → RightText text words c later
  unfolding end_read
  right_text records room none =
      let nil : end ≡ [] = grind (arith, common_steps) in
      record {
        outputs = outputs.0;
        gates = gates.0;
        rest = rest;
        records = records;
        room = room;
        outputs_found = outputs.1;
        gates_found = gates.1 ∙ ap (found gates.0) nil;
        is_read = ends ∙ ap (end_read c (outputs.0 ++ gates.0)) nil;
      }

-- the counts of AND gates are those that their five numbers are
pub counts_back : (c : Counts) → c.records ≡ Gates → counts_of (c.m ∷ c.i ∷ c.l ∷ c.o ∷ c.a ∷ []) ≡ c
unfolding counts_of
counts_back c e = sym (ap (λ (k : RecordKind). record { m = c.m; i = c.i; l = c.l; o = c.o; a = c.a; records = k }) e)

-- how far reading goes
pub ruleset readings = (bare_both, bare_missing, counts_back)
