-- Programs that do not do the work, each shut out by a row of the bench sheet: its outcome is not permitted.
use Rattle.std.specs.Prelude.{◌≡◌, List, [], ◌∷◌, map, ℕ, ◌+◌, get_or, replicate, Result, Ok, Err}
use Rattle.rules.specs.Judging.{Inputs, Judged}
use Rattle.rules.specs.declared.refusals.Refusal.{Refusal}
use Rattle.rules.specs.declared.answers.Answer.{Answer}
use Rattle.rules.specs.declared.answers.Answer.TheVariants.{Equal, Unfinished}
use Rattle.rules.specs.declared.answers.StepRecord.{StepRecord}
use Rattle.rules.specs.declared.counts.Counts.{Counts}
use Rattle.rules.specs.declared.records.RecordKind.TheVariants.{Gates}

-- a plain block at T = 128, with buffers just long enough for sets of one word and every word 77
unfoldable pub handed : Counts → List ℕ → List ℕ → ℕ → Inputs
handed c table order steps =
    record {
      counts = c;
      table = table;
      kind = 0;
      limit = 128;
      order = order;
      store = replicate 256 77;
      scratch = replicate 1024 77;
      log = replicate steps (record { gate = 77; terms = 77; made = 77 });
      occurrences = replicate (c.m + 1) 77;
    }

-- AND with these two outputs
unfoldable pub and_block : ℕ → ℕ → List ℕ → ℕ → Inputs
and_block first second = handed (record { m = 3; i = 2; l = 0; o = 2; a = 1; records = Gates }) (first ∷ second ∷ 4 ∷ 2 ∷ [])

-- P1, P3, P6 and P10
unfoldable pub p1 : Inputs
p1 = and_block 6 0 (3 ∷ []) 1

unfoldable pub p3 : Inputs
p3 = and_block 6 6 (3 ∷ []) 1

unfoldable pub p6 : Inputs
p6 = and_block 6 0 [] 0

unfoldable pub p10 : Inputs
p10 =
    handed
    (record { m = 14; i = 4; l = 0; o = 4; a = 10; records = Gates })
    (10 ∷ 22 ∷ 28 ∷ 24 ∷ 6 ∷ 2 ∷ 8 ∷ 2 ∷ 6 ∷ 4 ∷ 8 ∷ 4 ∷ 14 ∷ 12 ∷ 15 ∷ 13 ∷ 21 ∷ 19 ∷ 18 ∷ 16 ∷ 19 ∷ 17 ∷ 27 ∷ 25 ∷ [])
    (14 ∷ 13 ∷ 12 ∷ 11 ∷ 10 ∷ 9 ∷ 8 ∷ 7 ∷ 6 ∷ 5 ∷ [])
    10

-- refusing everything
abbrev pub NotRefuseEverything : Type 0
NotRefuseEverything =
    (refusal : Refusal) (store scratch : List ℕ) (log : List StepRecord) (occurrences : List ℕ)
    → Judged p1 (Err refusal) store scratch log occurrences → ⊥

-- always E
abbrev pub NotAlwaysEqual : Type 0
NotAlwaysEqual =
    (steps held : ℕ) (store scratch : List ℕ) (log : List StepRecord) (occurrences : List ℕ)
    → Judged p3 (Ok (Equal steps held)) store scratch log occurrences → ⊥

-- touching nothing
abbrev pub NotTouchNothing : Type 0
NotTouchNothing = (r : Result Answer Refusal) → Judged p3 r p3.store p3.scratch p3.log p3.occurrences → ⊥

-- the terms after the first step, as a log has them
abbrev pub first_terms : List StepRecord → ℕ
first_terms log = get_or (map (λ (s : StepRecord). s.terms) log) 0 0

-- reducing wholly in the first step and logging the rest: no terms are left after it
abbrev pub NotReduceAtOnce : Type 0
NotReduceAtOnce =
    (r : Result Answer Refusal) (store scratch : List ℕ) (log : List StepRecord) (occurrences : List ℕ) → first_terms log ≡ 0
    → Judged p10 r store scratch log occurrences → ⊥

-- the terms of the first step before gathering, as a log has them
abbrev pub first_made : List StepRecord → ℕ
first_made log = get_or (map (λ (s : StepRecord). s.made) log) 0 0

-- counting the peak after gathering: the step of P1 has then as many terms as it leaves
abbrev pub NotCountAfterGathering : Type 0
NotCountAfterGathering =
    (r : Result Answer Refusal) (store scratch : List ℕ) (log : List StepRecord) (occurrences : List ℕ) → first_made log ≡ first_terms log
    → Judged p1 r store scratch log occurrences → ⊥

-- counting the occurrences at the start alone: these are the start's, and the step of P1 leaves no term
abbrev pub NotCountAtTheStart : Type 0
NotCountAtTheStart =
    (r : Result Answer Refusal) (store scratch : List ℕ) (log : List StepRecord) → Judged p1 r store scratch log (2 ∷ 1 ∷ 1 ∷ 1 ∷ []) → ⊥

-- inventing the occurrences: any but those of P6, where no step is taken
abbrev pub NotInventTheOccurrences : Type 0
NotInventTheOccurrences =
    (r : Result Answer Refusal) (store scratch : List ℕ) (log : List StepRecord) (occurrences : List ℕ) → (occurrences ≡ 2 ∷ 1 ∷ 1 ∷ 1 ∷ [] → ⊥)
    → Judged p6 r store scratch log occurrences → ⊥

-- inventing the term count: any but the number of terms held
abbrev pub NotInventTheCount : Type 0
NotInventTheCount =
    (steps held : ℕ) (store scratch : List ℕ) (log : List StepRecord) (occurrences : List ℕ) → (held ≡ 2 → ⊥)
    → Judged p6 (Ok (Unfinished steps held)) store scratch log occurrences → ⊥
