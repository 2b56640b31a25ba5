-- The judge's outcome: a refusal that keeps every word, or what is decided once the checks have passed.
use mathlib.Core.Path.{◌≡◌, refl, sym, ◌∙◌}
use mathlib.Core.Bool.{Bool, true, false, not, cond, ◌||◌}
use mathlib.Core.List.{List}
use Prim.Native.Nat.{ℕ, zero, suc, ◌+◌, ◌*◌, ◌≤◌}
use native.Mathlib.Nat.{mul-le-mul_right}
use native.Mathlib.Omega.{arith}
use lib.Dec.{ltb}
use lib.ListN.{length}
use borrow.Author.Tests.{ltb-false, not-false}
use Rattle.rules.specs.Each.{every}
use Rattle.rules.specs.Judging.{misfits, Inputs, Judged, is_gate, set_width, term_width, kind_wrong, order_wrong, most_made, scratch_needed, lent_short, judge_checks}
use Rattle.rules.specs.Judging.{checks, refusal, polynomials, judging, store_after, scratch_after, recorded, log_after, occurrences_after, kept_or}
use Rattle.rules.specs.Limits.{most_steps, terms_wrong, steps_wrong}
use Rattle.rules.specs.Netlist.{counts_wrong, table_short, table_unsound}
use Rattle.rules.specs.Product.{kind_of, kind_unknown}
use Rattle.rules.specs.Says.{refuses, refusal_number, answer_says, says, first, refuse_or}
use Rattle.rules.specs.Steps.{start}
use Rattle.std.specs.Prelude.{Option, Some, None, Result, Ok, Err}
use Rattle.rules.specs.declared.refusals.Refusal.{Refusal}
use Rattle.rules.specs.declared.answers.Answer.{Answer}
use Rattle.rules.specs.declared.answers.Answer.TheVariants.{OutOfRoom}
use Rattle.rules.specs.declared.answers.StepRecord.{StepRecord}
use Rattle.rules.specs.declared.counts.Counts.{Counts}
use Rattle.rules.specs.declared.records.RecordKind.{RecordKind}
use Rattle.rules.specs.declared.records.RecordKind.TheVariants.{Gates, Cells}
use Rattle.netlist.specs.Taken.{Sound}
use Rattle.words.specs.Stored.{decoded}
use Rattle.netlist.proofs.Facts.{passed as fitting}
use Rattle.checks.proofs.Checked.{limit_small, row_later, refusal_some}
use Rattle.rules.proofs.Indices.{neither}
use Rattle.judge.specs.Running.{Running, Finished}
use Rattle.judge.specs.Deciding.{handed, Passed, SetOut, Closing, last, Decided}
use Rattle.judge.specs.declared.run.NoRoom.{NoRoom}
use Rattle.judge.proofs.Going.{path}
use Rattle.judge.proofs.Opened.{Opened, opened, decided_none, closing, decided_last}

-- scratch for the most terms that a step makes is enough for a step, which gathers them as they are made
four_enough : (k : RecordKind) (limit width lent : ℕ) → most_made k * limit * width ≤ lent → 4 * limit * width ≤ lent
unfolding most_made
four_enough Gates limit width lent h = h
four_enough Cells limit width lent h =
    let fewer : 4 * limit ≤ 8 * limit = omega arith in
    omega (arith, mul-le-mul_right width fewer)

-- an order that is not too long
steps_few : (n : ℕ) → steps_wrong n ≡ false → n ≤ most_steps
unfolding steps_wrong
steps_few n h = ltb-false most_steps n h

-- of the later checks none holds
later_passed : (a b c : Bool) → ◌≡◌ {A = ℕ} (cond a 10 (cond b 11 (cond c 12 0))) 0 → (a ≡ false) × (b ≡ false) × (c ≡ false)
later_passed true b c h = absurd (omega arith)
later_passed false true c h = absurd (omega arith)
later_passed false false true h = absurd (omega arith)
later_passed false false false h = (refl, refl, refl)

module _ (c : Counts) (table : List ℕ) (kind limit : ℕ) (order store scratch occurrences : List ℕ) where
  -- what it says that no check holds
  pub all_passed : (log : ℕ) → first (judge_checks c table kind limit order (length store) (length scratch) log (length occurrences)) ≡ 0
      → Passed c table kind limit order store scratch log occurrences
  unfolding judge_checks first kind_wrong order_wrong lent_short scratch_needed
  all_passed log h =
      let four = row_later (counts_wrong c) (table_short c (length table)) (table_unsound c table) (kind_wrong c kind) _ h in
      let three = later_passed (terms_wrong limit) (order_wrong c order) (lent_short c limit (length order) (length store) (length scratch) log (length occurrences)) four.4 in
      let kinds = neither (kind_unknown kind) (misfits c (kind_of kind)) four.3 in
      let orders = neither (steps_wrong (length order)) (not (every (is_gate c) order)) three.1 in
      let short_store = ltb (length store) (limit * term_width c) in
      let short_scratch = ltb (length scratch) (scratch_needed c limit) in
      let all = neither (short_store || short_scratch || ltb log (length order)) (ltb (length occurrences) (c.m + 1)) three.2 in
      let lents = neither (short_store || short_scratch) (ltb log (length order)) all.0 in
      let words = neither short_store short_scratch lents.0 in
      record {
        block = record {
          sound = record { fitting = fitting four.0 four.1; literals = four.2 };
          fitting = kinds.1;
          taken = limit_small limit three.0;
          store_room = ltb-false (length store) (limit * term_width c) words.0;
          scratch_room = four_enough c.records limit (term_width c) (length scratch) (ltb-false (length scratch) (scratch_needed c limit) words.1);
          numbers_room = ltb-false (length occurrences) (c.m + 1) all.1;
        };
        short = steps_few (length order) orders.0;
        gates_only = not-false (every (is_gate c) order) orders.1;
        log_room = ltb-false log (length order) lents.1;
      }

  module _ (log : List StepRecord) where
    abbrev input : Inputs
    input = handed c table kind limit order store scratch log occurrences

    -- a refusal changes no word
    judged_refused : (number : ℕ) → number ≡ refusal input → (number ≡ 0 → ⊥) → {r : Result Answer Refusal} → says r ≡ refuses number
        → Judged input r store scratch log occurrences
    unfolding judging store_after scratch_after log_after occurrences_after refuse_or kept_or
    judged_refused zero e h said = absurd (h refl)
    judged_refused (suc k) e h said =
        record {
          said = said ∙ rw (← e);
          store_words = rw (← e);
          scratch_words = rw (← e);
          log_records = rw (← e);
          occurrence_words = rw (← e);
        }

    -- nothing refused: what is decided
    judged_decided : refusal input ≡ 0 → {r : Result Answer Refusal} {store' scratch' : List ℕ} {log' : List StepRecord} {occurrences' : List ℕ}
        → Decided c table kind limit order store scratch log occurrences r store' scratch' log' occurrences' → Judged input r store' scratch' log' occurrences'
    unfolding judging store_after scratch_after recorded log_after occurrences_after refuse_or kept_or polynomials
    judged_decided e d =
        record {
          said = rw e d.said;
          store_words = rw e d.store_words;
          scratch_words = rw e d.scratch_words;
          log_records = rw e d.log_records;
          occurrence_words = rw e d.occurrence_words;
        }

    -- where the checks refuse, nothing is set out, and the outcome is the refusal
    pub judged_stopped : {refusal : Refusal} {store₁ scratch₁ occurrences₁ : List ℕ}
        → SetOut c table kind limit order (length log) store scratch occurrences (Err refusal) store₁ scratch₁ occurrences₁
        → Judged input (Err refusal) store₁ scratch₁ log occurrences₁
    unfolding refusal checks
    judged_stopped {refusal} s =
        let same = s.left in
        rw (same.0, same.1, same.2) (judged_refused (refusal_number refusal) s.checked (refusal_some refusal) refl)

    module _ {begun : Option ℕ} {store₁ scratch₁ occurrences₁ : List ℕ}
        (s : SetOut c table kind limit order (length log) store scratch occurrences (Ok begun) store₁ scratch₁ occurrences₁) where
      -- a start comes only where nothing is refused
      none_refused : refusal input ≡ 0
      unfolding refusal checks
      none_refused = sym s.checked

      passed : Passed c table kind limit order store scratch (length log) occurrences
      passed = all_passed (length log) (sym s.checked)

      -- so the block is sound
      pub block_sound : Sound c table
      block_sound = passed.block.sound

    -- no room at the start
    pub judged_full : {store₁ scratch₁ occurrences₁ : List ℕ}
        → SetOut c table kind limit order (length log) store scratch occurrences (Ok None) store₁ scratch₁ occurrences₁
        → Judged input (Ok (OutOfRoom 0 0)) store₁ scratch₁ log occurrences₁
    judged_full s = judged_decided (none_refused s) (decided_none (passed s) s.left)

    module _ {held : ℕ} {store₁ scratch₁ occurrences₁ : List ℕ}
        (s : SetOut c table kind limit order (length log) store scratch occurrences (Ok (Some held)) store₁ scratch₁ occurrences₁) where
      start_opened : Opened c table limit (start (kind_of kind) c table) store scratch occurrences held store₁ scratch₁ occurrences₁
      start_opened = opened (passed s).block s.left

      -- what the run asks is there
      pub run_ready : Running c table limit held (decoded (set_width c) held store₁) store₁ scratch₁ occurrences₁
          × (every (is_gate c) order ≡ true) × (length order ≤ length log)
      run_ready = (start_opened.running, (passed s).gates_only, (passed s).log_room)

      module _ {ran : Result ℕ NoRoom} {store₂ scratch₂ : List ℕ} {log₂ : List StepRecord} {occurrences₂ : List ℕ}
          (f : Finished c table limit order (path c table (decoded (set_width c) held store₁) order) store₁ scratch₁ log occurrences₁ ran store₂ scratch₂ log₂ occurrences₂) where
        -- what the answer after it asks is there
        pub ran_closing : Closing c kind (length order) ran store₂
        ran_closing = closing (passed s) start_opened f

        -- and with it the outcome is the one permitted
        pub judged_last : {answer : Answer} → answer_says answer ≡ last c table kind (length order) ran store₂ → Judged input (Ok answer) store₂ scratch₂ log₂ occurrences₂
        judged_last {answer} said = judged_decided (none_refused s) (decided_last (passed s) start_opened ran f (Ok answer) said)
