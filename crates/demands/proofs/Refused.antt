-- The evaluator and the judge refuse with the first condition that holds, and a refusal changes nothing.
use mathlib.Core.Path.{◌≡◌, refl, sym, ◌∙◌}
use mathlib.Core.Bool.{Bool, true, false, cond}
use mathlib.Core.List.{List, [], ◌∷◌}
use mathlib.Core.Logic.{inl, inr, ◌↔◌}
use Prim.Native.Nat.{ℕ, zero, suc, ◌<◌}
use native.Mathlib.Omega.{arith}
use Rattle.rules.specs.Says.{Says, refuses, answers, first, refuse_or}
use Rattle.rules.specs.Values.{evaluate_checks, evaluating, shown}
use Rattle.rules.specs.Judging.{kept_or, judge_checks, checks, refusal, judging, store_after, scratch_after, log_after, occurrences_after}
use Rattle.rules.proofs.All.{All}
use Rattle.demands.specs.Refusals.{First, EvaluateRefusedExact, JudgeRefusedExact, JudgeRefusalKeeps}
use Rattle.demands.proofs.Passed.{apart}
use Rattle.demands.proofs.Verdicts.{verdict_on, judging_passed, verdict_answers}

-- every check has a number above 0
abbrev pub Numbered : List (ℕ × Bool) → Type 0
Numbered = All (λ (check : ℕ × Bool). 0 < check.0)

-- the number found is that of the first condition that holds
first_holds : (list : List (ℕ × Bool)) (k : ℕ) → first list ≡ suc k → First list (suc k)
unfolding first
first_holds [] k h = absurd (omega arith)
first_holds (check ∷ later) k h = go check.1 refl h (λ e. first_holds later k e)
  where
    go : (t : Bool) → check.1 ≡ t → cond t check.0 (first later) ≡ suc k → (first later ≡ suc k → First later (suc k)) → First (check ∷ later) (suc k)
    go true e h r = inl (h, e)
    go false e h r = inr (e, r h)

-- and the first condition that holds is the one found
first_found : (list : List (ℕ × Bool)) (k : ℕ) → Numbered list → First list k → (first list ≡ k) × (0 < k)
unfolding first
first_found [] k n f = absurd f
first_found (check ∷ later) k n (inl e) = (rw e.1 e.0, rw e.0 at n.0)
first_found (check ∷ later) k n (inr e) = let found = first_found later k n.1 e.1 in (rw e.0 found.0, found.1)

-- what is said is a refusal exactly when a check's condition holds, where what follows the checks is none
pub refused_exact : (list : List (ℕ × Bool)) (later : Says) → Numbered list → ((i : ℕ) → later ≡ refuses i → ⊥)
    → (k : ℕ) → (refuse_or (first list) later ≡ refuses k) ↔ First list k
unfolding refuse_or
refused_exact list later n none k = (forth, back)
  where
    forth : refuse_or (first list) later ≡ refuses k → First list k
    forth h = go (first list) refl h
      where
        go : (j : ℕ) → first list ≡ j → refuse_or j later ≡ refuses k → First list k
        go zero e h = absurd (none k h)
        go (suc j) e h = let same : suc j ≡ k = cc in rw same at (first_holds list j e)

    back : First list k → refuse_or (first list) later ≡ refuses k
    back f = let found = first_found list k n f in rw found.0 (go k found.1)
      where
        go : (j : ℕ) → 0 < j → refuse_or j later ≡ refuses j
        go zero l = absurd (omega arith)
        go (suc j) l = refl

-- the evaluator refuses with the first condition that holds
pub evaluate_refused_exact : EvaluateRefusedExact
unfolding evaluating evaluate_checks
evaluate_refused_exact c table a b r e k =
    let exact = refused_exact (evaluate_checks c table) (answers 0 (shown c table a b ∷ [])) (omega arith) (λ i h. apart 0 i _ h) k in
    ((λ h. exact.0 (sym e.said ∙ h)), (λ f. e.said ∙ exact.1 f))

-- so does the judge
pub judge_refused_exact : JudgeRefusedExact
unfolding judging refusal checks judge_checks
judge_refused_exact x r store scratch log occurrences j k =
    let exact = refused_exact (checks x) (verdict_on x) (omega arith) (λ i h. verdict_answers x i (sym h)) k in
    ((λ h. exact.0 (sym j.said ∙ h)), (λ f. j.said ∙ exact.1 f))

-- and then every lent word is as it was
pub judge_refusal_keeps : JudgeRefusalKeeps
unfolding store_after scratch_after log_after occurrences_after kept_or
judge_refusal_keeps x r store scratch log occurrences j k h = go (refusal x) refl
  where
    go : (n : ℕ) → refusal x ≡ n → (store ≡ x.store) × (scratch ≡ x.scratch) × (log ≡ x.log) × (occurrences ≡ x.occurrences)
    go zero e = absurd (verdict_answers x k (sym h ∙ j.said ∙ judging_passed x e))
    go (suc n) e = (j.store_words ∙ rw e refl, j.scratch_words ∙ rw e refl, j.log_records ∙ rw e refl, j.occurrence_words ∙ rw e refl)
