-- Each stand-in is shut out: the row computes to something else.
use mathlib.Core.Path.{◌≡◌, refl, ap, ◌∙◌}
use mathlib.Core.List.{List, [], ◌∷◌}
use Prim.Native.Nat.{ℕ}
use native.Mathlib.Omega.{arith}
use lib.ListN.{get_or}
use Rattle.rules.specs.Says.{answers, answer_says}
use Rattle.rules.specs.Bench.{right}
use Rattle.rules.specs.Judging.{judging, store_after, log_after, occurrences_after}
use Rattle.demands.specs.StandIns.{handed, and_block, p1, p3, p6, p10, first_terms, first_made, NotRefuseEverything, NotAlwaysEqual, NotTouchNothing, NotReduceAtOnce, NotCountAfterGathering, NotCountAtTheStart, NotInventTheOccurrences, NotInventTheCount}

-- what the judge says of P1, P3 and P6
p1_says : judging p1 ≡ answers 0 (1 ∷ 0 ∷ [])
unfolding right handed and_block p1
p1_says = refl

p3_says : judging p3 ≡ answers 1 (1 ∷ 1 ∷ 1 ∷ 1 ∷ 0 ∷ 3 ∷ 1 ∷ [])
unfolding right handed and_block p3
p3_says = refl

p6_says : judging p6 ≡ answers 3 (0 ∷ 2 ∷ [])
unfolding right handed and_block p6
p6_says = refl

-- the first word of P3's store at exit, and the terms after P10's first step
p3_stores : get_or (store_after p3) 0 0 ≡ 2
unfolding right handed and_block p3
p3_stores = refl

p10_logs : first_terms (log_after p10) ≡ 10
unfolding right handed p10
p10_logs = refl

-- the terms of P1's step, after it and before gathering
p1_logs : (first_terms (log_after p1) ≡ 0) × (first_made (log_after p1) ≡ 2)
unfolding right handed and_block p1
p1_logs = (refl, refl)

-- the occurrences of P1 and of P6 at exit
p1_counts : occurrences_after p1 ≡ 0 ∷ 0 ∷ 0 ∷ 0 ∷ []
unfolding right handed and_block p1
p1_counts = refl

p6_counts : occurrences_after p6 ≡ 2 ∷ 1 ∷ 1 ∷ 1 ∷ []
unfolding right handed and_block p6
p6_counts = refl

-- refusing everything is shut out
pub not_refuse_everything : NotRefuseEverything
unfolding answer_says
not_refuse_everything refusal store scratch log occurrences j =
    let e = j.said ∙ p1_says in
    let z : ◌≡◌ {A = ℕ} 0 1 = cc in omega arith

-- always E is shut out
pub not_always_equal : NotAlwaysEqual
unfolding answer_says
not_always_equal steps held store scratch log occurrences j =
    let e = j.said ∙ p3_says in
    let z : ◌≡◌ {A = ℕ} 0 1 = cc in omega arith

-- touching nothing is shut out
pub not_touch_nothing : NotTouchNothing
unfolding handed and_block p3
not_touch_nothing r j = let e : ◌≡◌ {A = ℕ} 77 2 = ap (λ (list : List ℕ). get_or list 0 0) j.store_words ∙ p3_stores in omega arith

-- reducing wholly in the first step is shut out
pub not_reduce_at_once : NotReduceAtOnce
not_reduce_at_once r store scratch log occurrences none j =
    let e : first_terms log ≡ 10 = ap first_terms j.log_records ∙ p10_logs in
    omega arith

-- counting the peak after gathering is shut out
pub not_count_after_gathering : NotCountAfterGathering
not_count_after_gathering r store scratch log occurrences after j =
    let terms : first_terms log ≡ 0 = ap first_terms j.log_records ∙ p1_logs.0 in
    let made : first_made log ≡ 2 = ap first_made j.log_records ∙ p1_logs.1 in
    omega arith

-- counting the occurrences at the start alone is shut out
pub not_count_at_the_start : NotCountAtTheStart
not_count_at_the_start r store scratch log j =
    let e : ◌≡◌ {A = ℕ} 2 0 = ap (λ (list : List ℕ). get_or list 0 0) (j.occurrence_words ∙ p1_counts) in
    omega arith

-- invented occurrences are shut out
pub not_invent_the_occurrences : NotInventTheOccurrences
not_invent_the_occurrences r store scratch log occurrences other j = other (j.occurrence_words ∙ p6_counts)

-- an invented count is shut out
pub not_invent_the_count : NotInventTheCount
unfolding answer_says
not_invent_the_count steps held store scratch log occurrences other j =
    let e = j.said ∙ p6_says in
    let z : held ≡ 2 = cc in other z
