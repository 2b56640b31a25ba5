-- How often each variable still occurs: what the buffer of the occurrences says after any order.
use Rattle.std.specs.Prelude.{◌≡◌, List, ◌↔◌, ◌⊎◌, ℕ, ◌+◌, ◌<◌, ◌≤◌, length, get_or, drop, Result, Ok}
use Rattle.rules.specs.Each.{sum}
use Rattle.rules.specs.Values.{bit}
use Rattle.rules.specs.Polynomial.{Polynomial}
use Rattle.rules.specs.Judging.{Inputs, held, polynomials, refusal}
use Rattle.rules.specs.declared.refusals.Refusal.{Refusal}
use Rattle.rules.specs.declared.answers.Answer.{Answer}
use Rattle.rules.specs.declared.answers.Answer.TheVariants.{Equal, Differs, Unfinished}
use Rattle.rules.specs.declared.counts.Counts.{Counts}
use Rattle.demands.specs.Answers.{Answered, Occurs}

-- the number of terms that hold v: one for each term with v in its set
abbrev pub terms_with : ℕ → Polynomial → ℕ
terms_with v p = sum (length p) (λ i. bit (get_or p i (0, 0)).1 v)

-- the entries of a polynomial, from 0 to M: entry 0 is the number of its terms, and entry v of those that hold v, which is 0 exactly
-- when v does not occur
pub record Entries (c : Counts) (p : Polynomial) (entries : List ℕ) : Type 0 where
  pub room : c.m < length entries
  pub all : get_or entries 0 0 ≡ length p
  pub each : (v : ℕ) → 0 < v → v ≤ c.m → get_or entries v 0 ≡ terms_with v p
  pub none : (v : ℕ) → 0 < v → v ≤ c.m → (get_or entries v 0 ≡ 0) ↔ (Occurs v p → ⊥)

-- where nothing is refused the buffer has the entries of the polynomial held, and its words past them keep their values
abbrev pub OccurrencesExact : Type 0
OccurrencesExact =
    (x : Inputs) (r : Result Answer Refusal) (answered : Answered x r) → refusal x ≡ 0
    → Entries x.counts (held x.limit (polynomials x)) answered.occurrences
    × (drop (x.counts.m + 1) answered.occurrences ≡ drop (x.counts.m + 1) x.occurrences)

-- "unfinished": some gate's entry is not 0
abbrev pub UnfinishedEntry : Type 0
UnfinishedEntry =
    (x : Inputs) (steps terms : ℕ) (answered : Answered x (Ok (Unfinished steps terms)))
    → (v : ℕ) × (x.counts.i < v) × (v ≤ x.counts.m) × (0 < get_or answered.occurrences v 0)

-- "equal" or "differs"
abbrev pub EqualOrDiffers : Result Answer Refusal → Type 0
EqualOrDiffers r =
    ((steps terms : ℕ) × (r ≡ Ok (Equal steps terms))) ⊎ ((steps terms a b c g w : ℕ) × (r ≡ Ok (Differs steps terms a b c g w)))

-- "equal" and "differs": every gate's entry is 0
abbrev pub FinishedEntries : Type 0
FinishedEntries =
    (x : Inputs) (r : Result Answer Refusal) (answered : Answered x r) → EqualOrDiffers r
    → (v : ℕ) → x.counts.i < v → v ≤ x.counts.m → get_or answered.occurrences v 0 ≡ 0
