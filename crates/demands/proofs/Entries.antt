-- The entries of the occurrences are the numbers of terms that hold each variable.
use mathlib.Core.Path.{◌≡◌, refl, ap, sym, ◌∙◌}
use mathlib.Core.Bool.{true, true≢false}
use mathlib.Core.List.{List, [], ◌∷◌}
use mathlib.Core.Logic.{inl, inr, ⊎_elim}
use Prim.Native.Nat.{ℕ, zero, suc, ◌+◌, ◌<◌, ◌≤◌}
use native.Mathlib.Omega.{arith}
use lib.ListN.{length, get_or, drop, length-append, get_or-append}
use lib.Seq.{drop_at}
use Rattle.rules.specs.Each.{sum, every}
use Rattle.std.specs.Prelude.{Result, Ok}
use Rattle.rules.specs.declared.refusals.Refusal.{Refusal}
use Rattle.rules.specs.Says.{answers, answer_says, says}
use Rattle.rules.specs.Values.{bit}
use Rattle.rules.specs.Occurrences.{counts_at, occurring, occurrences, with_occurrences}
use Rattle.rules.specs.Polynomial.{Polynomial}
use Rattle.rules.specs.Judging.{Inputs, inputs_only, held, polynomials, kept_or, judging, occurrences_after}
use Rattle.rules.specs.declared.answers.Answer.{Answer}
use Rattle.rules.specs.declared.answers.Answer.TheVariants.{Unfinished}
use Rattle.rules.specs.declared.counts.Counts.{Counts}
use Rattle.rules.proofs.Bits.{bit_cases}
use Rattle.rules.proofs.Indices.{length_listed, get_or_listed}
use Rattle.rules.proofs.Occurring.{counts_bit}
use Rattle.demands.specs.Answers.{Answered, Occurs}
use Rattle.demands.specs.Entries.{terms_with, Entries, OccurrencesExact, UnfinishedEntry, FinishedEntries}
use Rattle.demands.proofs.Occurs.{not_inputs}
use Rattle.demands.proofs.Room.{unfinished_exact}
use Rattle.demands.proofs.Verdicts.{last, held_last, answer_means, answer_roomy}

-- a sum with its first number taken out
sum_first : (n : ℕ) (f : ℕ → ℕ) → sum (suc n) f ≡ f 0 + sum n (λ i. f (suc i))
unfolding sum
sum_first zero f = omega arith
sum_first (suc n) f = omega (arith, sum_first n f)

-- at 0 every term counts
occurring_all : (p : Polynomial) → occurring p 0 ≡ length p
unfolding occurring counts_at
occurring_all [] = refl
occurring_all (t ∷ p) = omega (arith, occurring_all p)

module _ (v : ℕ) (l : 0 < v) where
  -- so every term that holds it counts
  occurring_with : (p : Polynomial) → occurring p v ≡ terms_with v p
  unfolding occurring sum
  occurring_with [] = refl
  occurring_with (t ∷ p) =
      rw (counts_bit t.1 v l, occurring_with p) (sym (sum_first (length p) (λ i. bit (get_or (t ∷ p) i (0, 0)).1 v)))

  -- a variable that occurs counts
  pub occurs_counts : (p : Polynomial) (i : ℕ) → i < length p → bit (get_or p i (0, 0)).1 v ≡ 1 → 0 < occurring p v
  unfolding occurring
  occurs_counts [] i k e = absurd (omega arith)
  occurs_counts (t ∷ p) zero k e = omega (arith, counts_bit t.1 v l, e)
  occurs_counts (t ∷ p) (suc i) k e = omega (arith, occurs_counts p i (omega arith) e)

  -- and one that counts occurs
  pub counts_occurs : (p : Polynomial) → 0 < occurring p v → Occurs v p
  unfolding occurring
  counts_occurs [] h = absurd (omega arith)
  counts_occurs (t ∷ p) h =
      ⊎_elim
      (λ (lacks : bit t.1 v ≡ 0).
      let z = counts_occurs p (omega (arith, counts_bit t.1 v l)) in (suc z.0, omega (arith, z.1), z.2))
      (λ (holds : bit t.1 v ≡ 1). (0, omega arith, holds))
      (bit_cases t.1 v)

module _ (c : Counts) (p : Polynomial) (words : List ℕ) where
  -- the words in front
  abbrev front : List ℕ
  front = occurrences c p

  -- they are M + 1
  front_length : length front ≡ c.m + 1
  unfolding occurrences
  front_length = length_listed (c.m + 1) (occurring p)

  -- an entry is how many terms count there
  pub entry_at : (v : ℕ) → v ≤ c.m → get_or (with_occurrences c p words) v 0 ≡ occurring p v
  unfolding with_occurrences occurrences
  entry_at v l =
      get_or-append front (drop (c.m + 1) words) 0 v (omega (arith, front_length)) ∙ get_or_listed (c.m + 1) (occurring p) 0 v (omega arith)

  -- the words past the entries are as they were
  behind : drop (c.m + 1) (with_occurrences c p words) ≡ drop (c.m + 1) words
  unfolding with_occurrences
  behind = drop_at front (drop (c.m + 1) words) (c.m + 1) front_length

  -- there is a word for each entry
  long_enough : c.m < length (with_occurrences c p words)
  unfolding with_occurrences
  long_enough = omega (arith, length-append front (drop (c.m + 1) words), front_length)

  -- the words in front are the entries of the polynomial
  entries : Entries c p (with_occurrences c p words)
  entries =
      record {
        room = long_enough;
        all = omega (arith, entry_at 0 (omega arith), occurring_all p);
        each = λ v l k. entry_at v k ∙ occurring_with v l p;
        none = λ v l k. (
          (λ e occurs. omega (arith, entry_at v k, occurs_counts v l p occurs.0 occurs.1 occurs.2)),
          (λ gone. let none : 0 < occurring p v → ⊥ = λ some. gone (counts_occurs v l p some) in omega (arith, entry_at v k)),
        );
      }

-- the occurrences at exit are the entries of the polynomial held, and the words past them are as they were
pub occurrences_exact : OccurrencesExact
unfolding occurrences_after kept_or
occurrences_exact x r answered passed =
    let p = held x.limit (polynomials x) in
    let exit : answered.occurrences ≡ with_occurrences x.counts p x.occurrences = answered.judged.occurrence_words ∙ rw passed refl in
    (rw exit (entries x.counts p x.occurrences), rw exit (behind x.counts p x.occurrences))

module _ (x : Inputs) (r : Result Answer Refusal) (answered : Answered x r) (k : ℕ) (numbers : List ℕ) (said : answers k numbers ≡ judging x) (other : k ≡ 2 → ⊥) where
  -- after an answer that is not R they are those of the last polynomial
  last_entries : Entries x.counts (last x) answered.occurrences
  unfolding polynomials
  last_entries =
      rw (held_last x (answer_roomy x k numbers said other)) at (occurrences_exact x r answered (answer_means x k numbers said).0).0

  -- where that one has input variables only, every gate's entry is 0
  gates_gone : inputs_only x.counts (last x) ≡ true → (v : ℕ) → x.counts.i < v → v ≤ x.counts.m → get_or answered.occurrences v 0 ≡ 0
  gates_gone inputs v above below =
      (last_entries.none v (omega arith) below).1
      (λ occurs. true≢false (sym inputs ∙ not_inputs x.counts (last x) (v, above, below, occurs)))

-- "unfinished": some gate's entry is not 0
pub unfinished_entry : UnfinishedEntry
unfolding answer_says
unfinished_entry x steps terms answered =
    let r = Ok (Unfinished steps terms) in
    let gate = ((unfinished_exact x r answered).0 (steps, terms, refl)).1 in
    let own = last_entries x r answered 3 (steps ∷ terms ∷ []) answered.judged.said (λ e. omega arith) in
    let some : get_or answered.occurrences gate.0 0 ≡ 0 → ⊥ =
    λ e. (own.none gate.0 (omega (arith, gate.1)) gate.2).0 e gate.3 in
    (gate.0, gate.1, gate.2, omega arith)

-- "equal" and "differs": every gate's entry is 0
pub finished_entries : FinishedEntries
unfolding answer_says inputs_only every
finished_entries x r answered (inl (steps, terms, e)) v above below =
    let said : answers 0 (steps ∷ terms ∷ []) ≡ judging x = ap says (sym e) ∙ answered.judged.said in
    gates_gone x r answered 0 _ said (λ z. omega arith) (rw (answer_means x 0 _ said).1 refl) v above below
finished_entries x r answered (inr (steps, terms, a, b, c, g, w, e)) v above below =
    let said : answers 1 (steps ∷ terms ∷ a ∷ b ∷ c ∷ g ∷ w ∷ []) ≡ judging x = ap says (sym e) ∙ answered.judged.said in
    let found = (answer_means x 1 _ said).1 in
    gates_gone x r answered 1 _ said (λ z. omega arith) (rw found.parts found.inputs) v above below
