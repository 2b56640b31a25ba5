-- What the judge says, taken apart: a refusal, R where a polynomial has more than T terms, and else E, D or U by the last one.
use mathlib.Core.Path.{◌≡◌, refl, ◌∙◌}
use mathlib.Core.Bool.{Bool, true, false, cond, true≢false}
use mathlib.Core.List.{List, [], ◌∷◌}
use Prim.Native.Nat.{ℕ, zero, suc, ◌<◌, ◌≤◌}
use native.Mathlib.Omega.{arith}
use lib.Dec.{leb}
use lib.ListN.{length, get_or}
use borrow.Author.Tests.{le-leb, lt-leb, leb-true, leb-false}
use Rattle.rules.specs.Each.{every}
use Rattle.rules.specs.Says.{Says, refuses, answers, refuse_or}
use Rattle.rules.specs.Product.{kind_of, operand_a, operand_b, operand_c}
use Rattle.rules.specs.Polynomial.{Term, Polynomial}
use Rattle.rules.specs.Steps.{run, after}
use Rattle.rules.specs.Judging.{Inputs, roomy, held, inputs_only, soonest, differs, ended, verdict, refusal, judging}
use Rattle.rules.proofs.Trails.{length_run}
use Rattle.demands.specs.Answers.{bits, got, wanted, following}
use Rattle.demands.proofs.Passed.{answered}
use Rattle.demands.proofs.TermLimit.{roomy_le}

-- the verdict on what is handed in, once nothing is refused
abbrev pub verdict_on : Inputs → Says
verdict_on x = verdict (kind_of x.kind) x.counts x.table x.limit x.order

-- nothing is refused: the judge says the verdict
pub judging_passed : (x : Inputs) → refusal x ≡ 0 → judging x ≡ verdict_on x
unfolding judging refuse_or
judging_passed x h = rw h

-- the polynomials after 0, 1, 2, .. steps
abbrev pub polynomials_on : Inputs → List Polynomial
polynomials_on x = run (kind_of x.kind) x.counts x.table x.order

-- the last one
abbrev pub last : Inputs → Polynomial
last x = following x (length x.order)

-- how many of them have room before one has not
abbrev pub room : Inputs → ℕ
room x = roomy x.limit (polynomials_on x)

-- what D says: the last polynomial has terms, of input variables only; the operands are its soonest set's, with the two words there
pub record Differing (x : Inputs) (a b c g w : ℕ) : Type 0 where
  pub head : Term
  pub tail : Polynomial
  pub parts : last x ≡ head ∷ tail
  pub inputs : inputs_only x.counts (head ∷ tail) ≡ true
  pub first : a ≡ operand_a (bits x) (soonest head.1 tail)
  pub second : b ≡ operand_b (bits x) (soonest head.1 tail)
  pub third : c ≡ operand_c (bits x) (soonest head.1 tail)
  pub shows : g ≡ got x a b c
  pub wants : w ≡ wanted x a b c

-- what an answer says of the run
abbrev pub Means : Inputs → Says → Type 0
Means x (refuses k) = ⊥
Means x (answers zero numbers) = last x ≡ []
Means x (answers (suc zero) numbers) = Differing x (get_or numbers 2 0) (get_or numbers 3 0) (get_or numbers 4 0) (get_or numbers 5 0) (get_or numbers 6 0)
Means x (answers (suc (suc zero)) numbers) =
    (room x ≤ length x.order) × (room x ≡ get_or numbers 0 0) × (length (held x.limit (polynomials_on x)) ≡ get_or numbers 1 0)
Means x (answers (suc (suc (suc k))) numbers) = (length x.order < room x) × (inputs_only x.counts (last x) ≡ false)

module _ (x : Inputs) where
  -- there is one polynomial more than there are steps
  pub length_polynomials : length (polynomials_on x) ≡ suc (length x.order)
  length_polynomials = length_run (kind_of x.kind) x.counts x.table x.order

  -- one of them has no room: R
  pub verdict_room : room x ≤ length x.order → verdict_on x ≡ answers 2 (room x ∷ length (held x.limit (polynomials_on x)) ∷ [])
  unfolding verdict
  verdict_room h = rw (le-leb (room x) (length x.order) h)

  -- all have: the last one is held
  pub held_last : length x.order < room x → held x.limit (polynomials_on x) ≡ last x
  unfolding held after
  held_last h =
      let e : room x ≡ suc (length x.order) = omega (arith, roomy_le x.limit (polynomials_on x), length_polynomials) in
      rw e

  -- what is said of the last one
  abbrev ending : Polynomial → Says
  ending = ended (kind_of x.kind) x.counts x.table (length x.order)

  -- all have room: E, D or U by the last one
  verdict_ended : length x.order < room x → verdict_on x ≡ ending (last x)
  unfolding verdict
  verdict_ended h = rw (lt-leb (room x) (length x.order) h, held_last h)

  -- it has a variable that is no input: U
  ended_unfinished : (p : Polynomial) → inputs_only x.counts p ≡ false → ending p ≡ answers 3 (length x.order ∷ length p ∷ [])
  unfolding ended inputs_only every
  ended_unfinished [] h = absurd (true≢false h)
  ended_unfinished (t ∷ p) h = rw h

  -- all have room and the last one has a variable that is no input: U
  pub verdict_unfinished : length x.order < room x → inputs_only x.counts (last x) ≡ false
      → verdict_on x ≡ answers 3 (length x.order ∷ length (last x) ∷ [])
  verdict_unfinished h k = verdict_ended h ∙ ended_unfinished (last x) k

  -- what is said of the last polynomial is so
  ended_means : length x.order < room x → (p : Polynomial) → last x ≡ p → Means x (ending p)
  unfolding ended differs
  ended_means over [] e = e
  ended_means over (t ∷ p) e = go (inputs_only x.counts (t ∷ p)) refl
    where
      go : (b : Bool) → inputs_only x.counts (t ∷ p) ≡ b
          → Means x (cond b (differs (kind_of x.kind) x.counts x.table (length x.order) (length (t ∷ p)) (soonest t.1 p))
          (answers 3 (length x.order ∷ length (t ∷ p) ∷ [])))
      go true k = record { head = t; tail = p; parts = e; inputs = k; first = refl; second = refl; third = refl; shows = refl; wants = refl }
      go false k = (over, rw e k)

  -- what the verdict says is so
  verdict_means : (s : Says) → s ≡ verdict_on x → Means x s
  verdict_means s h = rw h (go (leb (room x) (length x.order)) refl)
    where
      go : (t : Bool) → leb (room x) (length x.order) ≡ t → Means x (verdict_on x)
      go true e = let within = leb-true _ _ e in rw (verdict_room within) (within, refl, refl)
      go false e = let over = leb-false _ _ e in rw (verdict_ended over) (ended_means over (last x) refl)

  -- the verdict is no refusal
  pub verdict_answers : (k : ℕ) → refuses k ≡ verdict_on x → ⊥
  verdict_answers k h = verdict_means (refuses k) h

  -- an answer says that nothing is refused, and what it says is so
  pub answer_means : (k : ℕ) (numbers : List ℕ) → answers k numbers ≡ judging x → (refusal x ≡ 0) × Means x (answers k numbers)
  unfolding judging
  answer_means k numbers h =
      let said = answered (refusal x) (verdict_on x) k numbers h in
      (said.0, verdict_means (answers k numbers) said.1)

  -- an answer that is not R says that all have room
  pub answer_roomy : (k : ℕ) (numbers : List ℕ) → answers k numbers ≡ judging x → (k ≡ 2 → ⊥) → length x.order < room x
  unfolding judging
  answer_roomy k numbers h other =
      let said = (answered (refusal x) (verdict_on x) k numbers h).1 in
      let late : room x ≤ length x.order → ⊥ = λ l. let e = said ∙ verdict_room l in let same : k ≡ 2 = cc in other same in
      omega arith
