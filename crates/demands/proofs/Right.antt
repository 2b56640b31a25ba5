-- "Equal" and "differs" say what is so of the outputs.
use mathlib.Core.Path.{◌≡◌, sym, subst, ◌∙◌}
use mathlib.Core.Bool.{true}
use mathlib.Core.List.{[], ◌∷◌}
use Prim.Native.Nat.{ℕ, suc, ◌+◌, ◌%◌, ◌^◌, ◌<◌}
use native.Mathlib.Nat.{zero-add, mod-lt, mod-eq_of_lt, mod-add-mod, zero-mod}
use native.Mathlib.Omega.{arith}
use borrow.Author.Tests.{ltb-true}
use lib.Dec.{ltb}
use lib.ListN.{length}
use lib.Pow.{pow_pos}
use Rattle.rules.specs.Each.{every}
use Rattle.rules.specs.Says.{answer_says}
use Rattle.rules.specs.Product.{Kind, kind_of, operand_width, outputs_of, wanted_word}
use Rattle.rules.specs.Polynomial.{Term, Polynomial, coefficient_at}
use Rattle.rules.specs.Steps.{modulus, after}
use Rattle.rules.specs.Judging.{Inputs, inputs_only, soonest}
use Rattle.rules.specs.declared.counts.Counts.{Counts}
use Rattle.rules.proofs.Indices.{both}
use Rattle.rules.proofs.Gathered.{coefficient_lt}
use Rattle.rules.proofs.Sound.{right_counts, sound_table}
use Rattle.rules.proofs.Places.{Fits, fits}
use Rattle.rules.proofs.Remainders.{same_cancel}
use Rattle.rules.proofs.All.{all_map}
use Rattle.rules.proofs.AllSets.{AllSets}
use Rattle.demands.specs.Polynomials.{value, values_for}
use Rattle.demands.specs.Answers.{bits, Operands, got, wanted, Before, Least, EqualRight, DiffersRight}
use Rattle.demands.proofs.StepShape.{Shape, run_shape, run_value}
use Rattle.demands.proofs.Operands.{modulus_positive}
use Rattle.demands.proofs.StartValue.{start_value}
use Rattle.demands.proofs.Passed.{Passed, passed}
use Rattle.demands.proofs.Verdicts.{last, Differing, answer_means}
use Rattle.demands.proofs.Absent.{Lacks, false_absent}
use Rattle.demands.proofs.Soonest.{NotAfter, Earlier, earlier_first, soonest_holds, soonest_first}
use Rattle.demands.proofs.Pairs.{pair_value, coefficient_positive, coefficient_none}
use Rattle.demands.proofs.Places.{operand_set, set_earlier, OperandsOf, operands_of, two_words}

-- the wanted word is below 2^l
wanted_below : (kind : Kind) (c : Counts) (a b addend : ℕ) → wanted_word kind (operand_width kind c) a b addend < modulus kind c
unfolding wanted_word modulus
wanted_below kind c a b addend = mod-lt _ (pow_pos (outputs_of kind (operand_width kind c)))

-- the sets of input variables only
inputs_below : (c : Counts) (p : Polynomial) → inputs_only c p ≡ true → AllSets (λ s. s < 2 ^ suc c.i) p
unfolding inputs_only every
inputs_below c [] h = tt
inputs_below c (t ∷ p) h =
    let parts = both (ltb t.1 (2 ^ (c.i + 1))) (inputs_only c p) h in
    let all : c.i + 1 ≡ suc c.i = omega arith in
    (rw all at (ltb-true t.1 (2 ^ (c.i + 1)) parts.0), inputs_below c p parts.1)

-- the value of the last polynomial at operands
abbrev last_at : Inputs → ℕ → ℕ → ℕ → ℕ
last_at x a b c = value (values_for (kind_of x.kind) x.counts x.table a b c) (last x)

-- 2^l
abbrev all_words : Inputs → ℕ
all_words x = modulus (kind_of x.kind) x.counts

module _ (x : Inputs) (ok : Passed x) where
  -- the block fits its kind
  fit : Fits (kind_of x.kind) x.counts
  fit = fits (kind_of x.kind) x.counts ok.counts ok.fitting

  -- got less wanted, modulo 2^l, is the value of the last polynomial
  last_value : (a b c : ℕ) → Operands x a b c → (last_at x a b c + wanted x a b c) % all_words x ≡ got x a b c
  unfolding after
  last_value a b c o =
      let right = right_counts x.counts ok.counts in
      let sound = sound_table x.counts x.table ok.sound in
      rw (
        ← mod-add-mod,
        run_value (kind_of x.kind) x.counts x.table right sound x.order ok.gates (length x.order) (omega arith) _ _,
        mod-add-mod,
      )
      (start_value (kind_of x.kind) x.counts x.table ok.counts ok.sound ok.fitting a b c o.0 o.1 o.2)

  -- where it is 0, the words are equal
  words_equal : (a b c : ℕ) → Operands x a b c → last_at x a b c ≡ 0 → got x a b c ≡ wanted x a b c
  words_equal a b c o none =
      sym (rw (none, zero-add) at (last_value a b c o)) ∙ mod-eq_of_lt (wanted_below (kind_of x.kind) x.counts a b c)

  -- where it is from 1 to 2^l - 1, they are not
  words_differ : (a b c : ℕ) → Operands x a b c → 0 < last_at x a b c → last_at x a b c < all_words x → got x a b c ≡ wanted x a b c → ⊥
  words_differ a b c o some below same =
      let wants = wanted x a b c in
      let alone : (0 + wants) % all_words x ≡ wants = rw zero-add (mod-eq_of_lt (wanted_below (kind_of x.kind) x.counts a b c)) in
      let none = same_cancel (all_words x) (omega arith) (last_at x a b c) 0 wants (last_value a b c o ∙ same ∙ sym alone) in
      omega (arith, mod-eq_of_lt below, none, zero-mod (all_words x))

  -- where the last polynomial has terms, of input variables only
  module _ (t : Term) (p : Polynomial) (parts : last x ≡ t ∷ p) (inputs : inputs_only x.counts (t ∷ p) ≡ true) where
    -- its soonest set
    abbrev soon : ℕ
    soon = soonest t.1 p

    -- every set is one of input variables
    set_below : AllSets (λ s. s < 2 ^ suc x.counts.i) (t ∷ p)
    set_below = inputs_below x.counts (t ∷ p) inputs

    -- it is normal
    shape : Shape (kind_of x.kind) x.counts (t ∷ p)
    unfolding after
    shape =
        rw parts at
        (run_shape (kind_of x.kind) x.counts x.table (right_counts x.counts ok.counts) (sound_table x.counts x.table ok.sound)
        x.order ok.gates (length x.order) (omega arith))

    -- what holds of every set holds of the soonest
    soonest_all : (P : ℕ → Type 0) → AllSets P (t ∷ p) → P soon
    soonest_all P all = soonest_holds P t.1 p all.0 all.1

    -- the soonest set is that of operands
    soon_operands : OperandsOf (kind_of x.kind) x.counts fit soon
    soon_operands =
        operands_of (kind_of x.kind) x.counts fit soon
        (soonest_all (Lacks 0) (rw parts at (false_absent (kind_of x.kind) x.counts x.table x.order (length x.order) (omega arith))))
        (soonest_all (λ s. s < 2 ^ suc x.counts.i) set_below)

    -- at operands whose set comes after none, the value is the coefficient there
    value_there : (a b c : ℕ) → Operands x a b c → AllSets (NotAfter (operand_set (bits x) a b c)) (t ∷ p)
        → last_at x a b c ≡ coefficient_at (t ∷ p) (operand_set (bits x) a b c)
    value_there a b c o first =
        let words = two_words (kind_of x.kind) x.counts fit a b c o.0 o.1 o.2 in
        rw (parts, ← words.set)
        (pair_value x.counts x.table _ _ words.first words.second (t ∷ p)
        (subst (λ (k : ℕ). AllSets (λ s. s < 2 ^ suc k) (t ∷ p)) (sym words.inputs) set_below)
        (subst (λ (u : ℕ). AllSets (NotAfter u) (t ∷ p)) (sym words.set) first))

    module _ (a b c : ℕ) (o : Operands x a b c) (own : operand_set (bits x) a b c ≡ soon) where
      -- the operands of the soonest set go wrong
      goes_wrong : got x a b c ≡ wanted x a b c → ⊥
      goes_wrong =
          let there = value_there a b c o (subst (λ (u : ℕ). AllSets (NotAfter u) (t ∷ p)) (sym own) (soonest_first t.1 p)) in
          let some = soonest_all (λ s. 0 < coefficient_at (t ∷ p) s) (coefficient_positive (all_words x) (t ∷ p) shape.coefficients) in
          let below = coefficient_lt (all_words x) _ (t ∷ p) soon (modulus_positive (kind_of x.kind) x.counts) shape.falling shape.coefficients in
          words_differ a b c o (rw (there, own) some) (rw (there, own) below)

      -- and all operands before them are right
      right_before : (d e f : ℕ) → Operands x d e f → Before (bits x) d e f a b c → got x d e f ≡ wanted x d e f
      right_before d e f i before =
          let u = operand_set (bits x) d e f in
          let earlier : Earlier u soon = rw own at (set_earlier (bits x) d e f a b c i.0 i.1 o.0 o.1 before) in
          let all = soonest_first t.1 p in
          let none = coefficient_none u (t ∷ p) (all_map (t ∷ p) (λ s n. (earlier_first u soon s.1 earlier n).1) all) in
          words_equal d e f i (value_there d e f i (all_map (t ∷ p) (λ s n. (earlier_first u soon s.1 earlier n).0) all) ∙ none)

-- "equal" only if the outputs are the wanted word for all operands
pub equal_right : EqualRight
unfolding answer_says value
equal_right x steps terms answered a b c o =
    let means = answer_means x 0 (steps ∷ terms ∷ []) answered.judged.said in
    words_equal x (passed x means.0) a b c o (rw means.1)

-- the operands that D names are the first that go wrong
differing_least : (x : Inputs) → Passed x → (a b c g w : ℕ) → Differing x a b c g w → Least x a b c g w
differing_least x ok a b c g w d =
    let named = soon_operands x ok d.head d.tail d.parts d.inputs in
    let operands : Operands x a b c =
    (rw d.first named.first, rw d.second named.second, rw d.third named.third) in
    let own : operand_set (bits x) a b c ≡ soonest d.head.1 d.tail = rw (d.first, d.second, d.third) named.set in
    record {
      operands = operands;
      evaluated = d.shows;
      read = d.wants;
      wrong = λ e. goes_wrong x ok d.head d.tail d.parts d.inputs a b c operands own (sym d.shows ∙ e ∙ d.wants);
      least = right_before x ok d.head d.tail d.parts d.inputs a b c operands own;
    }

-- "differs" names, of all operands that go wrong, those with the fewest 1 bits and of these the smallest
pub differs_right : DiffersRight
unfolding answer_says
differs_right x steps terms a b c g w answered =
    let means = answer_means x 1 (steps ∷ terms ∷ a ∷ b ∷ c ∷ g ∷ w ∷ []) answered.judged.said in
    differing_least x (passed x means.0) a b c g w means.1
