-- The evaluator's word is shown by the one assignment of the gates.
use mathlib.Core.Path.{◌≡◌, refl, sym, ◌∙◌}
use mathlib.Core.Bool.{Bool, true, false}
use mathlib.Core.List.{List, [], ◌∷◌}
use Prim.Native.Nat.{ℕ, zero, suc, ◌+◌, ◌-◌, ◌<◌, ◌≤◌}
use native.Mathlib.Omega.{arith}
use lib.Dec.{ltb}
use lib.ListN.{get_or}
use lib.Seq.{ext_get_or}
use borrow.Author.Tests.{ltb-true, ltb-false, not-false}
use Rattle.rules.specs.Netlist.{gate, record_at, counts_wrong, table_unsound}
use Rattle.rules.specs.Says.{answers, first}
use Rattle.rules.specs.Values.{width, values, shown, evaluate_checks, evaluating}
use Rattle.rules.specs.declared.counts.Counts.{Counts}
use Rattle.rules.proofs.Sound.{RightCounts, SoundTable, right_counts, sound_table, every_variable}
use Rattle.demands.specs.Netlists.{Assignment, ValuesAreTheGates}
use Rattle.demands.proofs.Assigned.{record_same, values_false, values_first, values_second, values_length, values_gate}
use Rattle.demands.proofs.Passed.{answered, none_holds}

module _ (c : Counts) (table : List ℕ) (a b : ℕ) (right : RightCounts c) (sound : SoundTable c table) where
  -- the values are an assignment of the gates
  assigned : Assignment c table a b (values c table a b)
  unfolding gate
  assigned =
      record {
        variables = values_length c table a b right;
        constant = values_false c table a b;
        first = values_first c table a b;
        second = values_second c table a b;
        gates = λ k l. values_gate c table a b right sound (gate c k) (omega arith) (omega (arith, right.variables));
      }

  module _ (us vs : List ℕ) (first : Assignment c table a b us) (second : Assignment c table a b vs) where
    -- two assignments agree on the inputs
    same_inputs : (v : ℕ) → v < c.i + 1 → get_or us v 0 ≡ get_or vs v 0
    same_inputs zero l = first.constant ∙ sym second.constant
    same_inputs (suc i) l = go (ltb i (width c)) refl
      where
        own : suc i ≡ 1 + i
        own = omega arith

        there : width c ≤ i → suc i ≡ width c + 1 + (i - width c)
        there h = omega arith

        go : (t : Bool) → ltb i (width c) ≡ t → get_or us (suc i) 0 ≡ get_or vs (suc i) 0
        go true e = let h = ltb-true i (width c) e in rw own (first.first i h ∙ sym (second.first i h))
        go false e =
            let h = ltb-false i (width c) e in
            let k : i - width c < width c = omega (arith, right.operands) in
            rw (there h) (first.second (i - width c) k ∙ sym (second.second (i - width c) k))

    -- and on the gates, one after the other
    same_to : (k : ℕ) → k ≤ c.a → (v : ℕ) → v < c.i + 1 + k → get_or us v 0 ≡ get_or vs v 0
    unfolding gate
    same_to zero h v l = same_inputs v (omega arith)
    same_to (suc k) h v l = go (ltb v (c.i + 1 + k)) refl (λ u m. same_to k (omega arith) u m)
      where
        go : (t : Bool) → ltb v (c.i + 1 + k) ≡ t → ((u : ℕ) → u < c.i + 1 + k → get_or us u 0 ≡ get_or vs u 0) → get_or us v 0 ≡ get_or vs v 0
        go true e before = before v (ltb-true v (c.i + 1 + k) e)
        go false e before =
            let own : v ≡ c.i + 1 + k = omega (arith, ltb-false v (c.i + 1 + k) e) in
            let r = record_at c table (c.i + 1 + k) in
            let facts = sound.gates (c.i + 1 + k) (omega arith) (omega arith) in
            rw (own, first.gates k h, second.gates k h)
            (record_same us vs r (every_variable (λ w. w < c.i + 1 + k) (λ w. get_or us w 0 ≡ get_or vs w 0) before r facts.low))

    -- so there is one
    one_assignment : us ≡ vs
    one_assignment =
        ext_get_or 0 us vs (first.variables ∙ sym second.variables)
        (λ v l. same_to c.a (omega arith) v (omega (arith, first.variables, right.variables)))

-- a word that is said is the word shown, and nothing is refused
word_said : (c : Counts) (table : List ℕ) (a b word : ℕ) → answers 0 (word ∷ []) ≡ evaluating c table a b
    → (first (evaluate_checks c table) ≡ 0) × (word ≡ shown c table a b)
unfolding evaluating
word_said c table a b word h =
    let told = answered (first (evaluate_checks c table)) (answers 0 (shown c table a b ∷ [])) 0 (word ∷ []) h in
    let same = told.1 in
    (told.0, cc)

-- the word that the evaluator gives is shown by the one assignment of the gates
pub values_are_the_gates : ValuesAreTheGates
unfolding evaluate_checks counts_wrong table_unsound shown
values_are_the_gates c table a b r e word said =
    let spoken = word_said c table a b word (sym said ∙ e.said) in
    let counts = none_holds 1 _ _ spoken.0 in
    let words = none_holds 2 _ _ counts.1 in
    let sound = none_holds 7 _ _ words.1 in
    let right = right_counts c (not-false _ counts.0) in
    let table_right = sound_table c table (not-false _ sound.0) in
    let own = assigned c table a b right table_right in
    (values c table a b, own, (λ others h. one_assignment c table a b right table_right others (values c table a b) h own), spoken.1)
