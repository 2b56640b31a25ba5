-- The order from M down to I + 1 is honest: each gate once, after every gate that reads it.
use mathlib.Core.Path.{◌≡◌, refl, ◌∙◌}
use mathlib.Core.Bool.{Bool, true, false, not, cond, ◌||◌}
use mathlib.Core.List.{List, [], ◌∷◌, ◌++◌}
use mathlib.Core.Logic.{⊎_elim}
use Prim.Native.Nat.{ℕ, zero, suc, ◌+◌, ◌-◌, ◌<◌, ◌≤◌}
use native.Mathlib.Nat.{add_assoc, add-zero, zero-add}
use native.Mathlib.Omega.{arith}
use lib.Dec.{ltb, eqb}
use lib.ListN.{length, get_or}
use borrow.Author.Tests.{eq-eqb, ne_eqb, eqb-true, ltb-false, le-ltb, not-true}
use Rattle.rules.specs.Each.{each, listed}
use Rattle.rules.specs.Netlist.{counts_right, gate, record_at, table_sound, reads}
use Rattle.rules.specs.Steps.{times_named, honest}
use Rattle.rules.specs.Desk.{falling}
use Rattle.rules.specs.declared.counts.Counts.{Counts}
use Rattle.rules.proofs.Indices.{both, and_both, below_suc, each_at, each_all, length_listed, get_or_listed}
use Rattle.rules.proofs.Sound.{right_counts, sound_table, every_variable, others_read}
use Rattle.demands.specs.Answers.{ReverseHonest}

-- every gate of an order stands before those that it reads
abbrev pub Falls : Counts → List ℕ → List ℕ → Type 0
Falls c table order =
    (j k : ℕ) → j < length order → k < length order → k ≤ j → reads c table (get_or order j 0) (get_or order k 0) ≡ false

module _ (c : Counts) (table order : List ℕ) where
  -- the test that a gate stands in the order once
  abbrev once : ℕ → Bool
  once k = eqb (times_named (gate c k) order) 1

  -- the test that index j is before k, or its gate does not read k's
  abbrev apart : ℕ → ℕ → Bool
  apart j k = ltb j k || not (reads c table (get_or order j 0) (get_or order k 0))

  -- an order is honest when each gate stands in it once and before those that it reads
  pub honest_of : ((k : ℕ) → k < c.a → times_named (gate c k) order ≡ 1) → Falls c table order → honest c table order ≡ true
  unfolding honest
  honest_of h falls =
      and_both (each c.a once) (each (length order) (λ j. each (length order) (apart j)))
      (each_all c.a once (λ k l. eq-eqb (times_named (gate c k) order) 1 (h k l)))
      (each_all (length order) _ (λ j lj. each_all (length order) (apart j) (λ k lk. go j k lj lk (ltb j k) refl)))
    where
      go : (j k : ℕ) → j < length order → k < length order → (t : Bool) → ltb j k ≡ t → (t || not (reads c table (get_or order j 0) (get_or order k 0))) ≡ true
      go j k lj lk true e = refl
      go j k lj lk false e = rw (falls j k lj lk (ltb-false j k e))

  -- each gate stands in an honest order once
  pub honest_once : honest c table order ≡ true → (k : ℕ) → k < c.a → times_named (gate c k) order ≡ 1
  unfolding honest
  honest_once h k l =
      let parts = both (each c.a once) (each (length order) (λ j. each (length order) (apart j))) h in
      eqb-true (times_named (gate c k) order) 1 (each_at c.a once parts.0 k l)

  -- and before those that it reads
  pub honest_falls : honest c table order ≡ true → Falls c table order
  unfolding honest
  honest_falls h j k lj lk b =
      let parts = both (each c.a once) (each (length order) (λ j. each (length order) (apart j))) h in
      let e : apart j k ≡ true = each_at (length order) (apart j) (each_at (length order) _ parts.1 j lj) k lk in
      not-true (reads c table (get_or order j 0) (get_or order k 0)) (rw (le-ltb j k b) at e)

-- one gate more at the end of an order
times_last : (v w : ℕ) (order : List ℕ) → times_named v (order ++ w ∷ []) ≡ times_named v order + cond (eqb w v) 1 0
unfolding times_named
times_last v w [] = rw (add-zero, zero-add)
times_last v w (z ∷ order) = rw (times_last v w order, add_assoc)

-- what is listed at no index is not named
times_none : (v n : ℕ) (value : ℕ → ℕ) → ((i : ℕ) → i < n → value i ≡ v → ⊥) → times_named v (listed n value) ≡ 0
unfolding listed times_named
times_none v zero value h = refl
times_none v (suc n) value h =
    rw (times_last v (value n) (listed n value), times_none v n value (λ i l. h i (omega arith)), ne_eqb (value n) v (h n (omega arith)))

-- what is listed at one index alone is named once
times_once : (v n : ℕ) (value : ℕ → ℕ) (i : ℕ) → i < n → value i ≡ v → ((j : ℕ) → j < n → value j ≡ v → j ≡ i) → times_named v (listed n value) ≡ 1
unfolding listed
times_once v zero value i l e only = absurd (omega arith)
times_once v (suc n) value i l e only =
    times_last v (value n) (listed n value) ∙ ⊎_elim
    (λ (k : i ≡ n). rw (times_none v n value (λ j b q. omega (arith, only j (omega arith) q)), eq-eqb (value n) v (rw k at e)))
    (λ (k : i < n). rw (times_once v n value i k e (λ j b q. only j (omega arith) q), ne_eqb (value n) v (λ q. omega (arith, only n (omega arith) q))))
    (below_suc i n l)

module _ (c : Counts) (table : List ℕ) (right : counts_right c ≡ true) (sound : table_sound c table ≡ true) where
  -- the gate at an index of the falling order
  gate_at : (k : ℕ) → k < c.a → get_or (falling c) k 0 ≡ c.m - k
  unfolding falling
  gate_at k l = get_or_listed c.a (λ (j : ℕ). c.m - j) 0 k l

  -- each gate stands once in the falling order
  each_once : (k : ℕ) → k < c.a → times_named (gate c k) (falling c) ≡ 1
  unfolding falling gate
  each_once k l =
      let sums = (right_counts c right).variables in
      times_once (c.i + 1 + k) c.a (λ (j : ℕ). c.m - j) (c.a - 1 - k) (omega arith) (omega arith) (λ j b e. omega arith)

  -- and before those that it reads, for they are smaller
  falls : (j k : ℕ) → j < c.a → k < c.a → k ≤ j → reads c table (get_or (falling c) j 0) (get_or (falling c) k 0) ≡ false
  unfolding reads
  falls j k lj lk h =
      let sums = (right_counts c right).variables in
      let below = (sound_table c table sound).gates (c.m - j) (omega arith) (omega arith) in
      let r = record_at c table (c.m - j) in
      rw (gate_at j lj, gate_at k lk)
      (others_read r (c.m - k) (every_variable (λ w. w < c.m - j) (λ w. w ≡ c.m - k → ⊥) (λ w l e. omega arith) r below.low))

-- M down to I + 1 is an honest order
pub reverse_honest : ReverseHonest
unfolding falling
reverse_honest c table right sound =
    let size : length (falling c) ≡ c.a = length_listed c.a (λ (j : ℕ). c.m - j) in
    honest_of c table (falling c) (each_once c table right sound)
    (λ j k lj lk b. falls c table right sound j k (omega arith) (omega arith) b)
