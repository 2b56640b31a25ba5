-- A step in two parts: the terms that do not hold v, and what becomes of those that do.
use mathlib.Core.Path.{◌≡◌, refl, ap, sym, ◌∙◌}
use mathlib.Core.Bool.{Bool, true, false, cond}
use mathlib.Core.List.{[], ◌∷◌, ◌++◌}
use mathlib.Core.Logic.{⊎_elim}
use Prim.Native.Nat.{ℕ, zero, suc, ◌+◌, ◌*◌, ◌%◌, ◌^◌, ◌<◌, ◌≤◌}
use native.Mathlib.Nat.{add-mod-mod}
use native.Mathlib.Omega.{arith}
use lib.Dec.{ltb, eqb}
use lib.ListN.{length, take}
use borrow.Author.Tests.{eq-eqb, ne_eqb}
use Rattle.rules.specs.Netlist.{EveryVariable}
use Rattle.rules.specs.Values.{bit}
use Rattle.rules.specs.Polynomial.{Term, Polynomial, Below, Under, Coefficients, coefficient_at, hit, keep, place, insert, gather}
use Rattle.rules.specs.Steps.{where_held, replaced, all_replaced}
use Rattle.rules.specs.declared.records.Record.{Record}
use Rattle.rules.proofs.Terms.{coefficient_append}
use Rattle.rules.proofs.AllSets.{AllSets, Joins, all_terms_replaced, sets_under}
use Rattle.rules.proofs.Bits.{bit_cases, with_variable_under}
use Rattle.rules.proofs.Gathered.{gather_below, gather_same, gather_coefficient, unique, under_of}
use Rattle.rules.proofs.Sound.{every_variable}
use Rattle.weave.specs.Seeking.{Free}
use Rattle.weave.specs.Weaving.{holding, without}

-- a term without v stands in the first part
pub first : (v : ℕ) (t : Term) (p : Polynomial) → bit t.1 v ≡ 0 → (without v (t ∷ p) ≡ t ∷ without v p) × (holding v (t ∷ p) ≡ holding v p)
unfolding without holding
first v t p e = (rw (ne_eqb (bit t.1 v) 1 (λ z. omega arith)), rw (ne_eqb (bit t.1 v) 1 (λ z. omega arith)))

-- one with v in the second
pub second : (v : ℕ) (t : Term) (p : Polynomial) → bit t.1 v ≡ 1 → (without v (t ∷ p) ≡ without v p) × (holding v (t ∷ p) ≡ t ∷ holding v p)
unfolding without holding
second v t p e = (rw (eq-eqb (bit t.1 v) 1 e), rw (eq-eqb (bit t.1 v) 1 e))

-- the first part has no more terms than there were
without_length : (v : ℕ) (p : Polynomial) → length (without v p) ≤ length p
unfolding without
without_length v [] = omega arith
without_length v (t ∷ p) = ⊎_elim
    (λ (e : bit t.1 v ≡ 0). rw (first v t p e).0 (omega (arith, without_length v p)))
    (λ (e : bit t.1 v ≡ 1). rw (second v t p e).0 (omega (arith, without_length v p)))
    (bit_cases t.1 v)

-- where no term holds v, the second part is empty
holding_none : (v : ℕ) (p : Polynomial) → Free v p 0 (length p) → holding v p ≡ []
unfolding holding
holding_none v [] h = refl
holding_none v (t ∷ p) h = (first v t p (h 0 (omega arith) (omega arith))).1 ∙ holding_none v p (λ i a b. h (suc i) (omega arith) (omega arith))

-- where no term from `end` on holds v, the first `end` terms have all of it
pub holding_front : (v end : ℕ) (p : Polynomial) → Free v p end (length p) → holding v (take end p) ≡ holding v p
unfolding holding
holding_front v zero p h = sym (holding_none v p h)
holding_front v (suc end) [] h = refl
holding_front v (suc end) (t ∷ p) h =
    ap (λ (q : Polynomial). cond (eqb (bit t.1 v) 1) (t ∷ q) q) (holding_front v end p (λ i a b. h (suc i) (omega arith) (omega arith)))

module _ (m v : ℕ) (r : Record) where
  -- a term that does not hold v stays
  stays : (t : Term) (u : ℕ) → bit t.1 v ≡ 0 → coefficient_at (replaced m v r t) u ≡ hit u t.1 t.0
  unfolding replaced where_held coefficient_at
  stays t u e = rw e (omega arith)

  -- the coefficients of both parts
  parts : (p : Polynomial) (u : ℕ) → coefficient_at (all_replaced m v r p) u ≡ coefficient_at (without v p) u + coefficient_at (all_replaced m v r (holding v p)) u
  unfolding all_replaced without holding coefficient_at
  parts [] u = refl
  parts (t ∷ p) u = ⊎_elim
      (λ (e : bit t.1 v ≡ 0). rw ((first v t p e).0, (first v t p e).1, coefficient_append (replaced m v r t) (all_replaced m v r p) u, stays t u e) (omega (arith, parts p u)))
      (λ (e : bit t.1 v ≡ 1). rw ((second v t p e).0, (second v t p e).1, coefficient_append (replaced m v r t) (all_replaced m v r p) u, coefficient_append (replaced m v r t) (all_replaced m v r (holding v p)) u) (omega (arith, parts p u)))
      (bit_cases t.1 v)

  -- both parts gathered are the step
  both : 0 < m → (p : Polynomial) → gather m (without v p ++ all_replaced m v r (holding v p)) ≡ gather m (all_replaced m v r p)
  both l p =
      gather_same m (without v p ++ all_replaced m v r (holding v p)) (all_replaced m v r p) l
      (λ u. ap (λ (z : ℕ). z % m) (coefficient_append (without v p) (all_replaced m v r (holding v p)) u ∙ sym (parts p u)))

  -- also where the second is gathered first
  pub step_parts : 0 < m → (p : Polynomial) → gather m (without v p ++ gather m (all_replaced m v r (holding v p))) ≡ gather m (all_replaced m v r p)
  step_parts l p =
      gather_same m (without v p ++ gather m (all_replaced m v r (holding v p))) (without v p ++ all_replaced m v r (holding v p)) l
      (λ u. rw (coefficient_append (without v p) (gather m (all_replaced m v r (holding v p))) u, coefficient_append (without v p) (all_replaced m v r (holding v p)) u)
      (sym (add-mod-mod (coefficient_at (without v p) u) (coefficient_at (gather m (all_replaced m v r (holding v p))) u) m)
      ∙ ap (λ (z : ℕ). (coefficient_at (without v p) u + z) % m) (gather_coefficient m (all_replaced m v r (holding v p)) u)
      ∙ add-mod-mod (coefficient_at (without v p) u) (coefficient_at (all_replaced m v r (holding v p)) u) m))
      ∙ both l p

-- a term in front, or not
keep_length : (c s : ℕ) (p : Polynomial) → length p ≤ length (keep c s p)
unfolding keep
keep_length zero s p = omega arith
keep_length (suc c) s p = omega arith

-- one term more cancels at most one
place_length : (m c s : ℕ) (t : Term) (p q : Polynomial) (e l : Bool) → length p ≤ length q + 1 → length (t ∷ p) ≤ length (place m c s t p q e l) + 1
unfolding place
place_length m c s t p q true l h = omega (arith, keep_length ((c + t.0) % m) s p)
place_length m c s t p q false true h = omega arith
place_length m c s t p q false false h = omega (arith, keep_length (c % m) s (t ∷ p))

-- one term more, gathered
insert_length : (m c s : ℕ) (p : Polynomial) → length p ≤ length (insert m c s p) + 1
unfolding insert
insert_length m c s [] = omega arith
insert_length m c s (t ∷ p) = place_length m c s t p (insert m c s p) (eqb s t.1) (ltb s t.1) (insert_length m c s p)

-- so k terms cancel at most k
gather_length : (m : ℕ) (a b : Polynomial) → length (gather m b) ≤ length (gather m (a ++ b)) + length a
unfolding gather
gather_length m [] b = omega arith
gather_length m (t ∷ a) b = omega (arith, insert_length m t.0 t.1 (gather m (a ++ b)), gather_length m a b)

-- where the second part alone is more than twice the limit, the terms of the first cannot cancel enough
pub step_more : (m v : ℕ) (r : Record) (limit : ℕ) (p : Polynomial) → 0 < m → length p ≤ limit → 2 * limit < length (gather m (all_replaced m v r (holding v p)))
    → limit < length (gather m (all_replaced m v r p))
step_more m v r limit p l h k =
    rw (← both m v r l p) (omega (arith, gather_length m (without v p) (all_replaced m v r (holding v p)), without_length v p))

-- a term without v stays
replaced_absent : (m v : ℕ) (r : Record) (p : Polynomial) → Free v p 0 (length p) → all_replaced m v r p ≡ p
unfolding all_replaced replaced where_held
replaced_absent m v r [] h = refl
replaced_absent m v r (t ∷ p) h = rw (h 0 (omega arith) (omega arith), replaced_absent m v r p (λ i a b. h (suc i) (omega arith) (omega arith)))

-- where v does not occur nothing changes
pub step_absent : (m v : ℕ) (r : Record) (b : ℕ) (p : Polynomial) → 0 < m → Below b p → Coefficients m p → Free v p 0 (length p) → gather m (all_replaced m v r p) ≡ p
step_absent m v r b p h l c a =
    rw (replaced_absent m v r p a) (sym (unique m b p p h l c (under_of b b p (omega arith) l) (λ u. refl)))

-- the sets of those terms of a list that hold v are below what all of them are
holding_under : (v b : ℕ) (p : Polynomial) → Under b p → AllSets (λ s. s < b) (holding v p)
unfolding holding
holding_under v b [] h = tt
holding_under v b (t ∷ p) h = ⊎_elim
    (λ (e : bit t.1 v ≡ 0). rw (first v t p e).1 (holding_under v b p h.1))
    (λ (e : bit t.1 v ≡ 1). rw (second v t p e).1 (h.0, holding_under v b p h.1))
    (bit_cases t.1 v)

-- what becomes of those falls below the same power of two, where the record reads variables below v
pub replaced_falls : (m e v : ℕ) (r : Record) (p : Polynomial) → v < e → EveryVariable (λ u. u < v) r → Below (2 ^ e) p → Below (2 ^ e) (gather m (all_replaced m v r (holding v p)))
replaced_falls m e v r p l low b =
    let P : ℕ → Type 0 = λ s. s < 2 ^ e in
    gather_below m (2 ^ e) (all_replaced m v r (holding v p)) (sets_under (2 ^ e) (all_replaced m v r (holding v p))
    (all_terms_replaced P P m v (λ s d h. h) (λ s d h. omega arith) r
    (every_variable (λ u. u < v) (Joins P) (λ u d above s h. with_variable_under e s u (omega arith) h) r low)
    (holding v p) (holding_under v (2 ^ e) p (under_of (2 ^ e) (2 ^ e) p (omega arith) b))))
