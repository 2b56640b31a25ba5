-- Gathering gives falling sets, coefficients from 1 to m - 1, and at every set the sum of the terms there modulo m;
-- whatever has these is what is gathered.
use mathlib.Core.Path.{◌≡◌, refl, sym, ◌∙◌}
use mathlib.Core.Bool.{Bool, true, false}
use mathlib.Core.List.{[], ◌∷◌}
use Prim.Native.Nat.{ℕ, zero, suc, ◌+◌, ◌%◌, ◌<◌, ◌≤◌}
use native.Mathlib.Nat.{add-zero, zero-add, mod-lt, mod-eq_of_lt}
use native.Mathlib.Omega.{arith}
use lib.Dec.{ltb, eqb}
use borrow.Author.Tests.{eqb-true, eqb-false, ltb-true, ltb-false}
use Rattle.rules.specs.Polynomial.{Term, Polynomial, hit, coefficient_at, Below, Coefficients, Under, keep, place, insert, gather}
use Rattle.rules.proofs.Weighed.{hit_times, weighed_coefficient, weighed_keep, weighed_gather}
use Rattle.rules.proofs.Terms.{hit_same, hit_other, weaken, above, same}

-- a term with a coefficient stays
pub keep_some : (c s : ℕ) (p : Polynomial) → 0 < c → keep c s p ≡ (c, s) ∷ p
unfolding keep
keep_some zero s p h = absurd (omega arith)
keep_some (suc c) s p h = refl

pub keep_below : (c s b : ℕ) (p : Polynomial) → s < b → Below s p → Below b (keep c s p)
unfolding keep
keep_below zero s b p h u = weaken s b p (omega arith) u
keep_below (suc c) s b p h u = (h, u)

pub keep_coefficients : (m c s : ℕ) (p : Polynomial) → c < m → Coefficients m p → Coefficients m (keep c s p)
unfolding keep
keep_coefficients m zero s p h k = k
keep_coefficients m (suc c) s p h k = (omega arith, h, k)

pub keep_coefficient : (c s : ℕ) (p : Polynomial) (u : ℕ) → coefficient_at (keep c s p) u ≡ hit u s c + coefficient_at p u
keep_coefficient c s p u =
    rw (weighed_coefficient u (keep c s p), weighed_coefficient u p, hit_times u s c) (weighed_keep (λ s. hit u s 1) c s p)

module _ (m c s : ℕ) (x : Term) (p q : Polynomial) where
  place_below : (b : ℕ) (e l : Bool) → eqb s x.1 ≡ e → ltb s x.1 ≡ l → s < b → Below b (x ∷ p)
      → ((d : ℕ) → s < d → Below d p → Below d q) → Below b (place m c s x p q e l)
  unfolding place
  place_below b true l e f h u k =
      let z : s ≡ x.1 = eqb-true s x.1 e in
      keep_below _ s b p h (rw z u.1)
  place_below b false true e f h u k = (u.0, k x.1 (ltb-true s x.1 f) u.1)
  place_below b false false e f h u k =
      let z : s ≡ x.1 → ⊥ = eqb-false s x.1 e in
      keep_below _ s b (x ∷ p) h (omega (arith, ltb-false s x.1 f, z), u.1)

  place_coefficients : (e l : Bool) → 0 < m → Coefficients m (x ∷ p) → Coefficients m q → Coefficients m (place m c s x p q e l)
  unfolding place
  place_coefficients true l h k j = keep_coefficients m _ s p (mod-lt _ h) k.2
  place_coefficients false true h k j = (k.0, k.1, j)
  place_coefficients false false h k j = keep_coefficients m _ s (x ∷ p) (mod-lt _ h) k

pub insert_below : (m c s b : ℕ) (p : Polynomial) → s < b → Below b p → Below b (insert m c s p)
unfolding insert
insert_below m c s b [] h u = keep_below (c % m) s b [] h tt
insert_below m c s b (x ∷ p) h u =
    place_below m c s x p (insert m c s p) b (eqb s x.1) (ltb s x.1) refl refl h u
    (λ d hd w. insert_below m c s d p hd w)

pub insert_coefficients : (m c s : ℕ) (p : Polynomial) → 0 < m → Coefficients m p → Coefficients m (insert m c s p)
unfolding insert
insert_coefficients m c s [] h k = keep_coefficients m (c % m) s [] (mod-lt c h) tt
insert_coefficients m c s (x ∷ p) h k = place_coefficients m c s x p (insert m c s p) (eqb s x.1) (ltb s x.1) h k (insert_coefficients m c s p h k.2)

pub gather_below : (m b : ℕ) (r : Polynomial) → Under b r → Below b (gather m r)
unfolding gather
gather_below m b [] h = tt
gather_below m b (t ∷ r) h = insert_below m t.0 t.1 b (gather m r) h.0 (gather_below m b r h.1)

pub gather_coefficients : (m : ℕ) (r : Polynomial) → 0 < m → Coefficients m (gather m r)
unfolding gather
gather_coefficients m [] h = tt
gather_coefficients m (t ∷ r) h = insert_coefficients m t.0 t.1 (gather m r) h (gather_coefficients m r h)

pub gather_coefficient : (m : ℕ) (r : Polynomial) (u : ℕ) → coefficient_at (gather m r) u % m ≡ coefficient_at r u % m
gather_coefficient m r u = rw (weighed_coefficient u (gather m r), weighed_coefficient u r) (weighed_gather (λ s. hit u s 1) m r)

-- a coefficient of a normal list is below m
pub coefficient_lt : (m b : ℕ) (p : Polynomial) (u : ℕ) → 0 < m → Below b p → Coefficients m p → coefficient_at p u < m
unfolding coefficient_at
coefficient_lt m b [] u h l k = h
coefficient_lt m b (x ∷ p) u h l k = go (eqb x.1 u) refl (coefficient_lt m x.1 p u h l.1 k.2)
  where
    go : (t : Bool) → eqb x.1 u ≡ t → coefficient_at p u < m → hit u x.1 x.0 + coefficient_at p u < m
    go true e r =
        let z : x.1 ≡ u = eqb-true x.1 u e in
        rw (hit_same x.1 u x.0 z, above x.1 u p l.1 (omega arith), add-zero) k.1
    go false e r = rw (hit_other x.1 u x.0 (eqb-false x.1 u e), zero-add) r

-- whatever is normal and has the coefficients of r is what r gathers to
pub unique : (m b : ℕ) (p r : Polynomial) → 0 < m → Below b p → Coefficients m p → Under b r → ((u : ℕ) → coefficient_at p u % m ≡ coefficient_at r u % m) → p ≡ gather m r
unique m b p r h l k v e =
    same m b b p (gather m r) l (gather_below m b r v) k (gather_coefficients m r h)
    (λ u. sym (mod-eq_of_lt (coefficient_lt m b p u h l k)) ∙ e u ∙ sym (gather_coefficient m r u) ∙ mod-eq_of_lt (coefficient_lt m b (gather m r) u h (gather_below m b r v) (gather_coefficients m r h)))

-- a falling list is under its bound
pub under_of : (b d : ℕ) (p : Polynomial) → b ≤ d → Below b p → Under d p
under_of b d [] l h = tt
under_of b d (x ∷ p) l h = (omega arith, under_of x.1 d p (omega arith) h.1)

-- a bound on every set of a list
bound : Polynomial → ℕ
bound [] = 0
bound (x ∷ p) = suc x.1 + bound p

under_bound : (p : Polynomial) (b : ℕ) → bound p ≤ b → Under b p
unfolding bound
under_bound [] b h = tt
under_bound (x ∷ p) b h = (omega arith, under_bound p b (omega arith))

-- lists with the same coefficients gather to the same
pub gather_same : (m : ℕ) (p q : Polynomial) → 0 < m → ((u : ℕ) → coefficient_at p u % m ≡ coefficient_at q u % m) → gather m p ≡ gather m q
gather_same m p q h e =
    unique m (bound p + bound q) (gather m p) q h
    (gather_below m (bound p + bound q) p (under_bound p (bound p + bound q) (omega arith)))
    (gather_coefficients m p h)
    (under_bound q (bound p + bound q) (omega arith))
    (λ u. gather_coefficient m p u ∙ e u)
