-- Coefficients of a polynomial at a set; two falling lists with equal coefficients at every set are equal.
use mathlib.Core.Path.{◌≡◌, refl, sym, ◌∙◌}
use mathlib.Core.Bool.{Bool, true, false, cond}
use mathlib.Core.List.{[], ◌∷◌, ◌++◌}
use Prim.Native.Nat.{ℕ, zero, suc, ◌+◌, ◌%◌, ◌<◌, ◌≤◌}
use native.Mathlib.Nat.{add-zero, zero-add, zero-mod}
use native.Mathlib.Omega.{arith}
use lib.Dec.{ltb, eqb}
use borrow.Author.Tests.{eq-eqb, ne_eqb, ltb-true, ltb-false}
use Rattle.rules.specs.Each.{sum, joined}
use Rattle.rules.specs.Polynomial.{Term, Polynomial, hit, coefficient_at, Below, Coefficients}
use Rattle.rules.proofs.Weighed.{weighed_coefficient, weighed_append}

pub hit_same : (s u c : ℕ) → s ≡ u → hit u s c ≡ c
unfolding hit
hit_same s u c e = rw (eq-eqb s u e)

pub hit_other : (s u c : ℕ) → (s ≡ u → ⊥) → hit u s c ≡ 0
unfolding hit
hit_other s u c e = rw (ne_eqb s u e)

pub hit_add : (s u a b : ℕ) → hit u s (a + b) ≡ hit u s a + hit u s b
unfolding hit
hit_add s u a b = go (eqb s u)
  where
    go : (t : Bool) → cond t (a + b) 0 ≡ cond t a 0 + cond t b 0
    go true = refl
    go false = refl

pub hit_zero : (s u : ℕ) → hit u s 0 ≡ 0
unfolding hit
hit_zero s u = go (eqb s u)
  where
    go : (t : Bool) → ◌≡◌ {A = ℕ} (cond t 0 0) 0
    go true = refl
    go false = refl

pub hit_mod : (s u m c : ℕ) → hit u s (c % m) ≡ hit u s c % m
unfolding hit
hit_mod s u m c = go (eqb s u)
  where
    go : (t : Bool) → cond t (c % m) 0 ≡ cond t c 0 % m
    go true = refl
    go false = sym (zero-mod m)

pub weaken : (b d : ℕ) (p : Polynomial) → b ≤ d → Below b p → Below d p
weaken b d [] h u = tt
weaken b d (x ∷ p) h u = (omega arith, u.1)

-- no coefficient at or above the bound
pub above : (b u : ℕ) (p : Polynomial) → Below b p → b ≤ u → coefficient_at p u ≡ 0
unfolding coefficient_at
above b u [] h l = refl
above b u (x ∷ p) h l = rw (hit_other x.1 u x.0 (λ e. omega arith), above x.1 u p h.1 (omega arith))

pub coefficient_top : (x : Term) (p : Polynomial) → Below x.1 p → coefficient_at (x ∷ p) x.1 ≡ x.0
unfolding coefficient_at
coefficient_top x p h = rw (hit_same x.1 x.1 x.0 refl, above x.1 x.1 p h (omega arith), add-zero)

pub coefficient_low : (x : Term) (p : Polynomial) (u : ℕ) → (x.1 ≡ u → ⊥) → coefficient_at (x ∷ p) u ≡ coefficient_at p u
unfolding coefficient_at
coefficient_low x p u h = rw (hit_other x.1 u x.0 h, zero-add)

pub coefficient_cons : (z : Term) (r : Polynomial) (u : ℕ) → coefficient_at (z ∷ r) u ≡ hit u z.1 z.0 + coefficient_at r u
unfolding coefficient_at
coefficient_cons z r u = refl

-- equal coefficients everywhere: the same list
pub same : (m b d : ℕ) (p q : Polynomial) → Below b p → Below d q → Coefficients m p → Coefficients m q → ((u : ℕ) → coefficient_at p u ≡ coefficient_at q u) → p ≡ q
same m b d [] [] hp hq kp kq e = refl
same m b d [] (y ∷ q) hp hq kp kq e = absurd (omega (arith, coefficient_top y q hq.1, e y.1, above y.1 y.1 [] tt (omega arith)))
same m b d (x ∷ p) [] hp hq kp kq e = absurd (omega (arith, coefficient_top x p hp.1, e x.1, above x.1 x.1 [] tt (omega arith)))
same m b d (x ∷ p) (y ∷ q) hp hq kp kq e =
    let lx : x.1 ≤ y.1 = ge (ltb y.1 x.1) refl in
    let ly : y.1 ≤ x.1 = le (ltb x.1 y.1) refl in
    let s : x.1 ≡ y.1 = omega arith in
    let tx : coefficient_at (x ∷ p) x.1 ≡ x.0 = coefficient_top x p hp.1 in
    let ty : coefficient_at (y ∷ q) x.1 ≡ y.0 = rw s (coefficient_top y q hq.1) in
    let c : x.0 ≡ y.0 = sym tx ∙ e x.1 ∙ ty in
    let r : p ≡ q = same m x.1 y.1 p q hp.1 hq.1 kp.2 kq.2 (λ u. rest u s c) in
    joined c s r
  where
    cancel : (a b c d : ℕ) → a ≡ b → a + c ≡ b + d → c ≡ d
    cancel a b c d g h = omega arith

    joined : x.0 ≡ y.0 → x.1 ≡ y.1 → p ≡ q → x ∷ p ≡ y ∷ q
    joined f g h = let z : ◌≡◌ {A = Polynomial} ((x.0, x.1) ∷ p) ((y.0, y.1) ∷ q) = rw (f, g, h) in z

    ge : (t : Bool) → ltb y.1 x.1 ≡ t → x.1 ≤ y.1
    ge true h =
        let l : y.1 < x.1 = ltb-true y.1 x.1 h in
        absurd (omega (arith, coefficient_top x p hp.1, e x.1, above x.1 x.1 (y ∷ q) (l, hq.1) (omega arith), kp.0))
    ge false h = ltb-false y.1 x.1 h

    le : (t : Bool) → ltb x.1 y.1 ≡ t → y.1 ≤ x.1
    le true h =
        let l : x.1 < y.1 = ltb-true x.1 y.1 h in
        absurd (omega (arith, coefficient_top y q hq.1, e y.1, above y.1 y.1 (x ∷ p) (l, hp.1) (omega arith), kq.0))
    le false h = ltb-false x.1 y.1 h

    open_both : (u : ℕ) → hit u x.1 x.0 + coefficient_at p u ≡ hit u y.1 y.0 + coefficient_at q u
    open_both u = sym (coefficient_cons x p u) ∙ e u ∙ coefficient_cons y q u

    rest : (u : ℕ) → x.1 ≡ y.1 → x.0 ≡ y.0 → coefficient_at p u ≡ coefficient_at q u
    rest u s c = cancel (hit u x.1 x.0) (hit u y.1 y.0) (coefficient_at p u) (coefficient_at q u) (cc) (open_both u)

-- the coefficient of two lists, one behind the other
pub coefficient_append : (p q : Polynomial) (u : ℕ) → coefficient_at (p ++ q) u ≡ coefficient_at p u + coefficient_at q u
coefficient_append p q u =
    rw (weighed_coefficient u (p ++ q), weighed_coefficient u p, weighed_coefficient u q) (weighed_append (λ s. hit u s 1) p q)

-- the coefficient of lists, one behind the other
pub coefficient_joined : (n : ℕ) (list : ℕ → Polynomial) (u : ℕ) → coefficient_at (joined n list) u ≡ sum n (λ i. coefficient_at (list i) u)
unfolding joined sum coefficient_at
coefficient_joined zero list u = refl
coefficient_joined (suc n) list u = rw (coefficient_append (joined n list) (list n) u, coefficient_joined n list u)
