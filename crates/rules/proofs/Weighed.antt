-- Terms weighed by any weight of their sets: a coefficient is such a sum, and a value; gathering keeps it modulo m.
use mathlib.Core.Path.{◌≡◌, refl, sym}
use mathlib.Core.Bool.{Bool, true, false, cond}
use mathlib.Core.List.{[], ◌∷◌, ◌++◌}
use Prim.Native.Nat.{ℕ, zero, suc, ◌+◌, ◌-◌, ◌*◌, ◌%◌}
use native.Mathlib.Nat.{add_assoc, add_left_comm, add-zero, zero-add, add-mul, zero-mul, mul-zero, mul-one, mul-add, mul_assoc, mod-add-mod, add-mod-mod}
use lib.Dec.{ltb, eqb}
use borrow.Author.Tests.{eqb-true}
use Rattle.rules.specs.Each.{sum, joined}
use Rattle.rules.specs.Polynomial.{Term, Polynomial, hit, coefficient_at, keep, place, insert, gather, minus}
use Rattle.rules.proofs.Remainders.{mod_mul_mod}

-- the sum of the coefficients, each times the weight of its set
unfoldable pub weighed : (ℕ → ℕ) → Polynomial → ℕ
weighed weight [] = 0
weighed weight (t ∷ p) = t.0 * weight t.1 + weighed weight p

-- a hit is a multiple of the hit of 1
pub hit_times : (u s c : ℕ) → hit u s c ≡ c * hit u s 1
unfolding hit
hit_times u s c = go (eqb s u)
  where
    go : (t : Bool) → cond t c 0 ≡ c * cond t 1 0
    go true = sym (mul-one c)
    go false = sym (mul-zero c)

-- the coefficient at a set weighs that set by 1 and the others by 0
pub weighed_coefficient : (u : ℕ) (p : Polynomial) → coefficient_at p u ≡ weighed (λ s. hit u s 1) p
unfolding weighed coefficient_at
weighed_coefficient u [] = refl
weighed_coefficient u (t ∷ p) = rw (weighed_coefficient u p, hit_times u t.1 t.0)

-- a term alone
pub weighed_one : (weight : ℕ → ℕ) (c s : ℕ) → weighed weight ((c, s) ∷ []) ≡ c * weight s
unfolding weighed
weighed_one weight c s = add-zero (c * weight s)

module _ (weight : ℕ → ℕ) where
  -- one list behind the other
  pub weighed_append : (p q : Polynomial) → weighed weight (p ++ q) ≡ weighed weight p + weighed weight q
  unfolding weighed
  weighed_append [] q = sym (zero-add (weighed weight q))
  weighed_append (t ∷ p) q = rw (weighed_append p q, add_assoc)

  -- minus a polynomial
  pub weighed_minus : (m : ℕ) (p : Polynomial) → weighed weight (minus m p) ≡ (m - 1) * weighed weight p
  unfolding weighed minus
  weighed_minus m [] = sym (mul-zero (m - 1))
  weighed_minus m (t ∷ p) = rw (weighed_minus m p, mul-add, mul_assoc)

  -- lists at the indices below a bound
  pub weighed_joined : (n : ℕ) (list : ℕ → Polynomial) → weighed weight (joined n list) ≡ sum n (λ i. weighed weight (list i))
  unfolding weighed joined sum
  weighed_joined zero list = refl
  weighed_joined (suc n) list = rw (weighed_append (joined n list) (list n), weighed_joined n list)

  -- a term kept adds its weight
  pub weighed_keep : (c s : ℕ) (p : Polynomial) → weighed weight (keep c s p) ≡ c * weight s + weighed weight p
  unfolding keep weighed
  weighed_keep zero s p = rw (zero-mul, zero-add)
  weighed_keep (suc c) s p = refl

  module _ (m : ℕ) where
    -- a term at its place adds its weight, modulo m
    weighed_place : (c s : ℕ) (t : Term) (p lower : Polynomial) (same less : Bool) → eqb s t.1 ≡ same
        → weighed weight lower % m ≡ (c * weight s + weighed weight p) % m
        → weighed weight (place m c s t p lower same less) % m ≡ (c * weight s + weighed weight (t ∷ p)) % m
    unfolding place weighed
    weighed_place c s t p lower true less e h =
        rw (weighed_keep ((c + t.0) % m) s p, ← mod-add-mod, mod_mul_mod, mod-add-mod, add-mul, add_assoc, eqb-true s t.1 e)
    weighed_place c s t p lower false true e h = rw (← add-mod-mod, h, add-mod-mod, add_left_comm)
    weighed_place c s t p lower false false e h = rw (weighed_keep (c % m) s (t ∷ p), ← mod-add-mod, mod_mul_mod, mod-add-mod)

    -- one term more, gathered, adds its weight modulo m
    weighed_insert : (c s : ℕ) (p : Polynomial) → weighed weight (insert m c s p) % m ≡ (c * weight s + weighed weight p) % m
    unfolding insert weighed
    weighed_insert c s [] = rw (weighed_keep (c % m) s [], ← mod-add-mod, mod_mul_mod, mod-add-mod)
    weighed_insert c s (t ∷ p) = weighed_place c s t p (insert m c s p) (eqb s t.1) (ltb s t.1) refl (weighed_insert c s p)

    -- gathering keeps the weight modulo m
    pub weighed_gather : (p : Polynomial) → weighed weight (gather m p) % m ≡ weighed weight p % m
    unfolding gather weighed
    weighed_gather [] = refl
    weighed_gather (t ∷ p) = rw (weighed_insert t.0 t.1 (gather m p), ← add-mod-mod, weighed_gather p, add-mod-mod)
