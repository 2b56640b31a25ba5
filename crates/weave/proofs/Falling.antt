-- Falling lists cut in two, and their terms one by one.
use mathlib.Core.Path.{◌≡◌, refl}
use mathlib.Core.List.{[], ◌∷◌, ◌++◌}
use Prim.Native.Nat.{ℕ, zero, suc, ◌<◌}
use native.Mathlib.Omega.{arith}
use lib.ListN.{length, get_or, take, drop}
use Rattle.rules.specs.Polynomial.{Polynomial, Below, Coefficients}
use Rattle.rules.proofs.Terms.{weaken}
use Rattle.weave.specs.Merging.{floor}

-- the front of a falling list falls
pub below_front : (b : ℕ) (p q : Polynomial) → Below b (p ++ q) → Below b p
below_front b [] q h = tt
below_front b (x ∷ p) q h = (h.0, below_front x.1 p q h.1)

-- the rest falls below the front's last set
pub below_back : (b : ℕ) (p q : Polynomial) → Below b (p ++ q) → Below (floor b p) q
unfolding floor
below_back b [] q h = h
below_back b (x ∷ p) q h = below_back x.1 p q h.1

-- the last set of two lists, one behind the other
pub floor_append : (b : ℕ) (p q : Polynomial) → floor b (p ++ q) ≡ floor (floor b p) q
unfolding floor
floor_append b [] q = refl
floor_append b (x ∷ p) q = floor_append x.1 p q

-- what every set is above, the last set is above
pub floor_above : (b s : ℕ) (p : Polynomial) → 0 < length p → ((i : ℕ) → i < length p → s < (get_or p i (0, 0)).1) → s < floor b p
unfolding floor
floor_above b s [] l h = absurd (omega arith)
floor_above b s (x ∷ []) l h = h 0 (omega arith)
floor_above b s (x ∷ y ∷ p) l h = floor_above x.1 s (y ∷ p) (omega arith) (λ i d. h (suc i) (omega arith))

-- what is left of a falling list falls
pub below_drop : (b i : ℕ) (p : Polynomial) → Below b p → Below b (drop i p)
below_drop b zero p h = h
below_drop b (suc i) [] h = tt
below_drop b (suc i) (x ∷ p) h = weaken x.1 b (drop i p) (omega (arith, h.0)) (below_drop x.1 i p h.1)

-- a coefficient of a list of them
pub coefficients_at : (m i : ℕ) (p : Polynomial) → Coefficients m p → i < length p → (0 < (get_or p i (0, 0)).0) × ((get_or p i (0, 0)).0 < m)
coefficients_at m i [] h l = absurd (omega arith)
coefficients_at m zero (x ∷ p) h l = (h.0, h.1)
coefficients_at m (suc i) (x ∷ p) h l = coefficients_at m i p h.2 (omega arith)

-- coefficients of the first terms
pub coefficients_take : (m d : ℕ) (p : Polynomial) → Coefficients m p → Coefficients m (take d p)
coefficients_take m zero p h = tt
coefficients_take m (suc d) [] h = tt
coefficients_take m (suc d) (x ∷ p) h = (h.0, h.1, coefficients_take m d p h.2)

-- and of the others
pub coefficients_drop : (m d : ℕ) (p : Polynomial) → Coefficients m p → Coefficients m (drop d p)
coefficients_drop m zero p h = h
coefficients_drop m (suc d) [] h = tt
coefficients_drop m (suc d) (x ∷ p) h = coefficients_drop m d p h.2
