-- Sums over the indices below a bound.
use mathlib.Core.Path.{◌≡◌, refl, sym}
use mathlib.Core.Logic.{⊎_elim}
use Prim.Native.Nat.{ℕ, zero, suc, ◌+◌, ◌<◌}
use native.Mathlib.Nat.{add_assoc, add-zero, add-suc, zero-add}
use native.Mathlib.Omega.{arith}
use Rattle.rules.specs.Each.{sum}
use Rattle.rules.specs.Polynomial.{Polynomial, coefficient_at}
use Rattle.rules.proofs.Indices.{below_suc, sum_add}
use Rattle.start.specs.Start.{down}

-- nothing adds up to nothing
pub sum_none : (k : ℕ) (f : ℕ → ℕ) → ((i : ℕ) → i < k → f i ≡ 0) → sum k f ≡ 0
unfolding sum
sum_none zero f h = refl
sum_none (suc k) f h = omega (arith, sum_none k f (λ i l. h i (omega arith)), h k (omega arith))

-- where only one index adds anything, the sum is what it adds
pub sum_one : (k : ℕ) (f : ℕ → ℕ) (v : ℕ) → v < k → ((i : ℕ) → (i ≡ v → ⊥) → f i ≡ 0) → sum k f ≡ f v
unfolding sum
sum_one zero f v l h = absurd (omega arith)
sum_one (suc k) f v l h =
    ⊎_elim
    (λ (e : v ≡ k). rw e (omega (arith, sum_none k f (λ i b. h i (λ q. omega arith)))))
    (λ (b : v < k). omega (arith, sum_one k f v b h, h k (λ q. omega arith)))
    (below_suc v k l)

-- rows first or columns first
pub sum_swap : (a b : ℕ) (f : ℕ → ℕ → ℕ) → sum a (λ i. sum b (λ j. f i j)) ≡ sum b (λ j. sum a (λ i. f i j))
unfolding sum
sum_swap zero b f = sym (sum_none b (λ j. 0) (λ i l. refl))
sum_swap (suc a) b f = rw (sum_swap a b f, sum_add b (λ j. sum a (λ i. f i j)) (f a))

-- the first indices, then the others
pub sum_split : (a b : ℕ) (f : ℕ → ℕ) → sum (a + b) f ≡ sum a f + sum b (λ i. f (a + i))
unfolding sum
sum_split a zero f = rw (add-zero, add-zero)
sum_split a (suc b) f = rw (add-suc, sum_split a b f, add_assoc)

-- the coefficient of what is put in front
pub coefficient_down : (k : ℕ) (put : ℕ → Polynomial → Polynomial) (number : ℕ → ℕ) (rest : Polynomial) (u : ℕ)
    → ((i : ℕ) (p : Polynomial) → coefficient_at (put i p) u ≡ number i + coefficient_at p u)
    → coefficient_at (down k put rest) u ≡ sum k number + coefficient_at rest u
unfolding down sum
coefficient_down zero put number rest u h = sym (zero-add _)
coefficient_down (suc k) put number rest u h =
    omega (arith, h k (down k put rest), coefficient_down k put number rest u h)
