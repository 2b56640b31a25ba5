-- Products of polynomials, weighed.
use mathlib.Core.Path.{◌≡◌, refl, sym}
use mathlib.Core.List.{[], ◌∷◌}
use Prim.Native.Nat.{ℕ, ◌+◌, ◌*◌}
use native.Mathlib.Nat.{mul-add, mul-zero, mul_assoc}
use Rattle.rules.specs.Polynomial.{Term, Polynomial}
use Rattle.rules.proofs.Weighed.{weighed, weighed_append}
use Rattle.demands.specs.Polynomials.{term_times, times}

module _ (weight : ℕ → ℕ) where
  -- a term times a list: the list weighed with the term's set
  weighed_term_times : (t : Term) (q : Polynomial) → weighed weight (term_times t q) ≡ t.0 * weighed (λ s. weight (t.1 + s)) q
  unfolding weighed term_times
  weighed_term_times t [] = sym (mul-zero t.0)
  weighed_term_times t (u ∷ q) = rw (weighed_term_times t q, mul-add, mul_assoc)

  -- a product: for each set of the first, the second weighed with it
  pub weighed_times : (p q : Polynomial) → weighed weight (times p q) ≡ weighed (λ s. weighed (λ t. weight (s + t)) q) p
  unfolding weighed times
  weighed_times [] q = refl
  weighed_times (t ∷ p) q = rw (weighed_append weight (term_times t q) (times p q), weighed_term_times t q, weighed_times p q)
