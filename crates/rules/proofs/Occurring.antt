-- Occurrences add up over lists.
use mathlib.Core.Path.{◌≡◌, refl, sym}
use mathlib.Core.List.{[], ◌∷◌, ◌++◌}
use Prim.Native.Nat.{ℕ, zero, suc, ◌+◌, ◌*◌, ◌<◌, ◌≤◌}
use native.Mathlib.Nat.{add_assoc, zero-add, zero-mul, one-mul}
use native.Mathlib.Omega.{arith}
use lib.ListN.{length}
use Rattle.rules.specs.Occurrences.{counts_at, present, occurring}
use Rattle.rules.specs.Polynomial.{Polynomial, keep}
use Rattle.rules.specs.Values.{bit}
use Rattle.rules.proofs.Bits.{bit_digit}

-- a coefficient is there once or not at all
pub present_most : (c : ℕ) → present c ≤ 1
unfolding present
present_most zero = omega arith
present_most (suc c) = omega arith

-- at a variable a set counts where it holds it
pub counts_bit : (s v : ℕ) → 0 < v → counts_at s v ≡ bit s v
unfolding counts_at
counts_bit s zero l = absurd (omega arith)
counts_bit s (suc v) l = refl

-- a set counts at most once
counts_most : (s v : ℕ) → counts_at s v ≤ 1
unfolding counts_at
counts_most s zero = omega arith
counts_most s (suc v) = omega (arith, bit_digit s (suc v))

module _ (v : ℕ) where
  -- of lists one behind the other
  pub occurring_append : (p q : Polynomial) → occurring (p ++ q) v ≡ occurring p v + occurring q v
  unfolding occurring
  occurring_append [] q = sym (zero-add (occurring q v))
  occurring_append (t ∷ p) q = rw (occurring_append p q, add_assoc)

  -- no variable has more than there are terms
  pub occurring_most : (p : Polynomial) → occurring p v ≤ length p
  unfolding occurring
  occurring_most [] = omega arith
  occurring_most (t ∷ p) = omega (arith, counts_most t.1 v, occurring_most p)

  -- of a term kept, if it is there
  pub occurring_keep : (c s : ℕ) (p : Polynomial) → occurring (keep c s p) v ≡ present c * counts_at s v + occurring p v
  unfolding keep occurring present
  occurring_keep zero s p = rw (zero-mul, zero-add)
  occurring_keep (suc c) s p = rw one-mul
