-- What the last arm of a `match` on a number knows.
use mathlib.Core.Path.{◌≡◌}
use Prim.Native.Nat.{ℕ, zero, suc, ◌≤◌}
use native.Mathlib.Omega.{arith}

-- k is none of the first n numbers, which have arms of their own
abbrev pub None : ℕ → ℕ → Type 0
None zero k = Unit
None (suc n) k = None n k × (k ≡ n → ⊥)

-- so it is n or more
none_below : (n k : ℕ) → None n k → n ≤ k
none_below zero k h = omega arith
none_below (suc n) k h = omega (arith, none_below n k h.0, h.1)

-- and where it is no more, it is n
pub none_but : (n k : ℕ) → k ≤ n → None n k → k ≡ n
none_but n k l h = omega (arith, none_below n k h)
