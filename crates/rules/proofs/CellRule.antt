-- The eight whole coefficients of a truth byte are the only ones whose sums over the subsets of each point are its truth bits.
use mathlib.Core.Path.{◌≡◌, refl, ap}
use mathlib.Core.Bool.{Bool, true, false, cond, not, ◌&&◌}
use mathlib.Core.Logic.{◌⊎◌, inl, inr, ⊎_elim}
use Prim.Native.Nat.{ℕ, zero, suc, ◌+◌, ◌-◌, ◌<◌, ◌≤◌}
use native.Mathlib.Omega.{arith}
use lib.Count.{ones, ones_in}
use lib.Dec.{T, ltb, ltb→lt, nltb→le, lit<}
use lib.IntN.{ℤ, pos, negsuc, sub_ℕ}
use Rattle.rules.specs.Each.{each, sum}
use Rattle.rules.specs.Values.{bit}
use Rattle.rules.specs.Cells.{lies_in, evenly, evens, odds, coefficient, above, below, within, Row}
use Rattle.rules.proofs.Bits.{bit_digit}

-- the difference of two numbers lies as far above 0, or below, as they differ
pub whole_sub : (p n : ℕ) → above (sub_ℕ p n) + n ≡ p + below (sub_ℕ p n)
unfolding above below
whole_sub p n = go (ltb p n) (ltb→lt p n) (nltb→le p n)
  where
    go : (b : Bool) → (T b → p < n) → (T (not b) → n ≤ p) → above (cond b (negsuc (n - suc p)) (pos (p - n))) + n ≡ p + below (cond b (negsuc (n - suc p)) (pos (p - n)))
    go true less more = omega (arith, less tt)
    go false less more = omega (arith, more tt)

-- a whole number does not lie above 0 and below
one_sided : (z : ℤ) → (above z ≡ 0) ⊎ (below z ≡ 0)
unfolding above below
one_sided (pos k) = inr refl
one_sided (negsuc k) = inl refl

-- two whole numbers that lie equally far above and below 0 are one
pub whole_known : (y z : ℤ) → above y + below z ≡ above z + below y → y ≡ z
unfolding above below
whole_known (pos m) (pos n) e = ap pos (omega arith)
whole_known (pos m) (negsuc n) e = absurd (omega arith)
whole_known (negsuc m) (pos n) e = absurd (omega arith)
whole_known (negsuc m) (negsuc n) e = ap negsuc (omega arith)

-- what holds at 0 to 7 holds below 8
eight : (P : ℕ → Type 0) → P 0 → P 1 → P 2 → P 3 → P 4 → P 5 → P 6 → P 7 → (x : ℕ) → x < 8 → P x
eight P p0 p1 p2 p3 p4 p5 p6 p7 zero h = p0
eight P p0 p1 p2 p3 p4 p5 p6 p7 (suc zero) h = p1
eight P p0 p1 p2 p3 p4 p5 p6 p7 (suc (suc zero)) h = p2
eight P p0 p1 p2 p3 p4 p5 p6 p7 (suc (suc (suc zero))) h = p3
eight P p0 p1 p2 p3 p4 p5 p6 p7 (suc (suc (suc (suc zero)))) h = p4
eight P p0 p1 p2 p3 p4 p5 p6 p7 (suc (suc (suc (suc (suc zero))))) h = p5
eight P p0 p1 p2 p3 p4 p5 p6 p7 (suc (suc (suc (suc (suc (suc zero)))))) h = p6
eight P p0 p1 p2 p3 p4 p5 p6 p7 (suc (suc (suc (suc (suc (suc (suc zero))))))) h = p7
eight P p0 p1 p2 p3 p4 p5 p6 p7 (suc (suc (suc (suc (suc (suc (suc (suc x)))))))) h = absurd (omega arith)

-- and what holds below 8 holds at 0 to 7
each_of : (P : ℕ → Type 0) → ((x : ℕ) → x < 8 → P x) → P 0 × P 1 × P 2 × P 3 × P 4 × P 5 × P 6 × P 7
each_of P h = (h 0 (lit< tt), h 1 (lit< tt), h 2 (lit< tt), h 3 (lit< tt), h 4 (lit< tt), h 5 (lit< tt), h 6 (lit< tt), h 7 (lit< tt))

-- the numbers at the subsets of u that lack an even number of its variables, and at those that lack an odd number, added up
abbrev even_sum : (ℕ → ℕ) → ℕ → ℕ
even_sum number u = sum 8 (λ r. cond (lies_in r u && evenly r u) (number r) 0)

abbrev odd_sum : (ℕ → ℕ) → ℕ → ℕ
odd_sum number u = sum 8 (λ r. cond (lies_in r u && not (evenly r u)) (number r) 0)

-- either sum is of at most four digits
half_sums : (digit : ℕ → ℕ) → ((r : ℕ) → digit r < 2) → (u : ℕ) → u < 8 → (even_sum digit u ≤ 4) × (odd_sum digit u ≤ 4)
unfolding lies_in evenly sum each bit ones ones_in
half_sums digit small =
    let facts = each_of (λ r. digit r < 2) (λ r l. small r) in
    eight (λ u. (even_sum digit u ≤ 4) × (odd_sum digit u ≤ 4))
    (omega arith, omega arith) (omega arith, omega arith) (omega arith, omega arith) (omega arith, omega arith)
    (omega arith, omega arith) (omega arith, omega arith) (omega arith, omega arith) (omega arith, omega arith)

-- sums over subsets, and the numbers that are summed, each from the other
module _ (up down truth : ℕ → ℕ) where
  -- the sums over the subsets of x differ by the truth at x
  abbrev Sums : ℕ → Type 0
  Sums x = within up x ≡ within down x + truth x

  -- the numbers at u differ by the truths at its subsets, added and taken away
  abbrev Parts : ℕ → Type 0
  Parts u = up u + odd_sum truth u ≡ even_sum truth u + down u

  -- the numbers from the sums
  unsum : ((x : ℕ) → x < 8 → Sums x) → (u : ℕ) → u < 8 → Parts u
  unfolding within lies_in evenly sum each bit ones ones_in
  unsum h =
      let facts = each_of Sums h in
      eight Parts (omega arith) (omega arith) (omega arith) (omega arith) (omega arith) (omega arith) (omega arith) (omega arith)

  -- the sums from the numbers
  resum : ((u : ℕ) → u < 8 → Parts u) → (x : ℕ) → x < 8 → Sums x
  unfolding within lies_in evenly sum each bit ones ones_in
  resum h =
      let facts = each_of Parts h in
      eight Sums (omega arith) (omega arith) (omega arith) (omega arith) (omega arith) (omega arith) (omega arith) (omega arith)

-- the coefficients of a byte are its row
pub row_right : (byte : ℕ) → Row byte (coefficient byte)
unfolding Row coefficient evens odds
row_right byte =
    resum (λ u. above (coefficient byte u)) (λ u. below (coefficient byte u)) (bit byte) (λ u l. whole_sub (evens byte u) (odds byte u))

-- and no other whole numbers are
pub row_only : (byte : ℕ) (z : ℕ → ℤ) → Row byte z → (u : ℕ) → u < 8 → z u ≡ coefficient byte u
unfolding Row coefficient evens odds
row_only byte z h u l =
    let parts = unsum (λ v. above (z v)) (λ v. below (z v)) (bit byte) h u l in
    whole_known (z u) (coefficient byte u) (omega (arith, whole_sub (evens byte u) (odds byte u)))

-- a coefficient lies at most 4 above 0, and at most 4 below
pub coefficient_small : (byte u : ℕ) → u < 8 → (above (coefficient byte u) ≤ 4) × (below (coefficient byte u) ≤ 4)
unfolding coefficient evens odds
coefficient_small byte u l =
    let halves = half_sums (bit byte) (bit_digit byte) u l in
    let difference = whole_sub (evens byte u) (odds byte u) in
    ⊎_elim (λ (e : above (coefficient byte u) ≡ 0). (omega arith, omega arith)) (λ (e : below (coefficient byte u) ≡ 0). (omega arith, omega arith))
    (one_sided (coefficient byte u))
