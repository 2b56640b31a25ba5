-- A lookup cell as a polynomial: its truth byte over three variables as eight whole coefficients, subset by subset (document 001,
-- section 3). A subset of the three variables is a number below 8: bit 0 is x1, bit 1 is x2, bit 2 is x3.
use Rattle.std.specs.Prelude.{◌≡◌, Bool, cond, not, ◌&&◌, ℕ, suc, ◌+◌, ◌*◌, ◌-◌, ◌%◌, ◌<◌, eqb, leb, ℤ, pos, negsuc}
use Rattle.std.specs.Int.Count.{ones}
use Rattle.std.proofs.Math.IntN.{sub_ℕ}
use Rattle.rules.specs.Each.{each, sum}
use Rattle.rules.specs.Values.{bit}

-- the subset r lies in the subset u
unfoldable pub lies_in : ℕ → ℕ → Bool
lies_in r u = each 3 (λ k. leb (bit r k) (bit u k))

-- r lacks an even number of the variables of u, which it lies in
unfoldable pub evenly : ℕ → ℕ → Bool
evenly r u = eqb ((ones u - ones r) % 2) 0

-- the truth bits at the subsets of u that lack an even number of its variables, and at those that lack an odd number, added up
unfoldable pub evens : ℕ → ℕ → ℕ
evens byte u = sum 8 (λ r. cond (lies_in r u && evenly r u) (bit byte r) 0)

unfoldable pub odds : ℕ → ℕ → ℕ
odds byte u = sum 8 (λ r. cond (lies_in r u && not (evenly r u)) (bit byte r) 0)

-- the whole coefficient of a truth byte at the subset u
unfoldable pub coefficient : ℕ → ℕ → ℤ
coefficient byte u = sub_ℕ (evens byte u) (odds byte u)

-- how far a whole number lies above 0, and how far below
unfoldable pub above : ℤ → ℕ
above (pos k) = k
above (negsuc k) = 0

unfoldable pub below : ℤ → ℕ
below (pos k) = 0
below (negsuc k) = suc k

-- a coefficient times a whole number, not yet reduced modulo m: a number below 0 counts that many times m less the coefficient
unfoldable pub scaled : ℕ → ℤ → ℕ → ℕ
scaled m z c = above z * c + below z * (m - c)

-- the numbers at the subsets of x, added up
unfoldable pub within : (ℕ → ℕ) → ℕ → ℕ
within number x = sum 8 (λ u. cond (lies_in u x) (number u) 0)

-- eight whole numbers whose sums over the subsets of each point are the truth bits of the byte
unfoldable pub Row : ℕ → (ℕ → ℤ) → Type 0
Row byte z = (x : ℕ) → x < 8 → within (λ u. above (z u)) x ≡ within (λ u. below (z u)) x + bit byte x
