-- One turn of each loop that goes down, and none.
use mathlib.Core.Path.{◌≡◌, refl, ap}
use mathlib.Core.List.{List}
use Prim.Native.Nat.{ℕ, zero, suc, ◌+◌, ◌-◌, ◌<◌, ◌≤◌}
use native.Mathlib.Nat.{add-zero}
use native.Mathlib.Omega.{arith}
use lib.ListN.{get_or}
use Rattle.rules.specs.Polynomial.{Polynomial, keep}
use Rattle.rules.specs.Product.{Kind}
use Rattle.start.specs.Start.{single, down, singles, pair_weight, pairs, rows}

-- the highest index first
down_turn : (put : ℕ → Polynomial → Polynomial) (k : ℕ) (rest : Polynomial) → 0 < k → down k put rest ≡ put (k - 1) (down (k - 1) put rest)
unfolding down
down_turn put zero rest h = absurd (omega arith)
down_turn put (suc k) rest h =
    let e : k ≡ suc k - 1 = omega arith in
    ap (λ (i : ℕ). put i (down i put rest)) e

-- no index is left
down_none : (put : ℕ → Polynomial → Polynomial) (k : ℕ) (rest : Polynomial) → k ≤ 0 → down k put rest ≡ rest
unfolding down
down_none put zero rest h = refl
down_none put (suc k) rest h = absurd (omega arith)

-- a variable alone
alone : (v : ℕ) → single v + single 0 ≡ single v
unfolding single
alone v = add-zero (single v)

module _ (weights : List ℕ) (low k : ℕ) (rest : Polynomial) where
  -- the highest variable, then the others
  pub singles_turn : 0 < k → singles weights low k rest ≡ keep (get_or weights (low + 1 + (k - 1)) 0) (single (low + 1 + (k - 1)) + single 0) (singles weights low (k - 1) rest)
  unfolding singles
  singles_turn h = rw (alone (low + 1 + (k - 1))) (down_turn _ k rest h)

  -- no variable is left
  pub singles_none : k ≤ 0 → singles weights low k rest ≡ rest
  unfolding singles
  singles_none h = down_none _ k rest h

module _ (kind : Kind) (m n j k : ℕ) (rest : Polynomial) where
  -- the product with the highest a, then the others
  pub pairs_turn : 0 < k → pairs kind m n j k rest ≡ keep (pair_weight kind m n j (k - 1)) (single (n + 1 + j) + single (1 + (k - 1))) (pairs kind m n j (k - 1) rest)
  unfolding pairs
  pairs_turn h = down_turn _ k rest h

  -- no product is left
  pub pairs_none : k ≤ 0 → pairs kind m n j k rest ≡ rest
  unfolding pairs
  pairs_none h = down_none _ k rest h

module _ (kind : Kind) (m n : ℕ) (weights : List ℕ) (k : ℕ) (rest : Polynomial) where
  -- the products of the highest b and that b, then the others
  pub rows_turn : 0 < k
      → rows kind m n weights k rest
      ≡ pairs kind m n (k - 1) n (keep (get_or weights (n + 1 + (k - 1)) 0) (single (n + 1 + (k - 1)) + single 0) (rows kind m n weights (k - 1) rest))
  unfolding rows
  rows_turn h = rw (alone (n + 1 + (k - 1))) (down_turn _ k rest h)

  -- no row is left
  pub rows_none : k ≤ 0 → rows kind m n weights k rest ≡ rest
  unfolding rows
  rows_none h = down_none _ k rest h
