-- Falling lists merged: what is written, and what is left of each list.
use Rattle.std.specs.Prelude.{◌≡◌, [], ◌∷◌, ℕ, zero, suc, ◌+◌, ◌%◌, ◌<◌}
use Rattle.rules.specs.Each.{sum}
use Rattle.rules.specs.Polynomial.{Polynomial, coefficient_at, Below, Coefficients}

-- each of the first k lists falls below b
abbrev pub Lows : ℕ → ℕ → (ℕ → Polynomial) → Type 0
Lows b k q = (j : ℕ) → j < k → Below b (q j)

-- the last set of a list that falls from hi
unfoldable pub floor : ℕ → Polynomial → ℕ
floor hi [] = hi
floor hi (x ∷ p) = floor x.1 p

-- r has been merged into `out`, but for the k lists q
pub record Merging (m hi k : ℕ) (r out : Polynomial) (q : ℕ → Polynomial) : Type 0 where
  pub falls : Below hi out
  pub coefs : Coefficients m out
  pub lows : Lows (floor hi out) k q
  pub sums : (u : ℕ) → (coefficient_at out u + sum k (λ j. coefficient_at (q j) u)) % m ≡ coefficient_at r u % m

-- two lists
unfoldable pub two : Polynomial → Polynomial → ℕ → Polynomial
two p q zero = p
two p q (suc j) = q
