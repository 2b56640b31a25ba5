-- Rows of coefficients in a list of whole numbers.
use Rattle.std.specs.Prelude.{◌≡◌, List, ◌⊎◌, ℕ, ◌+◌, ◌*◌, ◌<◌, ◌≤◌, ℤ, pos, get_or}
use Rattle.rules.specs.Cells.{coefficient}

-- row by row, the list holds the coefficients of the sixteen bytes of a part of the table, at every subset
unfoldable pub Right : ℕ → List ℤ → Type 0
Right part list = (low u : ℕ) → low < 16 → u < 8 → get_or list (low * 8 + u) (pos 0) ≡ coefficient (16 * part + low) u

-- the second list is the first with the first n coefficients of the byte written from the index `at` on
pub record Written (byte at n : ℕ) (entry exit : List ℤ) : Type 0 where
  pub inside : (i : ℕ) → i < n → get_or exit (at + i) (pos 0) ≡ coefficient byte i
  pub outside : (i : ℕ) → (i < at) ⊎ (at + n ≤ i) → get_or exit i (pos 0) ≡ get_or entry i (pos 0)
