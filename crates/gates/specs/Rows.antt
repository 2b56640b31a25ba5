-- A gate as eight whole coefficients over three variables, one for each subset. A term that holds the gate goes into a stream for each
-- subset: its variables are put in, and the coefficient is multiplied. By how much depends on which of the three variables the
-- term holds already, since x·x is x.
use Rattle.std.specs.Prelude.{◌≡◌, Bool, cond, not, ◌&&◌, List, ◌⊎◌, ℕ, zero, suc, ◌+◌, ◌-◌, ◌*◌, ◌/◌, ◌%◌, ◌^◌, ◌<◌, eqb, ℤ, pos, ◌+ℤ◌, get_or}
use Rattle.rules.specs.Cells.{above, below}
use Rattle.rules.specs.Each.{joined, sum}
use Rattle.rules.specs.Occurrences.{present}
use Rattle.rules.specs.Polynomial.{Term, Polynomial}
use Rattle.rules.specs.Steps.{times_whole}
use Rattle.rules.specs.Values.{bit}

-- the coefficients that words hold
unfoldable pub row_of : List ℤ → ℕ → ℤ
row_of words u = get_or words u (pos 0)

-- two rows have the same eight coefficients
abbrev pub Same : (ℕ → ℤ) → (ℕ → ℤ) → Type 0
Same row other = (u : ℕ) → u < 8 → row u ≡ other u

-- how many of the first n coefficients are not 0
unfoldable pub not_zero : ℕ → (ℕ → ℤ) → ℕ
not_zero n row = sum n (λ u. present (above (row u) + below (row u)))

-- a term times the polynomial of eight coefficients over x, y and z
unfoldable pub times_row : ℕ → (ℕ → ℤ) → ℕ → ℕ → ℕ → Term → Polynomial
times_row m row x y z t = joined 8 (λ u. times_whole m (row u) u x y z t)

-- the coefficients for a term that holds variable k, or does not (r is 0): where it does, those that put k in are added to those that do
-- not
unfoldable pub holding : ℕ → ℕ → (ℕ → ℤ) → ℕ → ℤ
holding k zero row u = row u
holding k (suc r) row u = cond (eqb (bit u k) 1) (pos 0) (row u +ℤ row (u + 2 ^ k))

-- the coefficients for a term that holds the variables of the subset r
unfoldable pub multiplier : (ℕ → ℤ) → ℕ → ℕ → ℤ
multiplier row r u = holding 0 (bit r 0) (holding 1 (bit r 1) (holding 2 (bit r 2) row)) u

-- the first n places of a table: a row of eight multipliers for each subset that a term may hold
abbrev pub Tabled : (ℕ → ℤ) → ℕ → List ℤ → Type 0
Tabled row n table = (i : ℕ) → i < n → get_or table i (pos 0) ≡ multiplier row (i / 8) (i % 8)

-- a table of four rows, or of eight
abbrev pub Rows : ℕ → Type 0
Rows n = (n ≡ 32) ⊎ (n ≡ 64)

-- where the row of a subset begins whose lowest variable is the one at k
pub record Lowest (start k : ℕ) : Type 0 where
  pub others : ℕ
  pub low : k < 3
  pub is_start : start ≡ 8 * (others + 2 ^ k)
  pub last : start < 64
  pub lacks : bit others k ≡ 0
  pub none : (j : ℕ) → j < k → bit others j ≡ 0

-- the coefficients where variable k is constant false (x is 0): those that put it in make nothing
unfoldable pub leaving : ℕ → ℕ → (ℕ → ℤ) → ℕ → ℤ
leaving zero k row u = cond (eqb (bit u k) 1) (pos 0) (row u)
leaving (suc x) k row u = row u

-- the coefficients where the variables i and j are one: those that put in j, or both, are added to those that put in i
unfoldable pub joining : ℕ → ℕ → (ℕ → ℤ) → ℕ → ℤ
joining i j row u =
    cond (eqb (bit u j) 1) (pos 0)
    (cond (eqb (bit u i) 1) (row u +ℤ row (u - 2 ^ i + 2 ^ j) +ℤ row (u + 2 ^ j)) (row u))

-- two variables are one, and no constant
unfoldable pub one_variable : ℕ → ℕ → Bool
one_variable x y = not (eqb x 0) && eqb x y

-- the coefficients where the variables x at i and y at j are brought apart, and what then stands at j
unfoldable pub joined_row : ℕ → ℕ → ℕ → ℕ → (ℕ → ℤ) → ℕ → ℤ
joined_row x y i j row u = cond (one_variable x y) (joining i j row u) (row u)

unfoldable pub joined_variable : ℕ → ℕ → ℕ
joined_variable x y = cond (one_variable x y) 0 y
