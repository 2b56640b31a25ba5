-- A record brought apart: the same polynomial over variables of which none stands twice.
use Rattle.std.specs.Prelude.{◌≡◌, List, [], ◌∷◌, ℕ, zero, suc, ◌%◌, ◌<◌, ◌≤◌, ℤ, pos, negsuc, length}
use Rattle.rules.specs.Cells.{coefficient, above, below}
use Rattle.rules.specs.Netlist.{variable, inverted, EveryVariable}
use Rattle.rules.specs.Polynomial.{Term, coefficient_at}
use Rattle.rules.specs.Steps.{times_record}
use Rattle.rules.specs.Values.{bit}
use Rattle.rules.specs.declared.records.Record.{Record}
use Rattle.rules.specs.declared.records.Record.TheVariants.{Gate, Cell}
use Rattle.gates.specs.Rows.{row_of, times_row}
use Rattle.gates.specs.declared.apart.Variables.{Variables}

-- a record and a row of coefficients over three variables make the same of every term
abbrev pub Alike : Record → Variables → (ℕ → ℤ) → Type 0
Alike r q row =
    (m u c s : ℕ) → c ≤ m
    → coefficient_at (times_record m r (c, s)) u % m ≡ coefficient_at (times_row m row q.x q.y q.z (c, s)) u % m

-- the coefficients with variable k in their subset are 0
abbrev pub Free : ℕ → (ℕ → ℤ) → Type 0
Free k row = (u : ℕ) → u < 8 → bit u k ≡ 1 → row u ≡ pos 0

-- the coefficients of the product of two literals, by whether each is inverted; those that have a third variable are 0
unfoldable pub and_row : ℕ → ℕ → List ℤ
and_row zero zero = pos 0 ∷ pos 0 ∷ pos 0 ∷ pos 1 ∷ []
and_row zero (suc k) = pos 0 ∷ pos 1 ∷ pos 0 ∷ negsuc 0 ∷ []
and_row (suc k) zero = pos 0 ∷ pos 0 ∷ pos 1 ∷ negsuc 0 ∷ []
and_row (suc k) (suc j) = pos 1 ∷ negsuc 0 ∷ negsuc 0 ∷ pos 1 ∷ []

-- the coefficients of a record, and the variables that they are over, which may stand twice
unfoldable pub record_row : Record → ℕ → ℤ
record_row (Gate x y) = row_of (and_row (inverted x) (inverted y))
record_row (Cell byte x1 x2 x3) = coefficient byte

unfoldable pub record_variables : Record → Variables
record_variables (Gate x y) = record { x = variable x; y = variable y; z = 0 }
record_variables (Cell byte x1 x2 x3) = record { x = x1; y = x2; z = x3 }

-- a record makes so many terms of every term, before like ones meet
abbrev pub Making : Record → ℕ → Type 0
Making r made = (m : ℕ) (t : Term) → made ≡ length (times_record m r t)

-- every coefficient from place n on lies from -b to b
abbrev pub Near : ℕ → ℕ → (ℕ → ℤ) → Type 0
Near b n row = (u : ℕ) → n ≤ u → u < 8 → (above (row u) ≤ b) × (below (row u) ≤ b)

-- every coefficient does
abbrev pub Within : ℕ → (ℕ → ℤ) → Type 0
Within b row = (u : ℕ) → u < 8 → (above (row u) ≤ b) × (below (row u) ≤ b)

-- the same of every term, over three distinct variables of the record, or 0 where there is none
pub record Apart (r : Record) (q : Variables) (row : ℕ → ℤ) : Type 0 where
  pub low : (v : ℕ) → 0 < v → EveryVariable (λ w. w < v) r → (q.x < v) × (q.y < v) × (q.z < v)
  pub x_y : q.x ≡ q.y → q.y ≡ 0
  pub x_z : q.x ≡ q.z → q.z ≡ 0
  pub y_z : q.y ≡ q.z → q.z ≡ 0
  pub no_x : q.x ≡ 0 → Free 0 row
  pub no_y : q.y ≡ 0 → Free 1 row
  pub no_z : q.z ≡ 0 → Free 2 row
  pub within : Within 108 row
  pub alike : Alike r q row
