-- The streams of a gate: the weight of a term in a stream, and its set under the stream's mask. A term is in a stream exactly when
-- its weight there is not 0.
use Rattle.std.specs.Prelude.{◌≡◌, List, [], ◌∷◌, cond, ℕ, zero, suc, ◌+◌, ◌*◌, ◌^◌, ◌<◌, ◌≤◌, eqb, ℤ, pos, length, get_or}
use Rattle.std.specs.Int.Bits.{bit_xor}
use Rattle.rules.specs.Cells.{scaled}
use Rattle.rules.specs.Each.{joined}
use Rattle.rules.specs.Values.{bit}
use Rattle.rules.specs.Polynomial.{Term, Polynomial, keep}
use Rattle.words.specs.Listed.{coefficient_of, set_of}
use Rattle.words.specs.declared.listed.Terms.{Terms}
use Rattle.gates.specs.Masks.{mask_at}
use Rattle.merge.specs.declared.streams.Gate.{Gate}

-- the streams of a gate: one for each subset of its variables, of which there are two where z is 0
unfoldable pub streams_of : Gate → ℕ
streams_of g = cond (eqb g.over.z 0) 4 8

-- which of x, y and z a set has, as a subset; without a z none
unfoldable pub held_in : Gate → ℕ → ℕ
held_in g s = bit s g.over.x + 2 * bit s g.over.y + 4 * cond (eqb g.over.z 0) 0 (bit s g.over.z)

-- a multiplier where the term holds v, else none
unfoldable pub if_held : ℕ → ℤ → ℤ
if_held zero a = pos 0
if_held (suc r) a = a

-- the multiplier of a set in stream j: 0 where it does not hold v
unfoldable pub multiplier_of : Gate → List ℤ → ℕ → ℕ → ℤ
multiplier_of g multipliers j s = if_held (bit s g.v) (get_or multipliers (held_in g s * 8 + j) (pos 0))

-- the weight of a term in stream j, not yet modulo 2^l: it may vanish there where its multiplier is not 0
unfoldable pub weight : Gate → List ℤ → ℕ → Term → ℕ
weight g multipliers j t = scaled (2 ^ g.l) (multiplier_of g multipliers j t.1) t.0

-- the terms of p that have a weight in stream j
unfoldable pub stream : Gate → List ℤ → (ℕ → ℕ) → ℕ → Polynomial → Polynomial
stream g multipliers mask j [] = []
stream g multipliers mask j (t ∷ p) = keep (weight g multipliers j t) (bit_xor t.1 (mask j)) (stream g multipliers mask j p)

-- all k streams, one behind the other
unfoldable pub streams : Gate → List ℤ → (ℕ → ℕ) → ℕ → Polynomial → Polynomial
streams g multipliers mask k p = joined k (λ j. stream g multipliers mask j p)

-- the terms have coefficients from 1 to 2^l - 1, and the gate is in range
pub record Held (t : Terms) (g : Gate) (multipliers : List ℤ) : Type 0 where
  pub v_in : g.v < 64 * t.width
  pub x_in : g.over.x < 64 * t.width
  pub y_in : g.over.y < 64 * t.width
  pub z_in : g.over.z < 64 * t.width
  pub l_high : g.l ≤ 64
  pub table : length multipliers ≡ 64
  pub some : (i : ℕ) → i < t.count → 1 ≤ coefficient_of t i
  pub small : (i : ℕ) → i < t.count → coefficient_of t i < 2 ^ g.l

-- the masks of the gate's streams stand behind one another; they and the sets of the terms use k of their words
pub record Masks (t : Terms) (g : Gate) (masks : List ℕ) : Type 0 where
  pub wide : streams_of g * t.width ≤ length masks
  pub short : g.k ≤ t.width
  pub sets : (i : ℕ) → i < t.count → set_of t i < 2 ^ (64 * g.k)
  pub low : (j : ℕ) → j < streams_of g → mask_at t.width masks j < 2 ^ (64 * g.k)
