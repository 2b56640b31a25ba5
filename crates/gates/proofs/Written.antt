-- Rows that are written place by place.
use mathlib.Core.Path.{◌≡◌, refl}
use mathlib.Core.Bool.{true, false}
use mathlib.Core.List.{List, [], ◌∷◌}
use mathlib.Core.Logic.{⊎_elim}
use Prim.Native.Nat.{ℕ, zero, suc, ◌+◌, ◌-◌, ◌^◌, ◌<◌, ◌≤◌}
use native.Mathlib.Nat.{eq-or-lt_of_le}
use native.Mathlib.Omega.{arith}
use lib.Dec.{eqb}
use lib.IntN.{ℤ, pos}
use lib.ListN.{length, set}
use lib.Pow.{pow_mono}
use lib.Seq.{get_or-set_same, get_or-set_other}
use mir.Syntax.{w16}
use mir.Val.{to_z, of_z}
use Rattle.rules.specs.Values.{bit}
use Rattle.rules.proofs.Bits.{bit_cases, bit_out}
use Rattle.gates.specs.Apart.{Near, Within}
use Rattle.gates.specs.Rows.{row_of, Same, joining}
use Rattle.gates.proofs.Flipped.{bit_yes, bit_no}
use Rattle.gates.proofs.Joined.{instead_low, both_low}
use Rattle.gates.proofs.Whole.{whole_within, read_back, read_back_narrow}

-- four coefficients and zeros behind them are the four
pub four_row : (a b c d : ℤ) → Same (row_of (a ∷ b ∷ c ∷ d ∷ pos 0 ∷ pos 0 ∷ pos 0 ∷ pos 0 ∷ [])) (row_of (a ∷ b ∷ c ∷ d ∷ []))
unfolding row_of
four_row a b c d zero l = refl
four_row a b c d (suc zero) l = refl
four_row a b c d (suc (suc zero)) l = refl
four_row a b c d (suc (suc (suc zero))) l = refl
four_row a b c d (suc (suc (suc (suc zero)))) l = refl
four_row a b c d (suc (suc (suc (suc (suc zero))))) l = refl
four_row a b c d (suc (suc (suc (suc (suc (suc zero)))))) l = refl
four_row a b c d (suc (suc (suc (suc (suc (suc (suc zero))))))) l = refl
four_row a b c d (suc (suc (suc (suc (suc (suc (suc (suc u)))))))) l = absurd (omega arith)

-- the first n places are those of a row, and the others still those of another
pub record Writing (row old : ℕ → ℤ) (n : ℕ) (l : List ℤ) : Type 0 where
  pub done : (u : ℕ) → u < n → row_of l u ≡ row u
  pub ahead : (u : ℕ) → n ≤ u → row_of l u ≡ old u

-- one more place
pub writing_more : (row old : ℕ → ℤ) (n : ℕ) (l : List ℤ) (z : ℤ) → n < length l → z ≡ row n → Writing row old n l → Writing row old (n + 1) (set l n z)
unfolding row_of
writing_more row old n l z h e w = record {
  done = λ u b. ⊎_elim
      (λ (q : u ≡ n). rw (q, get_or-set_same l n z (pos 0) h) e)
      (λ (q : u < n). rw (get_or-set_other l n u z (pos 0) (λ k. omega arith)) (w.done u q))
      (eq-or-lt_of_le {n = u} {m = n} (omega arith));
  ahead = λ u b. rw (get_or-set_other l n u z (pos 0) (λ k. omega arith)) (w.ahead u (omega arith));
}

-- what is joined at u is joined from u on
pub joining_ahead : (i j u : ℕ) (row old : ℕ → ℤ) → i < j → ((v : ℕ) → u ≤ v → row v ≡ old v) → joining i j row u ≡ joining i j old u
unfolding joining
joining_ahead i j u row old l f = ⊎_elim
    (λ (e : bit u i ≡ 0). rw (e, f u (omega arith)))
    (λ (e : bit u i ≡ 1).
    let wide : 2 ^ i ≤ 2 ^ j = pow_mono {i = i} {j = j} (omega arith) in
    let there : 2 ^ i ≤ u = (bit_out u i e).0 in
    rw (e, f u (omega arith), f (u - 2 ^ i + 2 ^ j) (omega arith), f (u + 2 ^ j) (omega arith)))
    (bit_cases u i)

-- coefficients that lie near 0 do so from any place on
pub near_of : (b n : ℕ) (row : ℕ → ℤ) → Within b row → Near b n row
near_of b n row f u l a = f u a

-- a coefficient near 0, written and read back
pub near_back : (n u b : ℕ) (row : ℕ → ℤ) → b ≤ 108 → Near b n row → n ≤ u → u < 8 → to_z w16 (of_z w16 (row u)) ≡ row u
near_back n u b row h f l a = let w = f u l a in read_back (row u) (omega (arith, w.0), omega (arith, w.1))

-- what lies near 0 is read back as it was written, and so are sums of it
pub ruleset backs = (near_back, read_back, read_back_narrow, whole_within)

-- coefficients lie as near 0 as those of a row that is the same
pub within_same : (b : ℕ) (row old : ℕ → ℤ) → Within b old → Same row old → Within b row
within_same b row old f e u a = rw (e u a) (f u a)

-- the places of the two that are added to the one at u
pub other_places : (i j u : ℕ) → i < j → j < 3 → u < 8 → true ≡ eqb (bit u i) 1 → false ≡ eqb (bit u j) 1
    → (2 ^ i ≤ u) × (u - 2 ^ i + 2 ^ j < 8) × (u + 2 ^ j < 8) × (u ≤ u - 2 ^ i + 2 ^ j)
other_places i j u l h c there lacks =
    let wide : 2 ^ i ≤ 2 ^ j = pow_mono {i = i} {j = j} (omega arith) in
    let in_u : 2 ^ i ≤ u = (bit_out u i (bit_yes u i there)).0 in
    let first : u - 2 ^ i + 2 ^ j < 8 = instead_low i j u (omega arith) h (λ e. omega arith) c (bit_yes u i there) (bit_no u j lacks) in
    let second : u + 2 ^ j < 8 = both_low i j u (omega arith) h (λ e. omega arith) c (bit_yes u i there) (bit_no u j lacks) in
    (omega arith, omega arith, omega arith, omega arith)
