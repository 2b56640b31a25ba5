-- What eight coefficients over three variables make of a term, at one set; and what a term that holds some of the variables makes of it.
use mathlib.Core.Path.{◌≡◌, refl, ap, sym, ◌∙◌}
use mathlib.Core.Bool.{Bool, true, false, cond}
use mathlib.Core.List.{[], ◌∷◌}
use mathlib.Core.Logic.{⊎_elim}
use Prim.Native.Nat.{ℕ, zero, suc, ◌+◌, ◌%◌, ◌≤◌}
use native.Mathlib.Nat.{add-zero}
use native.Mathlib.Omega.{arith}
use lib.Dec.{eqb}
use lib.IntN.{ℤ, pos, ◌+ℤ◌}
use borrow.Author.Tests.{eqb-true, eqb-false}
use Rattle.rules.specs.Cells.{above, below, scaled}
use Rattle.rules.specs.Each.{sum}
use Rattle.rules.specs.Values.{bit}
use Rattle.rules.specs.Polynomial.{Term, hit, coefficient_at, with_variable, times_chosen}
use Rattle.rules.specs.Steps.{times_subset, times_whole}
use Rattle.rules.proofs.Bits.{bit_cases}
use Rattle.rules.proofs.Indices.{sum_same}
use Rattle.rules.proofs.Terms.{hit_add, hit_zero, hit_mod, coefficient_joined}
use Rattle.gates.specs.Apart.{Free}
use Rattle.gates.specs.Rows.{times_row}
use Rattle.gates.proofs.Whole.{scaled_add, scaled_none, whole_none}

-- a variable put into a set, where d is not 0
unfoldable pub put_by : ℕ → ℕ → ℕ → ℕ
put_by zero s v = s
put_by (suc d) s v = with_variable s v

-- a term times a variable that is chosen is a term, unless the variable is constant false
chosen_one : (d v k s : ℕ) → (v ≡ 0 → d ≡ 0) → times_chosen d v ((k, s) ∷ []) ≡ (k, put_by d s v) ∷ []
unfolding times_chosen put_by
chosen_one zero v k s h = refl
chosen_one (suc d) zero k s h = absurd (omega (arith, h refl))
chosen_one (suc d) (suc v) k s h = refl

-- the set with the variables of the subset u put in
unfoldable pub filled : ℕ → ℕ → ℕ → ℕ → ℕ → ℕ
filled x y z s u = put_by (bit u 0) (put_by (bit u 1) (put_by (bit u 2) s z) y) x

-- a coefficient that puts no constant false in makes one term, with its variables put in, or none where it is 0
pub whole_makes : (m : ℕ) (z : ℤ) (u x y w : ℕ) (t : Term)
    → (x ≡ 0 → bit u 0 ≡ 1 → z ≡ pos 0) → (y ≡ 0 → bit u 1 ≡ 1 → z ≡ pos 0) → (w ≡ 0 → bit u 2 ≡ 1 → z ≡ pos 0)
    → times_whole m z u x y w t ≡ cond (eqb (above z + below z) 0) [] ((scaled m z t.0, filled x y w t.1 u) ∷ [])
unfolding times_whole times_subset filled above below
whole_makes m z u x y w t fx fy fz = go (eqb (above z + below z) 0) refl
  where
    c : ℕ
    c = scaled m z t.0

    go : (none : Bool) → eqb (above z + below z) 0 ≡ none
        → cond none [] (times_chosen (bit u 0) x (times_chosen (bit u 1) y (times_chosen (bit u 2) w ((c, t.1) ∷ []))))
        ≡ cond none [] ((c, put_by (bit u 0) (put_by (bit u 1) (put_by (bit u 2) t.1 w) y) x) ∷ [])
    go true e = refl
    go false e =
        let some : z ≡ pos 0 → ⊥ = λ q. eqb-false _ 0 e (ap (λ (y : ℤ). above y + below y) q ∙ none_apart) in
        let off : (v k : ℕ) → (v ≡ 0 → bit u k ≡ 1 → z ≡ pos 0) → v ≡ 0 → bit u k ≡ 0 = λ v k f q. ⊎_elim (λ (b : bit u k ≡ 0). b) (λ (b : bit u k ≡ 1). absurd (some (f q b))) (bit_cases u k) in
        rw (chosen_one (bit u 2) w c t.1 (off w 2 fz), chosen_one (bit u 1) y c (put_by (bit u 2) t.1 w) (off y 1 fy), chosen_one (bit u 0) x c (put_by (bit u 1) (put_by (bit u 2) t.1 w) y) (off x 0 fx))
      where
        none_apart : above (pos 0) + below (pos 0) ≡ 0
        none_apart = refl

-- the coefficient at t of what a row of coefficients makes of a term (c, s)
module _ (m c t : ℕ) where
  -- a coefficient at one set
  unfoldable pub share : ℕ → ℤ → ℕ
  share s z = hit t s (scaled m z c)

  -- none where it is 0
  pub share_none : (s : ℕ) (z : ℤ) → z ≡ pos 0 → share s z ≡ 0
  unfolding share
  share_none s z e = rw (scaled_none m z c e) (hit_zero s t)

  -- both where two are added
  pub share_add : (s : ℕ) (a b : ℤ) → c ≤ m → (share s a + share s b) % m ≡ share s (a +ℤ b) % m
  unfolding share
  share_add s a b h =
      ap (λ (x : ℕ). x % m) (sym (hit_add s t (scaled m a c) (scaled m b c))) ∙ sym (hit_mod s t m (scaled m a c + scaled m b c))
      ∙ ap (hit t s) (scaled_add m c a b h) ∙ hit_mod s t m (scaled m (a +ℤ b) c)

  -- one coefficient's term
  whole_share : (z : ℤ) (u x y w s : ℕ) → (x ≡ 0 → bit u 0 ≡ 1 → z ≡ pos 0) → (y ≡ 0 → bit u 1 ≡ 1 → z ≡ pos 0) → (w ≡ 0 → bit u 2 ≡ 1 → z ≡ pos 0)
      → coefficient_at (times_whole m z u x y w (c, s)) t ≡ share (filled x y w s u) z
  unfolding coefficient_at share
  whole_share z u x y w s fx fy fz = rw (whole_makes m z u x y w (c, s) fx fy fz) (go (eqb (above z + below z) 0) refl)
    where
      go : (none : Bool) → eqb (above z + below z) 0 ≡ none → coefficient_at (cond none [] ((scaled m z c, filled x y w s u) ∷ [])) t ≡ hit t (filled x y w s u) (scaled m z c)
      go true e = sym (rw (scaled_none m z c (whole_none z (eqb-true _ 0 e))) (hit_zero _ t))
      go false e = add-zero _

  -- all eight, where no coefficient puts constant false in
  pub row_shares : (row : ℕ → ℤ) (x y z s : ℕ) → (x ≡ 0 → Free 0 row) → (y ≡ 0 → Free 1 row) → (z ≡ 0 → Free 2 row)
      → coefficient_at (times_row m row x y z (c, s)) t ≡ sum 8 (λ u. share (filled x y z s u) (row u))
  unfolding times_row
  row_shares row x y z s fx fy fz =
      coefficient_joined 8 (λ u. times_whole m (row u) u x y z (c, s)) t
      ∙ sum_same 8 (λ u. coefficient_at (times_whole m (row u) u x y z (c, s)) t) (λ u. share (filled x y z s u) (row u))
      (λ u l. whole_share (row u) u x y z s (λ e. fx e u l) (λ e. fy e u l) (λ e. fz e u l))
