-- Bringing variables apart changes nothing of what coefficients make of a term.
use mathlib.Core.Path.{◌≡◌, refl, ap, sym, ◌∙◌}
use mathlib.Core.Bool.{Bool, true, false, cond}
use mathlib.Core.List.{[], ◌∷◌}
use mathlib.Core.Logic.{⊎_elim}
use Prim.Native.Nat.{ℕ, zero, suc, ◌+◌, ◌-◌, ◌*◌, ◌%◌, ◌^◌, ◌<◌, ◌≤◌}
use native.Mathlib.Omega.{arith}
use lib.Dec.{eqb}
use lib.IntN.{ℤ, pos, ◌+ℤ◌}
use lib.Pow.{pow_mono}
use borrow.Author.Tests.{eqb-true, eqb-false}
use Rattle.rules.specs.Cells.{above, below, scaled}
use Rattle.rules.specs.Each.{sum, joined}
use Rattle.rules.specs.Values.{bit}
use Rattle.rules.specs.Polynomial.{Term, Polynomial, with_variable, times_chosen}
use Rattle.rules.specs.Steps.{times_subset, times_whole}
use Rattle.rules.proofs.Bits.{bit_cases, bit_out, bit_put, bit_with, with_cases}
use Rattle.rules.proofs.Remainders.{same_add}
use Rattle.gates.specs.Apart.{Free, Near, Within}
use Rattle.gates.specs.Rows.{times_row, leaving, joining}
use Rattle.gates.proofs.Replacing.{with_in, below_eight, bit_in}
use Rattle.gates.proofs.Spread.{put_by, filled, share, share_none, share_add}
use Rattle.gates.proofs.Whole.{whole_within}

-- a set with a variable put in has it
with_has : (s v : ℕ) → bit (with_variable s v) v ≡ 1
with_has s v = with_cases (λ t. bit t v ≡ 1) s v (λ e. e) (λ e. bit_in s v e)

-- a variable put in twice is there once
with_twice : (s v : ℕ) → with_variable (with_variable s v) v ≡ with_variable s v
with_twice s v = with_in (with_variable s v) v (with_has s v)

-- the order in which two variables are put in makes no difference
pub with_swap : (s v w : ℕ) → with_variable (with_variable s v) w ≡ with_variable (with_variable s w) v
unfolding with_variable
with_swap s v w = go (eqb v w) refl
  where
    go : (b : Bool) → eqb v w ≡ b → with_variable (with_variable s v) w ≡ with_variable (with_variable s w) v
    go true e = rw (eqb-true v w e)
    go false e =
        let other : w ≡ v → ⊥ = λ q. eqb-false v w e (sym q) in
        let first : bit (with_variable s v) w ≡ bit s w = bit_with s v w other in
        let second : bit (with_variable s w) v ≡ bit s v = bit_with s w v (eqb-false v w e) in
        rw (first, second) (omega arith)

-- three at one set are added
module _ (m c t : ℕ) (h : c ≤ m) where
  three : (s : ℕ) (a b d : ℤ) → (share m c t s a + share m c t s b + share m c t s d) % m ≡ share m c t s (a +ℤ b +ℤ d) % m
  three s a b d =
      same_add m (share m c t s a + share m c t s b) (share m c t s (a +ℤ b)) (share m c t s d) (share m c t s d) (share_add m c t s a b h) refl
      ∙ share_add m c t s (a +ℤ b) d h

  -- a variable put in twice: the coefficients that put it in once or twice are one
  four : (outer : ℕ → ℕ) (s w : ℕ) (o a b d : ℤ)
      → (share m c t (outer s) o + share m c t (outer (with_variable s w)) a + share m c t (outer (with_variable s w)) b + share m c t (outer (with_variable (with_variable s w) w)) d) % m
      ≡ (share m c t (outer s) o + share m c t (outer (with_variable s w)) (a +ℤ b +ℤ d)) % m
  four outer s w o a b d =
      let r : (x y z q : ℕ) → x + y + z + q ≡ x + (y + z + q) = λ x y z q. omega arith in
      rw (with_twice s w, r)
      (same_add m (share m c t (outer s) o) (share m c t (outer s) o) (share m c t (outer (with_variable s w)) a + share m c t (outer (with_variable s w)) b + share m c t (outer (with_variable s w)) d) (share m c t (outer (with_variable s w)) (a +ℤ b +ℤ d)) refl (three (outer (with_variable s w)) a b d))

  -- two groups of four
  both : (a b d e f g i j : ℕ) (x y : ℕ) → (a + b + d + e) % m ≡ x % m → (f + g + i + j) % m ≡ y % m → (a + b + d + e + (f + g + i + j)) % m ≡ (x + y) % m
  both a b d e f g i j x y p q = same_add m (a + b + d + e) x (f + g + i + j) y p q

  -- x and y are one
  pub join_x_y : (row : ℕ → ℤ) (w z s : ℕ) → sum 8 (λ u. share m c t (filled w w z s u) (row u)) % m ≡ sum 8 (λ u. share m c t (filled w 0 z s u) (joining 0 1 row u)) % m
  unfolding sum filled put_by joining bit
  join_x_y row w z s =
      let left : (a b d e f g i j : ℕ) → 0 + a + b + d + e + f + g + i + j ≡ a + b + d + e + (f + g + i + j) = λ a b d e f g i j. omega arith in
      let right : (a b f g : ℕ) → 0 + a + b + 0 + 0 + f + g + 0 + 0 ≡ a + b + (f + g) = λ a b f g. omega arith in
      rw (share_none m c t _ (pos 0) refl, share_none m c t _ (pos 0) refl, share_none m c t _ (pos 0) refl, share_none m c t _ (pos 0) refl, left, right)
      (both _ _ _ _ _ _ _ _ _ _ (four (λ n. n) s w (row 0) (row 1) (row 2) (row 3)) (four (λ n. n) (with_variable s z) w (row 4) (row 5) (row 6) (row 7)))

  -- x and z are one
  pub join_x_z : (row : ℕ → ℤ) (w y s : ℕ) → sum 8 (λ u. share m c t (filled w y w s u) (row u)) % m ≡ sum 8 (λ u. share m c t (filled w y 0 s u) (joining 0 2 row u)) % m
  unfolding sum filled put_by joining bit
  join_x_z row w y s =
      let left : (a b f g d e i j : ℕ) → 0 + a + b + f + g + d + e + i + j ≡ a + b + d + e + (f + g + i + j) = λ a b f g d e i j. omega arith in
      let right : (a b f g : ℕ) → 0 + a + b + f + g + 0 + 0 + 0 + 0 ≡ a + b + (f + g) = λ a b f g. omega arith in
      rw (with_swap s w y, share_none m c t _ (pos 0) refl, share_none m c t _ (pos 0) refl, share_none m c t _ (pos 0) refl, share_none m c t _ (pos 0) refl, left, right)
      (both _ _ _ _ _ _ _ _ _ _ (four (λ n. n) s w (row 0) (row 1) (row 4) (row 5)) (four (λ n. n) (with_variable s y) w (row 2) (row 3) (row 6) (row 7)))

  -- y and z are one
  pub join_y_z : (row : ℕ → ℤ) (w x s : ℕ) → sum 8 (λ u. share m c t (filled x w w s u) (row u)) % m ≡ sum 8 (λ u. share m c t (filled x w 0 s u) (joining 1 2 row u)) % m
  unfolding sum filled put_by joining bit
  join_y_z row w x s =
      let left : (a f b g d i e j : ℕ) → 0 + a + f + b + g + d + i + e + j ≡ a + b + d + e + (f + g + i + j) = λ a f b g d i e j. omega arith in
      let right : (a f b g : ℕ) → 0 + a + f + b + g + 0 + 0 + 0 + 0 ≡ a + b + (f + g) = λ a f b g. omega arith in
      rw (share_none m c t _ (pos 0) refl, share_none m c t _ (pos 0) refl, share_none m c t _ (pos 0) refl, share_none m c t _ (pos 0) refl, left, right)
      (both _ _ _ _ _ _ _ _ _ _ (four (λ n. n) s w (row 0) (row 2) (row 4) (row 6)) (four (λ n. with_variable n x) s w (row 1) (row 3) (row 5) (row 7)))

-- a set without a variable that is there has of the others what it had
bit_off : (s v u : ℕ) → bit s v ≡ 1 → (u ≡ v → ⊥) → bit (s - 2 ^ v) u ≡ bit s u
bit_off s v u e n =
    let out = bit_out s v e in
    let back : s - 2 ^ v + 2 ^ v ≡ s = omega (arith, out.0) in
    sym (bit_put (s - 2 ^ v) v u out.1 n) ∙ ap (λ (k : ℕ). bit k u) back

-- the two coefficients that one is joined with: they put in j in place of i, and both
module _ (i j u : ℕ) (li : i < 3) (lj : j < 3) (n : i ≡ j → ⊥) (a : u < 8) (there : bit u i ≡ 1) (lacks : bit u j ≡ 0) where
  out_lacks : bit (u - 2 ^ i) j ≡ 0
  out_lacks = bit_off u i j there (λ e. n (sym e)) ∙ lacks

  pub instead_low : u - 2 ^ i + 2 ^ j < 8
  instead_low = below_eight (u - 2 ^ i) j (omega arith) lj out_lacks

  pub both_low : u + 2 ^ j < 8
  both_low = below_eight u j a lj lacks

  -- of a third variable they have what it has
  instead_third : (k : ℕ) → (k ≡ i → ⊥) → (k ≡ j → ⊥) → bit (u - 2 ^ i + 2 ^ j) k ≡ bit u k
  instead_third k ni nj = bit_put (u - 2 ^ i) j k out_lacks nj ∙ bit_off u i k there ni

  both_third : (k : ℕ) → (k ≡ j → ⊥) → bit (u + 2 ^ j) k ≡ bit u k
  both_third k nj = bit_put u j k lacks nj

-- what is joined, by what it holds of the two variables
joining_cases : (P : ℤ → Type 0) (i j : ℕ) (row : ℕ → ℤ) (u : ℕ)
    → (bit u j ≡ 1 → P (pos 0)) → (bit u j ≡ 0 → bit u i ≡ 1 → P (row u +ℤ row (u - 2 ^ i + 2 ^ j) +ℤ row (u + 2 ^ j))) → (bit u j ≡ 0 → bit u i ≡ 0 → P (row u))
    → P (joining i j row u)
unfolding joining
joining_cases P i j row u gone both neither = ⊎_elim
    (λ (e : bit u j ≡ 0). ⊎_elim (λ (q : bit u i ≡ 0). rw (e, q) (neither e q)) (λ (q : bit u i ≡ 1). rw (e, q) (both e q)) (bit_cases u i))
    (λ (e : bit u j ≡ 1). rw e (gone e))
    (bit_cases u j)

-- nothing puts in j any more
pub joining_free : (i j : ℕ) (row : ℕ → ℤ) → Free j (joining i j row)
unfolding joining
joining_free i j row u a b = rw b

-- a third variable that is not put in stays out
pub joining_third : (i j k : ℕ) (row : ℕ → ℤ) → i < 3 → j < 3 → (i ≡ j → ⊥) → (k ≡ i → ⊥) → (k ≡ j → ⊥) → Free k row → Free k (joining i j row)
joining_third i j k row li lj n ni nj f u a b =
    joining_cases (λ z. z ≡ pos 0) i j row u (λ e. refl)
    (λ e q. rw (f u a b, f (u - 2 ^ i + 2 ^ j) (instead_low i j u li lj n a q e) (instead_third i j u li lj n a q e k ni nj ∙ b), f (u + 2 ^ j) (both_low i j u li lj n a q e) (both_third i j u li lj n a q e k nj ∙ b)))
    (λ e q. f u a b)

-- three coefficients lie at most three times as far from 0; they stand from u on
pub joining_near : (i j b u : ℕ) (row : ℕ → ℤ) → i < j → j < 3 → u < 8 → Near b u row → (above (joining i j row u) ≤ 3 * b) × (below (joining i j row u) ≤ 3 * b)
unfolding above below
joining_near i j b u row l h a f =
    let other : i ≡ j → ⊥ = λ e. omega arith in
    joining_cases (λ z. (above z ≤ 3 * b) × (below z ≤ 3 * b)) i j row u (λ e. (omega arith, omega arith))
    (λ e q.
    let wide : 2 ^ i ≤ 2 ^ j = pow_mono {i = i} {j = j} (omega arith) in
    let in_u : 2 ^ i ≤ u = (bit_out u i q).0 in
    let w = whole_within (row u +ℤ row (u - 2 ^ i + 2 ^ j)) (row (u + 2 ^ j)) (b + b) b
    (whole_within (row u) (row (u - 2 ^ i + 2 ^ j)) b b (f u (omega arith) a) (f (u - 2 ^ i + 2 ^ j) (omega arith) (instead_low i j u (omega arith) h other a q e)))
    (f (u + 2 ^ j) (omega arith) (both_low i j u (omega arith) h other a q e)) in
    (omega (arith, w.0), omega (arith, w.1)))
    (λ e q. let w = f u (omega arith) a in (omega (arith, w.0), omega (arith, w.1)))

pub joining_within : (i j b : ℕ) (row : ℕ → ℤ) → i < j → j < 3 → Within b row → Within (3 * b) (joining i j row)
joining_within i j b row l h f u a = joining_near i j b u row l h a (λ v n k. f v k)

-- no term times a variable
chosen_none : (d v : ℕ) → times_chosen d v [] ≡ []
unfolding times_chosen
chosen_none zero v = refl
chosen_none (suc d) v = refl

-- every term times constant false
chosen_false : (d : ℕ) (p : Polynomial) → d ≡ 1 → times_chosen d 0 p ≡ []
unfolding times_chosen
chosen_false zero p e = absurd (omega arith)
chosen_false (suc d) [] e = refl
chosen_false (suc d) (t ∷ p) e = refl

-- a coefficient of 0 makes nothing, nor does one that puts constant false in
module _ (m : ℕ) (t : Term) (u x y z : ℕ) where
  zero_makes : times_whole m (pos 0) u x y z t ≡ []
  unfolding times_whole above below
  zero_makes = refl

  -- nothing, or what the variables make of it
  whole_nothing : (c : ℤ) → ((q : Term) → times_subset u x y z q ≡ []) → times_whole m c u x y z t ≡ []
  unfolding times_whole
  whole_nothing c f = go (eqb (above c + below c) 0)
    where
      go : (b : Bool) → cond b [] (times_subset u x y z (scaled m c t.0, t.1)) ≡ []
      go true = refl
      go false = f _

-- the coefficients that put in variable k are left out where it is constant false
left_out : (m k v : ℕ) (row : ℕ → ℤ) (x y z : ℕ) (t : Term) → (v ≡ 0 → (u : ℕ) → bit u k ≡ 1 → (q : Term) → times_subset u x y z q ≡ [])
    → (u : ℕ) → times_whole m (row u) u x y z t ≡ times_whole m (leaving v k row u) u x y z t
unfolding leaving
left_out m k zero row x y z t f u = ⊎_elim
    (λ (e : bit u k ≡ 0). rw e)
    (λ (e : bit u k ≡ 1). rw e (whole_nothing m t u x y z (row u) (f refl u e) ∙ sym (zero_makes m t u x y z)))
    (bit_cases u k)
left_out m k (suc v) row x y z t f u = refl

-- equal lists, one behind the other
joined_same : (n : ℕ) (p q : ℕ → Polynomial) → ((i : ℕ) → i < n → p i ≡ q i) → joined n p ≡ joined n q
unfolding joined
joined_same zero p q h = refl
joined_same (suc n) p q h = rw (joined_same n p q (λ i l. h i (omega arith)), h n (omega arith))

-- what eight coefficients make of a term is what each makes of it
pub same_row : (m : ℕ) (row other : ℕ → ℤ) (x y z : ℕ) (t : Term) → ((u : ℕ) → u < 8 → times_whole m (row u) u x y z t ≡ times_whole m (other u) u x y z t)
    → times_row m row x y z t ≡ times_row m other x y z t
unfolding times_row
same_row m row other x y z t f = joined_same 8 (λ u. times_whole m (row u) u x y z t) (λ u. times_whole m (other u) u x y z t) f

-- constant false as the first, the second or the third variable
module _ (m : ℕ) (row : ℕ → ℤ) (x y z : ℕ) (t : Term) where
  pub leave_x : times_row m row x y z t ≡ times_row m (leaving x 0 row) x y z t
  unfolding times_subset
  leave_x = same_row m row (leaving x 0 row) x y z t (λ u l. left_out m 0 x row x y z t (λ e u b q. rw e (chosen_false (bit u 0) _ b)) u)

  pub leave_y : times_row m row x y z t ≡ times_row m (leaving y 1 row) x y z t
  unfolding times_subset
  leave_y = same_row m row (leaving y 1 row) x y z t (λ u l. left_out m 1 y row x y z t (λ e u b q. rw (e, chosen_false (bit u 1) _ b) (chosen_none (bit u 0) x)) u)

  pub leave_z : times_row m row x y z t ≡ times_row m (leaving z 2 row) x y z t
  unfolding times_subset
  leave_z = same_row m row (leaving z 2 row) x y z t (λ u l. left_out m 2 z row x y z t (λ e u b q. rw (e, chosen_false (bit u 2) _ b, chosen_none (bit u 1) y) (chosen_none (bit u 0) x)) u)

-- what was left out is out, what was out stays out, and nothing lies further from 0
pub leaving_free : (k : ℕ) (row : ℕ → ℤ) (v : ℕ) → v ≡ 0 → Free k (leaving v k row)
unfolding leaving
leaving_free k row v e u a b = rw (e, b)

pub leaving_keeps : (i k v : ℕ) (row : ℕ → ℤ) → Free i row → Free i (leaving v k row)
unfolding leaving
leaving_keeps i k zero row f u a b = ⊎_elim (λ (e : bit u k ≡ 0). rw e (f u a b)) (λ (e : bit u k ≡ 1). rw e) (bit_cases u k)
leaving_keeps i k (suc v) row f u a b = f u a b

pub leaving_within : (k v b : ℕ) (row : ℕ → ℤ) → Within b row → Within b (leaving v k row)
unfolding leaving above below
leaving_within k zero b row f u a = ⊎_elim (λ (e : bit u k ≡ 0). rw e (f u a)) (λ (e : bit u k ≡ 1). rw e (omega arith, omega arith)) (bit_cases u k)
leaving_within k (suc v) b row f u a = f u a

-- the same coefficients, left out alike
pub leaving_same : (v k : ℕ) (row old : ℕ → ℤ) → ((u : ℕ) → u < 8 → row u ≡ old u) → (u : ℕ) → u < 8 → leaving v k row u ≡ leaving v k old u
unfolding leaving
leaving_same zero k row old e u a = rw (e u a)
leaving_same (suc v) k row old e u a = e u a
