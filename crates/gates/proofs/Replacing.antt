-- What a step makes of a term, stream by stream: the streams of a gate hold of every term what replacing makes of it.
use mathlib.Core.Path.{◌≡◌, refl, ap, sym, ◌∙◌}
use mathlib.Core.Bool.{Bool, true, false, cond}
use mathlib.Core.List.{[], ◌∷◌}
use mathlib.Core.Logic.{◌⊎◌, inl, inr, ⊎_elim}
use Prim.Native.Nat.{ℕ, zero, suc, ◌+◌, ◌-◌, ◌*◌, ◌%◌, ◌^◌, ◌<◌, ◌≤◌}
use native.Mathlib.Nat.{add-zero, zero-mul, one-mul}
use native.Mathlib.Omega.{arith}
use lib.Bits.{bit_xor}
use lib.Dec.{eqb}
use lib.IntN.{ℤ, pos, ◌+ℤ◌, +ℤ_idr}
use borrow.Author.Tests.{eqb-true, eqb-false}
use Rattle.rules.specs.Cells.{scaled}
use Rattle.rules.specs.Each.{sum}
use Rattle.rules.specs.Values.{bit}
use Rattle.rules.specs.Polynomial.{Polynomial, Coefficients, hit, coefficient_at, with_variable}
use Rattle.rules.specs.Steps.{where_held, replaced}
use Rattle.rules.specs.declared.records.Record.{Record}
use Rattle.rules.proofs.Bits.{bit_digit, bit_cases, bit_put}
use Rattle.rules.proofs.Indices.{sum_same}
use Rattle.rules.proofs.Remainders.{same_add}
use Rattle.gates.specs.Apart.{Free, Apart}
use Rattle.gates.specs.Masks.{turned_by, mask_of}
use Rattle.gates.specs.Rows.{times_row, holding, multiplier}
use Rattle.gates.specs.declared.apart.Variables.{Variables}
use Rattle.gates.proofs.Flipped.{flip_off, flip_on, flip_same, flip_other, xor_assoc}
use Rattle.gates.proofs.Spread.{put_by, filled, share, share_none, share_add, row_shares}

-- a variable that is there is not put in again
pub with_in : (s x : ℕ) → bit s x ≡ 1 → with_variable s x ≡ s
unfolding with_variable
with_in s x e = rw (e, zero-mul, add-zero)

-- a variable that is not there is turned
with_out : (s x : ℕ) → bit s x ≡ 0 → with_variable s x ≡ bit_xor s (2 ^ x)
unfolding with_variable
with_out s x e = rw (flip_on s x e, e, one-mul)

-- four sums that agree modulo m
four_agree : (m a b c d e f g h : ℕ) → a % m ≡ e % m → b % m ≡ f % m → c % m ≡ g % m → d % m ≡ h % m
    → (a + b + c + d) % m ≡ (e + f + g + h) % m
four_agree m a b c d e f g h p q r s = same_add m (a + b + c) (e + f + g) d h (same_add m (a + b) (e + f) c g (same_add m a e b f p q) r) s

-- two sums over the subsets agree modulo m where they agree on each pair that differs in variable k alone
pub by_pairs : (m k : ℕ) (f g : ℕ → ℕ) → k < 3
    → ((u : ℕ) → u + 2 ^ k < 8 → bit u k ≡ 0 → (f u + f (u + 2 ^ k)) % m ≡ (g u + g (u + 2 ^ k)) % m)
    → sum 8 f % m ≡ sum 8 g % m
unfolding sum bit
by_pairs m zero f g l h =
    let e : (r : ℕ → ℕ) → 0 + r 0 + r 1 + r 2 + r 3 + r 4 + r 5 + r 6 + r 7 ≡ (r 0 + r 1) + (r 2 + r 3) + (r 4 + r 5) + (r 6 + r 7) = λ r. omega arith in
    rw (e f, e g) (four_agree m (f 0 + f 1) (f 2 + f 3) (f 4 + f 5) (f 6 + f 7) (g 0 + g 1) (g 2 + g 3) (g 4 + g 5) (g 6 + g 7) (h 0 (omega arith) refl) (h 2 (omega arith) refl) (h 4 (omega arith) refl) (h 6 (omega arith) refl))
by_pairs m (suc zero) f g l h =
    let e : (r : ℕ → ℕ) → 0 + r 0 + r 1 + r 2 + r 3 + r 4 + r 5 + r 6 + r 7 ≡ (r 0 + r 2) + (r 1 + r 3) + (r 4 + r 6) + (r 5 + r 7) = λ r. omega arith in
    rw (e f, e g) (four_agree m (f 0 + f 2) (f 1 + f 3) (f 4 + f 6) (f 5 + f 7) (g 0 + g 2) (g 1 + g 3) (g 4 + g 6) (g 5 + g 7) (h 0 (omega arith) refl) (h 1 (omega arith) refl) (h 4 (omega arith) refl) (h 5 (omega arith) refl))
by_pairs m (suc (suc zero)) f g l h =
    let e : (r : ℕ → ℕ) → 0 + r 0 + r 1 + r 2 + r 3 + r 4 + r 5 + r 6 + r 7 ≡ (r 0 + r 4) + (r 1 + r 5) + (r 2 + r 6) + (r 3 + r 7) = λ r. omega arith in
    rw (e f, e g) (four_agree m (f 0 + f 4) (f 1 + f 5) (f 2 + f 6) (f 3 + f 7) (g 0 + g 4) (g 1 + g 5) (g 2 + g 6) (g 3 + g 7) (h 0 (omega arith) refl) (h 1 (omega arith) refl) (h 2 (omega arith) refl) (h 3 (omega arith) refl))
by_pairs m (suc (suc (suc k))) f g l h = absurd (omega arith)

-- variable k put into a subset that lacks it
pub bit_in : (u k : ℕ) → bit u k ≡ 0 → bit (u + 2 ^ k) k ≡ 1
bit_in u k e = rw (flip_on u k e) at (flip_same u k e)

module _ (m c t : ℕ) (h : c ≤ m) where
  -- one variable w of a set s: held (r) or not, or with a coefficient of 0 where it is put in; `outer` puts the others in
  pair : (outer : ℕ → ℕ) (s w r k u : ℕ) (row : ℕ → ℤ) → bit u k ≡ 0 → r < 2 → (bit s w ≡ r) ⊎ (row (u + 2 ^ k) ≡ pos 0)
      → (share m c t (outer s) (row u) + share m c t (outer (with_variable s w)) (row (u + 2 ^ k))) % m
      ≡ (share m c t (outer s) (holding k r row u) + share m c t (outer (bit_xor s (2 ^ w))) (holding k r row (u + 2 ^ k))) % m
  unfolding holding
  pair outer s w zero k u row e l (inl q) = rw (with_out s w q)
  pair outer s w zero k u row e l (inr q) = rw (share_none m c t (outer (with_variable s w)) (row (u + 2 ^ k)) q, share_none m c t (outer (bit_xor s (2 ^ w))) (row (u + 2 ^ k)) q)
  pair outer s w (suc zero) k u row e l (inl q) =
      rw (with_in s w q, e, bit_in u k e, share_none m c t (outer (bit_xor s (2 ^ w))) (pos 0) refl, add-zero) (share_add m c t (outer s) (row u) (row (u + 2 ^ k)) h)
  pair outer s w (suc zero) k u row e l (inr q) =
      rw (e, bit_in u k e, share_none m c t (outer (bit_xor s (2 ^ w))) (pos 0) refl, share_none m c t (outer (with_variable s w)) (row (u + 2 ^ k)) q, q, +ℤ_idr (row u))
  pair outer s w (suc (suc r)) k u row e l q = absurd (omega arith)

  -- two ways to put variable w into the sets of the subsets: where it is not there already, or by turning it
  record Turning (k w r : ℕ) (row : ℕ → ℤ) (put turned : ℕ → ℕ) (u : ℕ) : Type 0 where
    outer : ℕ → ℕ
    inner : ℕ
    put_out : put u ≡ outer inner
    put_in : put (u + 2 ^ k) ≡ outer (with_variable inner w)
    turned_out : turned u ≡ outer inner
    turned_in : turned (u + 2 ^ k) ≡ outer (bit_xor inner (2 ^ w))
    known : (bit inner w ≡ r) ⊎ (row (u + 2 ^ k) ≡ pos 0)

  -- where w is held (r) or not, both make the same
  stage : (k w r : ℕ) (row : ℕ → ℤ) (put turned : ℕ → ℕ) → k < 3 → r < 2
      → ((u : ℕ) → u + 2 ^ k < 8 → bit u k ≡ 0 → Turning k w r row put turned u)
      → sum 8 (λ u. share m c t (put u) (row u)) % m ≡ sum 8 (λ u. share m c t (turned u) (holding k r row u)) % m
  stage k w r row put turned l d f =
      by_pairs m k (λ u. share m c t (put u) (row u)) (λ u. share m c t (turned u) (holding k r row u)) l
      (λ u a e. let p = f u a e in rw (p.put_out, p.put_in, p.turned_out, p.turned_in) (pair p.outer p.inner w r k u row e d p.known))

-- variables of which none stands twice, or 0, with no coefficient where there is none
pub record Distinct (q : Variables) (row : ℕ → ℤ) : Type 0 where
  pub x_y : q.x ≡ q.y → q.y ≡ 0
  pub x_z : q.x ≡ q.z → q.z ≡ 0
  pub y_z : q.y ≡ q.z → q.z ≡ 0
  pub no_x : q.x ≡ 0 → Free 0 row
  pub no_y : q.y ≡ 0 → Free 1 row
  pub no_z : q.z ≡ 0 → Free 2 row

-- a subset with a variable more is a subset
pub below_eight : (u i : ℕ) → u < 8 → i < 3 → bit u i ≡ 0 → u + 2 ^ i < 8
unfolding bit
below_eight u zero a l e = omega arith
below_eight u (suc zero) a l e = omega arith
below_eight u (suc (suc zero)) a l e = omega arith
below_eight u (suc (suc (suc i))) a l e = absurd (omega arith)

-- a coefficient that is 0 wherever variable k is put in stays so for a term that holds another variable
free_holding : (k i r : ℕ) (row : ℕ → ℤ) → (k ≡ i → ⊥) → i < 3 → Free k row → Free k (holding i r row)
unfolding holding
free_holding k i zero row n l f u a b = f u a b
free_holding k i (suc r) row n l f u a b = go (bit_cases u i)
  where
    go : (bit u i ≡ 0) ⊎ (bit u i ≡ 1) → cond (eqb (bit u i) 1) (pos 0) (row u +ℤ row (u + 2 ^ i)) ≡ pos 0
    go (inl e) =
        let other : bit (u + 2 ^ i) k ≡ 1 = bit_put u i k e n ∙ b in
        let low : u + 2 ^ i < 8 = below_eight u i a l e in
        rw (e, f u a b, f (u + 2 ^ i) low other)
    go (inr e) = rw e

-- nor is it put in by a term that holds that variable
free_held : (k r : ℕ) (row : ℕ → ℤ) → Free k row → Free k (holding k r row)
unfolding holding
free_held k zero row f u a b = f u a b
free_held k (suc r) row f u a b = rw b

-- a variable w stays as it was where another is turned, or the coefficient is 0
turned_or : (d s v w : ℕ) (z : ℤ) → d < 2 → (w ≡ v → d ≡ 1 → z ≡ pos 0) → (bit (turned_by d s v) w ≡ bit s w) ⊎ (z ≡ pos 0)
unfolding turned_by
turned_or zero s v w z l f = inl refl
turned_or (suc zero) s v w z l f = go (eqb w v) refl
  where
    go : (b : Bool) → eqb w v ≡ b → (bit (bit_xor s (2 ^ v)) w ≡ bit s w) ⊎ (z ≡ pos 0)
    go true e = inr (f (eqb-true w v e) refl)
    go false e = inl (flip_other s v w (eqb-false w v e))
turned_or (suc (suc d)) s v w z l f = absurd (omega arith)

-- the set that stream j has of a set whose v is out
unfoldable pub turned_all : Variables → ℕ → ℕ → ℕ
turned_all q s j = turned_by (bit j 0) (turned_by (bit j 1) (turned_by (bit j 2) s q.z) q.y) q.x

-- a term (c, s) whose v is out, which holds the variables of the subset `held`; where there is no z, `held` may say what it likes of it
module _ (m c t : ℕ) (h : c ≤ m) (q : Variables) (row : ℕ → ℤ) (d : Distinct q row) (s held : ℕ)
    (hx : bit held 0 ≡ bit s q.x) (hy : bit held 1 ≡ bit s q.y) (hz : (bit held 2 ≡ bit s q.z) ⊎ (q.z ≡ 0)) where
  -- the coefficients once it is known whether z is held, and then y
  z_known : ℕ → ℤ
  z_known = holding 2 (bit held 2) row

  y_known : ℕ → ℤ
  y_known = holding 1 (bit held 1) z_known

  -- the sets where z is turned, and then y
  z_turned : ℕ → ℕ
  z_turned u = put_by (bit u 0) (put_by (bit u 1) (turned_by (bit u 2) s q.z) q.y) q.x

  y_turned : ℕ → ℕ
  y_turned u = put_by (bit u 0) (turned_by (bit u 1) (turned_by (bit u 2) s q.z) q.y) q.x

  -- no coefficient puts a variable in that is not there, however much is known
  z_free_z : q.z ≡ 0 → Free 2 z_known
  unfolding z_known
  z_free_z e = free_held 2 (bit held 2) row (d.no_z e)

  y_free_y : q.y ≡ 0 → Free 1 y_known
  unfolding z_known y_known
  y_free_y e = free_held 1 (bit held 1) (holding 2 (bit held 2) row) (free_holding 1 2 (bit held 2) row (λ a. omega arith) (omega arith) (d.no_y e))

  y_free_z : q.z ≡ 0 → Free 2 y_known
  unfolding z_known y_known
  y_free_z e = free_holding 2 1 (bit held 1) (holding 2 (bit held 2) row) (λ a. omega arith) (omega arith) (free_held 2 (bit held 2) row (d.no_z e))

  y_free_x : q.x ≡ 0 → Free 0 y_known
  unfolding z_known y_known
  y_free_x e = free_holding 0 1 (bit held 1) (holding 2 (bit held 2) row) (λ a. omega arith) (omega arith) (free_holding 0 2 (bit held 2) row (λ a. omega arith) (omega arith) (d.no_x e))

  -- z first
  z_stage : sum 8 (λ u. share m c t (filled q.x q.y q.z s u) (row u)) % m ≡ sum 8 (λ u. share m c t (z_turned u) (z_known u)) % m
  unfolding filled z_turned z_known put_by turned_by
  z_stage = stage m c t h 2 q.z (bit held 2) row (filled q.x q.y q.z s) z_turned (omega arith) (bit_digit held 2)
      (λ u a e. record {
        outer = λ i. put_by (bit u 0) (put_by (bit u 1) i q.y) q.x;
        inner = s;
        put_out = rw e;
        put_in = rw (bit_in u 2 e, bit_put u 2 1 e (λ n. omega arith), bit_put u 2 0 e (λ n. omega arith));
        turned_out = rw e;
        turned_in = rw (bit_in u 2 e, bit_put u 2 1 e (λ n. omega arith), bit_put u 2 0 e (λ n. omega arith));
        known = ⊎_elim (λ (k : bit held 2 ≡ bit s q.z). inl (sym k)) (λ (k : q.z ≡ 0). inr (d.no_z k (u + 2 ^ 2) a (bit_in u 2 e))) hz;
      })

  -- then y
  y_stage : sum 8 (λ u. share m c t (z_turned u) (z_known u)) % m ≡ sum 8 (λ u. share m c t (y_turned u) (y_known u)) % m
  unfolding z_turned y_turned y_known put_by turned_by
  y_stage = stage m c t h 1 q.y (bit held 1) z_known z_turned y_turned (omega arith) (bit_digit held 1)
      (λ u a e.
      let high : bit (u + 2 ^ 1) 2 ≡ bit u 2 = bit_put u 1 2 e (λ n. omega arith) in
      let low : bit (u + 2 ^ 1) 0 ≡ bit u 0 = bit_put u 1 0 e (λ n. omega arith) in
      record {
        outer = λ i. put_by (bit u 0) i q.x;
        inner = turned_by (bit u 2) s q.z;
        put_out = rw e;
        put_in = rw (bit_in u 1 e, high, low);
        turned_out = rw e;
        turned_in = rw (bit_in u 1 e, high, low);
        known = ⊎_elim
            (λ (k : bit (turned_by (bit u 2) s q.z) q.y ≡ bit s q.y). inl (k ∙ sym hy))
            inr
            (turned_or (bit u 2) s q.z q.y (z_known (u + 2 ^ 1)) (bit_digit u 2) (λ n k. z_free_z (d.y_z n) (u + 2 ^ 1) a (high ∙ k)));
      })

  -- and then x
  x_stage : sum 8 (λ u. share m c t (y_turned u) (y_known u)) % m ≡ sum 8 (λ u. share m c t (turned_all q s u) (multiplier row held u)) % m
  unfolding y_turned z_known y_known turned_all multiplier put_by turned_by
  x_stage = stage m c t h 0 q.x (bit held 0) y_known y_turned (turned_all q s) (omega arith) (bit_digit held 0)
      (λ u a e.
      let high : bit (u + 2 ^ 0) 2 ≡ bit u 2 = bit_put u 0 2 e (λ n. omega arith) in
      let low : bit (u + 2 ^ 0) 1 ≡ bit u 1 = bit_put u 0 1 e (λ n. omega arith) in
      let first = turned_or (bit u 2) s q.z q.x (y_known (u + 2 ^ 0)) (bit_digit u 2) (λ n k. y_free_z (d.x_z n) (u + 2 ^ 0) a (high ∙ k)) in
      let second = turned_or (bit u 1) (turned_by (bit u 2) s q.z) q.y q.x (y_known (u + 2 ^ 0)) (bit_digit u 1) (λ n k. y_free_y (d.x_y n) (u + 2 ^ 0) a (low ∙ k)) in
      record {
        outer = λ i. i;
        inner = turned_by (bit u 1) (turned_by (bit u 2) s q.z) q.y;
        put_out = rw e;
        put_in = rw (bit_in u 0 e, high, low);
        turned_out = rw e;
        turned_in = rw (bit_in u 0 e, high, low);
        known = ⊎_elim
            (λ (k : bit (turned_by (bit u 1) (turned_by (bit u 2) s q.z) q.y) q.x ≡ bit (turned_by (bit u 2) s q.z) q.x).
            ⊎_elim (λ (i : bit (turned_by (bit u 2) s q.z) q.x ≡ bit s q.x). inl (k ∙ i ∙ sym hx)) inr first)
            inr
            second;
      })

  -- the streams hold of it what the coefficients make of it
  pub all_turned : coefficient_at (times_row m row q.x q.y q.z (c, s)) t % m ≡ sum 8 (λ u. share m c t (turned_all q s u) (multiplier row held u)) % m
  all_turned = ap (λ (n : ℕ). n % m) (row_shares m c t row q.x q.y q.z s d.no_x d.no_y d.no_z) ∙ z_stage ∙ y_stage ∙ x_stage

-- turning a variable in a mask turns it in what is masked
turned_xor : (d s n w : ℕ) → bit_xor s (turned_by d n w) ≡ turned_by d (bit_xor s n) w
unfolding turned_by
turned_xor zero s n w = refl
turned_xor (suc d) s n w = sym (xor_assoc s n (2 ^ w))

-- a set under the mask of stream j
pub masked_set : (v : ℕ) (q : Variables) (s j : ℕ) → bit_xor s (mask_of v q j) ≡ turned_all q (bit_xor s (2 ^ v)) j
unfolding mask_of turned_all
masked_set v q s j =
    turned_xor (bit j 0) s _ q.x
    ∙ ap (λ (n : ℕ). turned_by (bit j 0) n q.x) (turned_xor (bit j 1) s _ q.y ∙ ap (λ (n : ℕ). turned_by (bit j 1) n q.y) (turned_xor (bit j 2) s (2 ^ v) q.z))

-- what is brought apart is distinct
pub distinct : (r : Record) (q : Variables) (row : ℕ → ℤ) → Apart r q row → Distinct q row
distinct r q row a = record { x_y = a.x_y; x_z = a.x_z; y_z = a.y_z; no_x = a.no_x; no_y = a.no_y; no_z = a.no_z }

-- a term (c, s) that holds v, the gate v of record r brought apart, and the coefficient at u
module _ (m v u c s held : ℕ) (r : Record) (q : Variables) (row : ℕ → ℤ) (h : c ≤ m) (a : Apart r q row) (e : bit s v ≡ 1)
    (nx : q.x ≡ v → ⊥) (ny : q.y ≡ v → ⊥) (nz : q.z ≡ v → ⊥)
    (hx : bit held 0 ≡ bit s q.x) (hy : bit held 1 ≡ bit s q.y) (hz : (bit held 2 ≡ bit s q.z) ⊎ (q.z ≡ 0)) where
  -- the streams hold of it what the step makes of it
  pub term_sum : sum 8 (λ j. hit u (bit_xor s (mask_of v q j)) (scaled m (multiplier row held j) c)) % m ≡ coefficient_at (replaced m v r (c, s)) u % m
  unfolding replaced where_held share
  term_sum =
      let out : s - 2 ^ v ≡ bit_xor s (2 ^ v) = omega (arith, flip_off s v e) in
      let turned = all_turned m c u h q row (distinct r q row a) (bit_xor s (2 ^ v)) held
      (hx ∙ sym (flip_other s v q.x nx)) (hy ∙ sym (flip_other s v q.y ny))
      (⊎_elim (λ (k : bit held 2 ≡ bit s q.z). inl (k ∙ sym (flip_other s v q.z nz))) inr hz) in
      rw (e, out) (ap (λ (n : ℕ). n % m) (sum_same 8 _ _ (λ j l. ap (λ (n : ℕ). hit u n (scaled m (multiplier row held j) c)) (masked_set v q s j))) ∙ sym turned ∙ sym (a.alike m u c (bit_xor s (2 ^ v)) h))

-- a coefficient that is 0 wherever variable k is put in stays so, whatever a term holds
free_any : (k i r : ℕ) (row : ℕ → ℤ) → i < 3 → Free k row → Free k (holding i r row)
free_any k i r row l f = go (eqb k i) refl
  where
    go : (b : Bool) → eqb k i ≡ b → Free k (holding i r row)
    go true e = rw (← eqb-true k i e) (free_held k r row f)
    go false e = free_holding k i r row (eqb-false k i e) l f

-- so it does for all three
pub free_multiplier : (k held : ℕ) (row : ℕ → ℤ) → Free k row → Free k (multiplier row held)
unfolding multiplier
free_multiplier k held row f =
    free_any k 0 (bit held 0) _ (omega arith) (free_any k 1 (bit held 1) _ (omega arith) (free_any k 2 (bit held 2) row (omega arith) f))

-- a term that holds variable k has it put in by no stream
free_own : (k r : ℕ) (row : ℕ → ℤ) → r ≡ 1 → Free k (holding k r row)
unfolding holding
free_own k r row e u a b = rw (e, b)

held_multiplier : (k held : ℕ) (row : ℕ → ℤ) → k < 3 → bit held k ≡ 1 → Free k (multiplier row held)
unfolding multiplier
held_multiplier zero held row l e = free_own 0 (bit held 0) _ e
held_multiplier (suc zero) held row l e = free_any 1 0 (bit held 0) _ (omega arith) (free_own 1 (bit held 1) _ e)
held_multiplier (suc (suc zero)) held row l e =
    free_any 2 0 (bit held 0) _ (omega arith) (free_any 2 1 (bit held 1) _ (omega arith) (free_own 2 (bit held 2) row e))
held_multiplier (suc (suc (suc k))) held row l e = absurd (omega arith)

-- a stream moves a set by what it puts in
unfoldable pub in_of : Variables → ℕ → ℕ
in_of q j = bit j 0 * 2 ^ q.x + bit j 1 * 2 ^ q.y + bit j 2 * 2 ^ q.z

-- a variable that is put in and is not there comes to the set
turned_moves : (d s w : ℕ) → d < 2 → (d ≡ 1 → bit s w ≡ 0) → turned_by d s w ≡ s + d * 2 ^ w
unfolding turned_by
turned_moves zero s w l f = rw (zero-mul, add-zero)
turned_moves (suc zero) s w l f = rw one-mul (flip_on s w (f refl))
turned_moves (suc (suc d)) s w l f = absurd (omega arith)

-- and the others are as they were
turned_keeps : (d s v w : ℕ) → d < 2 → (d ≡ 1 → w ≡ v → ⊥) → bit (turned_by d s v) w ≡ bit s w
unfolding turned_by
turned_keeps zero s v w l f = refl
turned_keeps (suc zero) s v w l f = flip_other s v w (f refl)
turned_keeps (suc (suc d)) s v w l f = absurd (omega arith)

module _ (v s held j : ℕ) (q : Variables) (row : ℕ → ℤ) (d : Distinct q row) (l : j < 8) (some : multiplier row held j ≡ pos 0 → ⊥) (e : bit s v ≡ 1)
    (nx : q.x ≡ v → ⊥) (ny : q.y ≡ v → ⊥) (nz : q.z ≡ v → ⊥)
    (hx : bit held 0 ≡ bit s q.x) (hy : bit held 1 ≡ bit s q.y) (hz : (bit held 2 ≡ bit s q.z) ⊎ (q.z ≡ 0)) where
  -- a variable that is put in is one, and is not held
  is_one : (k w : ℕ) → (w ≡ 0 → Free k row) → bit j k ≡ 1 → w ≡ 0 → ⊥
  is_one k w f b z = some (free_multiplier k held row (f z) j l b)

  not_held : (k : ℕ) → k < 3 → bit j k ≡ 1 → bit held k ≡ 0
  not_held k a b = ⊎_elim (λ (z : bit held k ≡ 0). z) (λ (z : bit held k ≡ 1). absurd (some (held_multiplier k held row a z j l b))) (bit_cases held k)

  -- a stream moves every set that it has by the same number
  pub shift : bit_xor s (mask_of v q j) + 2 ^ v ≡ s + in_of q j
  unfolding turned_all in_of
  shift =
      let base : ℕ = bit_xor s (2 ^ v) in
      let first : ℕ = turned_by (bit j 2) base q.z in
      let second : ℕ = turned_by (bit j 1) first q.y in
      let z_off : bit j 2 ≡ 1 → bit base q.z ≡ 0 = λ b. flip_other s v q.z nz ∙ ⊎_elim (λ (k : bit held 2 ≡ bit s q.z). sym k ∙ not_held 2 (omega arith) b) (λ (k : q.z ≡ 0). absurd (is_one 2 q.z d.no_z b k)) hz in
      let y_off : bit j 1 ≡ 1 → bit first q.y ≡ 0 = λ b. turned_keeps (bit j 2) base q.z q.y (bit_digit j 2) (λ k n. is_one 2 q.z d.no_z k (d.y_z n)) ∙ flip_other s v q.y ny ∙ sym hy ∙ not_held 1 (omega arith) b in
      let x_off : bit j 0 ≡ 1 → bit second q.x ≡ 0 = λ b. turned_keeps (bit j 1) first q.y q.x (bit_digit j 1) (λ k n. is_one 1 q.y d.no_y k (d.x_y n)) ∙ turned_keeps (bit j 2) base q.z q.x (bit_digit j 2) (λ k n. is_one 2 q.z d.no_z k (d.x_z n)) ∙ flip_other s v q.x nx ∙ sym hx ∙ not_held 0 (omega arith) b in
      let moved : turned_by (bit j 0) second q.x ≡ second + bit j 0 * 2 ^ q.x = turned_moves (bit j 0) second q.x (bit_digit j 0) x_off in
      let moved_first : second ≡ first + bit j 1 * 2 ^ q.y = turned_moves (bit j 1) first q.y (bit_digit j 1) y_off in
      let moved_base : first ≡ base + bit j 2 * 2 ^ q.z = turned_moves (bit j 2) base q.z (bit_digit j 2) z_off in
      let out : base + 2 ^ v ≡ s = flip_off s v e in
      rw (masked_set v q s j) (omega arith)

-- every coefficient is at most m
abbrev pub Small : ℕ → Polynomial → Type 0
Small m [] = Unit
Small m (t ∷ p) = (t.0 ≤ m) × Small m p

-- coefficients below m are at most m
pub small_of : (m : ℕ) (p : Polynomial) → Coefficients m p → Small m p
small_of m [] h = tt
small_of m (x ∷ p) h = (omega (arith, h.1), small_of m p h.2)
