-- Laws of the multipliers: how far they lie from 0, and each from those of a row that knows one variable less.
use mathlib.Core.Path.{◌≡◌, refl, ap, ◌∙◌}
use mathlib.Core.Bool.{cond}
use mathlib.Core.List.{List, ◌++◌}
use mathlib.Core.Logic.{◌⊎◌, inl, inr, ⊎_elim}
use Prim.Native.Nat.{ℕ, zero, suc, ◌+◌, ◌-◌, ◌*◌, ◌/◌, ◌%◌, ◌^◌, ◌<◌, ◌≤◌}
use native.Mathlib.Nat.{eq-or-lt_of_le}
use native.Mathlib.Omega.{arith}
use lib.Arith.{digits_div, digits_mod}
use lib.Dec.{eqb}
use lib.IntN.{ℤ, pos, ◌+ℤ◌}
use lib.ListN.{length, get_or, set, get_or-append}
use lib.Pow.{pow_pos}
use lib.Seq.{get_or-set_same, get_or-set_other}
use mir.Syntax.{w16}
use mir.Val.{to_z, of_z}
use Rattle.rules.specs.Cells.{above, below}
use Rattle.rules.specs.Values.{bit}
use Rattle.rules.proofs.Bits.{bit_cases, bit_put}
use Rattle.gates.specs.Apart.{Within}
use Rattle.gates.specs.Rows.{row_of, holding, multiplier, Tabled, Lowest, Rows}
use Rattle.gates.proofs.Replacing.{bit_in, below_eight}
use Rattle.gates.proofs.Whole.{whole_within, read_back}

-- a sum at most doubles how far coefficients lie from 0
holding_within : (k r b : ℕ) (row : ℕ → ℤ) → k < 3 → Within b row → Within (b + b) (holding k r row)
unfolding holding above below
holding_within k zero b row l h u a = let g = h u a in (omega (arith, g.0), omega (arith, g.1))
holding_within k (suc r) b row l h u a = go (bit_cases u k)
  where
    go : (bit u k ≡ 0) ⊎ (bit u k ≡ 1)
        → (above (cond (eqb (bit u k) 1) (pos 0) (row u +ℤ row (u + 2 ^ k))) ≤ b + b) × (below (cond (eqb (bit u k) 1) (pos 0) (row u +ℤ row (u + 2 ^ k))) ≤ b + b)
    go (inl e) = rw e (whole_within (row u) (row (u + 2 ^ k)) b b (h u a) (h (u + 2 ^ k) (below_eight u k a l e)))
    go (inr e) = rw e (omega arith, omega arith)

-- so the multipliers lie near 0 as well
pub multiplier_within : (held : ℕ) (row : ℕ → ℤ) → Within 108 row → Within 864 (multiplier row held)
unfolding multiplier
multiplier_within held row h =
    holding_within 0 (bit held 0) 432 _ (omega arith) (holding_within 1 (bit held 1) 216 _ (omega arith) (holding_within 2 (bit held 2) 108 row (omega arith) h))

-- those of a table too
pub table_within : (row : ℕ → ℤ) (table : List ℤ) (n : ℕ) → Within 108 row → Tabled row n table
    → (j : ℕ) → j < n → (above (get_or table j (pos 0)) ≤ 864) × (below (get_or table j (pos 0)) ≤ 864)
table_within row table n h f j l = rw (f j l) (multiplier_within (j / 8) row h (j % 8) (omega arith))

-- a term that holds nothing: the coefficients themselves
pub multiplier_none : (row : ℕ → ℤ) (u : ℕ) → multiplier row 0 u ≡ row u
unfolding multiplier holding bit
multiplier_none row u = refl

-- so a row of its own begins the table
pub first_row : (row behind : List ℤ) → length row ≡ 8 → Tabled (row_of row) 8 (row ++ behind)
unfolding row_of
first_row row behind e i l =
    let none : i / 8 ≡ 0 = omega arith in
    let own : i % 8 ≡ i = omega arith in
    get_or-append row behind (pos 0) i (omega arith) ∙ rw (none, own, multiplier_none (row_of row) i)

-- one variable more, the lowest that is held
next : (k held : ℕ) (row : ℕ → ℤ) (u : ℕ) → k < 3 → bit held k ≡ 0 → ((j : ℕ) → j < k → bit held j ≡ 0)
    → multiplier row (held + 2 ^ k) u ≡ holding k 1 (multiplier row held) u
unfolding multiplier holding
next zero held row u l e f = rw (bit_in held 0 e, bit_put held 0 1 e (λ n. omega arith), bit_put held 0 2 e (λ n. omega arith), e)
next (suc zero) held row u l e f = rw (bit_in held 1 e, bit_put held 1 0 e (λ n. omega arith), bit_put held 1 2 e (λ n. omega arith), e, f 0 (omega arith))
next (suc (suc zero)) held row u l e f = rw (bit_in held 2 e, bit_put held 2 0 e (λ n. omega arith), bit_put held 2 1 e (λ n. omega arith), e, f 0 (omega arith), f 1 (omega arith))
next (suc (suc (suc k))) held row u l e f = absurd (omega arith)

-- a multiplier from the two that it is made of, in the row of the term without variable k, which stands further in front
pub place : (row : ℕ → ℤ) (table : List ℤ) (i k held at there : ℕ) → Tabled row i table → k < 3 → bit held k ≡ 0 → ((j : ℕ) → j < k → bit held j ≡ 0)
    → i / 8 ≡ held + 2 ^ k → at ≡ held * 8 + i % 8 → there ≡ bit (i % 8) k → at + 2 ^ k < i
    → cond (eqb there 1) (pos 0) (get_or table at (pos 0) +ℤ get_or table (at + 2 ^ k) (pos 0)) ≡ multiplier row (i / 8) (i % 8)
unfolding holding
place row table i k held at there f l e lower up back chosen front = go (bit_cases (i % 8) k)
  where
    split : (n r u : ℕ) → u < 8 → n ≡ r * 8 + u → (n / 8 ≡ r) × (n % 8 ≡ u)
    split n r u h q = (rw q (digits_div r h), rw q (digits_mod r h))

    made : multiplier row (i / 8) (i % 8) ≡ holding k 1 (multiplier row held) (i % 8)
    made = ap (λ (n : ℕ). multiplier row n (i % 8)) up ∙ next k held row (i % 8) l e lower

    go : (bit (i % 8) k ≡ 0) ⊎ (bit (i % 8) k ≡ 1) → cond (eqb there 1) (pos 0) (get_or table at (pos 0) +ℤ get_or table (at + 2 ^ k) (pos 0)) ≡ multiplier row (i / 8) (i % 8)
    go (inl q) =
        let low : i % 8 + 2 ^ k < 8 = below_eight (i % 8) k (omega arith) l q in
        let own = split at held (i % 8) (omega arith) back in
        let on = split (at + 2 ^ k) held (i % 8 + 2 ^ k) low (omega arith) in
        rw (made, chosen, q, f at (omega arith), f (at + 2 ^ k) front, own.0, own.1, on.0, on.1)
    go (inr q) = rw (made, chosen, q)

-- one more place of the table
pub table_more : (row : ℕ → ℤ) (table : List ℤ) (i : ℕ) (z : ℤ) → i < length table → z ≡ multiplier row (i / 8) (i % 8) → Tabled row i table → Tabled row (i + 1) (set table i z)
table_more row table i z l e f j d = ⊎_elim
    (λ (q : j ≡ i). rw (q, get_or-set_same table i z (pos 0) l) e)
    (λ (q : j < i). rw (get_or-set_other table i j z (pos 0) (λ n. omega arith)) (f j q))
    (eq-or-lt_of_le {n = j} {m = i} (omega arith))

-- a multiplier lies near 0, so it can be written in 16 bits and read back
pub multiplier_back : (row : ℕ → ℤ) (held u : ℕ) (r : ℤ) → u < 8 → Within 108 row → r ≡ multiplier row held u → to_z w16 (of_z w16 r) ≡ multiplier row held u
multiplier_back row held u r l h e =
    let near = multiplier_within held row h u l in
    rw e (read_back (multiplier row held u) (omega (arith, near.0), omega (arith, near.1)))

-- the place of the first of the two that a multiplier is made of
module _ (start k u : ℕ) (l : Lowest start k) (a : u < 8) where
  pub step_back : 8 * 2 ^ k ≤ start + u
  step_back = let p = pow_pos k in omega (arith, l.is_start)

  here : (start + u) % 8 ≡ u
  here = rw l.is_start (start_mod (l.others + 2 ^ k))
    where
      start_mod : (n : ℕ) → (8 * n + u) % 8 ≡ u
      start_mod n = omega arith

  -- it lies in the row in front, at the same subset
  row_back : start + u - 8 * 2 ^ k ≡ l.others * 8 + (start + u) % 8
  row_back = omega (arith, l.is_start, here)

  row_is : (start + u) / 8 ≡ l.others + 2 ^ k
  row_is = rw l.is_start (start_div (l.others + 2 ^ k))
    where
      start_div : (n : ℕ) → (8 * n + u) / 8 ≡ n
      start_div n = omega arith

  -- the multiplier is made of the two
  pub next_held : (row : ℕ → ℤ) (table : List ℤ) → Tabled row (start + u) table
      → cond (eqb (bit u k) 1) (pos 0) (get_or table (start + u - 8 * 2 ^ k) (pos 0) +ℤ get_or table (start + u - 8 * 2 ^ k + 2 ^ k) (pos 0)) ≡ multiplier row ((start + u) / 8) ((start + u) % 8)
  next_held row table f =
      let wide : start + u - 8 * 2 ^ k + 2 ^ k < start + u = let p = pow_pos k in omega (arith, l.is_start) in
      place row table (start + u) k l.others (start + u - 8 * 2 ^ k) (bit u k) f l.low l.lacks l.none row_is row_back (rw here) wide

-- the rows behind the first, and what each is the lowest of
pub lowest_first : (n : ℕ) → n < 8 → n % 2 ≡ 1 → Lowest (8 * n) 0
unfolding bit
lowest_first n h e = record {
  others = n - 1;
  low = omega arith;
  is_start = omega arith;
  last = omega arith;
  lacks = omega arith;
  none = λ j l. absurd (omega arith);
}

pub lowest_second : (n : ℕ) → n < 8 → n % 4 ≡ 2 → Lowest (8 * n) 1
unfolding bit
lowest_second n h e = record {
  others = n - 2;
  low = omega arith;
  is_start = omega arith;
  last = omega arith;
  lacks = omega arith;
  none = λ j l. first j l;
}
  where
    first : (j : ℕ) → j < 1 → (n - 2) / 2 ^ j % 2 ≡ 0
    first zero l = omega arith
    first (suc j) l = absurd (omega arith)

pub lowest_third : Lowest 32 2
unfolding bit
lowest_third = record {
  others = 0;
  low = omega arith;
  is_start = refl;
  last = omega arith;
  lacks = refl;
  none = λ j l. first j l;
}
  where
    first : (j : ℕ) → j < 2 → 0 / 2 ^ j % 2 ≡ 0
    first zero l = refl
    first (suc zero) l = refl
    first (suc (suc j)) l = absurd (omega arith)

pub rows_long : (n : ℕ) → Rows n → 32 ≤ n
rows_long n (inl e) = omega arith
rows_long n (inr e) = omega arith
