-- A record brought apart, one step after the other.
use mathlib.Core.Path.{◌≡◌, refl, ap, sym, ◌∙◌}
use mathlib.Core.Bool.{Bool, true, false, cond, not, true≢false}
use mathlib.Core.List.{[], ◌∷◌, ◌++◌}
use Prim.Native.Nat.{ℕ, zero, suc, ◌-◌, ◌*◌, ◌%◌, ◌<◌, ◌≤◌}
use native.Mathlib.Omega.{arith}
use lib.Dec.{eqb}
use lib.IntN.{ℤ, pos, negsuc}
use lib.ListN.{get_or, drop, replicate}
use borrow.Author.Tests.{eq-eqb, eqb-true, eqb-false, not-true}
use Rattle.rules.specs.Cells.{above, below}
use Rattle.rules.specs.Each.{sum, joined}
use Rattle.rules.specs.Netlist.{variable, inverted, EveryVariable}
use Rattle.rules.specs.Polynomial.{Term, Polynomial, coefficient_at, times_variable, times_literal, times_chosen}
use Rattle.rules.specs.Steps.{times_subset, times_whole, times_record}
use Rattle.rules.specs.Values.{bit}
use Rattle.rules.specs.declared.records.Record.{Record}
use Rattle.rules.specs.declared.records.Record.TheVariants.{Gate, Cell}
use Rattle.rules.proofs.CellRule.{coefficient_small}
use Rattle.rules.proofs.Indices.{both}
use Rattle.gates.specs.Apart.{Alike, Free, Within, Apart, and_row, record_row, record_variables}
use Rattle.gates.specs.Rows.{row_of, Same, times_row, leaving, joining, one_variable, joined_row, joined_variable}
use Rattle.gates.specs.declared.apart.Variables.{Variables}
use Rattle.gates.proofs.Joined.{same_row, leave_x, leave_y, leave_z, leaving_free, leaving_keeps, leaving_within, joining_free, joining_third, joining_within, join_x_y, join_x_z, join_y_z}
use Rattle.gates.proofs.Spread.{filled, share, row_shares}
use Rattle.gates.proofs.Whole.{scaled_one, scaled_negated}
use Rattle.gates.proofs.Written.{within_same, four_row}

-- the literals 1 - x twice: what is taken from m twice is what it was
twice : (m c : ℕ) → c ≤ m → m - (m - c) ≡ c
twice m c h = omega arith

-- every term times a literal, by its variable and whether it is inverted
unfoldable pub by_literal : ℕ → ℕ → ℕ → Polynomial → Polynomial
by_literal m v n [] = []
by_literal m v n (t ∷ p) = times_variable m v n t ++ by_literal m v n p

pub literal_by : (m x : ℕ) (p : Polynomial) → times_literal m x p ≡ by_literal m (variable x) (inverted x) p
unfolding times_literal by_literal
literal_by m x [] = refl
literal_by m x (t ∷ p) = ap (λ (q : Polynomial). times_variable m (variable x) (inverted x) t ++ q) (literal_by m x p)

-- the product of two literals makes what its coefficients make
module _ (m u c s : ℕ) (h : c ≤ m) where
  product_same : (v n w k : ℕ)
      → coefficient_at (by_literal m v n (by_literal m w k ((c, s) ∷ []))) u ≡ coefficient_at (times_row m (row_of (and_row n k)) v w 0 (c, s)) u
  unfolding by_literal times_variable coefficient_at times_row joined times_whole times_subset times_chosen and_row row_of above below bit
  product_same zero zero zero zero = refl
  product_same zero zero zero (suc k) = refl
  product_same zero zero (suc w) zero = refl
  product_same zero zero (suc w) (suc k) = refl
  product_same zero (suc n) zero zero = refl
  product_same zero (suc n) zero (suc k) = rw (scaled_one m (pos 1) c refl)
  product_same zero (suc n) (suc w) zero = rw (scaled_one m (pos 1) c refl)
  product_same zero (suc n) (suc w) (suc k) = rw (scaled_one m (pos 1) c refl, scaled_negated m (negsuc 0) c refl)
  product_same (suc v) zero zero zero = refl
  product_same (suc v) zero zero (suc k) = rw (scaled_one m (pos 1) c refl)
  product_same (suc v) zero (suc w) zero = rw (scaled_one m (pos 1) c refl)
  product_same (suc v) zero (suc w) (suc k) = rw (scaled_one m (pos 1) c refl, scaled_negated m (negsuc 0) c refl)
  product_same (suc v) (suc n) zero zero = refl
  product_same (suc v) (suc n) zero (suc k) = rw (scaled_one m (pos 1) c refl, scaled_negated m (negsuc 0) c refl)
  product_same (suc v) (suc n) (suc w) zero = rw (scaled_one m (pos 1) c refl, scaled_negated m (negsuc 0) c refl)
  product_same (suc v) (suc n) (suc w) (suc k) = rw (scaled_one m (pos 1) c refl, scaled_negated m (negsuc 0) c refl, twice m c h)

-- a record makes what its coefficients make
record_alike : (r : Record) → Alike r (record_variables r) (record_row r)
unfolding times_record times_row record_row record_variables inverted
record_alike (Gate x y) m u c s h =
    ap (λ (p : Polynomial). coefficient_at p u % m) (literal_by m x (times_literal m y ((c, s) ∷ [])) ∙ ap (by_literal m (variable x) (x % 2)) (literal_by m y ((c, s) ∷ [])))
    ∙ ap (λ (n : ℕ). n % m) (product_same m u c s h (variable x) (x % 2) (variable y) (y % 2))
record_alike (Cell byte x1 x2 x3) m u c s h = refl

-- the same of every term, over variables of the record that may stand twice; no coefficient puts in one that there is none of
pub record Parted (r : Record) (q : Variables) (row : ℕ → ℤ) (b : ℕ) : Type 0 where
  pub low : (v : ℕ) → 0 < v → EveryVariable (λ w. w < v) r → (q.x < v) × (q.y < v) × (q.z < v)
  pub no_x : q.x ≡ 0 → Free 0 row
  pub no_y : q.y ≡ 0 → Free 1 row
  pub no_z : q.z ≡ 0 → Free 2 row
  pub near : Within b row
  pub alike : Alike r q row

-- the variables of a record are low
record_low : (r : Record) (v : ℕ) → 0 < v → EveryVariable (λ w. w < v) r → ((record_variables r).x < v) × ((record_variables r).y < v) × ((record_variables r).z < v)
unfolding record_variables
record_low (Gate x y) v l h = (h.0, h.1, l)
record_low (Cell byte x1 x2 x3) v l h = (h.0, h.1, h.2)

-- a row with the same coefficients makes the same
same_makes : (m : ℕ) (row other : ℕ → ℤ) (x y z : ℕ) (t : Term) → Same other row → times_row m row x y z t ≡ times_row m other x y z t
same_makes m row other x y z t e = same_row m row other x y z t (λ i l. ap (λ (k : ℤ). times_whole m k i x y z t) (sym (e i l)))

same_alike : (r : Record) (q : Variables) (row other : ℕ → ℤ) → Same other row → Alike r q row → Alike r q other
same_alike r q row other e a m u c s h =
    a m u c s h ∙ ap (λ (p : Polynomial). coefficient_at p u % m) (same_makes m row other q.x q.y q.z (c, s) e)

same_free : (k : ℕ) (row other : ℕ → ℤ) → Same other row → Free k row → Free k other
same_free k row other e f u a b = e u a ∙ f u a b

parted_same : (r : Record) (q : Variables) (row other : ℕ → ℤ) (b : ℕ) → Same other row → Parted r q row b → Parted r q other b
parted_same r q row other b e p = record {
  low = p.low;
  no_x = λ k. same_free 0 row other e (p.no_x k);
  no_y = λ k. same_free 1 row other e (p.no_y k);
  no_z = λ k. same_free 2 row other e (p.no_z k);
  near = within_same b other row p.near e;
  alike = same_alike r q row other e p.alike;
}

-- the coefficients of a record lie near 0
record_near : (r : Record) → Within 4 (record_row r)
unfolding record_row row_of and_row above below
record_near (Gate x y) u a = and_near (inverted x) (inverted y) u
  where
    and_near : (n k u : ℕ) → (above (get_or (and_row n k) u (pos 0)) ≤ 4) × (below (get_or (and_row n k) u (pos 0)) ≤ 4)
    and_near zero zero zero = (omega arith, omega arith)
    and_near zero zero (suc zero) = (omega arith, omega arith)
    and_near zero zero (suc (suc zero)) = (omega arith, omega arith)
    and_near zero zero (suc (suc (suc zero))) = (omega arith, omega arith)
    and_near zero zero (suc (suc (suc (suc u)))) = (omega arith, omega arith)
    and_near zero (suc k) zero = (omega arith, omega arith)
    and_near zero (suc k) (suc zero) = (omega arith, omega arith)
    and_near zero (suc k) (suc (suc zero)) = (omega arith, omega arith)
    and_near zero (suc k) (suc (suc (suc zero))) = (omega arith, omega arith)
    and_near zero (suc k) (suc (suc (suc (suc u)))) = (omega arith, omega arith)
    and_near (suc n) zero zero = (omega arith, omega arith)
    and_near (suc n) zero (suc zero) = (omega arith, omega arith)
    and_near (suc n) zero (suc (suc zero)) = (omega arith, omega arith)
    and_near (suc n) zero (suc (suc (suc zero))) = (omega arith, omega arith)
    and_near (suc n) zero (suc (suc (suc (suc u)))) = (omega arith, omega arith)
    and_near (suc n) (suc k) zero = (omega arith, omega arith)
    and_near (suc n) (suc k) (suc zero) = (omega arith, omega arith)
    and_near (suc n) (suc k) (suc (suc zero)) = (omega arith, omega arith)
    and_near (suc n) (suc k) (suc (suc (suc zero))) = (omega arith, omega arith)
    and_near (suc n) (suc k) (suc (suc (suc (suc u)))) = (omega arith, omega arith)
record_near (Cell byte x1 x2 x3) u a = coefficient_small byte u a

-- coefficients that lie near lie within more
pub within_more : (b d : ℕ) (row : ℕ → ℤ) → b ≤ d → Within b row → Within d row
within_more b d row l f u a = let w = f u a in (omega (arith, w.0), omega (arith, w.1))

-- what puts in a variable that there is none of is left out, the third first: the rows after each of the three steps
module _ (r : Record) (one two three : ℕ → ℤ) (e1 : Same one (leaving (record_variables r).z 2 (record_row r))) (e2 : Same two (leaving (record_variables r).x 0 one))
    (e3 : Same three (leaving (record_variables r).y 1 two)) where
  -- the last makes what the record's coefficients make
  pub left_makes : (m : ℕ) (t : Term)
      → times_row m (record_row r) (record_variables r).x (record_variables r).y (record_variables r).z t
      ≡ times_row m three (record_variables r).x (record_variables r).y (record_variables r).z t
  left_makes m t =
      let q = record_variables r in
      leave_z m (record_row r) q.x q.y q.z t ∙ same_makes m _ one q.x q.y q.z t e1
      ∙ leave_x m one q.x q.y q.z t ∙ same_makes m _ two q.x q.y q.z t e2
      ∙ leave_y m two q.x q.y q.z t ∙ same_makes m _ three q.x q.y q.z t e3

  left_parted : Within 4 two → Parted r (record_variables r) three 4
  left_parted near = record {
    low = record_low r;
    no_x = λ k. same_free 0 _ three e3 (leaving_keeps 0 1 _ two (same_free 0 _ two e2 (leaving_free 0 one _ k)));
    no_y = λ k. same_free 1 _ three e3 (leaving_free 1 two _ k);
    no_z = λ k. same_free 2 _ three e3 (leaving_keeps 2 1 _ two (same_free 2 _ two e2 (leaving_keeps 2 0 _ one (same_free 2 _ one e1 (leaving_free 2 (record_row r) _ k)))));
    near = within_same 4 three _ (leaving_within 1 (record_variables r).y 4 two near) e3;
    alike = λ m u c s h. record_alike r m u c s h ∙ ap (λ (p : Polynomial). coefficient_at p u % m) (left_makes m (c, s));
  }

-- what it says that two variables are one
one_told : (x y : ℕ) → one_variable x y ≡ true → (x ≡ 0 → ⊥) × (x ≡ y)
unfolding one_variable
one_told x y e =
    let parts = both (not (eqb x 0)) (eqb x y) e in
    (eqb-false x 0 (not-true (eqb x 0) parts.0), eqb-true x y parts.1)

-- and that they are not
two_told : (x y : ℕ) → one_variable x y ≡ false → x ≡ y → y ≡ 0
unfolding one_variable
two_told x y e q = go (eqb x 0) refl
  where
    go : (b : Bool) → eqb x 0 ≡ b → y ≡ 0
    go true z = sym q ∙ eqb-true x 0 z
    go false z = absurd (true≢false (rw (z, eq-eqb x y q) at e))

-- two variables brought apart
module _ (r : Record) (q : Variables) (row : ℕ → ℤ) (b : ℕ) (p : Parted r q row b) where
  -- they are one: what j put in is joined to what i puts in, and the variables are `to`
  join_parted : (to : Variables) (i j : ℕ) → i < j → j < 3
      → ((v : ℕ) → 0 < v → EveryVariable (λ w. w < v) r → (to.x < v) × (to.y < v) × (to.z < v))
      → (to.x ≡ 0 → Free 0 (joining i j row)) → (to.y ≡ 0 → Free 1 (joining i j row)) → (to.z ≡ 0 → Free 2 (joining i j row))
      → ((m c u s : ℕ) → c ≤ m → sum 8 (λ k. share m c u (filled q.x q.y q.z s k) (row k)) % m ≡ sum 8 (λ k. share m c u (filled to.x to.y to.z s k) (joining i j row k)) % m)
      → Parted r to (joining i j row) (3 * b)
  join_parted to i j l h low fx fy fz joins = record {
    low = low;
    no_x = fx;
    no_y = fy;
    no_z = fz;
    near = joining_within i j b row l h p.near;
    alike = λ m u c s a.
        p.alike m u c s a
        ∙ ap (λ (n : ℕ). n % m) (row_shares m c u row q.x q.y q.z s p.no_x p.no_y p.no_z)
        ∙ joins m c u s a
        ∙ ap (λ (n : ℕ). n % m) (sym (row_shares m c u (joining i j row) to.x to.y to.z s fx fy fz));
  }

  -- they are two: nothing changes
  still_parted : Parted r q row (3 * b)
  still_parted = record { low = p.low; no_x = p.no_x; no_y = p.no_y; no_z = p.no_z; near = within_more b (3 * b) row (omega arith) p.near; alike = p.alike }

  -- x and y
  pub parted_x_y : Parted r (record { x = q.x; y = joined_variable q.x q.y; z = q.z }) (joined_row q.x q.y 0 1 row) (3 * b)
  unfolding joined_row joined_variable
  parted_x_y = go (one_variable q.x q.y) refl
    where
      go : (t : Bool) → one_variable q.x q.y ≡ t → Parted r (record { x = q.x; y = cond t 0 q.y; z = q.z }) (λ u. cond t (joining 0 1 row u) (row u)) (3 * b)
      go true e =
          let told = one_told q.x q.y e in
          join_parted (record { x = q.x; y = 0; z = q.z }) 0 1 (omega arith) (omega arith) (λ v l h. ((p.low v l h).0, l, (p.low v l h).2))
          (λ k. absurd (told.0 k)) (λ k. joining_free 0 1 row) (λ k. joining_third 0 1 2 row (omega arith) (omega arith) (λ z. omega arith) (λ z. omega arith) (λ z. omega arith) (p.no_z k))
          (λ m c u s h. rw (← told.1) (join_x_y m c u h row q.x q.z s))
      go false e = still_parted

  -- x and z
  pub parted_x_z : Parted r (record { x = q.x; y = q.y; z = joined_variable q.x q.z }) (joined_row q.x q.z 0 2 row) (3 * b)
  unfolding joined_row joined_variable
  parted_x_z = go (one_variable q.x q.z) refl
    where
      go : (t : Bool) → one_variable q.x q.z ≡ t → Parted r (record { x = q.x; y = q.y; z = cond t 0 q.z }) (λ u. cond t (joining 0 2 row u) (row u)) (3 * b)
      go true e =
          let told = one_told q.x q.z e in
          join_parted (record { x = q.x; y = q.y; z = 0 }) 0 2 (omega arith) (omega arith) (λ v l h. ((p.low v l h).0, (p.low v l h).1, l))
          (λ k. absurd (told.0 k)) (λ k. joining_third 0 2 1 row (omega arith) (omega arith) (λ z. omega arith) (λ z. omega arith) (λ z. omega arith) (p.no_y k)) (λ k. joining_free 0 2 row)
          (λ m c u s h. rw (← told.1) (join_x_z m c u h row q.x q.y s))
      go false e = still_parted

  -- y and z
  pub parted_y_z : Parted r (record { x = q.x; y = q.y; z = joined_variable q.y q.z }) (joined_row q.y q.z 1 2 row) (3 * b)
  unfolding joined_row joined_variable
  parted_y_z = go (one_variable q.y q.z) refl
    where
      go : (t : Bool) → one_variable q.y q.z ≡ t → Parted r (record { x = q.x; y = q.y; z = cond t 0 q.z }) (λ u. cond t (joining 1 2 row u) (row u)) (3 * b)
      go true e =
          let told = one_told q.y q.z e in
          join_parted (record { x = q.x; y = q.y; z = 0 }) 1 2 (omega arith) (omega arith) (λ v l h. ((p.low v l h).0, (p.low v l h).1, l))
          (λ k. joining_third 1 2 0 row (omega arith) (omega arith) (λ z. omega arith) (λ z. omega arith) (λ z. omega arith) (p.no_x k)) (λ k. absurd (told.0 k)) (λ k. joining_free 1 2 row)
          (λ m c u s h. rw (← told.1) (join_y_z m c u h row q.y q.x s))
      go false e = still_parted

-- what stands at a place once it is brought apart is not what it was brought apart from, unless there is none
joined_apart : (x y : ℕ) → x ≡ joined_variable x y → joined_variable x y ≡ 0
unfolding joined_variable
joined_apart x y = go (one_variable x y) refl
  where
    go : (t : Bool) → one_variable x y ≡ t → x ≡ cond t 0 y → cond t 0 y ≡ 0
    go true e q = refl
    go false e q = two_told x y e q

-- nor what it was brought apart from before
joined_still : (w x y : ℕ) → (w ≡ y → y ≡ 0) → w ≡ joined_variable x y → joined_variable x y ≡ 0
unfolding joined_variable
joined_still w x y f = go (one_variable x y)
  where
    go : (t : Bool) → w ≡ cond t 0 y → cond t 0 y ≡ 0
    go true q = refl
    go false q = f q

-- the three pairs brought apart, one after the other
module _ (r : Record) (q : Variables) (row four : ℕ → ℤ) (y : ℕ) (p : Parted r q row 4)
    (ey : y ≡ joined_variable q.x q.y) (e4 : Same four (joined_row q.x q.y 0 1 row)) where
  pub first_parted : Parted r (record { x = q.x; y = y; z = q.z }) four 12
  first_parted = rw ey (parted_same r _ _ four 12 e4 (parted_x_y r q row 4 p))

module _ (r : Record) (q : Variables) (row four five : ℕ → ℤ) (y third : ℕ) (p : Parted r q row 4)
    (ey : y ≡ joined_variable q.x q.y) (e4 : Same four (joined_row q.x q.y 0 1 row))
    (et : third ≡ joined_variable q.x q.z) (e5 : Same five (joined_row q.x q.z 0 2 four)) where
  pub second_parted : Parted r (record { x = q.x; y = y; z = third }) five 36
  second_parted = rw et (parted_same r _ _ five 36 e5 (parted_x_z r (record { x = q.x; y = y; z = q.z }) four 12 (first_parted r q row four y p ey e4)))

module _ (r : Record) (q : Variables) (row four five six : ℕ → ℤ) (y third z : ℕ) (p : Parted r q row 4)
    (ey : y ≡ joined_variable q.x q.y) (e4 : Same four (joined_row q.x q.y 0 1 row))
    (et : third ≡ joined_variable q.x q.z) (e5 : Same five (joined_row q.x q.z 0 2 four))
    (ez : z ≡ joined_variable y third) (e6 : Same six (joined_row y third 1 2 five)) where
  last_parted : Parted r (record { x = q.x; y = y; z = z }) six 108
  last_parted = rw ez (parted_same r _ _ six 108 e6 (parted_y_z r (record { x = q.x; y = y; z = third }) five 36 (second_parted r q row four five y third p ey e4 et e5)))

  pub all_apart : Apart r (record { x = q.x; y = y; z = z }) six
  all_apart = record {
    low = last_parted.low;
    x_y = rw ey (joined_apart q.x q.y);
    x_z = rw ez (joined_still q.x y third (rw et (joined_apart q.x q.z)));
    y_z = rw ez (joined_apart y third);
    no_x = last_parted.no_x;
    no_y = last_parted.no_y;
    no_z = last_parted.no_z;
    within = last_parted.near;
    alike = last_parted.alike;
  }

-- rows that lie near, with the variables that were given for the record
module _ (r : Record) (q : Variables) (k : q ≡ record_variables r) (one two three : ℕ → ℤ) (e1 : Same one (leaving (record_variables r).z 2 (record_row r))) where
  pub first_near : Within 4 one
  first_near = within_same 4 one _ (leaving_within 2 (record_variables r).z 4 (record_row r) (record_near r)) e1

  module _ (e2 : Same two (leaving q.x 0 one)) where
    pub second_near : Within 4 two
    second_near = within_same 4 two _ (leaving_within 0 q.x 4 one first_near) e2

    pub all_left : Same three (leaving q.y 1 two) → Parted r q three 4
    all_left e3 = rw k (left_parted r one two three e1 (rw k at e2) (rw k at e3) second_near)

-- a product has four coefficients
behind : (n k u : ℕ) → get_or (and_row n k) (suc (suc (suc (suc u)))) (pos 0) ≡ pos 0
unfolding and_row
behind zero zero u = refl
behind zero (suc k) u = refl
behind (suc n) zero u = refl
behind (suc n) (suc k) u = refl

-- the product of two literals has no third variable
pub third_none : (n k : ℕ) → Same (row_of (and_row n k)) (leaving 0 2 (row_of (and_row n k)))
unfolding row_of leaving bit
third_none n k zero l = refl
third_none n k (suc zero) l = refl
third_none n k (suc (suc zero)) l = refl
third_none n k (suc (suc (suc zero))) l = refl
third_none n k (suc (suc (suc (suc zero)))) l = behind n k 0
third_none n k (suc (suc (suc (suc (suc zero))))) l = behind n k 1
third_none n k (suc (suc (suc (suc (suc (suc zero)))))) l = behind n k 2
third_none n k (suc (suc (suc (suc (suc (suc (suc zero))))))) l = behind n k 3
third_none n k (suc (suc (suc (suc (suc (suc (suc (suc u)))))))) l = absurd (omega arith)

-- nor do zeros behind its coefficients add one
in_front : (n k : ℕ) → Same (row_of (and_row n k ++ drop 4 (replicate 8 (pos 0)))) (row_of (and_row n k))
unfolding and_row
in_front zero zero = four_row (pos 0) (pos 0) (pos 0) (pos 1)
in_front zero (suc k) = four_row (pos 0) (pos 1) (pos 0) (negsuc 0)
in_front (suc n) zero = four_row (pos 0) (pos 0) (pos 1) (negsuc 0)
in_front (suc n) (suc k) = four_row (pos 1) (negsuc 0) (negsuc 0) (pos 1)

pub product_row : (n k : ℕ) → Same (row_of (and_row n k ++ drop 4 (replicate 8 (pos 0)))) (leaving 0 2 (row_of (and_row n k)))
product_row n k u l = in_front n k u l ∙ third_none n k u l
