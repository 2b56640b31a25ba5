-- Two falling lists merged: a stretch of the first, the head of the second, both heads where they have one set.
use mathlib.Core.Path.{◌≡◌, sym}
use mathlib.Core.List.{[], ◌∷◌, ◌++◌}
use Prim.Native.Nat.{ℕ, zero, suc, ◌+◌, ◌%◌, ◌<◌}
use native.Mathlib.Nat.{add-zero, zero-add, mod-add-mod}
use native.Mathlib.Omega.{arith}
use Rattle.rules.specs.Each.{sum}
use Rattle.rules.specs.Polynomial.{Term, Polynomial, hit, coefficient_at, Below, Coefficients, Under, gather}
use Rattle.rules.proofs.Terms.{hit_add, hit_mod, coefficient_cons, coefficient_append}
use Rattle.rules.proofs.Gathered.{unique}
use Rattle.weave.specs.Merging.{Lows, floor, Merging, two}
use Rattle.weave.proofs.Fronts.{below_append, coefficients_append}
use Rattle.weave.proofs.Falling.{below_front, below_back, floor_append}

-- the sum over two lists
pub two_sum : (a b : Polynomial) (u : ℕ) → sum 2 (λ j. coefficient_at (two a b j) u) ≡ coefficient_at a u + coefficient_at b u
unfolding sum two
two_sum a b u = rw zero-add

-- two lists that fall below a bound
pub two_lows : (f : ℕ) (a b : Polynomial) → Below f a → Below f b → Lows f 2 (two a b)
unfolding two
two_lows f a b ha hb zero l = ha
two_lows f a b ha hb (suc j) l = hb

module _ (m hi : ℕ) (r out a b : Polynomial) (g : Merging m hi 2 r out (two a b)) where
  -- the first falls
  pub first_low : Below (floor hi out) a
  unfolding two
  first_low = g.lows 0 (omega arith)

  -- the second falls
  pub second_low : Below (floor hi out) b
  unfolding two
  second_low = g.lows 1 (omega arith)

  -- what is written and both have the coefficients of r
  pub two_coefficients : (u : ℕ) → (coefficient_at out u + (coefficient_at a u + coefficient_at b u)) % m ≡ coefficient_at r u % m
  two_coefficients u = rw (two_sum a b u) at (g.sums u)

-- nothing is written yet
pub weave_none : (m hi : ℕ) (a b : Polynomial) → Below hi a → Below hi b → Merging m hi 2 (a ++ b) [] (two a b)
unfolding floor coefficient_at
weave_none m hi a b ha hb = record {
  falls = tt;
  coefs = tt;
  lows = two_lows hi a b ha hb;
  sums = λ u. rw (two_sum a b u, zero-add, coefficient_append a b u);
}

-- a stretch of the first list is written; the second is below its last set
pub weave_stretch : (m hi : ℕ) (r out s a b : Polynomial) → Merging m hi 2 r out (two (s ++ a) b) → Coefficients m s → Below (floor (floor hi out) s) b
    → Merging m hi 2 r (out ++ s) (two a b)
weave_stretch m hi r out s a b g c h =
    let f : Below (floor hi out) (s ++ a) = first_low m hi r out (s ++ a) b g in
    record {
      falls = below_append hi out s g.falls (below_front (floor hi out) s a f);
      coefs = coefficients_append m out s g.coefs c;
      lows = rw (floor_append hi out s) (two_lows (floor (floor hi out) s) a b (below_back (floor hi out) s a f) h);
      sums = λ u.
          let e : coefficient_at out u + coefficient_at s u + (coefficient_at a u + coefficient_at b u) ≡ coefficient_at out u + (coefficient_at (s ++ a) u + coefficient_at b u) = omega (arith, coefficient_append s a u) in
          rw (two_sum a b u, coefficient_append out s u, e) (two_coefficients m hi r out (s ++ a) b g u);
    }

-- the head of the second list is taken
pub head_sums : (m : ℕ) (a b : Polynomial) (y : Term) (u : ℕ)
    → sum 2 (λ j. coefficient_at (two a (y ∷ b) j) u) % m ≡ (hit u y.1 y.0 + sum 2 (λ j. coefficient_at (two a b j) u)) % m
head_sums m a b y u =
    let e : coefficient_at a u + coefficient_at (y ∷ b) u ≡ hit u y.1 y.0 + (coefficient_at a u + coefficient_at b u) = omega (arith, coefficient_cons y b u) in
    rw (two_sum a (y ∷ b) u, two_sum a b u, e)

-- both heads have one set: their sum is taken
pub heads_sums : (m : ℕ) (a b : Polynomial) (x y : Term) → x.1 ≡ y.1 → (u : ℕ)
    → sum 2 (λ j. coefficient_at (two (x ∷ a) (y ∷ b) j) u) % m ≡ (hit u y.1 ((y.0 + x.0) % m) + sum 2 (λ j. coefficient_at (two a b j) u)) % m
heads_sums m a b x y s u =
    let f : hit u x.1 x.0 ≡ hit u y.1 x.0 = rw s in
    let e : coefficient_at (x ∷ a) u + coefficient_at (y ∷ b) u ≡ hit u y.1 (y.0 + x.0) + (coefficient_at a u + coefficient_at b u) = omega (arith, coefficient_cons x a u, coefficient_cons y b u, hit_add y.1 u y.0 x.0) in
    rw (two_sum (x ∷ a) (y ∷ b) u, two_sum a b u, e, hit_mod y.1 u m (y.0 + x.0)) (sym (mod-add-mod (hit u y.1 (y.0 + x.0)) m (coefficient_at a u + coefficient_at b u)))

-- the second has no term left: what is written and the rest of the first are then the result
pub weave_rest : (m hi : ℕ) (r out a : Polynomial) → 0 < m → Under hi r → Merging m hi 2 r out (two a []) → Coefficients m a → out ++ a ≡ gather m r
unfolding coefficient_at
weave_rest m hi r out a hm hr g c =
    unique m hi (out ++ a) r hm (below_append hi out a g.falls (first_low m hi r out a [] g)) (coefficients_append m out a g.coefs c) hr
    (λ u. rw (coefficient_append out a u) (rw add-zero at (two_coefficients m hi r out a [] g u)))
