-- Merging: falling lists, the part written and what is left of each stream.
use mathlib.Core.Path.{◌≡◌, refl, ap, sym, ◌∙◌}
use mathlib.Core.List.{[], ◌∷◌, ◌++◌}
use mathlib.Core.Logic.{⊎_elim}
use Prim.Native.Nat.{ℕ, zero, suc, ◌+◌, ◌-◌, ◌%◌, ◌<◌, ◌≤◌}
use native.Mathlib.Nat.{add_assoc, add-zero, zero-add, add-mod-mod, eq-or-lt_of_le}
use native.Mathlib.Omega.{arith}
use Rattle.rules.specs.Each.{sum, joined}
use Rattle.rules.specs.Polynomial.{Polynomial, hit, coefficient_at, Below, Coefficients, Under, gather}
use Rattle.rules.proofs.Indices.{sum_same}
use Rattle.rules.proofs.Terms.{hit_zero, weaken, above, coefficient_cons, coefficient_append, coefficient_joined}
use Rattle.rules.proofs.Gathered.{unique, under_of, gather_below, gather_coefficients, gather_coefficient}
use Rattle.weave.specs.Merging.{Lows, floor, Merging}

-- the last set is at most the bound
pub floor_le : (hi : ℕ) (p : Polynomial) → Below hi p → floor hi p ≤ hi
unfolding floor
floor_le hi [] h = omega arith
floor_le hi (x ∷ p) h = let l : floor x.1 p ≤ x.1 = floor_le x.1 p h.1 in omega arith

-- a falling list behind another, below its last set
pub below_append : (hi : ℕ) (p q : Polynomial) → Below hi p → Below (floor hi p) q → Below hi (p ++ q)
unfolding floor
below_append hi [] q h k = k
below_append hi (x ∷ p) q h k = (h.0, below_append x.1 p q h.1 k)

-- coefficients of lists, one behind the other
pub coefficients_append : (m : ℕ) (p q : Polynomial) → Coefficients m p → Coefficients m q → Coefficients m (p ++ q)
coefficients_append m [] q h k = k
coefficients_append m (x ∷ p) q h k = (h.0, h.1, coefficients_append m p q h.2 k)

-- the last set after one more term
pub floor_snoc : (hi : ℕ) (p : Polynomial) (c s : ℕ) → floor hi (p ++ ((c, s) ∷ [])) ≡ s
unfolding floor
floor_snoc hi [] c s = refl
floor_snoc hi (x ∷ p) c s = floor_snoc x.1 p c s

-- sets below a bound, of lists one behind the other
pub under_append : (b : ℕ) (p q : Polynomial) → Under b p → Under b q → Under b (p ++ q)
under_append b [] q h k = k
under_append b (x ∷ p) q h k = (h.0, under_append b p q h.1 k)

-- and of all of them
pub under_joined : (b k : ℕ) (q : ℕ → Polynomial) → Lows b k q → Under b (joined k q)
unfolding joined
under_joined b zero q h = tt
under_joined b (suc k) q h =
    under_append b (joined k q) (q k) (under_joined b k q (λ j l. h j (omega arith))) (under_of b b (q k) (omega arith) (h k (omega arith)))

module _ (m hi k : ℕ) (r : Polynomial) (hm : 0 < m) (hr : Under hi r) where
  -- what is written is the front of the result
  pub merge_front : (out : Polynomial) (q : ℕ → Polynomial) → Merging m hi k r out q → gather m r ≡ out ++ gather m (joined k q)
  merge_front out q g =
      let b : Below (floor hi out) (gather m (joined k q)) = gather_below m (floor hi out) (joined k q) (under_joined (floor hi out) k q g.lows) in
      sym (unique m hi (out ++ gather m (joined k q)) r hm (below_append hi out (gather m (joined k q)) g.falls b) (coefficients_append m out (gather m (joined k q)) g.coefs (gather_coefficients m (joined k q) hm)) hr (λ u. rw (coefficient_append out (gather m (joined k q)) u, ← add-mod-mod, gather_coefficient m (joined k q) u, add-mod-mod, coefficient_joined k q u) (g.sums u)))

  -- a turn: the largest set s with its sum c leaves q for q'
  module _ (out : Polynomial) (q q' : ℕ → Polynomial) (g : Merging m hi k r out q) (c s : ℕ) (ls : s < floor hi out) (lows' : Lows s k q')
      (sums' : (u : ℕ) → sum k (λ j. coefficient_at (q j) u) % m ≡ (hit u s c + sum k (λ j. coefficient_at (q' j) u)) % m) where
    -- the sum is 0: nothing is written
    pub merge_skip : c ≡ 0 → Merging m hi k r out q'
    merge_skip z = record {
      falls = g.falls;
      coefs = g.coefs;
      lows = λ j l. weaken s (floor hi out) (q' j) (omega arith) (lows' j l);
      sums = λ u. rw (← add-mod-mod (coefficient_at out u) (sum k (λ j. coefficient_at (q' j) u)) m) (ap (λ (x : ℕ). (coefficient_at out u + x) % m) (sym (rw (z, hit_zero, zero-add) at (sums' u))) ∙ add-mod-mod _ _ m ∙ g.sums u);
    }

    -- the sum is not 0: it is written
    pub merge_take : 0 < c → c < m → Merging m hi k r (out ++ ((c, s) ∷ [])) q'
    merge_take l h = record {
      falls = below_append hi out ((c, s) ∷ []) g.falls (ls, tt);
      coefs = coefficients_append m out ((c, s) ∷ []) g.coefs (l, h, tt);
      lows = λ j d. rw (floor_snoc hi out c s) (lows' j d);
      sums = λ u. rw (coefficient_append out ((c, s) ∷ []) u, coefficient_cons (c, s) [] u, nil u, add-zero, add_assoc) (sym (add-mod-mod _ _ m) ∙ ap (λ (x : ℕ). (coefficient_at out u + x) % m) (sym (sums' u)) ∙ add-mod-mod _ _ m ∙ g.sums u);
    }
      where
        nil : (u : ℕ) → coefficient_at [] u ≡ 0
        nil u = above 0 u [] tt (omega arith)

-- lists that are below 0 are empty
pub none : (p : Polynomial) → Below 0 p → p ≡ []
none [] h = refl
none (x ∷ p) h = absurd (omega arith)

-- so are all of them
pub joined_none : (k : ℕ) (q : ℕ → Polynomial) → Lows 0 k q → joined k q ≡ []
unfolding joined
joined_none zero q h = refl
joined_none (suc k) q h = rw (joined_none k q (λ j l. h j (omega arith)), none (q k) (h k (omega arith)))

-- two families that differ at one place
pub sum_change : (k j : ℕ) (f g : ℕ → ℕ) → j < k → ((i : ℕ) → i < k → (i ≡ j → ⊥) → f i ≡ g i) → sum k f + g j ≡ sum k g + f j
unfolding sum
sum_change zero j f g l h = absurd (omega arith)
sum_change (suc k) j f g l h = ⊎_elim (λ e. last e) (λ d. before d (sum_change k j f g d (λ i a. h i (omega arith)))) (eq-or-lt_of_le {n = j} {m = k} (omega arith))
  where
    last : j ≡ k → sum k f + f k + g j ≡ sum k g + g k + f j
    last e = rw (e, sum_same k f g (λ i a. h i (omega arith) (λ z. omega arith))) (omega arith)

    before : j < k → sum k f + g j ≡ sum k g + f j → sum k f + f k + g j ≡ sum k g + g k + f j
    before d e = omega (arith, h k (omega arith) (λ z. omega arith))

-- one number of a sum
pub sum_le : (k j : ℕ) (f : ℕ → ℕ) → j < k → f j ≤ sum k f
unfolding sum
sum_le zero j f h = absurd (omega arith)
sum_le (suc k) j f h = ⊎_elim (λ (e : j ≡ k). rw e (omega arith)) (λ (l : j < k). let r : f j ≤ sum k f = sum_le k j f l in omega arith) (eq-or-lt_of_le {n = j} {m = k} (omega arith))

-- smaller numbers, a smaller sum
pub sum_down : (k : ℕ) (f g : ℕ → ℕ) → ((i : ℕ) → i < k → g i ≤ f i) → sum k g ≤ sum k f
unfolding sum
sum_down zero f g h = omega arith
sum_down (suc k) f g h = let r : sum k g ≤ sum k f = sum_down k f g (λ i l. h i (omega arith)) in omega (arith, h k (omega arith))

-- smaller numbers, and one truly smaller
pub sum_less : (k j : ℕ) (f g : ℕ → ℕ) → ((i : ℕ) → i < k → g i ≤ f i) → j < k → g j < f j → sum k g < sum k f
unfolding sum
sum_less zero j f g h l d = absurd (omega arith)
sum_less (suc k) j f g h l d = ⊎_elim
    (λ (e : j ≡ k). let r : sum k g ≤ sum k f = sum_down k f g (λ i q. h i (omega arith)) in let z : g k < f k = rw e at d in omega arith)
    (λ (q : j < k). let r : sum k g < sum k f = sum_less k j f g (λ i z. h i (omega arith)) q d in omega (arith, h k (omega arith)))
    (eq-or-lt_of_le {n = j} {m = k} (omega arith))

-- one place changes by a, the sum changes by a: modulo m
pub sum_swap : (m k j a b z : ℕ) (f g : ℕ → ℕ) → j < k → ((i : ℕ) → i < k → (i ≡ j → ⊥) → f i ≡ g i) → (b + g j) % m ≡ (a + f j) % m
    → z % m ≡ (a + sum k f) % m → z % m ≡ (b + sum k g) % m
sum_swap m k j a b z f g l h e s =
    let c : sum k f + g j ≡ sum k g + f j = sum_change k j f g l h in
    let d : f j ≤ sum k f = sum_le k j f l in
    let rest : ℕ = sum k f - f j in
    let x : a + sum k f ≡ rest + (a + f j) = omega arith in
    let y : b + sum k g ≡ rest + (b + g j) = omega arith in
    s ∙ ap (λ (n : ℕ). n % m) x ∙ sym (add-mod-mod rest (a + f j) m) ∙ ap (λ (n : ℕ). (rest + n) % m) (sym e) ∙ add-mod-mod rest (b + g j) m ∙ ap (λ (n : ℕ). n % m) (sym y)
