-- What the last polynomial says: no gate in its first set means none at all; the soonest of its sets, halved.
use mathlib.Core.Path.{◌≡◌, refl, ap, sym, ◌∙◌}
use mathlib.Core.Bool.{Bool, true, false, cond, ◌&&◌}
use mathlib.Core.List.{List, [], ◌∷◌}
use Prim.Native.Nat.{ℕ, zero, suc, ◌+◌, ◌*◌, ◌/◌, ◌%◌, ◌^◌, ◌<◌, ◌≤◌}
use native.Mathlib.Nat.{zero-add, mul_assoc, zero-mul, div-lt_iff_lt-mul, div-add-mod', mod-lt, pow-succ', div-eq_of_lt, div-div-eq-div-mul}
use native.Mathlib.Numerals.{add-one}
use native.Mathlib.Omega.{arith}
use lib.Count.{ones, ones_step}
use lib.Dec.{ltb}
use lib.ListN.{length, get_or, take, drop, drop_of_length-le}
use lib.Pow.{pow_pos, pow_mono, pow-add, shl_exact}
use lib.Seq.{drop-cons}
use borrow.Author.Tests.{lt-ltb, le-ltb, ltb-true, ltb-false}
use Rattle.std.proofs.Common.{◌||◌, eqb, Some, Less, Equal, Greater}
use Rattle.std.specs.Ordering.{is_lt, is_some_and, nat_cmp, partial_lt, partial_ordering_then}
use Rattle.rules.specs.Each.{every}
use Rattle.rules.specs.Judging.{set_width, term_width, inputs_only, sooner, soonest, differs, ended}
use Rattle.rules.specs.Limits.{most_variables}
use Rattle.rules.specs.Polynomial.{Term, Polynomial, Below, Under}
use Rattle.rules.specs.Product.{Kind, kind_of}
use Rattle.rules.specs.Says.{answers}
use Rattle.rules.specs.Values.{bit}
use Rattle.rules.specs.declared.counts.Counts.{Counts}
use Rattle.rules.proofs.Gathered.{under_of}
use Rattle.netlist.specs.Taken.{Fitting}
use Rattle.netlist.proofs.Facts.{facts}
use Rattle.product.proofs.Readings.{one_shift}
use Rattle.words.specs.Numbers.{num, words_at}
use Rattle.words.specs.Stored.{decoded}
use Rattle.words.proofs.Stored.{length_decoded, decoded_at, stride_in}
use Rattle.ending.specs.Ending.{Evens, Halves, Ending}

module _ (s v : ℕ) where
  -- a set that holds v is at least 2^v
  pub gate_there : bit s v ≡ 1 → 2 ^ v ≤ s
  unfolding bit
  gate_there h = go (ltb s (2 ^ v)) refl
    where
      go : (t : Bool) → ltb s (2 ^ v) ≡ t → 2 ^ v ≤ s
      go true e = let z : 0 % 2 ≡ 1 = rw (div-eq_of_lt (ltb-true s (2 ^ v) e)) at h in absurd (omega arith)
      go false e = ltb-false s (2 ^ v) e

  -- a set of variables up to v that does not hold v has those below it
  pub gate_absent : s < 2 ^ (v + 1) → (bit s v ≡ 1 → ⊥) → s < 2 ^ v
  unfolding bit
  gate_absent h n = go (s / 2 ^ v) refl
    where
      few : s / 2 ^ v < 2
      few = (div-lt_iff_lt-mul (pow_pos v)).1 (rw (add-one v, pow-succ' 2 v) at h)

      go : (k : ℕ) → s / 2 ^ v ≡ k → s < 2 ^ v
      go zero e =
          let d : 0 * 2 ^ v + s % 2 ^ v ≡ s = rw e at (div-add-mod' s (2 ^ v)) in
          omega (arith, zero-mul (2 ^ v), mod-lt s (pow_pos v))
      go (suc zero) e = absurd (n (rw e))
      go (suc (suc k)) e = absurd (omega (arith, few))

-- sets that fall from below a bound pass the test of the bound
falling : (bound b : ℕ) (p : Polynomial) → Below b p → b ≤ bound → every (λ (t : Term). ltb t.1 bound) p ≡ true
unfolding every
falling bound b [] h l = refl
falling bound b (t ∷ p) h l = rw (lt-ltb t.1 bound (omega arith)) (falling bound t.1 p h.1 (omega arith))

-- the largest set stands first: it alone says whether all are of inputs
inputs_first : (c : Counts) (b : ℕ) (p : Polynomial) → Below b p → 0 < length p → inputs_only c p ≡ ltb (get_or p 0 (0, 0)).1 (2 ^ (c.i + 1))
unfolding inputs_only every
inputs_first c b [] h l = absurd (omega arith)
inputs_first c b (t ∷ p) h l = go (ltb t.1 (2 ^ (c.i + 1))) refl
  where
    go : (s : Bool) → ltb t.1 (2 ^ (c.i + 1)) ≡ s → (s && every (λ (t : Term). ltb t.1 (2 ^ (c.i + 1))) p) ≡ s
    go true e =
        let less = ltb-true t.1 (2 ^ (c.i + 1)) e in
        falling (2 ^ (c.i + 1)) t.1 p h.1 (omega arith)
    go false e = refl

-- sets that fall are under whatever the first is under
under_first : (bound b : ℕ) (p : Polynomial) → Below b p → (get_or p 0 (0, 0)).1 < bound → Under bound p
under_first bound b [] h l = tt
under_first bound b (t ∷ p) h l = (l, under_of t.1 bound p (omega arith) h.1)

module _ (kind : Kind) (c : Counts) (table : List ℕ) (steps : ℕ) (p : Polynomial) (some : 0 < length p) where
  -- D, from the first set and the terms behind it
  ended_pair : inputs_only c p ≡ true → ended kind c table steps p ≡ differs kind c table steps (length p) (soonest (get_or p 0 (0, 0)).1 (drop 1 p))
  unfolding ended
  ended_pair h = go p some h
    where
      go : (p : Polynomial) → 0 < length p → inputs_only c p ≡ true
          → ended kind c table steps p ≡ differs kind c table steps (length p) (soonest (get_or p 0 (0, 0)).1 (drop 1 p))
      go [] l h = absurd (omega arith)
      go (t ∷ p) l h = rw h

  -- U
  ended_gate : inputs_only c p ≡ false → ended kind c table steps p ≡ answers 3 (steps ∷ length p ∷ [])
  unfolding ended
  ended_gate h = go p some h
    where
      go : (p : Polynomial) → 0 < length p → inputs_only c p ≡ false → ended kind c table steps p ≡ answers 3 (steps ∷ length p ∷ [])
      go [] l h = absurd (omega arith)
      go (t ∷ p) l h = rw h

-- the set of the first term stands behind the first word
first_set : (w count : ℕ) (store : List ℕ) → 0 < count → (get_or (decoded w count store) 0 (0, 0)).1 ≡ num (words_at store 1 w)
unfolding decoded
first_set w zero store l = absurd (omega arith)
first_set w (suc k) store l = refl

-- what holds of every set holds of each
even_at : (p : Polynomial) (k : ℕ) → Evens p → k < length p → (get_or p k (0, 0)).1 % 2 ≡ 0
even_at [] k h l = absurd (omega arith)
even_at (t ∷ p) zero h l = h.0
even_at (t ∷ p) (suc k) h l = even_at p k h.1 (omega arith)

under_at : (b : ℕ) (p : Polynomial) (k : ℕ) → Under b p → k < length p → (get_or p k (0, 0)).1 < b
under_at b [] k h l = absurd (omega arith)
under_at b (t ∷ p) zero h l = h.0
under_at b (t ∷ p) (suc k) h l = under_at b p k h.1 (omega arith)

-- a set without variable 0 has as many variables as its half
ones_double : (x : ℕ) → ones (2 * x) ≡ ones x
ones_double x =
    let low : 2 * x % 2 ≡ 0 = omega arith in
    let half : 2 * x / 2 ≡ x = omega arith in
    ones_step (2 * x) ∙ rw (low, half) (zero-add (ones x))

-- two tests in turn, as an order of pairs asks them
pairs_in_turn : (less same below equal : Bool)
    → is_some_and is_lt (partial_ordering_then (Some (cond less Less (cond same Equal Greater))) (Some (cond below Less (cond equal Equal Greater))))
    ≡ (less || (same && below))
pairs_in_turn true same below equal = refl
pairs_in_turn false true true equal = refl
pairs_in_turn false true false true = refl
pairs_in_turn false true false false = refl
pairs_in_turn false false below equal = refl

-- twice two numbers stand as the numbers do
ltb_double : (x y : ℕ) → ltb (2 * x) (2 * y) ≡ ltb x y
ltb_double x y = go (ltb x y) refl
  where
    go : (t : Bool) → ltb x y ≡ t → ltb (2 * x) (2 * y) ≡ t
    go true e = lt-ltb (2 * x) (2 * y) (omega (arith, ltb-true x y e))
    go false e = le-ltb (2 * x) (2 * y) (omega (arith, ltb-false x y e))

-- of two halved sets, the order of how many variables they have and of the sets themselves is that of the whole sets
pub sooner_halves : (x y : ℕ)
    → partial_lt (λ (a b : ℕ × ℕ). partial_ordering_then (Some (nat_cmp a.0 b.0)) (Some (nat_cmp a.1 b.1))) (ones x, x) (ones y, y) ≡ sooner (2 * x) (2 * y)
unfolding sooner
sooner_halves x y =
    pairs_in_turn (ltb (ones x) (ones y)) (eqb (ones x) (ones y)) (ltb x y) (eqb x y)
    ∙ rw (ones_double x, ones_double y, ltb_double x y)

-- one set more
pub soonest_next : (p : Polynomial) (k best half r : ℕ) → k < length p → (get_or p k (0, 0)).1 ≡ 2 * half
    → 2 * r ≡ cond (sooner (2 * half) (2 * best)) (2 * half) (2 * best) → soonest (2 * r) (drop (k + 1) p) ≡ soonest (2 * best) (drop k p)
unfolding soonest
soonest_next p k best half r l e f =
    let open_next : soonest (2 * best) (drop k p) ≡ soonest (cond (sooner (get_or p k (0, 0)).1 (2 * best)) (get_or p k (0, 0)).1 (2 * best)) (drop (suc k) p) =
    ap (soonest (2 * best)) (drop-cons p k (0, 0) l) in
    let taken = ap (λ (s : ℕ). soonest (cond (sooner s (2 * best)) s (2 * best)) (drop (suc k) p)) e in
    rw (add-one k) (sym (open_next ∙ taken ∙ ap (λ (s : ℕ). soonest s (drop (suc k) p)) (sym f)))

-- the low word of a set of one word
pub half_one : (store : List ℕ) (at : ℕ) → at + 1 ≤ length store → get_or store at 0 / 2 ≡ num (words_at store at 1) / 2
unfolding num
half_one store at h = rw (drop-cons store at 0 (omega arith), zero-mul) (omega arith)

-- a number of two words below 2^65 has 0 or 1 above its low word
high_word : (h x : ℕ) → h * 2 ^ 64 + x < 2 ^ 65 → h < 2
high_word h x l = omega arith

high_only : (n y : ℕ) → n * 2 ^ 64 + y < 2 → (y < 2) × (n * 2 ^ 64 + y ≡ y)
high_only n y l = (omega arith, omega arith)

-- half of it
halves : (x k : ℕ) → x / 2 + k ≡ (k * 2 + x) / 2
halves x k = omega arith

-- the two low words of a set below 2^65: the second is 0 or 1, and the half is in one word
pub half_two : (store : List ℕ) (at w : ℕ) → 1 < w → at + w ≤ length store → num (words_at store at w) < 2 ^ 65
    → (get_or store (at + 1) 0 < 2) × (get_or store at 0 / 2 + get_or store (at + 1) 0 * 2 ^ 63 ≡ num (words_at store at w) / 2)
unfolding num
half_two store at zero l h n = absurd (omega arith)
half_two store at (suc zero) l h n = absurd (omega arith)
half_two store at (suc (suc w)) l h n =
    let x = get_or store at 0 in
    let y = get_or store (at + 1) 0 in
    let one : drop at store ≡ x ∷ drop (suc at) store = drop-cons store at 0 (omega arith) in
    let two : drop (suc at) store ≡ y ∷ drop (suc (at + 1)) store = rw (← add-one at) (drop-cons store (at + 1) 0 (omega arith)) in
    let rest = num (take w (drop (suc (at + 1)) store)) in
    let small = high_word (rest * 2 ^ 64 + y) x (rw (one, two) at n) in
    let high = high_only rest y small in
    (high.0, rw (one, two, high.1, ← mul_assoc y (2 ^ 63) 2) (halves x (y * 2 ^ 63)))

-- behind the last term the soonest is found
pub soonest_done : (p : Polynomial) (k s : ℕ) → length p ≤ k → soonest s (drop k p) ≡ s
unfolding soonest
soonest_done p k s h = rw (drop_of_length-le p {i = k} h)

-- the code's `y << 63` of a word that is 0 or 1
pub top_shifted : (y : ℕ) → y < 2 → y * 2 ^ 63 % 2 ^ 64 ≡ y * 2 ^ 63
top_shifted y h = shl_exact 1 63 64 h (omega arith)

-- above bit n, and there above bit n, is above bit 2n
pub twice_above : (x n : ℕ) → x / 2 ^ n / 2 ^ n ≡ x / 2 ^ (2 * n)
twice_above x n =
    let double : n + n ≡ 2 * n = omega arith in
    div-div-eq-div-mul x (2 ^ n) (2 ^ n) ∙ rw (← pow-add 2 n n, double)

-- the code's `1 << n` is some number, and what is left of x by it is below 2^n
pub shift_some : (n : ℕ) → n < 64 → 0 < 1 * 2 ^ n % 2 ^ 64
shift_some n h = rw (one_shift n h) (pow_pos n)

pub low_below : (x n : ℕ) → n < 64 → x % (1 * 2 ^ n % 2 ^ 64) < 2 ^ n
low_below x n h = rw (one_shift n h) (mod-lt x (pow_pos n))

module _ {w count : ℕ} {store : List ℕ} (h : Halves w count store) where
  -- the set of the k-th term
  set_of : (k : ℕ) → k < count → (get_or (decoded w count store) k (0, 0)).1 ≡ num (words_at store (k * (w + 1) + 1) w)
  set_of k l = ap (λ (t : Term). t.1) (decoded_at w count k store l)

  -- its words lie inside, and it has a half in one word
  pub half_at : (k : ℕ) → k < count → (0 < w) × (k * (w + 1) + 1 + w ≤ length store) × (num (words_at store (k * (w + 1) + 1) w) < 2 ^ 65)
  half_at k l = (
    h.wide,
    omega (arith, stride_in k count w (length store) l h.room),
    rw (← set_of k l) (under_at (2 ^ 65) (decoded w count store) k h.under (omega (arith, length_decoded w count store))),
  )

  -- which is half of it
  pub half_whole : (k half : ℕ) → k < count → half ≡ num (words_at store (k * (w + 1) + 1) w) / 2 → (get_or (decoded w count store) k (0, 0)).1 ≡ 2 * half
  half_whole k half l e =
      omega (arith, set_of k l, even_at (decoded w count store) k h.even (omega (arith, length_decoded w count store)))

  -- so for the first term
  pub half_first : (0 < w) × (1 + w ≤ length store) × (num (words_at store 1 w) < 2 ^ 65)
  half_first = rw (zero-mul (w + 1), zero-add 1) at (half_at 0 h.some)

  pub first_whole : (half : ℕ) → half ≡ num (words_at store 1 w) / 2 → 2 * half ≡ num (words_at store 1 w)
  first_whole half e =
      let even = even_at (decoded w count store) 0 h.even (omega (arith, length_decoded w count store, h.some)) in
      omega (arith, first_set w count store h.some, even)

-- the first of sets that fall is below their bound
below_first : (b : ℕ) (p : Polynomial) → Below b p → 0 < length p → (get_or p 0 (0, 0)).1 < b
below_first b [] h l = absurd (omega arith)
below_first b (t ∷ p) h l = h.0

module _ {c : Counts} {table : List ℕ} {kind count : ℕ} {store : List ℕ} (fit : Fitting c table) (e : Ending c kind count store) (some : 0 < count) where
  -- the polynomial held, and the set of its first term
  abbrev last : Polynomial
  last = decoded (set_width c) count store

  abbrev top : ℕ
  top = num (words_at store 1 (set_width c))

  terms_held : length last ≡ count
  terms_held = length_decoded (set_width c) count store

  -- what is asked of the first term is there
  pub ending_first : (c.i ≤ c.m) × (c.m ≤ most_variables) × (1 + set_width c ≤ length store) × (top < 2 ^ (c.m + 1))
  unfolding term_width
  ending_first =
      let f = facts fit in
      let room = stride_in 0 count (set_width c) (length store) some e.room in (
        omega (arith, f.counts.variables),
        f.counts.most,
        omega (arith, zero-mul (set_width c + 1)),
        rw (← first_set (set_width c) count store some) (below_first (2 ^ (c.m + 1)) last e.falls (omega (arith, terms_held))),
      )

  -- it alone says whether all terms are of inputs
  inputs_top : inputs_only c last ≡ ltb top (2 ^ (c.i + 1))
  inputs_top =
      inputs_first c (2 ^ (c.m + 1)) last e.falls (omega (arith, terms_held))
      ∙ ap (λ (s : ℕ). ltb s (2 ^ (c.i + 1))) (first_set (set_width c) count store some)

  -- a gate is left: U
  pub ending_unfinished : (steps : ℕ) → ltb top (2 ^ (c.i + 1)) ≡ false
      → answers 3 (steps ∷ count ∷ []) ≡ ended (kind_of kind) c table steps last
  ending_unfinished steps h = sym (ended_gate (kind_of kind) c table steps last (omega (arith, terms_held)) (inputs_top ∙ h) ∙ rw terms_held)

  module _ (h : ltb top (2 ^ (c.i + 1)) ≡ true) where
    -- inputs alone have their half in one word
    pub ending_halves : Halves (c.m / 64 + 1) count store
    unfolding term_width set_width
    ending_halves =
        let f = facts fit in
        let most : 2 ^ (c.i + 1) ≤ 2 ^ 65 = pow_mono {i = c.i + 1} {j = 65} (omega (arith, f.counts.inputs.1)) in
        record {
          wide = omega arith;
          some = some;
          room = e.room;
          under = under_first (2 ^ 65) (2 ^ (c.m + 1)) last e.falls
              (rw (first_set (set_width c) count store some) (omega (arith, ltb-true top (2 ^ (c.i + 1)) h)));
          even = e.even;
        }

    -- none is left: D, with the pair of the soonest set
    pub ending_differs : (steps s : ℕ) → s ≡ soonest top (drop 1 last) → differs (kind_of kind) c table steps count s ≡ ended (kind_of kind) c table steps last
    ending_differs steps s f =
        sym (ended_pair (kind_of kind) c table steps last (omega (arith, terms_held)) (inputs_top ∙ h)
        ∙ rw (terms_held, first_set (set_width c) count store some, ← f))
