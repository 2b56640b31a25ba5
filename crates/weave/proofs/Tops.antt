-- Laws of the highest word that a set uses, and of its highest variable.
use mathlib.Core.Path.{◌≡◌, refl, ap, sym, ◌∙◌}
use mathlib.Core.Bool.{Bool, true, false}
use mathlib.Core.Logic.{⊎_elim}
use mathlib.Core.List.{List, [], ◌∷◌}
use Prim.Native.Nat.{ℕ, zero, suc, ◌+◌, ◌*◌, ◌/◌, ◌%◌, ◌^◌, ◌<◌, ◌≤◌}
use native.Mathlib.Nat.{mul-one, mul_assoc, mul_comm, div-lt_iff_lt-mul, le-div_iff_mul-le}
use native.Mathlib.Omega.{arith}
use borrow.Author.Tests.{ltb-true, ltb-false, leb-true, leb-false, lt-ltb, le-ltb}
use lib.Dec.{ltb, leb}
use lib.ListN.{length, get_or}
use lib.Pow.{pow-add, pow_pos, pow_mono}
use Rattle.rules.specs.Values.{bit}
use Rattle.rules.specs.Polynomial.{Polynomial, Below}
use Rattle.rules.proofs.Bits.{bit_cases, bit_out, high_variable}
use Rattle.words.specs.Numbers.{num, words_at, Words}
use Rattle.words.specs.Stored.{decoded}
use Rattle.words.proofs.Numbers.{length_words_at, get_or_words_at, words_from}
use Rattle.weave.specs.Seeking.{Free}
use Rattle.weave.proofs.Places.{set_below, set_falls}

-- one word more
step : (a b : ℕ) → a ≡ b + 64 → 2 ^ a ≡ 2 ^ b * 2 ^ 64
step a b e = rw e (pow-add 2 b 64)

-- m times one word more
scaled : (k m : ℕ) → 2 ^ (64 * suc k) * m ≡ 2 ^ (64 * k) * m * 2 ^ 64
scaled k m =
    ap (λ (n : ℕ). n * m) (step (64 * suc k) (64 * k) (omega arith)) ∙ mul_assoc (2 ^ (64 * k)) (2 ^ 64) m
    ∙ ap (λ (n : ℕ). 2 ^ (64 * k) * n) (mul_comm (2 ^ 64) m) ∙ sym (mul_assoc (2 ^ (64 * k)) m (2 ^ 64))

-- the highest word below m: the number below m times that word's worth
top_under : (m k : ℕ) (xs : List ℕ) → Words xs → k < length xs → num xs < 2 ^ (64 * (1 + k)) → get_or xs k 0 < m → num xs < 2 ^ (64 * k) * m
unfolding num
top_under m k [] f l h u = absurd (omega arith)
top_under m zero (x ∷ xs) f l h u = omega arith
top_under m (suc k) (x ∷ xs) f l h u =
    let s : 2 ^ (64 * (1 + suc k)) ≡ 2 ^ (64 * (1 + k)) * 2 ^ 64 = step (64 * (1 + suc k)) (64 * (1 + k)) (omega arith) in
    omega (arith, f.0, scaled k m, top_under m k xs f.1 (omega arith) (omega arith) u)

-- a word from m on: the number from m times that word's worth on
top_over : (m k : ℕ) (xs : List ℕ) → k < length xs → m ≤ get_or xs k 0 → 2 ^ (64 * k) * m ≤ num xs
unfolding num
top_over m k [] l u = absurd (omega arith)
top_over m zero (x ∷ xs) l u = omega arith
top_over m (suc k) (x ∷ xs) l u = omega (arith, scaled k m, top_over m k xs (omega arith) u)

-- a number is below what its words can say
num_below : (xs : List ℕ) → Words xs → num xs < 2 ^ (64 * length xs)
unfolding num
num_below [] f = omega arith
num_below (x ∷ xs) f = omega (arith, f.0, step (64 * suc (length xs)) (64 * length xs) (omega arith), num_below xs f.1)

-- the first set, in words 1 to w
module _ (s : List ℕ) (w : ℕ) (h : w + 1 ≤ length s) where
  first : List ℕ
  first = words_at s 1 w

  long : length first ≡ w
  unfolding first
  long = length_words_at s 1 w (omega arith)

  word : (j : ℕ) → j < w → get_or first j 0 ≡ get_or s (j + 1) 0
  unfolding first
  word j l = get_or_words_at s 1 w j l ∙ ap (λ (n : ℕ). get_or s n 0) (omega arith)

  -- a word that is not 0: the set is not below that word's worth
  pub word_stops : (j b : ℕ) → j < w → b ≤ 64 * j → (get_or s (j + 1) 0 ≡ 0 → ⊥) → 2 ^ b ≤ num (words_at s 1 w)
  unfolding first
  word_stops j b l u z =
      let y : 1 ≤ get_or first j 0 = rw (word j l) (omega (arith, z)) in
      let o : 2 ^ (64 * j) ≤ num first = rw mul-one at (top_over 1 j first (omega (arith, long)) y) in
      omega (arith, pow_mono {i = b} {j = 64 * j} u)

  module _ (f : (n : ℕ) → get_or s n 0 < 2 ^ 64) where
    fits : Words first
    unfolding first
    fits = words_from s 1 w (omega arith) f

    -- it fits its words
    pub first_low : num (words_at s 1 w) < 2 ^ (64 * w)
    unfolding first
    first_low = rw long at (num_below first fits)

    -- a word is 0, and all above it: the set uses no more than those below it
    pub word_passed : (j : ℕ) → j < w → num (words_at s 1 w) < 2 ^ (64 * (j + 1)) → get_or s (j + 1) 0 ≡ 0 → num (words_at s 1 w) < 2 ^ (64 * j)
    unfolding first
    word_passed j l u z =
        let y : get_or first j 0 < 1 = rw (word j l, z) (omega arith) in
        let e : j + 1 ≡ 1 + j = omega arith in
        rw mul-one at (top_under 1 j first fits (omega (arith, long)) (rw e at u) y)

    -- v's word decides, where it is the highest
    pub word_decides : (v : ℕ) → v < 64 * w → num (words_at s 1 w) < 2 ^ (64 * (1 + v / 64))
        → leb (get_or s (1 + v / 64) 0 / 2 ^ (v % 64)) 1 ≡ ltb (num (words_at s 1 w)) (2 ^ (v + 1))
    unfolding first
    word_decides v l u = go (leb (x / 2 ^ (v % 64)) 1) refl
      where
        x : ℕ
        x = get_or s (1 + v / 64) 0

        at : get_or first (v / 64) 0 ≡ x
        at = word (v / 64) (omega arith) ∙ ap (λ (n : ℕ). get_or s n 0) (omega arith)

        there : v / 64 < length first
        there = omega (arith, long)

        worth : 2 ^ (64 * (v / 64)) * (2 * 2 ^ (v % 64)) ≡ 2 ^ (v + 1)
        worth =
            let e : 64 * (v / 64) + (1 + v % 64) ≡ v + 1 = omega arith in
            ap (λ (n : ℕ). 2 ^ (64 * (v / 64)) * n) (sym (pow-add 2 1 (v % 64))) ∙ sym (pow-add 2 (64 * (v / 64)) (1 + v % 64)) ∙ ap (λ (n : ℕ). 2 ^ n) e

        go : (e : Bool) → leb (x / 2 ^ (v % 64)) 1 ≡ e → e ≡ ltb (num (words_at s 1 w)) (2 ^ (v + 1))
        go true e =
            let q : x < 2 * 2 ^ (v % 64) = (div-lt_iff_lt-mul (pow_pos (v % 64))).0 (omega (arith, leb-true (x / 2 ^ (v % 64)) 1 e)) in
            sym (lt-ltb (num (words_at s 1 w)) (2 ^ (v + 1)) (rw worth at (top_under (2 * 2 ^ (v % 64)) (v / 64) first fits there u (rw at q))))
        go false e =
            let q : 2 * 2 ^ (v % 64) ≤ x = (le-div_iff_mul-le (pow_pos (v % 64))).0 (omega (arith, leb-false (x / 2 ^ (v % 64)) 1 e)) in
            sym (le-ltb (num (words_at s 1 w)) (2 ^ (v + 1)) (rw worth at (top_over (2 * 2 ^ (v % 64)) (v / 64) first there (rw at q))))

-- the first set is below the bound
pub first_below : (b w n : ℕ) (s : List ℕ) → 0 < n → Below b (decoded w n s) → num (words_at s 1 w) < b
unfolding decoded
first_below b w zero s h f = absurd (omega arith)
first_below b w (suc n) s h f = f.0

-- what is above the first set bounds all
pub all_below : (b c w n : ℕ) (s : List ℕ) → Below b (decoded w n s) → num (words_at s 1 w) < c → Below c (decoded w n s)
unfolding decoded
all_below b c w zero s f h = tt
all_below b c w (suc n) s f h = (h, f.1)

-- a set that has nothing above v and lacks v is below v's power; no smaller set holds v, then
lacks : (s t v : ℕ) → s < 2 ^ (v + 1) → bit s v ≡ 0 → t ≤ s → bit t v ≡ 0
lacks s t v h e l = ⊎_elim
    (λ (q : bit t v ≡ 0). q)
    (λ (q : bit t v ≡ 1).
    let x = high_variable v (v + 1) s h (omega (arith, (bit_out t v q).0)) in
    let y : x.0 ≡ v = omega (arith, x.1, x.2) in
    absurd (omega (arith, e, rw y at x.3)))
    (bit_cases t v)

-- behind the first term that lacks v none holds it, where no set has a variable above v
pub free_behind : (v : ℕ) (p : Polynomial) (i : ℕ) → Below (2 ^ (v + 1)) p → bit (get_or p i (0, 0)).1 v ≡ 0 → Free v p i (length p)
free_behind v p i f e j a b = go (ltb i j) refl
  where
    go : (q : Bool) → ltb i j ≡ q → bit (get_or p j (0, 0)).1 v ≡ 0
    go true q = lacks (get_or p i (0, 0)).1 (get_or p j (0, 0)).1 v (set_below (2 ^ (v + 1)) p i f (omega arith)) e
        (omega (arith, set_falls (2 ^ (v + 1)) p i j f (ltb-true i j q) b))
    go false q =
        let y : j ≡ i = omega (arith, ltb-false i j q) in
        rw y e
