-- Laws of places among terms.
use mathlib.Core.Path.{◌≡◌, refl}
use mathlib.Core.Bool.{Bool, true, false}
use mathlib.Core.List.{List, [], ◌∷◌}
use Prim.Native.Nat.{ℕ, zero, suc, ◌+◌, ◌*◌, ◌^◌, ◌<◌, ◌≤◌}
use native.Mathlib.Omega.{arith}
use borrow.Author.Tests.{ltb-true, ltb-false}
use lib.Dec.{ltb}
use lib.ListN.{length, get_or}
use Rattle.std.specs.Ordering.{nat_cmp}
use Rattle.rules.specs.Values.{bit}
use Rattle.rules.specs.Polynomial.{Polynomial, Below}
use Rattle.rules.proofs.Bits.{bit_digit}
use Rattle.words.specs.Numbers.{num, words_at}
use Rattle.words.specs.Listed.{terms_of, set_of}
use Rattle.words.specs.declared.listed.Terms.{Terms}
use Rattle.words.proofs.Numbers.{order_short}
use Rattle.words.proofs.Stored.{length_terms, decoded_set, stride_in}
use Rattle.weave.specs.Seeking.{Free, Above, Sought}

-- two stretches without v, one behind the other
pub free_join : (v : ℕ) (p : Polynomial) (from mid to : ℕ) → Free v p from mid → Free v p mid to → Free v p from to
free_join v p from mid to a b i f l = go (ltb i mid) refl
  where
    go : (e : Bool) → ltb i mid ≡ e → bit (get_or p i (0, 0)).1 v ≡ 0
    go true e = a i f (ltb-true i mid e)
    go false e = b i (ltb-false i mid e) l

-- one term without v
pub free_one : (v : ℕ) (p : Polynomial) (i to : ℕ) → to ≡ i + 1 → (bit (get_or p i (0, 0)).1 v ≡ 1 → ⊥) → Free v p i to
free_one v p i to t n j f l =
    let e : j ≡ i = omega arith in
    rw e (omega (arith, n, bit_digit (get_or p i (0, 0)).1 v))

-- every set is below the bound
pub set_below : (b : ℕ) (p : Polynomial) (i : ℕ) → Below b p → i < length p → (get_or p i (0, 0)).1 < b
set_below b [] i h l = absurd (omega arith)
set_below b (t ∷ p) zero h l = h.0
set_below b (t ∷ p) (suc i) h l = omega (arith, h.0, set_below t.1 p i h.1 (omega arith))

-- a later set is smaller
pub set_falls : (b : ℕ) (p : Polynomial) (i j : ℕ) → Below b p → i < j → j < length p → (get_or p j (0, 0)).1 < (get_or p i (0, 0)).1
set_falls b [] i j h e l = absurd (omega arith)
set_falls b (t ∷ p) i zero h e l = absurd (omega arith)
set_falls b (t ∷ p) zero (suc j) h e l = set_below t.1 p j h.1 (omega arith)
set_falls b (t ∷ p) (suc i) (suc j) h e l = set_falls t.1 p i j h.1 (omega arith) (omega arith)

-- all sets before one that is above s are above it
pub above_to : (b : ℕ) (p : Polynomial) (s from i : ℕ) → Below b p → i < length p → s < (get_or p i (0, 0)).1 → Above p s from (i + 1)
above_to b p s from i h l a j f u = go (ltb j i) refl
  where
    go : (e : Bool) → ltb j i ≡ e → s < (get_or p j (0, 0)).1
    go true e = omega (arith, set_falls b p j i h (ltb-true j i e) l)
    go false e =
        let q : j ≡ i = omega (arith, ltb-false j i e) in
        rw q a

-- the order of the words that two sets use is their order
pub set_order : (terms : Terms) (k i : ℕ) (others : List ℕ) (t : ℕ)
    → (i < terms.count) × (k ≤ terms.width) × (t + terms.width ≤ length others) × (set_of terms i < 2 ^ (64 * k)) × (num (words_at others t terms.width) < 2 ^ (64 * k))
    → nat_cmp (num (words_at terms.words.now (i * (terms.width + 1) + 1) k)) (num (words_at others t k)) ≡ nat_cmp (set_of terms i) (num (words_at others t terms.width))
set_order terms k i others t h =
    let d = decoded_set terms.width terms.count i terms.words.now h.0 in
    rw d (order_short terms.words.now others (i * (terms.width + 1) + 1) t terms.width k (omega (arith, stride_in i terms.count terms.width (length terms.words.now) h.0 terms.within)) h.2 h.1 (rw d at h.3) h.4)

module _ (terms : Terms) (k from to : ℕ) (others : List ℕ) (t : ℕ) (h : Sought terms k from to others t) where
  -- the place that is looked at lies inside, and its set uses k words
  pub inside : (i : ℕ) → i < to → (i < terms.count) × (k ≤ terms.width) × (t + terms.width ≤ length others)
      × (set_of terms i < 2 ^ (64 * k)) × (num (words_at others t terms.width) < 2 ^ (64 * k))
  inside i l =
      (omega (arith, h.within), h.short, h.there, set_below (2 ^ (64 * k)) (terms_of terms) i h.falls (omega (arith, h.within, length_terms terms)), h.low)

  -- its set is above the one looked for, and so are all before it
  pub over_yes : (i : ℕ) → i < to → ltb (num (words_at others t terms.width)) (set_of terms i) ≡ true
      → Above (terms_of terms) (num (words_at others t terms.width)) from (i + 1)
  over_yes i l e =
      above_to (2 ^ (64 * k)) (terms_of terms) (num (words_at others t terms.width)) from i h.falls (omega (arith, h.within, length_terms terms))
      (ltb-true (num (words_at others t terms.width)) (set_of terms i) e)
