-- Laws of a gate's masks.
use mathlib.Core.Path.{◌≡◌, refl, ap, ◌∙◌}
use mathlib.Core.List.{List, ◌∷◌}
use mathlib.Core.Logic.{◌⊎◌, inl, inr, ⊎_elim}
use Prim.Native.Nat.{ℕ, zero, suc, ◌+◌, ◌-◌, ◌*◌, ◌/◌, ◌%◌, ◌^◌, ◌<◌, ◌≤◌}
use native.Mathlib.Nat.{add-mul, one-mul, mul-le-mul_right}
use native.Mathlib.Numerals.{add-one-le}
use native.Mathlib.Omega.{arith}
use lib.Bits.{bit_xor, xor_lt}
use lib.ListN.{length, get_or, take, drop, set, replicate}
use lib.Pow.{pow-lt}
use lib.Seq.{drop-set-add, drop-set-lt, take-set-le}
use Rattle.rules.specs.Values.{bit}
use Rattle.words.specs.Numbers.{num, words_at}
use Rattle.std.proofs.lemmas.Bool.{cases_lt}
use Rattle.std.proofs.lemmas.List.{drop-replicate}
use Rattle.words.proofs.Numbers.{turned_set}
use Rattle.gates.specs.Masks.{mask_of, mask_at, turned_by, Turned, Masked}
use Rattle.gates.specs.declared.apart.Variables.{Variables}

-- k rows of w words: the words of the j-th lie inside
pub row_in : (j k w len : ℕ) → j < k → k * w ≤ len → j * w + w ≤ len
row_in j k w len h l =
    let m : (j + 1) * w ≤ k * w = mul-le-mul_right w (add-one-le h) in
    omega (arith, add-mul j 1 w, one-mul w)

-- the masks, one word of the j-th changed
module _ (m : List ℕ) (j w v x : ℕ) (h : j * w + w ≤ length m) (l : v < 64 * w) where
  -- those below it stay
  below : (i : ℕ) → i < j → words_at (set m (j * w + v / 64) x) (i * w) w ≡ words_at m (i * w) w
  below i d =
      let s : (i + 1) * w ≤ j * w = mul-le-mul_right w (add-one-le d) in
      let t : (i + 1) * w ≡ i * w + w = add-mul i 1 w ∙ ap (λ (z : ℕ). i * w + z) (one-mul w) in
      let p : j * w + v / 64 ≡ i * w + (j * w + v / 64 - i * w) = omega arith in
      rw (p, drop-set-add (i * w) m (j * w + v / 64 - i * w) x, take-set-le w (drop (i * w) m) (j * w + v / 64 - i * w) x (omega arith))

  -- and those above it
  over : (i : ℕ) → j < i → words_at (set m (j * w + v / 64) x) (i * w) w ≡ words_at m (i * w) w
  over i d =
      let s : (j + 1) * w ≤ i * w = mul-le-mul_right w (add-one-le d) in
      let t : (j + 1) * w ≡ j * w + w = add-mul j 1 w ∙ ap (λ (z : ℕ). j * w + z) (one-mul w) in
      rw (drop-set-lt (i * w) m (j * w + v / 64) x (omega arith))

  -- so the other masks stay
  others_stay : (i : ℕ) → (i ≡ j → ⊥) → mask_at w (set m (j * w + v / 64) x) i ≡ mask_at w m i
  unfolding mask_at
  others_stay i n = ap num (⊎_elim (λ (d : i < j). below i d) (λ (d : j ≤ i). over i (omega (arith, n))) (cases_lt i j))

-- nothing is turned
pub mask_stays : (m : List ℕ) (w j v : ℕ) → Turned w j v 0 m m
unfolding turned_by
mask_stays m w j v = record { here = refl; there = λ i n. refl; behind = λ b k. refl }

-- a variable turned in the j-th mask
pub mask_turned : (m m' : List ℕ) (j w v : ℕ) → j * w + w ≤ length m → ((n : ℕ) → get_or m n 0 < 2 ^ 64) → v < 64 * w
    → m' ≡ set m (j * w + v / 64) (bit_xor (get_or m (j * w + v / 64) 0) (2 ^ (v % 64))) → Turned w j v 1 m m'
unfolding mask_at turned_by
mask_turned m m' j w v h f l e = record {
  here = rw e (turned_set m (j * w) w v h f l);
  there = λ i n. rw e (others_stay m j w v (bit_xor (get_or m (j * w + v / 64) 0) (2 ^ (v % 64))) h l i n);
  behind = λ b k. rw (e, drop-set-lt b m (j * w + v / 64) (bit_xor (get_or m (j * w + v / 64) 0) (2 ^ (v % 64))) (omega arith));
}

-- four turns make the mask of a stream from a mask of zeros: the gate's variable goes out, and those that the subset has come in
pub mask_made : (w v : ℕ) (q : Variables) (j : ℕ) (m0 m1 m2 m3 m4 : List ℕ) → mask_at w m0 j ≡ 0
    → Turned w j v 1 m0 m1 → Turned w j q.z (bit j 2) m1 m2 → Turned w j q.y (bit j 1) m2 m3 → Turned w j q.x (bit j 0) m3 m4
    → Masked w v q j m0 m4
unfolding mask_of turned_by
mask_made w v q j m0 m1 m2 m3 m4 z t1 t2 t3 t4 = record {
  here = rw (t4.here, t3.here, t2.here, t1.here, z);
  there = λ i n. t4.there i n ∙ t3.there i n ∙ t2.there i n ∙ t1.there i n;
  behind = λ b k. t4.behind b k ∙ t3.behind b k ∙ t2.behind b k ∙ t1.behind b k;
}

-- the masks made so far, and zeros
abbrev pub Making : ℕ → ℕ → Variables → ℕ → ℕ → List ℕ → Type 0
Making w v q k j m = ((i : ℕ) → i < j → mask_at w m i ≡ mask_of v q i) × ((i : ℕ) → j ≤ i → i < k → mask_at w m i ≡ 0)

-- zeros are the number 0
num_zeros : (i n : ℕ) → num (take i (replicate n 0)) ≡ 0
unfolding num
num_zeros zero n = refl
num_zeros (suc i) zero = refl
num_zeros (suc i) (suc n) = rw (num_zeros i n)

-- a mask of zeros changes nothing
pub mask_none : (w n j : ℕ) → mask_at w (replicate n 0) j ≡ 0
unfolding mask_at
mask_none w n j = rw (drop-replicate {X = ℕ} (j * w) n 0) (num_zeros w (n - j * w))

-- a set stays below a power of two that is above the variable turned in it
turned_lt : (e d s v : ℕ) → s < 2 ^ e → v < e → turned_by d s v < 2 ^ e
unfolding turned_by
turned_lt e zero s v h l = h
turned_lt e (suc d) s v h l = xor_lt e s (2 ^ v) h (pow-lt {i = v} {j = e} l)

-- a mask is below a power of two that is above its variables
pub mask_lt : (e v : ℕ) (q : Variables) (j : ℕ) → v < e → q.x < e → q.y < e → q.z < e → mask_of v q j < 2 ^ e
unfolding mask_of
mask_lt e v q j hv hx hy hz =
    turned_lt e (bit j 0) _ q.x (turned_lt e (bit j 1) _ q.y (turned_lt e (bit j 2) _ q.z (pow-lt {i = v} {j = e} hv) hz) hy) hx
