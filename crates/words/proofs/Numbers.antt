-- Laws of sets in words: under a mask, their bits, their order, a variable turned.
use Rattle.std.proofs.Common.{◌≡◌, ℕ, zero, suc, ◌+◌, ◌*◌, ◌/◌, ◌%◌, ◌^◌, ◌<◌, ◌≤◌, true, ltb, eqb, Ordering, Less, Equal, Greater, List, [], ◌∷◌, length, get_or, take, drop, set, sym, refl, ap, ◌∙◌, add-zero, one-mul, mul-zero, zero-add, zero-mul, arith, lit<, length-drop, length-take, get_or-drop, get_or-take, take-take, pow_pos, pow-add, shl_exact}
use lib.Bits.{bit_xor, xor_block, xor_zero_l, xor_zero_r, xor_lt}
use lib.Pow.{pow-lt}
use lib.Seq.{drop-set-add, take-set-lt}
use Rattle.rules.specs.Values.{bit}
use Rattle.std.specs.Cmp.{ranked, nat_cmp_is}
use Rattle.std.specs.Ordering.{is_eq, is_ne, is_gt, nat_cmp}
use borrow.Author.Tests.{lt-ltb, le-ltb, eq-eqb, ne_eqb}
use Rattle.rules.proofs.Bits.{bit_low, bit_high}
use Rattle.words.specs.Numbers.{num, words_at, masked, Words}
use Rattle.words.specs.Reading.{Reads}

-- an order of two numbers asked whether the first is larger
pub is_gt-nat_cmp : (m n : ℕ) → is_gt (nat_cmp m n) ≡ ltb n m
is_gt-nat_cmp m n = go (nat_cmp m n) refl
  where
    go : (o : Ordering) → o ≡ nat_cmp m n → is_gt o ≡ ltb n m
    go Less e = sym (le-ltb n m (omega (arith, ranked m n Less e)))
    go Equal e = sym (le-ltb n m (omega (arith, ranked m n Equal e)))
    go Greater e = sym (lt-ltb n m (ranked m n Greater e))

-- or whether both are one
pub is_eq-nat_cmp : (m n : ℕ) → is_eq (nat_cmp m n) ≡ eqb m n
is_eq-nat_cmp m n = go (nat_cmp m n) refl
  where
    go : (o : Ordering) → o ≡ nat_cmp m n → is_eq o ≡ eqb m n
    go Less e = sym (ne_eqb m n (λ z. omega (arith, ranked m n Less e)))
    go Equal e = sym (eq-eqb m n (ranked m n Equal e))
    go Greater e = sym (ne_eqb m n (λ z. omega (arith, ranked m n Greater e)))

-- w words are w words
pub length_words_at : (s : List ℕ) (i w : ℕ) → i + w ≤ length s → length (words_at s i w) ≡ w
length_words_at s i w h = simp (length-take, length-drop) (omega arith)

-- a word of those from i on
pub get_or_words_at : (s : List ℕ) (i w k : ℕ) → k < w → get_or (words_at s i w) k 0 ≡ get_or s (i + k) 0
get_or_words_at s i w k h = rw (get_or-take, get_or-drop)

-- every entry below 2^64: words
pub words_of : (xs : List ℕ) → ((n : ℕ) → n < length xs → get_or xs n 0 < 2 ^ 64) → Words xs
words_of [] f = tt
words_of (x ∷ xs) f = (f 0 (omega arith), words_of xs (λ n h. f (suc n) (omega arith)))

-- the words from i on are words
pub words_from : (s : List ℕ) (i w : ℕ) → i + w ≤ length s → ((n : ℕ) → get_or s n 0 < 2 ^ 64) → Words (words_at s i w)
words_from s i w h f =
    words_of (words_at s i w) (λ n l. rw (get_or_words_at s i w n (omega (arith, length_words_at s i w h))) (f (i + n)))

-- a number of words under a mask is the number under the mask's number
pub num_masked : (xs ys : List ℕ) → Words xs → Words ys → length xs ≡ length ys → num (masked xs ys) ≡ bit_xor (num xs) (num ys)
unfolding num masked
num_masked [] [] f g e = sym (xor_zero_l 0)
num_masked [] (y ∷ ys) f g e = absurd (omega arith)
num_masked (x ∷ xs) [] f g e = absurd (omega arith)
num_masked (x ∷ xs) (y ∷ ys) f g e =
    let h : length xs ≡ length ys = omega arith in
    ap (λ (n : ℕ). n * 2 ^ 64 + bit_xor x y) (num_masked xs ys f.1 g.1 h)
    ∙ sym (xor_block 64 (num xs) (num ys) x y f.0 g.0)

-- as many words under a mask as without
length_masked_lists : (xs ys : List ℕ) → length xs ≡ length ys → length (masked xs ys) ≡ length xs
unfolding masked
length_masked_lists [] ys e = refl
length_masked_lists (x ∷ xs) [] e = absurd (omega arith)
length_masked_lists (x ∷ xs) (y ∷ ys) e = ap suc (length_masked_lists xs ys (omega arith))

-- each word under its own mask
get_or_masked_lists : (xs ys : List ℕ) (k : ℕ) → k < length xs → k < length ys → get_or (masked xs ys) k 0 ≡ bit_xor (get_or xs k 0) (get_or ys k 0)
unfolding masked
get_or_masked_lists [] ys k h l = absurd (omega arith)
get_or_masked_lists (x ∷ xs) [] k h l = absurd (omega arith)
get_or_masked_lists (x ∷ xs) (y ∷ ys) zero h l = refl
get_or_masked_lists (x ∷ xs) (y ∷ ys) (suc k) h l = get_or_masked_lists xs ys k (omega arith) (omega arith)

-- the words of s from i on under the mask of m from a on
module _ (s m : List ℕ) (i a w : ℕ) (hs : i + w ≤ length s) (hm : a + w ≤ length m) where
  -- they are w words
  pub length_masked : length (masked (words_at s i w) (words_at m a w)) ≡ w
  length_masked =
      length_masked_lists (words_at s i w) (words_at m a w) (length_words_at s i w hs ∙ sym (length_words_at m a w hm))
      ∙ length_words_at s i w hs

  -- each word under its mask
  pub get_or_masked : (k : ℕ) → k < w → get_or (masked (words_at s i w) (words_at m a w)) k 0 ≡ bit_xor (get_or s (i + k) 0) (get_or m (a + k) 0)
  get_or_masked k h =
      get_or_masked_lists (words_at s i w) (words_at m a w) k (omega (arith, length_words_at s i w hs)) (omega (arith, length_words_at m a w hm))
      ∙ rw (get_or_words_at s i w k h, get_or_words_at m a w k h)

  -- a word under a mask is a word
  pub masked_lt : ((n : ℕ) → get_or s n 0 < 2 ^ 64) → ((n : ℕ) → get_or m n 0 < 2 ^ 64) → (k : ℕ) → k < w → get_or (masked (words_at s i w) (words_at m a w)) k 0 < 2 ^ 64
  masked_lt f g k h = rw (get_or_masked k h) (xor_lt 64 _ _ (f (i + k)) (g (a + k)))

  -- their number is that of the words under that of the mask
  pub num_masked_at : ((n : ℕ) → get_or s n 0 < 2 ^ 64) → ((n : ℕ) → get_or m n 0 < 2 ^ 64) → num (masked (words_at s i w) (words_at m a w)) ≡ bit_xor (num (words_at s i w)) (num (words_at m a w))
  num_masked_at f g = num_masked (words_at s i w) (words_at m a w) (words_from s i w hs f) (words_from m a w hm g) (length_words_at s i w hs ∙ sym (length_words_at m a w hm))

  -- what reads each word under its mask reads them
  pub reads_masked : {gives : ℕ → ℕ → Type 0} → ((n : ℕ) → get_or s n 0 < 2 ^ 64) → ((n : ℕ) → get_or m n 0 < 2 ^ 64)
      → ((k x : ℕ) → k < w → gives k x → x ≡ bit_xor (get_or s (i + k) 0) (get_or m (a + k) 0)) → Reads gives w (masked (words_at s i w) (words_at m a w))
  reads_masked f g h = record { count = length_masked; words = masked_lt f g; given = λ k x l p. h k x l p ∙ sym (get_or_masked k l) }

-- the highest word that differs decides
num_less : (k : ℕ) (X Y : List ℕ) → ((i : ℕ) → i < length X → get_or X i 0 < 2 ^ 64) → k < length X → k < length Y
    → get_or X k 0 < get_or Y k 0 → drop (suc k) X ≡ drop (suc k) Y → num X < num Y
unfolding num
num_less k [] Y f hx hy h e = absurd (omega arith)
num_less k (x ∷ xs) [] f hx hy h e = absurd (omega arith)
num_less zero (x ∷ xs) (y ∷ ys) f hx hy h e = omega (arith, ap num e)
num_less (suc k) (x ∷ xs) (y ∷ ys) f hx hy h e =
    let ih : num xs < num ys = num_less k xs ys (λ i l. f (suc i) (omega arith)) (omega arith) (omega arith) h e in
    omega (arith, f 0 (omega arith))

-- so the order of those at that place, of which each is a word of its list, is the order of the two numbers
pub words_differ : (at : ℕ) (xs ys : List ℕ) (x y : ℕ) (o : Ordering) → ((i : ℕ) → i < length xs → get_or xs i 0 < 2 ^ 64) → ((i : ℕ) → i < length ys → get_or ys i 0 < 2 ^ 64)
    → at < length xs → at < length ys → x ≡ get_or xs at 0 → y ≡ get_or ys at 0 → drop (suc at) xs ≡ drop (suc at) ys → o ≡ nat_cmp x y → is_ne o ≡ true → o ≡ nat_cmp (num xs) (num ys)
words_differ at xs ys x y Less f g hx hy ex ey d e n = nat_cmp_is _ _ Less (num_less at xs ys f hx hy (rw (← ex, ← ey) (ranked _ _ Less e)) d)
words_differ at xs ys x y Equal f g hx hy ex ey d e n = cc
words_differ at xs ys x y Greater f g hx hy ex ey d e n = nat_cmp_is _ _ Greater (num_less at ys xs g hy hx (rw (← ex, ← ey) (ranked _ _ Greater e)) (sym d))

-- a number below 2^(64 k) is that of its first k words
num_low : (k : ℕ) (xs : List ℕ) → num xs < 2 ^ (64 * k) → num xs ≡ num (take k xs)
unfolding num
num_low zero xs h = omega arith
num_low (suc k) [] h = refl
num_low (suc k) (x ∷ xs) h =
    let e : 64 * suc k ≡ 64 * k + 64 = omega arith in
    let p : 2 ^ (64 * suc k) ≡ 2 ^ (64 * k) * 2 ^ 64 = rw e (pow-add 2 (64 * k) 64) in
    ap (λ (n : ℕ). n * 2 ^ 64 + x) (num_low k xs (omega arith))

-- so is a set that uses k of its w words
pub num_short : (s : List ℕ) (i w k : ℕ) → i + w ≤ length s → k ≤ w → num (words_at s i w) < 2 ^ (64 * k) → num (words_at s i w) ≡ num (words_at s i k)
num_short s i w k l h n = num_low k (words_at s i w) n ∙ ap num (take-take k w (drop i s) h)

-- the order of the words that two sets use is their order
pub order_short : (s m : List ℕ) (i h w k : ℕ) → i + w ≤ length s → h + w ≤ length m → k ≤ w → num (words_at s i w) < 2 ^ (64 * k) → num (words_at m h w) < 2 ^ (64 * k)
    → nat_cmp (num (words_at s i k)) (num (words_at m h k)) ≡ nat_cmp (num (words_at s i w)) (num (words_at m h w))
order_short s m i h w k hi hh l a b = rw (num_short s i w k hi l a, num_short m h w k hh l b)

-- a bit of a number is a bit of one of its words
bit_num : (k b : ℕ) (xs : List ℕ) → Words xs → k < length xs → b < 64 → bit (num xs) (64 * k + b) ≡ bit (get_or xs k 0) b
unfolding num
bit_num k b [] f h hb = absurd (omega arith)
bit_num zero b (x ∷ xs) f h hb =
    let e : num xs * 2 ^ 64 + x ≡ x + 2 ^ 64 * num xs = omega arith in
    rw (mul-zero, zero-add, e) (bit_low 64 x (num xs) b hb)
bit_num (suc k) b (x ∷ xs) f h hb =
    let e : num xs * 2 ^ 64 + x ≡ x + 2 ^ 64 * num xs = omega arith in
    let i : 64 * suc k + b ≡ 64 + (64 * k + b) = omega arith in
    rw (e, i, bit_high 64 x (num xs) (64 * k + b) f.0) (bit_num k b xs f.1 (omega arith) hb)

-- the variable v: word v / 64, place v % 64
pub bit_words : (s : List ℕ) (i w v : ℕ) → i + w ≤ length s → ((n : ℕ) → get_or s n 0 < 2 ^ 64) → v < 64 * w → get_or s (i + v / 64) 0 / 2 ^ (v % 64) % 2 ≡ bit (num (words_at s i w)) v
unfolding bit
bit_words s i w v h f l =
    let e : 64 * (v / 64) + v % 64 ≡ v = omega arith in
    let d : v / 64 < w = omega arith in
    sym (ap (λ (k : ℕ). bit (num (words_at s i w)) k) (sym e)
    ∙ bit_num (v / 64) (v % 64) (words_at s i w) (words_from s i w h f) (omega (arith, length_words_at s i w h)) (omega arith)
    ∙ ap (λ (x : ℕ). bit x (v % 64)) (get_or_words_at s i w (v / 64) d))

-- the code's `1 << b`
pub one_shifted : (b : ℕ) → b < 64 → 1 * 2 ^ b % 2 ^ 64 ≡ 2 ^ b
one_shifted b h = shl_exact 1 b 64 (lit< tt) (omega arith) ∙ one-mul _

-- a bit of one word turned
num_turned : (q b : ℕ) (xs : List ℕ) → Words xs → q < length xs → b < 64 → num (set xs q (bit_xor (get_or xs q 0) (2 ^ b))) ≡ bit_xor (num xs) (2 ^ (64 * q + b))
unfolding num
num_turned q b [] f h l = absurd (omega arith)
num_turned zero b (z ∷ zs) f h l =
    let e : 0 * 2 ^ 64 + 2 ^ b ≡ 2 ^ (64 * 0 + b) = rw (zero-mul, zero-add, zero-add) in
    sym (ap (bit_xor (num zs * 2 ^ 64 + z)) (sym e) ∙ xor_block 64 (num zs) 0 z (2 ^ b) f.0 (pow-lt {i = b} {j = 64} l)
    ∙ ap (λ (n : ℕ). n * 2 ^ 64 + bit_xor z (2 ^ b)) (xor_zero_r (num zs)))
num_turned (suc q) b (z ∷ zs) f h l =
    let i : 64 * suc q + b ≡ 64 * q + b + 64 = omega arith in
    let e : 2 ^ (64 * q + b) * 2 ^ 64 + 0 ≡ 2 ^ (64 * suc q + b) = add-zero _ ∙ sym (pow-add 2 (64 * q + b) 64) ∙ ap (λ (n : ℕ). 2 ^ n) (sym i) in
    ap (λ (n : ℕ). n * 2 ^ 64 + z) (num_turned q b zs f.1 (omega arith) l)
    ∙ sym (ap (bit_xor (num zs * 2 ^ 64 + z)) (sym e) ∙ xor_block 64 (num zs) (2 ^ (64 * q + b)) z 0 f.0 (pow_pos 64)
    ∙ ap (λ (n : ℕ). bit_xor (num zs) (2 ^ (64 * q + b)) * 2 ^ 64 + n) (xor_zero_r z))

-- a variable turned in the set at i: that set's number under 2^v
pub turned_set : (s : List ℕ) (i w v : ℕ) → i + w ≤ length s → ((n : ℕ) → get_or s n 0 < 2 ^ 64) → v < 64 * w
    → num (words_at (set s (i + v / 64) (bit_xor (get_or s (i + v / 64) 0) (2 ^ (v % 64)))) i w) ≡ bit_xor (num (words_at s i w)) (2 ^ v)
turned_set s i w v h f l =
    let d : v / 64 < w = omega arith in
    let e : 64 * (v / 64) + v % 64 ≡ v = omega arith in
    let here : words_at (set s (i + v / 64) (bit_xor (get_or s (i + v / 64) 0) (2 ^ (v % 64)))) i w ≡ set (words_at s i w) (v / 64) (bit_xor (get_or s (i + v / 64) 0) (2 ^ (v % 64))) =
    rw (drop-set-add i s (v / 64) (bit_xor (get_or s (i + v / 64) 0) (2 ^ (v % 64))), take-set-lt w (drop i s) (v / 64) (bit_xor (get_or s (i + v / 64) 0) (2 ^ (v % 64))) d) in
    ap num (here ∙ ap (λ (y : ℕ). set (words_at s i w) (v / 64) (bit_xor y (2 ^ (v % 64)))) (sym (get_or_words_at s i w (v / 64) d)))
    ∙ num_turned (v / 64) (v % 64) (words_at s i w) (words_from s i w h f) (omega (arith, length_words_at s i w h)) (omega arith)
    ∙ ap (λ (y : ℕ). bit_xor (num (words_at s i w)) (2 ^ y)) e
