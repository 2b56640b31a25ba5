-- The words of a polynomial decode to it, and words with zeros behind the terms that they decode to are its words.
use Rattle.std.proofs.Common.{◌≡◌, ℕ, zero, suc, ◌+◌, ◌-◌, ◌*◌, ◌/◌, ◌%◌, ◌^◌, ◌<◌, ◌≤◌, List, [], ◌∷◌, ◌++◌, length, get_or, take, drop, replicate, sym, refl, ap, ◌∙◌, append_assoc, mod-eq_of_lt, mul_assoc, suc-mul, zero-mul, div-one, arith, length-append, length-drop, take-append-drop, length-take-le, get_or-drop, drop-drop, take_at, ext_get_or, take-add, drop_at, pow-add, shr-shr}
use native.Mathlib.Nat.{mod-one}
use Rattle.std.proofs.lemmas.List.{drop-replicate}
use lib.ListN.{length-replicate}
use lib.Pow.{high, low, mod-pow-add}
use Rattle.rules.specs.Each.{listed}
use Rattle.rules.specs.Judging.{term_words, polynomial_words, padded}
use Rattle.rules.specs.Polynomial.{Polynomial, Under}
use Rattle.rules.proofs.Indices.{length_listed, get_or_listed}
use Rattle.words.specs.Numbers.{num, Words}
use Rattle.words.specs.Stored.{decoded}
use Rattle.words.proofs.Stored.{length_decoded}
use Rattle.words.proofs.Numbers.{words_from}

-- a last word leads
num_last : (xs : List ℕ) (y : ℕ) → num (xs ++ (y ∷ [])) ≡ y * 2 ^ (64 * length xs) + num xs
unfolding num
num_last [] y = omega arith
num_last (x ∷ xs) y =
    let e : 64 * suc (length xs) ≡ 64 * length xs + 64 = omega arith in
    let p : y * 2 ^ (64 * suc (length xs)) ≡ y * 2 ^ (64 * length xs) * 2 ^ 64 = rw (e, pow-add 2 (64 * length xs) 64) (sym (mul_assoc y (2 ^ (64 * length xs)) (2 ^ 64))) in
    omega (arith, num_last xs y)

-- w words of s are s modulo 2^(64 w)
num_listed : (w s : ℕ) → num (listed w (λ j. s / 2 ^ (64 * j) % 2 ^ 64)) ≡ s % 2 ^ (64 * w)
unfolding num listed
num_listed zero s = sym (mod-one s)
num_listed (suc w) s =
    let e : 64 * suc w ≡ 64 + 64 * w = omega arith in
    num_last (listed w (λ j. s / 2 ^ (64 * j) % 2 ^ 64)) (s / 2 ^ (64 * w) % 2 ^ 64)
    ∙ rw (length_listed w (λ j. s / 2 ^ (64 * j) % 2 ^ 64), num_listed w s, e) (sym (mod-pow-add s 64 (64 * w)))

-- the word at k of a number
word_of : (xs : List ℕ) (k : ℕ) → Words xs → k < length xs → num xs / 2 ^ (64 * k) % 2 ^ 64 ≡ get_or xs k 0
unfolding num
word_of [] k f h = absurd (omega arith)
word_of (x ∷ xs) zero f h = ap (λ (n : ℕ). n % 2 ^ 64) (div-one (num xs * 2 ^ 64 + x)) ∙ low (num xs) 64 f.0
word_of (x ∷ xs) (suc k) f h =
    let e : 64 * suc k ≡ 64 + 64 * k = omega arith in
    rw (e, ← shr-shr (num xs * 2 ^ 64 + x) 64 (64 * k), high (num xs) 64 f.0) (word_of xs k f.1 (omega arith))

-- words are the words of their number
listed_num : (w : ℕ) (xs : List ℕ) → length xs ≡ w → Words xs → listed w (λ j. num xs / 2 ^ (64 * j) % 2 ^ 64) ≡ xs
listed_num w xs e f =
    let l : length (listed w (λ j. num xs / 2 ^ (64 * j) % 2 ^ 64)) ≡ w = length_listed w (λ j. num xs / 2 ^ (64 * j) % 2 ^ 64) in
    ext_get_or 0 (listed w (λ j. num xs / 2 ^ (64 * j) % 2 ^ 64)) xs (l ∙ sym e)
    (λ i d. get_or_listed w (λ j. num xs / 2 ^ (64 * j) % 2 ^ 64) 0 i (omega arith) ∙ word_of xs i f (omega arith))

-- a term takes w + 1 words
pub length_polynomial_words : (w : ℕ) (p : Polynomial) → length (polynomial_words w p) ≡ length p * (w + 1)
unfolding polynomial_words term_words
length_polynomial_words w [] = sym (zero-mul (w + 1))
length_polynomial_words w (t ∷ p) =
    simp length-append (omega (arith, length_listed w (λ j. t.1 / 2 ^ (64 * j) % 2 ^ 64), length_polynomial_words w p, suc-mul (length p) (w + 1)))

-- the words of one polynomial behind those of another
pub polynomial_words_append : (w : ℕ) (p q : Polynomial) → polynomial_words w (p ++ q) ≡ polynomial_words w p ++ polynomial_words w q
unfolding polynomial_words
polynomial_words_append w [] q = refl
polynomial_words_append w (t ∷ p) q = rw (polynomial_words_append w p q) (sym (append_assoc (term_words w t) (polynomial_words w p) (polynomial_words w q)))

-- the words of a polynomial decode to it, whatever stands behind them
pub decoded_words : (w : ℕ) (p : Polynomial) (behind : List ℕ) → Under (2 ^ (64 * w)) p → decoded w (length p) (polynomial_words w p ++ behind) ≡ p
unfolding decoded polynomial_words term_words
decoded_words w [] behind h = refl
decoded_words w (t ∷ p) behind h =
    let l : length (listed w (λ j. t.1 / 2 ^ (64 * j) % 2 ^ 64)) ≡ w = length_listed w (λ j. t.1 / 2 ^ (64 * j) % 2 ^ 64) in
    let n : num (listed w (λ j. t.1 / 2 ^ (64 * j) % 2 ^ 64)) ≡ t.1 = num_listed w t.1 ∙ mod-eq_of_lt h.0 in
    let r : decoded w (length p) (polynomial_words w p ++ behind) ≡ p = decoded_words w p behind h.1 in
    rw (append_assoc (listed w (λ j. t.1 / 2 ^ (64 * j) % 2 ^ 64)) (polynomial_words w p) behind, take_at (listed w (λ j. t.1 / 2 ^ (64 * j) % 2 ^ 64)) (polynomial_words w p ++ behind) w l, drop_at (listed w (λ j. t.1 / 2 ^ (64 * j) % 2 ^ 64)) (polynomial_words w p ++ behind) w l, n, r)

-- the words of what is decoded are the words that it was decoded from
pub words_decoded : (w k : ℕ) (s : List ℕ) → ((n : ℕ) → get_or s n 0 < 2 ^ 64) → k * (w + 1) ≤ length s → polynomial_words w (decoded w k s) ≡ take (k * (w + 1)) s
unfolding decoded polynomial_words term_words
words_decoded w zero s f h = rw (zero-mul)
words_decoded w (suc k) [] f h = absurd (omega (arith, suc-mul k (w + 1)))
words_decoded w (suc k) (x ∷ s) f h =
    let e : suc k * (w + 1) ≡ suc (w + k * (w + 1)) = omega (arith, suc-mul k (w + 1)) in
    let a : listed w (λ j. num (take w s) / 2 ^ (64 * j) % 2 ^ 64) ≡ take w s = listed_num w (take w s) (length-take-le w s (omega arith)) (words_from (x ∷ s) 1 w (omega arith) f) in
    let b : polynomial_words w (decoded w k (drop w s)) ≡ take (k * (w + 1)) (drop w s) = words_decoded w k (drop w s) (λ n. rw (get_or-drop w s n 0) (f (suc (w + n)))) (simp length-drop (omega arith)) in
    rw (e, a, b, take-add w (k * (w + 1)) s)

-- zeros, seen from further behind
pub zeros_later : (a b : ℕ) (s : List ℕ) → a ≤ b → drop a s ≡ replicate (length s - a) 0 → drop b s ≡ replicate (length s - b) 0
zeros_later a b s h z =
    let q : a + (b - a) ≡ b = omega arith in
    let n : length s - a - (b - a) ≡ length s - b = omega arith in
    sym (drop-drop (b - a) a s ∙ rw q) ∙ ap (λ (x : List ℕ). drop (b - a) x) z ∙ drop-replicate (b - a) (length s - a) 0 ∙ rw n

-- words with zeros behind them are as long as what was lent
pub length_padded : (lent : ℕ) (words : List ℕ) → length words ≤ lent → length (padded lent words) ≡ lent
unfolding padded
length_padded lent words h = simp (length-append, length-replicate) (omega arith)

module _ (w : ℕ) (s : List ℕ) where
  -- terms with zeros behind them are the words of the polynomial that they decode to
  pub stored : (k : ℕ) → ((n : ℕ) → get_or s n 0 < 2 ^ 64) → k * (w + 1) ≤ length s → drop (k * (w + 1)) s ≡ replicate (length s - k * (w + 1)) 0
      → s ≡ padded (length s) (polynomial_words w (decoded w k s))
  unfolding padded
  stored k f h z =
      let e : length (polynomial_words w (decoded w k s)) ≡ k * (w + 1) = length_polynomial_words w (decoded w k s) ∙ ap (λ (n : ℕ). n * (w + 1)) (length_decoded w k s) in
      rw (e, words_decoded w k s f h, ← z) (sym (take-append-drop (k * (w + 1)) s))

  -- behind the words of a polynomial stand zeros
  pub zeros_behind : (p : Polynomial) → s ≡ padded (length s) (polynomial_words w p) → drop (length p * (w + 1)) s ≡ replicate (length s - length p * (w + 1)) 0
  unfolding padded
  zeros_behind p h =
      ap (λ (x : List ℕ). drop (length p * (w + 1)) x) h
      ∙ drop_at (polynomial_words w p) (replicate (length s - length (polynomial_words w p)) 0) (length p * (w + 1)) (length_polynomial_words w p)
      ∙ rw (length_polynomial_words w p)
