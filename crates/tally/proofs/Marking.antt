-- How numbers are marked: the lowest bit of a word, one word more of a set, and one set behind the other.
use Rattle.std.proofs.Common.{◌≡◌, ℕ, zero, suc, ◌+◌, ◌-◌, ◌*◌, ◌/◌, ◌%◌, ◌^◌, ◌<◌, ◌≤◌, min, Bool, true, false, eqb, ltb, List, [], ◌∷◌, ◌++◌, length, get_or, take, drop, set, sym, refl, ap, ◌∙◌, add-zero, add_assoc, mod-lt, mod-eq_of_lt, mul_assoc, mul-le-mul_left, mul-zero, zero-add, mul-one, mul-add, arith, length-drop, length-set, take-append-drop, get_or-drop, get_or-set_other, get_or-set_same, pow_pos, pow_mono, pow-add, ltb-false, ltb-true, eqb-true}
use Rattle.std.proofs.lemmas.List.{take_more}
use native.Mathlib.Nat.{mod-mod, mod-add-mod, mul-sub, two-pow-succ}
use lib.Bits.{bit_and, and_step, and_self}
use lib.Count.{under, count_trailing_zeros}
use borrow.Author.Tests.{eqb-false}
use Rattle.rules.specs.Occurrences.{counts_at, occurring}
use Rattle.rules.specs.Polynomial.{Polynomial, Below}
use Rattle.rules.specs.Values.{bit}
use Rattle.rules.proofs.Bits.{bit_first, bit_next, bit_none, bit_out, bit_put, bit_both, bit_high}
use Rattle.rules.proofs.Occurring.{occurring_append}
use Rattle.words.specs.Numbers.{num, words_at}
use Rattle.words.specs.Listed.{terms_of, set_of}
use Rattle.words.specs.Stored.{decoded}
use Rattle.words.specs.declared.listed.Terms.{Terms}
use Rattle.words.proofs.Numbers.{num_short}
use Rattle.words.proofs.Stored.{length_terms, decoded_set, decoded_take, stride_in}
use Rattle.weave.proofs.Falling.{below_front}
use Rattle.weave.proofs.Places.{set_below}
use Rattle.tally.specs.Marks.{Numbered, Counting, Marked}

-- the lowest bit that is 1, of a number of k bits that is not 0
pub lowest : (k n : ℕ) → 0 < n → n < 2 ^ k → (bit n (count_trailing_zeros k n) ≡ 1) × (count_trailing_zeros k n < k)
unfolding count_trailing_zeros
lowest zero n h l = absurd (omega arith)
lowest (suc k) n h l = go (n % 2) refl (λ e. lowest k (n / 2) (omega arith) (omega (arith, two-pow-succ k)))
  where
    go : (d : ℕ) → n % 2 ≡ d → (n % 2 ≡ 0 → (bit (n / 2) (count_trailing_zeros k (n / 2)) ≡ 1) × (count_trailing_zeros k (n / 2) < k))
        → (bit n (under d (count_trailing_zeros k (n / 2))) ≡ 1) × (under d (count_trailing_zeros k (n / 2)) < suc k)
    go zero e later =
        let half = later e in
        (bit_next n (count_trailing_zeros k (n / 2)) ∙ half.0, omega (arith, half.1))
    go (suc d) e later = (bit_first n ∙ omega arith, omega arith)

-- it is one of 64
pub lowest_below : (n : ℕ) → n < 2 ^ 64 → (n ≡ 0 → ⊥) → count_trailing_zeros 64 n < 64
lowest_below n l h = (lowest 64 n (omega (arith, h)) l).1

-- a number less 1 has all bits but its lowest that is 1, and bits below that one
pub lowest_out : (k n : ℕ) → 0 < n → n < 2 ^ k → bit_and n (n - 1) ≡ n - 2 ^ count_trailing_zeros k n
unfolding count_trailing_zeros
lowest_out zero n h l = absurd (omega arith)
lowest_out (suc k) n h l = and_step n (n - 1) ∙ go (n % 2) refl (λ e. lowest_out k (n / 2) (omega arith) (omega (arith, two-pow-succ k)))
  where
    go : (d : ℕ) → n % 2 ≡ d → (n % 2 ≡ 0 → bit_and (n / 2) (n / 2 - 1) ≡ n / 2 - 2 ^ count_trailing_zeros k (n / 2))
        → bit_and (n / 2) ((n - 1) / 2) * 2 + min (n % 2) ((n - 1) % 2) ≡ n - 2 ^ under d (count_trailing_zeros k (n / 2))
    go zero e later =
        let half : (n - 1) / 2 ≡ n / 2 - 1 = omega arith in
        rw (half, later e, e) (omega (arith, two-pow-succ (count_trailing_zeros k (n / 2))))
    go (suc d) e later =
        let half : (n - 1) / 2 ≡ n / 2 = omega arith in
        let low : (n - 1) % 2 ≡ 0 = omega arith in
        rw (half, low, and_self) (omega arith)

-- a power of 2 that is below another has the smaller exponent
pub exponent_lt : (a b : ℕ) → 2 ^ a < 2 ^ b → a < b
exponent_lt a b h = go (ltb a b) refl
  where
    go : (t : Bool) → ltb a b ≡ t → a < b
    go true e = ltb-true a b e
    go false e = absurd (omega (arith, pow_mono (ltb-false a b e)))

-- a set without one of its variables, whose number has got what it is to get
marked_step : (by y v : ℕ) (numbers : List ℕ) (r : ℕ) → bit y v ≡ 1 → v < length numbers → r ≡ (get_or numbers v 0 + by) % 2 ^ 32
    → (u : ℕ) → (get_or (set numbers v r) u 0 + by * bit (y - 2 ^ v) u) % 2 ^ 32 ≡ (get_or numbers u 0 + by * bit y u) % 2 ^ 32
marked_step by y v numbers r held inside e u = go (eqb u v) refl
  where
    go : (t : Bool) → eqb u v ≡ t → (get_or (set numbers v r) u 0 + by * bit (y - 2 ^ v) u) % 2 ^ 32 ≡ (get_or numbers u 0 + by * bit y u) % 2 ^ 32
    go true q =
        rw (eqb-true u v q, get_or-set_same numbers v r 0 inside, (bit_out y v held).1, held, mul-zero, mul-one, add-zero, e, mod-mod)
    go false q =
        let other = eqb-false u v q in
        let whole : y - 2 ^ v + 2 ^ v ≡ y = omega (arith, (bit_out y v held).0) in
        let same : bit (y - 2 ^ v) u ≡ bit y u = sym (bit_put (y - 2 ^ v) v u (bit_out y v held).1 other) ∙ ap (λ (x : ℕ). bit x u) whole in
        rw (get_or-set_other numbers v u r 0 other, same)

-- the same of a word that stands base bits up
pub word_step : (base by left b : ℕ) (numbers : List ℕ) (r : ℕ) → bit left b ≡ 1 → base + b < length numbers → r ≡ (get_or numbers (base + b) 0 + by) % 2 ^ 32
    → (u : ℕ) → (get_or (set numbers (base + b) r) u 0 + by * bit (2 ^ base * (left - 2 ^ b)) u) % 2 ^ 32 ≡ (get_or numbers u 0 + by * bit (2 ^ base * left) u) % 2 ^ 32
word_step base by left b numbers r held inside e u =
    let up : bit (2 ^ base * left) (base + b) ≡ 1 = rw zero-add at (bit_high base 0 left b (pow_pos base)) ∙ held in
    let less : 2 ^ base * left - 2 ^ (base + b) ≡ 2 ^ base * (left - 2 ^ b) = rw (pow-add 2 base b) (sym (mul-sub (2 ^ base) left (2 ^ b))) in
    rw (← less) (marked_step by (2 ^ base * left) (base + b) numbers r up inside e u)

-- the bit's place is among the numbers
pub word_inside : (base left b lent : ℕ) → bit left b ≡ 1 → 2 ^ base * left < 2 ^ lent → base + b < lent
word_inside base left b lent held low =
    exponent_lt (base + b) lent (omega (arith, pow-add 2 base b, mul-le-mul_left (2 ^ base) (bit_out left b held).0))

-- a number written fits, as the others do
pub set_fits : (numbers : List ℕ) (v x : ℕ) → v < length numbers → ((u : ℕ) → get_or numbers u 0 < 2 ^ 32) → (u : ℕ) → get_or (set numbers v (x % 2 ^ 32)) u 0 < 2 ^ 32
set_fits numbers v x inside fits u = go (eqb u v) refl
  where
    go : (t : Bool) → eqb u v ≡ t → get_or (set numbers v (x % 2 ^ 32)) u 0 < 2 ^ 32
    go true q = rw (eqb-true u v q, get_or-set_same numbers v (x % 2 ^ 32) 0 inside) (mod-lt x (pow_pos 32))
    go false q = rw (get_or-set_other numbers v u (x % 2 ^ 32) 0 (eqb-false u v q)) (fits u)

-- with the bits left of the word x, all are marked
pub record Left (base by x left : ℕ) (n₀ n : List ℕ) : Type 0 where
  pub fits : left < 2 ^ 64
  pub long : length n ≡ length n₀
  pub low : 2 ^ base * left < 2 ^ length n₀
  pub small : (u : ℕ) → get_or n u 0 < 2 ^ 32
  pub each : (u : ℕ) → (get_or n u 0 + by * bit (2 ^ base * left) u) % 2 ^ 32 ≡ (get_or n₀ u 0 + by * bit (2 ^ base * x) u) % 2 ^ 32

module _ {base by x left : ℕ} {n₀ n : List ℕ} (h : Left base by x left n₀ n) where
  -- the lowest bit has a number
  pub left_inside : (left ≡ 0 → ⊥) → base + count_trailing_zeros 64 left < length n
  left_inside some = omega (arith, word_inside base left (count_trailing_zeros 64 left) (length n₀) (lowest 64 left (omega (arith, some)) h.fits).0 h.low, h.long)

  -- it is marked, and left no more
  pub left_turn : (left ≡ 0 → ⊥) → Left base by x (bit_and left (left - 1)) n₀ (set n (base + count_trailing_zeros 64 left) ((get_or n (base + count_trailing_zeros 64 left) 0 + by) % 2 ^ 32))
  left_turn some =
      let b = count_trailing_zeros 64 left in
      let held = (lowest 64 left (omega (arith, some)) h.fits).0 in
      let fewer : left - 2 ^ b ≤ left = omega arith in
      rw (lowest_out 64 left (omega (arith, some)) h.fits) (record {
        fits = omega (arith, h.fits);
        long = length-set n (base + b) _ ∙ h.long;
        low = omega (arith, h.low, mul-le-mul_left (2 ^ base) fewer);
        small = set_fits n (base + b) (get_or n (base + b) 0 + by) (left_inside some) h.small;
        each = λ u. word_step base by left b n _ held (left_inside some) refl u ∙ h.each u;
      })

  -- when none is left, all are marked
  pub left_none : left ≡ 0 → Marked by (bit (2 ^ base * x)) n₀ n
  left_none none =
      record { long = h.long; each = λ u l. sym (mod-eq_of_lt (h.small u)) ∙ rw (none, mul-zero, bit_none u, mul-zero, add-zero) at (h.each u) }

-- one count behind the other
pub marked_add : (by : ℕ) (f g h : ℕ → ℕ) (n₀ n₁ n₂ : List ℕ) → ((u : ℕ) → h u ≡ f u + g u) → Marked by f n₀ n₁ → Marked by g n₁ n₂ → Marked by h n₀ n₂
marked_add by f g h n₀ n₁ n₂ same a b =
    record {
      long = b.long ∙ a.long;
      each = λ u l. b.each u (rw a.long l) ∙ rw (a.each u l, mod-add-mod, same u, mul-add, add_assoc);
    }

-- nothing counted
pub marked_none : (by : ℕ) (f : ℕ → ℕ) (n : List ℕ) → ((u : ℕ) → f u ≡ 0) → ((u : ℕ) → get_or n u 0 < 2 ^ 32) → Marked by f n n
marked_none by f n none fits =
    record { long = refl; each = λ u l. sym (rw (none u, mul-zero, add-zero) (mod-eq_of_lt (fits u))) }

-- the first words of a list, and one more
pub num_more : (j : ℕ) (words : List ℕ) → num (take (suc j) words) ≡ num (take j words) + 2 ^ (64 * j) * get_or words j 0
unfolding num
num_more zero [] = omega arith
num_more zero (x ∷ words) = omega arith
num_more (suc j) [] = omega (arith, mul-zero (2 ^ (64 * suc j)))
num_more (suc j) (x ∷ words) =
    let power : 2 ^ (64 * suc j) ≡ 2 ^ 64 * 2 ^ (64 * j) = ap (λ (k : ℕ). 2 ^ k) (omega arith) ∙ pow-add 2 64 (64 * j) in
    rw (num_more j words, power, mul_assoc (2 ^ 64) (2 ^ (64 * j)) (get_or words j 0)) (omega arith)

-- the first words are no more than all of them
num_part : (d j : ℕ) (words : List ℕ) → num (take j words) ≤ num (take (d + j) words)
num_part zero j words = rw zero-add (omega arith)
num_part (suc d) j words =
    let next : suc d + j ≡ suc (d + j) = omega arith in
    rw next (omega (arith, num_more (d + j) words, num_part d j words))

-- words have a number that fits their bits
num_fits : (j : ℕ) (words : List ℕ) → ((u : ℕ) → get_or words u 0 < 2 ^ 64) → num (take j words) < 2 ^ (64 * j)
unfolding num
num_fits zero words fits = omega arith
num_fits (suc j) words fits =
    let power : 2 ^ (64 * suc j) ≡ 2 ^ (64 * j) * 2 ^ 64 = ap (λ (k : ℕ). 2 ^ k) (omega arith) ∙ pow-add 2 (64 * j) 64 in
    let one : get_or words j 0 ≤ 2 ^ 64 - 1 = omega (arith, fits j) in
    rw (num_more j words, power) (omega (arith, num_fits j words fits, mul-le-mul_left (2 ^ (64 * j)) one))

module _ (words : List ℕ) (at : ℕ) (fits : (u : ℕ) → get_or words u 0 < 2 ^ 64) where
  -- a word stands within the numbers that the whole set has
  pub word_within : (j w lent : ℕ) → j < w → num (words_at words at w) < 2 ^ lent → 2 ^ (64 * j) * get_or words (at + j) 0 < 2 ^ lent
  word_within j w lent h low =
      let all : w - suc j + suc j ≡ w = omega arith in
      let part : num (take (suc j) (drop at words)) ≤ num (take w (drop at words)) = rw all at (num_part (w - suc j) (suc j) (drop at words)) in
      omega (arith, part, low, rw (get_or-drop at words j 0) at (num_more j (drop at words)))

  -- one word more of a set
  pub bit_more : (j u : ℕ) → bit (num (words_at words at (j + 1))) u ≡ bit (num (words_at words at j)) u + bit (2 ^ (64 * j) * get_or words (at + j) 0) u
  bit_more j u =
      let next : j + 1 ≡ suc j = omega arith in
      rw (next, num_more j (drop at words), get_or-drop at words j 0)
      (bit_both (64 * j) (num (take j (drop at words))) (get_or words (at + j) 0) u
      (num_fits j (drop at words) (λ i. rw (get_or-drop at words i 0) (fits (at + i)))))

-- every set counts at 0, and at its variables
pub counts_both : (s : ℕ) → bit s 0 ≡ 0 → (u : ℕ) → counts_at s u ≡ counts_at 0 u + bit s u
unfolding counts_at
counts_both s even zero = rw (even, add-zero)
counts_both s even (suc v) = rw (bit_none (suc v), zero-add)

-- the number of all terms has got what it is to get
pub marked_zero : (by : ℕ) (numbers : List ℕ) (r : ℕ) → 0 < length numbers → ((u : ℕ) → get_or numbers u 0 < 2 ^ 32)
    → r ≡ (get_or numbers 0 0 + by) % 2 ^ 32 → Marked by (counts_at 0) numbers (set numbers 0 r)
unfolding counts_at
marked_zero by numbers r some fits e = record { long = length-set numbers 0 r; each = go }
  where
    go : (u : ℕ) → u < length numbers → get_or (set numbers 0 r) u 0 ≡ (get_or numbers u 0 + by * counts_at 0 u) % 2 ^ 32
    go zero l = rw (get_or-set_same numbers 0 r 0 some, mul-one) e
    go (suc v) l =
        rw (get_or-set_other numbers 0 (suc v) r 0 (λ q. omega arith), bit_none (suc v), mul-zero, add-zero) (sym (mod-eq_of_lt (fits (suc v))))

-- the i-th of numbered terms
pub numbered_at : (lent i : ℕ) (p : Polynomial) → Numbered lent p → i < length p → ((get_or p i (0, 0)).1 < 2 ^ lent) × (bit (get_or p i (0, 0)).1 0 ≡ 0)
numbered_at lent i [] all l = absurd (omega arith)
numbered_at lent zero (t ∷ p) all l = all.0
numbered_at lent (suc i) (t ∷ p) all l = numbered_at lent i p all.1 (omega arith)

-- the terms in front of the i-th, and it
occurring_next : (i : ℕ) (p : Polynomial) → i < length p → (u : ℕ) → occurring (take (i + 1) p) u ≡ occurring (take i p) u + counts_at (get_or p i (0, 0)).1 u
unfolding occurring
occurring_next i p l u = rw (take_more p i (0, 0) l, occurring_append u (take i p) (get_or p i (0, 0) ∷ []), add-zero)

-- the i-th of the terms that are counted: its k words are there, and its variables have numbers
pub record Counted (terms : Terms) (k lent i : ℕ) : Type 0 where
  pub there : i * (terms.width + 1) + 1 + k ≤ length terms.words.now
  pub narrow : k ≤ 16
  pub same : set_of terms i ≡ num (words_at terms.words.now (i * (terms.width + 1) + 1) k)
  pub low : num (words_at terms.words.now (i * (terms.width + 1) + 1) k) < 2 ^ lent
  pub even : bit (num (words_at terms.words.now (i * (terms.width + 1) + 1) k)) 0 ≡ 0

module _ {terms : Terms} {k lent : ℕ} (c : Counting terms k lent) (i : ℕ) (l : i < terms.count) where
  pub counted_set : Counted terms k lent i
  counted_set =
      let here : i < length (terms_of terms) = rw length_terms l in
      let inside = stride_in i terms.count terms.width (length terms.words.now) l terms.within in
      let set = decoded_set terms.width terms.count i terms.words.now l in
      let numbers = numbered_at lent i (terms_of terms) c.numbered here in
      let short = set ∙ num_short terms.words.now (i * (terms.width + 1) + 1) terms.width k (omega arith) c.short (rw set at (set_below (2 ^ (64 * k)) (terms_of terms) i c.falls here)) in
      record {
        there = omega (arith, c.short);
        narrow = omega (arith, c.short, terms.narrow);
        same = short;
        low = rw short at numbers.0;
        even = rw short at numbers.1;
      }

  -- one term more
  pub counted_next : (u : ℕ) → occurring (take (i + 1) (terms_of terms)) u ≡ occurring (take i (terms_of terms)) u + counts_at (num (words_at terms.words.now (i * (terms.width + 1) + 1) k)) u
  counted_next u = rw (← counted_set.same) (occurring_next i (terms_of terms) (rw length_terms l) u)

  -- and so behind others
  pub counted_behind : (from : ℕ) → from ≤ i → (u : ℕ) → occurring (take (i + 1 - from) (drop from (terms_of terms))) u
      ≡ occurring (take (i - from) (drop from (terms_of terms))) u + counts_at (num (words_at terms.words.now (i * (terms.width + 1) + 1) k)) u
  counted_behind from a u =
      let p = terms_of terms in
      let e : i + 1 - from ≡ i - from + 1 = omega arith in
      let h : from + (i - from) ≡ i = omega arith in
      let set : (get_or (drop from p) (i - from) (0, 0)).1 ≡ set_of terms i = rw (get_or-drop from p (i - from) (0, 0), h) in
      rw (e, ← counted_set.same, ← set) (occurring_next (i - from) (drop from p) (rw (length-drop, length_terms) (omega arith)) u)

-- the first of numbered terms
pub numbered_front : (lent : ℕ) (p q : Polynomial) → Numbered lent (p ++ q) → Numbered lent p
numbered_front lent [] q h = tt
numbered_front lent (t ∷ p) q h = (h.0, numbered_front lent p q h.1)

-- fewer terms in the same words: they fall, and are numbered
pub front_counted : (w k lent from n : ℕ) (store : List ℕ) → from ≤ n → Below (2 ^ (64 * k)) (decoded w n store) → Numbered lent (decoded w n store)
    → Below (2 ^ (64 * k)) (decoded w from store) × Numbered lent (decoded w from store)
front_counted w k lent from n store l f h =
    let p = decoded w n store in
    rw (decoded_take w from n store l) (
      below_front (2 ^ (64 * k)) (take from p) (drop from p) (rw (take-append-drop from p) f),
      numbered_front lent (take from p) (drop from p) (rw (take-append-drop from p) h),
    )

-- the terms in front of one, and those from it on
pub occurring_rest : (from : ℕ) (p : Polynomial) (u : ℕ) → occurring p u ≡ occurring (take from p) u + occurring (drop from p) u
occurring_rest from p u = ap (λ (q : Polynomial). occurring q u) (sym (take-append-drop from p)) ∙ occurring_append u (take from p) (drop from p)
