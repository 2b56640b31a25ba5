-- The bits of a number: the variables that a set holds.
use mathlib.Core.Path.{◌≡◌, refl, ap, sym, ◌∙◌}
use mathlib.Core.Bool.{Bool, true, false}
use mathlib.Core.Logic.{◌⊎◌, inl, inr, ⊎_elim}
use Prim.Native.Nat.{ℕ, zero, suc, ◌+◌, ◌-◌, ◌*◌, ◌/◌, ◌%◌, ◌^◌, ◌<◌, ◌≤◌}
use native.Mathlib.Nat.{add-zero, zero-add, one-mul, zero-mul, mul-zero, mul_assoc, pow-succ', div-div-eq-div-mul}
use native.Mathlib.Omega.{arith}
use lib.Arith.{lt-one}
use lib.Dec.{ltb}
use lib.Pow.{pow_mono, pow_pos}
use borrow.Author.Tests.{ltb-true, ltb-false}
use Rattle.rules.specs.Values.{bit}
use Rattle.rules.specs.Polynomial.{with_variable}

-- what holds of 0 and of 1 holds of a digit
pub digit_cases : (P : ℕ → Type 0) → P 0 → P 1 → (x : ℕ) → x < 2 → P x
digit_cases P none one zero h = none
digit_cases P none one (suc zero) h = one
digit_cases P none one (suc (suc x)) h = absurd (omega arith)

-- a bit is a digit
pub bit_digit : (x i : ℕ) → bit x i < 2
unfolding bit
bit_digit x i = omega arith

-- a variable is in a set or it is not
pub bit_cases : (s v : ℕ) → (bit s v ≡ 0) ⊎ (bit s v ≡ 1)
bit_cases s v = digit_cases (λ x. (x ≡ 0) ⊎ (x ≡ 1)) (inl refl) (inr refl) (bit s v) (bit_digit s v)

-- variable 0 is the lowest digit
pub bit_first : (s : ℕ) → bit s 0 ≡ s % 2
unfolding bit
bit_first s = omega arith

-- a later variable is a digit of the half
pub bit_next : (s v : ℕ) → bit s (suc v) ≡ bit (s / 2) v
unfolding bit
bit_next s v = rw (pow-succ', ← div-div-eq-div-mul)

-- the empty set has no variable
pub bit_none : (v : ℕ) → bit 0 v ≡ 0
bit_none zero = bit_first 0
bit_none (suc v) = bit_next 0 v ∙ bit_none v

-- without a variable that is in it a set is smaller by its power, and lacks it
pub bit_out : (s v : ℕ) → bit s v ≡ 1 → (2 ^ v ≤ s) × (bit (s - 2 ^ v) v ≡ 0)
bit_out s zero e =
    let odd : s % 2 ≡ 1 = sym (bit_first s) ∙ e in
    (omega arith, bit_first (s - 1) ∙ omega arith)
bit_out s (suc v) e =
    let power : 2 ^ suc v ≡ 2 * 2 ^ v = pow-succ' 2 v in
    let less = bit_out (s / 2) v (sym (bit_next s v) ∙ e) in
    let below : 2 ^ v ≤ s / 2 = less.0 in
    let half : (s - 2 ^ suc v) / 2 ≡ s / 2 - 2 ^ v = omega arith in
    (omega arith, bit_next (s - 2 ^ suc v) v ∙ rw half less.1)

-- a variable put into a set changes nothing of another
pub bit_put : (s v u : ℕ) → bit s v ≡ 0 → (u ≡ v → ⊥) → bit (s + 2 ^ v) u ≡ bit s u
bit_put s zero zero e other = absurd (other refl)
bit_put s zero (suc u) e other =
    let half : (s + 2 ^ 0) / 2 ≡ s / 2 = omega (arith, sym (bit_first s) ∙ e) in
    bit_next (s + 2 ^ 0) u ∙ ap (λ (x : ℕ). bit x u) half ∙ sym (bit_next s u)
bit_put s (suc v) zero e other =
    let low : (s + 2 ^ suc v) % 2 ≡ s % 2 = omega (arith, pow-succ' 2 v) in
    bit_first (s + 2 ^ suc v) ∙ low ∙ sym (bit_first s)
bit_put s (suc v) (suc u) e other =
    let half : (s + 2 ^ suc v) / 2 ≡ s / 2 + 2 ^ v = omega (arith, pow-succ' 2 v) in
    bit_next (s + 2 ^ suc v) u ∙ ap (λ (x : ℕ). bit x u) half
    ∙ bit_put (s / 2) v u (sym (bit_next s v) ∙ e) (λ q. other (ap suc q)) ∙ sym (bit_next s u)

-- the set of one variable has no other
pub bit_other : (u v : ℕ) → (u ≡ v → ⊥) → bit (2 ^ u) v ≡ 0
bit_other u v n = rw zero-add at (bit_put 0 u v (bit_none u) (λ e. n (sym e))) ∙ bit_none v

-- without a variable that is there a set lacks it, and what it lacked
pub bit_without : (s v u : ℕ) → bit s v ≡ 1 → (bit s u ≡ 0) ⊎ (u ≡ v) → bit (s - 2 ^ v) u ≡ 0
bit_without s v u e (inr same) = rw same (bit_out s v e).1
bit_without s v u e (inl none) =
    let whole : s - 2 ^ v + 2 ^ v ≡ s = omega (arith, (bit_out s v e).0) in
    let other : u ≡ v → ⊥ = λ q. omega (arith, sym (rw q at none) ∙ e) in
    sym (bit_put (s - 2 ^ v) v u (bit_out s v e).1 other) ∙ rw whole none

-- a set with a variable in it: as it was, or the variable put in
pub with_cases : (P : ℕ → Type 0) (s v : ℕ) → (bit s v ≡ 1 → P s) → (bit s v ≡ 0 → P (s + 2 ^ v)) → P (with_variable s v)
unfolding with_variable
with_cases P s v held put = ⊎_elim
    (λ (e : bit s v ≡ 0). rw (e, one-mul) (put e))
    (λ (e : bit s v ≡ 1). rw (e, zero-mul, add-zero) (held e))
    (bit_cases s v)

-- a set with a variable in it has of the others what it had
pub bit_with : (s v u : ℕ) → (u ≡ v → ⊥) → bit (with_variable s v) u ≡ bit s u
bit_with s v u other = with_cases (λ t. bit t u ≡ bit s u) s v (λ e. refl) (λ e. bit_put s v u e other)

-- a set below 2^n that lacks variable v below n is below 2^n with it, too
put_under : (n s v : ℕ) → bit s v ≡ 0 → v < n → s < 2 ^ n → s + 2 ^ v < 2 ^ n
put_under zero s v e l h = absurd (omega arith)
put_under (suc n) s zero e l h =
    let even : s % 2 ≡ 0 = sym (bit_first s) ∙ e in
    omega (arith, pow-succ' 2 n)
put_under (suc n) s (suc v) e l h =
    let half : s / 2 < 2 ^ n = omega (arith, pow-succ' 2 n) in
    omega (arith, pow-succ' 2 n, pow-succ' 2 v, put_under n (s / 2) v (sym (bit_next s v) ∙ e) (omega arith) half)

-- sets below 2^n have variables below n put in, and stay below 2^n
pub with_variable_under : (n s v : ℕ) → v < n → s < 2 ^ n → with_variable s v < 2 ^ n
with_variable_under n s v l h = with_cases (λ t. t < 2 ^ n) s v (λ e. h) (λ e. put_under n s v e l h)

-- a set that lacks its top variable is below it
below_top : (n s : ℕ) → s < 2 ^ suc n → bit s n ≡ 0 → s < 2 ^ n
below_top zero s h e = omega (arith, sym (bit_first s) ∙ e)
below_top (suc n) s h e =
    let half : s / 2 < 2 ^ n = below_top n (s / 2) (omega (arith, pow-succ' 2 (suc n))) (sym (bit_next s n) ∙ e) in
    omega (arith, pow-succ' 2 n)

-- a set at or above the power of k has a variable from k up
pub high_variable : (k n s : ℕ) → s < 2 ^ n → 2 ^ k ≤ s → (v : ℕ) × (k ≤ v) × (v < n) × (bit s v ≡ 1)
high_variable k zero s h l = absurd (omega (arith, pow_pos k))
high_variable k (suc n) s h l = ⊎_elim
    (λ (e : bit s n ≡ 0). let v = high_variable k n s (below_top n s h e) l in (v.0, v.1, omega (arith, v.2), v.3))
    (λ (e : bit s n ≡ 1). (n, omega (arith, top), omega arith, e))
    (bit_cases s n)
  where
    top : suc n ≤ k → ⊥
    top a = omega (arith, pow_mono {i = suc n} {j = k} a)

-- the low bits of two numbers, one above the other
pub bit_low : (n a b i : ℕ) → i < n → bit (a + 2 ^ n * b) i ≡ bit a i
bit_low zero a b i l = absurd (omega arith)
bit_low (suc n) a b zero l =
    let power : 2 ^ suc n * b ≡ 2 * (2 ^ n * b) = rw (pow-succ', mul_assoc) in
    rw (bit_first (a + 2 ^ suc n * b), bit_first a) (omega arith)
bit_low (suc n) a b (suc i) l =
    let power : 2 ^ suc n * b ≡ 2 * (2 ^ n * b) = rw (pow-succ', mul_assoc) in
    let half : (a + 2 ^ suc n * b) / 2 ≡ a / 2 + 2 ^ n * b = omega arith in
    rw (bit_next (a + 2 ^ suc n * b) i, half, bit_next a i) (bit_low n (a / 2) b i (omega arith))

-- and the high bits
pub bit_high : (n a b j : ℕ) → a < 2 ^ n → bit (a + 2 ^ n * b) (n + j) ≡ bit b j
bit_high zero a b j h = rw (lt-one h, one-mul, zero-add, zero-add)
bit_high (suc n) a b j h =
    let power : 2 ^ suc n * b ≡ 2 * (2 ^ n * b) = rw (pow-succ', mul_assoc) in
    let half : (a + 2 ^ suc n * b) / 2 ≡ a / 2 + 2 ^ n * b = omega arith in
    let next : suc n + j ≡ suc (n + j) = omega arith in
    rw (next, bit_next (a + 2 ^ suc n * b) (n + j), half) (bit_high n (a / 2) b j (omega (arith, pow-succ' 2 n)))

-- both: where one is below the other's power, the bits are those of one or of the other
pub bit_both : (k a b u : ℕ) → a < 2 ^ k → bit (a + 2 ^ k * b) u ≡ bit a u + bit (2 ^ k * b) u
bit_both k a b u h = go (ltb u k) refl
  where
    go : (t : Bool) → ltb u k ≡ t → bit (a + 2 ^ k * b) u ≡ bit a u + bit (2 ^ k * b) u
    go true e =
        let low : u < k = ltb-true u k e in
        let none : bit (2 ^ k * b) u ≡ 0 = rw zero-add at (bit_low k 0 b u low) ∙ bit_none u in
        rw (bit_low k a b u low, none, add-zero)
    go false e =
        let high : k + (u - k) ≡ u = omega (arith, ltb-false u k e) in
        let none : bit a (k + (u - k)) ≡ 0 = rw (mul-zero, add-zero) at (bit_high k a 0 (u - k) h) ∙ bit_none (u - k) in
        let all : bit (2 ^ k * b) (k + (u - k)) ≡ bit b (u - k) = rw zero-add at (bit_high k 0 b (u - k) (pow_pos k)) in
        rw (← high, bit_high k a b (u - k) h, none, all, zero-add)
