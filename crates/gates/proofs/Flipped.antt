-- One variable of a set, as a bit of a number: to ask for it, to take it out, to put it in.
use mathlib.Core.Path.{◌≡◌, refl, ap, sym, ◌∙◌}
use mathlib.Core.Bool.{true, false}
use mathlib.Core.Logic.{◌⊎◌, inl, inr, ⊎_elim}
use Prim.Native.Nat.{ℕ, zero, suc, ◌+◌, ◌-◌, ◌*◌, ◌/◌, ◌%◌, ◌^◌, ◌<◌, ◌≤◌}
use native.Mathlib.Nat.{one-mul, zero-mul, add-zero, mod-lt, mod-eq_of_lt, mul-add-mod_self_right, mul-mod_left, div-eq_of_lt, div_self}
use native.Mathlib.Omega.{arith}
use borrow.Author.Tests.{eqb-true, eqb-false}
use lib.Arith.{bin_ind}
use lib.Bits.{bit_and, bit_xor, differ, and_block, and_mask, and_zero_r, xor_add_and, xor_step, xor_shr}
use lib.Dec.{eqb}
use lib.Pow.{pow_pos, pow-lt, pow-add, split, shl-shr}
use Rattle.rules.specs.Values.{bit}
use Rattle.rules.proofs.Bits.{bit_digit}

-- what the test of a bit found
pub bit_yes : (s v : ℕ) → true ≡ eqb (bit s v) 1 → bit s v ≡ 1
bit_yes s v e = eqb-true (bit s v) 1 (sym e)

pub bit_no : (s v : ℕ) → false ≡ eqb (bit s v) 1 → bit s v ≡ 0
bit_no s v e = let other = eqb-false (bit s v) 1 (sym e) in omega (arith, bit_digit s v)

-- what a set and the set of v alone share
and_power : (s v : ℕ) → bit_and s (2 ^ v) ≡ bit s v * 2 ^ v
unfolding bit
and_power s v =
    let e : s / 2 ^ v * 2 ^ v + s % 2 ^ v ≡ s = split s v in
    let f : 1 * 2 ^ v + 0 ≡ 2 ^ v = rw (add-zero, one-mul) in
    let b : bit_and (s / 2 ^ v * 2 ^ v + s % 2 ^ v) (1 * 2 ^ v + 0) ≡ bit_and (s / 2 ^ v) 1 * 2 ^ v + bit_and (s % 2 ^ v) 0 = and_block v (s / 2 ^ v) 1 (s % 2 ^ v) 0 (mod-lt s (pow_pos v)) (pow_pos v) in
    let o : bit_and (s / 2 ^ v) 1 ≡ s / 2 ^ v % 2 = and_mask (s / 2 ^ v) 1 in
    sym (ap (λ (x : ℕ). bit_and x (1 * 2 ^ v + 0)) e ∙ ap (bit_and s) f) ∙ b ∙ rw (o, and_zero_r, add-zero)

-- v is there: it is taken out
pub flip_off : (s v : ℕ) → bit s v ≡ 1 → bit_xor s (2 ^ v) + 2 ^ v ≡ s
flip_off s v h = omega (arith, xor_add_and s (2 ^ v), and_power s v ∙ ap (λ (x : ℕ). x * 2 ^ v) h ∙ one-mul (2 ^ v))

-- v is not there: it is put in
pub flip_on : (s v : ℕ) → bit s v ≡ 0 → bit_xor s (2 ^ v) ≡ s + 2 ^ v
flip_on s v h = omega (arith, xor_add_and s (2 ^ v), and_power s v ∙ ap (λ (x : ℕ). x * 2 ^ v) h ∙ zero-mul (2 ^ v))

-- the sum of two bits without carry is a bit
differ_lt : (x y : ℕ) → x < 2 → y < 2 → differ x y < 2
differ_lt zero y h k = k
differ_lt (suc x) zero h k = h
differ_lt (suc x) (suc y) h k = differ_lt x y (omega arith) (omega arith)

-- nothing added to a bit
differ_none : (x : ℕ) → differ x 0 ≡ x
differ_none zero = refl
differ_none (suc x) = refl

-- a bit under a mask
bit_of_xor : (s t i : ℕ) → bit (bit_xor s t) i ≡ differ (bit s i) (bit t i)
unfolding bit
bit_of_xor s t i = rw (xor_shr, xor_step, mul-add-mod_self_right) (mod-eq_of_lt (differ_lt (s / 2 ^ i % 2) (t / 2 ^ i % 2) (omega arith) (omega arith)))

-- the set of v alone has no other variable
power_other : (v i : ℕ) → (i ≡ v → ⊥) → bit (2 ^ v) i ≡ 0
unfolding bit
power_other v i n = go (less i v)
  where
    less : (a b : ℕ) → (a ≤ b) ⊎ (b < a)
    less zero b = inl (omega arith)
    less (suc a) zero = inr (omega arith)
    less (suc a) (suc b) = ⊎_elim (λ (q : a ≤ b). inl (omega arith)) (λ (q : b < a). inr (omega arith)) (less a b)

    low : i < v → 2 ^ v / 2 ^ i % 2 ≡ 0
    low h =
        let d : ℕ = v - i - 1 in
        let e : d + 1 + i ≡ v = omega arith in
        let p : 2 ^ v ≡ 2 ^ d * 2 * 2 ^ i = ap (λ (x : ℕ). 2 ^ x) (sym e) ∙ pow-add 2 (d + 1) i ∙ ap (λ (x : ℕ). x * 2 ^ i) (pow-add 2 d 1) in
        rw (p, shl-shr (2 ^ d * 2) i) (mul-mod_left (2 ^ d) 2)

    high : v < i → 2 ^ v / 2 ^ i % 2 ≡ 0
    high h = rw (div-eq_of_lt (pow-lt {i = v} {j = i} h))

    go : (i ≤ v) ⊎ (v < i) → 2 ^ v / 2 ^ i % 2 ≡ 0
    go (inl h) = low (omega (arith, n))
    go (inr h) = high h

-- the other variables stay
pub flip_other : (s v i : ℕ) → (i ≡ v → ⊥) → bit (bit_xor s (2 ^ v)) i ≡ bit s i
flip_other s v i n = bit_of_xor s (2 ^ v) i ∙ ap (differ (bit s i)) (power_other v i n) ∙ differ_none (bit s i)

-- three bits, added without carry in either order
differ_assoc : (x y z : ℕ) → x < 2 → y < 2 → z < 2 → differ (differ x y) z ≡ differ x (differ y z)
differ_assoc zero y z a b c = refl
differ_assoc (suc zero) zero z a b c = refl
differ_assoc (suc zero) (suc zero) zero a b c = refl
differ_assoc (suc zero) (suc zero) (suc zero) a b c = refl
differ_assoc (suc zero) (suc zero) (suc (suc z)) a b c = absurd (omega arith)
differ_assoc (suc zero) (suc (suc y)) z a b c = absurd (omega arith)
differ_assoc (suc (suc x)) y z a b c = absurd (omega arith)

-- all bits but the last, under a mask
xor_half : (a b : ℕ) → bit_xor a b / 2 ≡ bit_xor (a / 2) (b / 2)
xor_half a b = xor_shr a b 1

-- the last bit, under a mask
xor_odd : (a b : ℕ) → bit_xor a b % 2 ≡ differ (a % 2) (b % 2)
xor_odd a b = rw (xor_step, mul-add-mod_self_right) (mod-eq_of_lt (differ_lt (a % 2) (b % 2) (omega arith) (omega arith)))

-- two masks, one after the other, are one mask
pub xor_assoc : (a b c : ℕ) → bit_xor (bit_xor a b) c ≡ bit_xor a (bit_xor b c)
xor_assoc a = bin_ind (λ (n : ℕ). (b c : ℕ) → bit_xor (bit_xor n b) c ≡ bit_xor n (bit_xor b c)) (λ b c. refl)
    (λ n ih b c. xor_step (bit_xor n b) c ∙ ap (λ (x : ℕ). bit_xor x (c / 2) * 2 + differ (bit_xor n b % 2) (c % 2)) (xor_half n b) ∙ ap (λ (x : ℕ). x * 2 + differ (bit_xor n b % 2) (c % 2)) (ih (b / 2) (c / 2))
    ∙ ap (λ (x : ℕ). bit_xor (n / 2) (bit_xor (b / 2) (c / 2)) * 2 + x) (ap (λ (x : ℕ). differ x (c % 2)) (xor_odd n b) ∙ differ_assoc (n % 2) (b % 2) (c % 2) (omega arith) (omega arith) (omega arith) ∙ ap (differ (n % 2)) (sym (xor_odd b c)))
    ∙ ap (λ (x : ℕ). bit_xor (n / 2) x * 2 + differ (n % 2) (bit_xor b c % 2)) (sym (xor_half b c)) ∙ sym (xor_step n (bit_xor b c))) a

-- the set of v alone has v
power_same : (v : ℕ) → bit (2 ^ v) v ≡ 1
unfolding bit
power_same v = rw (div_self (pow_pos v))

-- v was not there: now it is
pub flip_same : (s v : ℕ) → bit s v ≡ 0 → bit (bit_xor s (2 ^ v)) v ≡ 1
flip_same s v e = bit_of_xor s (2 ^ v) v ∙ rw (e, power_same v)
