-- Coefficients times whole numbers, modulo m.
use mathlib.Core.Path.{◌≡◌, refl, ap, sym, ◌∙◌}
use mathlib.Core.Bool.{Bool, true, false, cond}
use Prim.Native.Nat.{ℕ, suc, ◌+◌, ◌-◌, ◌*◌, ◌%◌, ◌≤◌}
use native.Mathlib.Nat.{add-mul, zero-mul, one-mul, add-zero, zero-add, add-mul-mod_self_right}
use native.Mathlib.Omega.{arith}
use lib.Dec.{ltb}
use lib.IntN.{ℤ, pos, negsuc, sub_ℕ, ◌+ℤ◌}
use lib.Signed.{mag}
use mir.Syntax.{w8, w16}
use mir.Facts.{to_z-of_z}
use mir.Val.{SFits, to_z, of_z}
use borrow.Author.Rules.{sfits_of}
use borrow.Author.Tests.{ltb-true}
use Rattle.rules.specs.Cells.{above, below, scaled}
use Rattle.rules.proofs.CellRule.{whole_sub}

-- a sum of whole numbers, by how far each lies above 0 and below
pub whole_add : (a b : ℤ) → above (a +ℤ b) + (below a + below b) ≡ above a + above b + below (a +ℤ b)
unfolding above below
whole_add (pos a) (pos b) = omega arith
whole_add (pos a) (negsuc b) = omega (arith, whole_sub a (suc b))
whole_add (negsuc a) (pos b) = omega (arith, whole_sub b (suc a))
whole_add (negsuc a) (negsuc b) = omega arith

-- equal whole numbers scale alike modulo m: P - N is p - n
balanced : (m c P N p n : ℕ) → c ≤ m → P + n ≡ p + N → (P * c + N * (m - c)) % m ≡ (p * c + n * (m - c)) % m
balanced m c P N p n h e =
    let left : P * c + N * (m - c) + n * m ≡ (P + n) * c + (N + n) * (m - c) =
    let w : n * m ≡ n * c + n * (m - c) = ap (λ (x : ℕ). n * x) whole ∙ spread n in
    omega (arith, w, add-mul P n c, add-mul N n (m - c)) in
    let right : p * c + n * (m - c) + N * m ≡ (p + N) * c + (n + N) * (m - c) =
    let w : N * m ≡ N * c + N * (m - c) = ap (λ (x : ℕ). N * x) whole ∙ spread N in
    omega (arith, w, add-mul p N c, add-mul n N (m - c)) in
    let same : P * c + N * (m - c) + n * m ≡ p * c + n * (m - c) + N * m = left ∙ ap (λ (x : ℕ). x * c + (N + n) * (m - c)) e ∙ ap (λ (x : ℕ). (p + N) * c + x * (m - c)) swap ∙ sym right in
    sym (add-mul-mod_self_right (P * c + N * (m - c)) n m) ∙ ap (λ (x : ℕ). x % m) same ∙ add-mul-mod_self_right (p * c + n * (m - c)) N m
  where
    whole : m ≡ c + (m - c)
    whole = omega arith

    swap : N + n ≡ n + N
    swap = omega arith

    spread : (k : ℕ) → k * (c + (m - c)) ≡ k * c + k * (m - c)
    spread k = omega arith

-- times a sum
pub scaled_add : (m c : ℕ) (a b : ℤ) → c ≤ m → (scaled m a c + scaled m b c) % m ≡ scaled m (a +ℤ b) c % m
unfolding scaled
scaled_add m c a b h =
    let e : above a * c + below a * (m - c) + (above b * c + below b * (m - c)) ≡ (above a + above b) * c + (below a + below b) * (m - c) = omega (arith, add-mul (above a) (above b) c, add-mul (below a) (below b) (m - c)) in
    ap (λ (x : ℕ). x % m) e ∙ balanced m c (above a + above b) (below a + below b) (above (a +ℤ b)) (below (a +ℤ b)) h (omega (arith, whole_add a b))

-- none of a coefficient
pub scaled_none : (m : ℕ) (k : ℤ) (c : ℕ) → k ≡ pos 0 → scaled m k c ≡ 0
unfolding scaled above below
scaled_none m k c e = rw (e, zero-mul, zero-mul)

-- once a coefficient
pub scaled_one : (m : ℕ) (k : ℤ) (c : ℕ) → k ≡ pos 1 → scaled m k c ≡ c
unfolding scaled above below
scaled_one m k c e = rw (e, one-mul, zero-mul, add-zero)

-- and once its negative
pub scaled_negated : (m : ℕ) (k : ℤ) (c : ℕ) → k ≡ negsuc 0 → scaled m k c ≡ m - c
unfolding scaled above below
scaled_negated m k c e = rw (e, zero-mul, zero-add, one-mul)

-- a whole number that lies neither above 0 nor below
pub whole_none : (z : ℤ) → above z + below z ≡ 0 → z ≡ pos 0
unfolding above below
whole_none (pos k) e = ap pos (omega arith)
whole_none (negsuc k) e = absurd (omega arith)

-- a difference lies at most as far from 0 as the larger of the two
within_sub : (p n x : ℕ) → p ≤ x → n ≤ x → (above (sub_ℕ p n) ≤ x) × (below (sub_ℕ p n) ≤ x)
unfolding above below
within_sub p n x h k = go (ltb p n) refl
  where
    go : (t : Bool) → ltb p n ≡ t → (above (cond t (negsuc (n - suc p)) (pos (p - n))) ≤ x) × (below (cond t (negsuc (n - suc p)) (pos (p - n))) ≤ x)
    go true e = (omega arith, omega (arith, ltb-true p n e))
    go false e = (omega arith, omega arith)

-- a sum lies at most as far from 0 as both together
pub whole_within : (a b : ℤ) (x y : ℕ) → (above a ≤ x) × (below a ≤ x) → (above b ≤ y) × (below b ≤ y)
    → (above (a +ℤ b) ≤ x + y) × (below (a +ℤ b) ≤ x + y)
unfolding above below
whole_within (pos a) (pos b) x y h k = (omega (arith, h.0, k.0), omega arith)
whole_within (pos a) (negsuc b) x y h k = within_sub a (suc b) (x + y) (omega (arith, h.0)) (omega (arith, k.1))
whole_within (negsuc a) (pos b) x y h k = within_sub b (suc a) (x + y) (omega (arith, k.0)) (omega (arith, h.1))
whole_within (negsuc a) (negsuc b) x y h k = (omega arith, omega (arith, h.1, k.1))

-- how far from 0 it lies, as the words of 16 bits count it
mag_within : (z : ℤ) (x : ℕ) → (above z ≤ x) × (below z ≤ x) → mag z ≤ x
unfolding above below
mag_within (pos k) x h = h.0
mag_within (negsuc k) x h = omega (arith, h.1)

-- such a sum has room in 16 bits
pub sum_fits : (a b : ℤ) → (above a ≤ 864) × (below a ≤ 864) → (above b ≤ 864) × (below b ≤ 864) → SFits w16 (a +ℤ b)
sum_fits a b h k = sfits_of (omega (arith, mag_within (a +ℤ b) 1728 (whole_within a b 864 864 h k)))

-- a whole number near 0, written in 16 bits and read back
pub read_back : (z : ℤ) → (above z ≤ 1728) × (below z ≤ 1728) → to_z w16 (of_z w16 z) ≡ z
read_back z h = to_z-of_z {w = w16} (sfits_of (omega (arith, mag_within z 1728 h)))

-- so in 8 bits, where it lies nearer
pub read_back_narrow : (z : ℤ) → (above z ≤ 4) × (below z ≤ 4) → to_z w8 (of_z w8 z) ≡ z
read_back_narrow z h = to_z-of_z {w = w8} (sfits_of (omega (arith, mag_within z 4 h)))
