-- Laws of a coefficient times a whole number.
use Rattle.std.proofs.Common.{◌≡◌, ℕ, zero, suc, ◌+◌, ◌-◌, ◌*◌, ◌%◌, ◌^◌, ◌<◌, ◌≤◌, Bool, true, false, ltb, ℤ, pos, negsuc, refl, ap, sym, ◌∙◌, add-zero, zero-add, zero-mul, suc-mul, add-mul, mul_comm, mul_assoc, pow-add, arith}
use native.Mathlib.Nat.{mul-add, add-mod-mod, add-mul-mod_self_right}
use mir.Syntax.{w16, w64}
use lib.IntN.{nat_abs, pos-ne-negsuc}
use mir.Val.{SFits, to_z, of_z, sel}
use mir.Facts.{to_z-of_z}
use Rattle.words.proofs.Writing.{drop_wrap}
use Rattle.rules.specs.Cells.{above, below, scaled}

-- a multiplier that is not 0 leaves something of a coefficient
pub scaled_some : (m : ℕ) (k : ℤ) (c : ℕ) → (k ≡ pos 0 → ⊥) → 1 ≤ c → c < m → 0 < scaled m k c
unfolding scaled above below
scaled_some m (pos zero) c e l h = absurd (e refl)
scaled_some m (pos (suc k)) c e l h = omega (arith, suc-mul k c)
scaled_some m (negsuc k) c e l h = omega (arith, suc-mul k (m - c))

-- the whole number of some bits
pub from_bits : (z : ℤ) (n : ℕ) → SFits w16 z → of_z w16 z ≡ n → z ≡ to_z w16 n
from_bits z n f e = sym (to_z-of_z {w = w16} {z = z} f) ∙ ap (to_z w16) e

-- bits that are not 0 are no 0
pub some_bits : (n : ℕ) → (n ≡ 0 → ⊥) → to_z w16 n ≡ pos 0 → ⊥
some_bits n h = go (ltb n (2 ^ 15))
  where
    go : (b : Bool) → sel b (pos n) (negsuc (2 ^ 16 - suc n)) ≡ pos 0 → ⊥
    go true e = h (ap nat_abs e)
    go false e = pos-ne-negsuc 0 (2 ^ 16 - suc n) (sym e)

-- what wraps at 64 bits is the same modulo 2^l
wrapped : (c n l : ℕ) → l ≤ 64 → (c + n % 2 ^ 64) % 2 ^ l ≡ (c + n) % 2 ^ l
wrapped c n l h = rw (← add-mod-mod c (n % 2 ^ 64) (2 ^ l), drop_wrap n l h, add-mod-mod)

-- a whole number, as 64 bits hold it, times x
pub times_whole : (c x l : ℕ) (k : ℤ) → SFits w16 k → l ≤ 64 → x ≤ 2 ^ l → (c + of_z w64 k * x % 2 ^ 64) % 2 ^ l ≡ (c + scaled (2 ^ l) k x) % 2 ^ l
unfolding scaled above below
times_whole c x l (pos n) f h d = wrapped c (n * x) l h ∙ rw (zero-mul, add-zero)
times_whole c x l (negsuc n) f h d =
    let t = 2 ^ 64 - suc n in
    let q = 2 ^ (64 - l) * x in
    let e : 64 - l + l ≡ 64 = omega arith in
    let high : 2 ^ 64 * x ≡ q * 2 ^ l =
    rw (mul_assoc (2 ^ (64 - l)) x (2 ^ l), mul_comm x (2 ^ l), ← mul_assoc (2 ^ (64 - l)) (2 ^ l) x, ← pow-add 2 (64 - l) l, e) in
    let low : suc n * 2 ^ l ≡ suc n * x + suc n * (2 ^ l - x) = ap (λ (z : ℕ). suc n * z) (omega arith) ∙ mul-add (suc n) x (2 ^ l - x) in
    let all : t * x + suc n * x ≡ 2 ^ 64 * x = sym (add-mul t (suc n) x) ∙ ap (λ (z : ℕ). z * x) (omega (arith, f.sfits)) in
    let same : c + t * x + suc n * 2 ^ l ≡ c + suc n * (2 ^ l - x) + q * 2 ^ l = omega arith in
    wrapped c (t * x) l h ∙ sym (add-mul-mod_self_right (c + t * x) (suc n) (2 ^ l)) ∙ ap (λ (z : ℕ). z % 2 ^ l) same ∙ add-mul-mod_self_right (c + suc n * (2 ^ l - x)) q (2 ^ l) ∙ rw (zero-mul, zero-add)
