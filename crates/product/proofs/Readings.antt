-- How the code's words stand for the operands as they are read, and for their product.
use Rattle.std.proofs.Common.{◌≡◌, ℕ, ◌+◌, ◌-◌, ◌*◌, ◌/◌, ◌%◌, ◌^◌, ◌<◌, ◌≤◌, Bool, true, false, cond, ◌&&◌, eqb, ltb, leb, sym, refl, ap, ◌∙◌, mod-lt, mod-eq_of_lt, mul-le-mul, one-mul, arith, lit<, pow_pos, pow_mono, shl_exact, ltb-false, ltb-true, leb-true}
use mathlib.Core.Bool.{xor}
use native.Mathlib.Nat.{add-mod, zero-mod, mod_self, mod-eq-sub-mod}
use lib.Pow.{mod-mod-pow}
use borrow.Author.Tests.{eqb-false}
use Rattle.rules.specs.Product.{Kind, plain, signed, truncated, multiply_add, multiply_add_signed, complement, adds, shares}
use Rattle.rules.specs.Product.{operand_width, addend_width, outputs_of, operand, negative, size, modulo, product, width_wrong}
use Rattle.rules.specs.declared.counts.Counts.{Counts}
use Rattle.rules.proofs.Indices.{neither}

-- the code's `1 << n`
pub one_shift : (n : ℕ) → n < 64 → 1 * 2 ^ n % 2 ^ 64 ≡ 2 ^ n
one_shift n h = shl_exact 1 n 64 (lit< tt) (omega arith) ∙ one-mul (2 ^ n)

-- the shares are two or four
pub shares_some : (kind : Kind) → 0 < shares kind
unfolding shares
shares_some kind = go (adds kind)
  where
    go : (t : Bool) → 0 < cond t 4 2
    go true = omega arith
    go false = omega arith

-- n is at most half of the inputs
pub width_half : (kind : Kind) (c : Counts) → operand_width kind c ≤ c.i / 2
unfolding operand_width shares
width_half kind c = go (adds kind)
  where
    go : (t : Bool) → c.i / cond t 4 2 ≤ c.i / 2
    go true = omega arith
    go false = omega arith

-- the bits of c fit a word
pub addend_fits : (kind : Kind) (n : ℕ) → n ≤ 32 → addend_width kind n ≤ 64
unfolding addend_width
addend_fits kind n h = go (adds kind)
  where
    go : (t : Bool) → cond t (2 * n) 0 ≤ 64
    go true = omega arith
    go false = omega arith

-- the outputs of a block fit a word
pub outputs_fit : (kind : Kind) (n : ℕ) → n ≤ 32 → outputs_of kind n ≤ 64
unfolding outputs_of
outputs_fit plain n h = omega arith
outputs_fit signed n h = omega arith
outputs_fit truncated n h = omega arith
outputs_fit multiply_add n h = omega arith
outputs_fit multiply_add_signed n h = omega arith

-- an operand of n bits is less than 2^n from 0
pub size_below : (kind : Kind) (n x : ℕ) → size kind n x < 2 ^ n
unfolding size negative operand
size_below kind n x = go (complement kind) (leb (2 ^ (n - 1)) (x % 2 ^ n)) refl
  where
    go : (two t : Bool) → leb (2 ^ (n - 1)) (x % 2 ^ n) ≡ t → cond (two && t) (2 ^ n - x % 2 ^ n) (x % 2 ^ n) < 2 ^ n
    go true true h = omega (arith, leb-true, pow_pos (n - 1), mod-lt x (pow_pos n))
    go true false h = mod-lt x (pow_pos n)
    go false t h = mod-lt x (pow_pos n)

-- so the product of two sizes fits a word
pub far_fits : (n x y : ℕ) → n ≤ 32 → x < 2 ^ n → y < 2 ^ n → x * y < 2 ^ 64
far_fits n x y h k l =
    let p : 2 ^ n ≤ 2 ^ 32 = pow_mono h in
    let a : x ≤ 2 ^ 32 - 1 = omega arith in
    let b : y ≤ 2 ^ 32 - 1 = omega arith in
    omega (arith, mul-le-mul a b)

-- what is taken from 0 in a word is, in its lowest l bits, the number below 0
pub from_zero : (l x r : ℕ) → l ≤ 64 → (r + x) % 2 ^ 64 ≡ 0 → r % 2 ^ l ≡ modulo (2 ^ l) true x
unfolding modulo
from_zero l x r h e =
    go (2 ^ l) (r % 2 ^ l) (x % 2 ^ l) (mod-lt r (pow_pos l)) (mod-lt x (pow_pos l)) (sym (add-mod r x (2 ^ l)) ∙ low)
  where
    low : (r + x) % 2 ^ l ≡ 0
    low =
        let s : 64 - l + l ≡ 64 = omega arith in
        let wrap = ap (λ (k : ℕ). (r + x) % 2 ^ k % 2 ^ l) s in
        sym (mod-mod-pow (r + x) (64 - l) l) ∙ wrap ∙ ap (λ (k : ℕ). k % 2 ^ l) e ∙ zero-mod (2 ^ l)

    small : (m p q : ℕ) → p + q < m → (p + q) % m ≡ 0 → p ≡ (m - q) % m
    small m p q h z =
        let s : p + q ≡ 0 = sym (mod-eq_of_lt h) ∙ z in
        let d : m - q ≡ m = omega arith in
        let y : p ≡ 0 = omega arith in
        rw (d, mod_self, y)

    large : (m p q : ℕ) → p < m → q < m → m ≤ p + q → (p + q) % m ≡ 0 → p ≡ (m - q) % m
    large m p q a b h z =
        let s : p + q - m ≡ 0 = sym (mod-eq_of_lt (omega arith)) ∙ sym (mod-eq-sub-mod h) ∙ z in
        let d : m - q ≡ p = omega arith in
        rw (d, mod-eq_of_lt a)

    go : (m p q : ℕ) → p < m → q < m → (p + q) % m ≡ 0 → p ≡ (m - q) % m
    go m p q a b z = by (ltb (p + q) m) refl
      where
        by : (t : Bool) → ltb (p + q) m ≡ t → p ≡ (m - q) % m
        by true k = small m p q (ltb-true _ _ k) z
        by false k = large m p q a b (ltb-false _ _ k) z

-- the product, from the sizes and the signs
pub product_of : (kind : Kind) (n a b : ℕ) {l x y : ℕ} {p q t : Bool} → l ≡ outputs_of kind n
    → x ≡ size kind n a → y ≡ size kind n b → p ≡ negative kind n a → q ≡ negative kind n b → xor p q ≡ t
    → modulo (2 ^ l) t (x * y) ≡ product kind n a b
unfolding product
product_of kind n a b el ex ey ep eq et = rw (← el, ← ex, ← ey, ← ep, ← eq, et)

-- a width that is not wrong
pub width_right : (kind : Kind) (n : ℕ) → width_wrong kind n ≡ false → (1 ≤ n) × (n ≤ 32)
unfolding width_wrong shares
width_right kind n h =
    let parts = neither (eqb n 0) (ltb (64 / shares kind) n) h in
    (omega (arith, eqb-false n 0 parts.0), go (adds kind) (ltb-false _ _ parts.1))
  where
    go : (t : Bool) → n ≤ 64 / cond t 4 2 → n ≤ 32
    go true l = omega arith
    go false l = omega arith
