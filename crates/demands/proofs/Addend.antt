-- c's own reading makes no difference to the word.
use mathlib.Core.Path.{◌≡◌, refl, sym}
use mathlib.Core.Bool.{Bool, true, false, cond, true≢false}
use Prim.Native.Nat.{ℕ, ◌-◌, ◌*◌, ◌%◌, ◌^◌, ◌<◌, ◌≤◌}
use native.Mathlib.Nat.{mod-mod, mod-lt, mod-eq_of_lt}
use native.Mathlib.Omega.{arith}
use lib.Dec.{leb}
use lib.Pow.{pow_pos}
use borrow.Author.Tests.{leb-true}
use Rattle.rules.specs.Product.{Kind, plain, signed, truncated, multiply_add, multiply_add_signed, complement, adds, addend_width, outputs_of, operand, negative, size, modulo, wanted_word}
use Rattle.demands.specs.Polynomials.{AddendEither}

-- a number of k bits in two's complement is, modulo 2^k, its bits
two_same : (k x : ℕ) → modulo (2 ^ k) (negative signed k x) (size signed k x) ≡ x % 2 ^ k
unfolding negative size operand complement modulo
two_same k x = go (leb (2 ^ (k - 1)) (x % 2 ^ k)) refl
  where
    go : (t : Bool) → leb (2 ^ (k - 1)) (x % 2 ^ k) ≡ t → modulo (2 ^ k) t (cond t (2 ^ k - x % 2 ^ k) (x % 2 ^ k)) ≡ x % 2 ^ k
    go true e =
        let low : x % 2 ^ k < 2 ^ k = mod-lt x (pow_pos k) in
        let some : 2 ^ (k - 1) ≤ x % 2 ^ k = leb-true _ _ e in
        let far : (2 ^ k - x % 2 ^ k) % 2 ^ k ≡ 2 ^ k - x % 2 ^ k = mod-eq_of_lt (omega (arith, pow_pos (k - 1))) in
        let back : 2 ^ k - (2 ^ k - x % 2 ^ k) ≡ x % 2 ^ k = omega arith in
        rw (far, back, mod-mod)
    go false e = mod-mod x (2 ^ k)

-- the kinds that add c have 2n outputs
added_outputs : (kind : Kind) (n : ℕ) → adds kind ≡ true → outputs_of kind n ≡ 2 * n
unfolding adds outputs_of
added_outputs plain n h = refl
added_outputs signed n h = refl
added_outputs truncated n h = absurd (true≢false (sym h))
added_outputs multiply_add n h = refl
added_outputs multiply_add_signed n h = refl

-- c read as two's complement gives the same word
pub addend_either : AddendEither
unfolding wanted_word addend_width operand
addend_either kind n a b c added = rw (added_outputs kind n added, added, two_same (2 * n) c)
