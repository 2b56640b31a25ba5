-- The coefficient of a product, and its sign.
use mathlib.Core.Path.{◌≡◌, refl, ap, sym, ◌∙◌}
use mathlib.Core.Bool.{Bool, true, false, cond, not, xor, ◌&&◌, beq}
use Prim.Native.Nat.{ℕ, suc, ◌+◌, ◌-◌, ◌%◌, ◌^◌, ◌<◌, ◌≤◌}
use native.Mathlib.Nat.{zero-add, sub-zero, mod-eq_of_lt, mod-mod, mod_self, mul-mod_left}
use native.Mathlib.Numerals.{add-one}
use native.Mathlib.Omega.{arith}
use lib.Dec.{eqb}
use lib.Pow.{pow_pos, pow-add, pow-lt}
use Rattle.rules.specs.Product.{Kind, kind_of, complement, below_zero, product_term}
use Rattle.rules.proofs.Remainders.{modulo_rest, modulo_turned}
use Rattle.words.proofs.Numbers.{one_shifted}
use Rattle.start.specs.Start.{pair_weight}
use Rattle.start.proofs.Weighing.{shifted_le}

-- the code's test is the sign
pub sign_test : (two : Bool) (kind n i j : ℕ) → two ≡ complement (kind_of kind)
    → (two && not (beq (eqb (i + 1) n) (eqb (j + 1) n))) ≡ below_zero (kind_of kind) n i j
unfolding below_zero xor
sign_test two kind n i j e = rw (e, add-one i, add-one j, go (eqb (suc i) n) (eqb (suc j) n))
  where
    go : (a b : Bool) → not (beq a b) ≡ xor a b
    go true true = refl
    go true false = refl
    go false true = refl
    go false false = refl

-- the coefficient of a_i b_j modulo 2^l
module _ (kind : Kind) (l n j i : ℕ) where
  -- plus where the sign in the product is minus, and minus otherwise
  weight_form : pair_weight kind (2 ^ l) n j i ≡ cond (below_zero kind n i j) (2 ^ (i + j) % 2 ^ l) (2 ^ l - 2 ^ (i + j) % 2 ^ l) % 2 ^ l
  unfolding pair_weight product_term
  weight_form = sym (modulo_turned (2 ^ l) (pow_pos l) (below_zero kind n i j) _ (2 ^ (i + j)) (modulo_rest (2 ^ l) (pow_pos l) _ _))

  -- 0 from 2^l on
  pub weight_none : l ≤ i + j → 0 ≡ pair_weight kind (2 ^ l) n j i
  weight_none h = rw weight_form (go (below_zero kind n i j))
    where
      none : 2 ^ (i + j) % 2 ^ l ≡ 0
      none =
          let e : i + j ≡ (i + j - l) + l = omega arith in
          ap (λ (k : ℕ). 2 ^ k % 2 ^ l) e ∙ rw (pow-add 2 (i + j - l) l) (mul-mod_left _ _)

      go : (t : Bool) → 0 ≡ cond t (2 ^ (i + j) % 2 ^ l) (2 ^ l - 2 ^ (i + j) % 2 ^ l) % 2 ^ l
      go true = rw mod-mod (sym none)
      go false = rw (none, sub-zero) (sym (mod_self _))

  -- below 2^l nothing is dropped
  low : i + j < l → 2 ^ (i + j) % 2 ^ l ≡ 2 ^ (i + j)
  low h = mod-eq_of_lt (pow-lt h)

  -- plus where the sign is minus
  pub weight_plus : i + j < l → below_zero kind n i j ≡ true → 2 ^ (i + j) ≡ pair_weight kind (2 ^ l) n j i
  weight_plus h b = rw (weight_form, b, mod-mod, low h)

  -- minus otherwise
  pub weight_minus : i + j < l → below_zero kind n i j ≡ false → (0 + (2 ^ l - 2 ^ (i + j))) % 2 ^ l ≡ pair_weight kind (2 ^ l) n j i
  weight_minus h b = rw (weight_form, b, low h, zero-add)

-- what a product's coefficient is, by its test
pub ruleset product_weights = (weight_none, weight_plus, weight_minus, one_shifted, shifted_le)
