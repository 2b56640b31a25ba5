-- The bits of an operand, each with its weight; the specification is the product of two such sums, and the sum of c's bits.
use mathlib.Core.Path.{◌≡◌, refl, ap, sym, ◌∙◌}
use mathlib.Core.Bool.{Bool, true, false, xor, cond, ◌&&◌}
use mathlib.Core.List.{List, [], ◌∷◌}
use Prim.Native.Nat.{ℕ, suc, ◌+◌, ◌-◌, ◌*◌, ◌%◌, ◌^◌, ◌<◌}
use native.Mathlib.Nat.{add_comm, mul_assoc, one-le-pow}
use native.Mathlib.Omega.{arith}
use lib.Dec.{eqb}
use lib.Pow.{pow-add}
use borrow.Author.Tests.{eq-eqb, ne_eqb}
use Rattle.rules.specs.Each.{sum, joined}
use Rattle.rules.specs.Product.{Kind, complement, operand_width, addend_width, outputs_of, modulo, below_zero, product_term, addend_term, specification}
use Rattle.rules.specs.Polynomial.{minus, times_literal}
use Rattle.rules.specs.Netlist.{output}
use Rattle.rules.specs.declared.counts.Counts.{Counts}
use Rattle.rules.specs.Steps.{modulus, start_terms}
use Rattle.rules.proofs.Indices.{sum_same}
use Rattle.rules.proofs.Remainders.{same_add, same_mul, modulo_cond, modulo_rest, modulo_mul, sum_mod, sum_factor}
use Rattle.rules.proofs.Weighed.{weighed, weighed_append, weighed_joined, weighed_one, weighed_minus}
use Rattle.demands.specs.Polynomials.{plain_operand, signed_operand, plain_outputs}

-- bit i is the top bit of an operand that is in two's complement, and weighs -2^i
unfoldable pub top_bit : Bool → ℕ → ℕ → Bool
top_bit two n i = two && eqb (suc i) n

-- the weight of bit i modulo m
unfoldable pub bit_weight : Bool → ℕ → ℕ → ℕ → ℕ
bit_weight two m n i = cond (top_bit two n i) ((m - 1) * 2 ^ i) (2 ^ i)

-- the sum of the bits' weights, each times a number of the bit
unfoldable pub operand_sum : Bool → ℕ → ℕ → (ℕ → ℕ) → ℕ
operand_sum two m n number = sum n (λ i. bit_weight two m n i * number i)

-- the product of two operands' bits, each weighed, where a weight is given to every set of two bits
unfoldable pub product_sum : Bool → ℕ → ℕ → (ℕ → ℕ) → ℕ
product_sum two m n weight = operand_sum two m n (λ i. operand_sum two m n (λ j. weight (2 ^ (1 + i) + 2 ^ (n + 1 + j))))

-- the sum of 2^k c_k, where a weight is given to every set of one bit
unfoldable pub addend_sum : Kind → ℕ → (ℕ → ℕ) → ℕ
addend_sum kind n weight = sum (addend_width kind n) (λ k. 2 ^ k * weight (2 ^ (2 * n + 1 + k)))

-- an operand weighed
pub weighed_plain_operand : (weight : ℕ → ℕ) (n v : ℕ) → weighed weight (plain_operand n v) ≡ sum n (λ i. 2 ^ i * weight (2 ^ (v + i)))
unfolding plain_operand
weighed_plain_operand weight n v =
    weighed_joined weight n (λ i. (2 ^ i, 2 ^ (v + i)) ∷ [])
    ∙ sum_same n _ _ (λ i l. weighed_one weight (2 ^ i) (2 ^ (v + i)))

-- where it is plain the weights are the powers of 2
pub plain_sum : (m n : ℕ) (number : ℕ → ℕ) → operand_sum false m n number ≡ sum n (λ i. 2 ^ i * number i)
unfolding operand_sum bit_weight top_bit
plain_sum m n number = refl

-- in two's complement those below the top bit are
pub signed_sum : (m k : ℕ) (number : ℕ → ℕ)
    → operand_sum true m (suc k) number ≡ sum k (λ i. 2 ^ i * number i) + (m - 1) * 2 ^ k * number k
unfolding operand_sum sum bit_weight top_bit
signed_sum m k number =
    rw (eq-eqb (suc k) (suc k) refl)
    (ap (λ (x : ℕ). x + (m - 1) * 2 ^ k * number k) (sum_same k _ _ (λ i l. low i (ne_eqb (suc i) (suc k) (λ e. omega arith)))))
  where
    low : (i : ℕ) → eqb (suc i) (suc k) ≡ false → cond (eqb (suc i) (suc k)) ((m - 1) * 2 ^ i) (2 ^ i) * number i ≡ 2 ^ i * number i
    low i e = rw e

-- an operand in two's complement weighed
pub weighed_signed_operand : (weight : ℕ → ℕ) (m k v : ℕ)
    → weighed weight (signed_operand m (suc k) v) ≡ operand_sum true m (suc k) (λ i. weight (2 ^ (v + i)))
unfolding signed_operand
weighed_signed_operand weight m k v =
    let less : suc k - 1 ≡ k = omega arith in
    rw (
      less,
      signed_sum m k (λ i. weight (2 ^ (v + i))),
      weighed_append weight (minus m ((2 ^ k, 2 ^ (v + k)) ∷ [])) (plain_operand k v),
      weighed_minus weight m ((2 ^ k, 2 ^ (v + k)) ∷ []),
      weighed_one weight (2 ^ k) (2 ^ (v + k)),
      weighed_plain_operand weight k v,
      mul_assoc,
    )
    (add_comm _ _)

-- the sign of two bits together: exactly one of them is a top bit
signs : (two p q : Bool) → xor (two && p) (two && q) ≡ (two && xor p q)
unfolding xor
signs true p q = refl
signs false p q = refl

module _ (kind : Kind) (m n : ℕ) (positive : 0 < m) where
  -- the weight of bit i as the kind reads it
  abbrev weighs : ℕ → ℕ
  weighs i = bit_weight (complement kind) m n i

  -- the sign and the size of a bit's weight
  bit_sign : (i : ℕ) → weighs i % m ≡ modulo m (top_bit (complement kind) n i) (2 ^ i)
  unfolding bit_weight
  bit_sign i = sym (modulo_cond m positive (top_bit (complement kind) n i) (2 ^ i))

  -- the coefficient of a product's term is the product of the two weights
  product_coefficient : (i j : ℕ) → (product_term kind m n i j).0 % m ≡ (weighs i * weighs j) % m
  unfolding product_term below_zero top_bit
  product_coefficient i j =
      modulo_rest m positive (below_zero kind n i j) (2 ^ (i + j))
      ∙ rw (← signs (complement kind) (eqb (suc i) n) (eqb (suc j) n), pow-add 2 i j)
      (sym (modulo_mul m positive (top_bit (complement kind) n i) (top_bit (complement kind) n j) (weighs i) (weighs j) (2 ^ i) (2 ^ j) (bit_sign i) (bit_sign j)))

  -- a product's term weighed
  weighed_cell : (weight : ℕ → ℕ) (i j : ℕ)
      → weighed weight (product_term kind m n i j ∷ []) % m ≡ (weighs i * (weighs j * weight (2 ^ (1 + i) + 2 ^ (n + 1 + j)))) % m
  unfolding product_term
  weighed_cell weight i j =
      rw (weighed_one weight (product_term kind m n i j).0 (product_term kind m n i j).1)
      (same_mul m _ _ _ _ (product_coefficient i j) refl ∙ rw mul_assoc)

  -- the product's terms weigh the product of the operands' bits
  weighed_product : (weight : ℕ → ℕ)
      → weighed weight (joined n (λ i. joined n (λ j. product_term kind m n i j ∷ []))) % m ≡ product_sum (complement kind) m n weight % m
  unfolding product_sum operand_sum
  weighed_product weight =
      rw (weighed_joined weight n (λ i. joined n (λ j. product_term kind m n i j ∷ []))) (sum_mod m n _ _ (λ i l. row i))
    where
      row : (i : ℕ) → weighed weight (joined n (λ j. product_term kind m n i j ∷ [])) % m
          ≡ (weighs i * sum n (λ j. weighs j * weight (2 ^ (1 + i) + 2 ^ (n + 1 + j)))) % m
      row i =
          rw (weighed_joined weight n (λ j. product_term kind m n i j ∷ []), ← sum_factor n (weighs i))
          (sum_mod m n _ _ (λ j l. weighed_cell weight i j))

  -- the terms of c weigh the sum of its bits
  weighed_addend : (weight : ℕ → ℕ) → weighed weight (joined (addend_width kind n) (λ k. addend_term n k ∷ [])) ≡ addend_sum kind n weight
  unfolding addend_term addend_sum
  weighed_addend weight =
      weighed_joined weight (addend_width kind n) (λ k. addend_term n k ∷ [])
      ∙ sum_same (addend_width kind n) _ _ (λ k l. weighed_one weight (2 ^ k) (2 ^ (2 * n + 1 + k)))

  -- the specification weighs the product of the operands' bits and the sum of c's
  weighed_specification : (weight : ℕ → ℕ)
      → weighed weight (specification kind m n) % m ≡ (product_sum (complement kind) m n weight + addend_sum kind n weight) % m
  unfolding specification
  weighed_specification weight =
      rw (weighed_append weight (joined n (λ i. joined n (λ j. product_term kind m n i j ∷ []))) _, weighed_addend weight)
      (same_add m _ _ _ _ (weighed_product weight) refl)

-- a power of 2 is not 0
pub modulus_positive : (kind : Kind) (c : Counts) → 0 < modulus kind c
unfolding modulus
modulus_positive kind c = one-le-pow (outputs_of kind (operand_width kind c)) 2 (omega arith)

-- the specification's bits weighed, as a block of the kind has them
abbrev pub specified_sum : Kind → Counts → (ℕ → ℕ) → ℕ
specified_sum kind c weight =
    product_sum (complement kind) (modulus kind c) (operand_width kind c) weight + addend_sum kind (operand_width kind c) weight

-- the start's terms weighed: the outputs less the specification
pub weighed_start : (kind : Kind) (c : Counts) (table : List ℕ) (weight : ℕ → ℕ)
    → weighed weight (start_terms kind c table) % modulus kind c
    ≡ (weighed weight (plain_outputs (modulus kind c) table c.o) + (modulus kind c - 1) * specified_sum kind c weight) % modulus kind c
unfolding start_terms plain_outputs
weighed_start kind c table weight =
    let m = modulus kind c in
    rw (
      weighed_append weight (joined c.o (λ i. times_literal m (output table i) ((2 ^ i, 0) ∷ []))) _,
      weighed_minus weight m (specification kind m (operand_width kind c)),
    )
    (same_add m _ _ _ _ refl (same_mul m _ _ _ _ refl (weighed_specification kind m (operand_width kind c) (modulus_positive kind c) weight)))
