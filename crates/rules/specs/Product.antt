-- The five readings: operands and their places, outputs, the wanted word, and the specification polynomial.
use Rattle.std.specs.Prelude.{◌≡◌, Bool, true, false, cond, ◌||◌, ◌&&◌, [], ◌∷◌, ◌++◌, ℕ, zero, suc, ◌+◌, ◌-◌, ◌*◌, ◌/◌, ◌%◌, ◌^◌, leb, ltb, eqb, Result}
use Rattle.std.specs.Bool.{xor}
use Rattle.rules.specs.Each.{joined}
use Rattle.rules.specs.Limits.{most_inputs}
use Rattle.rules.specs.Polynomial.{Term, Polynomial}
use Rattle.rules.specs.Says.{Says, answers, first, refuse_or, word_says}
use Rattle.rules.specs.declared.refusals.Refusal.{Refusal}
use Rattle.rules.specs.declared.counts.Counts.{Counts}

-- u, s, t, m and ms
pub data Kind : Type 0 where
  plain signed truncated multiply_add multiply_add_signed : Kind

-- 0 is plain, 1 two's complement, 2 truncated, 3 multiply and add, 4 the same in two's complement; a number above is no kind, and
-- what is asked of it in spite of that is answered as for plain
unfoldable pub kind_of : ℕ → Kind
kind_of zero = plain
kind_of (suc zero) = signed
kind_of (suc (suc zero)) = truncated
kind_of (suc (suc (suc zero))) = multiply_add
kind_of (suc (suc (suc (suc zero)))) = multiply_add_signed
kind_of (suc (suc (suc (suc (suc k))))) = plain

-- a number that is no kind
unfoldable pub kind_unknown : ℕ → Bool
kind_unknown k = ltb 4 k

-- a and b are in two's complement
unfoldable pub complement : Kind → Bool
complement plain = false
complement signed = true
complement truncated = false
complement multiply_add = false
complement multiply_add_signed = true

-- c is added to the product of a and b
unfoldable pub adds : Kind → Bool
adds plain = false
adds signed = false
adds truncated = false
adds multiply_add = true
adds multiply_add_signed = true

-- how many times n bits the inputs are: a and b have n each, and c has 2n
unfoldable pub shares : Kind → ℕ
shares kind = cond (adds kind) 4 2

-- n, the bits of a and of b
unfoldable pub operand_width : Kind → Counts → ℕ
operand_width kind c = c.i / shares kind

-- the bits of c; a kind that adds nothing has none
unfoldable pub addend_width : Kind → ℕ → ℕ
addend_width kind n = cond (adds kind) (2 * n) 0

-- the operands whose 1 bits are the variables of a set: set / 2 is a + 2^n·b + 2^(2n)·c
unfoldable pub operand_a : ℕ → ℕ → ℕ
operand_a n s = s / 2 % 2 ^ n

unfoldable pub operand_b : ℕ → ℕ → ℕ
operand_b n s = s / 2 / 2 ^ n % 2 ^ n

unfoldable pub operand_c : ℕ → ℕ → ℕ
operand_c n s = s / 2 / 2 ^ (2 * n)

-- the evaluator's two words: a + 2^n·b and c where c is added, else a and b
unfoldable pub first_word : Kind → ℕ → ℕ → ℕ → ℕ
first_word kind n a b = cond (adds kind) (a + 2 ^ n * b) a

unfoldable pub second_word : Kind → ℕ → ℕ → ℕ
second_word kind b c = cond (adds kind) c b

-- l, the outputs of a block whose a and b have n bits
unfoldable pub outputs_of : Kind → ℕ → ℕ
outputs_of plain n = 2 * n
outputs_of signed n = 2 * n
outputs_of truncated n = n
outputs_of multiply_add n = 2 * n
outputs_of multiply_add_signed n = 2 * n

-- an operand's bits from n up are absent
unfoldable pub operand : ℕ → ℕ → ℕ
operand n x = x % 2 ^ n

-- the operand is read as a number below 0: two's complement, and its top bit is 1
unfoldable pub negative : Kind → ℕ → ℕ → Bool
negative kind n x = complement kind && leb (2 ^ (n - 1)) (operand n x)

-- how far from 0 the operand is: its top bit weighs -2^(n-1), so below 0 it is the number of its bits less 2^n
unfoldable pub size : Kind → ℕ → ℕ → ℕ
size kind n x = cond (negative kind n x) (2 ^ n - operand n x) (operand n x)

-- a whole number, given by its size and whether it is below 0, modulo m
unfoldable pub modulo : ℕ → Bool → ℕ → ℕ
modulo m true x = (m - x % m) % m
modulo m false x = x % m

-- the product of the operands as the reading reads them, modulo 2^l
unfoldable pub product : Kind → ℕ → ℕ → ℕ → ℕ
product kind n a b =
    modulo (2 ^ outputs_of kind n) (xor (negative kind n a) (negative kind n b)) (size kind n a * size kind n b)

-- the wanted word: the product, and c where it is added, modulo 2^l
unfoldable pub wanted_word : Kind → ℕ → ℕ → ℕ → ℕ → ℕ
wanted_word kind n a b c = (product kind n a b + operand (addend_width kind n) c) % 2 ^ outputs_of kind n

-- a and b of no bits, or of more than their share of the inputs that there may be (2)
unfoldable pub width_wrong : Kind → ℕ → Bool
width_wrong kind n = eqb n 0 || ltb (most_inputs / shares kind) n

-- what is said of the wanted word, from the kind's number, n and three operand words
unfoldable pub wanting : ℕ → ℕ → ℕ → ℕ → ℕ → Says
wanting kind n a b c =
    let word = answers 0 (wanted_word (kind_of kind) n a b c ∷ []) in
    refuse_or (first ((2, width_wrong (kind_of kind) n) ∷ (9, kind_unknown kind) ∷ [])) word

-- the permitted outcome of asking for the wanted word; nothing is lent
pub record Wanted (kind n a b c : ℕ) (r : Result ℕ Refusal) : Type 0 where
  pub said : word_says r ≡ wanting kind n a b c

-- the sign of a_i b_j in the product: below 0 when exactly one of i, j is n - 1 in two's complement
unfoldable pub below_zero : Kind → ℕ → ℕ → ℕ → Bool
below_zero kind n i j = complement kind && xor (eqb (suc i) n) (eqb (suc j) n)

-- plus or minus 2^(i+j) a_i b_j, modulo m; a_i is variable 1 + i, b_j variable n + 1 + j
unfoldable pub product_term : Kind → ℕ → ℕ → ℕ → ℕ → Term
product_term kind m n i j = (modulo m (below_zero kind n i j) (2 ^ (i + j)), 2 ^ (1 + i) + 2 ^ (n + 1 + j))

-- 2^k c_k; c_k is variable 2n + 1 + k
unfoldable pub addend_term : ℕ → ℕ → Term
addend_term n k = (2 ^ k, 2 ^ (2 * n + 1 + k))

-- the specification polynomial modulo m: the product of the bits of a and b, and the sum of 2^k c_k where c is added
unfoldable pub specification : Kind → ℕ → ℕ → Polynomial
specification kind m n =
    joined n (λ i. joined n (λ j. product_term kind m n i j ∷ []))
    ++ joined (addend_width kind n) (λ k. addend_term n k ∷ [])
