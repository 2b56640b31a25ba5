-- The start polynomial in the order in which it is written: sets fall, and a term with coefficient 0 is left out.
use Rattle.std.specs.Prelude.{◌≡◌, true, false, cond, List, [], ◌∷◌, ◌++◌, ℕ, zero, suc, ◌+◌, ◌-◌, ◌*◌, ◌/◌, ◌%◌, ◌^◌, ◌<◌, ◌≤◌, leb, length, get_or, take, drop, replicate, Option, Some, None}
use Rattle.rules.specs.Each.{joined, listed}
use Rattle.rules.specs.Judging.{misfits, term_width, polynomial_words, padded}
use Rattle.rules.specs.Netlist.{counts_right, needed, output, table_sound}
use Rattle.rules.specs.Polynomial.{Polynomial, coefficient_at, keep, minus, times_literal}
use Rattle.rules.specs.Product.{Kind, kind_of, operand_width, addend_width, product_term, addend_term}
use Rattle.rules.specs.declared.counts.Counts.{Counts}

-- the set of one variable; variable 0 stands for the constant, whose set is empty
unfoldable pub single : ℕ → ℕ
single zero = 0
single (suc v) = 2 ^ suc v

-- what the indices below the bound put in front of the rest, the highest index first
unfoldable pub down : ℕ → (ℕ → Polynomial → Polynomial) → Polynomial → Polynomial
down zero put rest = rest
down (suc k) put rest = put k (down k put rest)

-- the terms of the first outputs
unfoldable pub output_terms : ℕ → List ℕ → ℕ → Polynomial
output_terms m table count = joined count (λ i. times_literal m (output table i) ((2 ^ i, 0) ∷ []))

-- the terms of the first bits of c
unfoldable pub addend_terms : ℕ → ℕ → Polynomial
addend_terms n count = joined count (λ k. addend_term n k ∷ [])

-- the terms of one variable or none: the outputs less c
unfoldable pub single_terms : Kind → Counts → List ℕ → Polynomial
single_terms kind c table =
    let n = operand_width kind c in
    output_terms (2 ^ c.o) table c.o ++ minus (2 ^ c.o) (addend_terms n (addend_width kind n))

-- the coefficient of variable v in them
unfoldable pub weight : Kind → Counts → List ℕ → ℕ → ℕ
weight kind c table v = coefficient_at (single_terms kind c table) (single v) % 2 ^ c.o

-- the variables from low + count down to low + 1, each with its weight
unfoldable pub singles : List ℕ → ℕ → ℕ → Polynomial → Polynomial
singles weights low count = down count (λ k. keep (get_or weights (low + 1 + k) 0) (single (low + 1 + k)))

-- the coefficient of a_i b_j, minus that of the specification
unfoldable pub pair_weight : Kind → ℕ → ℕ → ℕ → ℕ → ℕ
pair_weight kind m n j i = (m - 1) * (product_term kind m n i j).0 % m

-- the products of b_j with a_i for the i below the bound
unfoldable pub pairs : Kind → ℕ → ℕ → ℕ → ℕ → Polynomial → Polynomial
pairs kind m n j count = down count (λ i. keep (pair_weight kind m n j i) (single (n + 1 + j) + single (1 + i)))

-- for the j below the bound: the products of b_j, then b_j
unfoldable pub rows : Kind → ℕ → ℕ → List ℕ → ℕ → Polynomial → Polynomial
rows kind m n weights count =
    down count (λ j rest. pairs kind m n j n (keep (get_or weights (n + 1 + j) 0) (single (n + 1 + j)) rest))

-- the variables above b, the products and the second operand, the first operand, the constant
unfoldable pub whole : Kind → ℕ → ℕ → ℕ → List ℕ → Polynomial
whole kind m n above weights =
    singles weights (n + n) above (rows kind m n weights n (singles weights 0 n (keep (get_or weights 0 0) 0 [])))

-- the weights of the variables and of the constant are those of p
pub record Weighed (m : ℕ) (p : Polynomial) (weights : List ℕ) : Type 0 where
  pub weighs : (v : ℕ) → v < length weights → get_or weights v 0 ≡ coefficient_at p (single v) % m

-- word j of a set
abbrev pub word : ℕ → ℕ → ℕ
word s j = s / 2 ^ (64 * j) % 2 ^ 64

-- the words of a set
unfoldable pub set_words : ℕ → ℕ → List ℕ
set_words w s = listed w (word s)

-- v is put into every set at that word that lies below it; variable 0 changes nothing
abbrev pub Marks : ℕ → ℕ → ℕ → List ℕ → List ℕ → Type 0
Marks at w v store store' =
    (before after : List ℕ) (s : ℕ) → length before ≡ at → (0 < v → s < single v)
    → store ≡ before ++ (set_words w s ++ after) → store' ≡ before ++ (set_words w (single v + s) ++ after)

-- the term c, s is written over zeros at that word
abbrev pub Writes : ℕ → ℕ → ℕ → ℕ → List ℕ → List ℕ → Type 0
Writes at w c s store store' =
    (before after : List ℕ) → length before ≡ at
    → store ≡ before ++ (0 ∷ (set_words w 0 ++ after)) → store' ≡ before ++ (c ∷ (set_words w s ++ after))

-- on the way to p: so many of its first terms are counted, and the rest is still to come. The store has the terms counted, and then
-- zeros
pub record Going (w : ℕ) (p rest : Polynomial) (store : List ℕ) (count : ℕ) : Type 0 where
  pub held : count ≤ length p
  pub left : drop count p ≡ rest
  pub words : store ≡ padded (length store) (polynomial_words w (take count p))

-- p has more terms than the limit: the store has so many of them, and then zeros
pub record Full (w limit : ℕ) (p : Polynomial) (store : List ℕ) : Type 0 where
  pub more : limit < length p
  pub words : store ≡ padded (length store) (polynomial_words w (take limit p))

-- what is known when the start polynomial is asked for: sound counts and table, a block that fits its kind, room for the limit, and a
-- store of zeros
pub record Asked (c : Counts) (table : List ℕ) (kind limit : ℕ) (store : List ℕ) : Type 0 where
  pub counts : counts_right c ≡ true
  pub long : needed c ≤ length table
  pub sound : table_sound c table ≡ true
  pub fitting : misfits c (kind_of kind) ≡ false
  pub room : limit * term_width c ≤ length store
  pub zeros : store ≡ replicate (length store) 0

-- the number of terms, or none where there are more than the limit
unfoldable pub counted : ℕ → Polynomial → Option ℕ
counted limit p = cond (leb (length p) limit) (Some (length p)) None

-- the polynomial, or none where it has more terms than the limit
unfoldable pub within : ℕ → Polynomial → Polynomial
within limit p = cond (leb (length p) limit) p []

-- the permitted outcome of writing p to a store of that many words: its terms counted and written, with zeros behind them; none, and
-- zeros, where it has more than the limit
pub record Started (p : Polynomial) (w limit lent : ℕ) (r : Option ℕ) (store : List ℕ) : Type 0 where
  pub count : r ≡ counted limit p
  pub words : store ≡ padded lent (polynomial_words w (within limit p))
