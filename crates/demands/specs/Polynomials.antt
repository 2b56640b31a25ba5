-- The polynomials behind the answers: the published specifications, and what a step keeps.
use Rattle.std.specs.Prelude.{◌≡◌, Bool, true, false, List, [], ◌∷◌, ◌++◌, ℕ, zero, suc, ◌+◌, ◌-◌, ◌*◌, ◌/◌, ◌%◌, ◌^◌, ◌<◌, ◌≤◌, length, get_or}
use Rattle.rules.specs.Each.{joined}
use Rattle.rules.specs.Netlist.{output, counts_right, table_sound}
use Rattle.rules.specs.Values.{bit, values}
use Rattle.rules.specs.Product.{Kind, plain, signed, truncated, multiply_add, multiply_add_signed, complement, adds, operand_width, addend_width, first_word, second_word, outputs_of, negative, size, modulo, product, wanted_word}
use Rattle.rules.specs.Polynomial.{Term, Polynomial, Below, Under, Coefficients, gather, minus, times_literal}
use Rattle.rules.specs.Steps.{modulus, start, made, step}
use Rattle.rules.specs.Judging.{most_made, shown_for, misfits}
use Rattle.rules.specs.declared.counts.Counts.{Counts}

-- x where the digit is 1, else 1
unfoldable pub chosen : ℕ → ℕ → ℕ
chosen zero x = 1
chosen (suc k) x = x

-- the product of the values of a set's variables; the values are listed from variable 0
unfoldable pub set_value : List ℕ → ℕ → ℕ
set_value [] s = 1
set_value (x ∷ values) s = chosen (s % 2) x * set_value values (s / 2)

-- the value of a polynomial
unfoldable pub value : List ℕ → Polynomial → ℕ
value values [] = 0
value values (t ∷ p) = t.0 * set_value values t.1 + value values p

-- the values of the variables for operands of a kind
abbrev pub values_for : Kind → Counts → List ℕ → ℕ → ℕ → ℕ → List ℕ
values_for kind c table a b addend =
    values c table (first_word kind (operand_width kind c) a b) (second_word kind b addend)

-- at all operands the start polynomial has the value got - wanted, modulo 2^l
abbrev pub StartValue : Type 0
StartValue =
    (kind : Kind) (c : Counts) (table : List ℕ) → counts_right c ≡ true → table_sound c table ≡ true → misfits c kind ≡ false
    → (a b addend : ℕ) → a < 2 ^ operand_width kind c → b < 2 ^ operand_width kind c
    → addend < 2 ^ addend_width kind (operand_width kind c)
    → (value (values_for kind c table a b addend) (start kind c table) + wanted_word kind (operand_width kind c) a b addend) % modulus kind c
    ≡ shown_for kind c table a b addend

-- a step of a gate keeps the value at all operands
abbrev pub StepKeeps : Type 0
StepKeeps =
    (kind : Kind) (c : Counts) (table : List ℕ) → counts_right c ≡ true → table_sound c table ≡ true
    → (a b v : ℕ) → c.i < v → v ≤ c.m
    → (p : Polynomial) → Under (2 ^ (c.m + 1)) p → Coefficients (modulus kind c) p
    → value (values c table a b) (step (modulus kind c) c table v p) % modulus kind c ≡ value (values c table a b) p % modulus kind c

-- the product of two sums of terms that share no variable
unfoldable pub term_times : Term → Polynomial → Polynomial
term_times t [] = []
term_times t (u ∷ q) = (t.0 * u.0, t.1 + u.1) ∷ term_times t q

unfoldable pub times : Polynomial → Polynomial → Polynomial
times [] q = []
times (t ∷ p) q = term_times t q ++ times p q

-- the sum of 2^i x_i over the first bits of an operand, whose bit 0 is variable v
unfoldable pub plain_operand : ℕ → ℕ → Polynomial
plain_operand n v = joined n (λ i. (2 ^ i, 2 ^ (v + i)) ∷ [])

-- an operand in two's complement: -2^(n-1) x_(n-1), and the sum of 2^i x_i over the bits below
unfoldable pub signed_operand : ℕ → ℕ → ℕ → Polynomial
signed_operand m n v = minus m ((2 ^ (n - 1), 2 ^ (v + (n - 1))) ∷ []) ++ plain_operand (n - 1) v

-- the sum of 2^i s_i over the first outputs
unfoldable pub plain_outputs : ℕ → List ℕ → ℕ → Polynomial
plain_outputs m table l = joined l (λ i. times_literal m (output table i) ((2 ^ i, 0) ∷ []))

-- all l outputs: in two's complement with -2^(l-1) s_(l-1)
unfoldable pub published_outputs : Bool → ℕ → List ℕ → ℕ → Polynomial
published_outputs true m table l =
    minus m (times_literal m (output table (l - 1)) ((2 ^ (l - 1), 0) ∷ [])) ++ plain_outputs m table (l - 1)
published_outputs false m table l = plain_outputs m table l

-- the product of two operands: of U_n, and in two's complement of S_n
unfoldable pub operand_product : Bool → ℕ → ℕ → Polynomial
operand_product true m n = times (signed_operand m n 1) (signed_operand m n (n + 1))
operand_product false m n = times (plain_operand n 1) (plain_operand n (n + 1))

-- the published product of a kind: that one, or of T_n in its modular form
unfoldable pub published_product : Kind → ℕ → ℕ → Polynomial
published_product plain m n = operand_product false m n
published_product signed m n = operand_product true m n
published_product truncated m n = joined n (λ i. joined (n - i) (λ j. (2 ^ (i + j), 2 ^ (1 + i) + 2 ^ (n + 1 + j)) ∷ []))
published_product multiply_add m n = operand_product false m n
published_product multiply_add_signed m n = operand_product true m n

-- the published specification: the outputs less the product, and less the sum of 2^k c_k where c is added
unfoldable pub published_specification : Kind → ℕ → ℕ → List ℕ → Polynomial
published_specification kind m n table =
    published_outputs (complement kind) m table (outputs_of kind n)
    ++ minus m (published_product kind m n ++ plain_operand (addend_width kind n) (2 * n + 1))

-- the published specifications, gathered modulo 2^l, are the start polynomial
abbrev pub Published : Type 0
Published =
    (kind : Kind) (c : Counts) (table : List ℕ) → counts_right c ≡ true → misfits c kind ≡ false
    → gather (modulus kind c) (published_specification kind (modulus kind c) (operand_width kind c) table) ≡ start kind c table

-- c's own reading makes no difference: read as two's complement of 2n bits it gives the same word
abbrev pub AddendEither : Type 0
AddendEither =
    (kind : Kind) (n a b c : ℕ) → adds kind ≡ true
    → (product kind n a b + modulo (2 ^ outputs_of kind n) (negative signed (2 * n) c) (size signed (2 * n) c)) % 2 ^ outputs_of kind n
    ≡ wanted_word kind n a b c

-- one step makes at most four terms of each term, or eight with lookup cells, before gathering
abbrev pub TermsMade : Type 0
TermsMade =
    (m : ℕ) (c : Counts) (table : List ℕ) (v : ℕ) (p : Polynomial)
    → made m c table v p ≤ most_made c.records * length p

-- if v does not occur, a step of it changes nothing
abbrev pub StepIdle : Type 0
StepIdle =
    (m : ℕ) (c : Counts) (table : List ℕ) (v b : ℕ) (p : Polynomial) → 0 < m → Below b p → Coefficients m p
    → ((i : ℕ) → i < length p → bit (get_or p i (0, 0)).1 v ≡ 0) → step m c table v p ≡ p
