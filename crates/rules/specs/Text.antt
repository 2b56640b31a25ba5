-- The text of a netlist: what a sound table is written as.
use Rattle.std.specs.Prelude.{cond, List, [], ◌∷◌, ◌++◌, ℕ, zero, suc, ◌+◌, ◌*◌, ◌/◌, ◌%◌, ltb}
use Rattle.rules.specs.Each.{joined}
use Rattle.rules.specs.Netlist.{gate, output, rhs0, rhs1}
use Rattle.rules.specs.declared.counts.Counts.{Counts}

-- the byte that ends a line, and the one between two fields
abbrev pub line_feed : ℕ
line_feed = 10

abbrev pub space : ℕ
space = 32

-- the decimal digits of a number, as bytes, with no leading zero; the first argument bounds how many are written
unfoldable pub digits : ℕ → ℕ → List ℕ
digits zero x = []
digits (suc k) x =
    let higher = digits k (x / 10) in
    cond (ltb x 10) [] higher ++ (48 + x % 10) ∷ []

-- a number in decimal: it has no more digits than its value and one
unfoldable pub decimal : ℕ → List ℕ
decimal x = digits (suc x) x

-- numbers with the byte that follows each
unfoldable pub fields_text : List (ℕ × ℕ) → List ℕ
fields_text [] = []
fields_text (field ∷ later) = decimal field.0 ++ field.1 ∷ fields_text later

-- the bytes of `aag `
abbrev pub header_word : List ℕ
header_word = 97 ∷ 97 ∷ 103 ∷ 32 ∷ []

-- `aag M I L O A`
unfoldable pub header_text : Counts → List ℕ
header_text c =
    header_word
    ++ fields_text ((c.m, space) ∷ (c.i, space) ∷ (c.l, space) ∷ (c.o, space) ∷ (c.a, line_feed) ∷ [])

-- the k-th input line, from 0
unfoldable pub input_text : ℕ → List ℕ
input_text k = fields_text ((2 * (k + 1), line_feed) ∷ [])

-- the i-th output line, from 0
unfoldable pub output_text : List ℕ → ℕ → List ℕ
output_text table i = fields_text ((output table i, line_feed) ∷ [])

-- the line of gate v: lhs rhs0 rhs1
unfoldable pub gate_text : Counts → List ℕ → ℕ → List ℕ
gate_text c table v =
    fields_text ((2 * v, space) ∷ (rhs0 c table v, space) ∷ (rhs1 c table v, line_feed) ∷ [])

-- the header, the inputs, the outputs, the gates, and nothing more
unfoldable pub text_of : Counts → List ℕ → List ℕ
text_of c table =
    header_text c
    ++ joined c.i input_text
    ++ joined c.o (output_text table)
    ++ joined c.a (λ k. gate_text c table (gate c k))
