-- The values of a netlist's variables for two words that hold its inputs, and the word that its outputs show.
use Rattle.std.specs.Prelude.{◌≡◌, Bool, List, [], ◌∷◌, ◌++◌, ℕ, zero, suc, ◌+◌, ◌-◌, ◌*◌, ◌/◌, ◌%◌, ◌^◌, length, get_or, Result}
use Rattle.rules.specs.Each.{sum, listed}
use Rattle.rules.specs.Netlist.{variable, inverted, gate, output, record_at, counts_wrong, table_short, table_unsound}
use Rattle.rules.specs.Says.{Says, answers, first, refuse_or, word_says}
use Rattle.rules.specs.declared.refusals.Refusal.{Refusal}
use Rattle.rules.specs.declared.counts.Counts.{Counts}
use Rattle.rules.specs.declared.records.Record.{Record}
use Rattle.rules.specs.declared.records.Record.TheVariants.{Gate, Cell}

-- the bits of each of the two words that hold the inputs
unfoldable pub width : Counts → ℕ
width c = c.i / 2

-- bit i of a number
unfoldable pub bit : ℕ → ℕ → ℕ
bit x i = x / 2 ^ i % 2

-- a variable's value, or 1 less it where the literal is inverted
unfoldable pub turned : ℕ → ℕ → ℕ
turned zero value = value
turned (suc k) value = 1 - value

-- the value of a literal, from the values of the variables
unfoldable pub literal_value : List ℕ → ℕ → ℕ
literal_value values x = turned (inverted x) (get_or values (variable x) 0)

-- the variables that no gate makes: variable 0 is false, then the bits of the first word, then those of the second
unfoldable pub input_values : ℕ → ℕ → ℕ → List ℕ
input_values n a b = (0 ∷ []) ++ listed n (bit a) ++ listed n (bit b)

-- the value of a record: the AND of its two literals, or bit x1 + 2·x2 + 4·x3 of its truth byte
unfoldable pub record_value : List ℕ → Record → ℕ
record_value values (Gate x y) = literal_value values x * literal_value values y
record_value values (Cell byte x1 x2 x3) = bit byte (get_or values x1 0 + 2 * get_or values x2 0 + 4 * get_or values x3 0)

-- the value of gate v
unfoldable pub gate_value : Counts → List ℕ → List ℕ → ℕ → ℕ
gate_value c table values v = record_value values (record_at c table v)

-- the values of the inputs and of the first gates
unfoldable pub values_to : Counts → List ℕ → ℕ → ℕ → ℕ → List ℕ
values_to c table a b zero = input_values (width c) a b
values_to c table a b (suc k) =
    let values = values_to c table a b k in
    values ++ gate_value c table values (gate c k) ∷ []

-- the values of all variables, variable 0 first
unfoldable pub values : Counts → List ℕ → ℕ → ℕ → List ℕ
values c table a b = values_to c table a b c.a

-- the word of O bits that the outputs show, output 0 lowest
unfoldable pub shown : Counts → List ℕ → ℕ → ℕ → ℕ
shown c table a b =
    let all = values c table a b in
    sum c.o (λ i. 2 ^ i * literal_value all (output table i))

-- the checks of the evaluator in their order
unfoldable pub evaluate_checks : Counts → List ℕ → List (ℕ × Bool)
evaluate_checks c table =
    (2, counts_wrong c) ∷ (3, table_short c (length table)) ∷ (8, table_unsound c table) ∷ []

-- what the evaluator says
unfoldable pub evaluating : Counts → List ℕ → ℕ → ℕ → Says
evaluating c table a b =
    let word = answers 0 (shown c table a b ∷ []) in
    refuse_or (first (evaluate_checks c table)) word

-- the permitted outcome of the evaluator, from counts, table and the two words; it is lent nothing that it may change
pub record Evaluated (c : Counts) (table : List ℕ) (a b : ℕ) (r : Result ℕ Refusal) : Type 0 where
  pub said : word_says r ≡ evaluating c table a b
