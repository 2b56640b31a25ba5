-- Demand 2: netlists are read as AIGER defines them, and their gates are evaluated as it says.
use Rattle.std.specs.Prelude.{◌≡◌, true, false, List, [], ◌∷◌, ◌++◌, ◌↔◌, ℕ, ◌+◌, ◌*◌, ◌^◌, ◌<◌, length, get_or, drop, Result, Ok}
use Rattle.rules.specs.Each.{sum}
use Rattle.rules.specs.Netlist.{gate, output, record_at, needed, counts_wrong, table_short, table_sound}
use Rattle.rules.specs.Says.{answers, word_says}
use Rattle.rules.specs.Values.{width, bit, literal_value, record_value, Evaluated}
use Rattle.rules.specs.Text.{text_of}
use Rattle.rules.specs.Reading.{ReadAs}
use Rattle.rules.specs.declared.refusals.Refusal.{Refusal}
use Rattle.rules.specs.declared.counts.Counts.{Counts}
use Rattle.rules.specs.declared.records.RecordKind.TheVariants.{Gates}

-- counts within their limits, of AND gates, a table of just O + 2A words that is sound, room for it, and the text is their text
pub record Written (text : List ℕ) (lent : ℕ) (c : Counts) (table : List ℕ) : Type 0 where
  pub limits : counts_wrong c ≡ false
  pub gates : c.records ≡ Gates
  pub words : length table ≡ needed c
  pub room : table_short c lent ≡ false
  pub sound : table_sound c table ≡ true
  pub written : text ≡ text_of c table

-- a text is accepted with these counts, and these words go into the table, exactly when it is their text;
-- words past them keep their values
abbrev pub TextExact : Type 0
TextExact =
    (text lent : List ℕ) (r : Result Counts Refusal) (exit : List ℕ) → ReadAs text lent r exit → (c : Counts) (table : List ℕ)
    → ((r ≡ Ok c) × (exit ≡ table ++ drop (needed c) lent) × (length table ≡ needed c))
    ↔ Written text (length lent) c table

-- values of all variables: 0 is false, inputs are the operand bits, each gate is the value of its record
pub record Assignment (c : Counts) (table : List ℕ) (a b : ℕ) (values : List ℕ) : Type 0 where
  pub variables : length values ≡ c.m + 1
  pub constant : get_or values 0 0 ≡ 0
  pub first : (i : ℕ) → i < width c → get_or values (1 + i) 0 ≡ bit a i
  pub second : (i : ℕ) → i < width c → get_or values (width c + 1 + i) 0 ≡ bit b i
  pub gates : (k : ℕ) → k < c.a → get_or values (gate c k) 0 ≡ record_value values (record_at c table (gate c k))

-- the word that the evaluator gives is shown by the one assignment of the gates, output 0 lowest
abbrev pub ValuesAreTheGates : Type 0
ValuesAreTheGates =
    (c : Counts) (table : List ℕ) (a b : ℕ) (r : Result ℕ Refusal) → Evaluated c table a b r
    → (word : ℕ) → word_says r ≡ answers 0 (word ∷ [])
    → (values : List ℕ) × Assignment c table a b values
    × ((others : List ℕ) → Assignment c table a b others → others ≡ values)
    × (word ≡ sum c.o (λ i. 2 ^ i * literal_value values (output table i)))
