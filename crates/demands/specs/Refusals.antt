-- Demand 1: refused are the unfit and no others, with the number that the rules give, and a refusal changes no lent word.
use Rattle.std.specs.Prelude.{◌≡◌, Bool, true, false, List, [], ◌∷◌, ◌++◌, ◌⊎◌, ◌↔◌, ℕ, ◌<◌, ◌≤◌, length, get_or, take, Result}
use Rattle.rules.specs.Each.{each, joined}
use Rattle.rules.specs.Says.{refuses, says, text_says, word_says}
use Rattle.rules.specs.Netlist.{output, output_sound, table_sound, counts_wrong, table_short}
use Rattle.rules.specs.Values.{Evaluated, evaluate_checks}
use Rattle.rules.specs.Judging.{Inputs, Judged, checks}
use Rattle.rules.specs.Text.{header_text, input_text, output_text, text_of}
use Rattle.rules.specs.Reading.{ReadAs}
use Rattle.rules.specs.Limits.{most_desk_bytes, most_desk_variables}
use Rattle.rules.specs.Desk.{desk_table, desk_checks, kind_line, printed, Lined}
use Rattle.rules.specs.declared.refusals.Refusal.{Refusal}
use Rattle.rules.specs.declared.answers.Answer.{Answer}
use Rattle.rules.specs.declared.answers.Line.{Line}
use Rattle.rules.specs.declared.answers.StepRecord.{StepRecord}
use Rattle.rules.specs.declared.counts.Counts.{Counts}
use Rattle.rules.specs.declared.records.RecordKind.TheVariants.{Gates}
use Rattle.demands.specs.Netlists.{Written}

-- k is the number of a check whose condition holds, and no check before it has one that holds
abbrev pub First : List (ℕ × Bool) → ℕ → Type 0
First [] k = ⊥
First (check ∷ later) k = ((check.0 ≡ k) × (check.1 ≡ true)) ⊎ ((check.1 ≡ false) × First later k)

-- the judge refuses with k exactly when condition k holds and none before it
abbrev pub JudgeRefusedExact : Type 0
JudgeRefusedExact =
    (x : Inputs) (r : Result Answer Refusal) (store scratch : List ℕ) (log : List StepRecord) (occurrences : List ℕ)
    → Judged x r store scratch log occurrences
    → (k : ℕ) → (says r ≡ refuses k) ↔ First (checks x) k

-- then every lent word is as it was
abbrev pub JudgeRefusalKeeps : Type 0
JudgeRefusalKeeps =
    (x : Inputs) (r : Result Answer Refusal) (store scratch : List ℕ) (log : List StepRecord) (occurrences : List ℕ)
    → Judged x r store scratch log occurrences
    → (k : ℕ) → says r ≡ refuses k
    → (store ≡ x.store) × (scratch ≡ x.scratch) × (log ≡ x.log) × (occurrences ≡ x.occurrences)

-- the evaluator refuses with k exactly when condition k holds and none before it; it is lent nothing that it may change
abbrev pub EvaluateRefusedExact : Type 0
EvaluateRefusedExact =
    (c : Counts) (table : List ℕ) (a b : ℕ) (r : Result ℕ Refusal) → Evaluated c table a b r
    → (k : ℕ) → (word_says r ≡ refuses k) ↔ First (evaluate_checks c table) k

-- a text begins with a part
abbrev pub Begins : List ℕ → List ℕ → Type 0
Begins text part = (rest : List ℕ) × (text ≡ part ++ rest)

-- every number of a header has at most four digits
pub record FourDigits (c : Counts) : Type 0 where
  pub m : c.m < 10000
  pub i : c.i < 10000
  pub l : c.l < 10000
  pub o : c.o < 10000
  pub a : c.a < 10000

-- a text begins with the header line of these counts, which are of AND gates: a text has no lookup cells
pub record Headed (text : List ℕ) (c : Counts) : Type 0 where
  pub digits : FourDigits c
  pub gates : c.records ≡ Gates
  pub begins : Begins text (header_text c)

-- and the counts are within their limits, and the table is long enough
pub record Counted (lent : ℕ) (text : List ℕ) (c : Counts) : Type 0 where
  pub headed : Headed text c
  pub limits : counts_wrong c ≡ false
  pub room : table_short c lent ≡ false

-- the header and the input lines
abbrev pub inputs_part : Counts → List ℕ
inputs_part c = header_text c ++ joined c.i input_text

-- the header, the input lines and the output lines of a table
abbrev pub outputs_part : Counts → List ℕ → List ℕ
outputs_part c table = inputs_part c ++ joined c.o (output_text table)

-- a text begins with right lines up to its outputs
abbrev pub OutputsRight : List ℕ → Counts → Type 0
OutputsRight text c =
    (table : List ℕ) × (each c.o (λ i. output_sound c (output table i)) ≡ true) × Begins text (outputs_part c table)

-- a text begins with right lines up to its gates
abbrev pub GatesRight : List ℕ → Counts → Type 0
GatesRight text c = (table : List ℕ) × (table_sound c table ≡ true) × Begins text (text_of c table)

-- what is wrong with a text that reading refuses with k: each part before it is right, and this one is not
pub data Unread (lent : ℕ) (text : List ℕ) : ℕ → Type 0 where
  header : ((c : Counts) → Headed text c → ⊥) → Unread lent text 1
  counts : (c : Counts) → Headed text c → counts_wrong c ≡ true → Unread lent text 2
  short : (c : Counts) → Headed text c → counts_wrong c ≡ false → table_short c lent ≡ true → Unread lent text 3
  inputs : (c : Counts) → Counted lent text c → (Begins text (inputs_part c) → ⊥) → Unread lent text 4
  outputs : (c : Counts) → Counted lent text c → Begins text (inputs_part c) → (OutputsRight text c → ⊥) → Unread lent text 5
  gates : (c : Counts) → Counted lent text c → OutputsRight text c → (GatesRight text c → ⊥) → Unread lent text 6
  after : (c : Counts) (table : List ℕ) (x : ℕ) (rest : List ℕ) → Counted lent text c → table_sound c table ≡ true
      → text ≡ text_of c table ++ x ∷ rest → Unread lent text 7

-- reading refuses with k exactly when that is what is wrong
abbrev pub ReadRefusedExact : Type 0
ReadRefusedExact =
    (text table : List ℕ) (r : Result Counts Refusal) (table_exit : List ℕ) → ReadAs text table r table_exit
    → (k : ℕ) → (text_says r ≡ refuses k) ↔ Unread (length table) text k

-- then the table is as it was
abbrev pub ReadRefusalKeeps : Type 0
ReadRefusalKeeps =
    (text table : List ℕ) (r : Result Counts Refusal) (table_exit : List ℕ) → ReadAs text table r table_exit
    → (k : ℕ) → text_says r ≡ refuses k → table_exit ≡ table

-- the desk's input is the line of this kind, and a netlist text
abbrev pub Asked : List ℕ → ℕ → List ℕ → Type 0
Asked input kind text = (kind < 5) × (input ≡ kind_line kind ++ text)

-- what is wrong with an input that the desk refuses with k, in the order of its checks: its length, its kind line, its text, M, and
-- then what judging refuses
pub data DeskUnfit (input : List ℕ) : ℕ → Type 0 where
  long : most_desk_bytes < length input → DeskUnfit input 13
  kindless : length input ≤ most_desk_bytes → ((kind : ℕ) (text : List ℕ) → Asked input kind text → ⊥) → DeskUnfit input 9
  unread : length input ≤ most_desk_bytes → (kind : ℕ) (text : List ℕ) → Asked input kind text
      → (k : ℕ) → Unread desk_table text k → DeskUnfit input k
  large : length input ≤ most_desk_bytes → (kind : ℕ) (text : List ℕ) → Asked input kind text
      → (c : Counts) (table : List ℕ) → Written text desk_table c table → most_desk_variables < c.m → DeskUnfit input 13
  unjudged : length input ≤ most_desk_bytes → (kind : ℕ) (text : List ℕ) → Asked input kind text
      → (c : Counts) (table : List ℕ) → Written text desk_table c table → c.m ≤ most_desk_variables
      → (k : ℕ) → First (desk_checks kind c table) k → DeskUnfit input k

-- the line of the desk
abbrev pub line_of : Line → List ℕ
line_of r = take r.len r.bytes

-- the desk prints `X k` where that is wrong, and prints X for nothing else
abbrev pub DeskRefusedExact : Type 0
DeskRefusedExact =
    (input : List ℕ) (r : Line) → Lined input r
    → ((k : ℕ) → DeskUnfit input k → line_of r ≡ printed (refuses k))
    × (get_or (line_of r) 0 0 ≡ 88 → (k : ℕ) × DeskUnfit input k × (line_of r ≡ printed (refuses k)))

-- the desk never prints `X 3`: its table has room for every O and A within the limits
abbrev pub DeskNeverShort : Type 0
DeskNeverShort = (input : List ℕ) (r : Line) → Lined input r → line_of r ≡ printed (refuses 3) → ⊥
