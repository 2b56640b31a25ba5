-- Reading a netlist text, with the refusals in text order.
use Rattle.std.specs.Prelude.{◌≡◌, Bool, cond, not, ◌&&◌, ◌||◌, List, [], ◌∷◌, ◌++◌, ℕ, zero, suc, ◌+◌, ◌-◌, ◌*◌, leb, eqb, length, get_or, drop, Result}
use Rattle.rules.specs.Netlist.{gate, counts_wrong, table_short, output_sound, gate_sound}
use Rattle.rules.specs.Says.{Says, refuses, answers, first, text_says, text_records}
use Rattle.rules.specs.Text.{line_feed, space, header_word}
use Rattle.rules.specs.declared.refusals.Refusal.{Refusal}
use Rattle.rules.specs.declared.counts.Counts.{Counts}
use Rattle.rules.specs.declared.records.RecordKind.TheVariants.{Gates}

-- what stands at the head of a text: numbers and the text behind them, or nothing of the kind
pub data Scan : Type 0 where
  found : List ℕ → List ℕ → Scan
  missing : Scan

-- a byte is a digit
unfoldable pub digit : ℕ → Bool
digit x = leb 48 x && leb x 57

-- the digits that a text begins with
unfoldable pub leading_digits : List ℕ → List ℕ
leading_digits [] = []
leading_digits (x ∷ text) =
    let more = x ∷ leading_digits text in
    cond (digit x) more []

-- the number that digits write, behind the value so far
unfoldable pub value_from : ℕ → List ℕ → ℕ
value_from value [] = value
value_from value (x ∷ later) = value_from (10 * value + (x - 48)) later

-- one to four digits, no leading zero; 0 itself is `0`
unfoldable pub well_written : List ℕ → Bool
well_written number =
    leb 1 (length number) && leb (length number) 4 && (eqb (length number) 1 || not (eqb (get_or number 0 0) 48))

-- the text behind its first byte, where that is the one asked for
unfoldable pub behind : ℕ → List ℕ → Scan
behind x [] = missing
behind x (y ∷ text) = cond (eqb x y) (found [] text) missing

-- numbers in front of what is found
unfoldable pub with_numbers : List ℕ → Scan → Scan
with_numbers numbers (found later text) = found (numbers ++ later) text
with_numbers numbers missing = missing

-- go on with the text behind what was found
unfoldable pub and_then : Scan → (List ℕ → Scan) → Scan
and_then (found numbers text) next = with_numbers numbers (next text)
and_then missing next = missing

-- a number and the byte that must follow it
unfoldable pub field : ℕ → List ℕ → Scan
field end text =
    let number = leading_digits text in
    let rest = with_numbers (value_from 0 number ∷ []) (behind end (drop (length number) text)) in
    cond (well_written number) rest missing

-- as many numbers as bytes are given, each followed by its byte
unfoldable pub fields : List ℕ → List ℕ → Scan
fields [] text = found [] text
fields (end ∷ ends) text = and_then (field end text) (fields ends)

-- the bytes of a word
unfoldable pub word : List ℕ → List ℕ → Scan
word [] text = found [] text
word (x ∷ later) text = and_then (behind x text) (word later)

-- the header line: `aag` and the five counts
unfoldable pub header_line : List ℕ → Scan
header_line text = and_then (word header_word text) (fields (space ∷ space ∷ space ∷ space ∷ line_feed ∷ []))

-- what a line found, where a test of its numbers holds: the numbers that go into the table
unfoldable pub tested : (List ℕ → Bool) → (List ℕ → List ℕ) → Scan → Scan
tested right words (found numbers text) = cond (right numbers) (found (words numbers) text) missing
tested right words missing = missing

-- the k-th input line, from 0: the literal 2(k + 1); nothing goes into the table
unfoldable pub input_line : ℕ → List ℕ → Scan
input_line k text =
    tested (λ numbers. eqb (get_or numbers 0 0) (2 * (k + 1))) (λ numbers. []) (fields (line_feed ∷ []) text)

-- an output line: a literal from 0 to 2M + 1
unfoldable pub output_line : Counts → ℕ → List ℕ → Scan
output_line c i text =
    tested (λ numbers. output_sound c (get_or numbers 0 0)) (λ numbers. numbers) (fields (line_feed ∷ []) text)

-- the k-th gate line, from 0: its lhs, then rhs0 and rhs1, which go into the table
unfoldable pub gate_line : Counts → ℕ → List ℕ → Scan
gate_line c k text =
    tested
    (λ numbers. eqb (get_or numbers 0 0) (2 * gate c k) && gate_sound (gate c k) (get_or numbers 1 0) (get_or numbers 2 0))
    (drop 1)
    (fields (space ∷ space ∷ line_feed ∷ []) text)

-- a number of lines, the k-th read by its rule: what they put into the table
unfoldable pub lines : ℕ → (ℕ → List ℕ → Scan) → List ℕ → Scan
lines zero line text = found [] text
lines (suc k) line text = and_then (lines k line text) (line k)

-- a netlist as it is read, or the number of the refusal
pub data Netlist : Type 0 where
  netlist : Counts → List ℕ → Netlist
  refused : ℕ → Netlist

-- bytes after the last gate line (7), or none
unfoldable pub end_read : Counts → List ℕ → List ℕ → Netlist
end_read c words [] = netlist c words
end_read c words (x ∷ text) = refused 7

-- the gate lines (6), then the end
unfoldable pub gates_read : Counts → List ℕ → Scan → Netlist
gates_read c words (found numbers text) = end_read c (words ++ numbers) text
gates_read c words missing = refused 6

-- the output lines (5), then the gates
unfoldable pub outputs_read : Counts → Scan → Netlist
outputs_read c (found numbers text) = gates_read c numbers (lines c.a (gate_line c) text)
outputs_read c missing = refused 5

-- the input lines (4), then the outputs
unfoldable pub inputs_read : Counts → Scan → Netlist
inputs_read c (found numbers text) = outputs_read c (lines c.o (output_line c) text)
inputs_read c missing = refused 4

-- a count outside its limits (2) or a table too short (3), and else the lines
unfoldable pub counts_read : Counts → List ℕ → ℕ → Netlist
counts_read c text zero = inputs_read c (lines c.i input_line text)
counts_read c text (suc k) = refused (suc k)

-- the counts that five numbers are; a text has AND gates
unfoldable pub counts_of : List ℕ → Counts
counts_of x = record { m = get_or x 0 0; i = get_or x 1 0; l = get_or x 2 0; o = get_or x 3 0; a = get_or x 4 0; records = Gates }

-- the header line (1), and then what follows it; the table has that many words
unfoldable pub header_read : ℕ → Scan → Netlist
header_read lent (found numbers text) =
    let c = counts_of numbers in
    counts_read c text (first ((2, counts_wrong c) ∷ (3, table_short c lent) ∷ []))
header_read lent missing = refused 1

-- a text, read into a table of that many words
unfoldable pub reading : ℕ → List ℕ → Netlist
reading lent text = header_read lent (header_line text)

-- what reading says
unfoldable pub reading_says : Netlist → Says
reading_says (netlist c words) = answers 0 (c.m ∷ c.i ∷ c.l ∷ c.o ∷ c.a ∷ [])
reading_says (refused k) = refuses k

-- the table at exit: the words read, then what stood behind them; as it was where the text is refused
unfoldable pub table_after : Netlist → List ℕ → List ℕ
table_after (netlist c words) table = words ++ drop (length words) table
table_after (refused k) table = table

-- the permitted outcome of reading: its answer, a table of AND gates, and its words at exit
pub record ReadAs (text table : List ℕ) (r : Result Counts Refusal) (table_exit : List ℕ) : Type 0 where
  pub said : text_says r ≡ reading_says (reading (length table) text)
  pub records : text_records r ≡ Gates
  pub table_words : table_exit ≡ table_after (reading (length table) text) table
