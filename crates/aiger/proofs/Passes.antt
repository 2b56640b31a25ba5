-- What reading leaves in the table.
use mathlib.Core.Path.{◌≡◌, refl, ap, ◌∙◌}
use mathlib.Core.List.{List, ◌++◌, append_assoc}
use Prim.Native.Nat.{ℕ, ◌+◌, ◌*◌, ◌≤◌}
use native.Mathlib.Omega.{arith}
use lib.ListN.{length, take, drop, take-append-drop}
use lib.Seq.{drop-drop}
use Rattle.std.specs.Prelude.{Result, Ok, Err, IsErr, IsErrAnd}
use Rattle.std.proofs.lemmas.Grind.{common_steps}
use Rattle.rules.specs.Netlist.{record_words, needed}
use Rattle.rules.specs.Says.{text_records, refusal_number}
use Rattle.rules.specs.Reading.{output_line, gate_line, lines, refused, reading, reading_says, table_after, ReadAs}
use Rattle.rules.specs.declared.counts.Counts.{Counts}
use Rattle.rules.specs.declared.refusals.Refusal.{Refusal}
use Rattle.aiger.specs.Checked.{RightText}
use Rattle.aiger.specs.Stored.{Stored}

-- refused: the table is as it was
pub read_refused : (text table : List ℕ) (r : Result Counts Refusal) (refusal : Refusal) → IsErr r × IsErrAnd r (λ e. e ≡ refusal)
    → reading (length table) text ≡ refused (refusal_number refusal) → ReadAs text table r table
unfolding text_records reading_says table_after
read_refused text table (Ok c) refusal h e = cc
read_refused text table (Err x) refusal h e = record { said = rw (h.1, e); records = refl; table_words = rw e }

-- a right text, read into a table of so many words: the words fit
pub right_room : {text : List ℕ} {size : ℕ} {c : Counts} {later : List ℕ} → RightText text size c later → c.o + 2 * c.a ≤ size
unfolding needed record_words
right_room right = rw right.records at right.room

-- right: both passes over a right text, the second over the rest of the table
pub read_right : (text table between part last : List ℕ) (c : Counts) (later rest end exit : List ℕ) → RightText text (length table) c later
    → Stored (lines c.o (output_line c) later) rest (1 * c.o) table between → Stored (lines c.a (gate_line c) rest) end (2 * c.a) part last
    → length between ≡ length table → part ≡ drop c.o between → length last ≡ length part → exit ≡ take c.o between ++ last → ReadAs text table (Ok c) exit
unfolding text_records reading_says table_after
read_right text table between part last c later rest end exit right outputs gates long cut long' put =
    let one : 1 * c.o ≡ c.o = omega arith in
    let room = right_room right in
    let first : right.outputs ≡ take c.o between = cc (right.outputs_found, rw one at outputs.words) in
    let same : rest ≡ right.rest = cc (right.outputs_found, outputs.words) in
    let second : right.gates ≡ take (2 * c.a) last = cc (right.gates_found, rw same at gates.words) in
    let behind : drop (2 * c.a) last ≡ drop (c.o + 2 * c.a) table =
    gates.others ∙ ap (drop (2 * c.a)) (cut ∙ rw one at outputs.others) ∙ grind (arith, drop-drop) in
    let count : length (right.outputs ++ right.gates) ≡ c.o + 2 * c.a = grind (arith, common_steps) in
    let exits : exit ≡ (right.outputs ++ right.gates) ++ drop (length (right.outputs ++ right.gates)) table =
    rw (count, append_assoc, ← behind, first, second, take-append-drop) put in
    record { said = rw right.is_read; records = right.records; table_words = rw right.is_read exits }
