-- All lines of a kind, and the table that the output and gate lines make.
use mathlib.Core.Path.{◌≡◌, refl, ap, sym, ◌∙◌}
use mathlib.Core.Bool.{Bool, true}
use mathlib.Core.List.{List, [], ◌∷◌, ◌++◌, append_assoc, append-nil}
use Prim.Native.Nat.{ℕ, zero, suc, ◌+◌, ◌-◌, ◌*◌, ◌≤◌}
use native.Mathlib.Nat.{add-zero}
use native.Mathlib.Numerals.{add-one}
use native.Mathlib.Omega.{arith}
use lib.ListN.{length, get_or, take}
use lib.Seq.{take-suc, take_all}
use borrow.Author.Tests.{leb-true}
use Rattle.rules.specs.Each.{each, joined}
use Rattle.rules.specs.Netlist.{gate, output, rhs0, rhs1, record_at, record_words, needed, output_sound, record_sound, table_sound}
use Rattle.rules.specs.Text.{header_text, input_text, output_text, gate_text, text_of}
use Rattle.rules.specs.Reading.{found, input_line, output_line, gate_line, lines}
use Rattle.rules.specs.declared.counts.Counts.{Counts}
use Rattle.rules.specs.declared.records.RecordKind.TheVariants.{Gates}
use Rattle.rules.proofs.Indices.{each_at}
use Rattle.rules.proofs.Sound.{RightCounts}
use Rattle.demands.specs.Refusals.{FourDigits, inputs_part, outputs_part}
use Rattle.demands.proofs.Lines.{Part, part_then, part_first, lines_back, lines_forth}
use Rattle.demands.proofs.NetlistLines.{input_back, input_forth, output_back, output_forth, gate_back, gate_forth}

-- the counts of a text within the limits have at most four digits
pub four_digits : (c : Counts) → RightCounts c → FourDigits c
four_digits c h = omega arith

-- a text in which the input lines are found begins with them
pub inputs_back : (c : Counts) (text words rest : List ℕ) → lines c.i input_line text ≡ found words rest
    → header_text c ++ text ≡ inputs_part c ++ rest
inputs_back c text words rest e =
    let all = lines_back input_line (λ table. input_text) (λ table k. true) 0 0 (λ k. input_back (0 + 0 * k) k) c.i text words rest e in
    rw (all.written [] [] refl) (sym (append_assoc (header_text c) (joined c.i input_text) rest))

-- the input lines are found
pub inputs_forth : (c : Counts) (rest : List ℕ) → RightCounts c
    → lines c.i input_line (joined c.i input_text ++ rest) ≡ found (joined c.i (λ k. [])) rest
inputs_forth c rest h = lines_forth input_line input_text (λ k. []) c.i (λ k l rest. input_forth k rest (omega arith)) rest

-- the words of the output lines of a table
abbrev pub output_words : Counts → List ℕ → List ℕ
output_words c table = joined c.o (λ k. output table k ∷ [])

-- the words of its gate lines
abbrev pub gate_words : Counts → List ℕ → List ℕ
gate_words c table = joined c.a (λ k. rhs0 c table (gate c k) ∷ rhs1 c table (gate c k) ∷ [])

-- every output keeps the literal rules
abbrev pub outputs_right : Counts → List ℕ → Bool
outputs_right c table = each c.o (λ k. output_sound c (output table k))

-- every gate does
abbrev pub gates_right : Counts → List ℕ → Bool
gates_right c table = each c.a (λ k. record_sound (gate c k) (record_at c table (gate c k)))

-- the text of the gate lines
abbrev pub gates_text : Counts → List ℕ → List ℕ
gates_text c table = joined c.a (λ k. gate_text c table (gate c k))

-- output lines that are found are a part of a table
outputs_part_back : (c : Counts) (text words rest : List ℕ) → lines c.o (output_line c) text ≡ found words rest
    → Part (1 * c.o) 0 (outputs_right c) (λ table. joined c.o (output_text table)) text words rest
outputs_part_back c =
    lines_back (output_line c) output_text (λ table k. output_sound c (output table k)) 0 1 (output_back c) c.o

-- a text in which output lines are found begins with right ones
pub outputs_back : (c : Counts) (text words rest : List ℕ) → lines c.o (output_line c) text ≡ found words rest
    → (outputs_right c words ≡ true) × (inputs_part c ++ text ≡ outputs_part c words ++ rest)
outputs_back c text words rest e =
    let whole = part_first (1 * c.o) (outputs_right c) _ text words rest (outputs_part_back c text words rest e) in
    (whole.0, rw whole.1 (sym (append_assoc (inputs_part c) (joined c.o (output_text words)) rest)))

-- right output lines are found
pub outputs_forth : (c : Counts) (table rest : List ℕ) → RightCounts c → outputs_right c table ≡ true
    → lines c.o (output_line c) (joined c.o (output_text table) ++ rest) ≡ found (output_words c table) rest
unfolding output_sound
outputs_forth c table rest h s =
    lines_forth (output_line c) (output_text table) _ c.o
    (λ k l rest.
    let right = each_at c.o (λ k. output_sound c (output table k)) s k l in
    output_forth c table k rest (omega (arith, leb-true (output table k) (2 * c.m + 1) right)) right)
    rest

-- a table of AND gates needs O + 2A words
pub needed_gates : (c : Counts) → c.records ≡ Gates → needed c ≡ c.o + 2 * c.a
unfolding needed record_words
needed_gates c all_gates = rw all_gates

-- a text in which output lines and then gate lines are found is that of a sound table, which their words are
pub table_back : (c : Counts) → c.records ≡ Gates → (text words middle later rest : List ℕ) → lines c.o (output_line c) text ≡ found words middle
    → lines c.a (gate_line c) middle ≡ found later rest
    → (length (words ++ later) ≡ needed c) × (table_sound c (words ++ later) ≡ true) × (inputs_part c ++ text ≡ text_of c (words ++ later) ++ rest)
unfolding table_sound text_of
table_back c all_gates text words middle later rest e f =
    let gates =
    lines_back (gate_line c) (λ table k. gate_text c table (gate c k))
    (λ table k. record_sound (gate c k) (record_at c table (gate c k))) c.o 2 (gate_back c all_gates) c.a middle later rest f in
    let all =
    part_then (1 * c.o) (2 * c.a) 0 c.o (outputs_right c) (gates_right c) (λ table. joined c.o (output_text table)) (gates_text c)
    text words middle later rest (omega arith) (outputs_part_back c text words middle e) gates in
    let whole = part_first _ _ _ text (words ++ later) rest all in
    (omega (arith, all.long, needed_gates c all_gates), whole.0, ap (λ (l : List ℕ). inputs_part c ++ l) whole.1 ∙ simp append_assoc)

-- right gate lines are found
pub gates_forth : (c : Counts) → c.records ≡ Gates → (table rest : List ℕ) → RightCounts c → gates_right c table ≡ true
    → lines c.a (gate_line c) (gates_text c table ++ rest) ≡ found (gate_words c table) rest
unfolding gate
gates_forth c all_gates table rest h s =
    lines_forth (gate_line c) _ _ c.a
    (λ k l rest.
    gate_forth c all_gates table k rest (omega arith) (each_at c.a (λ k. record_sound (gate c k) (record_at c table (gate c k))) s k l))
    rest

-- the words of the output lines are the first of the table
first_words : (table : List ℕ) (k : ℕ) → k ≤ length table → joined k (λ j. output table j ∷ []) ≡ take k table
unfolding joined output
first_words table zero h = refl
first_words table (suc k) h = rw (first_words table k (omega arith)) (sym (take-suc table k 0 h))

-- those of the gate lines follow them
next_words : (c : Counts) (table : List ℕ) (k : ℕ) → c.o + 2 * k ≤ length table
    → take c.o table ++ joined k (λ j. rhs0 c table (gate c j) ∷ rhs1 c table (gate c j) ∷ []) ≡ take (c.o + 2 * k) table
unfolding joined rhs0 rhs1 gate
next_words c table zero h = rw (append-nil, add-zero)
next_words c table (suc k) h =
    let at : ℕ = c.o + 2 * k in
    let first : rhs0 c table (gate c k) ≡ get_or table at 0 =
    ap (λ (n : ℕ). get_or table n 0) (place c.i c.o k) in
    let second : rhs1 c table (gate c k) ≡ get_or table (suc at) 0 =
    ap (λ (n : ℕ). get_or table n 0) (ap (λ (n : ℕ). n + 1) (place c.i c.o k) ∙ add-one at) in
    let end : c.o + 2 * suc k ≡ suc (suc at) = omega arith in
    rw (← append_assoc, next_words c table k (omega arith), first, second, end)
    (sym (take-suc table (suc at) 0 (omega arith) ∙ rw (take-suc table at 0 (omega arith)) (append_assoc (take at table) _ _)))
  where
    place : (i o k : ℕ) → o + 2 * (i + 1 + k - (i + 1)) ≡ o + 2 * k
    place i o k = omega arith

-- together they are the table
pub all_words : (c : Counts) → c.records ≡ Gates → (table : List ℕ) → length table ≡ needed c → output_words c table ++ gate_words c table ≡ table
all_words c all_gates table h =
    let size : length table ≡ c.o + 2 * c.a = h ∙ needed_gates c all_gates in
    rw (first_words table c.o (omega arith))
    (next_words c table c.a (omega arith) ∙ take_all (c.o + 2 * c.a) table (omega arith))
