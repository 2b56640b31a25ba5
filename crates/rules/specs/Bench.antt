-- The bench sheet of document 01, P1 to P11: one table of rows under one claim.
use Rattle.std.specs.Prelude.{◌≡◌, refl, Bool, true, false, ◌&&◌, List, [], ◌∷◌, ◌++◌, map, ℕ, suc, ◌+◌, ◌-◌, ◌*◌, ◌/◌, eqb, length, take, replicate}
use Rattle.std.proofs.Math.Bool.{xor}
use Prim.Native.Char.{code}
use Prim.Native.String.{String, [] as empty, ◌∷◌ as ◌then◌}
use Rattle.std.specs.Int.Count.{ones, ones_in}
use Rattle.rules.specs.Each.{each, sum, joined, listed, every}
use Rattle.rules.specs.Says.{Says, refuses, answers, first, refuse_or}
use Rattle.rules.specs.Limits.{terms_wrong, steps_wrong}
use Rattle.rules.specs.Netlist.{counts_right, record_words, needed, variable, inverted, gate, output, rhs0, rhs1, cell_word, record_of, record_at, output_sound, gate_sound, cell_sound, record_sound, table_sound, counts_wrong, table_short, table_unsound}
use Rattle.rules.specs.Values.{width, bit, turned, literal_value, input_values, record_value, gate_value, values_to, values, shown}
use Rattle.rules.specs.Product.{kind_of, kind_unknown, complement, adds, shares, operand_width, addend_width, operand_a, operand_b, operand_c, first_word, second_word, outputs_of, operand, negative, size, modulo, product, wanted_word, below_zero, product_term, addend_term, specification}
use Rattle.rules.specs.Occurrences.{counts_at, occurring, occurrences, with_occurrences}
use Rattle.rules.specs.Polynomial.{keep, place, insert, gather, minus, with_variable, times_variable, times_chosen, times_literal}
use Rattle.rules.specs.Cells.{lies_in, evenly, evens, odds, coefficient, above, below, scaled}
use Rattle.rules.specs.Steps.{modulus, start_terms, start, where_held, times_subset, times_whole, times_record, replaced, all_replaced, made, step, trail, run}
use Rattle.rules.specs.Judging.{Inputs, set_width, term_width, misfits, kind_wrong, is_gate, order_wrong, most_made, scratch_needed, lent_short, judge_checks, roomy, held, completed, inputs_only, sooner, soonest, shown_for, differs, ended, verdict, term_words, polynomial_words, padded, records, over, kept_or, checks, refusal, polynomials, judging, store_after, scratch_after, recorded, log_after, occurrences_after}
use Rattle.rules.specs.Text.{digits, decimal}
use Rattle.rules.specs.Reading.{Netlist, netlist, refused, digit, leading_digits, value_from, well_written, behind, with_numbers, and_then, field, fields, word, header_line, tested, input_line, output_line, gate_line, lines, end_read, gates_read, outputs_read, inputs_read, counts_read, counts_of, header_read, reading}
use Rattle.rules.specs.declared.answers.StepRecord.{StepRecord}
use Rattle.rules.specs.declared.counts.Counts.{Counts}
use Rattle.rules.specs.Desk.{falling, desk_checks, desk_judging, desk_sized, desk_read, kind_line, begins, asked_below, kind_asked, desk_kind, desk_lines, desk_long, desk_says, letter, spaced, printed, told, desk_line}

-- the bytes of a text
unfoldable pub bytes : String → List ℕ
bytes empty = []
bytes (x then text) = code x ∷ bytes text

-- two lists have the same entries
unfoldable pub same : List ℕ → List ℕ → Bool
same [] [] = true
same [] (y ∷ ys) = false
same (x ∷ xs) [] = false
same (x ∷ xs) (y ∷ ys) = eqb x y && same xs ys

-- the records have these gates, these terms after the step and these before gathering
unfoldable pub same_records : List ℕ → List ℕ → List ℕ → List StepRecord → Bool
same_records gates terms made log =
    same gates (map (λ (r : StepRecord). r.gate) log)
    && same terms (map (λ (r : StepRecord). r.terms) log)
    && same made (map (λ (r : StepRecord). r.made) log)

-- the same answer with the same values, or the same refusal
unfoldable pub same_says : Says → Says → Bool
same_says (refuses j) (refuses k) = eqb j k
same_says (refuses j) (answers k ys) = false
same_says (answers j xs) (refuses k) = false
same_says (answers j xs) (answers k ys) = eqb j k && same xs ys

-- a judgement, and everything that is expected of it
pub record Row : Type 0 where
  pub text : List ℕ
  pub kind : ℕ
  pub limit : ℕ
  pub order : List ℕ
  -- terms at the start
  pub begins : ℕ
  pub says : Says
  -- the words of the store's terms
  pub store : List ℕ
  -- the occurrences, up to the last that is not 0
  pub numbers : List ℕ
  -- the gates and the terms of the log's records, after the step and before gathering, one for each step completed
  pub gates : List ℕ
  pub terms : List ℕ
  pub made : List ℕ

-- what the buffers that a row lends hold in every word; each has one word or record more than is needed
abbrev pub lent : ℕ
lent = 77

-- what the judge is handed for a row
unfoldable pub handed : Row → Counts → List ℕ → Inputs
handed row c words =
    record {
      counts = c;
      table = words;
      kind = row.kind;
      limit = row.limit;
      order = row.order;
      store = replicate (suc (row.limit * (c.m / 64 + 2))) lent;
      scratch = replicate (suc (most_made c.records * row.limit * (c.m / 64 + 2))) lent;
      log = replicate (suc (length row.order)) (record { gate = lent; terms = lent; made = lent });
      occurrences = replicate (suc (c.m + 1)) lent;
    }

-- the words of a buffer of that length at exit: the row's, then zeros or what was lent
unfoldable pub filled : {A : Type 0} → List ℕ → ℕ → List A → List ℕ
filled words rest buffer = words ++ replicate (length buffer - length words) rest

-- every lent word at exit is the row's; after a refusal each is as it was lent
unfoldable pub words_right : Row → Inputs → Says → Bool
words_right row x (answers k numbers) =
    same (filled row.store 0 x.store) (store_after x)
    && same (filled [] 0 x.scratch) (scratch_after x)
    && same_records (filled row.gates lent x.log) (filled row.terms lent x.log) (filled row.made lent x.log) (log_after x)
    && same (padded (x.counts.m + 1) row.numbers ++ lent ∷ []) (occurrences_after x)
    && eqb row.begins (length (start (kind_of x.kind) x.counts x.table))
words_right row x (refuses k) =
    same (filled [] lent x.store) (store_after x)
    && same (filled [] lent x.scratch) (scratch_after x)
    && same_records (filled [] lent x.log) (filled [] lent x.log) (filled [] lent x.log) (log_after x)
    && same (filled [] lent x.occurrences) (occurrences_after x)

-- the judgement of what is handed over is the row's
unfoldable pub judged_right : Row → Inputs → Bool
judged_right row x = same_says row.says (judging x) && words_right row x row.says

-- the text is refused as the row says, or read and then judged as it says
unfoldable pub read_right : Row → Netlist → Bool
read_right row (netlist c words) = judged_right row (handed row c words)
read_right row (refused k) = same_says row.says (refuses k)

-- reading and then judging give what the row expects; all that they are made of computes here
unfoldable pub right : Row → Bool
unfolding same same_records same_says handed filled words_right judged_right read_right each sum joined listed every first refuse_or
    terms_wrong steps_wrong counts_right needed variable inverted gate output rhs0 rhs1 output_sound gate_sound table_sound
    counts_wrong table_short table_unsound width bit turned literal_value input_values gate_value values_to values shown
    kind_of kind_unknown complement adds shares operand_width addend_width outputs_of operand negative size modulo product wanted_word xor ones ones_in
    keep place insert gather minus with_variable times_variable times_literal
    modulus below_zero product_term addend_term specification start_terms start where_held replaced all_replaced made step trail run
    set_width term_width misfits kind_wrong is_gate order_wrong lent_short judge_checks roomy held completed inputs_only sooner
    soonest operand_a operand_b operand_c first_word second_word shown_for differs ended verdict term_words polynomial_words padded records over kept_or checks refusal polynomials judging
    store_after scratch_after recorded log_after counts_at occurring occurrences with_occurrences occurrences_after
    record_words cell_word record_of record_at cell_sound record_sound record_value lies_in evenly evens odds coefficient above below scaled
    times_chosen times_subset times_whole times_record most_made scratch_needed
    digit leading_digits value_from well_written behind with_numbers and_then field fields word header_line tested input_line
    output_line gate_line lines end_read gates_read outputs_read inputs_read counts_read counts_of header_read reading
right row = read_right row (reading 2106 row.text)

-- a row at T = 128
unfoldable pub sheet : List ℕ → ℕ → List ℕ → ℕ → Says → List ℕ → List ℕ → List ℕ → List ℕ → Row
sheet text kind order begins says store numbers terms made =
    record {
      text = text;
      kind = kind;
      limit = 128;
      order = order;
      begins = begins;
      says = says;
      store = store;
      numbers = numbers;
      gates = take (length terms) order;
      terms = terms;
      made = made;
    }

-- AND: `aag 3 2 0 2 1` with gate `6 4 2`, and its two outputs
unfoldable pub and_block : String → List ℕ
and_block outputs = bytes "aag 3 2 0 2 1\n2\n4\n" ++ bytes outputs ++ bytes "6 4 2\n"

-- the gates of the two-bit block of P10
unfoldable pub two_bit_gates : List ℕ
two_bit_gates = bytes "10 6 2\n12 8 2\n14 6 4\n16 8 4\n18 14 12\n20 15 13\n22 21 19\n24 18 16\n26 19 17\n28 27 25\n"

-- the two-bit block of P10
unfoldable pub two_bits : List ℕ
two_bits = bytes "aag 14 4 0 4 10\n2\n4\n6\n8\n10\n22\n28\n24\n" ++ two_bit_gates

-- gates 14 down to 5
unfoldable pub ten_down : List ℕ
ten_down = 14 ∷ 13 ∷ 12 ∷ 11 ∷ 10 ∷ 9 ∷ 8 ∷ 7 ∷ 6 ∷ 5 ∷ []

-- the netlist of P9, the desk example
unfoldable pub desk_example : List ℕ
desk_example = bytes "aag 3 2 0 2 1\n2\n4\n7\n0\n6 5 3\n"

-- P1 to P11: text, kind, order, terms at the start, what is said, the store's words, the occurrences, and for each step the terms after it
-- and those before gathering
unfoldable pub bench_sheet : List Row
bench_sheet =
    sheet (and_block "6\n0\n") 0 (3 ∷ []) 2 (answers 0 (1 ∷ 0 ∷ [])) [] [] (0 ∷ []) (2 ∷ [])
    ∷ sheet (and_block "6\n0\n") 1 (3 ∷ []) 2 (answers 0 (1 ∷ 0 ∷ [])) [] [] (0 ∷ []) (2 ∷ [])
    ∷ sheet (and_block "6\n6\n") 0 (3 ∷ []) 2 (answers 1 (1 ∷ 1 ∷ 1 ∷ 1 ∷ 0 ∷ 3 ∷ 1 ∷ [])) (2 ∷ 6 ∷ []) (1 ∷ 1 ∷ 1 ∷ []) (1 ∷ []) (2 ∷ [])
    ∷ sheet (and_block "6\n6\n") 1 (3 ∷ []) 2 (answers 1 (1 ∷ 1 ∷ 1 ∷ 1 ∷ 0 ∷ 3 ∷ 1 ∷ [])) (2 ∷ 6 ∷ []) (1 ∷ 1 ∷ 1 ∷ []) (1 ∷ []) (2 ∷ [])
    ∷ sheet (and_block "7\n0\n") 0 (3 ∷ []) 3 (answers 1 (1 ∷ 2 ∷ 0 ∷ 0 ∷ 0 ∷ 1 ∷ 0 ∷ [])) (2 ∷ 6 ∷ 1 ∷ 0 ∷ []) (2 ∷ 1 ∷ 1 ∷ []) (2 ∷ []) (3 ∷ [])
    ∷ sheet (and_block "6\n0\n") 0 [] 2 (answers 3 (0 ∷ 2 ∷ [])) (1 ∷ 8 ∷ 3 ∷ 6 ∷ []) (2 ∷ 1 ∷ 1 ∷ 1 ∷ []) [] []
    ∷ sheet (and_block "6\n0\n") 0 (3 ∷ 3 ∷ []) 2 (answers 0 (2 ∷ 0 ∷ [])) [] [] (0 ∷ 0 ∷ []) (2 ∷ 0 ∷ [])
    ∷ sheet (bytes "aag 3 2 0 1 1\n2\n4\n6\n6 4 2\n") 2 (3 ∷ []) 2 (answers 0 (1 ∷ 0 ∷ [])) [] [] (0 ∷ []) (2 ∷ [])
    ∷ sheet desk_example 0 (3 ∷ []) 3 (answers 1 (1 ∷ 3 ∷ 1 ∷ 0 ∷ 0 ∷ 1 ∷ 0 ∷ [])) (2 ∷ 6 ∷ 1 ∷ 4 ∷ 1 ∷ 2 ∷ []) (3 ∷ 2 ∷ 2 ∷ []) (3 ∷ []) (6 ∷ [])
    ∷ sheet two_bits 0 ten_down 8 (answers 0 (10 ∷ 0 ∷ [])) [] []
    (10 ∷ 13 ∷ 8 ∷ 10 ∷ 13 ∷ 8 ∷ 6 ∷ 4 ∷ 2 ∷ 0 ∷ [])
    (11 ∷ 16 ∷ 13 ∷ 11 ∷ 16 ∷ 13 ∷ 8 ∷ 6 ∷ 4 ∷ 2 ∷ [])
    ∷ sheet two_bits 1 ten_down 8 (answers 1 (10 ∷ 2 ∷ 2 ∷ 1 ∷ 0 ∷ 2 ∷ 14 ∷ [])) (4 ∷ 18 ∷ 4 ∷ 12 ∷ []) (2 ∷ 1 ∷ 1 ∷ 1 ∷ 1 ∷ [])
    (10 ∷ 13 ∷ 8 ∷ 10 ∷ 13 ∷ 8 ∷ 6 ∷ 5 ∷ 4 ∷ 2 ∷ [])
    (11 ∷ 16 ∷ 13 ∷ 11 ∷ 16 ∷ 13 ∷ 8 ∷ 6 ∷ 5 ∷ 4 ∷ [])
    ∷ []

-- every row of the bench sheet is right
bench : every right bench_sheet ≡ true
unfolding right bytes sheet and_block two_bit_gates two_bits ten_down desk_example bench_sheet
bench = refl

-- the desk's line; all that it is made of computes here
unfoldable pub desk_prints : List ℕ → List ℕ
unfolding right digits decimal falling desk_checks desk_judging desk_sized desk_read kind_line begins asked_below kind_asked desk_kind desk_lines
    desk_long desk_says letter spaced printed told desk_line
desk_prints input = desk_line input

-- P9 as bytes through the desk's line
desk_bench : desk_prints (bytes "u\n" ++ desk_example) ≡ bytes "D 1 3 1 0 1 0\n"
unfolding bytes desk_example desk_prints
desk_bench = refl
