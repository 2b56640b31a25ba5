-- Our own cases beside the bench sheet: limits at their edges, the order of checks, and where two rules could be confused.
use Rattle.std.specs.Prelude.{◌≡◌, refl, Bool, true, false, not, ◌&&◌, List, [], ◌∷◌, ◌++◌, ℕ, ◌+◌, ◌-◌, ◌*◌, length, drop, replicate}
use Prim.Native.String.{String}
use Rattle.rules.specs.Each.{every, listed}
use Rattle.rules.specs.Says.{Says, refuses, answers}
use Rattle.rules.specs.Netlist.{record_reads, reads}
use Rattle.rules.specs.Product.{plain}
use Rattle.rules.specs.Steps.{times_named, honest}
use Rattle.rules.specs.Judging.{lent_short, verdict}
use Rattle.rules.specs.Text.{digits, decimal, fields_text, header_text, input_text, output_text, gate_text, text_of}
use Rattle.rules.specs.Reading.{Netlist, netlist, refused, reading}
use Rattle.rules.specs.declared.counts.Counts.{Counts}
use Rattle.rules.specs.declared.records.RecordKind.TheVariants.{Gates, Cells}
use Rattle.rules.specs.Bench.{Row, bytes, same_says, handed, judged_right, sheet, and_block, two_bit_gates, two_bits, ten_down, right, desk_prints}

-- P1's block, kind, limit and order, with what is said; an answer leaves an empty store and 0 terms after each step, and the first alone has
-- terms before it
unfoldable pub edge : ℕ → ℕ → List ℕ → Says → Row
edge kind limit order says =
    record {
      text = and_block "6\n0\n";
      kind = kind;
      limit = limit;
      order = order;
      begins = 2;
      says = says;
      store = [];
      numbers = [];
      gates = order;
      terms = replicate (length order) 0;
      made = 2 ∷ replicate (length order - 1) 0;
    }

-- a text that is refused when it is read, or whose block is refused when it is judged as plain
unfoldable pub unfit : List ℕ → ℕ → Row
unfit text k = sheet text 0 [] 0 (refuses k) [] [] [] []

-- 12-bit operands: outputs 51, 53, .. 97 are the inverses of the gates 25 to 48, each AND of two inputs
unfoldable pub twelve_bits : List ℕ
twelve_bits =
    text_of
    (record { m = 48; i = 24; l = 0; o = 24; a = 24; records = Gates })
    (listed 24 (λ i. 51 + 2 * i) ++ replicate 48 2)

-- such a block with an empty order
unfoldable pub twelve : ℕ → Says → Row
twelve limit says =
    record {
      text = twelve_bits;
      kind = 0;
      limit = limit;
      order = [];
      begins = 169;
      says = says;
      store = [];
      numbers = [];
      gates = [];
      terms = [];
      made = [];
    }

-- limits at their edges: T 127, 4,096 and 4,097 steps, M 1,023 (its counts are taken, the input lines are missing) and 1,024, I 0, 66
-- and 64 (taken, O is not l); 10 is checked before 11; P1 under t; n = 12 has 169 terms at the start
unfoldable pub edges : List Row
edges =
    edge 0 127 (3 ∷ []) (refuses 10)
    ∷ edge 0 16385 (3 ∷ []) (refuses 10)
    ∷ edge 0 128 (replicate 4096 3) (answers 0 (4096 ∷ 0 ∷ []))
    ∷ edge 0 128 (replicate 4097 3) (refuses 11)
    ∷ edge 0 127 (replicate 4097 3) (refuses 10)
    ∷ edge 0 128 (2 ∷ []) (refuses 11)
    ∷ edge 0 128 (4 ∷ []) (refuses 11)
    ∷ edge 2 128 (3 ∷ []) (refuses 9)
    ∷ edge 3 128 (3 ∷ []) (refuses 9)
    ∷ edge 5 128 (3 ∷ []) (refuses 9)
    ∷ edge 256 128 (3 ∷ []) (refuses 9)
    ∷ unfit (bytes "aag 1023 2 0 2 1021\n") 4
    ∷ unfit (bytes "aag 1024 2 0 2 1022\n") 2
    ∷ unfit (bytes "aag 1 0 0 1 1\n") 2
    ∷ unfit (bytes "aag 66 66 0 2 0\n") 2
    ∷ unfit (text_of (record { m = 64; i = 64; l = 0; o = 1; a = 0; records = Gates }) (0 ∷ [])) 9
    ∷ twelve 128 (answers 2 (0 ∷ 0 ∷ []))
    ∷ []

-- texts that are refused, each for one reason
unfoldable pub damaged : List Row
damaged =
    unfit [] 1
    ∷ unfit (bytes "aag 3 2 0 2\n") 1
    ∷ unfit (bytes "aag 03 2 0 2 1\n") 1
    ∷ unfit (bytes "aag 3 2 0 2 1\r\n") 1
    ∷ unfit (bytes "aag 10003 2 0 2 1\n") 1
    ∷ unfit (bytes "aag 3 2 1 2 1\n") 2
    ∷ unfit (bytes "aag 4 2 0 2 1\n") 2
    ∷ unfit (bytes "aag 2 2 0 65 0\n") 2
    ∷ unfit (bytes "aag 3 2 0 2 1\n2\n6\n6\n0\n6 4 2\n") 4
    ∷ unfit (bytes "aag 3 2 0 2 1\n2\n") 4
    ∷ unfit (bytes "aag 3 2 0 2 1\n2\n4\n8\n0\n6 4 2\n") 5
    ∷ unfit (bytes "aag 3 2 0 2 1\n2\n4\n6\n0\n6 2 4\n") 6
    ∷ unfit (bytes "aag 3 2 0 2 1\n2\n4\n6\n0\n6 6 2\n") 6
    ∷ unfit (bytes "aag 3 2 0 2 1\n2\n4\n6\n0\n6 4 2") 6
    ∷ unfit (bytes "aag 3 2 0 2 1\n2\n4\n6\n0\n6 4 2\n\n") 7
    ∷ []

-- an order of P10 that has each gate once, after every gate that reads it, and does not fall
unfoldable pub winding : List ℕ
winding = 11 ∷ 14 ∷ 13 ∷ 12 ∷ 10 ∷ 9 ∷ 8 ∷ 7 ∷ 6 ∷ 5 ∷ []

-- a pair of one 1 bit, b = 1, is wrong and named, though a = 3, b = 0 is smaller and wrong too; terms that vanish modulo 2^n;
-- an order that winds
unfoldable pub turns : List Row
turns =
    sheet (bytes "aag 5 4 0 4 1\n2\n4\n6\n8\n6\n10\n0\n0\n10 4 2\n") 0 (5 ∷ []) 6
    (answers 1 (1 ∷ 6 ∷ 0 ∷ 1 ∷ 0 ∷ 1 ∷ 0 ∷ []))
    (12 ∷ 20 ∷ 14 ∷ 18 ∷ 14 ∷ 12 ∷ 15 ∷ 10 ∷ 1 ∷ 8 ∷ 2 ∷ 6 ∷ [])
    (6 ∷ 3 ∷ 3 ∷ 3 ∷ 2 ∷ [])
    (6 ∷ [])
    (6 ∷ [])
    ∷ sheet (bytes "aag 14 4 0 2 10\n2\n4\n6\n8\n10\n22\n" ++ two_bit_gates) 2 ten_down 5
    (answers 0 (10 ∷ 0 ∷ []))
    []
    []
    (5 ∷ 5 ∷ 5 ∷ 8 ∷ 10 ∷ 6 ∷ 6 ∷ 4 ∷ 2 ∷ 0 ∷ [])
    (5 ∷ 5 ∷ 5 ∷ 8 ∷ 14 ∷ 10 ∷ 6 ∷ 6 ∷ 4 ∷ 2 ∷ [])
    ∷ sheet two_bits 0 winding 8 (answers 0 (10 ∷ 0 ∷ [])) [] []
    (11 ∷ 12 ∷ 15 ∷ 10 ∷ 13 ∷ 8 ∷ 6 ∷ 4 ∷ 2 ∷ 0 ∷ [])
    (11 ∷ 14 ∷ 18 ∷ 15 ∷ 16 ∷ 13 ∷ 8 ∷ 6 ∷ 4 ∷ 2 ∷ [])
    ∷ []

-- the gate of AND's block with these two literals
unfoldable pub one_gate : String → List ℕ
one_gate literals = bytes "aag 3 2 0 2 1\n2\n4\n6\n0\n6 " ++ bytes literals

-- what a gate makes of the one term that holds it: four by one inverted literal twice, none by literal 0, two by an inverted literal and
-- literal 1
unfoldable pub peaks : List Row
peaks =
    sheet (one_gate "5 5\n") 0 (3 ∷ []) 2
    (answers 1 (1 ∷ 3 ∷ 0 ∷ 0 ∷ 0 ∷ 1 ∷ 0 ∷ []))
    (3 ∷ 6 ∷ 3 ∷ 4 ∷ 1 ∷ 0 ∷ [])
    (3 ∷ 1 ∷ 2 ∷ [])
    (3 ∷ [])
    (5 ∷ [])
    ∷ sheet (one_gate "4 0\n") 0 (3 ∷ []) 2 (answers 1 (1 ∷ 1 ∷ 1 ∷ 1 ∷ 0 ∷ 0 ∷ 1 ∷ [])) (3 ∷ 6 ∷ []) (1 ∷ 1 ∷ 1 ∷ []) (1 ∷ []) (1 ∷ [])
    ∷ sheet (one_gate "5 1\n") 0 (3 ∷ []) 2
    (answers 1 (1 ∷ 3 ∷ 0 ∷ 0 ∷ 0 ∷ 1 ∷ 0 ∷ []))
    (3 ∷ 6 ∷ 3 ∷ 4 ∷ 1 ∷ 0 ∷ [])
    (3 ∷ 1 ∷ 2 ∷ [])
    (3 ∷ [])
    (3 ∷ [])
    ∷ []

-- a·b + c of one-bit a and b, and the same without the upper bit of c: wrong at c = 2
unfoldable pub one_bit_sum : List ℕ
one_bit_sum = bytes "aag 11 4 0 2 7\n2\n4\n6\n8\n16\n22\n10 4 2\n12 10 6\n14 11 7\n16 15 13\n18 12 8\n20 13 9\n22 21 19\n"

unfoldable pub upper_bit_lost : List ℕ
upper_bit_lost = bytes "aag 8 4 0 2 4\n2\n4\n6\n8\n16\n12\n10 4 2\n12 10 6\n14 11 7\n16 15 13\n"

-- two-bit a and b: the outputs are c alone
unfoldable pub product_lost : List ℕ
product_lost = bytes "aag 8 8 0 4 0\n2\n4\n6\n8\n10\n12\n14\n16\n10\n12\n14\n16\n"

-- six inputs, and the two outputs of n = 1
unfoldable pub six_inputs : List ℕ
six_inputs = bytes "aag 6 6 0 2 0\n2\n4\n6\n8\n10\n12\n2\n4\n"

-- multiply and add under a kind: a right block, a wrong one with its operands, and six inputs, which are no multiple of four
unfoldable pub added : ℕ → List Row
added kind =
    sheet one_bit_sum kind (11 ∷ 10 ∷ 9 ∷ 8 ∷ 7 ∷ 6 ∷ 5 ∷ []) 5 (answers 0 (7 ∷ 0 ∷ [])) [] [] (8 ∷ 8 ∷ 4 ∷ 6 ∷ 7 ∷ 2 ∷ 0 ∷ []) (8 ∷ 14 ∷ 8 ∷ 7 ∷ 12 ∷ 7 ∷ 2 ∷ [])
    ∷ sheet upper_bit_lost kind (8 ∷ 7 ∷ 6 ∷ 5 ∷ []) 5 (answers 1 (4 ∷ 1 ∷ 0 ∷ 0 ∷ 2 ∷ 0 ∷ 2 ∷ [])) (2 ∷ 16 ∷ []) (1 ∷ 0 ∷ 0 ∷ 0 ∷ 1 ∷ []) (7 ∷ 8 ∷ 3 ∷ 1 ∷ []) (8 ∷ 13 ∷ 8 ∷ 3 ∷ [])
    ∷ sheet six_inputs kind [] 0 (refuses 9) [] [] [] []
    ∷ []

-- both kinds; and what is left where c cancels, the product of two bits with every sign plus, or with two's complement's signs
unfoldable pub sums : List Row
sums =
    added 3 ++ added 4
    ++ sheet product_lost 3 [] 4 (answers 1 (0 ∷ 4 ∷ 1 ∷ 1 ∷ 0 ∷ 0 ∷ 1 ∷ [])) (12 ∷ 20 ∷ 14 ∷ 18 ∷ 14 ∷ 12 ∷ 15 ∷ 10 ∷ []) (4 ∷ 2 ∷ 2 ∷ 2 ∷ 2 ∷ []) [] []
    ∷ sheet product_lost 4 [] 4 (answers 1 (0 ∷ 4 ∷ 1 ∷ 1 ∷ 0 ∷ 0 ∷ 1 ∷ [])) (12 ∷ 20 ∷ 2 ∷ 18 ∷ 2 ∷ 12 ∷ 15 ∷ 10 ∷ []) (4 ∷ 2 ∷ 2 ∷ 2 ∷ 2 ∷ []) [] []
    ∷ []

-- the counts of a block of two inputs, two outputs and so many lookup cells
unfoldable pub cell_counts : ℕ → Counts
cell_counts a = record { m = 2 + a; i = 2; l = 0; o = 2; a = a; records = Cells }

-- a plain block of so many lookup cells, by its table, is judged as the row says
unfoldable pub cells_as : ℕ → List ℕ → Row → Bool
cells_as a table row = judged_right row (handed row (cell_counts a) table)

-- lookup cells: AND, by a byte that has x3 (constant false) free and by one that has not; x1 and not x2, wrong at a = 1; all three variables,
-- where 4·x1·x2·x3 vanishes modulo 4 but counts before gathering; one variable twice; a byte above 255, a variable that is not below its cell's own, and a table
-- of O + 4A - 1 words
unfoldable pub cell_cases : Bool
unfolding right
cell_cases =
    cells_as 1 (6 ∷ 0 ∷ 136 ∷ 1 ∷ 2 ∷ 0 ∷ []) (sheet [] 0 (3 ∷ []) 2 (answers 0 (1 ∷ 0 ∷ [])) [] [] (0 ∷ []) (2 ∷ []))
    && cells_as 1 (6 ∷ 0 ∷ 8 ∷ 2 ∷ 1 ∷ 0 ∷ []) (sheet [] 0 (3 ∷ []) 2 (answers 0 (1 ∷ 0 ∷ [])) [] [] (0 ∷ []) (2 ∷ []))
    && cells_as 1 (6 ∷ 0 ∷ 34 ∷ 1 ∷ 2 ∷ 0 ∷ []) (sheet [] 0 (3 ∷ []) 2 (answers 1 (1 ∷ 2 ∷ 1 ∷ 0 ∷ 0 ∷ 1 ∷ 0 ∷ [])) (2 ∷ 6 ∷ 1 ∷ 2 ∷ []) (2 ∷ 2 ∷ 1 ∷ []) (2 ∷ []) (3 ∷ []))
    && cells_as 2 (8 ∷ 0 ∷ 136 ∷ 1 ∷ 2 ∷ 0 ∷ 150 ∷ 1 ∷ 2 ∷ 3 ∷ []) (sheet [] 0 (4 ∷ 3 ∷ []) 2 (answers 1 (2 ∷ 3 ∷ 1 ∷ 0 ∷ 0 ∷ 1 ∷ 0 ∷ [])) (2 ∷ 6 ∷ 1 ∷ 4 ∷ 1 ∷ 2 ∷ []) (3 ∷ 2 ∷ 2 ∷ []) (6 ∷ 3 ∷ []) (8 ∷ 6 ∷ []))
    && cells_as 1 (6 ∷ 0 ∷ 150 ∷ 1 ∷ 2 ∷ 1 ∷ []) (sheet [] 0 (3 ∷ []) 2 (answers 1 (1 ∷ 2 ∷ 0 ∷ 1 ∷ 0 ∷ 1 ∷ 0 ∷ [])) (3 ∷ 6 ∷ 1 ∷ 4 ∷ []) (2 ∷ 1 ∷ 2 ∷ []) (2 ∷ []) (8 ∷ []))
    && cells_as 1 (6 ∷ 0 ∷ 255 ∷ 2 ∷ 2 ∷ 2 ∷ []) (sheet [] 0 (3 ∷ []) 2 (answers 1 (1 ∷ 2 ∷ 0 ∷ 0 ∷ 0 ∷ 1 ∷ 0 ∷ [])) (3 ∷ 6 ∷ 1 ∷ 0 ∷ []) (2 ∷ 1 ∷ 1 ∷ []) (2 ∷ []) (2 ∷ []))
    && cells_as 1 (6 ∷ 0 ∷ 256 ∷ 1 ∷ 2 ∷ 0 ∷ []) (sheet [] 0 (3 ∷ []) 2 (refuses 8) [] [] [] [])
    && cells_as 1 (6 ∷ 0 ∷ 136 ∷ 1 ∷ 2 ∷ 3 ∷ []) (sheet [] 0 (3 ∷ []) 2 (refuses 8) [] [] [] [])
    && cells_as 1 (6 ∷ 0 ∷ 136 ∷ 1 ∷ 2 ∷ []) (sheet [] 0 (3 ∷ []) 2 (refuses 3) [] [] [] [])

-- scratch at T = 128 for sets of one word: 8T(W + 1) words for lookup cells, and 4T(W + 1) for AND gates, and not one less; and
-- M + 1 words for the occurrences
unfoldable pub lent_edges : Bool
unfolding right
lent_edges =
    not (lent_short (cell_counts 1) 128 0 256 2048 0 4)
    && lent_short (cell_counts 1) 128 0 256 2047 0 4
    && not (lent_short (record { m = 3; i = 2; l = 0; o = 2; a = 1; records = Gates }) 128 0 256 1024 0 4)
    && lent_short (record { m = 3; i = 2; l = 0; o = 2; a = 1; records = Gates }) 128 0 256 1023 0 4
    && lent_short (record { m = 3; i = 2; l = 0; o = 2; a = 1; records = Gates }) 128 0 256 1024 0 3

-- what is said of a plain block below the check of T
unfoldable pub said_at : ℕ → List ℕ → Netlist → Says
said_at limit order (netlist c words) = verdict plain c words limit order
said_at limit order (refused k) = refuses k

-- an order of a block is honest
unfoldable pub honest_in : List ℕ → Netlist → Bool
honest_in order (netlist c words) = honest c words order
honest_in order (refused k) = false

-- the rules on P10 and on n = 12 that need no buffers: after its second step P10 has 13 terms, gathered from 16; with T = 12 that
-- is too many; an order that winds is honest; n = 12 has room at the start with T = 169
unfoldable pub looks : Bool
unfolding right
looks =
    same_says (said_at 13 ten_down (reading 2106 two_bits)) (answers 0 (10 ∷ 0 ∷ []))
    && same_says (said_at 12 ten_down (reading 2106 two_bits)) (answers 2 (2 ∷ 10 ∷ []))
    && same_says (said_at 169 [] (reading 2106 twelve_bits)) (answers 3 (0 ∷ 169 ∷ []))
    && same_says (said_at 168 [] (reading 2106 twelve_bits)) (answers 2 (0 ∷ 0 ∷ []))
    && honest_in winding (reading 2106 two_bits)
    && honest_in ten_down (reading 2106 two_bits)
    && not (honest_in (14 ∷ 13 ∷ 12 ∷ 10 ∷ 11 ∷ 9 ∷ 8 ∷ 7 ∷ 6 ∷ 5 ∷ []) (reading 2106 two_bits))
    && not (honest_in (drop 1 ten_down) (reading 2106 two_bits))

-- every case at an edge is right
edges_right : every right edges ≡ true
unfolding right bytes sheet and_block two_bit_gates two_bits ten_down digits decimal fields_text header_text input_text output_text gate_text text_of
    edge unfit twelve_bits twelve edges damaged winding turns
edges_right = refl

-- every damaged text is refused as it should be
damaged_right : every right damaged ≡ true
unfolding right bytes sheet and_block two_bit_gates two_bits ten_down digits decimal fields_text header_text input_text output_text gate_text text_of
    edge unfit twelve_bits twelve edges damaged winding turns
damaged_right = refl

-- every turn is right
turns_right : every right turns ≡ true
unfolding right bytes sheet and_block two_bit_gates two_bits ten_down digits decimal fields_text header_text input_text output_text gate_text text_of
    edge unfit twelve_bits twelve edges damaged winding turns
turns_right = refl

-- every peak is right
peaks_right : every right peaks ≡ true
unfolding right bytes sheet one_gate peaks
peaks_right = refl

-- every case of multiply and add is right
sums_right : every right sums ≡ true
unfolding right bytes sheet one_bit_sum upper_bit_lost product_lost six_inputs added sums
sums_right = refl

-- the desk prints c behind b for the kinds that add it, reads the line of two letters, and takes no line that merely begins like it
desk_sums :
    ((desk_prints (bytes "m\n" ++ upper_bit_lost) ≡ bytes "D 4 1 0 0 2 0 2\n")
    × (desk_prints (bytes "ms\n" ++ upper_bit_lost) ≡ bytes "D 4 1 0 0 2 0 2\n"))
    × ((desk_prints (bytes "ms\n" ++ one_bit_sum) ≡ bytes "E 7 0\n") × (desk_prints (bytes "mt\n" ++ one_bit_sum) ≡ bytes "X 9\n"))
unfolding bytes upper_bit_lost one_bit_sum desk_prints
desk_sums = ((refl, refl), (refl, refl))

-- each case of lookup cells is right, and the least lengths of what is lent
cells_right : (cell_cases && lent_edges) ≡ true
unfolding cell_counts cells_as cell_cases lent_edges sheet right
cells_right = refl

-- each look is right
looks_right : looks ≡ true
unfolding looks said_at honest_in bytes and_block two_bit_gates two_bits ten_down digits decimal fields_text header_text input_text output_text gate_text text_of
    twelve_bits winding record_reads reads times_named honest
looks_right = refl
