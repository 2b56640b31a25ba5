-- Counts, literals, records, tables, and when they are sound.
use Rattle.std.specs.Prelude.{Bool, not, ◌&&◌, ◌||◌, List, ℕ, ◌+◌, ◌-◌, ◌*◌, ◌/◌, ◌%◌, leb, ltb, eqb, get_or}
use Rattle.rules.specs.Each.{each}
use Rattle.rules.specs.Limits.{most_variables, least_inputs, most_inputs, least_outputs, most_outputs}
use Rattle.rules.specs.declared.counts.Counts.{Counts}
use Rattle.rules.specs.declared.records.Record.{Record}
use Rattle.rules.specs.declared.records.Record.TheVariants.{Gate, Cell}
use Rattle.rules.specs.declared.records.RecordKind.{RecordKind}
use Rattle.rules.specs.declared.records.RecordKind.TheVariants.{Gates, Cells}

-- L = 0, M = I + A, M at most 1,023, I even from 2 to 64, O from 1 to 64
unfoldable pub counts_right : Counts → Bool
counts_right c =
    eqb c.l 0
    && eqb c.m (c.i + c.a)
    && leb c.m most_variables
    && eqb (c.i % 2) 0
    && leb least_inputs c.i
    && leb c.i most_inputs
    && leb least_outputs c.o
    && leb c.o most_outputs

-- the words of a record: two literals, or a byte and three variables
unfoldable pub record_words : RecordKind → ℕ
record_words Gates = 2
record_words Cells = 4

-- the words that a table needs: the outputs, then those of a record for each gate
unfoldable pub needed : Counts → ℕ
needed c = c.o + record_words c.records * c.a

-- the variable of a literal
unfoldable pub variable : ℕ → ℕ
variable x = x / 2

-- 1 where a literal is the inverse of its variable, else 0
unfoldable pub inverted : ℕ → ℕ
inverted x = x % 2

-- the variable of the k-th gate, from 0
unfoldable pub gate : Counts → ℕ → ℕ
gate c k = c.i + 1 + k

-- the literal of output i, from 0
unfoldable pub output : List ℕ → ℕ → ℕ
output table i = get_or table i 0

-- the two literals of AND gate v: they stand behind the outputs
unfoldable pub rhs0 : Counts → List ℕ → ℕ → ℕ
rhs0 c table v = get_or table (c.o + 2 * (v - (c.i + 1))) 0

unfoldable pub rhs1 : Counts → List ℕ → ℕ → ℕ
rhs1 c table v = get_or table (c.o + 2 * (v - (c.i + 1)) + 1) 0

-- word j of the record of lookup cell v: its truth byte, x1, x2, x3; they stand behind the outputs
unfoldable pub cell_word : Counts → List ℕ → ℕ → ℕ → ℕ
cell_word c table v j = get_or table (c.o + 4 * (v - (c.i + 1)) + j) 0

-- the record of gate v in a table of that kind
unfoldable pub record_of : RecordKind → Counts → List ℕ → ℕ → Record
record_of Gates c table v = Gate (rhs0 c table v) (rhs1 c table v)
record_of Cells c table v = Cell (cell_word c table v 0) (cell_word c table v 1) (cell_word c table v 2) (cell_word c table v 3)

-- the record of gate v
unfoldable pub record_at : Counts → List ℕ → ℕ → Record
record_at c table v = record_of c.records c table v

-- an output is a literal from 0 to 2M + 1
unfoldable pub output_sound : Counts → ℕ → Bool
output_sound c x = leb x (2 * c.m + 1)

-- lhs > rhs0 and rhs0 at least rhs1, for gate v with lhs 2v
unfoldable pub gate_sound : ℕ → ℕ → ℕ → Bool
gate_sound v x y = ltb x (2 * v) && leb y x

-- a byte up to 255, and variables below the cell's own, v; 0 stands for constant false
unfoldable pub cell_sound : ℕ → ℕ → ℕ → ℕ → ℕ → Bool
cell_sound v byte x1 x2 x3 = leb byte 255 && ltb x1 v && ltb x2 v && ltb x3 v

-- the record of gate v keeps the rules of its kind
unfoldable pub record_sound : ℕ → Record → Bool
record_sound v (Gate x y) = gate_sound v x y
record_sound v (Cell byte x1 x2 x3) = cell_sound v byte x1 x2 x3

-- every output and every record keeps its rules
unfoldable pub table_sound : Counts → List ℕ → Bool
table_sound c table =
    each c.o (λ i. output_sound c (output table i))
    && each c.a (λ k. record_sound (gate c k) (record_at c table (gate c k)))

-- a count outside its limits (2)
unfoldable pub counts_wrong : Counts → Bool
counts_wrong c = not (counts_right c)

-- a table of that many words is shorter than O + 2A, or O + 4A with lookup cells (3)
unfoldable pub table_short : Counts → ℕ → Bool
table_short c words = ltb words (needed c)

-- an output or a record breaks its rules (8)
unfoldable pub table_unsound : Counts → List ℕ → Bool
table_unsound c table = not (table_sound c table)

-- a record reads variable v
unfoldable pub record_reads : Record → ℕ → Bool
record_reads (Gate x y) v = eqb (variable x) v || eqb (variable y) v
record_reads (Cell byte x1 x2 x3) v = eqb x1 v || eqb x2 v || eqb x3 v

-- P holds of every variable that a record reads
abbrev pub EveryVariable : (ℕ → Type 0) → Record → Type 0
EveryVariable P (Gate x y) = P (variable x) × P (variable y)
EveryVariable P (Cell byte x1 x2 x3) = P x1 × P x2 × P x3

-- the truth byte of a record; 0 where it has none
unfoldable pub byte_of : Record → ℕ
byte_of (Gate x y) = 0
byte_of (Cell byte x1 x2 x3) = byte

-- gate w reads variable v
unfoldable pub reads : Counts → List ℕ → ℕ → ℕ → Bool
reads c table w v = record_reads (record_at c table w) v
