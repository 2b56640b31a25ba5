-- Demand 3: what each answer of the judge means, under every order.
use Rattle.std.specs.Prelude.{◌≡◌, true, List, ◌↔◌, ◌⊎◌, ℕ, ◌+◌, ◌*◌, ◌^◌, ◌<◌, ◌≤◌, length, get_or, Result, Ok}
use Rattle.std.specs.Int.Count.{ones}
use Rattle.rules.specs.Netlist.{counts_right, table_sound}
use Rattle.rules.specs.Values.{bit}
use Rattle.rules.specs.Product.{kind_of, operand_width, addend_width, wanted_word}
use Rattle.rules.specs.Polynomial.{Polynomial}
use Rattle.rules.specs.Steps.{after, honest}
use Rattle.rules.specs.Judging.{Inputs, Judged, shown_for, refusal}
use Rattle.rules.specs.Desk.{falling}
use Rattle.rules.specs.declared.refusals.Refusal.{Refusal}
use Rattle.rules.specs.declared.answers.Answer.{Answer}
use Rattle.rules.specs.declared.answers.Answer.TheVariants.{Equal, Differs, OutOfRoom, Unfinished}
use Rattle.rules.specs.declared.answers.StepRecord.{StepRecord}
use Rattle.rules.specs.declared.counts.Counts.{Counts}

-- an outcome of judging x that the rules permit, and its answer is r
pub record Answered (x : Inputs) (r : Result Answer Refusal) : Type 0 where
  pub store : List ℕ
  pub scratch : List ℕ
  pub log : List StepRecord
  pub occurrences : List ℕ
  pub judged : Judged x r store scratch log occurrences

-- n, the bits of a and of b
abbrev pub bits : Inputs → ℕ
bits x = operand_width (kind_of x.kind) x.counts

-- operands: a and b have n bits, c has 2n or, where nothing is added, none
abbrev pub Operands : Inputs → ℕ → ℕ → ℕ → Type 0
Operands x a b c = (a < 2 ^ bits x) × (b < 2 ^ bits x) × (c < 2 ^ addend_width (kind_of x.kind) (bits x))

-- the word that the outputs show, and the wanted word, for operands
abbrev pub got : Inputs → ℕ → ℕ → ℕ → ℕ
got x a b c = shown_for (kind_of x.kind) x.counts x.table a b c

abbrev pub wanted : Inputs → ℕ → ℕ → ℕ → ℕ
wanted x a b c = wanted_word (kind_of x.kind) (bits x) a b c

-- the outputs are the wanted word for all operands
abbrev pub Right : Inputs → Type 0
Right x = (a b c : ℕ) → Operands x a b c → got x a b c ≡ wanted x a b c

-- "equal" only if the outputs are the wanted word for all operands
abbrev pub EqualRight : Type 0
EqualRight = (x : Inputs) (steps terms : ℕ) → Answered x (Ok (Equal steps terms)) → Right x

-- operands as one number: a + 2^n·b + 2^(2n)·c
abbrev pub together : ℕ → ℕ → ℕ → ℕ → ℕ
together n a b c = a + 2 ^ n * b + 2 ^ (2 * n) * c

-- the operands a, b, c come before the operands d, e, f: fewer 1 bits, or as many and a smaller number
abbrev pub Before : ℕ → ℕ → ℕ → ℕ → ℕ → ℕ → ℕ → Type 0
Before n a b c d e f =
    (ones a + ones b + ones c < ones d + ones e + ones f)
    ⊎ ((ones a + ones b + ones c ≡ ones d + ones e + ones f) × (together n a b c < together n d e f))

-- operands that go wrong, with their two words, and all operands before them are right
pub record Least (x : Inputs) (a b c g w : ℕ) : Type 0 where
  pub operands : Operands x a b c
  pub evaluated : g ≡ got x a b c
  pub read : w ≡ wanted x a b c
  pub wrong : g ≡ w → ⊥
  pub least : (d e f : ℕ) → Operands x d e f → Before (bits x) d e f a b c → got x d e f ≡ wanted x d e f

-- "differs" names, of all operands that go wrong, those with the fewest 1 bits and of these the smallest
abbrev pub DiffersRight : Type 0
DiffersRight = (x : Inputs) (steps terms a b c g w : ℕ) → Answered x (Ok (Differs steps terms a b c g w)) → Least x a b c g w

-- the polynomial after k steps of the order, with no limit
abbrev pub following : Inputs → ℕ → Polynomial
following x k = after (kind_of x.kind) x.counts x.table x.order k

-- after k steps there are at most T terms
abbrev pub Room : Inputs → ℕ → Type 0
Room x k = length (following x k) ≤ x.limit

-- "out of room" at step k exactly when nothing is refused and k is the first after which there are more than T terms;
-- the terms held are those before it, and none at the start
abbrev pub RoomExact : Type 0
RoomExact =
    (x : Inputs) (r : Result Answer Refusal) → Answered x r → (k terms : ℕ)
    → (r ≡ Ok (OutOfRoom k terms))
    ↔ ((refusal x ≡ 0) × (k ≤ length x.order) × (x.limit < length (following x k)) × ((j : ℕ) → j < k → Room x j)
    × (((k ≡ 0) × (terms ≡ 0)) ⊎ ((j : ℕ) × (k ≡ j + 1) × (terms ≡ length (following x j)))))

-- variable v occurs in a polynomial: some term holds it
abbrev pub Occurs : ℕ → Polynomial → Type 0
Occurs v p = (i : ℕ) × (i < length p) × (bit (get_or p i (0, 0)).1 v ≡ 1)

-- a gate variable occurs in a polynomial
abbrev pub GateOccurs : Counts → Polynomial → Type 0
GateOccurs c p = (v : ℕ) × (c.i < v) × (v ≤ c.m) × Occurs v p

-- nothing is refused, and there is room after every step
abbrev pub Roomy : Inputs → Type 0
Roomy x = (refusal x ≡ 0) × ((k : ℕ) → k ≤ length x.order → Room x k)

-- "unfinished" exactly when there is room after every step and a gate variable occurs in the last polynomial
abbrev pub UnfinishedExact : Type 0
UnfinishedExact =
    (x : Inputs) (r : Result Answer Refusal) → Answered x r
    → ((steps terms : ℕ) × (r ≡ Ok (Unfinished steps terms))) ↔ (Roomy x × GateOccurs x.counts (following x (length x.order)))

-- an order that has each gate once, after every gate that reads it, is never "unfinished"
abbrev pub HonestFinishes : Type 0
HonestFinishes =
    (x : Inputs) (steps terms : ℕ) → honest x.counts x.table x.order ≡ true → Answered x (Ok (Unfinished steps terms)) → ⊥

-- M down to I + 1 is such an order, in every sound table
abbrev pub ReverseHonest : Type 0
ReverseHonest =
    (c : Counts) (table : List ℕ) → counts_right c ≡ true → table_sound c table ≡ true → honest c table (falling c) ≡ true

-- with such an order and room: "equal" if the block is right under the reading, "differs" if it is not
abbrev pub HonestDecides : Type 0
HonestDecides =
    (x : Inputs) (r : Result Answer Refusal) → Answered x r → Roomy x → honest x.counts x.table x.order ≡ true
    → (Right x → (steps terms : ℕ) × (r ≡ Ok (Equal steps terms)))
    × ((Right x → ⊥) → (steps terms a b c g w : ℕ) × (r ≡ Ok (Differs steps terms a b c g w)))
