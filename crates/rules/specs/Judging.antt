-- What the judge answers, and every lent word when it returns.
use Rattle.std.specs.Prelude.{◌≡◌, Bool, not, cond, ◌||◌, ◌&&◌, List, [], ◌∷◌, ◌++◌, ℕ, zero, suc, pred, ◌+◌, ◌-◌, ◌*◌, ◌/◌, ◌%◌, ◌^◌, leb, ltb, eqb, length, get_or, take, drop, replicate, Result}
use Rattle.std.specs.Int.Count.{ones}
use Rattle.rules.specs.Each.{every, listed}
use Rattle.rules.specs.Limits.{terms_wrong, steps_wrong}
use Rattle.rules.specs.Netlist.{counts_wrong, table_short, table_unsound}
use Rattle.rules.specs.Values.{shown}
use Rattle.rules.specs.Product.{Kind, kind_of, kind_unknown, shares, operand_width, operand_a, operand_b, operand_c, first_word, second_word, outputs_of, wanted_word}
use Rattle.rules.specs.Occurrences.{with_occurrences}
use Rattle.rules.specs.Polynomial.{Term, Polynomial}
use Rattle.rules.specs.Steps.{modulus, made, run}
use Rattle.rules.specs.Says.{Says, answers, first, refuse_or, says}
use Rattle.rules.specs.declared.answers.Answer.{Answer}
use Rattle.rules.specs.declared.refusals.Refusal.{Refusal}
use Rattle.rules.specs.declared.answers.StepRecord.{StepRecord}
use Rattle.rules.specs.declared.counts.Counts.{Counts}
use Rattle.rules.specs.declared.records.RecordKind.{RecordKind}
use Rattle.rules.specs.declared.records.RecordKind.TheVariants.{Gates, Cells}

-- W, the words of a set
unfoldable pub set_width : Counts → ℕ
set_width c = c.m / 64 + 1

-- the words of a term: its coefficient, then its set
unfoldable pub term_width : Counts → ℕ
term_width c = set_width c + 1

-- I is no multiple of 4 for m and ms, of 2 for the others, or O is not l
unfoldable pub misfits : Counts → Kind → Bool
misfits c kind = not (eqb (c.i % shares kind) 0) || not (eqb c.o (outputs_of kind (operand_width kind c)))

-- kind unknown, or the block has not the inputs or the outputs of the kind (9)
unfoldable pub kind_wrong : Counts → ℕ → Bool
kind_wrong c kind = kind_unknown kind || misfits c (kind_of kind)

-- I < v ≤ M
unfoldable pub is_gate : Counts → ℕ → Bool
is_gate c v = ltb c.i v && leb v c.m

-- order too long, or it names something that is no gate (11)
unfoldable pub order_wrong : Counts → List ℕ → Bool
order_wrong c order = steps_wrong (length order) || not (every (is_gate c) order)

-- the most terms that a step makes of one
unfoldable pub most_made : RecordKind → ℕ
most_made Gates = 4
most_made Cells = 8

-- the words that scratch needs: room for the most terms that a step makes
unfoldable pub scratch_needed : Counts → ℕ → ℕ
scratch_needed c limit = most_made c.records * limit * term_width c

-- store, scratch, log or occurrences too short (12), from their lengths
unfoldable pub lent_short : Counts → ℕ → ℕ → ℕ → ℕ → ℕ → ℕ → Bool
lent_short c limit steps store scratch log occurrences =
    ltb store (limit * term_width c) || ltb scratch (scratch_needed c limit) || ltb log steps || ltb occurrences (c.m + 1)

-- the checks of judging in their order; of the lent buffers they ask only how long they are
unfoldable pub judge_checks : Counts → List ℕ → ℕ → ℕ → List ℕ → ℕ → ℕ → ℕ → ℕ → List (ℕ × Bool)
judge_checks c table kind limit order store scratch log occurrences =
    (2, counts_wrong c)
    ∷ (3, table_short c (length table))
    ∷ (8, table_unsound c table)
    ∷ (9, kind_wrong c kind)
    ∷ (10, terms_wrong limit)
    ∷ (11, order_wrong c order)
    ∷ (12, lent_short c limit (length order) store scratch log occurrences)
    ∷ []

-- how many polynomials of the run, from its first, have at most T terms before one has more
unfoldable pub roomy : ℕ → List Polynomial → ℕ
roomy limit [] = 0
roomy limit (p ∷ later) = cond (ltb limit (length p)) 0 (suc (roomy limit later))

-- the polynomial held at the end: the last before one has more than T terms; none where the first has
unfoldable pub held : ℕ → List Polynomial → Polynomial
held limit polynomials = get_or ([] ∷ polynomials) (roomy limit polynomials) []

-- the steps completed: after each the polynomial has at most T terms
unfoldable pub completed : ℕ → List Polynomial → ℕ
completed limit polynomials = pred (roomy limit polynomials)

-- input variables only: the set is a sum of 2^1 to 2^I
unfoldable pub inputs_only : Counts → Polynomial → Bool
inputs_only c p = every (λ (t : Term). ltb t.1 (2 ^ (c.i + 1))) p

-- the set s comes before the set t: fewer variables, or as many and the smaller number
unfoldable pub sooner : ℕ → ℕ → Bool
sooner s t = ltb (ones s) (ones t) || (eqb (ones s) (ones t) && ltb s t)

-- of s and the sets of a polynomial, the one that comes before all others
unfoldable pub soonest : ℕ → Polynomial → ℕ
soonest s [] = s
soonest s (t ∷ p) = soonest (cond (sooner t.1 s) t.1 s) p

-- the word that the outputs show for operands of a kind
unfoldable pub shown_for : Kind → Counts → List ℕ → ℕ → ℕ → ℕ → ℕ
shown_for kind c table a b addend =
    shown c table (first_word kind (operand_width kind c) a b) (second_word kind b addend)

-- D, with the wrong operands of set s: what evaluation of the gates shows, and the wanted word
unfoldable pub differs : Kind → Counts → List ℕ → ℕ → ℕ → ℕ → Says
differs kind c table steps terms s =
    let n = operand_width kind c in
    let a = operand_a n s in
    let b = operand_b n s in
    let addend = operand_c n s in
    answers 1 (steps ∷ terms ∷ a ∷ b ∷ addend ∷ shown_for kind c table a b addend ∷ wanted_word kind n a b addend ∷ [])

-- E, D or U by the last polynomial: zero, of input variables only, or with a gate variable
unfoldable pub ended : Kind → Counts → List ℕ → ℕ → Polynomial → Says
ended kind c table steps [] = answers 0 (steps ∷ 0 ∷ [])
ended kind c table steps (t ∷ p) =
    let d = differs kind c table steps (length (t ∷ p)) (soonest t.1 p) in
    let u = answers 3 (steps ∷ length (t ∷ p) ∷ []) in
    cond (inputs_only c (t ∷ p)) d u

-- what the judge says once nothing is refused: R at the first polynomial with more than T terms, else by the last one
unfoldable pub verdict : Kind → Counts → List ℕ → ℕ → List ℕ → Says
verdict kind c table limit order =
    let polynomials = run kind c table order in
    let room = roomy limit polynomials in
    let r = answers 2 (room ∷ length (held limit polynomials) ∷ []) in
    let e = ended kind c table (length order) (held limit polynomials) in
    cond (leb room (length order)) r e

-- the words of a term: its coefficient, then its set, variable v at bit v mod 64 of word v/64
unfoldable pub term_words : ℕ → Term → List ℕ
term_words w t = t.0 ∷ listed w (λ j. t.1 / 2 ^ (64 * j) % 2 ^ 64)

-- the words of a polynomial's terms, one behind the other
unfoldable pub polynomial_words : ℕ → Polynomial → List ℕ
polynomial_words w [] = []
polynomial_words w (t ∷ p) = term_words w t ++ polynomial_words w p

-- a list with zeros to the length that was lent
unfoldable pub padded : ℕ → List ℕ → List ℕ
padded lent words = words ++ replicate (lent - length words) 0

-- for each step of the order its gate, the number of terms of the polynomial after it, and the number before gathering; the first
-- polynomial is that of step 0
unfoldable pub records : ℕ → Counts → List ℕ → List ℕ → List Polynomial → List StepRecord
records m c table [] polynomials = []
records m c table (v ∷ order) [] = []
records m c table (v ∷ order) (p ∷ []) = []
records m c table (v ∷ order) (p ∷ q ∷ later) =
    record { gate = v; terms = length q; made = made m c table v p } ∷ records m c table order (q ∷ later)

-- the first entries, then what stood behind them
unfoldable pub over : {A : Type 0} → ℕ → List A → List A → List A
over count new old = take count new ++ drop count old

-- a buffer at exit: as it was where there is a refusal
unfoldable pub kept_or : {A : Type 0} → ℕ → List A → List A → List A
kept_or zero old new = new
kept_or (suc k) old new = old

-- everything that the judge is handed
pub record Inputs : Type 0 where
  pub counts : Counts
  pub table : List ℕ
  pub kind : ℕ
  pub limit : ℕ
  pub order : List ℕ
  pub store : List ℕ
  pub scratch : List ℕ
  pub log : List StepRecord
  pub occurrences : List ℕ

-- the checks of what is handed in
unfoldable pub checks : Inputs → List (ℕ × Bool)
checks x =
    judge_checks
    x.counts
    x.table
    x.kind
    x.limit
    x.order
    (length x.store)
    (length x.scratch)
    (length x.log)
    (length x.occurrences)

-- the refusal of what is handed in, or 0
unfoldable pub refusal : Inputs → ℕ
refusal x = first (checks x)

-- the polynomials of the run that is asked for
unfoldable pub polynomials : Inputs → List Polynomial
polynomials x = run (kind_of x.kind) x.counts x.table x.order

-- what the judge says
unfoldable pub judging : Inputs → Says
judging x =
    let v = verdict (kind_of x.kind) x.counts x.table x.limit x.order in
    refuse_or (refusal x) v

-- the store at exit: the polynomial held, then zeros to the end of what was lent
unfoldable pub store_after : Inputs → List ℕ
store_after x =
    let new = padded (length x.store) (polynomial_words (set_width x.counts) (held x.limit (polynomials x))) in
    kept_or (refusal x) x.store new

-- scratch at exit: all zeros
unfoldable pub scratch_after : Inputs → List ℕ
scratch_after x = kept_or (refusal x) x.scratch (replicate (length x.scratch) 0)

-- the records of the run that is asked for
unfoldable pub recorded : Inputs → List StepRecord
recorded x = records (modulus (kind_of x.kind) x.counts) x.counts x.table x.order (polynomials x)

-- the log at exit: a record for each step completed, and its other records as they were
unfoldable pub log_after : Inputs → List StepRecord
log_after x =
    let new = over (completed x.limit (polynomials x)) (recorded x) x.log in
    kept_or (refusal x) x.log new

-- the occurrences at exit: those of the polynomial held, and its other words as they were
unfoldable pub occurrences_after : Inputs → List ℕ
occurrences_after x =
    let new = with_occurrences x.counts (held x.limit (polynomials x)) x.occurrences in
    kept_or (refusal x) x.occurrences new

-- the permitted outcome of the judge: its answer and every lent buffer at exit
pub record Judged (x : Inputs) (r : Result Answer Refusal) (store scratch : List ℕ) (log : List StepRecord) (occurrences : List ℕ) : Type 0 where
  pub said : says r ≡ judging x
  pub store_words : store ≡ store_after x
  pub scratch_words : scratch ≡ scratch_after x
  pub log_records : log ≡ log_after x
  pub occurrence_words : occurrences ≡ occurrences_after x
