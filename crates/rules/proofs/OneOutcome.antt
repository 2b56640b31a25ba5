-- Two permitted outcomes are one: an answer is known by what it says, and every lent buffer by its equation.
use mathlib.Core.Path.{◌≡◌, refl, ap, sym, ◌∙◌}
use mathlib.Core.List.{List}
use Prim.Native.Nat.{ℕ, zero, suc}
use lib.ListN.{get_or}
use Rattle.std.specs.Prelude.{[], ◌∷◌, ◌-◌, Result, Ok, Err}
use Rattle.rules.specs.Says.{Says, refuses, answers, refusal_number, saying, answer_says, says, text_says, text_records, word_says, made_says}
use Rattle.rules.specs.Limits.{Makes}
use Rattle.rules.specs.Values.{Evaluated}
use Rattle.rules.specs.Product.{Wanted}
use Rattle.rules.specs.Reading.{ReadAs}
use Rattle.rules.specs.Judging.{Inputs, Judged}
use Rattle.rules.specs.Desk.{Lined}
use Rattle.rules.specs.declared.answers.Answer.{Answer}
use Rattle.rules.specs.declared.answers.Answer.TheVariants.{Equal, Differs, OutOfRoom, Unfinished}
use Rattle.rules.specs.declared.answers.Line.{Line}
use Rattle.rules.specs.declared.answers.StepRecord.{StepRecord}
use Rattle.rules.specs.declared.counts.Counts.{Counts}
use Rattle.rules.specs.declared.limits.Limits.{Limits}
use Rattle.rules.specs.declared.records.RecordKind.{RecordKind}
use Rattle.rules.specs.declared.refusals.Refusal.{Refusal}
use Rattle.rules.specs.declared.refusals.Refusal.TheVariants.{Header, CountOutside, ShortTable, InputLine, OutputLine, GateLine, BytesBehind, UnsoundTable, WrongKind, TermLimit, WrongOrder, ShortBuffer, DeskInput}

-- the refusals in the order of their numbers, and a refusal told from its number
refusals : List Refusal
refusals =
    Header ∷ CountOutside ∷ ShortTable ∷ InputLine ∷ OutputLine ∷ GateLine ∷ BytesBehind ∷ UnsoundTable ∷ WrongKind ∷ TermLimit ∷ WrongOrder ∷ ShortBuffer ∷ DeskInput ∷ []

refusal_of : ℕ → Refusal
refusal_of k = get_or refusals (k - 1) Header

refusal_back : (r : Refusal) → refusal_of (refusal_number r) ≡ r
unfolding refusal_of refusals
refusal_back Header = refl
refusal_back CountOutside = refl
refusal_back ShortTable = refl
refusal_back InputLine = refl
refusal_back OutputLine = refl
refusal_back GateLine = refl
refusal_back BytesBehind = refl
refusal_back UnsoundTable = refl
refusal_back WrongKind = refl
refusal_back TermLimit = refl
refusal_back WrongOrder = refl
refusal_back ShortBuffer = refl
refusal_back DeskInput = refl

-- a result can be told from what it says, where its value can be told from a number and a list
result_of : {A : Type 0} → (ℕ → List ℕ → A) → Says → Result A Refusal
result_of told (refuses k) = Err (refusal_of k)
result_of told (answers k x) = Ok (told k x)

result_back : {A : Type 0} (said : A → Says) (told : ℕ → List ℕ → A) → ((x : A) → result_of told (said x) ≡ Ok x)
    → (r : Result A Refusal) → result_of told (saying said r) ≡ r
unfolding result_of
result_back said told back (Ok x) = back x
result_back said told back (Err refusal) = ap Err (refusal_back refusal)

-- what can be told from what it says is known by it
known : {A : Type 0} (said : A → Says) (told : ℕ → List ℕ → A) → ((x : A) → result_of told (said x) ≡ Ok x)
    → (r q : Result A Refusal) → saying said r ≡ saying said q → r ≡ q
known said told back r q e = sym (result_back said told back r) ∙ ap (result_of told) e ∙ result_back said told back q

-- a word, a text of a known kind of record, limits and an answer
pub word_known : (r q : Result ℕ Refusal) → word_says r ≡ word_says q → r ≡ q
unfolding result_of
word_known = known (λ w. answers 0 (w ∷ [])) (λ k x. get_or x 0 0) (λ w. refl)

counts_of : RecordKind → List ℕ → Counts
counts_of records x = record { m = get_or x 0 0; i = get_or x 1 0; l = get_or x 2 0; o = get_or x 3 0; a = get_or x 4 0; records = records }

text_back : (r : Result Counts Refusal) → result_of (λ k. counts_of (text_records r)) (text_says r) ≡ r
unfolding text_records result_of counts_of
text_back (Ok c) = refl
text_back (Err refusal) = ap Err (refusal_back refusal)

pub text_known : (r q : Result Counts Refusal) → text_records r ≡ text_records q → text_says r ≡ text_says q → r ≡ q
text_known r q same e =
    sym (text_back r)
    ∙ ap (result_of (λ k. counts_of (text_records r))) e
    ∙ ap (λ (kind : RecordKind). result_of (λ k. counts_of kind) (text_says q)) same
    ∙ text_back q

limits_of : ℕ → List ℕ → Limits
limits_of k x = record { terms = get_or x 0 0; variables = get_or x 1 0; steps = get_or x 2 0 }

pub made_known : (r q : Result Limits Refusal) → made_says r ≡ made_says q → r ≡ q
unfolding result_of limits_of
made_known = known (λ x. answers 0 (x.terms ∷ x.variables ∷ x.steps ∷ [])) limits_of (λ x. refl)

answer_of : ℕ → List ℕ → Answer
answer_of zero x = Equal (get_or x 0 0) (get_or x 1 0)
answer_of (suc zero) x = Differs (get_or x 0 0) (get_or x 1 0) (get_or x 2 0) (get_or x 3 0) (get_or x 4 0) (get_or x 5 0) (get_or x 6 0)
answer_of (suc (suc zero)) x = OutOfRoom (get_or x 0 0) (get_or x 1 0)
answer_of (suc (suc (suc k))) x = Unfinished (get_or x 0 0) (get_or x 1 0)

answer_back : (x : Answer) → result_of answer_of (answer_says x) ≡ Ok x
unfolding answer_of answer_says result_of
answer_back (Equal s t) = refl
answer_back (Differs s t a b c g w) = refl
answer_back (OutOfRoom s t) = refl
answer_back (Unfinished s t) = refl

pub answer_known : (r q : Result Answer Refusal) → says r ≡ says q → r ≡ q
answer_known = known answer_says answer_of answer_back

-- one outcome of the limits maker
pub makes_one : {t m s : ℕ} {r q : Result Limits Refusal} → Makes t m s r → Makes t m s q → r ≡ q
makes_one {r = r} {q = q} x y = made_known r q (x.said ∙ sym y.said)

-- one outcome of the evaluator
pub evaluated_one : {c : Counts} {table : List ℕ} {a b : ℕ} {r q : Result ℕ Refusal} → Evaluated c table a b r → Evaluated c table a b q → r ≡ q
evaluated_one {r = r} {q = q} x y = word_known r q (x.said ∙ sym y.said)

-- one outcome of asking for the wanted word
pub wanted_one : {kind n a b c : ℕ} {r q : Result ℕ Refusal} → Wanted kind n a b c r → Wanted kind n a b c q → r ≡ q
wanted_one {r = r} {q = q} x y = word_known r q (x.said ∙ sym y.said)

-- one outcome of reading
pub read_one : {text table : List ℕ} {r q : Result Counts Refusal} {s t : List ℕ} → ReadAs text table r s → ReadAs text table q t → (r ≡ q) × (s ≡ t)
read_one {r = r} {q = q} x y =
    (text_known r q (x.records ∙ sym y.records) (x.said ∙ sym y.said), x.table_words ∙ sym y.table_words)

-- one outcome of judging
pub judged_one : {x : Inputs} {r q : Result Answer Refusal} {s w n s' w' n' : List ℕ} {g g' : List StepRecord} → Judged x r s w g n → Judged x q s' w' g' n'
    → (r ≡ q) × (s ≡ s') × (w ≡ w') × (g ≡ g') × (n ≡ n')
judged_one {r = r} {q = q} a b = (
  answer_known r q (a.said ∙ sym b.said),
  a.store_words ∙ sym b.store_words,
  a.scratch_words ∙ sym b.scratch_words,
  a.log_records ∙ sym b.log_records,
  a.occurrence_words ∙ sym b.occurrence_words,
)

-- one line of the desk
pub lined_one : {input : List ℕ} {r q : Line} → Lined input r → Lined input q → r ≡ q
lined_one {r = r} {q = q} x y =
    let b : r.bytes ≡ q.bytes = x.bytes ∙ sym y.bytes in
    let l : r.len ≡ q.len = x.len ∙ sym y.len in
    λ k. record { bytes = b k; len = l k }
