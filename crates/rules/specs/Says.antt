-- What an answer says, in the numbers of document 01, and the first refusal in an order of checks.
use Rattle.std.specs.Prelude.{◌≡◌, Bool, cond, List, [], ◌∷◌, ℕ, zero, suc, Result, Ok, Err}
use Rattle.rules.specs.declared.answers.Answer.{Answer}
use Rattle.rules.specs.declared.answers.Answer.TheVariants.{Equal, Differs, OutOfRoom, Unfinished}
use Rattle.rules.specs.declared.counts.Counts.{Counts}
use Rattle.rules.specs.declared.limits.Limits.{Limits}
use Rattle.rules.specs.declared.records.RecordKind.{RecordKind}
use Rattle.rules.specs.declared.records.RecordKind.TheVariants.{Gates}
use Rattle.rules.specs.declared.refusals.Refusal.{Refusal}
use Rattle.rules.specs.declared.refusals.Refusal.TheVariants.{Header, CountOutside, ShortTable, InputLine, OutputLine, GateLine, BytesBehind, UnsoundTable, WrongKind, TermLimit, WrongOrder, ShortBuffer, DeskInput}

-- the number of a refusal
abbrev pub refusal_number : Refusal → ℕ
refusal_number Header = 1
refusal_number CountOutside = 2
refusal_number ShortTable = 3
refusal_number InputLine = 4
refusal_number OutputLine = 5
refusal_number GateLine = 6
refusal_number BytesBehind = 7
refusal_number UnsoundTable = 8
refusal_number WrongKind = 9
refusal_number TermLimit = 10
refusal_number WrongOrder = 11
refusal_number ShortBuffer = 12
refusal_number DeskInput = 13

-- n is the number of the refusal
abbrev pub Numbers : Refusal → ℕ → Type 0
Numbers refusal n = n ≡ refusal_number refusal

-- the number of the refusal where there is one, else 0
abbrev pub refused : {A : Type 0} → Result A Refusal → ℕ
refused (Ok x) = 0
refused (Err refusal) = refusal_number refusal

-- a refusal with its number alone, or an answer with its number and what is also given
pub data Says : Type 0 where
  refuses : ℕ → Says
  answers : ℕ → List ℕ → Says

-- what a result says: the number of its refusal, or what is said of its value
abbrev pub saying : {A : Type 0} → (A → Says) → Result A Refusal → Says
saying said (Ok x) = said x
saying said (Err refusal) = refuses (refusal_number refusal)

-- E is 0, D 1, R 2, U 3: with the steps (of R: the step), the terms held, and for D the operands a, b, c and the words got and wanted
unfoldable pub answer_says : Answer → Says
answer_says (Equal steps terms) = answers 0 (steps ∷ terms ∷ [])
answer_says (Differs steps terms a b c got wanted) = answers 1 (steps ∷ terms ∷ a ∷ b ∷ c ∷ got ∷ wanted ∷ [])
answer_says (OutOfRoom step terms) = answers 2 (step ∷ terms ∷ [])
answer_says (Unfinished steps terms) = answers 3 (steps ∷ terms ∷ [])

-- of judging
abbrev pub says : Result Answer Refusal → Says
says = saying answer_says

-- a text that is read gives its counts M, I, L, O, A
abbrev pub text_says : Result Counts Refusal → Says
text_says = saying (λ c. answers 0 (c.m ∷ c.i ∷ c.l ∷ c.o ∷ c.a ∷ []))

-- and the kind of record of the table made; none is made where it is refused
unfoldable pub text_records : Result Counts Refusal → RecordKind
text_records (Ok c) = c.records
text_records (Err refusal) = Gates

-- a word shown or wanted
abbrev pub word_says : Result ℕ Refusal → Says
word_says = saying (λ w. answers 0 (w ∷ []))

-- limits that are within their bounds: terms, variables, steps
abbrev pub made_says : Result Limits Refusal → Says
made_says = saying (λ x. answers 0 (x.terms ∷ x.variables ∷ x.steps ∷ []))

-- the number of the first condition that holds, in the order of checks; 0 where none does
unfoldable pub first : List (ℕ × Bool) → ℕ
first [] = 0
first (check ∷ later) = cond check.1 check.0 (first later)

-- the refusal where there is one, and else what follows
unfoldable pub refuse_or : ℕ → Says → Says
refuse_or zero later = later
refuse_or (suc k) later = refuses (suc k)
