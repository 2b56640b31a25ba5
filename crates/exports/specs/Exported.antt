-- A host gets one number, and the values of an answer in a buffer that it lends.
use Rattle.std.specs.Prelude.{◌≡◌, cond, List, ◌++◌, ℕ, zero, suc, ◌+◌, ltb, length, drop}
use Rattle.rules.specs.Says.{Says, refuses, answers}
use Rattle.rules.specs.Values.{evaluating}
use Rattle.rules.specs.Reading.{reading, reading_says, table_after}
use Rattle.rules.specs.Judging.{Inputs, judging, store_after, scratch_after, log_after, occurrences_after}
use Rattle.rules.specs.declared.answers.StepRecord.{StepRecord}
use Rattle.rules.specs.declared.counts.Counts.{Counts}
use Rattle.rules.specs.declared.records.RecordKind.{RecordKind}
use Rattle.rules.specs.declared.records.RecordKind.TheVariants.{Gates, Cells}

-- the kind of record that a host names: 0 is AND gates, any other number lookup cells
unfoldable pub records_named : ℕ → RecordKind
records_named zero = Gates
records_named (suc k) = Cells

-- the counts of a host's numbers, and the kind of record that it names
unfoldable pub named : ℕ → ℕ → ℕ → ℕ → ℕ → ℕ → Counts
named m i l o a cells = record { m = m; i = i; l = l; o = o; a = a; records = records_named cells }

-- the number of what is said: the answer's, or 100 plus the refusal's
unfoldable pub number_of : Says → ℕ
number_of (refuses k) = 100 + k
number_of (answers k values) = k

-- a buffer at exit: the values of an answer, then what stood behind them; after a refusal as it was
unfoldable pub given : Says → List ℕ → List ℕ
given (refuses k) lent = lent
given (answers k values) lent = values ++ drop (length values) lent

-- refusal 12, checked first, where a buffer has fewer words than may be given
unfoldable pub unless_short : ℕ → List ℕ → Says → Says
unless_short words lent later = cond (ltb (length lent) words) (refuses 12) later

-- what reading says to a host
abbrev pub read_said : List ℕ → List ℕ → List ℕ → Says
read_said text table counts = unless_short 5 counts (reading_says (reading (length table) text))

-- the permitted outcome of `hraskell_read`
pub record ReadGiven (text table counts : List ℕ) (r : ℕ) (table_exit counts_exit : List ℕ) : Type 0 where
  pub number : r ≡ number_of (read_said text table counts)
  pub table_words : table_exit ≡ cond (ltb (length counts) 5) table (table_after (reading (length table) text) table)
  pub count_words : counts_exit ≡ given (read_said text table counts) counts

-- what the evaluator says to a host
abbrev pub evaluate_said : Counts → List ℕ → ℕ → ℕ → List ℕ → Says
evaluate_said c table x y word = unless_short 1 word (evaluating c table x y)

-- the permitted outcome of `hraskell_evaluate`
pub record EvaluateGiven (c : Counts) (table : List ℕ) (x y : ℕ) (word : List ℕ) (r : ℕ) (word_exit : List ℕ) : Type 0 where
  pub number : r ≡ number_of (evaluate_said c table x y word)
  pub word_words : word_exit ≡ given (evaluate_said c table x y word) word

-- what the judge says to a host
abbrev pub judge_said : Inputs → List ℕ → Says
judge_said x answer = unless_short 7 answer (judging x)

-- the permitted outcome of `hraskell_judge`
pub record JudgeGiven (x : Inputs) (answer : List ℕ) (r : ℕ) (store scratch : List ℕ) (log : List StepRecord) (occurrences answer_exit : List ℕ) : Type 0 where
  pub number : r ≡ number_of (judge_said x answer)
  pub store_words : store ≡ cond (ltb (length answer) 7) x.store (store_after x)
  pub scratch_words : scratch ≡ cond (ltb (length answer) 7) x.scratch (scratch_after x)
  pub log_records : log ≡ cond (ltb (length answer) 7) x.log (log_after x)
  pub occurrence_words : occurrences ≡ cond (ltb (length answer) 7) x.occurrences (occurrences_after x)
  pub answer_words : answer_exit ≡ given (judge_said x answer) answer
