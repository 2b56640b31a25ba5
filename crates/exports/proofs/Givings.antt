-- What a host is given at each return, from what the function behind it says.
use mathlib.Core.Path.{◌≡◌, ◌∙◌}
use mathlib.Core.List.{List, [], ◌∷◌, ◌++◌}
use Prim.Native.Nat.{ℕ, ◌+◌, ◌<◌, ◌≤◌}
use lib.ListN.{length, drop}
use borrow.Author.Tests.{lt-ltb, le-ltb}
use Rattle.rules.specs.Judging.{Inputs, Judged, refusal, judging}
use Rattle.std.specs.Prelude.{Result, Ok, Err}
use Rattle.rules.specs.Says.{Says, refuses, answers, refusal_number, answer_says, says, text_says, word_says}
use Rattle.rules.specs.Values.{evaluating, Evaluated}
use Rattle.rules.specs.Reading.{reading, reading_says, ReadAs}
use Rattle.rules.specs.declared.answers.Answer.{Answer}
use Rattle.rules.specs.declared.answers.StepRecord.{StepRecord}
use Rattle.rules.specs.declared.refusals.Refusal.{Refusal}
use Rattle.rules.specs.declared.counts.Counts.{Counts}
use Rattle.exports.specs.Exported.{number_of, given, unless_short, ReadGiven, EvaluateGiven, JudgeGiven}

-- too short a buffer
said_short : (words : ℕ) (lent : List ℕ) (later : Says) → length lent < words → unless_short words lent later ≡ refuses 12
unfolding unless_short
said_short words lent later h = rw (lt-ltb (length lent) words h)

-- a buffer that is long enough
said_later : (words : ℕ) (lent : List ℕ) (later : Says) → words ≤ length lent → unless_short words lent later ≡ later
unfolding unless_short
said_later words lent later h = rw (le-ltb (length lent) words h)

-- no room for the counts
pub read_short : (text table lent : List ℕ) → length lent < 5 → ReadGiven text table lent 112 table lent
unfolding number_of given
read_short text table lent h =
    record {
      number = rw (said_short 5 lent (reading_says (reading (length table) text)) h);
      table_words = rw (lt-ltb (length lent) 5 h);
      count_words = rw (said_short 5 lent (reading_says (reading (length table) text)) h);
    }

module _ (text table lent table_exit : List ℕ) (r : Result Counts Refusal) (done : ReadAs text table r table_exit) where
  -- what is said of the text, given
  read_put : (n : ℕ) (lent_exit : List ℕ) → 5 ≤ length lent → (n ≡ number_of (text_says r)) × (lent_exit ≡ given (text_says r) lent)
      → ReadGiven text table lent n table_exit lent_exit
  read_put n lent_exit h put =
      record {
        number = put.0 ∙ rw (said_later 5 lent (reading_says (reading (length table) text)) h, done.said);
        table_words = rw (le-ltb (length lent) 5 h) done.table_words;
        count_words = put.1 ∙ rw (said_later 5 lent (reading_says (reading (length table) text)) h, done.said);
      }

  -- a refusal
  pub read_refused : (refusal : Refusal) → 5 ≤ length lent → r ≡ Err refusal → ReadGiven text table lent (100 + refusal_number refusal) table_exit lent
  unfolding number_of given
  read_refused refusal h e = read_put _ _ h (rw e, rw e)

  -- a netlist
  pub read_given : (c : Counts) (lent_exit : List ℕ) → 5 ≤ length lent → r ≡ Ok c
      → lent_exit ≡ (c.m ∷ c.i ∷ c.l ∷ c.o ∷ c.a ∷ []) ++ drop 5 lent → ReadGiven text table lent 0 table_exit lent_exit
  unfolding number_of given
  read_given c lent_exit h e put = read_put _ _ h (rw e, rw e put)

-- no room for the word
pub evaluate_short : (c : Counts) (table : List ℕ) (x y : ℕ) (lent : List ℕ) → length lent < 1 → EvaluateGiven c table x y lent 112 lent
unfolding number_of given
evaluate_short c table x y lent h =
    record {
      number = rw (said_short 1 lent (evaluating c table x y) h);
      word_words = rw (said_short 1 lent (evaluating c table x y) h);
    }

module _ (c : Counts) (table : List ℕ) (x y : ℕ) (lent : List ℕ) (r : Result ℕ Refusal) (done : Evaluated c table x y r) where
  -- what is said of the operands, given
  word_put : (n : ℕ) (exit : List ℕ) → 1 ≤ length lent → (n ≡ number_of (word_says r)) × (exit ≡ given (word_says r) lent) → EvaluateGiven c table x y lent n exit
  word_put n exit h put =
      record {
        number = put.0 ∙ rw (said_later 1 lent (evaluating c table x y) h, done.said);
        word_words = put.1 ∙ rw (said_later 1 lent (evaluating c table x y) h, done.said);
      }

  -- a refusal
  pub evaluate_refused : (refusal : Refusal) → 1 ≤ length lent → r ≡ Err refusal → EvaluateGiven c table x y lent (100 + refusal_number refusal) lent
  unfolding number_of given
  evaluate_refused refusal h e = word_put _ _ h (rw e, rw e)

  -- a word
  pub evaluate_given : (w : ℕ) (exit : List ℕ) → 1 ≤ length lent → r ≡ Ok w → exit ≡ (w ∷ []) ++ drop 1 lent → EvaluateGiven c table x y lent 0 exit
  unfolding number_of given
  evaluate_given w exit h e put = word_put _ _ h (rw e, rw e put)

-- the number and the values of an answer, where they are written in front
pub answer_put : {a q : Answer} (n : ℕ) (values lent : List ℕ) {exit : List ℕ} → a ≡ q → answer_says q ≡ answers n values → exit ≡ values ++ drop (length values) lent
    → (n ≡ number_of (answer_says a)) × (exit ≡ given (answer_says a) lent)
unfolding number_of given
answer_put n values lent is e put = (rw (is, e), rw (is, e) put)

-- no room for seven values
pub judge_short : (x : Inputs) (lent : List ℕ) → length lent < 7 → JudgeGiven x lent 112 x.store x.scratch x.log x.occurrences lent
unfolding number_of given
judge_short x lent h =
    record {
      number = rw (said_short 7 lent (judging x) h);
      store_words = rw (lt-ltb (length lent) 7 h);
      scratch_words = rw (lt-ltb (length lent) 7 h);
      log_records = rw (lt-ltb (length lent) 7 h);
      occurrence_words = rw (lt-ltb (length lent) 7 h);
      answer_words = rw (said_short 7 lent (judging x) h);
    }

module _ (x : Inputs) (lent : List ℕ) (r : Result Answer Refusal) (store scratch : List ℕ) (log : List StepRecord) (occurrences : List ℕ)
    (done : Judged x r store scratch log occurrences) where
  -- what the judge says, given
  judge_put : (n : ℕ) (exit : List ℕ) → 7 ≤ length lent → (n ≡ number_of (says r)) × (exit ≡ given (says r) lent)
      → JudgeGiven x lent n store scratch log occurrences exit
  judge_put n exit h put =
      record {
        number = put.0 ∙ rw (said_later 7 lent (judging x) h, done.said);
        store_words = rw (le-ltb (length lent) 7 h) done.store_words;
        scratch_words = rw (le-ltb (length lent) 7 h) done.scratch_words;
        log_records = rw (le-ltb (length lent) 7 h) done.log_records;
        occurrence_words = rw (le-ltb (length lent) 7 h) done.occurrence_words;
        answer_words = put.1 ∙ rw (said_later 7 lent (judging x) h, done.said);
      }

  -- a refusal
  pub judge_refused : (refusal : Refusal) → 7 ≤ length lent → r ≡ Err refusal → JudgeGiven x lent (100 + refusal_number refusal) store scratch log occurrences lent
  unfolding number_of given
  judge_refused refusal h e = judge_put _ _ h (rw e, rw e)

  -- an answer
  pub judge_given : (a : Answer) (n : ℕ) (exit : List ℕ) → 7 ≤ length lent → r ≡ Ok a → (n ≡ number_of (answer_says a)) × (exit ≡ given (answer_says a) lent)
      → JudgeGiven x lent n store scratch log occurrences exit
  judge_given a n exit h e put = judge_put n exit h (rw e put)
