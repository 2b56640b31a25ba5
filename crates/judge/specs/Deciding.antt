-- The judge: what the checks leave, what comes before the run and after it, and the outcome.
use Rattle.std.specs.Prelude.{◌≡◌, true, false, cond, List, [], ◌∷◌, ℕ, ◌+◌, ◌*◌, ◌≤◌, leb, length, replicate, Option, Result, Ok, Err, MatchResult}
use Rattle.rules.specs.Each.{every}
use Rattle.rules.specs.Judging.{Inputs, misfits, is_gate, set_width, term_width, judge_checks, held, completed, ended, verdict, polynomial_words, padded, over, records, judging, store_after, scratch_after, occurrences_after}
use Rattle.rules.specs.Limits.{most_terms, most_steps}
use Rattle.rules.specs.Occurrences.{with_occurrences}
use Rattle.rules.specs.Polynomial.{Polynomial}
use Rattle.rules.specs.Product.{kind_of}
use Rattle.rules.specs.Says.{Says, answers, first, refused, says}
use Rattle.rules.specs.Steps.{modulus, start, run}
use Rattle.rules.specs.declared.answers.Answer.{Answer}
use Rattle.rules.specs.declared.answers.StepRecord.{StepRecord}
use Rattle.rules.specs.declared.refusals.Refusal.{Refusal}
use Rattle.rules.specs.declared.counts.Counts.{Counts}
use Rattle.netlist.specs.Taken.{Sound}
use Rattle.words.specs.Stored.{decoded}
use Rattle.start.specs.Start.{Started}
use Rattle.ending.specs.Ending.{Ending}
use Rattle.judge.specs.declared.run.NoRoom.{NoRoom}
use Rattle.judge.specs.Running.{steps_of, terms_of}

-- everything that the judge is handed, in the order of its parameters
abbrev pub handed : Counts → List ℕ → ℕ → ℕ → List ℕ → List ℕ → List ℕ → List StepRecord → List ℕ → Inputs
handed c table kind limit order store scratch log occurrences =
    record {
      counts = c;
      table = table;
      kind = kind;
      limit = limit;
      order = order;
      store = store;
      scratch = scratch;
      log = log;
      occurrences = occurrences;
    }

-- a sound block that fits its kind, a limit that is taken, and room for its terms and for a number of each variable
pub record Block (c : Counts) (table : List ℕ) (kind limit : ℕ) (store scratch occurrences : List ℕ) : Type 0 where
  pub sound : Sound c table
  pub fitting : misfits c (kind_of kind) ≡ false
  pub taken : limit ≤ most_terms
  pub store_room : limit * term_width c ≤ length store
  pub scratch_room : 4 * limit * term_width c ≤ length scratch
  pub numbers_room : c.m + 1 ≤ length occurrences

-- what the checks leave: such a block, an order of gates, and a log that is long enough
pub record Passed (c : Counts) (table : List ℕ) (kind limit : ℕ) (order store scratch : List ℕ) (log : ℕ) (occurrences : List ℕ) : Type 0 where
  pub block : Block c table kind limit store scratch occurrences
  pub short : length order ≤ most_steps
  pub gates_only : every (is_gate c) order ≡ true
  pub log_room : length order ≤ log

-- the start p is in the store if it has room, scratch is zeros, and the occurrences are those of what the store has
pub record Begun (c : Counts) (limit : ℕ) (p : Polynomial) (store scratch occurrences : List ℕ) (r : Option ℕ) (store' scratch' occurrences' : List ℕ) : Type 0 where
  pub written : Started p (set_width c) limit (length store) r store'
  pub scratch_words : scratch' ≡ replicate (length scratch) 0
  pub occurrence_words : occurrences' ≡ with_occurrences c (cond (leb (length p) limit) p []) occurrences

-- what comes before the run: the first refusal, and all as it was; or the start
pub record SetOut (c : Counts) (table : List ℕ) (kind limit : ℕ) (order : List ℕ) (log : ℕ) (store scratch occurrences : List ℕ) (r : Result (Option ℕ) Refusal) (store' scratch' occurrences' : List ℕ) : Type 0 where
  pub checked : refused r ≡ first (judge_checks c table kind limit order (length store) (length scratch) log (length occurrences))
  pub left :
      MatchResult r
      (λ held. Begun c limit (start (kind_of kind) c table) store scratch occurrences held store' scratch' occurrences')
      (λ refusal. (store' ≡ store) × (scratch' ≡ scratch) × (occurrences' ≡ occurrences))

-- what the answer after a run of so many steps asks
pub record Closing (c : Counts) (kind steps : ℕ) (ran : Result ℕ NoRoom) (store : List ℕ) : Type 0 where
  pub short : steps_of steps ran ≤ most_steps
  pub ending : Ending c kind (terms_of ran) store

-- and what it says: R at the step without room, else by the last polynomial
unfoldable pub last : Counts → List ℕ → ℕ → ℕ → Result ℕ NoRoom → List ℕ → Says
last c table kind steps (Ok terms) store = ended (kind_of kind) c table steps (decoded (set_width c) terms store)
last c table kind steps (Err full) store = answers 2 ((full.steps + 1) ∷ full.terms ∷ [])

-- the outcome: the verdict, the polynomial held, the log, and the occurrences
pub record Decided (c : Counts) (table : List ℕ) (kind limit : ℕ) (order store scratch : List ℕ) (log : List StepRecord) (occurrences : List ℕ)
    (r : Result Answer Refusal) (store' scratch' : List ℕ) (log' : List StepRecord) (occurrences' : List ℕ) : Type 0 where
  pub said : says r ≡ verdict (kind_of kind) c table limit order
  pub store_words :
      store' ≡ padded (length store) (polynomial_words (set_width c) (held limit (run (kind_of kind) c table order)))
  pub scratch_words : scratch' ≡ replicate (length scratch) 0
  pub log_records : log' ≡ over (completed limit (run (kind_of kind) c table order)) (records (modulus (kind_of kind) c) c table order (run (kind_of kind) c table order)) log
  pub occurrence_words : occurrences' ≡ with_occurrences c (held limit (run (kind_of kind) c table order)) occurrences

-- a log for the most variables of the desk program, with nothing in it
abbrev pub blank_log : List StepRecord
blank_log = replicate 127 (record { gate = 0; terms = 0; made = 0 })

-- the permitted outcome of the judge, but for the log
pub record Unlogged (x : Inputs) (r : Result Answer Refusal) (store scratch occurrences : List ℕ) : Type 0 where
  pub said : says r ≡ judging x
  pub store_words : store ≡ store_after x
  pub scratch_words : scratch ≡ scratch_after x
  pub occurrence_words : occurrences ≡ occurrences_after x
