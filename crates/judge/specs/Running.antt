-- A run over an order in lent words: what it asks, what one turn of it leaves, and what is left at its end.
use Rattle.std.specs.Prelude.{◌≡◌, cond, List, ℕ, ◌+◌, ◌*◌, ◌^◌, ◌≤◌, leb, ltb, length, replicate, Some, None, Result, Ok, Err, is_ok}
use Rattle.rules.specs.Judging.{set_width, term_width, roomy, held, completed, polynomial_words, padded, over, records}
use Rattle.rules.specs.Limits.{most_terms}
use Rattle.rules.specs.Occurrences.{with_occurrences}
use Rattle.rules.specs.Polynomial.{Polynomial, Below, Coefficients}
use Rattle.rules.specs.declared.counts.Counts.{Counts}
use Rattle.rules.specs.declared.answers.StepRecord.{StepRecord}
use Rattle.netlist.specs.Taken.{Sound}
use Rattle.tally.specs.Marks.{Numbered}
use Rattle.judge.specs.declared.turn.Turn.{Turn}
use Rattle.judge.specs.declared.run.NoRoom.{NoRoom}

-- a sound block, room for a limit of terms that is taken, and in the store the words of p, which has so many terms; zeros wherever
-- no term is; and the occurrences of p in front of the words lent for them
pub record Running (c : Counts) (table : List ℕ) (limit count : ℕ) (p : Polynomial) (store scratch occurrences : List ℕ) : Type 0 where
  pub sound : Sound c table
  pub taken : limit ≤ most_terms
  pub store_room : limit * term_width c ≤ length store
  pub scratch_room : 4 * limit * term_width c ≤ length scratch
  pub counted : count ≡ length p
  pub few : count ≤ limit
  pub falls : Below (2 ^ (c.m + 1)) p
  pub coefficients : Coefficients (2 ^ c.o) p
  pub kept : store ≡ padded (length store) (polynomial_words (set_width c) p)
  pub clean : scratch ≡ replicate (length scratch) 0
  pub numbered : Numbered (c.m + 1) p
  pub numbers : occurrences ≡ with_occurrences c p occurrences

-- what a turn to the polynomial q, gathered from so many terms made, leaves: where q has at most `limit` terms, their number and words, and
-- its occurrences; else none, and all as it was
pub record Turned (c : Counts) (limit made : ℕ) (q : Polynomial) (store scratch occurrences : List ℕ) (r : Turn) (store' scratch' occurrences' : List ℕ) : Type 0 where
  pub held : r.held ≡ cond (leb (length q) limit) (Some (length q)) None
  pub peak : r.made ≡ made
  pub stored : store' ≡ cond (leb (length q) limit) (padded (length store) (polynomial_words (set_width c) q)) store
  pub cleared : scratch' ≡ replicate (length scratch) 0
  pub numbers : occurrences' ≡ cond (leb (length q) limit) (with_occurrences c q occurrences) occurrences

-- the steps completed of so many, and the terms then held
abbrev pub steps_of : ℕ → Result ℕ NoRoom → ℕ
steps_of steps (Ok terms) = steps
steps_of steps (Err full) = full.steps

abbrev pub terms_of : Result ℕ NoRoom → ℕ
terms_of (Ok terms) = terms
terms_of (Err full) = full.terms

-- what a run through the polynomials leaves, by the rules: whether all had room, the steps completed, the polynomial held, the log,
-- and the occurrences of that polynomial
pub record Finished (c : Counts) (table : List ℕ) (limit : ℕ) (order : List ℕ) (polynomials : List Polynomial) (store scratch : List ℕ) (log : List StepRecord) (occurrences : List ℕ)
    (r : Result ℕ NoRoom) (store' scratch' : List ℕ) (log' : List StepRecord) (occurrences' : List ℕ) : Type 0 where
  pub fits : is_ok r ≡ ltb (length order) (roomy limit polynomials)
  pub steps : steps_of (length order) r ≡ completed limit polynomials
  pub counted : terms_of r ≡ length (held limit polynomials)
  pub few : terms_of r ≤ limit
  pub falls : Below (2 ^ (c.m + 1)) (held limit polynomials)
  pub store_words : store' ≡ padded (length store) (polynomial_words (set_width c) (held limit polynomials))
  pub scratch_words : scratch' ≡ replicate (length scratch) 0
  pub log_records : log' ≡ over (completed limit polynomials) (records (2 ^ c.o) c table order polynomials) log
  pub occurrence_words : occurrences' ≡ with_occurrences c (held limit polynomials) occurrences
