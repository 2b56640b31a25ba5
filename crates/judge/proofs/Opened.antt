-- The outcome once nothing is refused, from what the start, the run and the answer leave.
use mathlib.Core.Path.{◌≡◌, refl, ap, sym, subst, ◌∙◌}
use mathlib.Core.Bool.{true, false, cond}
use mathlib.Core.List.{List, [], ◌∷◌, ◌++◌, append-nil}
use Prim.Native.Nat.{ℕ, zero, suc, pred, ◌+◌, ◌-◌, ◌*◌, ◌^◌, ◌<◌, ◌≤◌}
use native.Mathlib.Nat.{zero-mul, mul-le-mul_right}
use native.Mathlib.Numerals.{add-one}
use native.Mathlib.Omega.{arith}
use lib.Dec.{leb}
use lib.ListN.{length, get_or, take, drop, replicate, length-replicate}
use lib.Seq.{drop-length}
use borrow.Author.Tests.{leb-true, leb-false, ltb-true, ltb-false, le-leb, lt-leb, not-false}
use Rattle.rules.specs.Each.{every}
use Rattle.rules.specs.Judging.{set_width, term_width, roomy, held, completed, ended, verdict, polynomial_words, padded, over}
use Rattle.rules.specs.Netlist.{needed, table_short, table_sound, table_unsound}
use Rattle.rules.specs.Occurrences.{with_occurrences}
use Rattle.rules.specs.Polynomial.{Polynomial, Below, Coefficients}
use Rattle.rules.specs.Product.{Kind, kind_of, operand_width, outputs_of}
use Rattle.std.specs.Prelude.{Option, Some, None, unwrap_or, Result, Ok, Err, is_ok}
use Rattle.rules.specs.Says.{answer_says, says, answers}
use Rattle.rules.specs.Steps.{modulus, start, trail, run, after}
use Rattle.rules.specs.declared.answers.Answer.{Answer}
use Rattle.rules.specs.declared.answers.Answer.TheVariants.{OutOfRoom}
use Rattle.rules.specs.declared.refusals.Refusal.{Refusal}
use Rattle.rules.specs.declared.answers.StepRecord.{StepRecord}
use Rattle.rules.specs.declared.counts.Counts.{Counts}
use Rattle.rules.proofs.Sound.{right_counts, sound_table}
use Rattle.rules.proofs.Terms.{weaken}
use Rattle.rules.proofs.Places.{fits}
use Rattle.words.specs.Stored.{decoded}
use Rattle.words.proofs.Encoded.{length_padded}
use Rattle.words.proofs.Stored.{stride_le}
use Rattle.netlist.proofs.Facts.{facts}
use Rattle.tally.specs.Marks.{Numbered}
use Rattle.rules.proofs.Bits.{bit_first}
use Rattle.rules.proofs.Trails.{length_run, trail_first}
use Rattle.demands.proofs.Absent.{Absent, false_absent}
use Rattle.demands.proofs.StepShape.{run_shape}
use Rattle.demands.proofs.TermLimit.{roomy_le}
use Rattle.start.specs.Start.{Asked, Started, counted, within}
use Rattle.ending.specs.Ending.{Evens, Ending}
use Rattle.judge.specs.Running.{Running, Finished}
use Rattle.judge.specs.Deciding.{Block, Passed, Begun, Closing, Decided, last}
use Rattle.judge.specs.declared.run.NoRoom.{NoRoom}
use Rattle.judge.specs.Running.{steps_of, terms_of}
use Rattle.judge.proofs.Numbers.{below_numbered, with_again}
use Rattle.judge.proofs.Held.{set_room, decoded_held, words_fit, running_decoded, Normal, some_counted, none_counted, Laid, laid}
use Rattle.judge.proofs.Going.{path, roomy_full, roomy_next}

-- the modulus of the run is that of O bits
modulus_outputs : (kind : Kind) (c : Counts) → c.o ≡ outputs_of kind (operand_width kind c) → modulus kind c ≡ 2 ^ c.o
unfolding modulus
modulus_outputs kind c e = ap (λ (l : ℕ). 2 ^ l) (sym e)

-- the polynomials of the run, with the modulus that O gives
run_path : (kind : Kind) (c : Counts) (table order : List ℕ) → c.o ≡ outputs_of kind (operand_width kind c) → run kind c table order ≡ path c table (start kind c table) order
unfolding run
run_path kind c table order e = ap (λ (m : ℕ). trail m c table (start kind c table) order) (modulus_outputs kind c e)

-- one more than the number before
pred_more : (n : ℕ) → 0 < n → pred n + 1 ≡ n
pred_more zero h = absurd (omega arith)
pred_more (suc n) h = add-one n

-- sets without variable 0 are even
evens_of : (p : Polynomial) → Absent 0 p → Evens p
evens_of [] h = tt
evens_of (t ∷ p) h = (sym (bit_first t.1) ∙ h.0, evens_of p h.1)

-- words cleared from their first to their last are zeros
pub cleared : (old new : List ℕ) → new ≡ take 0 old ++ (replicate (length old - 0) 0 ++ drop (length old) old) → new ≡ replicate (length old) 0
cleared old new e =
    let whole : length old - 0 ≡ length old = omega arith in
    e ∙ rw (whole, drop-length old, append-nil)

-- the run begun: the start polynomial in the words of store and scratch as they were lent, and its occurrences
pub record Opened (c : Counts) (table : List ℕ) (limit : ℕ) (p : Polynomial) (store scratch occurrences : List ℕ) (r : ℕ) (store' scratch' occurrences' : List ℕ) : Type 0 where
  pub running : Running c table limit r (decoded (set_width c) r store') store' scratch' occurrences'
  pub same : decoded (set_width c) r store' ≡ p
  pub few : length p ≤ limit
  pub store_lent : length store' ≡ length store
  pub scratch_lent : length scratch' ≡ length scratch
  pub numbers : occurrences' ≡ with_occurrences c p occurrences

-- so many terms stand in the store, and can be counted
pub record Countable (c : Counts) (count : ℕ) (store : List ℕ) : Type 0 where
  pub room : count * (set_width c + 1) ≤ length store
  pub few : count < 2 ^ 32
  pub falls : Below (2 ^ (64 * set_width c)) (decoded (set_width c) count store)
  pub numbered : Numbered (c.m + 1) (decoded (set_width c) count store)

module _ {c : Counts} {table : List ℕ} {kind limit : ℕ} {store scratch occurrences : List ℕ} (b : Block c table kind limit store scratch occurrences) where
  -- what the start asks is there once the store is cleared
  pub asked : {store₁ : List ℕ} → store₁ ≡ replicate (length store) 0 → Asked c table kind limit store₁
  unfolding table_short table_unsound
  asked {store₁} e =
      let lent : length store₁ ≡ length store = ap length e ∙ length-replicate (length store) 0 in
      let s = b.sound in
      record {
        counts = s.fitting.counts;
        long = ltb-false (length table) (needed c) s.fitting.long;
        sound = not-false (table_sound c table) s.literals;
        fitting = b.fitting;
        room = rw lent b.store_room;
        zeros = rw lent e;
      }

  -- and what it leaves is the start
  pub begun : {store₁ store₂ scratch₁ occurrences₁ : List ℕ} {r : Option ℕ} → store₁ ≡ replicate (length store) 0 → scratch₁ ≡ replicate (length scratch) 0
      → Started (start (kind_of kind) c table) (set_width c) limit (length store₁) r store₂
      → occurrences₁ ≡ with_occurrences c (cond (leb (length (start (kind_of kind) c table)) limit) (start (kind_of kind) c table) []) occurrences
      → Begun c limit (start (kind_of kind) c table) store scratch occurrences r store₂ scratch₁ occurrences₁
  begun {store₁} e f s numbers =
      let lent : length store₁ ≡ length store = ap length e ∙ length-replicate (length store) 0 in
      record { written = rw lent at s; scratch_words = f; occurrence_words = numbers }

  -- the start polynomial is normal
  pub start_normal : Normal c (start (kind_of kind) c table)
  unfolding table_unsound modulus every after run trail
  start_normal =
      let s = b.sound in
      let right = right_counts c s.fitting.counts in
      let sound = sound_table c table (not-false (table_sound c table) s.literals) in
      let shape = run_shape (kind_of kind) c table right sound [] refl 0 (omega arith) in
      let none = false_absent (kind_of kind) c table [] 0 (omega arith) in (
        shape.falling,
        subst (λ (l : ℕ). Coefficients (2 ^ l) (start (kind_of kind) c table)) (sym (fits (kind_of kind) c s.fitting.counts b.fitting).outputs) shape.coefficients,
        below_numbered (c.m + 1) (2 ^ (c.m + 1)) (start (kind_of kind) c table) (omega arith) shape.falling none,
      )

  abbrev first_terms : Polynomial
  first_terms = start (kind_of kind) c table

  -- a term has at most sixteen words for its set
  pub start_narrow : set_width c ≤ 16
  unfolding set_width
  start_narrow = omega (arith, (facts b.sound.fitting).counts.most)

  module _ {store₁ store₂ : List ℕ} (e : store₁ ≡ replicate (length store) 0) where
    -- where the start has room, its terms are in the store
    started : {r : ℕ} → Started first_terms (set_width c) limit (length store₁) (Some r) store₂
        → (leb (length first_terms) limit ≡ true) × (r ≤ limit) × (decoded (set_width c) r store₂ ≡ first_terms) × (r * (set_width c + 1) ≤ length store₂)
    unfolding counted within term_width
    started {r} s =
        let room = some_counted _ _ _ s.count in
        let few : length first_terms ≤ limit = leb-true _ _ room.0 in
        let lent : length store₁ ≡ length store = ap length e ∙ length-replicate (length store) 0 in
        let words : store₂ ≡ padded (length store) (polynomial_words (set_width c) first_terms) = rw (room.0, lent) at s.words in
        let fit = words_fit c limit (length store) first_terms few b.store_room in
        let long : length store₂ ≡ length store = ap length words ∙ length_padded (length store) (polynomial_words (set_width c) first_terms) fit in
        let under : r ≤ limit = omega (arith, room.1) in
        (room.0, under, rw (room.1, words) (decoded_held c first_terms (length store) start_normal.0), rw long (stride_le r limit (set_width c) (length store) under b.store_room))

    -- what the start leaves, terms or none, stands in the store and can be counted
    counting_start : (r : Option ℕ) → Started first_terms (set_width c) limit (length store₁) r store₂ → Countable c (unwrap_or r 0) store₂
    unfolding decoded
    counting_start None s = record { room = omega (arith, zero-mul (set_width c + 1)); few = omega arith; falls = tt; numbered = tt }
    counting_start (Some r) s =
        let there = started s in
        record {
          room = there.3;
          few = omega (arith, there.1, b.taken);
          falls = rw there.2 (weaken (2 ^ (c.m + 1)) (2 ^ (64 * set_width c)) first_terms (set_room c) start_normal.0);
          numbered = rw there.2 start_normal.2;
        }

    -- so can any number of terms that is theirs
    pub countable : (r : Option ℕ) → Started first_terms (set_width c) limit (length store₁) r store₂ → (n : ℕ) → n ≡ unwrap_or r 0 → Countable c n store₂
    countable r s n e = rw e (counting_start r s)

    -- the numbers are then those of the start, or of no term where it has no room
    pub numbers_start : (r : Option ℕ) → Started first_terms (set_width c) limit (length store₁) r store₂ → {numbers : List ℕ}
        → numbers ≡ with_occurrences c (decoded (set_width c) (unwrap_or r 0) store₂) occurrences
        → numbers ≡ with_occurrences c (cond (leb (length first_terms) limit) first_terms []) occurrences
    unfolding counted decoded
    numbers_start (Some r) s n = let there = started s in n ∙ rw (there.0, there.2)
    numbers_start None s n = n ∙ rw (none_counted _ _ s.count)

  -- a start with room begins a run
  pub opened : {r : ℕ} {store' scratch' occurrences' : List ℕ} → Begun c limit (start (kind_of kind) c table) store scratch occurrences (Some r) store' scratch' occurrences'
      → Opened c table limit (start (kind_of kind) c table) store scratch occurrences r store' scratch' occurrences'
  unfolding counted within
  opened {r} {store'} {scratch'} {occurrences'} g =
      let p = start (kind_of kind) c table in
      let room = some_counted _ _ _ g.written.count in
      let few : length p ≤ limit = leb-true (length p) limit room.0 in
      let stored : store' ≡ padded (length store) (polynomial_words (set_width c) p) = rw room.0 at g.written.words in
      let numbers : occurrences' ≡ with_occurrences c p occurrences = rw room.0 at g.occurrence_words in
      let l : Laid c table limit r p store scratch occurrences store' scratch' occurrences' =
      laid b.sound b.taken b.store_room b.scratch_room b.numbers_room start_normal room.1 few stored g.scratch_words numbers in
      let same : decoded (set_width c) r store' ≡ p = running_decoded l.running in
      record { running = rw same l.running; same = same; few = few; store_lent = l.store_lent; scratch_lent = l.scratch_lent; numbers = numbers }

module _ {c : Counts} {table : List ℕ} {kind limit : ℕ} {order store scratch : List ℕ} {lent : ℕ} {occurrences : List ℕ}
    (p : Passed c table kind limit order store scratch lent occurrences) where
  abbrev first : Polynomial
  first = start (kind_of kind) c table

  abbrev all : List Polynomial
  all = run (kind_of kind) c table order

  outputs_fit : c.o ≡ outputs_of (kind_of kind) (operand_width (kind_of kind) c)
  outputs_fit = (fits (kind_of kind) c p.block.sound.fitting.counts p.block.fitting).outputs

  all_path : all ≡ path c table first order
  all_path = run_path (kind_of kind) c table order outputs_fit

  -- the run's first polynomial is the start
  all_first : (get_or all 0 [] ≡ first) × (0 < length all)
  all_first = (rw all_path (trail_first (2 ^ c.o) c table first order), omega (arith, length_run (kind_of kind) c table order))

  -- no room at the start: R at step 0
  pub decided_none : {store' scratch' : List ℕ} {log : List StepRecord} {occurrences' : List ℕ}
      → Begun c limit first store scratch occurrences None store' scratch' occurrences'
      → Decided c table kind limit order store scratch log occurrences (Ok (OutOfRoom 0 0)) store' scratch' log occurrences'
  unfolding held completed over verdict counted within answer_says
  decided_none g =
      let full = none_counted _ _ g.written.count in
      let many : limit < length (get_or all 0 []) = rw all_first.0 (leb-false (length first) limit full) in
      let none : roomy limit all ≡ 0 = roomy_full limit all 0 all_first.1 many in
      record {
        said = rw (none, le-leb 0 (length order) (omega arith));
        store_words = rw none (rw full at g.written.words);
        scratch_words = g.scratch_words;
        log_records = rw none;
        occurrence_words = rw none (rw full at g.occurrence_words);
      }

  module _ {r : ℕ} {store₁ scratch₁ occurrences₁ : List ℕ} (o : Opened c table limit first store scratch occurrences r store₁ scratch₁ occurrences₁)
      {log : List StepRecord} {ran : Result ℕ NoRoom} {store₂ scratch₂ : List ℕ} {log₂ : List StepRecord} {occurrences₂ : List ℕ}
      (f : Finished c table limit order (path c table (decoded (set_width c) r store₁) order) store₁ scratch₁ log occurrences₁ ran store₂ scratch₂ log₂ occurrences₂) where
    -- the run was that of the rules
    finished : Finished c table limit order all store₁ scratch₁ log occurrences₁ ran store₂ scratch₂ log₂ occurrences₂
    finished = rw (all_path, ← o.same) f

    -- the start had room
    some_room : 0 < roomy limit all
    some_room =
        let few : length (get_or all 0 []) ≤ limit = rw all_first.0 o.few in
        let next : roomy limit all ≡ suc (roomy limit (drop 1 all)) = roomy_next limit all 0 all_first.1 few in
        omega arith

    -- what the run leaves, with its answer
    decided : (a : Result Answer Refusal) → says a ≡ verdict (kind_of kind) c table limit order
        → Decided c table kind limit order store scratch log occurrences a store₂ scratch₂ log₂ occurrences₂
    decided a said =
        let g = finished in
        record {
          said = said;
          store_words = rw o.store_lent at g.store_words;
          scratch_words = rw o.scratch_lent at g.scratch_words;
          log_records = rw (modulus_outputs (kind_of kind) c outputs_fit) g.log_records;
          occurrence_words = g.occurrence_words ∙ ap (with_occurrences c (held limit all)) o.numbers ∙ with_again c first (held limit all) occurrences;
        }

    -- the steps completed, and the start
    steps_room : steps_of (length order) ran + 1 ≡ roomy limit all
    unfolding completed
    steps_room = ap (λ (n : ℕ). n + 1) finished.steps ∙ pred_more (roomy limit all) some_room

    -- no more steps are completed than there are
    steps_within : steps_of (length order) ran ≤ length order
    steps_within = omega (arith, steps_room, roomy_le limit all, length_run (kind_of kind) c table order)

    -- R at a later step
    decided_full : is_ok ran ≡ false → (a : Result Answer Refusal) → says a ≡ answers 2 ((steps_of (length order) ran + 1) ∷ terms_of ran ∷ [])
        → Decided c table kind limit order store scratch log occurrences a store₂ scratch₂ log₂ occurrences₂
    unfolding verdict
    decided_full full a said =
        let g = finished in
        let most : roomy limit all ≤ length order = ltb-false (length order) (roomy limit all) (sym g.fits ∙ full) in
        decided a (said ∙ rw (steps_room, g.counted, le-leb (roomy limit all) (length order) most))

    -- the store has the polynomial held
    held_words : decoded (set_width c) (terms_of ran) store₂ ≡ held limit all
    held_words =
        let g = finished in
        rw (g.counted, g.store_words) (decoded_held c (held limit all) (length store₁) g.falls)

    -- which is that after the steps completed, so its sets are even
    held_even : Evens (held limit all)
    unfolding held after
    held_even = go (roomy limit all) some_room (omega (arith, roomy_le limit all, length_run (kind_of kind) c table order))
      where
        go : (n : ℕ) → 0 < n → n ≤ suc (length order) → Evens (get_or ([] ∷ all) n [])
        go zero l h = absurd (omega arith)
        go (suc k) l h = evens_of (get_or all k []) (false_absent (kind_of kind) c table order k (omega arith))

    -- what the answer asks of the store is there
    ending : Ending c kind (terms_of ran) store₂
    ending =
        let g = finished in
        let few : length (held limit all) ≤ limit = omega (arith, g.few, g.counted) in
        let fit = words_fit c limit (length store₁) (held limit all) few o.running.store_room in
        let lent : length store₂ ≡ length store₁ = ap length g.store_words ∙ length_padded (length store₁) (polynomial_words (set_width c) (held limit all)) fit in
        record {
          fitting = p.block.fitting;
          room = omega (arith, o.running.store_room, mul-le-mul_right (term_width c) g.few);
          falls = rw held_words g.falls;
          even = rw held_words held_even;
        }

    -- E, D or U by the last polynomial
    decided_ended : is_ok ran ≡ true → (a : Result Answer Refusal) → says a ≡ ended (kind_of kind) c table (steps_of (length order) ran) (decoded (set_width c) (terms_of ran) store₂)
        → Decided c table kind limit order store scratch log occurrences a store₂ scratch₂ log₂ occurrences₂
    unfolding verdict
    decided_ended fits a said =
        let g = finished in
        let last : length order < roomy limit all = ltb-true (length order) (roomy limit all) (sym g.fits ∙ fits) in
        let steps : steps_of (length order) ran ≡ length order = omega (arith, steps_room, roomy_le limit all, length_run (kind_of kind) c table order) in
        decided a (said ∙ rw (steps, held_words, lt-leb (roomy limit all) (length order) last))

    -- what the answer after the run asks is there
    pub closing : Closing c kind (length order) ran store₂
    closing = record { short = omega (arith, steps_within, p.short); ending = ending }

-- and with it the outcome is decided
pub decided_last : {c : Counts} {table : List ℕ} {kind limit : ℕ} {order store scratch : List ℕ} {lent : ℕ} {occurrences : List ℕ}
    (p : Passed c table kind limit order store scratch lent occurrences) {r : ℕ} {store₁ scratch₁ occurrences₁ : List ℕ}
    (o : Opened c table limit (start (kind_of kind) c table) store scratch occurrences r store₁ scratch₁ occurrences₁)
    {log : List StepRecord} {store₂ scratch₂ : List ℕ} {log₂ : List StepRecord} {occurrences₂ : List ℕ} (ran : Result ℕ NoRoom)
    (f : Finished c table limit order (path c table (decoded (set_width c) r store₁) order) store₁ scratch₁ log occurrences₁ ran store₂ scratch₂ log₂ occurrences₂)
    (a : Result Answer Refusal) → says a ≡ last c table kind (length order) ran store₂
    → Decided c table kind limit order store scratch log occurrences a store₂ scratch₂ log₂ occurrences₂
unfolding last
decided_last p o (Ok terms) f a said = decided_ended p o f refl a said
decided_last p o (Err full) f a said = decided_full p o f refl a said
