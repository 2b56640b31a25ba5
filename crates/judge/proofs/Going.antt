-- The run so far, with no code in it: what holds after k steps, how a turn takes it further, and how it ends.
use mathlib.Core.Path.{◌≡◌, refl, ap, sym, ◌∙◌}
use mathlib.Core.Bool.{true, false}
use mathlib.Core.List.{List, []}
use Rattle.std.specs.Prelude.{Some, None, Result, Ok, Err, is_ok}
use Prim.Native.Nat.{ℕ, suc, ◌+◌, ◌^◌, ◌<◌, ◌≤◌}
use native.Mathlib.Numerals.{add-one}
use native.Mathlib.Omega.{arith}
use lib.Dec.{leb, ltb}
use lib.ListN.{length, get_or, take, drop, set, replicate, length-append, length-take, length-drop, drop_of_length-le}
use lib.Seq.{drop-cons, take-suc, set_at, append_snoc, length-take-le}
use borrow.Author.Tests.{lt-ltb, le-ltb, leb-false}
use Rattle.rules.specs.Each.{every}
use Rattle.rules.specs.Judging.{is_gate, set_width, roomy, held, completed, over, records}
use Rattle.rules.specs.Occurrences.{with_occurrences}
use Rattle.rules.specs.Polynomial.{Polynomial}
use Rattle.rules.specs.Steps.{made, step, trail}
use Rattle.rules.specs.declared.answers.StepRecord.{StepRecord}
use Rattle.rules.specs.declared.counts.Counts.{Counts}
use Rattle.rules.proofs.Trails.{length_trail, trail_first, trail_next, length_records, records_at}
use Rattle.demands.proofs.StepShape.{gate_here}
use Rattle.words.specs.Stored.{decoded}
use Rattle.judge.specs.Running.{Running, Turned, steps_of, terms_of, Finished}
use Rattle.judge.specs.declared.turn.Turn.{Turn}
use Rattle.judge.specs.declared.run.NoRoom.{NoRoom}
use Rattle.judge.proofs.Numbers.{with_again}
use Rattle.judge.proofs.Held.{running_decoded, step_normal, Laid, none_counted, moved}

module _ (limit : ℕ) (list : List Polynomial) (j : ℕ) (h : j < length list) where
  -- a polynomial with room is one more
  pub roomy_next : length (get_or list j []) ≤ limit → roomy limit (drop j list) ≡ suc (roomy limit (drop (suc j) list))
  unfolding roomy
  roomy_next l = rw (drop-cons list j [] h, le-ltb limit (length (get_or list j [])) l)

  -- one without is the end
  pub roomy_full : limit < length (get_or list j []) → roomy limit (drop j list) ≡ 0
  unfolding roomy
  roomy_full l = rw (drop-cons list j [] h, lt-ltb limit (length (get_or list j [])) l)

module _ (new old : List StepRecord) (k : ℕ) where
  -- the first records written over a log leave it as long as it was
  pub length_over : k ≤ length new → k ≤ length old → length (over k new old) ≡ length old
  unfolding over
  length_over n o = simp (length-append, length-take, length-drop) (omega arith)

  -- one record more
  over_next : (none : StepRecord) → k < length new → k < length old → set (over k new old) k (get_or new k none) ≡ over (k + 1) new old
  unfolding over
  over_next none n o =
      let l : length (take k new) ≡ k = length-take-le k new (omega arith) in
      rw (add-one k, drop-cons old k none o, set_at (take k new) (get_or old k none) (drop (suc k) old) (get_or new k none) k l, take-suc new k none n)
      (sym (append_snoc (take k new) (get_or new k none) (drop (suc k) old)))

-- behind the last there is none
roomy_none : (limit : ℕ) (list : List Polynomial) (j : ℕ) → length list ≤ j → roomy limit (drop j list) ≡ 0
unfolding roomy
roomy_none limit list j h = rw (drop_of_length-le list {i = j} h)

-- the polynomials of a run from `first`
abbrev pub path : Counts → List ℕ → Polynomial → List ℕ → List Polynomial
path c table first order = trail (2 ^ c.o) c table first order

-- their records
abbrev pub path_records : Counts → List ℕ → Polynomial → List ℕ → List StepRecord
path_records c table first order = records (2 ^ c.o) c table order (path c table first order)

-- after k steps, each with room: the polynomial is in the store, the log has k records over what stood there, and the occurrences are
-- the polynomial's
pub record Going (c : Counts) (table : List ℕ) (limit : ℕ) (order : List ℕ) (first : Polynomial) (store₀ scratch₀ : List ℕ) (log₀ : List StepRecord) (occurrences₀ : List ℕ)
    (k count : ℕ) (store scratch : List ℕ) (log : List StepRecord) (occurrences : List ℕ) : Type 0 where
  pub within : k ≤ length order
  pub running : Running c table limit count (get_or (path c table first order) k []) store scratch occurrences
  pub store_lent : length store ≡ length store₀
  pub scratch_lent : length scratch ≡ length scratch₀
  pub numbers_lent : length occurrences ≡ length occurrences₀
  pub room : roomy limit (path c table first order) ≡ suc k + roomy limit (drop (suc k) (path c table first order))
  pub log_records : log ≡ over k (path_records c table first order) log₀
  pub numbers : occurrences ≡ with_occurrences c (get_or (path c table first order) k []) occurrences₀

module _ {c : Counts} {table : List ℕ} {limit : ℕ} {order : List ℕ} {first : Polynomial} {store₀ scratch₀ : List ℕ} {log₀ : List StepRecord} {occurrences₀ : List ℕ} where
  -- before the first step
  pub going_first : {count : ℕ} → Running c table limit count first store₀ scratch₀ occurrences₀
      → Going c table limit order first store₀ scratch₀ log₀ occurrences₀ 0 count store₀ scratch₀ log₀ occurrences₀
  unfolding over
  going_first {count} r =
      let e : get_or (path c table first order) 0 [] ≡ first = trail_first (2 ^ c.o) c table first order in
      let few : length (get_or (path c table first order) 0 []) ≤ limit = rw e (omega (arith, r.counted, r.few)) in
      let room : roomy limit (path c table first order) ≡ suc (roomy limit (drop 1 (path c table first order))) =
      roomy_next limit (path c table first order) 0 (omega (arith, length_trail (2 ^ c.o) c table first order)) few in
      record {
        within = omega arith;
        running = rw e r;
        store_lent = refl;
        scratch_lent = refl;
        numbers_lent = refl;
        room = omega arith;
        log_records = refl;
        numbers = rw e r.numbers;
      }

  module _ {k count : ℕ} {store scratch : List ℕ} {log : List StepRecord} {occurrences : List ℕ}
      (g : Going c table limit order first store₀ scratch₀ log₀ occurrences₀ k count store scratch log occurrences) where
    -- the log is as long as it was
    pub log_lent : length order ≤ length log₀ → length log ≡ length log₀
    log_lent l =
        let all : length (path c table first order) ≡ suc (length order) = length_trail (2 ^ c.o) c table first order in
        let new : length (path_records c table first order) ≡ length order = length_records (2 ^ c.o) c table order (path c table first order) (omega arith) in
        ap length g.log_records
        ∙ length_over (path_records c table first order) log₀ k (omega (arith, g.within)) (omega (arith, g.within))

    -- what a turn asks is there
    pub going_ready : k < length order → every (is_gate c) order ≡ true
        → Running c table limit count (decoded (set_width c) count store) store scratch occurrences × (c.i < get_or order k 0) × (get_or order k 0 ≤ c.m)
    going_ready h every_gate =
        let gate = gate_here c order every_gate k h in
        (rw (running_decoded g.running) g.running, gate.0, gate.1)

    -- the polynomial held at the end, where the next has no room or there is none
    finish : roomy limit (path c table first order) ≡ suc k → (r : Result ℕ NoRoom) → is_ok r ≡ ltb (length order) (suc k) → steps_of (length order) r ≡ k → terms_of r ≡ count
        → Finished c table limit order (path c table first order) store₀ scratch₀ log₀ occurrences₀ r store (replicate (length scratch₀) 0) log occurrences
    unfolding held completed
    finish e r fits steps counted =
        record {
          fits = rw e fits;
          steps = rw e steps;
          counted = rw e (counted ∙ g.running.counted);
          few = rw counted g.running.few;
          falls = rw e g.running.falls;
          store_words = rw (e, ← g.store_lent) g.running.kept;
          scratch_words = refl;
          log_records = rw e g.log_records;
          occurrence_words = rw e g.numbers;
        }

    -- after the last step
    pub going_end : k ≡ length order → Finished c table limit order (path c table first order) store₀ scratch₀ log₀ occurrences₀ (Ok count) store scratch log occurrences
    going_end e =
        let clean : scratch ≡ replicate (length scratch₀) 0 = rw g.scratch_lent at g.running.clean in
        let last : roomy limit (drop (suc k) (path c table first order)) ≡ 0 =
        roomy_none limit (path c table first order) (suc k) (omega (arith, length_trail (2 ^ c.o) c table first order)) in
        rw clean (finish (omega (arith, g.room)) (Ok count) (sym (lt-ltb (length order) (suc k) (omega arith))) (sym e) refl)

    module _ (h : k < length order) (every_gate : every (is_gate c) order ≡ true) {t : Turn} {store' scratch' occurrences' : List ℕ}
        (turned : Turned c limit (made (2 ^ c.o) c table (get_or order k 0) (decoded (set_width c) count store)) (step (2 ^ c.o) c table (get_or order k 0) (decoded (set_width c) count store)) store scratch occurrences t store' scratch' occurrences') where
      -- the turn is to the next polynomial
      turned_next : Turned c limit (made (2 ^ c.o) c table (get_or order k 0) (get_or (path c table first order) k [])) (get_or (path c table first order) (suc k) []) store scratch occurrences t store' scratch' occurrences'
      turned_next =
          rw (trail_next (2 ^ c.o) c table order first k h, ← running_decoded g.running) turned

      -- a turn without room ends the run
      pub going_full : t.held ≡ None
          → Finished c table limit order (path c table first order) store₀ scratch₀ log₀ occurrences₀ (Err (record { steps = k; terms = count })) store' scratch' log occurrences'
      going_full full =
          let t' = turned_next in
          let over_limit : leb (length (get_or (path c table first order) (suc k) [])) limit ≡ false = none_counted _ _ (sym full ∙ t'.held) in
          let same : store' ≡ store = rw over_limit at t'.stored in
          let clean : scratch' ≡ replicate (length scratch₀) 0 = rw g.scratch_lent at t'.cleared in
          let still : occurrences' ≡ occurrences = rw over_limit at t'.numbers in
          let z : roomy limit (drop (suc k) (path c table first order)) ≡ 0 =
          roomy_full limit (path c table first order) (suc k) (omega (arith, length_trail (2 ^ c.o) c table first order)) (leb-false _ _ over_limit) in
          rw (same, clean, still) (finish (omega (arith, g.room)) (Err (record { steps = k; terms = count })) (sym (le-ltb (length order) (suc k) (omega arith))) refl refl)

      -- a turn with room is one step more
      pub going_more : length order ≤ length log₀ → {terms : ℕ} → t.held ≡ Some terms
          → Going c table limit order first store₀ scratch₀ log₀ occurrences₀ (k + 1) terms store' scratch' (set log k (record { gate = get_or order k 0; terms = terms; made = t.made })) occurrences'
      going_more long {terms} held =
          let t' = turned_next in
          let gate = gate_here c order every_gate k h in
          let normal = step_normal g.running (get_or order k 0) gate.0 gate.1 in
          let next : get_or (path c table first order) (suc k) [] ≡ step (2 ^ c.o) c table (get_or order k 0) (get_or (path c table first order) k []) =
          trail_next (2 ^ c.o) c table order first k h in
          let m : Laid c table limit terms (get_or (path c table first order) (suc k) []) store scratch occurrences store' scratch' occurrences' =
          moved g.running (rw next normal) t' held in
          let more : k + 1 ≡ suc k = add-one k in
          let all : length (path c table first order) ≡ suc (length order) = length_trail (2 ^ c.o) c table first order in
          let few : length (get_or (path c table first order) (suc k) []) ≤ limit = omega (arith, m.running.counted, m.running.few) in
          let new : length (path_records c table first order) ≡ length order = length_records (2 ^ c.o) c table order (path c table first order) (omega arith) in
          let none : StepRecord = record { gate = 0; terms = 0; made = 0 } in
          let here : record { gate = get_or order k 0; terms = terms; made = t.made } ≡ get_or (path_records c table first order) k none =
          rw (records_at (2 ^ c.o) c table order (path c table first order) k none h (omega arith), ← m.running.counted, t'.peak) refl in
          record {
            within = omega arith;
            running = rw more m.running;
            store_lent = m.store_lent ∙ g.store_lent;
            scratch_lent = m.scratch_lent ∙ g.scratch_lent;
            numbers_lent = m.numbers_lent ∙ g.numbers_lent;
            room = rw more (omega (arith, g.room, roomy_next limit (path c table first order) (suc k) (omega arith) few));
            log_records = rw (g.log_records, here) (over_next (path_records c table first order) log₀ k none (omega arith) (omega arith));
            numbers =
                rw more
                (m.numbers ∙ ap (with_occurrences c (get_or (path c table first order) (suc k) [])) g.numbers
                ∙ with_again c (get_or (path c table first order) k []) (get_or (path c table first order) (suc k) []) occurrences₀);
          }
