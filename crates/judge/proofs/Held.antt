-- A polynomial held in lent words: what the words decode to, what a step of it asks, and what holds after the step.
use Rattle.std.specs.Prelude.{Option, Some, None}
use mathlib.Core.Path.{◌≡◌, refl, ap, sym, ◌∙◌}
use mathlib.Core.Bool.{Bool, true, false, cond}
use mathlib.Core.List.{List}
use Prim.Native.Nat.{ℕ, ◌+◌, ◌-◌, ◌*◌, ◌/◌, ◌^◌, ◌<◌, ◌≤◌}
use native.Mathlib.Nat.{mul-le-mul_right}
use native.Mathlib.Omega.{arith}
use lib.Dec.{leb}
use lib.ListN.{length, take, replicate, length-replicate}
use lib.Pow.{pow_mono, pow_pos}
use lib.Seq.{length-take-le}
use borrow.Author.Tests.{leb-true}
use Rattle.rules.specs.Judging.{set_width, term_width, polynomial_words, padded}
use Rattle.rules.specs.Limits.{most_terms}
use Rattle.rules.specs.Netlist.{record_at}
use Rattle.rules.specs.Occurrences.{with_occurrences}
use Rattle.rules.specs.Polynomial.{Polynomial, Below, Coefficients, gather}
use Rattle.rules.specs.Steps.{step, all_replaced}
use Rattle.rules.specs.declared.counts.Counts.{Counts}
use Rattle.rules.specs.declared.records.Record.{Record}
use Rattle.rules.proofs.Gathered.{gather_below, gather_coefficients, under_of}
use Rattle.rules.proofs.Terms.{weaken}
use Rattle.netlist.specs.Taken.{Sound}
use Rattle.netlist.proofs.Facts.{facts, record_within}
use Rattle.words.specs.Stored.{decoded}
use Rattle.words.proofs.Encoded.{decoded_words, length_polynomial_words, length_padded}
use Rattle.tally.specs.Marks.{Numbered, Renumbered}
use Rattle.tally.proofs.Numbering.{numbered_under, numbered_gather, numbered_replaced}
use Rattle.poly.specs.Stepping.{Ready, Numberable, Stepped}
use Rattle.judge.specs.Running.{Running, Turned}
use Rattle.judge.specs.declared.turn.Turn.{Turn}
use Rattle.judge.proofs.Numbers.{length_with, with_room, with_again}

-- the variables up to M have room in the words of a set
pub set_room : (c : Counts) → 2 ^ (c.m + 1) ≤ 2 ^ (64 * set_width c)
unfolding set_width
set_room c = pow_mono (omega arith)

-- sets that fall below 2^(M + 1), in their words with anything behind them, decode to themselves
pub decoded_held : (c : Counts) (p : Polynomial) (lent : ℕ) → Below (2 ^ (c.m + 1)) p
    → decoded (set_width c) (length p) (padded lent (polynomial_words (set_width c) p)) ≡ p
unfolding padded
decoded_held c p lent h =
    decoded_words (set_width c) p (replicate (lent - length (polynomial_words (set_width c) p)) 0)
    (under_of (2 ^ (c.m + 1)) (2 ^ (64 * set_width c)) p (set_room c) h)

-- the polynomials of a run: sets that fall, of the variables from 1 to M, and coefficients of l bits
abbrev pub Normal : Counts → Polynomial → Type 0
Normal c p = Below (2 ^ (c.m + 1)) p × Coefficients (2 ^ c.o) p × Numbered (c.m + 1) p

-- a polynomial with room has its words in the store
pub words_fit : (c : Counts) (limit lent : ℕ) (p : Polynomial) → length p ≤ limit → limit * term_width c ≤ lent
    → length (polynomial_words (set_width c) p) ≤ lent
unfolding term_width
words_fit c limit lent p h l =
    omega (arith, length_polynomial_words (set_width c) p, mul-le-mul_right (set_width c + 1) h)

module _ {c : Counts} {table : List ℕ} {limit count : ℕ} {p : Polynomial} {store scratch occurrences : List ℕ}
    (r : Running c table limit count p store scratch occurrences) where
  -- the polynomial of a run is what its words decode to
  pub running_decoded : decoded (set_width c) count store ≡ p
  running_decoded =
      rw r.counted (ap (decoded (set_width c) (length p)) r.kept ∙ decoded_held c p (length store) r.falls)

  module _ (v : ℕ) (above : c.i < v) (below : v ≤ c.m) where
    -- a step leaves such a polynomial
    pub step_normal : Normal c (step (2 ^ c.o) c table v p)
    unfolding step
    step_normal =
        let low = (record_within r.sound v above below).low in
        let b = 2 ^ (c.m + 1) in
        let raw : Polynomial = all_replaced (2 ^ c.o) v (record_at c table v) p in
        let numbered = numbered_replaced (c.m + 1) (2 ^ c.o) v (record_at c table v) p (omega arith) low r.numbered in (
          gather_below (2 ^ c.o) b raw (numbered_under (c.m + 1) raw numbered),
          gather_coefficients (2 ^ c.o) raw (pow_pos c.o),
          numbered_gather (c.m + 1) (2 ^ c.o) raw numbered,
        )

-- what a step asks of the words is there
pub ready : {c : Counts} {table : List ℕ} {limit count : ℕ} {store scratch occurrences : List ℕ}
    → Running c table limit count (decoded (set_width c) count store) store scratch occurrences → {v : ℕ} {part : Record} → c.i < v → v ≤ c.m
    → part ≡ record_at c table v → Ready (c.m / 64 + 1) c.o v part limit count store scratch
unfolding term_width set_width
ready {c} {table} {limit} {count} {store} r {v} above below e =
    let f = facts r.sound.fitting in
    let within = record_within r.sound v above below in
    record {
      narrow = omega (arith, f.counts.most);
      l_high = f.counts.outputs.1;
      v_in = omega arith;
      low = rw e within.low;
      byte = rw e within.byte;
      held_most = r.few;
      store_room = r.store_room;
      scratch_room = r.scratch_room;
      falls = weaken (2 ^ (c.m + 1)) (2 ^ (64 * (c.m / 64 + 1))) (decoded (c.m / 64 + 1) count store) (pow_mono (omega arith)) r.falls;
      coefficients = r.coefficients;
      kept = r.kept;
      clean = r.clean;
    }

-- the variables of what is held, and of the gate, have numbers
pub numberable : {c : Counts} {table : List ℕ} {limit count : ℕ} {store scratch occurrences : List ℕ}
    → Running c table limit count (decoded (set_width c) count store) store scratch occurrences → {v : ℕ} {part : Record} → c.i < v → v ≤ c.m
    → part ≡ record_at c table v → Numberable (length (take (c.m + 1) occurrences)) v part (decoded (c.m / 64 + 1) count store)
unfolding set_width
numberable {c} {occurrences = occurrences} r {v} above below e =
    rw (length-take-le (c.m + 1) occurrences (with_room c _ occurrences r.numbers))
    (record { v_in = omega arith; low = rw e (record_within r.sound v above below).low; numbered = r.numbered })

-- a step of the gate's record is the step of the rules
pub stepped_to : (c : Counts) (table : List ℕ) (v : ℕ) (p : Polynomial) {limit : ℕ} {r : Option ℕ} {part : Record} {store scratch store' scratch' : List ℕ}
    → part ≡ record_at c table v
    → Stepped (c.m / 64 + 1) limit (gather (2 ^ c.o) (all_replaced (2 ^ c.o) v part p)) store scratch r store' scratch'
    → Stepped (set_width c) limit (step (2 ^ c.o) c table v p) store scratch r store' scratch'
unfolding step set_width
stepped_to c table v p e s = rw (← e) s

-- so are its numbers
pub step_numbers : (c : Counts) (table : List ℕ) (v : ℕ) (p : Polynomial) {limit : ℕ} {part : Record} {numbers numbers' : List ℕ} → part ≡ record_at c table v
    → Renumbered limit p (gather (2 ^ c.o) (all_replaced (2 ^ c.o) v part p)) numbers numbers' → Renumbered limit p (step (2 ^ c.o) c table v p) numbers numbers'
unfolding step
step_numbers c table v p e s = rw (← e) s

-- a step is a turn
pub turned : {c : Counts} {limit peak : ℕ} {q : Polynomial} {r : Option ℕ} {store scratch occurrences store' scratch' occurrences' : List ℕ}
    → Stepped (set_width c) limit q store scratch r store' scratch' → (t : Turn) → t.held ≡ r → t.made ≡ peak
    → occurrences' ≡ cond (leb (length q) limit) (with_occurrences c q occurrences) occurrences
    → Turned c limit peak q store scratch occurrences t store' scratch' occurrences'
turned s t held told numbers =
    record { held = held ∙ s.counted; peak = told; stored = s.stored; cleared = s.cleared; numbers = numbers }

-- terms that are counted have room, and terms that are not have none
pub some_counted : (b : Bool) (n m : ℕ) → Some m ≡ cond b (Some n) None → (b ≡ true) × (m ≡ n)
some_counted true n m e = (refl, cc)
some_counted false n m e = absurd (cc)

pub none_counted : (b : Bool) (n : ℕ) → None ≡ cond b (Some n) None → b ≡ false
none_counted true n e = absurd (cc)
none_counted false n e = refl

-- a run goes on in words that are as many as were lent, with the numbers of p in front of those lent for them
pub record Laid (c : Counts) (table : List ℕ) (limit count : ℕ) (p : Polynomial) (store scratch occurrences store' scratch' occurrences' : List ℕ) : Type 0 where
  pub running : Running c table limit count p store' scratch' occurrences'
  pub store_lent : length store' ≡ length store
  pub scratch_lent : length scratch' ≡ length scratch
  pub numbers_lent : length occurrences' ≡ length occurrences
  pub numbers : occurrences' ≡ with_occurrences c p occurrences

-- a normal polynomial with room, laid down in its words with zeros behind them and with its numbers, is one that a run goes on from
pub laid : {c : Counts} {table : List ℕ} {limit count : ℕ} {p : Polynomial} {store scratch occurrences store' scratch' occurrences' : List ℕ}
    → Sound c table → limit ≤ most_terms → limit * term_width c ≤ length store → 4 * limit * term_width c ≤ length scratch → c.m + 1 ≤ length occurrences
    → Normal c p → count ≡ length p → length p ≤ limit
    → store' ≡ padded (length store) (polynomial_words (set_width c) p) → scratch' ≡ replicate (length scratch) 0 → occurrences' ≡ with_occurrences c p occurrences
    → Laid c table limit count p store scratch occurrences store' scratch' occurrences'
laid {c} {table} {limit} {count} {p} {store} {scratch} {occurrences} {store'} {scratch'} {occurrences'} sound taken store_room scratch_room numbers_room normal counted few stored cleared numbers =
    let fit = words_fit c limit (length store) p few store_room in
    let same : length store' ≡ length store = ap length stored ∙ length_padded (length store) (polynomial_words (set_width c) p) fit in
    let clear : length scratch' ≡ length scratch = ap length cleared ∙ length-replicate (length scratch) 0 in
    record {
      running = record {
        sound = sound;
        taken = taken;
        store_room = rw same store_room;
        scratch_room = rw clear scratch_room;
        counted = counted;
        few = omega arith;
        falls = normal.0;
        coefficients = normal.1;
        kept = rw same stored;
        clean = rw clear cleared;
        numbered = normal.2;
        numbers = numbers ∙ sym (ap (with_occurrences c p) numbers ∙ with_again c p p occurrences);
      };
      store_lent = same;
      scratch_lent = clear;
      numbers_lent = ap length numbers ∙ length_with c p occurrences numbers_room;
      numbers = numbers;
    }

-- a turn with room takes the run to its polynomial
pub moved : {c : Counts} {table : List ℕ} {limit count peak : ℕ} {p q : Polynomial} {store scratch occurrences store' scratch' occurrences' : List ℕ} {t : Turn} {terms : ℕ}
    → Running c table limit count p store scratch occurrences → Normal c q
    → Turned c limit peak q store scratch occurrences t store' scratch' occurrences' → t.held ≡ Some terms
    → Laid c table limit terms q store scratch occurrences store' scratch' occurrences'
moved {c} {table} {limit} {count} {peak} {p} {q} {store} {scratch} {occurrences} {store'} {scratch'} {occurrences'} {t} {terms} r normal turned held =
    let room = some_counted _ _ _ (sym held ∙ turned.held) in
    let stored : store' ≡ padded (length store) (polynomial_words (set_width c) q) = rw room.0 at turned.stored in
    let numbers : occurrences' ≡ with_occurrences c q occurrences = rw room.0 at turned.numbers in
    laid r.sound r.taken r.store_room r.scratch_room (with_room c p occurrences r.numbers) normal room.1 (leb-true (length q) limit room.0) stored turned.cleared numbers
