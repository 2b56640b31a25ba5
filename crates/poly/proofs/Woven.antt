-- The step woven: what becomes of the terms that hold v was made in scratch behind room for `limit` terms; it is put together with
-- the others, and cleared.
use Rattle.std.proofs.Common.{◌≡◌, ℕ, ◌+◌, ◌-◌, ◌*◌, ◌^◌, ◌<◌, ◌≤◌, List, ◌++◌, Option, None, length, take, drop, replicate, refl, ap, ◌∙◌, add-mul, mul_assoc, mul-le-mul_right, pow_pos, arith, length-append, length-drop, length-take-le, take-append-drop}
use lib.IntN.{ℤ}
use lib.Dec.{leb}
use lib.Seq.{take_all}
use mathlib.Core.Bool.{false}
use borrow.Author.Tests.{lt-leb}
use Rattle.rules.specs.Polynomial.{Polynomial, Below, gather}
use Rattle.rules.specs.Steps.{all_replaced}
use Rattle.rules.specs.declared.records.Record.{Record}
use Rattle.rules.proofs.Gathered.{gather_coefficients}
use Rattle.words.specs.Stored.{decoded}
use Rattle.words.proofs.Stored.{decoded_take, length_decoded}
use Rattle.weave.specs.Weaving.{holding, without}
use Rattle.weave.specs.declared.weaving.Sizes.{Sizes}
use Rattle.weave.proofs.Falling.{below_front, coefficients_take}
use Rattle.tally.specs.Marks.{Renumbered}
use Rattle.tally.proofs.Numbering.{numbered_gather, numbered_replaced}
use Rattle.merge.specs.declared.streams.Gate.{Gate}
use Rattle.poly.specs.Stepping.{Fit, Prepared, Both, Numbering, Numberable, Together, Stepped}
use Rattle.poly.proofs.Parts.{holding_front, replaced_falls, step_parts, step_more}
use Rattle.poly.proofs.Numbered.{numbered_parts}
use Rattle.poly.proofs.Restored.{zeros_again, written, part_there, front_zeros, restored}

module _ (store : List ℕ) (n w : ℕ) (g : Gate) (r : Record) (row : List ℤ) (end : ℕ) (scratch : List ℕ) (limit : ℕ) (h : Prepared store n w g r row end scratch limit) where
  -- the terms up to the last that holds v are terms of the store
  pub end_in : end ≤ n
  end_in = omega (arith, h.last.high, length_decoded w n store)

  -- they are the first
  front : decoded w end store ≡ take end (decoded w n store)
  front = decoded_take w end n store end_in

  -- they fall as all do
  front_falls : Below (2 ^ (64 * g.k)) (decoded w end store)
  front_falls = rw front (below_front (2 ^ (64 * g.k)) (take end (decoded w n store)) (drop end (decoded w n store)) (rw (take-append-drop end (decoded w n store)) h.fit.falls))

  -- what the streams ask of them
  pub front_fit : Fit w (decoded w end store) g r row
  front_fit = record {
    short = h.fit.short;
    v_in = h.fit.v_in;
    l_high = h.fit.l_high;
    apart = h.fit.apart;
    eight = h.fit.eight;
    x_low = h.fit.x_low;
    y_low = h.fit.y_low;
    z_low = h.fit.z_low;
    falls = front_falls;
    coefficients = rw front (coefficients_take (2 ^ g.l) end (decoded w n store) h.fit.coefficients);
  }

  -- all that hold v are among them
  same : holding g.v (decoded w end store) ≡ holding g.v (decoded w n store)
  same = ap (holding g.v) front ∙ holding_front g.v end (decoded w n store) h.last.free

  -- the terms after the step
  abbrev after : Polynomial
  after = gather (2 ^ g.l) (all_replaced (2 ^ g.l) g.v r (decoded w n store))

  -- what becomes of those that hold v
  abbrev new : Polynomial
  new = gather (2 ^ g.l) (all_replaced (2 ^ g.l) g.v r (holding g.v (decoded w end store)))

  -- scratch has room for `limit` terms
  pub room : limit * (w + 1) ≤ length scratch
  room = omega (arith, h.scratch_room, mul_assoc 4 limit (w + 1))

  -- and for twice as many behind them
  pub rooms : limit * (w + 1) + 2 * limit * (w + 1) ≤ length scratch
  rooms = omega (arith, h.scratch_room, mul_assoc 4 limit (w + 1), mul_assoc 2 limit (w + 1))

  -- the part of scratch behind them
  abbrev behind : List ℕ
  behind = take (length scratch - limit * (w + 1)) (drop (limit * (w + 1)) scratch)

  -- which is all of it
  all_behind : behind ≡ drop (limit * (w + 1)) scratch
  all_behind = take_all (length scratch - limit * (w + 1)) (drop (limit * (w + 1)) scratch) (simp length-drop (omega arith))

  pub part_room : 2 * limit * (w + 1) ≤ length behind
  part_room = rw all_behind (simp length-drop (omega (arith, rooms)))

  -- that part as it then is, and scratch
  module _ (part s1 : List ℕ) (lp : length part ≡ length behind) (e1 : s1 ≡ take (limit * (w + 1)) scratch ++ (part ++ drop (length scratch - limit * (w + 1)) (drop (limit * (w + 1)) scratch))) where
    -- its length
    part_length : length part ≡ length scratch - limit * (w + 1)
    part_length = lp ∙ ap length all_behind ∙ simp length-drop refl

    -- it stands behind room for `limit` terms
    there : drop (limit * (w + 1)) s1 ≡ part
    there = part_there (limit * (w + 1)) scratch part s1 room part_length e1

    -- scratch keeps its length
    pub same_room : length s1 ≡ length scratch
    same_room = rw e1 (simp (length-append, length-drop, length-take-le (limit * (w + 1)) scratch room, part_length) (omega (arith, rooms)))

    -- too many terms were made: what was written is cleared
    module _ (gs : 2 * limit < length new) (bs : part ≡ replicate (2 * limit * (w + 1)) 0 ++ drop (2 * limit * (w + 1)) behind) where
      -- so there are too many after the step
      step_many : limit < length after
      step_many = step_more (2 ^ g.l) g.v r limit (decoded w n store) (pow_pos g.l) (omega (arith, length_decoded w n store, h.few)) (rw same at gs)

      -- no number changes
      pub numbers_many : (numbers : List ℕ) → Renumbered limit (decoded w n store) after numbers numbers
      numbers_many numbers = record { moved = λ few. absurd (omega (arith, step_many)); stayed = λ many. refl }

      -- and scratch is zeros again
      pub step_full : Stepped w limit after store scratch None store s1
      step_full =
          let u : leb (length after) limit ≡ false = lt-leb (length after) limit step_many in
          let e : part ≡ drop (limit * (w + 1)) scratch = zeros_again (limit * (w + 1)) (2 * limit * (w + 1)) scratch part h.clean rooms (bs ∙ ap (λ (s : List ℕ). replicate (2 * limit * (w + 1)) 0 ++ drop (2 * limit * (w + 1)) s) all_behind) in
          record {
            counted = rw u refl;
            stored = rw u refl;
            cleared = written (limit * (w + 1)) scratch part s1 room part_length e1 ∙ ap (λ (s : List ℕ). take (limit * (w + 1)) scratch ++ s) e ∙ take-append-drop (limit * (w + 1)) scratch ∙ h.clean;
          }

    -- `made` terms were made
    module _ (made : ℕ) (gs : (made ≤ 2 * limit) × (decoded w made part ≡ new)) (bs : drop (made * (w + 1)) part ≡ drop (made * (w + 1)) behind) where
      -- they take as many words as they are
      pub made_room : limit * (w + 1) + made * (w + 1) ≤ length scratch
      made_room = omega (arith, rooms, mul-le-mul_right (w + 1) gs.0)

      -- how many there are of the new terms and the others
      abbrev sizes : Sizes
      sizes = record { n = n; w = w; k = g.k; v = g.v; l = g.l; end = end; made = made; limit = limit }

      module _ {lent : ℕ} (named : Numberable lent g.v r (decoded w n store)) where
        -- what putting them together asks
        pub both : Both sizes store s1
        both = record {
          task = record {
            room = h.room;
            scratch_room = rw (add-mul limit made (w + 1), same_room) made_room;
            narrow = h.narrow;
            v_in = omega (arith, h.fit.v_in, h.fit.short);
            short = h.fit.short;
            l_high = h.fit.l_high;
            end_in = end_in;
            free = λ i a b. h.last.free i a (omega (arith, length_decoded w n store));
            falls = h.fit.falls;
            coefficients = h.fit.coefficients;
            new_falls = rw (there, gs.1) (replaced_falls (2 ^ g.l) (64 * g.k) g.v r (decoded w end store) h.fit.v_in named.low front_falls);
            new_coefficients = rw (there, gs.1) (gather_coefficients (2 ^ g.l) (all_replaced (2 ^ g.l) g.v r (holding g.v (decoded w end store))) (pow_pos g.l));
          };
          last = h.last;
          some = h.some;
          store_room = h.store_room;
          behind = h.behind;
          clean = front_zeros (limit * (w + 1)) scratch part s1 room part_length e1 h.clean;
        }

        -- the variables of both lists have numbers
        pub numbering : Numbering sizes store s1 lent
        numbering = record {
          some = omega (arith, named.v_in);
          old = named.numbered;
          new = rw (there, gs.1, same)
              (numbered_gather lent (2 ^ g.l) (all_replaced (2 ^ g.l) g.v r (holding g.v (decoded w n store)))
              (numbered_replaced lent (2 ^ g.l) g.v r (holding g.v (decoded w n store)) named.v_in named.low (numbered_parts lent g.v (decoded w n store) named.numbered).0));
        }

      -- the terms put together are those of the step
      pub step_terms : gather (2 ^ g.l) (without g.v (decoded w n store) ++ decoded w made (drop (limit * (w + 1)) s1)) ≡ after
      step_terms =
          let made_there : decoded w made (drop (limit * (w + 1)) s1) ≡ gather (2 ^ g.l) (all_replaced (2 ^ g.l) g.v r (holding g.v (decoded w n store))) = rw (there, ← same) gs.1 in
          ap (λ (q : Polynomial). gather (2 ^ g.l) (without g.v (decoded w n store) ++ q)) made_there ∙ step_parts (2 ^ g.l) g.v r (pow_pos g.l) (decoded w n store)

      -- and what was made is cleared
      pub step_fits : (o : Option ℕ) (store' s2 s3 : List ℕ)
          → Together sizes (gather (2 ^ g.l) (without g.v (decoded w n store) ++ decoded w made (drop (limit * (w + 1)) s1))) store s1 o store' s2
          → s3 ≡ take (limit * (w + 1)) s2 ++ (replicate (limit * (w + 1) + made * (w + 1) - limit * (w + 1)) 0 ++ drop (limit * (w + 1) + made * (w + 1)) s2)
          → Stepped w limit after store scratch o store' s3
      step_fits o store' s2 s3 t e3 =
          record {
            counted = rw step_terms at t.counted;
            stored = rw step_terms at t.stored;
            cleared = restored (limit * (w + 1)) scratch part s1 room part_length e1 (made * (w + 1)) s3 h.clean made_room (bs ∙ ap (λ (s : List ℕ). drop (made * (w + 1)) s) all_behind) (rw t.kept at e3);
          }
