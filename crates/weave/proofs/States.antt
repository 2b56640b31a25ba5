-- Each case of a turn takes the weave on.
use mathlib.Core.Path.{◌≡◌, refl, ◌∙◌}
use mathlib.Core.Bool.{Bool, true, false, cond, ◌||◌, true≢false, false≢true}
use mathlib.Core.List.{[], ◌∷◌, ◌++◌}
use mathlib.Core.Logic.{⊎_elim}
use Prim.Native.Nat.{ℕ, suc, ◌+◌, ◌-◌, ◌*◌, ◌%◌, ◌^◌, ◌<◌, ◌≤◌}
use native.Mathlib.Nat.{eq-or-lt_of_le, mod-lt}
use native.Mathlib.Numerals.{add-one}
use native.Mathlib.Omega.{arith}
use lib.Dec.{ltb, eqb}
use lib.ListN.{length, get_or, take, drop, length-append, length-take, length-drop, drop_of_length-le}
use lib.Pow.{pow_pos}
use lib.Seq.{drop-cons, get_or-take, get_or-drop}
use borrow.Author.Tests.{lt-ltb, le-ltb, ltb-true, ltb-false, eqb-true, eqb-false}
use Rattle.std.proofs.Common.{Option, None, Some, MatchOption}
use Rattle.rules.specs.Polynomial.{Polynomial, Below, Coefficients, Under, gather}
use Rattle.rules.proofs.Gathered.{under_of}
use Rattle.weave.specs.Merging.{Merging, floor, two}
use Rattle.weave.specs.Seeking.{Free, Stop}
use Rattle.weave.specs.Weaving.{without, State, Head, Stretch, going_on, meeting}
use Rattle.weave.specs.declared.weaving.Place.{Place}
use Rattle.weave.specs.declared.weaving.Sizes.{Sizes}
use Rattle.weave.proofs.Falling.{floor_above, coefficients_at, coefficients_take, coefficients_drop}
use Rattle.weave.proofs.Fronts.{under_append}
use Rattle.weave.proofs.Growing.{Grown, Room, room_full, room_more}
use Rattle.weave.proofs.Without.{without_end, without_held, without_some, without_free, without_rest, without_below}
use Rattle.weave.proofs.Woven.{two_lows, first_low, second_low, weave_none, weave_stretch, weave_rest, head_sums, heads_sums}

-- the next one that holds v, seen from a later term
pub stop_later : (v : ℕ) (p : Polynomial) (at stop to : ℕ) → Stop v p at stop → at ≤ to → to ≤ stop → Stop v p to stop
stop_later v p at stop to h a b = record { low = b; high = h.high; free = λ i c d. h.free i (omega arith) d; held = h.held }

-- the next term of p has the set of the next one of q, and does not hold v
pub meeting_true : (p q : Polynomial) (k : Place) → meeting p q k ≡ true → (k.at < k.stop) × ((get_or p k.at (0, 0)).1 ≡ (get_or q k.used (0, 0)).1)
unfolding meeting
meeting_true p q k = go (ltb k.at k.stop) refl
  where
    go : (t : Bool) → ltb k.at k.stop ≡ t → cond t (eqb (get_or p k.at (0, 0)).1 (get_or q k.used (0, 0)).1) false ≡ true
        → (k.at < k.stop) × ((get_or p k.at (0, 0)).1 ≡ (get_or q k.used (0, 0)).1)
    go true e h = (ltb-true _ _ e, eqb-true _ _ h)
    go false e h = absurd (false≢true h)

-- it has not
pub meeting_false : (p q : Polynomial) (k : Place) → meeting p q k ≡ false → k.at < k.stop → (get_or p k.at (0, 0)).1 ≡ (get_or q k.used (0, 0)).1 → ⊥
unfolding meeting
meeting_false p q k h l = eqb-false _ _ (rw (lt-ltb k.at k.stop l) at h)

-- no term of p is next that does not hold v
pub meeting_none : (p q : Polynomial) (k : Place) → k.stop ≤ k.at → meeting p q k ≡ false
unfolding meeting
meeting_none p q k h = rw (le-ltb k.at k.stop h)

-- no new term and none that holds v is left
pub gone_on : (z : Sizes) (k : Place) → going_on z k ≡ false → (z.end ≤ k.at) × (z.made ≤ k.used)
unfolding going_on
gone_on z k = go (ltb k.at z.end) (ltb k.used z.made) refl refl
  where
    go : (b c : Bool) → ltb k.at z.end ≡ b → ltb k.used z.made ≡ c → (b || c) ≡ false → (z.end ≤ k.at) × (z.made ≤ k.used)
    go false false y w e = (ltb-false _ _ y, ltb-false _ _ w)
    go true c y w e = absurd (true≢false e)
    go false true y w e = absurd (true≢false e)

-- where none that holds v is left, a new term is
pub still_going : (z : Sizes) (k : Place) → going_on z k ≡ true → z.end ≤ k.at → k.used < z.made
unfolding going_on
still_going z k = go (ltb k.at z.end) (ltb k.used z.made) refl refl
  where
    go : (b c : Bool) → ltb k.at z.end ≡ b → ltb k.used z.made ≡ c → (b || c) ≡ true → z.end ≤ k.at → k.used < z.made
    go false false y w e h = absurd (false≢true e)
    go true c y w e h = absurd (omega (arith, ltb-true k.at z.end y))
    go false true y w e h = ltb-true _ _ w

module _ (z : Sizes) (p q : Polynomial) (np : length p ≡ z.n) (nq : length q ≡ z.made)
    (fp : Below (2 ^ (64 * z.k)) p) (fq : Below (2 ^ (64 * z.k)) q) where
  -- all sets lie below the bound
  all_under : Under (2 ^ (64 * z.k)) (without z.v p ++ q)
  all_under = under_append (2 ^ (64 * z.k)) (without z.v p) q (under_of (2 ^ (64 * z.k)) (2 ^ (64 * z.k)) (without z.v p) (omega arith) (without_below z.v (2 ^ (64 * z.k)) p fp)) (under_of (2 ^ (64 * z.k)) (2 ^ (64 * z.k)) q (omega arith) fq)

  -- before the first turn
  pub state_begin : (stop : ℕ) → Stop z.v p 0 stop → State z p q (record { at = 0; stop = stop; used = 0; out = 0 }) []
  state_begin stop h = record {
    stop = h;
    used = omega arith;
    counted = refl;
    most = omega arith;
    going = weave_none (2 ^ z.l) (2 ^ (64 * z.k)) (without z.v p) q (without_below z.v (2 ^ (64 * z.k)) p fp) fq;
  }

  module _ (k : Place) (out : Polynomial) (h : State z p q k out) where
    -- a term that holds v is passed over
    pub state_pass : (stop : ℕ) → k.at ≡ k.stop → k.at < z.n → Stop z.v p (k.at + 1) stop
        → State z p q (record { at = k.at + 1; stop = stop; used = k.used; out = k.out }) out
    state_pass stop e l s =
        let held : without z.v (drop k.at p) ≡ without z.v (drop (suc k.at) p) = without_held z.v k.at p (omega arith) (rw e (h.stop.held (omega arith))) in
        record {
          stop = s;
          used = h.used;
          counted = h.counted;
          most = h.most;
          going = rw (add-one k.at, ← held) h.going;
        }

    module _ (cp : Coefficients (2 ^ z.l) p) (to : ℕ) (s : Stretch z p q k to) where
      -- the stretch has as many terms
      run_length : length (take (to - k.at) (drop k.at p)) ≡ to - k.at
      run_length = simp (length-take, length-drop) (omega (arith, s.within, h.stop.high))

      -- the new terms that are left are below them
      below_run : Below (floor (floor (2 ^ (64 * z.k)) out) (take (to - k.at) (drop k.at p))) (drop k.used q)
      below_run = ⊎_elim
          (λ (e : k.used ≡ length q). rw (drop_of_length-le q {i = k.used} (omega arith)) tt)
          (λ (l : k.used < length q).
          let low : Below (floor (2 ^ (64 * z.k)) out) (drop k.used q) = second_low (2 ^ z.l) (2 ^ (64 * z.k)) (without z.v p ++ q) out (without z.v (drop k.at p)) (drop k.used q) h.going in
          let cut : drop k.used q ≡ get_or q k.used (0, 0) ∷ drop (suc k.used) q = drop-cons q k.used (0, 0) l in
          let low' : Below (floor (2 ^ (64 * z.k)) out) (get_or q k.used (0, 0) ∷ drop (suc k.used) q) = rw cut at low in
          rw cut
          (floor_above (floor (2 ^ (64 * z.k)) out) (get_or q k.used (0, 0)).1 (take (to - k.at) (drop k.at p)) (omega (arith, run_length, s.some)) (λ i d. over i l (omega (arith, run_length))), low'.1))
          (eq-or-lt_of_le h.used)
        where
          over : (i : ℕ) → k.used < length q → i < to - k.at → (get_or q k.used (0, 0)).1 < (get_or (take (to - k.at) (drop k.at p)) i (0, 0)).1
          over i l d = rw (get_or-take (to - k.at) (drop k.at p) i (0, 0) d, get_or-drop k.at p i (0, 0)) (s.above (omega arith) (k.at + i) (omega arith) (omega arith))

      -- all of them are written
      after_run : Merging (2 ^ z.l) (2 ^ (64 * z.k)) 2 (without z.v p ++ q) (out ++ take (to - k.at) (drop k.at p)) (two (without z.v (drop to p)) (drop k.used q))
      after_run =
          let e : k.at + (to - k.at) ≡ to = omega (arith, s.some) in
          let f : without z.v (drop k.at p) ≡ take (to - k.at) (drop k.at p) ++ without z.v (drop to p) =
          without_free z.v (to - k.at) k.at p (omega (arith, s.within, h.stop.high)) (λ i a b. h.stop.free i a (omega (arith, s.within))) ∙ rw e in
          weave_stretch (2 ^ z.l) (2 ^ (64 * z.k)) (without z.v p ++ q) out (take (to - k.at) (drop k.at p)) (without z.v (drop to p)) (drop k.used q) (rw f at h.going) (coefficients_take (2 ^ z.l) (to - k.at) (drop k.at p) (coefficients_drop (2 ^ z.l) k.at p cp)) below_run

      -- a stretch, with room
      pub state_stretch : (out' : Polynomial) → out' ≡ out ++ take (to - k.at) (drop k.at p) → k.out + (to - k.at) ≤ z.limit
          → State z p q (record { at = to; stop = k.stop; used = k.used; out = k.out + (to - k.at) }) out'
      state_stretch out' e l = record {
        stop = stop_later z.v p k.at k.stop to h.stop (omega (arith, s.some)) s.within;
        used = h.used;
        counted = rw e (simp length-append (omega (arith, run_length, h.counted)));
        most = l;
        going = rw e after_run;
      }

      -- without
      pub stretch_full : z.limit < k.out + (to - k.at) → z.limit < length (gather (2 ^ z.l) (without z.v p ++ q))
      stretch_full l = room_full (2 ^ z.l) (2 ^ (64 * z.k)) 2 z.limit (without z.v p ++ q) (pow_pos z.l) all_under (out ++ take (to - k.at) (drop k.at p)) (two (without z.v (drop to p)) (drop k.used q)) after_run (simp length-append (omega (arith, run_length, h.counted)))

    module _ (cq : Coefficients (2 ^ z.l) q) (hd : Head z p q k) (o : Option ℕ) (out' : ℕ → Polynomial) (len : (n : ℕ) → length (out' n) ≡ n) where
      -- the new terms that are left
      new_left : drop k.used q ≡ get_or q k.used (0, 0) ∷ drop (suc k.used) q
      new_left = drop-cons q k.used (0, 0) (omega (arith, hd.some))

      -- they fall
      new_low : Below (floor (2 ^ (64 * z.k)) out) (get_or q k.used (0, 0) ∷ drop (suc k.used) q)
      new_low = rw new_left at (second_low (2 ^ z.l) (2 ^ (64 * z.k)) (without z.v p ++ q) out (without z.v (drop k.at p)) (drop k.used q) h.going)

      -- what is left of the others, where the next does not hold v
      old_left : k.at < k.stop → without z.v (drop k.at p) ≡ get_or p k.at (0, 0) ∷ without z.v (drop (suc k.at) p)
      old_left l = without_some z.v k.at p (omega (arith, h.stop.high)) (h.stop.free k.at (omega arith) l)

      -- they fall
      old_low : k.at < k.stop → Below (floor (2 ^ (64 * z.k)) out) (get_or p k.at (0, 0) ∷ without z.v (drop (suc k.at) p))
      old_low l = rw (old_left l) at (first_low (2 ^ z.l) (2 ^ (64 * z.k)) (without z.v p ++ q) out (without z.v (drop k.at p)) (drop k.used q) h.going)

      -- none of them meets the new term: all are below it
      apart : meeting p q k ≡ false → Below (get_or q k.used (0, 0)).1 (without z.v (drop k.at p))
      apart e = ⊎_elim
          (λ (d : k.at ≡ k.stop). rw (without_end z.v k.at p (omega (arith, hd.all d))) tt)
          (λ (d : k.at < k.stop). rw (old_left d) (lower d, (old_low d).1))
          (eq-or-lt_of_le h.stop.low)
        where
          lower : k.at < k.stop → (get_or p k.at (0, 0)).1 < (get_or q k.used (0, 0)).1
          lower d = ⊎_elim (λ (f : (get_or p k.at (0, 0)).1 ≡ (get_or q k.used (0, 0)).1). absurd (meeting_false p q k e d f)) (λ f. f) (eq-or-lt_of_le (hd.under d))

      -- the new term alone
      pub state_new : meeting p q k ≡ false → Grown k.out z.limit (get_or q k.used (0, 0)).0 (get_or q k.used (0, 0)).1 out out' o
          → MatchOption o (z.limit < length (gather (2 ^ z.l) (without z.v p ++ q))) (λ n. State z p q (record { at = k.at; stop = k.stop; used = k.used + 1; out = n }) (out' n))
      state_new e g = state_of o
          (room_more (2 ^ z.l) (2 ^ (64 * z.k)) 2 z.limit (without z.v p ++ q) (pow_pos z.l) all_under out out'
          (two (without z.v (drop k.at p)) (get_or q k.used (0, 0) ∷ drop (suc k.used) q)) (two (without z.v (drop k.at p)) (drop (suc k.used) q))
          k.out (get_or q k.used (0, 0)).0 (get_or q k.used (0, 0)).1 o (rw new_left at h.going) h.counted h.most
          new_low.0 (two_lows (get_or q k.used (0, 0)).1 (without z.v (drop k.at p)) (drop (suc k.used) q) (apart e) new_low.1)
          (head_sums (2 ^ z.l) (without z.v (drop k.at p)) (drop (suc k.used) q) (get_or q k.used (0, 0)))
          (coefficients_at (2 ^ z.l) k.used q cq (omega (arith, hd.some))).1 g)
        where
          state_of : (o : Option ℕ) → Room (2 ^ z.l) (2 ^ (64 * z.k)) 2 z.limit (without z.v p ++ q) out' (two (without z.v (drop k.at p)) (drop (suc k.used) q)) o
              → MatchOption o (z.limit < length (gather (2 ^ z.l) (without z.v p ++ q))) (λ n. State z p q (record { at = k.at; stop = k.stop; used = k.used + 1; out = n }) (out' n))
          state_of None r = r
          state_of (Some n) r = record {
            stop = h.stop;
            used = omega (arith, hd.some);
            counted = len n;
            most = r.0;
            going = rw (add-one k.used) r.1;
          }

      -- both, where they meet
      pub state_both : meeting p q k ≡ true → Grown k.out z.limit (((get_or q k.used (0, 0)).0 + (get_or p k.at (0, 0)).0) % 2 ^ z.l) (get_or q k.used (0, 0)).1 out out' o
          → MatchOption o (z.limit < length (gather (2 ^ z.l) (without z.v p ++ q))) (λ n. State z p q (record { at = k.at + 1; stop = k.stop; used = k.used + 1; out = n }) (out' n))
      state_both e g =
          let l : k.at < k.stop = (meeting_true p q k e).0 in
          let s : (get_or p k.at (0, 0)).1 ≡ (get_or q k.used (0, 0)).1 = (meeting_true p q k e).1 in
          state_of l o
          (room_more (2 ^ z.l) (2 ^ (64 * z.k)) 2 z.limit (without z.v p ++ q) (pow_pos z.l) all_under out out'
          (two (get_or p k.at (0, 0) ∷ without z.v (drop (suc k.at) p)) (get_or q k.used (0, 0) ∷ drop (suc k.used) q)) (two (without z.v (drop (suc k.at) p)) (drop (suc k.used) q))
          k.out (((get_or q k.used (0, 0)).0 + (get_or p k.at (0, 0)).0) % 2 ^ z.l) (get_or q k.used (0, 0)).1 o (rw (new_left, old_left l) at h.going) h.counted h.most
          new_low.0 (two_lows (get_or q k.used (0, 0)).1 (without z.v (drop (suc k.at) p)) (drop (suc k.used) q) (rw s at (old_low l).1) new_low.1)
          (heads_sums (2 ^ z.l) (without z.v (drop (suc k.at) p)) (drop (suc k.used) q) (get_or p k.at (0, 0)) (get_or q k.used (0, 0)) s)
          (mod-lt _ (pow_pos z.l)) g)
        where
          state_of : k.at < k.stop → (o : Option ℕ) → Room (2 ^ z.l) (2 ^ (64 * z.k)) 2 z.limit (without z.v p ++ q) out' (two (without z.v (drop (suc k.at) p)) (drop (suc k.used) q)) o
              → MatchOption o (z.limit < length (gather (2 ^ z.l) (without z.v p ++ q))) (λ n. State z p q (record { at = k.at + 1; stop = k.stop; used = k.used + 1; out = n }) (out' n))
          state_of l None r = r
          state_of l (Some n) r = record {
            stop = stop_later z.v p k.at k.stop (k.at + 1) h.stop (omega arith) (omega arith);
            used = omega (arith, hd.some);
            counted = len n;
            most = r.0;
            going = rw (add-one k.at, add-one k.used) r.1;
          }

  -- no new term and none that holds v is left: what is written, and behind it the terms of p that are left, are both lists gathered
  pub state_end : (k : Place) (out : Polynomial) → State z p q k out → Free z.v p z.end (length p) → Coefficients (2 ^ z.l) p
      → (z.end ≤ k.at) × (z.made ≤ k.used) → (k.at ≤ length p) × (out ++ drop k.at p ≡ gather (2 ^ z.l) (without z.v p ++ q))
  state_end k out h f c g = (
    within,
    weave_rest (2 ^ z.l) (2 ^ (64 * z.k)) (without z.v p ++ q) out (drop k.at p) (pow_pos z.l) all_under
        (rw (without_rest z.v k.at p within (λ i x y. f i (omega (arith, g.0)) y), drop_of_length-le q {i = k.used} (omega (arith, g.1))) at h.going)
        (coefficients_drop (2 ^ z.l) k.at p c),
  )
    where
      within : k.at ≤ length p
      within = omega (arith, h.stop.low, h.stop.high)
