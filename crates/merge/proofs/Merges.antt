-- A turn of the merge.
use Rattle.std.proofs.Common.{◌≡◌, ℕ, suc, ◌+◌, ◌-◌, ◌*◌, ◌%◌, ◌^◌, ◌<◌, ◌≤◌, List, [], ◌++◌, Option, None, Some, MatchOption, length, get_or, refl, ap, sym, ◌∙◌, append-nil, zero-add, pow_pos, arith}
use mathlib.Core.Logic.{⊎_elim}
use native.Mathlib.Nat.{eq-or-lt_of_le}
use Rattle.rules.specs.Each.{sum, joined}
use Rattle.rules.specs.Polynomial.{Polynomial, coefficient_at, Below, Under, gather}
use Rattle.rules.proofs.Indices.{sum_same}
use Rattle.rules.proofs.Terms.{weaken, coefficient_joined}
use Rattle.words.specs.Numbers.{num}
use Rattle.words.specs.Stored.{decoded}
use Rattle.words.proofs.Numbers.{length_masked}
use Rattle.words.proofs.Stored.{length_decoded, stride_le}
use Rattle.weave.specs.Merging.{Lows, floor, Merging}
use Rattle.weave.specs.Written.{Emitted, Behind, Gathered}
use Rattle.weave.proofs.Fronts.{under_joined, sum_less, merge_front, joined_none}
use Rattle.weave.proofs.Growing.{Grown, grown, behind_more, Room, room_more}
use Rattle.merge.specs.Streams.{streams}
use Rattle.merge.specs.Heads.{count, modulus, set_in, words_in, whole, rest, all, Next, Loaded, rank, Swept}
use Rattle.merge.specs.declared.streams.Streams.{Streams}
use Rattle.merge.proofs.Flow.{stream_some, stream_end, stream_pass, rank_end, rank_live, term_in, mask_in}

-- no term, no coefficient
no_coefficient : (u n : ℕ) → coefficient_at [] u + n ≡ n
unfolding coefficient_at
no_coefficient u n = zero-add n

-- nothing to gather
no_gather : (m : ℕ) (out : Polynomial) → out ++ gather m [] ≡ out
unfolding gather
no_gather m out = append-nil out

-- all sets are below this
abbrev pub top : Streams → ℕ
top s = 2 ^ (64 * s.weighted.terms.width)

-- the state between turns: o terms are written to scratch
pub record Going (s : Streams) (limit : ℕ) (scratch₀ scratch at : List ℕ) (o : ℕ) : Type 0 where
  pub most : o ≤ limit
  pub loaded : (i : ℕ) → i < count s → Loaded s at i
  pub merging : Merging (modulus s) (top s) (count s) (all s) (decoded s.weighted.terms.width o scratch) (rest s at)
  pub behind : Behind s.weighted.terms.width limit (Some o) scratch₀ scratch

module _ (s : Streams) (fall : Lows (top s) (count s) (whole s)) where
  -- what is left of a stream lies below its rank
  pub rest_rank : (at : List ℕ) (i b : ℕ) → Loaded s at i → Below b (rest s at i) → Below (rank s at i) (rest s at i)
  rest_rank at i b ld h = ⊎_elim
      (λ (e : get_or at i 0 ≡ s.weighted.terms.count). rw (stream_end s i (get_or at i 0) (omega arith)) tt)
      (λ (l : get_or at i 0 < s.weighted.terms.count).
      let x = stream_some s i (get_or at i 0) l (ld.1 l) in
      rw (rank_live s i at l, x) (omega arith, (rw x at h).1))
      (eq-or-lt_of_le ld.0)

  -- a live head's set is below whatever its stream is below
  pub head_low : (at : List ℕ) (i b set : ℕ) → Loaded s at i → rank s at i ≡ suc set → Below b (rest s at i) → set < b
  head_low at i b set ld e h = ⊎_elim
      (λ (q : get_or at i 0 ≡ s.weighted.terms.count). absurd (omega (arith, rank_end s i at (omega arith))))
      (λ (l : get_or at i 0 < s.weighted.terms.count).
      let x = stream_some s i (get_or at i 0) l (ld.1 l) in
      let y : set_in s (get_or at i 0) i < b = (rw x at h).0 in
      omega (arith, rank_live s i at l))
      (eq-or-lt_of_le ld.0)

  -- all streams lie below the bound
  under : Under (top s) (all s)
  unfolding streams
  under = under_joined (top s) (count s) (whole s) fall

  -- before the first turn
  pub go_start : (limit : ℕ) (scratch at : List ℕ) → ((j : ℕ) → j < count s → Next s.weighted j 0 (get_or at j 0)) → Going s limit scratch scratch at 0
  unfolding streams floor decoded
  go_start limit scratch at h =
      let same : (j : ℕ) → j < count s → whole s j ≡ rest s at j = λ j l. stream_pass s j 0 (get_or at j 0) (h j l) in
      record {
        most = omega arith;
        loaded = λ i l. ((h i l).high, (h i l).some);
        merging = record {
          falls = tt;
          coefs = tt;
          lows = λ j l. rw (← same j l) (fall j l);
          sums = λ u. ap (λ (x : ℕ). x % modulus s) (no_coefficient u _ ∙ sum_same (count s) (λ j. coefficient_at (rest s at j) u) (λ j. coefficient_at (whole s j) u) (λ j l. ap (λ (q : Polynomial). coefficient_at q u) (sym (same j l))) ∙ sym (coefficient_joined (count s) (whole s) u));
        };
        behind = refl;
      }

  -- a turn: stream b has the largest set at its head
  module _ (limit o b : ℕ) (scratch₀ scratch at : List ℕ) (h : Going s limit scratch₀ scratch at o) (best : (i : ℕ) → i < count s → rank s at i ≤ rank s at b) (lb : b < count s) where
    -- every stream is at its end: what is written is the result
    pub go_end : s.weighted.terms.count ≤ get_or at b 0 → Gathered s.weighted.terms.width limit (gather (modulus s) (all s)) (Some o) scratch
    go_end e =
        let out = decoded s.weighted.terms.width o scratch in
        let z : rank s at b ≡ 0 = rank_end s b at e in
        let f = merge_front (modulus s) (top s) (count s) (all s) (pow_pos s.weighted.gate.l) under out (rest s at) h.merging in
        let q : joined (count s) (rest s at) ≡ [] = joined_none (count s) (rest s at) (λ i d. weaken (rank s at i) 0 (rest s at i) (omega (arith, best i d)) (rest_rank at i (floor (top s) out) (h.loaded i d) (h.merging.lows i d))) in
        (h.most, sym (f ∙ ap (λ (x : Polynomial). out ++ gather (modulus s) x) q ∙ no_gather (modulus s) out))

    module _ (live : get_or at b 0 < s.weighted.terms.count) where
      -- the set of the turn
      abbrev set : ℕ
      set = set_in s (get_or at b 0) b

      -- no stream has a larger one
      pub turn_high : (i : ℕ) → i < count s → Below (suc set) (rest s at i)
      turn_high i d =
          weaken (rank s at i) (suc set) (rest s at i) (omega (arith, best i d, rank_live s b at live)) (rest_rank at i (floor (top s) (decoded s.weighted.terms.width o scratch)) (h.loaded i d) (h.merging.lows i d))

      module _ (c : ℕ) (r : Option ℕ) (scratch' at' : List ℕ) (room : limit * (s.weighted.terms.width + 1) ≤ length scratch) (sw : Swept s set at at' c)
          (em : Emitted s.weighted.terms.width o limit c (words_in s (get_or at b 0) b) scratch scratch' r × (0 < c → o < limit → num (words_in s (get_or at b 0) b) ≡ set)) where
        -- its words are w words
        words_length : length (words_in s (get_or at b 0) b) ≡ s.weighted.terms.width
        words_length =
            length_masked s.weighted.terms.words.now s.masks.now (get_or at b 0 * (s.weighted.terms.width + 1) + 1) (b * s.weighted.terms.width) s.weighted.terms.width (omega (arith, term_in s (get_or at b 0) b live lb)) (mask_in s (get_or at b 0) b live lb)

        -- what is written lies inside
        written : o * (s.weighted.terms.width + 1) ≤ length scratch
        written = stride_le o limit s.weighted.terms.width (length scratch) h.most room

        -- the set is below all that was written before
        low : set < floor (top s) (decoded s.weighted.terms.width o scratch)
        low = head_low at b (floor (top s) (decoded s.weighted.terms.width o scratch)) set (h.loaded b lb) (rank_live s b at live) (h.merging.lows b lb)

        -- what the turn wrote, as terms
        terms : Grown o limit c set (decoded s.weighted.terms.width o scratch) (λ n. decoded s.weighted.terms.width n scratch') r
        terms =
            let t = grown s.weighted.terms.width o limit c (words_in s (get_or at b 0) b) scratch scratch' r written words_length em.0 in
            record { skip = t.skip; full = t.full; put = λ some room. rw (em.1 some room) at (t.put some room) }

        -- what is written and what is left after the turn, or there is no room
        after : Room (modulus s) (top s) (count s) limit (all s) (λ n. decoded s.weighted.terms.width n scratch') (rest s at') r
        after =
            room_more (modulus s) (top s) (count s) limit (all s) (pow_pos s.weighted.gate.l) under (decoded s.weighted.terms.width o scratch) (λ n. decoded s.weighted.terms.width n scratch') (rest s at) (rest s at') o c set r h.merging (length_decoded s.weighted.terms.width o scratch) h.most low sw.lows sw.sums sw.small terms

        -- no word behind it has changed
        behind : Behind s.weighted.terms.width limit r scratch₀ scratch'
        behind = behind_more s.weighted.terms.width o limit c (words_in s (get_or at b 0) b) scratch₀ scratch scratch' r h.most written words_length h.behind em.0

        -- so the state after the turn, or the end without room
        pub turned : MatchOption r (Gathered s.weighted.terms.width limit (gather (modulus s) (all s)) None scratch' × Behind s.weighted.terms.width limit None scratch₀ scratch') (Going s limit scratch₀ scratch' at')
        turned = go r after behind
          where
            go : (r : Option ℕ) → Room (modulus s) (top s) (count s) limit (all s) (λ n. decoded s.weighted.terms.width n scratch') (rest s at') r → Behind s.weighted.terms.width limit r scratch₀ scratch'
                → MatchOption r (Gathered s.weighted.terms.width limit (gather (modulus s) (all s)) None scratch' × Behind s.weighted.terms.width limit None scratch₀ scratch') (Going s limit scratch₀ scratch' at')
            go None a b = (a, b)
            go (Some o') a b = record { most = a.0; loaded = sw.loaded; merging = a.1; behind = b }

        -- less is left
        pub turn_less : sum (count s) (λ i. s.weighted.terms.count - get_or at' i 0) < sum (count s) (λ i. s.weighted.terms.count - get_or at i 0)
        turn_less = sum_less (count s) b (λ i. s.weighted.terms.count - get_or at i 0) (λ i. s.weighted.terms.count - get_or at' i 0) (λ i q. omega (arith, sw.grows i q)) lb (omega (arith, sw.moved b lb (rank_live s b at live), (h.loaded b lb).0))
