-- Each case of a turn, in words.
use mathlib.Core.Path.{◌≡◌, refl, ap, sym, ◌∙◌}
use mathlib.Core.Bool.{true, false}
use mathlib.Core.List.{List, ◌++◌, append_assoc}
use Prim.Native.Nat.{ℕ, ◌+◌, ◌-◌, ◌*◌, ◌%◌, ◌^◌, ◌<◌, ◌≤◌}
use native.Mathlib.Nat.{add-mul, mul-le-mul_left}
use native.Mathlib.Omega.{arith}
use lib.Dec.{eqb}
use lib.ListN.{length, get_or, take, drop, length-append, length-take, length-drop}
use lib.Seq.{drop-drop, drop_at, get_or-drop, length-take-le}
use borrow.Author.Tests.{lt-ltb}
use Rattle.std.proofs.Common.{Option, None, Some, MatchOption, IfSome, option_map}
use Rattle.rules.specs.Polynomial.{Term, Polynomial, gather}
use Rattle.words.specs.Numbers.{num, words_at}
use Rattle.words.specs.Stored.{term_at, decoded}
use Rattle.words.specs.Listed.{coefficient_of}
use Rattle.words.specs.declared.listed.Terms.{Terms}
use Rattle.words.proofs.Numbers.{length_words_at}
use Rattle.words.proofs.Stored.{length_decoded, decoded_at, decoded_set, decoded_stretch, stride_in, stride_le}
use Rattle.weave.specs.Seeking.{Stop, Sought}
use Rattle.weave.specs.Weaving.{old_terms, new_terms, Task, State, Midway, Head, Stretch, Onward, Full, Turned, meeting, without}
use Rattle.weave.specs.Written.{Emitted, Behind}
use Rattle.weave.specs.declared.weaving.Place.{Place}
use Rattle.weave.specs.declared.weaving.Sizes.{Sizes}
use Rattle.weave.proofs.Growing.{Grown, grown, grown_le, behind_more}
use Rattle.weave.proofs.Places.{set_below}
use Rattle.weave.proofs.States.{meeting_true, state_pass, state_stretch, stretch_full, state_new, state_both}

-- a stretch copied behind o terms changes no word behind them all
pub behind_stretch : (w limit o d : ℕ) (run target target' : List ℕ) → (o + d) * (w + 1) ≤ length target → length run ≡ d * (w + 1)
    → target' ≡ take (o * (w + 1)) target ++ (run ++ drop (o * (w + 1) + d * (w + 1)) target) → Behind w limit (Some (o + d)) target target'
behind_stretch w limit o d run target target' h l e =
    let a : (o + d) * (w + 1) ≡ o * (w + 1) + d * (w + 1) = add-mul o d (w + 1) in
    rw (e, a, ← append_assoc (take (o * (w + 1)) target) run (drop (o * (w + 1) + d * (w + 1)) target)) (drop_at (take (o * (w + 1)) target ++ run) (drop (o * (w + 1) + d * (w + 1)) target) (o * (w + 1) + d * (w + 1)) (simp length-append (omega (arith, length-take-le (o * (w + 1)) target (omega arith)))))

-- a new term, from its words
pub new_at : (z : Sizes) (scratch : List ℕ) (u : ℕ) → u < z.made → get_or (new_terms z scratch) u (0, 0) ≡ term_at z.w scratch ((z.limit + u) * (z.w + 1))
new_at z scratch u l =
    let e : z.limit * (z.w + 1) + u * (z.w + 1) ≡ (z.limit + u) * (z.w + 1) = sym (add-mul z.limit u (z.w + 1)) in
    let f : z.limit * (z.w + 1) + (u * (z.w + 1) + 1) ≡ (z.limit + u) * (z.w + 1) + 1 = omega arith in
    decoded_at z.w z.made u (drop (z.limit * (z.w + 1)) scratch) l
    ∙ rw (get_or-drop (z.limit * (z.w + 1)) scratch (u * (z.w + 1)) 0, drop-drop (u * (z.w + 1) + 1) (z.limit * (z.w + 1)) scratch, e, f)

module _ (z : Sizes) (store scratch : List ℕ) (t : Task z store scratch) where
  -- the words of a term of the store lie inside
  pub old_room : (i : ℕ) → i < z.n → i * (z.w + 1) + (z.w + 1) ≤ length store
  old_room i l = stride_in i z.n z.w (length store) l t.room

  -- so do those of a new one
  pub new_room : (u : ℕ) → u < z.made → (z.limit + u) * (z.w + 1) + (z.w + 1) ≤ length scratch
  new_room u l = stride_in (z.limit + u) (z.limit + z.made) z.w (length scratch) (omega arith) t.scratch_room

  -- so they are counted without a wrap
  pub new_count : (u : ℕ) → u < z.made → z.limit + u + 1 ≤ length scratch
  new_count u l =
      let one : 1 ≤ z.w + 1 = omega arith in
      omega (arith, new_room u l, mul-le-mul_left (z.limit + u) one)

  -- and those of the terms written
  pub out_room : (o : ℕ) → o ≤ z.limit → o * (z.w + 1) ≤ length scratch
  out_room o l = stride_le o (z.limit + z.made) z.w (length scratch) (omega arith) t.scratch_room

  -- its coefficient
  pub new_coefficient : (u : ℕ) → u < z.made → (get_or (new_terms z scratch) u (0, 0)).0 ≡ get_or scratch ((z.limit + u) * (z.w + 1)) 0
  new_coefficient u l = ap (λ (x : Term). x.0) (new_at z scratch u l)

  -- its set
  pub new_set : (u : ℕ) → u < z.made → (get_or (new_terms z scratch) u (0, 0)).1 ≡ num (words_at scratch ((z.limit + u) * (z.w + 1) + 1) z.w)
  new_set u l = ap (λ (x : Term). x.1) (new_at z scratch u l)

  -- it uses k words
  pub new_low : (u : ℕ) → u < z.made → num (words_at scratch ((z.limit + u) * (z.w + 1) + 1) z.w) < 2 ^ (64 * z.k)
  new_low u l = rw (new_set u l) at (set_below (2 ^ (64 * z.k)) (new_terms z scratch) u t.new_falls (omega (arith, length_decoded z.w z.made (drop (z.limit * (z.w + 1)) scratch))))

  -- the coefficient of a term of the store
  pub old_coefficient : (old : Terms) → old.words.now ≡ store → old.count ≡ z.n → old.width ≡ z.w → (i : ℕ) → coefficient_of old i ≡ (get_or (old_terms z store) i (0, 0)).0
  old_coefficient old s n w i =
      let same : decoded old.width old.count old.words.now ≡ old_terms z store = rw (s, n, w) in
      ap (λ (p : Polynomial). (get_or p i (0, 0)).0) same

  -- its set uses k words, too
  pub old_low : (i : ℕ) → i < z.n → num (words_at store (i * (z.w + 1) + 1) z.w) < 2 ^ (64 * z.k)
  old_low i l = rw (decoded_set z.w z.n i store l) at (set_below (2 ^ (64 * z.k)) (old_terms z store) i t.falls (omega (arith, length_decoded z.w z.n store)))

  -- whether the two next terms meet, by their words
  module _ (k : Place) (l : k.at < k.stop) (h : k.stop ≤ z.n) (u : k.used < z.made) where
    pub meeting_words : meeting (old_terms z store) (new_terms z scratch) k ≡ eqb (num (words_at store (k.at * (z.w + 1) + 1) z.w)) (num (words_at scratch ((z.limit + k.used) * (z.w + 1) + 1) z.w))
    unfolding meeting
    meeting_words = rw (lt-ltb k.at k.stop l, decoded_set z.w z.n k.at store (omega arith), new_set k.used u)

  -- what the search up to the next new term asks
  pub sought : (k : Place) → k.at ≤ k.stop → k.stop ≤ z.n → k.used < z.made → (old : Terms) → old.words.now ≡ store → old.count ≡ z.n → old.width ≡ z.w
      → Sought old z.k k.at k.stop scratch ((z.limit + k.used) * (z.w + 1) + 1)
  sought k a b u old s n w = record {
    some = omega (arith, t.v_in);
    short = rw w t.short;
    ordered = a;
    within = rw n b;
    falls = rw (s, n, w) t.falls;
    there = rw w (omega (arith, new_room k.used u));
    low = rw w (new_low k.used u);
  }

-- the terms written and a stretch are counted without a wrap
pub stretch_sum : (z : Sizes) (store scratch : List ℕ) (k : Place) → Midway z store scratch k → (to : ℕ) → Stretch z (old_terms z store) (new_terms z scratch) k to
    → (2 * k.out ≤ length scratch) × (2 * to ≤ length store)
stretch_sum z store scratch k m to s =
    let one : 2 ≤ z.w + 1 = omega (arith, m.task.v_in) in
    let a : k.out * 2 ≤ k.out * (z.w + 1) = mul-le-mul_left k.out one in
    let b : to * 2 ≤ to * (z.w + 1) = mul-le-mul_left to one in
    let n : to ≤ z.n = omega (arith, s.within, m.state.stop.high, length_decoded z.w z.n store) in
    (omega (arith, out_room z store scratch m.task k.out m.state.most), omega (arith, stride_le to z.n z.w (length store) n m.task.room))

module _ (z : Sizes) (store scratch scratch' : List ℕ) (k : Place) (m : Midway z store scratch k) where
  -- the next one that holds v is among the store's terms, or their end
  pub stop_in : k.stop ≤ z.n
  stop_in = omega (arith, m.state.stop.high, length_decoded z.w z.n store)

  -- a term that meets the new one is one of them
  pub met_in : meeting (old_terms z store) (new_terms z scratch) k ≡ true → k.at < z.n
  met_in e = omega (arith, (meeting_true (old_terms z store) (new_terms z scratch) k e).0, stop_in)

  -- a term that holds v is passed over
  pub turned_pass : (stop : ℕ) → k.at ≡ k.stop → k.at < z.n → Stop z.v (old_terms z store) (k.at + 1) stop
      → Onward z store scratch k (record { at = k.at + 1; stop = stop; used = k.used; out = k.out }) scratch
  turned_pass stop e l s = record {
    state = state_pass z (old_terms z store) (new_terms z scratch) (length_decoded z.w z.n store) (length_decoded z.w z.made (drop (z.limit * (z.w + 1)) scratch)) m.task.falls m.task.new_falls k (decoded z.w k.out scratch) m.state stop e l s;
    behind = refl;
    grows = omega arith;
    fewer = omega arith;
  }

  module _ (to : ℕ) (s : Stretch z (old_terms z store) (new_terms z scratch) k to) where
    -- the stretch lies among the store's terms
    pub stretch_in : to ≤ z.n
    stretch_in = omega (arith, s.within, m.state.stop.high, length_decoded z.w z.n store)

    -- its words lie inside
    pub stretch_words : k.at * (z.w + 1) + (to - k.at) * (z.w + 1) ≤ length store
    stretch_words =
        let e : k.at + (to - k.at) ≡ to = omega (arith, s.some) in
        let f : (k.at + (to - k.at)) * (z.w + 1) ≤ length store = rw e (stride_le to z.n z.w (length store) stretch_in m.task.room) in
        rw (add-mul k.at (to - k.at) (z.w + 1)) at f

    -- and those that it is copied to
    pub stretch_room : k.out + (to - k.at) ≤ z.limit → k.out * (z.w + 1) + (to - k.at) * (z.w + 1) ≤ length scratch
    stretch_room l = rw (add-mul k.out (to - k.at) (z.w + 1)) at (out_room z store scratch m.task (k.out + (to - k.at)) l)

    -- the stretch is copied
    pub turned_stretch : k.out + (to - k.at) ≤ z.limit
        → scratch' ≡ take (k.out * (z.w + 1)) scratch ++ (take ((to - k.at) * (z.w + 1)) (drop (k.at * (z.w + 1)) store) ++ drop (k.out * (z.w + 1) + (to - k.at) * (z.w + 1)) scratch)
        → Onward z store scratch k (record { at = to; stop = k.stop; used = k.used; out = k.out + (to - k.at) }) scratch'
    turned_stretch l e =
        let a : k.at + (to - k.at) ≤ z.n = omega (arith, s.some, stretch_in) in
        let run : length (take ((to - k.at) * (z.w + 1)) (drop (k.at * (z.w + 1)) store)) ≡ (to - k.at) * (z.w + 1) = simp (length-take, length-drop) (omega (arith, stretch_words)) in
        record {
          state = state_stretch z (old_terms z store) (new_terms z scratch) (length_decoded z.w z.n store) (length_decoded z.w z.made (drop (z.limit * (z.w + 1)) scratch)) m.task.falls m.task.new_falls k (decoded z.w k.out scratch) m.state m.task.coefficients to s (decoded z.w (k.out + (to - k.at)) scratch')
              (decoded_stretch z.w k.out z.n k.at (to - k.at) store scratch scratch' (out_room z store scratch m.task k.out m.state.most) a m.task.room e) l;
          behind = behind_stretch z.w z.limit k.out (to - k.at) (take ((to - k.at) * (z.w + 1)) (drop (k.at * (z.w + 1)) store)) scratch scratch' (out_room z store scratch m.task (k.out + (to - k.at)) l) run e;
          grows = omega arith;
          fewer = omega (arith, s.some, stretch_in);
        }

    -- there is no room for it
    pub turned_full : z.limit < k.out + (to - k.at) → Full z store scratch scratch
    turned_full l = record {
      full = stretch_full z (old_terms z store) (new_terms z scratch) (length_decoded z.w z.n store) (length_decoded z.w z.made (drop (z.limit * (z.w + 1)) scratch)) m.task.falls m.task.new_falls k (decoded z.w k.out scratch) m.state m.task.coefficients to s l;
      behind = refl;
    }

  module _ (hd : Head z (old_terms z store) (new_terms z scratch) k) (o : Option ℕ) (c : ℕ)
      (em : Emitted z.w k.out z.limit c (words_at scratch ((z.limit + k.used) * (z.w + 1) + 1) z.w) scratch scratch' o) where
    -- the words of the new set
    set_length : length (words_at scratch ((z.limit + k.used) * (z.w + 1) + 1) z.w) ≡ z.w
    set_length = length_words_at scratch ((z.limit + k.used) * (z.w + 1) + 1) z.w (omega (arith, new_room z store scratch m.task k.used hd.some))

    -- what was written, as terms
    terms : Grown k.out z.limit c (get_or (new_terms z scratch) k.used (0, 0)).1 (decoded z.w k.out scratch) (λ n. decoded z.w n scratch') o
    terms = rw (new_set z store scratch m.task k.used hd.some)
        (grown z.w k.out z.limit c (words_at scratch ((z.limit + k.used) * (z.w + 1) + 1) z.w) scratch scratch' o (out_room z store scratch m.task k.out m.state.most) set_length em)

    -- no word behind it has changed
    kept : Behind z.w z.limit o scratch scratch'
    kept = behind_more z.w k.out z.limit c (words_at scratch ((z.limit + k.used) * (z.w + 1) + 1) z.w) scratch scratch scratch' o m.state.most (out_room z store scratch m.task k.out m.state.most) set_length refl em

    -- the terms do not get fewer
    more : IfSome o (λ n. k.out ≤ n)
    more = grown_le k.out z.limit c (get_or (new_terms z scratch) k.used (0, 0)).1 (decoded z.w k.out scratch) (λ n. decoded z.w n scratch') o m.state.most terms

    -- what a new term leaves
    onward : (at : ℕ) → k.at ≤ at → (o : Option ℕ) → Behind z.w z.limit o scratch scratch' → IfSome o (λ n. k.out ≤ n)
        → MatchOption o (z.limit < length (gather (2 ^ z.l) (without z.v (old_terms z store) ++ new_terms z scratch))) (λ n. State z (old_terms z store) (new_terms z scratch) (record { at = at; stop = k.stop; used = k.used + 1; out = n }) (decoded z.w n scratch'))
        → Turned z store scratch k (option_map (λ n. record { at = at; stop = k.stop; used = k.used + 1; out = n }) o) scratch'
    onward at l None b g s = record { full = s; behind = b }
    onward at l (Some n) b g s = record { state = s; behind = b; grows = g; fewer = omega (arith, hd.some) }

    -- the new term alone is taken
    pub turned_new : meeting (old_terms z store) (new_terms z scratch) k ≡ false → c ≡ get_or scratch ((z.limit + k.used) * (z.w + 1)) 0
        → Turned z store scratch k (option_map (λ n. record { at = k.at; stop = k.stop; used = k.used + 1; out = n }) o) scratch'
    turned_new e f = onward k.at (omega arith) o kept more
        (state_new z (old_terms z store) (new_terms z scratch) (length_decoded z.w z.n store) (length_decoded z.w z.made (drop (z.limit * (z.w + 1)) scratch)) m.task.falls m.task.new_falls k (decoded z.w k.out scratch) m.state m.task.new_coefficients hd o (λ n. decoded z.w n scratch') (λ n. length_decoded z.w n scratch') e
        (rw (new_coefficient z store scratch m.task k.used hd.some, ← f) terms))

    -- it is taken with the store's next
    pub turned_both : meeting (old_terms z store) (new_terms z scratch) k ≡ true → c ≡ (get_or scratch ((z.limit + k.used) * (z.w + 1)) 0 + (get_or (old_terms z store) k.at (0, 0)).0) % 2 ^ z.l
        → Turned z store scratch k (option_map (λ n. record { at = k.at + 1; stop = k.stop; used = k.used + 1; out = n }) o) scratch'
    turned_both e f = onward (k.at + 1) (omega arith) o kept more
        (state_both z (old_terms z store) (new_terms z scratch) (length_decoded z.w z.n store) (length_decoded z.w z.made (drop (z.limit * (z.w + 1)) scratch)) m.task.falls m.task.new_falls k (decoded z.w k.out scratch) m.state m.task.new_coefficients hd o (λ n. decoded z.w n scratch') (λ n. length_decoded z.w n scratch') e
        (rw (new_coefficient z store scratch m.task k.used hd.some, ← f) terms))
