-- All new terms put into the store: the last stretch, and a turn for each new term.
use mathlib.Core.Path.{◌≡◌, refl, ap, sym, ◌∙◌}
use mathlib.Core.Bool.{Bool, true, false, not, cond}
use Rattle.std.specs.Int.{from_bool}
use mathlib.Core.List.{List, [], ◌∷◌, ◌++◌, append_assoc}
use Prim.Native.Nat.{ℕ, zero, suc, ◌+◌, ◌-◌, ◌*◌, ◌^◌, ◌<◌, ◌≤◌}
use native.Mathlib.Nat.{one-mul, zero-mul, add-mul, mul-le-mul_left, mul-le-mul_right}
use native.Mathlib.Numerals.{add-one}
use native.Mathlib.Omega.{arith}
use lib.Dec.{ltb, eqb}
use lib.ListN.{length, get_or, take, drop, length-drop, drop_of_length-le}
use lib.Pow.{pow_pos}
use lib.Seq.{drop-cons, drop-drop, length-take-le, take_all}
use borrow.Author.Tests.{ne_eqb, lt-ltb, le-ltb}
use Rattle.rules.specs.Occurrences.{counts_at, present, occurring}
use Rattle.rules.specs.Polynomial.{Polynomial, Below, Coefficients, keep, gather}
use Rattle.rules.proofs.Gathered.{under_of}
use Rattle.rules.proofs.Occurring.{present_most, occurring_append, occurring_keep}
use Rattle.rules.proofs.Terms.{weaken}
use Rattle.rules.specs.Values.{bit}
use Rattle.tally.specs.Marks.{Numbered, Moved, counts_if}
use Rattle.tally.proofs.Moving.{moved_add, moved_same}
use Rattle.words.specs.declared.listed.Terms.{Terms}
use Rattle.words.specs.Numbers.{num, words_at}
use Rattle.words.specs.Stored.{decoded}
use Rattle.words.proofs.Numbers.{num_short, length_words_at}
use Rattle.words.proofs.Stored.{length_decoded, decoded_drop, decoded_take, stride_in, stride_le}
use Rattle.weave.specs.Weaving.{new_terms}
use Rattle.weave.specs.declared.weaving.Sizes.{Sizes}
use Rattle.weave.proofs.Falling.{below_drop, coefficients_drop}
use Rattle.weave.proofs.Fronts.{under_append}
use Rattle.weave.proofs.Turns.{new_at}
use Rattle.weave.proofs.Woven.{weave_none, weave_rest}
use Rattle.words.specs.Stretches.{moved}
use Rattle.splice.specs.Splicing.{Spotting, Spotted, Splicing, Spliced, terms_left, spliced}
use Rattle.splice.specs.declared.spots.Spot.{Spot}
use Rattle.splice.proofs.Written.{Only, only_written, moved_terms, decoded_parts}
use Rattle.splice.proofs.Moves.{rest_stays, stretch_there, rest_there, front_stays, behind_stays, put_only, put_there}
use Rattle.splice.proofs.Parting.{Parted, spot_parts}

-- a falling list is gathered
gathered : (m hi : ℕ) (p : Polynomial) → 0 < m → Below hi p → Coefficients m p → gather m (p ++ []) ≡ p
gathered m hi p hm f c = sym (weave_rest m hi (p ++ []) [] p hm (under_append hi p [] (under_of hi hi p (omega arith) f) tt) (weave_none m hi p [] f tt) c)

-- a term that is there counts once, and none that is not
counts_of : (come : Bool) (c s u : ℕ) → from_bool come ≡ present c → counts_if come s u ≡ present c * counts_at s u
unfolding counts_if
counts_of true c s u e = rw (← e, one-mul) refl
counts_of false c s u e = rw (← e, zero-mul) refl

-- words that are m if a is below b, else n
pub if_below : (a b : ℕ) (s m n : List ℕ) → a < b → s ≡ m → s ≡ cond (ltb a b) m n
if_below a b s m n l e = rw (lt-ltb a b l) e

pub if_not_below : (a b : ℕ) (s m n : List ℕ) → b ≤ a → s ≡ n → s ≡ cond (ltb a b) m n
if_not_below a b s m n l e = rw (le-ltb a b l) e

-- a coefficient that is not 0 is there
pub there : (c : ℕ) → from_bool (not (eqb c 0)) ≡ present c
unfolding present
there zero = refl
there (suc c) = ap (λ (t : Bool). from_bool (not t)) (ne_eqb (suc c) 0 (λ e. omega arith))

module _ (z : Sizes) (store scratch : List ℕ) {lent : ℕ} (first used to : ℕ) (h : Splicing z store scratch lent first used to) where
  -- how many terms are left
  left_length : length (terms_left z store first) ≡ z.n - first
  left_length = length_decoded z.w (z.n - first) (drop (first * (z.w + 1)) store)

  -- how many new ones there are
  new_length : length (new_terms z scratch) ≡ z.made
  new_length = length_decoded z.w z.made (drop (z.limit * (z.w + 1)) scratch)

  -- the words of the terms left
  left_words : first * (z.w + 1) + (z.n - first) * (z.w + 1) ≡ z.n * (z.w + 1)
  left_words =
      let q : first + (z.n - first) ≡ z.n = omega (arith, h.first_in) in
      sym (add-mul first (z.n - first) (z.w + 1)) ∙ ap (λ (k : ℕ). k * (z.w + 1)) q

  -- k terms from the `to`-th place on lie inside, if no more than are left of both
  pub room_at : (k : ℕ) → k ≤ z.n - first + (z.made - used) → to * (z.w + 1) + k * (z.w + 1) ≤ length store
  room_at k l = rw (← add-mul to k (z.w + 1)) (stride_le (to + k) z.limit z.w (length store) (omega (arith, h.fits)) h.store_room)

  -- k of the terms left lie inside
  pub left_room : (k : ℕ) → k ≤ z.n - first → first * (z.w + 1) + k * (z.w + 1) ≤ length store
  left_room k l = rw (← add-mul first k (z.w + 1)) (stride_le (first + k) z.n z.w (length store) (omega (arith, h.first_in)) h.room)

  -- so they are counted without a wrap
  pub left_count : z.n ≤ length store
  left_count =
      let one : 1 ≤ z.w + 1 = omega arith in
      omega (arith, h.room, mul-le-mul_left z.n one)

  pub to_count : to + (z.n - first) + (z.made - used) ≤ length store
  to_count =
      let one : 1 ≤ z.w + 1 = omega arith in
      omega (arith, h.store_room, h.fits, mul-le-mul_left z.limit one)

  -- the words from the first term left on
  pub all_left : take (length store - first * (z.w + 1)) (drop (first * (z.w + 1)) store) ≡ drop (first * (z.w + 1)) store
  all_left = take_all (length store - first * (z.w + 1)) (drop (first * (z.w + 1)) store) (simp length-drop (omega arith))

  -- no new term is left: what is left of the others is all
  last_terms : used ≡ z.made → spliced z store scratch first used ≡ terms_left z store first
  last_terms e =
      let none : drop used (new_terms z scratch) ≡ [] = drop_of_length-le (new_terms z scratch) {i = used} (omega (arith, new_length)) in
      rw none (gathered (2 ^ z.l) (2 ^ (64 * z.k)) (terms_left z store first) (pow_pos z.l) h.falls h.coefficients)

  -- so no number changes
  pub last_numbers : (n : List ℕ) → used ≡ z.made → Moved (occurring (terms_left z store first)) (occurring (spliced z store scratch first used)) n n
  last_numbers n e = moved_same (λ u. rw (last_terms e))

  -- it is moved, and that is all
  pub last_turn : (store' : List ℕ) → used ≡ z.made → store' ≡ moved (first * (z.w + 1)) (to * (z.w + 1)) ((z.n - first) * (z.w + 1)) store → Spliced z store scratch first used to (z.n - first) store'
  last_turn store' e m =
      let all = last_terms e in
      let only : Only (to * (z.w + 1)) (to * (z.w + 1) + (z.n - first) * (z.w + 1)) store store' =
      only_written (to * (z.w + 1)) ((z.n - first) * (z.w + 1)) (to * (z.w + 1) + (z.n - first) * (z.w + 1)) (take ((z.n - first) * (z.w + 1)) (drop (first * (z.w + 1)) store)) store store'
      (length-take-le ((z.n - first) * (z.w + 1)) (drop (first * (z.w + 1)) store) (simp length-drop (omega (arith, left_words, h.room)))) (room_at (z.n - first) (omega arith)) (omega arith) m in
      record {
        most = omega arith;
        counted = rw all (sym left_length);
        there = moved_terms z.w (z.n - first) (first * (z.w + 1)) (to * (z.w + 1)) store store' (left_room (z.n - first) (omega arith)) (room_at (z.n - first) (omega arith)) m ∙ sym all;
        front = λ b x y. only.front b y;
        behind = λ b x y. only.behind b (omega (arith, add-mul to (z.n - first) (z.w + 1)));
      }

  -- a new term is left
  module _ (l : used < z.made) where
    -- its words lie inside
    pub new_room : (z.limit + used) * (z.w + 1) + (z.w + 1) ≤ length scratch
    new_room = stride_in (z.limit + used) (z.limit + z.made) z.w (length scratch) (omega arith) h.scratch_room

    -- so they are counted without a wrap
    pub new_count : z.limit + used + 1 ≤ length scratch
    new_count =
        let one : 1 ≤ z.w + 1 = omega arith in
        omega (arith, new_room, mul-le-mul_left (z.limit + used) one)

    -- the new terms left
    new_left : drop used (new_terms z scratch) ≡ get_or (new_terms z scratch) used (0, 0) ∷ drop (suc used) (new_terms z scratch)
    new_left = drop-cons (new_terms z scratch) used (0, 0) (omega (arith, new_length))

    -- they fall
    new_low : Below (2 ^ (64 * z.k)) (get_or (new_terms z scratch) used (0, 0) ∷ drop (suc used) (new_terms z scratch))
    new_low = rw new_left at h.new_falls

    -- their coefficients
    new_some : Coefficients (2 ^ z.l) (get_or (new_terms z scratch) used (0, 0) ∷ drop (suc used) (new_terms z scratch))
    new_some = rw new_left at h.new_coefficients

    -- their variables have numbers
    new_numbers : Numbered lent (get_or (new_terms z scratch) used (0, 0) ∷ drop (suc used) (new_terms z scratch))
    new_numbers = rw new_left at h.new_numbered

    -- what is asked to find its place
    pub asks_place : (terms : Terms) → terms.words.now ≡ take (length store - first * (z.w + 1)) (drop (first * (z.w + 1)) store) → terms.count ≡ z.n - first → terms.width ≡ z.w
        → Spotting terms z.k z.l scratch ((z.limit + used) * (z.w + 1))
    asks_place terms s n w = record {
      some = rw w h.some;
      short = rw w h.short;
      l_high = h.l_high;
      falls = rw (s, n, w, all_left) h.falls;
      coefficients = rw (s, n, w, all_left) h.coefficients;
      there = rw w new_room;
      low = rw w (rw (new_at z scratch used l) at new_low.0);
      small = rw (new_at z scratch used l) at new_some.1;
    }

    -- the words of its set that are used
    new_short : num (words_at scratch ((z.limit + used) * (z.w + 1) + 1) z.w) ≡ num (words_at scratch ((z.limit + used) * (z.w + 1) + 1) z.k)
    new_short = num_short scratch ((z.limit + used) * (z.w + 1) + 1) z.w z.k (omega (arith, new_room)) h.short (rw (new_at z scratch used l) at new_low.0)

    -- what is asked to count it
    pub asks_count : ((z.limit + used) * (z.w + 1) + (z.k + 1) ≤ length scratch) × (z.k ≤ 16) × (0 < lent)
        × (num (words_at scratch ((z.limit + used) * (z.w + 1) + 1) z.k) < 2 ^ lent) × (bit (num (words_at scratch ((z.limit + used) * (z.w + 1) + 1) z.k)) 0 ≡ 0)
    asks_count =
        let numbers = rw (new_at z scratch used l, new_short) at new_numbers.0 in
        (omega (arith, new_room, h.short), omega (arith, h.short, h.narrow), h.some_number, numbers.0, numbers.1)

    module _ (r : Spot) (found : Spotted (2 ^ z.l) (decoded z.w (z.n - first) (take (length store - first * (z.w + 1)) (drop (first * (z.w + 1)) store))) (get_or scratch ((z.limit + used) * (z.w + 1)) 0) (num (words_at scratch ((z.limit + used) * (z.w + 1) + 1) z.w)) r) where
      -- the new term parts the others
      pub parted : Parted (2 ^ z.l) (terms_left z store first) (drop (suc used) (new_terms z scratch)) (num (words_at scratch ((z.limit + used) * (z.w + 1) + 1) z.w)) r (spliced z store scratch first used)
      parted = rw (new_left, new_at z scratch used l)
          (spot_parts (2 ^ z.l) (2 ^ (64 * z.k)) (terms_left z store first) (drop (suc used) (new_terms z scratch)) (get_or scratch ((z.limit + used) * (z.w + 1)) 0, num (words_at scratch ((z.limit + used) * (z.w + 1) + 1) z.w)) r (pow_pos z.l) h.falls h.coefficients (rw (new_at z scratch used l) at new_low) (rw (new_at z scratch used l) at new_some.1) (rw all_left at found))

      -- no more terms stand above it than are left
      pub above_in : r.above + from_bool r.met ≤ z.n - first
      above_in = omega (arith, parted.within, left_length)

      -- where it goes there is room for a term
      pub term_room : (to + r.above) * (z.w + 1) + (z.w + 1) ≤ length store
      term_room = stride_in (to + r.above) z.limit z.w (length store) (omega (arith, h.fits, above_in)) h.store_room

      -- the stretch lies inside, where it stands and where it goes
      pub above_room : (first * (z.w + 1) + r.above * (z.w + 1) ≤ length store) × (to * (z.w + 1) + r.above * (z.w + 1) ≤ length store)
      above_room = (left_room r.above (omega (arith, above_in)), room_at r.above (omega (arith, above_in)))

      -- what the turn counts is no more than the words that are there
      pub turn_counts : (first + r.above + from_bool r.met ≤ length store) × (to + r.above + present r.c ≤ length store)
      turn_counts = (omega (arith, above_in, h.first_in, left_count), omega (arith, above_in, to_count, present_most r.c))

      -- words up to the rest of the others
      next_words : (first + r.above + from_bool r.met) * (z.w + 1) ≡ first * (z.w + 1) + r.above * (z.w + 1) + from_bool r.met * (z.w + 1)
      next_words = add-mul (first + r.above) (from_bool r.met) (z.w + 1) ∙ ap (λ (k : ℕ). k + from_bool r.met * (z.w + 1)) (add-mul first r.above (z.w + 1))

      -- and up to where it goes
      to_words : (to + r.above + present r.c) * (z.w + 1) ≡ to * (z.w + 1) + r.above * (z.w + 1) + present r.c * (z.w + 1)
      to_words = add-mul (to + r.above) (present r.c) (z.w + 1) ∙ ap (λ (k : ℕ). k + present r.c * (z.w + 1)) (add-mul to r.above (z.w + 1))

      -- all of them lie inside
      next_room : first * (z.w + 1) + r.above * (z.w + 1) + from_bool r.met * (z.w + 1) ≤ z.n * (z.w + 1)
      next_room = rw (← next_words) (mul-le-mul_right (z.w + 1) (omega (arith, above_in, h.first_in)))

      -- so does what is made
      made_room : (rest : ℕ) → rest ≤ z.n - (first + r.above + from_bool r.met) + (z.made - (used + 1)) → to * (z.w + 1) + r.above * (z.w + 1) + present r.c * (z.w + 1) + rest * (z.w + 1) ≤ length store
      made_room rest k =
          let q : (to + r.above + present r.c + rest) * (z.w + 1) ≡ to * (z.w + 1) + r.above * (z.w + 1) + present r.c * (z.w + 1) + rest * (z.w + 1) = add-mul (to + r.above + present r.c) rest (z.w + 1) ∙ ap (λ (n : ℕ). n + rest * (z.w + 1)) to_words in
          rw (← q) (stride_le (to + r.above + present r.c + rest) z.limit z.w (length store) (omega (arith, h.fits, above_in, present_most r.c)) h.store_room)

      module _ (s1 : List ℕ) (l1 : length s1 ≡ length store) (e1 : s1 ≡ cond (ltb (to * (z.w + 1)) (first * (z.w + 1))) (moved (first * (z.w + 1)) (to * (z.w + 1)) (r.above * (z.w + 1)) store) store) where
        -- the rest of the others stands where it stood
        next_left : terms_left z s1 (first + r.above + from_bool r.met) ≡ drop (r.above + from_bool r.met) (terms_left z store first)
        next_left =
            let q : z.n - (first + r.above + from_bool r.met) ≡ z.n - first - (r.above + from_bool r.met) = omega arith in
            let m : first * (z.w + 1) + (r.above + from_bool r.met) * (z.w + 1) ≡ first * (z.w + 1) + r.above * (z.w + 1) + from_bool r.met * (z.w + 1) = omega (arith, add-mul r.above (from_bool r.met) (z.w + 1)) in
            let stays = rest_stays z.w r.above (first * (z.w + 1)) (to * (z.w + 1)) (from_bool r.met * (z.w + 1)) (present r.c * (z.w + 1)) (z.n * (z.w + 1)) 0 store s1 store store store h.room next_room (omega (arith, made_room 0 (omega arith))) l1 refl refl e1 in
            rw (next_words, stays, q) (sym (decoded_drop z.w (r.above + from_bool r.met) (z.n - first) (drop (first * (z.w + 1)) store) above_in ∙ rw (drop-drop ((r.above + from_bool r.met) * (z.w + 1)) (first * (z.w + 1)) store, m)))

        -- what is asked to put the rest together
        pub asks_rest : Splicing z s1 scratch lent (first + r.above + from_bool r.met) (used + 1) (to + r.above + present r.c)
        asks_rest = record {
          room = rw l1 h.room;
          store_room = rw l1 h.store_room;
          scratch_room = h.scratch_room;
          narrow = h.narrow;
          some = h.some;
          short = h.short;
          l_high = h.l_high;
          first_in = omega (arith, above_in, h.first_in);
          used_in = omega arith;
          fits = omega (arith, h.fits, above_in, present_most r.c);
          falls = rw next_left (below_drop (2 ^ (64 * z.k)) (r.above + from_bool r.met) (terms_left z store first) h.falls);
          coefficients = rw next_left (coefficients_drop (2 ^ z.l) (r.above + from_bool r.met) (terms_left z store first) h.coefficients);
          new_falls = rw (add-one used) (weaken (get_or (new_terms z scratch) used (0, 0)).1 (2 ^ (64 * z.k)) (drop (suc used) (new_terms z scratch)) (omega (arith, new_low.0)) new_low.1);
          new_coefficients = rw (add-one used) new_some.2;
          some_number = h.some_number;
          new_numbered = rw (add-one used) new_numbers.1;
        }

        -- the numbers of the rest go on, and then those of the new term
        pub turn_numbers : (come : Bool) → from_bool come ≡ present r.c → (n₀ n₁ n₂ : List ℕ) → Moved (occurring (terms_left z s1 (first + r.above + from_bool r.met))) (occurring (spliced z s1 scratch (first + r.above + from_bool r.met) (used + 1))) n₀ n₁
            → Moved (counts_if r.met (num (words_at scratch ((z.limit + used) * (z.w + 1) + 1) z.k))) (counts_if come (num (words_at scratch ((z.limit + used) * (z.w + 1) + 1) z.k))) n₁ n₂
            → Moved (occurring (terms_left z store first)) (occurring (spliced z store scratch first used)) n₀ n₂
        turn_numbers come here n₀ n₁ n₂ later one =
            let G : Polynomial = gather (2 ^ z.l) (drop (r.above + from_bool r.met) (terms_left z store first) ++ drop (suc used) (new_terms z scratch)) in
            let s = num (words_at scratch ((z.limit + used) * (z.w + 1) + 1) z.k) in
            let front = take r.above (terms_left z store first) in
            let rests : Moved (occurring (drop (r.above + from_bool r.met) (terms_left z store first))) (occurring G) n₀ n₁ = rw (next_left, add-one used) at later in
            let all : (u : ℕ) → occurring (spliced z store scratch first used) u ≡ occurring front u + (counts_if come s u + occurring G u) =
            λ u. rw (parted.parts, occurring_append u front (keep r.c _ G), occurring_keep u r.c _ G, new_short, counts_of come r.c s u here) in
            moved_add (λ u. rw (parted.others u, new_short) (omega arith)) (λ u. rw (all u) (omega arith))
            (moved_add (λ u. refl) (λ u. refl) (moved_same {gone = occurring front} {come = occurring front} (λ u. refl)) rests) one

        module _ (rest : ℕ) (s2 s3 s4 : List ℕ) (sp : Spliced z s1 scratch (first + r.above + from_bool r.met) (used + 1) (to + r.above + present r.c) rest s2)
            (l2 : length s2 ≡ length store) (l3 : length s3 ≡ length store) (l4 : length s4 ≡ length store)
            (e3 : s3 ≡ cond (ltb (first * (z.w + 1)) (to * (z.w + 1))) (moved (first * (z.w + 1)) (to * (z.w + 1)) (r.above * (z.w + 1)) s2) s2)
            (e4 : s4 ≡ cond (eqb r.c 0) s3 (take ((to + r.above) * (z.w + 1)) s3 ++ ((r.c ∷ words_at scratch ((z.limit + used) * (z.w + 1) + 1) z.w) ++ drop ((to + r.above) * (z.w + 1) + (z.w + 1)) s3))) where
          -- the words of its set
          set_length : length (words_at scratch ((z.limit + used) * (z.w + 1) + 1) z.w) ≡ z.w
          set_length = length_words_at scratch ((z.limit + used) * (z.w + 1) + 1) z.w (omega (arith, new_room))

          -- the term lies inside
          put_room : (to + r.above) * (z.w + 1) + (z.w + 1) ≤ length s3
          put_room = rw l3 term_room

          -- only its words are written last
          put_last : Only (to * (z.w + 1) + r.above * (z.w + 1)) (to * (z.w + 1) + r.above * (z.w + 1) + present r.c * (z.w + 1)) s3 s4
          put_last = rw (← add-mul to r.above (z.w + 1)) (put_only z.w ((to + r.above) * (z.w + 1)) r.c (words_at scratch ((z.limit + used) * (z.w + 1) + 1) z.w) s3 s4 set_length put_room e4)

          -- the words of the rest, as the turn has them
          front : (b : ℕ) → b ≤ first * (z.w + 1) + r.above * (z.w + 1) + from_bool r.met * (z.w + 1) → b ≤ to * (z.w + 1) + r.above * (z.w + 1) + present r.c * (z.w + 1) → take b s2 ≡ take b s1
          front b x y = sp.front b (rw next_words x) (rw to_words y)

          behind : (b : ℕ) → z.n * (z.w + 1) ≤ b → to * (z.w + 1) + r.above * (z.w + 1) + present r.c * (z.w + 1) + rest * (z.w + 1) ≤ b → drop b s2 ≡ drop b s1
          behind b x y = sp.behind b x (rw (add-mul (to + r.above + present r.c) rest (z.w + 1), to_words) y)

          -- all terms from the `to`-th place on: the stretch, the new term, the rest
          all_there : decoded z.w (r.above + present r.c + rest) (drop (to * (z.w + 1)) s4) ≡ spliced z store scratch first used
          all_there =
              let one = stretch_there z.w r.above (first * (z.w + 1)) (to * (z.w + 1)) (from_bool r.met * (z.w + 1)) (present r.c * (z.w + 1)) (z.n * (z.w + 1)) (rest * (z.w + 1)) store s1 s2 s3 s4 h.room next_room (made_room rest sp.most) l1 l2 l3 e1 front behind e3 put_last l4 in
              let two = put_there z.w ((to + r.above) * (z.w + 1)) r.c (words_at scratch ((z.limit + used) * (z.w + 1) + 1) z.w) s3 s4 set_length put_room e4 in
              let three = rest_there z.w r.above (first * (z.w + 1)) (to * (z.w + 1)) (from_bool r.met * (z.w + 1)) (present r.c * (z.w + 1)) (z.n * (z.w + 1)) (rest * (z.w + 1)) store s1 s2 s3 s4 h.room next_room (made_room rest sp.most) l1 l2 l3 e1 front behind e3 put_last l4 in
              let G : Polynomial = gather (2 ^ z.l) (drop (r.above + from_bool r.met) (terms_left z store first) ++ drop (suc used) (new_terms z scratch)) in
              let stretch : decoded z.w r.above (drop (to * (z.w + 1)) s4) ≡ take r.above (terms_left z store first) = one ∙ decoded_take z.w r.above (z.n - first) (drop (first * (z.w + 1)) store) (omega (arith, above_in)) in
              let rests : decoded z.w rest (drop ((to + r.above + present r.c) * (z.w + 1)) s4) ≡ gather (2 ^ z.l) (drop (r.above + from_bool r.met) (terms_left z store first) ++ drop (suc used) (new_terms z scratch)) =
              ap (decoded z.w rest) (rw to_words three) ∙ sp.there ∙ rw (next_left, add-one used) in
              decoded_parts z.w (r.above + present r.c) rest (to * (z.w + 1)) ((to + r.above + present r.c) * (z.w + 1)) s4 (to_words ∙ omega (arith, add-mul r.above (present r.c) (z.w + 1)))
              ∙ rw (decoded_parts z.w r.above (present r.c) (to * (z.w + 1)) ((to + r.above) * (z.w + 1)) s4 (add-mul to r.above (z.w + 1)), stretch, rests, append_assoc, two G) (sym parted.parts)

          -- the turn is done
          pub turn_done : Spliced z store scratch first used to (r.above + present r.c + rest) s4
          turn_done = record {
            most = omega (arith, sp.most, above_in, present_most r.c);
            counted = sym (length_decoded z.w (r.above + present r.c + rest) (drop (to * (z.w + 1)) s4)) ∙ ap length all_there;
            there = all_there;
            front = front_stays z.w r.above (first * (z.w + 1)) (to * (z.w + 1)) (from_bool r.met * (z.w + 1)) (present r.c * (z.w + 1)) (z.n * (z.w + 1)) (rest * (z.w + 1)) store s1 s2 s3 s4 h.room next_room (made_room rest sp.most) l1 l2 l3 e1 front behind e3 put_last l4;
            behind = λ b x y. behind_stays z.w r.above (first * (z.w + 1)) (to * (z.w + 1)) (from_bool r.met * (z.w + 1)) (present r.c * (z.w + 1)) (z.n * (z.w + 1)) (rest * (z.w + 1)) store s1 s2 s3 s4 h.room next_room (made_room rest sp.most) l1 l2 l3 e1 front behind e3 put_last l4 b x (omega (arith, all_words));
          }
            where
              all_words : (to + (r.above + present r.c + rest)) * (z.w + 1) ≡ to * (z.w + 1) + r.above * (z.w + 1) + present r.c * (z.w + 1) + rest * (z.w + 1)
              all_words =
                  let q : to + (r.above + present r.c + rest) ≡ to + r.above + present r.c + rest = omega arith in
                  rw q (add-mul (to + r.above + present r.c) rest (z.w + 1) ∙ ap (λ (n : ℕ). n + rest * (z.w + 1)) to_words)
