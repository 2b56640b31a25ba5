-- Laws of streams: the terms of one, the next of them, their heads, and a head that is taken.
use Rattle.std.proofs.Common.{◌≡◌, ℕ, zero, suc, ◌+◌, ◌-◌, ◌*◌, ◌%◌, ◌<◌, ◌≤◌, Bool, true, false, cond, List, [], ◌∷◌, length, get_or, set, ℤ, pos, refl, ap, sym, ◌∙◌, add-zero, add_assoc, add-one, arith, eqb, lt-ltb, le-ltb, drop-cons, drop_of_length-le}
use native.Mathlib.Nat.{mod-add-mod}
use lib.Seq.{get_or-set_same, get_or-set_other}
use Rattle.rules.specs.Values.{bit}
use Rattle.rules.specs.Polynomial.{Polynomial, Below, keep}
use Rattle.rules.proofs.Terms.{hit_add, hit_mod, coefficient_cons}
use Rattle.rules.proofs.Gathered.{keep_some}
use Rattle.words.specs.Listed.{terms_of, set_of}
use Rattle.words.specs.Numbers.{under_mask}
use Rattle.words.proofs.Numbers.{num_short}
use Rattle.words.proofs.Stored.{decoded_set, length_terms, stride_in}
use Rattle.gates.specs.Masks.{mask_at}
use Rattle.rules.proofs.Bits.{bit_digit}
use Rattle.gates.proofs.Tables.{row_in}
use Rattle.gates.proofs.Whole.{scaled_none}
use Rattle.merge.proofs.Scaled.{scaled_some}
use Rattle.merge.specs.Streams.{streams_of, held_in, multiplier_of, weight, stream}
use Rattle.merge.specs.Heads.{count, modulus, weight_at, set_in, from, rest, Next, Loaded, rank, Took}
use Rattle.merge.specs.declared.streams.Gate.{Gate}
use Rattle.merge.specs.declared.streams.Streams.{Streams}
use Rattle.merge.specs.declared.streams.Weighted.{Weighted}

-- a term without a coefficient goes
pub keep_none : (c s : ℕ) (p : Polynomial) → c ≡ 0 → keep c s p ≡ p
unfolding keep
keep_none c s p h = rw h

-- there are streams, at most eight
pub streams_few : (g : Gate) → (0 < streams_of g) × (streams_of g ≤ 8)
unfolding streams_of
streams_few g = go (eqb g.over.z 0)
  where
    go : (b : Bool) → (0 < cond b 4 8) × (cond b 4 8 ≤ 8)
    go true = (omega arith, omega arith)
    go false = (omega arith, omega arith)

-- a set has one of eight subsets of x, y and z
pub held_lt : (g : Gate) (s : ℕ) → held_in g s < 8
unfolding held_in
held_lt g s = go (eqb g.over.z 0)
  where
    go : (b : Bool) → bit s g.over.x + 2 * bit s g.over.y + 4 * cond b 0 (bit s g.over.z) < 8
    go true = omega (arith, bit_digit s g.over.x, bit_digit s g.over.y)
    go false = omega (arith, bit_digit s g.over.x, bit_digit s g.over.y, bit_digit s g.over.z)

module _ (t : Weighted) (j : ℕ) where
  -- a term whose multiplier is 0 has no weight
  pub weight_none : (i : ℕ) (k : ℤ) → k ≡ multiplier_of t.gate t.multipliers.now j (set_of t.terms i) → k ≡ pos 0 → weight_at t j i ≡ 0
  unfolding weight
  weight_none i k e z = scaled_none _ _ _ (sym e ∙ z)

  -- any other has some
  pub weight_some : (i : ℕ) (k : ℤ) → i < t.terms.count → k ≡ multiplier_of t.gate t.multipliers.now j (set_of t.terms i) → (k ≡ pos 0 → ⊥) → 0 < weight_at t j i
  unfolding weight
  weight_some i k l e n = scaled_some _ _ _ (λ z. n (e ∙ z)) (t.held.some i l) (t.held.small i l)

module _ (s : Streams) (j : ℕ) where
  -- a stream at a term that is in it
  pub stream_some : (i : ℕ) → i < s.weighted.terms.count → 0 < weight_at s.weighted j i → from s j i ≡ (weight_at s.weighted j i, set_in s i j) ∷ from s j (suc i)
  unfolding stream
  stream_some i h l =
      let k : i < length (terms_of s.weighted.terms) = omega (arith, length_terms s.weighted.terms) in
      rw (drop-cons (terms_of s.weighted.terms) i (0, 0) k) (keep_some _ _ _ l)

  -- a stream at a term that is not in it
  stream_skip : (i : ℕ) → i < s.weighted.terms.count → weight_at s.weighted j i ≡ 0 → from s j i ≡ from s j (suc i)
  unfolding stream
  stream_skip i h l =
      let k : i < length (terms_of s.weighted.terms) = omega (arith, length_terms s.weighted.terms) in
      rw (drop-cons (terms_of s.weighted.terms) i (0, 0) k) (keep_none _ _ _ l)

  -- a stream at its end
  pub stream_end : (i : ℕ) → s.weighted.terms.count ≤ i → from s j i ≡ []
  unfolding stream
  stream_end i h = rw (drop_of_length-le (terms_of s.weighted.terms) {i = i} (omega (arith, length_terms s.weighted.terms)))

  -- a stream passes terms that are not in it
  pass : (d low r : ℕ) → low + d ≡ r → r ≤ s.weighted.terms.count → ((i : ℕ) → low ≤ i → i < r → weight_at s.weighted j i ≡ 0) → from s j low ≡ from s j r
  pass zero low r e h f = ap (from s j) (sym (add-zero low) ∙ e)
  pass (suc d) low r e h f =
      stream_skip low (omega arith) (f low (omega arith) (omega arith)) ∙ pass d (suc low) r (omega arith) h (λ i a b. f i (omega arith) b)

  -- and so from one of its terms to the next
  pub stream_pass : (low r : ℕ) → Next s.weighted j low r → from s j low ≡ from s j r
  stream_pass low r n = pass (r - low) low r (omega (arith, n.least)) n.high n.none

  module _ (at : List ℕ) where
    -- the rank at the end
    pub rank_end : s.weighted.terms.count ≤ get_or at j 0 → rank s at j ≡ 0
    unfolding rank
    rank_end h = rw (le-ltb (get_or at j 0) s.weighted.terms.count h)

    -- the rank at a term
    pub rank_live : get_or at j 0 < s.weighted.terms.count → rank s at j ≡ suc (set_in s (get_or at j 0) j)
    unfolding rank
    rank_live h = rw (lt-ltb (get_or at j 0) s.weighted.terms.count h)

    module _ (x c : ℕ) (hc : c < modulus s) (lj : j < length at) (ld : Loaded s at j) (lw : Below (suc x) (rest s at j)) where
      -- the stream is at its end: nothing is taken
      pub took_end : s.weighted.terms.count ≤ get_or at j 0 → Took s x j at at c c
      took_end h = record {
        others = λ i n. refl;
        grows = omega arith;
        loaded = ld;
        small = hc;
        sums = λ u. refl;
        lower = rw (stream_end (get_or at j 0) h) tt;
        moved = λ e. absurd (omega (arith, rank_end h));
      }

      -- the set at the head is at most x
      low_head : get_or at j 0 < s.weighted.terms.count → set_in s (get_or at j 0) j < suc x
      low_head h = (rw (stream_some (get_or at j 0) h (ld.1 h)) at lw).0

      -- the head has another set: nothing is taken
      pub took_other : get_or at j 0 < s.weighted.terms.count → (set_in s (get_or at j 0) j ≡ x → ⊥) → Took s x j at at c c
      took_other h n =
          let e = stream_some (get_or at j 0) h (ld.1 h) in
          let lo = low_head h in
          record {
            others = λ i n. refl;
            grows = omega arith;
            loaded = ld;
            small = hc;
            sums = λ u. refl;
            lower = rw e (omega (arith, n), (rw e at lw).1);
            moved = λ z. absurd (n (omega (arith, rank_live h)));
          }

      -- the head has that set: it is taken
      pub took_same : get_or at j 0 < s.weighted.terms.count → set_in s (get_or at j 0) j ≡ x
          → (r c' : ℕ) → Next s.weighted j (get_or at j 0 + 1) r → c' ≡ (c + weight_at s.weighted j (get_or at j 0)) % modulus s → c' < modulus s
          → Took s x j at (set at j r) c c'
      took_same h q r c' n e hc' =
          let y = stream_some (get_or at j 0) h (ld.1 h) in
          let p : from s j (suc (get_or at j 0)) ≡ from s j r = rw (add-one (get_or at j 0)) at (stream_pass (get_or at j 0 + 1) r n) in
          let z : get_or (set at j r) j 0 ≡ r = get_or-set_same at j r 0 lj in
          record {
            others = λ i d. get_or-set_other at j i r 0 d;
            grows = rw z (omega (arith, n.least));
            loaded = rw z (n.high, n.some);
            small = hc';
            sums = λ u. rw (z, y, coefficient_cons, e, q, hit_mod, mod-add-mod, hit_add, p, add_assoc);
            lower = rw (z, ← p, ← q) (rw y at lw).1;
            moved = λ d. rw z (omega (arith, n.least));
          }

-- the words of a set of a stream lie inside
module _ (s : Streams) (i j : ℕ) (li : i < s.weighted.terms.count) (lj : j < count s) where
  -- those of the term
  pub term_in : i * (s.weighted.terms.width + 1) + (s.weighted.terms.width + 1) ≤ length s.weighted.terms.words.now
  term_in = stride_in i s.weighted.terms.count s.weighted.terms.width (length s.weighted.terms.words.now) li s.weighted.terms.within

  -- and those of the mask
  pub mask_in : j * s.weighted.terms.width + s.weighted.terms.width ≤ length s.masks.now
  mask_in = row_in j (count s) s.weighted.terms.width (length s.masks.now) lj s.masked.wide

  -- the set is the number of those of the term under that of those of the mask
  pub set_under : set_in s i j ≡ under_mask s.weighted.terms.words.now (i * (s.weighted.terms.width + 1) + 1) s.masks.now (j * s.weighted.terms.width) s.weighted.terms.width
  unfolding mask_at
  set_under = rw (decoded_set s.weighted.terms.width s.weighted.terms.count i s.weighted.terms.words.now li)

  -- so of as many of them as the gate's sets use
  pub set_short : set_in s i j ≡ under_mask s.weighted.terms.words.now (i * (s.weighted.terms.width + 1) + 1) s.masks.now (j * s.weighted.terms.width) s.weighted.gate.k
  unfolding mask_at
  set_short =
      let small = rw (decoded_set s.weighted.terms.width s.weighted.terms.count i s.weighted.terms.words.now li) at (s.masked.sets i li) in
      rw (
        decoded_set s.weighted.terms.width s.weighted.terms.count i s.weighted.terms.words.now li,
        num_short s.weighted.terms.words.now (i * (s.weighted.terms.width + 1) + 1) s.weighted.terms.width s.weighted.gate.k (omega (arith, term_in)) s.masked.short small,
        num_short s.masks.now (j * s.weighted.terms.width) s.weighted.terms.width s.weighted.gate.k mask_in s.masked.short (s.masked.low j lj),
      )
