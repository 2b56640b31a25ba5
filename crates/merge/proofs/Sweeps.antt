-- The sweep over the heads, one stream after the other.
use Rattle.std.proofs.Common.{◌≡◌, ℕ, suc, ◌+◌, ◌%◌, ◌<◌, ◌≤◌, List, get_or, refl, ap, sym, ◌∙◌, zero-add, pow_pos, arith}
use mathlib.Core.Logic.{⊎_elim}
use Rattle.std.proofs.lemmas.Bool.{cases_eq}
use Rattle.rules.specs.Each.{sum}
use Rattle.rules.specs.Polynomial.{Polynomial, hit, coefficient_at, Below}
use Rattle.rules.proofs.Terms.{hit_zero, weaken}
use Rattle.weave.proofs.Fronts.{sum_swap}
use Rattle.merge.specs.Heads.{count, modulus, from, rest, rank, Loaded, Took}
use Rattle.merge.specs.declared.streams.Streams.{Streams}

-- the rank of a stream depends on its own place alone
rank_at : (s : Streams) (at at' : List ℕ) (i : ℕ) → get_or at' i 0 ≡ get_or at i 0 → rank s at' i ≡ rank s at i
unfolding rank
rank_at s at at' i e = rw e

-- the first j heads have been looked at
pub record Sweeping (s : Streams) (set j : ℕ) (at at' : List ℕ) (c : ℕ) : Type 0 where
  pub small : c < modulus s
  pub loaded : (i : ℕ) → i < count s → Loaded s at' i
  pub low : (i : ℕ) → i < j → Below set (rest s at' i)
  pub high : (i : ℕ) → i < count s → Below (suc set) (rest s at' i)
  pub sums : (u : ℕ) → sum (count s) (λ i. coefficient_at (rest s at i) u) % modulus s ≡ (hit u set c + sum (count s) (λ i. coefficient_at (rest s at' i) u)) % modulus s
  pub grows : (i : ℕ) → i < count s → get_or at i 0 ≤ get_or at' i 0
  pub ahead : (i : ℕ) → j ≤ i → get_or at' i 0 ≡ get_or at i 0
  pub moved : (i : ℕ) → i < j → rank s at i ≡ suc set → get_or at i 0 < get_or at' i 0

module _ (s : Streams) (set : ℕ) where
  -- no head looked at
  pub sweep_none : (at : List ℕ) → ((i : ℕ) → i < count s → Loaded s at i) → ((i : ℕ) → i < count s → Below (suc set) (rest s at i)) → Sweeping s set 0 at at 0
  sweep_none at ld hi = record {
    small = pow_pos s.weighted.gate.l;
    loaded = ld;
    low = λ i l. absurd (omega arith);
    high = hi;
    sums = λ u. rw (hit_zero, zero-add);
    grows = λ i l. omega arith;
    ahead = λ i l. refl;
    moved = λ i l. absurd (omega arith);
  }

  module _ (j c c' : ℕ) (at₀ at at' : List ℕ) (lj : j < count s) (h : Sweeping s set j at₀ at c) (t : Took s set j at at' c c') where
    -- by place: j itself, or another
    at_place : (P : ℕ → Type 0) (i : ℕ) → P j → ((i ≡ j → ⊥) → P i) → P i
    at_place P i a b = ⊎_elim (λ (e : i ≡ j). rw e a) b (cases_eq i j)

    -- the other streams stay
    still : (i : ℕ) → (i ≡ j → ⊥) → rest s at' i ≡ rest s at i
    still i n = ap (from s i) (t.others i n)

    -- one more head looked at
    pub sweep_more : Sweeping s set (j + 1) at₀ at' c'
    sweep_more = record {
      small = t.small;
      loaded = λ i l. at_place (λ i. Loaded s at' i) i t.loaded (λ n. rw (t.others i n) (h.loaded i l));
      low = λ i l. at_place (λ i. Below set (rest s at' i)) i t.lower (λ n. rw (t.others i n) (h.low i (omega (arith, n))));
      high = λ i l. at_place (λ i. Below (suc set) (rest s at' i)) i (weaken set (suc set) (rest s at' j) (omega arith) t.lower) (λ n. rw (t.others i n) (h.high i l));
      sums = λ u. sum_swap (modulus s) (count s) j (hit u set c) (hit u set c') (sum (count s) (λ i. coefficient_at (rest s at₀ i) u)) (λ i. coefficient_at (rest s at i) u) (λ i. coefficient_at (rest s at' i) u) lj (λ i l n. ap (λ (q : Polynomial). coefficient_at q u) (sym (still i n))) (t.sums u) (h.sums u);
      grows = λ i l. at_place (λ i. i < count s → get_or at₀ i 0 ≤ get_or at' i 0) i (λ d. omega (arith, t.grows, h.grows j lj)) (λ n d. rw (t.others i n) (h.grows i d)) l;
      ahead = λ i l. t.others i (λ e. omega arith) ∙ h.ahead i (omega arith);
      moved = λ i l e. at_place (λ i. i < j + 1 → rank s at₀ i ≡ suc set → get_or at₀ i 0 < get_or at' i 0) i (λ d z. let q : get_or at j 0 ≡ get_or at₀ j 0 = h.ahead j (omega arith) in omega (arith, t.moved (rank_at s at₀ at j q ∙ z), q)) (λ n d z. rw (t.others i n) (h.moved i (omega (arith, n)) z)) l e;
    }
