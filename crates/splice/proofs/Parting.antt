-- A new term parts the terms that it goes among: those above it, itself, and the rest.
use mathlib.Core.Path.{◌≡◌, refl, ap, sym, ◌∙◌}
use mathlib.Core.Bool.{Bool, true, false}
use mathlib.Core.List.{[], ◌∷◌, ◌++◌, append_assoc}
use mathlib.Core.Logic.{⊎_elim}
use Prim.Native.Nat.{ℕ, zero, suc, ◌+◌, ◌%◌, ◌<◌, ◌≤◌}
use native.Mathlib.Nat.{zero-add, eq-zero-or-pos, eq-or-lt_of_le, mod-lt}
use native.Mathlib.Omega.{arith}
use lib.Dec.{ltb, eqb}
use lib.ListN.{length, get_or, take, drop, take-append-drop, drop_of_length-le}
use lib.Seq.{drop-cons, get_or-take, length-take-le}
use borrow.Author.Tests.{ltb-true, ltb-false, eqb-true, eqb-false}
use Rattle.std.specs.Int.{from_bool}
use Rattle.tally.specs.Marks.{counts_if}
use Rattle.rules.specs.Each.{sum, joined}
use Rattle.rules.specs.Occurrences.{counts_at, occurring}
use Rattle.rules.specs.Polynomial.{Term, Polynomial, hit, coefficient_at, Below, Coefficients, Under, keep, gather}
use Rattle.rules.proofs.Gathered.{under_of}
use Rattle.rules.proofs.Occurring.{occurring_append}
use Rattle.weave.specs.Merging.{floor, Merging, two}
use Rattle.weave.specs.Seeking.{Cut}
use Rattle.weave.proofs.Falling.{floor_above, coefficients_take}
use Rattle.weave.proofs.Fronts.{under_append, merge_front, merge_skip, merge_take}
use Rattle.weave.proofs.Woven.{two_lows, first_low, weave_none, weave_stretch, head_sums, heads_sums}
use Rattle.splice.specs.Splicing.{Spotted}
use Rattle.splice.specs.declared.spots.Spot.{Spot}

-- two lists, one behind the other
two_joined : (a b : Polynomial) → joined 2 (two a b) ≡ a ++ b
unfolding joined two
two_joined a b = refl

module _ (m hi : ℕ) (p q : Polynomial) (y : Term) (hm : 0 < m) (fp : Below hi p) (cp : Coefficients m p) (fq : Below hi (y ∷ q)) (cy : y.0 < m) (at : ℕ) (cut : Cut p y.1 0 (length p) at) where
  -- all sets lie below the bound
  under : Under hi (p ++ y ∷ q)
  under = under_append hi p (y ∷ q) (under_of hi hi p (omega arith) fp) (under_of hi hi (y ∷ q) (omega arith) fq)

  -- the terms above it fall, and it is below them
  lower : y.1 < floor hi (take at p)
  unfolding floor
  lower = ⊎_elim
      (λ (e : at ≡ 0). rw e fq.0)
      (λ (l : 0 < at).
      floor_above hi y.1 (take at p) (omega (arith, taken)) (λ i d. rw (get_or-take at p i (0, 0) (omega (arith, taken))) (cut.above i (omega arith) (omega (arith, taken)))))
      (eq-zero-or-pos at)
    where
      taken : length (take at p) ≡ at
      taken = length-take-le at p cut.high

  -- they are written first
  written : Merging m hi 2 (p ++ y ∷ q) (take at p) (two (drop at p) (y ∷ q))
  unfolding floor
  written = weave_stretch m hi (p ++ y ∷ q) [] (take at p) (drop at p) (y ∷ q) (rw (take-append-drop at p) (weave_none m hi p (y ∷ q) fp fq)) (coefficients_take m at p cp) (lower, fq.1)

  -- then the term of c, if it is one, where a is left of the terms
  parted : (c : ℕ) (a : Polynomial) → c < m → Below y.1 a
      → ((u : ℕ) → sum 2 (λ j. coefficient_at (two (drop at p) (y ∷ q) j) u) % m ≡ (hit u y.1 c + sum 2 (λ j. coefficient_at (two a q j) u)) % m)
      → gather m (p ++ y ∷ q) ≡ take at p ++ keep c y.1 (gather m (a ++ q))
  unfolding keep
  parted zero a l f s =
      merge_front m hi 2 (p ++ y ∷ q) hm under (take at p) (two a q) (merge_skip m hi 2 (p ++ y ∷ q) hm under (take at p) (two (drop at p) (y ∷ q)) (two a q) written 0 y.1 lower (two_lows y.1 a q f fq.1) s refl)
      ∙ ap (λ (x : Polynomial). take at p ++ gather m x) (two_joined a q)
  parted (suc c) a l f s =
      merge_front m hi 2 (p ++ y ∷ q) hm under (take at p ++ ((suc c, y.1) ∷ [])) (two a q) (merge_take m hi 2 (p ++ y ∷ q) hm under (take at p) (two (drop at p) (y ∷ q)) (two a q) written (suc c) y.1 lower (two_lows y.1 a q f fq.1) s (omega arith) l)
      ∙ ap (λ (x : Polynomial). (take at p ++ ((suc c, y.1) ∷ [])) ++ gather m x) (two_joined a q) ∙ append_assoc (take at p) ((suc c, y.1) ∷ []) (gather m (a ++ q))

  -- what is left falls below the last that is written
  left_low : Below (floor hi (take at p)) (drop at p)
  left_low = first_low m hi (p ++ y ∷ q) (take at p) (drop at p) (y ∷ q) written

  -- where the next has another set
  pub part_alone : (at < length p → (get_or p at (0, 0)).1 ≡ y.1 → ⊥) → gather m (p ++ y ∷ q) ≡ take at p ++ keep y.0 y.1 (gather m (drop at p ++ q))
  part_alone n = parted y.0 (drop at p) cy below (head_sums m (drop at p) q y)
    where
      below : Below y.1 (drop at p)
      below = ⊎_elim
          (λ (e : at ≡ length p). rw (drop_of_length-le p {i = at} (omega arith)) tt)
          (λ (l : at < length p).
          let cons : drop at p ≡ get_or p at (0, 0) ∷ drop (suc at) p = drop-cons p at (0, 0) l in
          let less : (get_or p at (0, 0)).1 < y.1 = ⊎_elim (λ (f : (get_or p at (0, 0)).1 ≡ y.1). absurd (n l f)) (λ f. f) (eq-or-lt_of_le (cut.under l)) in
          rw cons (less, (rw cons at left_low).1))
          (eq-or-lt_of_le cut.high)

  -- where it has the same
  pub part_both : at < length p → (get_or p at (0, 0)).1 ≡ y.1 → gather m (p ++ y ∷ q) ≡ take at p ++ keep ((y.0 + (get_or p at (0, 0)).0) % m) y.1 (gather m (drop (suc at) p ++ q))
  part_both l s =
      let cons : drop at p ≡ get_or p at (0, 0) ∷ drop (suc at) p = drop-cons p at (0, 0) l in
      parted ((y.0 + (get_or p at (0, 0)).0) % m) (drop (suc at) p) (mod-lt _ hm) (rw s at (rw cons at left_low).1) (λ u. rw cons (heads_sums m (drop (suc at) p) q (get_or p at (0, 0)) y s u))

-- the first terms, and the others
occurring_parts : (u i : ℕ) (p : Polynomial) → occurring p u ≡ occurring (take i p) u + occurring (drop i p) u
occurring_parts u i p = ap (λ (x : Polynomial). occurring x u) (sym (take-append-drop i p)) ∙ occurring_append u (take i p) (drop i p)

-- by where the term goes: both parts, the term between them, and its coefficient
pub record Parted (m : ℕ) (p q : Polynomial) (s : ℕ) (r : Spot) (whole : Polynomial) : Type 0 where
  pub within : r.above + from_bool r.met ≤ length p
  pub small : r.c < m
  pub others : (u : ℕ) → occurring p u ≡ occurring (take r.above p) u + (counts_if r.met s u + occurring (drop (r.above + from_bool r.met) p) u)
  pub parts : whole ≡ take r.above p ++ keep r.c s (gather m (drop (r.above + from_bool r.met) p ++ q))

pub spot_parts : (m hi : ℕ) (p q : Polynomial) (y : Term) (r : Spot) → 0 < m → Below hi p → Coefficients m p → Below hi (y ∷ q) → y.0 < m → Spotted m p y.0 y.1 r → Parted m p q y.1 r (gather m (p ++ y ∷ q))
unfolding occurring counts_if
spot_parts m hi p q y r hm fp cp fq cy h = go (ltb r.above (length p)) refl (eqb (get_or p r.above (0, 0)).1 y.1) refl
  where
    alone : (r.above < length p → (get_or p r.above (0, 0)).1 ≡ y.1 → ⊥) → Parted m p q y.1 r (gather m (p ++ y ∷ q))
    alone n =
        let e = h.alone n in
        let z : r.above + from_bool r.met ≡ r.above = rw e.0 (omega arith) in
        record { within = omega (arith, h.cut.high); small = rw e.1 cy; others = λ u. rw (z, e.0, zero-add) (occurring_parts u r.above p); parts = rw (e.1, z) (part_alone m hi p q y hm fp cp fq cy r.above h.cut n) }

    go : (a : Bool) → ltb r.above (length p) ≡ a → (b : Bool) → eqb (get_or p r.above (0, 0)).1 y.1 ≡ b → Parted m p q y.1 r (gather m (p ++ y ∷ q))
    go false a b d = alone (λ l. absurd (omega (arith, ltb-false r.above (length p) a)))
    go true a false d = alone (λ l f. eqb-false _ _ d f)
    go true a true d =
        let l : r.above < length p = ltb-true _ _ a in
        let f : (get_or p r.above (0, 0)).1 ≡ y.1 = eqb-true _ _ d in
        let e = h.both l f in
        let z : r.above + from_bool r.met ≡ suc r.above = rw e.0 (omega arith) in
        let cons : drop r.above p ≡ get_or p r.above (0, 0) ∷ drop (suc r.above) p = drop-cons p r.above (0, 0) l in
        let here : (u : ℕ) → occurring (drop r.above p) u ≡ counts_at y.1 u + occurring (drop (suc r.above) p) u = λ u. rw (cons, ← f) refl in
        record { within = omega arith; small = rw e.1 (mod-lt _ hm); others = λ u. rw (z, e.0, ← here u) (occurring_parts u r.above p); parts = rw (e.1, z) (part_both m hi p q y hm fp cp fq cy r.above h.cut l f) }
