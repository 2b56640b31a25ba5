-- The numbers of a step: what counting asks is there, and what goes and comes is the step.
use mathlib.Core.Path.{◌≡◌, refl, ap, sym, ◌∙◌}
use mathlib.Core.Bool.{Bool, true, false, cond}
use mathlib.Core.List.{List, [], ◌∷◌, ◌++◌}
use Prim.Native.Nat.{ℕ, ◌+◌, ◌*◌, ◌^◌, ◌<◌, ◌≤◌}
use native.Mathlib.Omega.{arith}
use lib.Dec.{eqb}
use lib.ListN.{length, take, drop}
use Rattle.rules.specs.Occurrences.{occurring}
use Rattle.rules.specs.Polynomial.{Polynomial, Below, gather}
use Rattle.rules.specs.Values.{bit}
use Rattle.rules.proofs.Gathered.{gather_below, under_of}
use Rattle.rules.proofs.Occurring.{occurring_append}
use Rattle.words.specs.Stored.{decoded}
use Rattle.words.proofs.Stored.{decoded_take, length_decoded}
use Rattle.weave.specs.Weaving.{holding, without, old_terms, new_terms}
use Rattle.weave.specs.declared.weaving.Parts.{Parts}
use Rattle.weave.specs.declared.weaving.Sizes.{Sizes}
use Rattle.weave.proofs.Falling.{below_front}
use Rattle.weave.proofs.Fronts.{under_append}
use Rattle.weave.proofs.Without.{without_below}
use Rattle.tally.specs.Marks.{Numbered, Moved, Renumbered}
use Rattle.tally.proofs.Marking.{numbered_front, front_counted, occurring_rest}
use Rattle.tally.proofs.Moving.{moved_add, moved_same}
use Rattle.tally.proofs.Numbering.{numbered_gather, numbered_append}
use Rattle.poly.specs.Stepping.{Both, Numbering}

-- the terms that hold v, and those that do not
pub numbered_parts : (lent v : ℕ) (p : Polynomial) → Numbered lent p → Numbered lent (holding v p) × Numbered lent (without v p)
unfolding holding without
numbered_parts lent v [] h = (tt, tt)
numbered_parts lent v (t ∷ p) h = go (eqb (bit t.1 v) 1) (numbered_parts lent v p h.1)
  where
    go : (b : Bool) → Numbered lent (holding v p) × Numbered lent (without v p)
        → Numbered lent (cond b (t ∷ holding v p) (holding v p)) × Numbered lent (cond b (without v p) (t ∷ without v p))
    go true k = ((h.0, k.0), k.1)
    go false k = (k.0, (h.0, k.1))

module _ (z : Sizes) (store scratch : List ℕ) {lent : ℕ} (b : Both z store scratch) (named : Numbering z store scratch lent) where
  -- the first n terms of the store can be counted
  pub front_counts : (n : ℕ) → n ≤ z.n → Below (2 ^ (64 * z.k)) (decoded z.w n store) × Numbered lent (decoded z.w n store)
  front_counts n l = front_counted z.w z.k lent n z.n store l b.task.falls named.old

  -- both lists gathered
  abbrev both : Polynomial
  both = gather (2 ^ z.l) (without z.v (old_terms z store) ++ new_terms z scratch)

  -- their sets fall and use k words
  both_falls : Below (2 ^ (64 * z.k)) both
  both_falls =
      let b' = 2 ^ (64 * z.k) in
      gather_below (2 ^ z.l) b' (without z.v (old_terms z store) ++ new_terms z scratch)
      (under_append b' (without z.v (old_terms z store)) (new_terms z scratch)
      (under_of b' b' (without z.v (old_terms z store)) (omega arith) (without_below z.v b' (old_terms z store) b.task.falls))
      (under_of b' b' (new_terms z scratch) (omega arith) b.task.new_falls))

  -- and their variables have numbers
  both_numbered : Numbered lent both
  both_numbered =
      numbered_gather lent (2 ^ z.l) (without z.v (old_terms z store) ++ new_terms z scratch)
      (numbered_append lent (without z.v (old_terms z store)) (new_terms z scratch) (numbered_parts lent z.v (old_terms z store) named.old).1 named.new)

  -- there is no room: no number changes
  pub numbers_full : (numbers : List ℕ) → z.limit < length both → Renumbered z.limit (old_terms z store) both numbers numbers
  numbers_full numbers l = record { moved = λ few. absurd (omega arith); stayed = λ many. refl }

  module _ (r : Parts) (made : List ℕ) (g : (r.out ≤ z.limit) × (r.at ≤ length (old_terms z store)) × (decoded z.w r.out made ++ drop r.at (old_terms z store) ≡ both)) where
    -- what the weave wrote can be counted
    pub made_counts : Below (2 ^ (64 * z.k)) (decoded z.w r.out made) × Numbered lent (decoded z.w r.out made)
    made_counts = (
      below_front (2 ^ (64 * z.k)) (decoded z.w r.out made) (drop r.at (old_terms z store)) (rw g.2 both_falls),
      numbered_front lent (decoded z.w r.out made) (drop r.at (old_terms z store)) (rw g.2 both_numbered),
    )

    -- both parts fit: what was there becomes what was written
    pub numbers_fit : (n₀ n₁ : List ℕ) → length both ≤ z.limit → Moved (occurring (decoded z.w r.at store)) (occurring (decoded z.w r.out made)) n₀ n₁
        → Renumbered z.limit (old_terms z store) both n₀ n₁
    numbers_fit n₀ n₁ h moved =
        let all : (u : ℕ) → occurring both u ≡ occurring (decoded z.w r.out made) u + occurring (drop r.at (old_terms z store)) u =
        λ u. ap (λ (p : Polynomial). occurring p u) (sym g.2) ∙ occurring_append u (decoded z.w r.out made) (drop r.at (old_terms z store)) in
        let front : take r.at (old_terms z store) ≡ decoded z.w r.at store = sym (decoded_take z.w r.at z.n store (omega (arith, g.1, length_decoded z.w z.n store))) in
        record {
          moved = λ l.
              moved_add (rw front at (occurring_rest r.at (old_terms z store))) all moved
              (moved_same {gone = occurring (drop r.at (old_terms z store))} {come = occurring (drop r.at (old_terms z store))} (λ u. refl));
          stayed = λ l. absurd (omega arith);
        }
