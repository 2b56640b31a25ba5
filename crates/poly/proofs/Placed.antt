-- The new terms put in place: the terms that hold v stand in front, and the rest are those that do not.
use mathlib.Core.Path.{◌≡◌, refl, ap, sym, ◌∙◌}
use mathlib.Core.Bool.{Bool, true, false, ◌&&◌, false≢true}
use mathlib.Core.List.{List, ◌++◌}
use mathlib.Core.Logic.{⊎_elim}
use Prim.Native.Nat.{ℕ, zero, suc, ◌+◌, ◌-◌, ◌*◌, ◌^◌, ◌<◌, ◌≤◌}
use native.Mathlib.Nat.{zero-add}
use native.Mathlib.Omega.{arith}
use lib.Dec.{leb, ltb}
use lib.ListN.{length, get_or, take, drop}
use Rattle.std.proofs.Common.{Some}
use lib.Pow.{pow_mono}
use borrow.Author.Tests.{leb-true, ltb-true, le-leb}
use Rattle.rules.specs.Judging.{polynomial_words, padded}
use Rattle.rules.specs.Occurrences.{occurring}
use Rattle.rules.specs.Polynomial.{Polynomial, Below, gather}
use Rattle.rules.specs.Values.{bit}
use Rattle.rules.proofs.Bits.{bit_cases}
use Rattle.words.specs.Numbers.{num, words_at}
use Rattle.words.specs.Stored.{decoded}
use Rattle.words.proofs.Stored.{decoded_drop, decoded_take}
use Rattle.weave.specs.Seeking.{Last}
use Rattle.weave.specs.Weaving.{without, old_terms, new_terms}
use Rattle.weave.specs.declared.weaving.Sizes.{Sizes}
use Rattle.weave.proofs.Falling.{below_drop, coefficients_drop}
use Rattle.weave.proofs.Tops.{first_below, all_below, free_behind}
use Rattle.weave.proofs.Without.{without_held, without_rest}
use Rattle.splice.specs.Splicing.{Splicing, terms_left, spliced}
use Rattle.tally.specs.Marks.{Marked, Moved, Renumbered}
use Rattle.tally.proofs.Marking.{occurring_rest}
use Rattle.tally.proofs.Moving.{moved_add, moved_gone}
use Rattle.poly.specs.Stepping.{Both, Numbering, Together, in_place}

-- what being put in place says
pub record Placed (z : Sizes) (store : List ℕ) : Type 0 where
  pub fits : z.n - z.end + z.made ≤ z.limit
  pub leads : num (words_at store 1 z.w) < 2 ^ (z.v + 1)

-- and it is said so
pub placed : (z : Sizes) (store : List ℕ) → in_place z store ≡ true → Placed z store
unfolding in_place
placed z store = go (leb z.made 16) (leb (z.n - z.end + z.made) z.limit) (ltb (num (words_at store 1 z.w)) (2 ^ (z.v + 1))) refl refl refl
  where
    go : (a b c : Bool) → leb z.made 16 ≡ a → leb (z.n - z.end + z.made) z.limit ≡ b → ltb (num (words_at store 1 z.w)) (2 ^ (z.v + 1)) ≡ c → (a && (b && c)) ≡ true → Placed z store
    go true true true x y w e = record { fits = leb-true _ _ y; leads = ltb-true _ _ w }
    go true true false x y w e = absurd (false≢true e)
    go true false c x y w e = absurd (false≢true e)
    go false b c x y w e = absurd (false≢true e)

module _ (v : ℕ) (p : Polynomial) (end : ℕ) (f : Below (2 ^ (v + 1)) p) (l : Last v p end) where
  -- a term in front of the last that holds v holds it too
  held : (i : ℕ) → i < end → bit (get_or p i (0, 0)).1 v ≡ 1
  held i d = ⊎_elim
      (λ (e : bit (get_or p i (0, 0)).1 v ≡ 0). absurd (omega (arith, free_behind v p i f e (end - 1) (omega arith) (omega (arith, l.high)), l.held (omega arith))))
      (λ (e : bit (get_or p i (0, 0)).1 v ≡ 1). e)
      (bit_cases (get_or p i (0, 0)).1 v)

  -- so they are passed over
  passed : (k : ℕ) → k ≤ end → without v p ≡ without v (drop k p)
  passed zero d = refl
  passed (suc k) d = passed k (omega arith) ∙ without_held v k p (omega (arith, l.high)) (held k (omega arith))

  -- and the rest are those that do not hold it
  pub front_passed : without v p ≡ drop end p
  front_passed = passed end (omega arith) ∙ without_rest v end p l.high l.free

-- the first set uses no more words than it has
pub first_low : (z : Sizes) (store scratch : List ℕ) → Both z store scratch → num (words_at store 1 z.w) < 2 ^ (64 * z.w)
first_low z store scratch h =
    let m : 64 * z.k ≤ 64 * z.w = omega (arith, h.task.short) in
    let l : num (words_at store 1 z.w) < 2 ^ (64 * z.k) = first_below (2 ^ (64 * z.k)) z.w z.n store (omega (arith, h.some, h.task.end_in)) h.task.falls in
    omega (arith, pow_mono {i = 64 * z.k} {j = 64 * z.w} m)

module _ (z : Sizes) (store scratch : List ℕ) (h : Both z store scratch) (q : Placed z store) {lent : ℕ} (named : Numbering z store scratch lent) where
  -- the rest of the store's terms
  rest_terms : decoded z.w (z.n - z.end) (drop (z.end * (z.w + 1)) store) ≡ drop z.end (old_terms z store)
  rest_terms = sym (decoded_drop z.w z.end z.n store h.task.end_in)

  -- what putting the new ones among them asks
  pub to_splice : Splicing z store scratch lent z.end 0 0
  to_splice = record {
    room = h.task.room;
    store_room = h.store_room;
    scratch_room = h.task.scratch_room;
    narrow = h.task.narrow;
    some = omega (arith, h.task.v_in);
    short = h.task.short;
    l_high = h.task.l_high;
    first_in = h.task.end_in;
    used_in = omega arith;
    fits = omega (arith, q.fits);
    falls = rw rest_terms (below_drop (2 ^ (64 * z.k)) z.end (old_terms z store) h.task.falls);
    coefficients = rw rest_terms (coefficients_drop (2 ^ z.l) z.end (old_terms z store) h.task.coefficients);
    new_falls = h.task.new_falls;
    new_coefficients = h.task.new_coefficients;
    some_number = named.some;
    new_numbered = named.new;
  }

  -- and what it leaves is both lists
  same : spliced z store scratch z.end 0 ≡ gather (2 ^ z.l) (without z.v (old_terms z store) ++ new_terms z scratch)
  same = ap (λ (p : Polynomial). gather (2 ^ z.l) (p ++ new_terms z scratch))
      (rest_terms ∙ sym (front_passed z.v (old_terms z store) z.end (all_below (2 ^ (64 * z.k)) (2 ^ (z.v + 1)) z.w z.n store h.task.falls q.leads) h.last))

  pub together_placed : (r : ℕ) (store' : List ℕ) → r ≡ length (spliced z store scratch z.end 0) → r ≤ z.limit → store' ≡ padded (length store) (polynomial_words z.w (spliced z store scratch z.end 0))
      → Together z (gather (2 ^ z.l) (without z.v (old_terms z store) ++ new_terms z scratch)) store scratch (Some r) store' scratch
  together_placed r store' e l s =
      let t : leb (length (gather (2 ^ z.l) (without z.v (old_terms z store) ++ new_terms z scratch))) z.limit ≡ true = le-leb (length (gather (2 ^ z.l) (without z.v (old_terms z store) ++ new_terms z scratch))) z.limit (rw (← same, ← e) l) in
      record { counted = rw t (ap Some (e ∙ ap length same)); stored = rw (t, ← same) s; kept = refl }

  -- the terms in front go, and then the new ones come
  pub numbers_placed : (r : ℕ) (n₀ n₁ n₂ : List ℕ) → r ≡ length (spliced z store scratch z.end 0) → r ≤ z.limit
      → Marked 4294967295 (occurring (decoded z.w z.end store)) n₀ n₁
      → Moved (occurring (terms_left z store z.end)) (occurring (spliced z store scratch z.end 0)) n₁ n₂
      → Renumbered z.limit (old_terms z store) (gather (2 ^ z.l) (without z.v (old_terms z store) ++ new_terms z scratch)) n₀ n₂
  numbers_placed r n₀ n₁ n₂ e l gone come =
      let few : length (gather (2 ^ z.l) (without z.v (old_terms z store) ++ new_terms z scratch)) ≤ z.limit = rw (← same, ← e) l in
      let front : take z.end (old_terms z store) ≡ decoded z.w z.end store = sym (decoded_take z.w z.end z.n store h.task.end_in) in
      let rest : (u : ℕ) → occurring (old_terms z store) u ≡ occurring (decoded z.w z.end store) u + occurring (terms_left z store z.end) u =
      λ u. rw (← front, rest_terms) (occurring_rest z.end (old_terms z store) u) in
      record {
        moved = λ d. rw (← same) (moved_add rest (λ u. sym (zero-add _)) (moved_gone (λ u. refl) gone) come);
        stayed = λ d. absurd (omega arith);
      }
