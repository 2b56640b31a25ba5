-- The terms that do not hold v.
use mathlib.Core.Path.{◌≡◌, ◌∙◌}
use mathlib.Core.Bool.{Bool, true, false, cond}
use mathlib.Core.List.{[], ◌∷◌, ◌++◌, append-nil}
use Prim.Native.Nat.{ℕ, zero, suc, ◌+◌, ◌-◌, ◌<◌, ◌≤◌}
use native.Mathlib.Nat.{add-zero}
use native.Mathlib.Omega.{arith}
use lib.Dec.{eqb}
use lib.ListN.{length, get_or, take, drop, length-drop, drop_of_length-le}
use lib.Seq.{take_all, drop-cons}
use borrow.Author.Tests.{eq-eqb, ne_eqb}
use Rattle.rules.specs.Values.{bit}
use Rattle.rules.specs.Polynomial.{Polynomial, Below}
use Rattle.rules.proofs.Terms.{weaken}
use Rattle.weave.specs.Seeking.{Free}
use Rattle.weave.specs.Weaving.{without}

-- none is left
pub without_end : (v at : ℕ) (p : Polynomial) → length p ≤ at → without v (drop at p) ≡ []
unfolding without
without_end v at p h = rw (drop_of_length-le p {i = at} h)

-- a term that holds v is left out
pub without_held : (v at : ℕ) (p : Polynomial) → at < length p → bit (get_or p at (0, 0)).1 v ≡ 1 → without v (drop at p) ≡ without v (drop (suc at) p)
unfolding without
without_held v at p l h = rw (drop-cons p at (0, 0) l, eq-eqb (bit (get_or p at (0, 0)).1 v) 1 h)

-- a term that does not stays
pub without_some : (v at : ℕ) (p : Polynomial) → at < length p → bit (get_or p at (0, 0)).1 v ≡ 0 → without v (drop at p) ≡ get_or p at (0, 0) ∷ without v (drop (suc at) p)
unfolding without
without_some v at p l h = rw (drop-cons p at (0, 0) l, ne_eqb (bit (get_or p at (0, 0)).1 v) 1 (λ e. omega arith))

-- so does a stretch of them
pub without_free : (v d at : ℕ) (p : Polynomial) → at + d ≤ length p → Free v p at (at + d) → without v (drop at p) ≡ take d (drop at p) ++ without v (drop (at + d) p)
without_free v zero at p l h = rw add-zero
without_free v (suc d) at p l h =
    let e : at + suc d ≡ suc at + d = omega arith in
    let some : without v (drop at p) ≡ get_or p at (0, 0) ∷ without v (drop (suc at) p) = without_some v at p (omega arith) (h at (omega arith) (omega arith)) in
    let more : without v (drop (suc at) p) ≡ take d (drop (suc at) p) ++ without v (drop (suc at + d) p) = without_free v d (suc at) p (omega arith) (λ i a b. h i (omega arith) (omega arith)) in
    some ∙ rw (more, e, drop-cons p at (0, 0) (omega arith))

-- so do all that are left, where none holds v
pub without_rest : (v at : ℕ) (p : Polynomial) → at ≤ length p → Free v p at (length p) → without v (drop at p) ≡ drop at p
without_rest v at p l h =
    let e : at + (length p - at) ≡ length p = omega arith in
    let n : length (drop at p) ≤ length p - at = simp length-drop (omega arith) in
    without_free v (length p - at) at p (omega arith) (rw e h)
    ∙ rw (e, without_end v (length p) p (omega arith), take_all (length p - at) (drop at p) n, append-nil (drop at p))

-- they fall
pub without_below : (v b : ℕ) (p : Polynomial) → Below b p → Below b (without v p)
unfolding without
without_below v b [] h = tt
without_below v b (x ∷ p) h = go (eqb (bit x.1 v) 1) (without_below v x.1 p h.1)
  where
    go : (t : Bool) → Below x.1 (without v p) → Below b (cond t (without v p) (x ∷ without v p))
    go true r = weaken x.1 b (without v p) (omega arith) r
    go false r = (h.0, r)
