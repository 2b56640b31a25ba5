-- The soonest set of a polynomial: it is one of its sets, and no other comes before it.
use mathlib.Core.Path.{◌≡◌, refl, ap, sym}
use mathlib.Core.Bool.{Bool, true, false, cond, ◌||◌, ◌&&◌, true≢false}
use mathlib.Core.List.{[], ◌∷◌}
use mathlib.Core.Logic.{◌⊎◌, inl, inr}
use Prim.Native.Nat.{ℕ, ◌<◌, ◌≤◌}
use native.Mathlib.Omega.{arith}
use lib.Count.{ones}
use lib.Dec.{ltb, eqb}
use borrow.Author.Tests.{ltb-true, ltb-false, eqb-true, eq-eqb}
use Rattle.rules.specs.Polynomial.{Polynomial}
use Rattle.rules.specs.Judging.{sooner, soonest}
use Rattle.rules.proofs.Indices.{both}
use Rattle.rules.proofs.AllSets.{AllSets}

-- the set s does not come after the set t: it has no more variables, and where as many is no greater number
abbrev pub NotAfter : ℕ → ℕ → Type 0
NotAfter s t = (ones s ≤ ones t) × (ones s ≡ ones t → s ≤ t)

-- not after a set that is not after a third: not after the third
not_after_trans : (r s t : ℕ) → NotAfter r s → NotAfter s t → NotAfter r t
not_after_trans r s t h k = (omega arith, λ e. omega (arith, h.1 (omega arith), k.1 (omega arith)))

-- the set s comes before the set t: it has fewer variables, or as many and is the smaller number
abbrev pub Earlier : ℕ → ℕ → Type 0
Earlier s t = (ones s < ones t) ⊎ ((ones s ≡ ones t) × (s < t))

-- what comes before a set comes before every set that the set does not come after
pub earlier_first : (r s t : ℕ) → Earlier r s → NotAfter s t → NotAfter r t × (t ≡ r → ⊥)
earlier_first r s t (inl fewer) k = ((omega arith, λ e. absurd (omega arith)), λ e. omega (arith, ap ones e))
earlier_first r s t (inr less) k =
    ((omega arith, λ e. omega (arith, k.1 (omega arith))), λ e. omega (arith, k.1 (omega (arith, ap ones e)), ap ones e))

-- a set that is sooner does not come after
sooner_true : (s t : ℕ) → sooner s t ≡ true → NotAfter s t
unfolding sooner
sooner_true s t h = go (ltb (ones s) (ones t)) refl h
  where
    go : (b : Bool) → ltb (ones s) (ones t) ≡ b → (b || (eqb (ones s) (ones t) && ltb s t)) ≡ true → NotAfter s t
    go true e h = let l = ltb-true (ones s) (ones t) e in (omega arith, λ q. absurd (omega arith))
    go false e h =
        let parts = both (eqb (ones s) (ones t)) (ltb s t) h in
        (omega (arith, eqb-true (ones s) (ones t) parts.0), λ q. omega (arith, ltb-true s t parts.1))

-- what a set is not sooner than does not come after it
sooner_false : (s t : ℕ) → sooner s t ≡ false → NotAfter t s
unfolding sooner
sooner_false s t h = go (ltb (ones s) (ones t)) refl h
  where
    go : (b : Bool) → ltb (ones s) (ones t) ≡ b → (b || (eqb (ones s) (ones t) && ltb s t)) ≡ false → NotAfter t s
    go true e h = absurd (true≢false h)
    go false e h = (ltb-false (ones s) (ones t) e, λ q. ltb-false s t (rw (eq-eqb (ones s) (ones t) (sym q)) at h))

-- of two sets, the one that is sooner
abbrev nearer : ℕ → ℕ → ℕ
nearer s t = cond (sooner t s) t s

-- it comes after neither
nearer_first : (s t : ℕ) → NotAfter (nearer s t) s × NotAfter (nearer s t) t
nearer_first s t = go (sooner t s) refl
  where
    go : (b : Bool) → sooner t s ≡ b → NotAfter (cond b t s) s × NotAfter (cond b t s) t
    go true e = (sooner_true t s e, (omega arith, λ q. omega arith))
    go false e = ((omega arith, λ q. omega arith), sooner_false t s e)

-- what holds of all holds of the soonest
pub soonest_holds : (P : ℕ → Type 0) (s : ℕ) (p : Polynomial) → P s → AllSets P p → P (soonest s p)
unfolding soonest
soonest_holds P s [] h all = h
soonest_holds P s (t ∷ p) h all = soonest_holds P (nearer s t.1) p (go (sooner t.1 s)) all.1
  where
    go : (b : Bool) → P (cond b t.1 s)
    go true = all.0
    go false = h

-- the soonest comes after none
pub soonest_first : (s : ℕ) (p : Polynomial) → NotAfter (soonest s p) s × AllSets (NotAfter (soonest s p)) p
unfolding soonest
soonest_first s [] = ((omega arith, λ q. omega arith), tt)
soonest_first s (t ∷ p) =
    let later = soonest_first (nearer s t.1) p in
    let near = nearer_first s t.1 in
    (not_after_trans _ (nearer s t.1) s later.0 near.0, (not_after_trans _ (nearer s t.1) t.1 later.0 near.1, later.1))
