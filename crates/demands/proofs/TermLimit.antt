-- The first polynomial of a list that has more terms than the limit, and the terms held before it.
use mathlib.Core.Path.{◌≡◌, refl, sym}
use mathlib.Core.Bool.{Bool, true, false, cond}
use mathlib.Core.List.{List, [], ◌∷◌}
use mathlib.Core.Logic.{◌⊎◌, inl, inr}
use Prim.Native.Nat.{ℕ, zero, suc, ◌+◌, ◌<◌, ◌≤◌}
use native.Mathlib.Numerals.{add-one}
use native.Mathlib.Omega.{arith}
use lib.Dec.{ltb}
use lib.ListN.{length, get_or}
use borrow.Author.Tests.{ltb-true, ltb-false}
use Rattle.rules.specs.Polynomial.{Polynomial}
use Rattle.rules.specs.Judging.{roomy, held}

-- no terms at the start, else those of the polynomial before
abbrev pub HeldTerms : List Polynomial → ℕ → ℕ → Type 0
HeldTerms list k terms = ((k ≡ 0) × (terms ≡ 0)) ⊎ ((j : ℕ) × (k ≡ j + 1) × (terms ≡ length (get_or list j [])))

module _ (limit : ℕ) where
  -- at most all polynomials of a list have room
  pub roomy_le : (list : List Polynomial) → roomy limit list ≤ length list
  unfolding roomy
  roomy_le [] = omega arith
  roomy_le (p ∷ list) = go (ltb limit (length p)) (roomy_le list)
    where
      go : (t : Bool) → roomy limit list ≤ length list → cond t 0 (suc (roomy limit list)) ≤ suc (length list)
      go true h = omega arith
      go false h = omega arith

  -- the polynomials before the first that has no room have it
  pub room_before : (list : List Polynomial) (j : ℕ) → j < roomy limit list → length (get_or list j []) ≤ limit
  unfolding roomy
  room_before [] j h = absurd (omega arith)
  room_before (p ∷ list) zero h = go (ltb limit (length p)) refl h
    where
      go : (t : Bool) → ltb limit (length p) ≡ t → 0 < cond t 0 (suc (roomy limit list)) → length p ≤ limit
      go true e h = absurd (omega arith)
      go false e h = ltb-false limit (length p) e
  room_before (p ∷ list) (suc j) h = room_before list j (go (ltb limit (length p)) h)
    where
      go : (t : Bool) → suc j < cond t 0 (suc (roomy limit list)) → j < roomy limit list
      go true h = absurd (omega arith)
      go false h = omega arith

  -- the first that has no room has more terms than the limit
  pub room_end : (list : List Polynomial) → roomy limit list < length list → limit < length (get_or list (roomy limit list) [])
  unfolding roomy
  room_end [] h = absurd (omega arith)
  room_end (p ∷ list) h = go (ltb limit (length p)) refl h (room_end list)
    where
      go : (t : Bool) → ltb limit (length p) ≡ t → cond t 0 (suc (roomy limit list)) < suc (length list)
          → (roomy limit list < length list → limit < length (get_or list (roomy limit list) []))
          → limit < length (get_or (p ∷ list) (cond t 0 (suc (roomy limit list))) [])
      go true e h later = ltb-true limit (length p) e
      go false e h later = later (omega arith)

  -- it is the only one that has no room and before which all have
  pub room_only : (list : List Polynomial) (k : ℕ) → k < length list → limit < length (get_or list k [])
      → ((j : ℕ) → j < k → length (get_or list j []) ≤ limit) → roomy limit list ≡ k
  room_only list k l more before =
      let sooner : roomy limit list < k → ⊥ = λ h. omega (arith, before (roomy limit list) h, room_end list (omega arith)) in
      let later : k < roomy limit list → ⊥ = λ h. omega (arith, room_before list k h) in
      omega arith

  -- where all have room there is no such
  pub room_all : (list : List Polynomial) (n : ℕ) → length list ≡ suc n → ((j : ℕ) → j ≤ n → length (get_or list j []) ≤ limit) → n < roomy limit list
  room_all list n l all =
      let ends : roomy limit list ≤ n → ⊥ = λ h. omega (arith, all (roomy limit list) h, room_end list (omega arith)) in
      omega arith

  -- the terms held: none at the start, else those of the last polynomial that has room
  pub length_held : (list : List Polynomial) (k : ℕ) → roomy limit list ≡ k → HeldTerms list k (length (held limit list))
  unfolding held
  length_held list zero e = inl (refl, rw e)
  length_held list (suc j) e = inr (j, sym (add-one j), rw e)

  -- and no other number
  pub held_length : (list : List Polynomial) (k terms : ℕ) → roomy limit list ≡ k → HeldTerms list k terms → length (held limit list) ≡ terms
  unfolding held
  held_length list k terms e (inl h) = rw (e, h.0) (sym h.1)
  held_length list k terms e (inr h) = rw (e, h.1, add-one) (sym h.2)
