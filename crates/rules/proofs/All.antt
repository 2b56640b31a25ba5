-- What holds of every entry of a list.
use mathlib.Core.List.{List, [], ◌∷◌, ◌++◌}
use Prim.Native.Nat.{ℕ, zero, suc, ◌<◌}
use native.Mathlib.Omega.{arith}
use lib.ListN.{get_or}
use Rattle.rules.specs.Each.{joined}

-- P holds of every entry
abbrev pub All : {A : Type 0} → (A → Type 0) → List A → Type 0
All P [] = Unit
All P (x ∷ list) = P x × All P list

-- what follows from what holds of every entry
pub all_map : {A : Type 0} {P Q : A → Type 0} (list : List A) → ((x : A) → P x → Q x) → All P list → All Q list
all_map [] f h = tt
all_map (x ∷ list) f h = (f x h.0, all_map list f h.1)

module _ {A : Type 0} (P : A → Type 0) where
  -- what holds always
  pub all_always : ((x : A) → P x) → (list : List A) → All P list
  all_always f [] = tt
  all_always f (x ∷ list) = (f x, all_always f list)

  -- of an entry, or of what stands for one behind the end
  pub all_at : (list : List A) (d : A) → P d → All P list → (i : ℕ) → P (get_or list i d)
  all_at [] d e h i = e
  all_at (x ∷ list) d e h zero = h.0
  all_at (x ∷ list) d e h (suc i) = all_at list d e h.1 i

  -- of two lists, one behind the other
  pub all_append : (list more : List A) → All P list → All P more → All P (list ++ more)
  all_append [] more h k = k
  all_append (x ∷ list) more h k = (h.0, all_append list more h.1 k)

  -- of the lists at the indices below a bound
  pub all_joined : (n : ℕ) (list : ℕ → List A) → ((i : ℕ) → i < n → All P (list i)) → All P (joined n list)
  unfolding joined
  all_joined zero list h = tt
  all_joined (suc n) list h = all_append (joined n list) (list n) (all_joined n list (λ i l. h i (omega arith))) (h n (omega arith))
