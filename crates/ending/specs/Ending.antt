-- The answer by the last polynomial: what it asks of the words of the store.
use Rattle.std.specs.Prelude.{◌≡◌, false, List, [], ◌∷◌, ℕ, ◌+◌, ◌*◌, ◌%◌, ◌^◌, ◌<◌, ◌≤◌, length}
use Rattle.rules.specs.Judging.{misfits, set_width, term_width}
use Rattle.rules.specs.Polynomial.{Polynomial, Below, Under}
use Rattle.rules.specs.Product.{kind_of}
use Rattle.rules.specs.declared.counts.Counts.{Counts}
use Rattle.words.specs.Stored.{decoded}

-- variable 0 is in no set
abbrev pub Evens : Polynomial → Type 0
Evens [] = Unit
Evens (t ∷ p) = (t.1 % 2 ≡ 0) × Evens p

-- words of so many terms; sets that have a half in one word
pub record Halves (w count : ℕ) (store : List ℕ) : Type 0 where
  pub wide : 0 < w
  pub some : 0 < count
  pub room : count * (w + 1) ≤ length store
  pub under : Under (2 ^ 65) (decoded w count store)
  pub even : Evens (decoded w count store)

-- counts of a block that fits its kind, and in the store a polynomial over its variables
pub record Ending (c : Counts) (kind count : ℕ) (store : List ℕ) : Type 0 where
  pub fitting : misfits c (kind_of kind) ≡ false
  pub room : count * term_width c ≤ length store
  pub falls : Below (2 ^ (c.m + 1)) (decoded (set_width c) count store)
  pub even : Evens (decoded (set_width c) count store)
