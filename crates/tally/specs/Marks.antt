-- Numbers of occurrences with something added or taken away.
use Rattle.std.specs.Prelude.{◌≡◌, Bool, true, false, ℕ, ◌+◌, ◌*◌, ◌%◌, ◌^◌, ◌<◌, ◌≤◌, List, [], ◌∷◌, length, slice_index}
use Rattle.rules.specs.Occurrences.{counts_at, occurring}
use Rattle.rules.specs.Polynomial.{Polynomial, Below}
use Rattle.rules.specs.Values.{bit}
use Rattle.words.specs.Listed.{terms_of}
use Rattle.words.specs.declared.listed.Terms.{Terms}

-- terms whose variables have numbers: every set is below 2^lent, and none has variable 0
abbrev pub Numbered : ℕ → Polynomial → Type 0
Numbered lent [] = Unit
Numbered lent (t ∷ p) = ((t.1 < 2 ^ lent) × (bit t.1 0 ≡ 0)) × Numbered lent p

-- what is asked to count terms: their sets fall and use k of their words, and their variables have numbers
pub record Counting (terms : Terms) (k lent : ℕ) : Type 0 where
  pub short : k ≤ terms.width
  pub some : 0 < lent
  pub falls : Below (2 ^ (64 * k)) (terms_of terms)
  pub numbered : Numbered lent (terms_of terms)

-- how often a set counts that is there, or not
unfoldable pub counts_if : Bool → ℕ → ℕ → ℕ
counts_if true s u = counts_at s u
counts_if false s u = 0

-- each number with `by` added as often as it is counted, modulo 2^32
pub record Marked (by : ℕ) (count : ℕ → ℕ) (entry exit : List ℕ) : Type 0 where
  pub long : length exit ≡ length entry
  pub each : (u : ℕ) → u < length entry → slice_index exit u ≡ (slice_index entry u + by * count u) % 2 ^ 32

-- each number more by what comes, and less by what goes, modulo 2^32
pub record Moved (gone come : ℕ → ℕ) (entry exit : List ℕ) : Type 0 where
  pub long : length exit ≡ length entry
  pub each : (u : ℕ) → u < length entry → (slice_index exit u + gone u) % 2 ^ 32 ≡ (slice_index entry u + come u) % 2 ^ 32

-- the numbers go on from p to q where q has at most `limit` terms; else they stay as they were
pub record Renumbered (limit : ℕ) (p q : Polynomial) (entry exit : List ℕ) : Type 0 where
  pub moved : length q ≤ limit → Moved (occurring p) (occurring q) entry exit
  pub stayed : limit < length q → exit ≡ entry
