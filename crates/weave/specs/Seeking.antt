-- Places among terms whose sets fall.
use Rattle.std.specs.Prelude.{◌≡◌, List, ℕ, ◌+◌, ◌-◌, ◌*◌, ◌^◌, ◌<◌, ◌≤◌, length, get_or}
use Rattle.rules.specs.Values.{bit}
use Rattle.rules.specs.Polynomial.{Polynomial, Below}
use Rattle.words.specs.Listed.{terms_of}
use Rattle.words.specs.Numbers.{num, words_at}
use Rattle.words.specs.declared.listed.Terms.{Terms}
use Rattle.weave.specs.declared.seeking.Range.{Range}

-- the sets fall, and use no more than r of their w words
pub record Uses (w : ℕ) (p : Polynomial) (r : ℕ) : Type 0 where
  pub some : 0 < r
  pub within : r ≤ w
  pub falls : Below (2 ^ (64 * r)) p

-- no term from `from` to before `to` holds v
abbrev pub Free : ℕ → Polynomial → ℕ → ℕ → Type 0
Free v p from to = (i : ℕ) → from ≤ i → i < to → bit (get_or p i (0, 0)).1 v ≡ 0

-- r is the first place from `from` on that holds v, or the end
pub record Stop (v : ℕ) (p : Polynomial) (from r : ℕ) : Type 0 where
  pub low : from ≤ r
  pub high : r ≤ length p
  pub free : Free v p from r
  pub held : r < length p → bit (get_or p r (0, 0)).1 v ≡ 1

-- r is one more than the last place that holds v, or 0
pub record Last (v : ℕ) (p : Polynomial) (r : ℕ) : Type 0 where
  pub high : r ≤ length p
  pub free : Free v p r (length p)
  pub held : 0 < r → bit (get_or p (r - 1) (0, 0)).1 v ≡ 1

-- every set from `from` to before `to` is above s
abbrev pub Above : Polynomial → ℕ → ℕ → ℕ → Type 0
Above p s from to = (i : ℕ) → from ≤ i → i < to → s < (get_or p i (0, 0)).1

-- what a search among terms asks: their sets fall and use k of their words, and so does the set looked for
pub record Sought (terms : Terms) (k from to : ℕ) (others : List ℕ) (t : ℕ) : Type 0 where
  pub some : 0 < terms.width
  pub short : k ≤ terms.width
  pub ordered : from ≤ to
  pub within : to ≤ terms.count
  pub falls : Below (2 ^ (64 * k)) (terms_of terms)
  pub there : t + terms.width ≤ length others
  pub low : num (words_at others t terms.width) < 2 ^ (64 * k)

-- r is the first place from `from` to `to` whose set is not above s, or `to`
pub record Cut (p : Polynomial) (s from to r : ℕ) : Type 0 where
  pub low : from ≤ r
  pub high : r ≤ to
  pub above : Above p s from r
  pub under : r < to → (get_or p r (0, 0)).1 ≤ s

-- that place is from r.low to r.high
pub record Bracket (p : Polynomial) (s from to : ℕ) (r : Range) : Type 0 where
  pub low : from ≤ r.low
  pub ordered : r.low ≤ r.high
  pub high : r.high ≤ to
  pub above : Above p s from r.low
  pub under : r.high < to → (get_or p r.high (0, 0)).1 ≤ s
