-- New terms put into a store in place: where each goes, and what is then in the store.
use Rattle.std.specs.Prelude.{◌≡◌, true, false, List, ◌++◌, ℕ, ◌+◌, ◌-◌, ◌*◌, ◌%◌, ◌^◌, ◌<◌, ◌≤◌, length, get_or, take, drop}
use Rattle.rules.specs.Polynomial.{Polynomial, Below, Coefficients, gather}
use Rattle.words.specs.Listed.{terms_of}
use Rattle.words.specs.declared.listed.Terms.{Terms}
use Rattle.words.specs.Numbers.{num, words_at}
use Rattle.words.specs.Stored.{decoded}
use Rattle.tally.specs.Marks.{Numbered}
use Rattle.weave.specs.Seeking.{Cut}
use Rattle.weave.specs.Weaving.{new_terms}
use Rattle.weave.specs.declared.weaving.Sizes.{Sizes}
use Rattle.splice.specs.declared.spots.Spot.{Spot}

-- what is asked to find where a new term goes: the terms' sets fall and use k words, as its own does
pub record Spotting (terms : Terms) (k l : ℕ) (scratch : List ℕ) (from : ℕ) : Type 0 where
  pub some : 0 < terms.width
  pub short : k ≤ terms.width
  pub l_high : l ≤ 64
  pub falls : Below (2 ^ (64 * k)) (terms_of terms)
  pub coefficients : Coefficients (2 ^ l) (terms_of terms)
  pub there : from + (terms.width + 1) ≤ length scratch
  pub low : num (words_at scratch (from + 1) terms.width) < 2 ^ (64 * k)
  pub small : get_or scratch from 0 < 2 ^ l

-- where the term (c, s) goes among those of p: behind all that are above it; with the next one where that has its set
pub record Spotted (m : ℕ) (p : Polynomial) (c s : ℕ) (r : Spot) : Type 0 where
  pub cut : Cut p s 0 (length p) r.above
  pub both : r.above < length p → (get_or p r.above (0, 0)).1 ≡ s → (r.met ≡ true) × (r.c ≡ (c + (get_or p r.above (0, 0)).0) % m)
  pub alone : (r.above < length p → (get_or p r.above (0, 0)).1 ≡ s → ⊥) → (r.met ≡ false) × (r.c ≡ c)

-- the store's terms from the `first`-th on
abbrev pub terms_left : Sizes → List ℕ → ℕ → Polynomial
terms_left z store first = decoded z.w (z.n - first) (drop (first * (z.w + 1)) store)

-- these and the new ones from the `used`-th on, gathered
abbrev pub spliced : Sizes → List ℕ → List ℕ → ℕ → ℕ → Polynomial
spliced z store scratch first used = gather (2 ^ z.l) (terms_left z store first ++ drop used (new_terms z scratch))

-- what is asked to put them together from the `to`-th place on: both lists fall, there is room, and the variables have numbers
pub record Splicing (z : Sizes) (store scratch : List ℕ) (lent first used to : ℕ) : Type 0 where
  pub room : z.n * (z.w + 1) ≤ length store
  pub store_room : z.limit * (z.w + 1) ≤ length store
  pub scratch_room : (z.limit + z.made) * (z.w + 1) ≤ length scratch
  pub narrow : z.w ≤ 16
  pub some : 0 < z.w
  pub short : z.k ≤ z.w
  pub l_high : z.l ≤ 64
  pub first_in : first ≤ z.n
  pub used_in : used ≤ z.made
  pub fits : to + (z.n - first) + (z.made - used) ≤ z.limit
  pub falls : Below (2 ^ (64 * z.k)) (terms_left z store first)
  pub coefficients : Coefficients (2 ^ z.l) (terms_left z store first)
  pub new_falls : Below (2 ^ (64 * z.k)) (drop used (new_terms z scratch))
  pub new_coefficients : Coefficients (2 ^ z.l) (drop used (new_terms z scratch))
  pub some_number : 0 < lent
  pub new_numbered : Numbered lent (drop used (new_terms z scratch))

-- they are there; words in front of both places are as they were, and those behind what the store held and what it holds
pub record Spliced (z : Sizes) (store scratch : List ℕ) (first used to r : ℕ) (store' : List ℕ) : Type 0 where
  pub most : r ≤ z.n - first + (z.made - used)
  pub counted : r ≡ length (spliced z store scratch first used)
  pub there : decoded z.w r (drop (to * (z.w + 1)) store') ≡ spliced z store scratch first used
  pub front : (b : ℕ) → b ≤ first * (z.w + 1) → b ≤ to * (z.w + 1) → take b store' ≡ take b store
  pub behind : (b : ℕ) → z.n * (z.w + 1) ≤ b → (to + r) * (z.w + 1) ≤ b → drop b store' ≡ drop b store
