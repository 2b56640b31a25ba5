-- The weave of the terms that do not hold v with new terms: what it asks, how far it is, and what it leaves.
use Rattle.std.specs.Prelude.{◌≡◌, Bool, false, cond, ◌||◌, List, [], ◌∷◌, ◌++◌, ℕ, ◌+◌, ◌-◌, ◌*◌, ◌^◌, ◌<◌, ◌≤◌, Option, None, Some, option_map, MatchOption, ltb, eqb, length, get_or, drop}
use Rattle.rules.specs.Values.{bit}
use Rattle.rules.specs.Polynomial.{Polynomial, Below, Coefficients, gather}
use Rattle.words.specs.Stored.{decoded}
use Rattle.weave.specs.Merging.{Merging, two}
use Rattle.weave.specs.Seeking.{Free, Stop, Above}
use Rattle.weave.specs.Written.{Behind}
use Rattle.weave.specs.declared.weaving.Sizes.{Sizes}
use Rattle.weave.specs.declared.weaving.Parts.{Parts}
use Rattle.weave.specs.declared.weaving.Place.{Place}

-- the terms that hold v
unfoldable pub holding : ℕ → Polynomial → Polynomial
holding v [] = []
holding v (t ∷ p) = cond (eqb (bit t.1 v) 1) (t ∷ holding v p) (holding v p)

-- the terms that do not hold v
unfoldable pub without : ℕ → Polynomial → Polynomial
without v [] = []
without v (t ∷ p) = cond (eqb (bit t.1 v) 1) (without v p) (t ∷ without v p)

-- the new terms: they stand behind room for `limit` terms
abbrev pub new_terms : Sizes → List ℕ → Polynomial
new_terms z scratch = decoded z.w z.made (drop (z.limit * (z.w + 1)) scratch)

-- the terms of the store
abbrev pub old_terms : Sizes → List ℕ → Polynomial
old_terms z store = decoded z.w z.n store

-- what the weave asks: both lists fall, their sets use k words, and their coefficients are from 1 to 2^l - 1
pub record Task (z : Sizes) (store scratch : List ℕ) : Type 0 where
  pub room : z.n * (z.w + 1) ≤ length store
  pub scratch_room : (z.limit + z.made) * (z.w + 1) ≤ length scratch
  pub narrow : z.w ≤ 16
  pub v_in : z.v < 64 * z.w
  pub short : z.k ≤ z.w
  pub l_high : z.l ≤ 64
  pub end_in : z.end ≤ z.n
  pub free : Free z.v (old_terms z store) z.end z.n
  pub falls : Below (2 ^ (64 * z.k)) (old_terms z store)
  pub coefficients : Coefficients (2 ^ z.l) (old_terms z store)
  pub new_falls : Below (2 ^ (64 * z.k)) (new_terms z scratch)
  pub new_coefficients : Coefficients (2 ^ z.l) (new_terms z scratch)

-- how far the weave of p without v and of q is: what is written, and what is left of both
pub record State (z : Sizes) (p q : Polynomial) (k : Place) (out : Polynomial) : Type 0 where
  pub stop : Stop z.v p k.at k.stop
  pub used : k.used ≤ length q
  pub counted : length out ≡ k.out
  pub most : k.out ≤ z.limit
  pub going : Merging (2 ^ z.l) (2 ^ (64 * z.k)) 2 (without z.v p ++ q) out (two (without z.v (drop k.at p)) (drop k.used q))

-- the polynomial q in two parts: the terms written, and behind them the terms of p from `at` on; there is no room where q has more than
-- `limit` terms
abbrev pub Joined : ℕ → ℕ → Polynomial → Polynomial → Option Parts → List ℕ → Type 0
Joined w limit q p r d' =
    MatchOption r (limit < length q) (λ parts. (parts.out ≤ limit) × (parts.at ≤ length p) × (decoded w parts.out d' ++ drop parts.at p ≡ q))

-- how many terms are written
abbrev pub written : Option Parts → Option ℕ
written r = option_map (λ parts. parts.out) r

-- a new term or one that holds v is left
unfoldable pub going_on : Sizes → Place → Bool
going_on z k = ltb k.at z.end || ltb k.used z.made

-- the terms that are left
abbrev pub left : Sizes → Place → ℕ
left z k = (z.n - k.at) + (z.made - k.used)

-- the next term of p has the set of the next one of q
unfoldable pub meeting : Polynomial → Polynomial → Place → Bool
meeting p q k = cond (ltb k.at k.stop) (eqb (get_or p k.at (0, 0)).1 (get_or q k.used (0, 0)).1) false

-- the weave is under way
pub record Midway (z : Sizes) (store scratch : List ℕ) (k : Place) : Type 0 where
  pub task : Task z store scratch
  pub state : State z (old_terms z store) (new_terms z scratch) k (decoded z.w k.out scratch)

-- the next new term is to be taken: no term of the store that is left and does not hold v is above it
pub record Head (z : Sizes) (p q : Polynomial) (k : Place) : Type 0 where
  pub some : k.used < z.made
  pub all : k.at ≡ k.stop → k.at ≡ z.n
  pub under : k.at < k.stop → (get_or p k.at (0, 0)).1 ≤ (get_or q k.used (0, 0)).1

-- the store's terms from the next one up to `to` do not hold v, and are above the next new term, if there is one
pub record Stretch (z : Sizes) (p q : Polynomial) (k : Place) (to : ℕ) : Type 0 where
  pub some : k.at < to
  pub within : to ≤ k.stop
  pub above : k.used < z.made → Above p (get_or q k.used (0, 0)).1 k.at to

-- a turn took the weave on from k to r
pub record Onward (z : Sizes) (store scratch : List ℕ) (k r : Place) (scratch' : List ℕ) : Type 0 where
  pub state : State z (old_terms z store) (new_terms z scratch) r (decoded z.w r.out scratch')
  pub behind : Behind z.w z.limit (Some r.out) scratch scratch'
  pub grows : k.out ≤ r.out
  pub fewer : left z r < left z k

-- there is no room for both lists: gathered they have more than `limit` terms
pub record Full (z : Sizes) (store scratch scratch' : List ℕ) : Type 0 where
  pub full : z.limit < length (gather (2 ^ z.l) (without z.v (old_terms z store) ++ new_terms z scratch))
  pub behind : Behind z.w z.limit None scratch scratch'

-- a turn took the weave on from k, or found that there is no room
abbrev pub Turned : Sizes → List ℕ → List ℕ → Place → Option Place → List ℕ → Type 0
Turned z store scratch k r scratch' = MatchOption r (Full z store scratch scratch') (λ place. Onward z store scratch k place scratch')
