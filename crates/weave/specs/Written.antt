-- Terms written one behind the other in lent words, at most `limit` of them: how many, or None where there is no room for all.
use Rattle.std.specs.Prelude.{◌≡◌, List, ◌∷◌, ◌++◌, ℕ, ◌+◌, ◌*◌, ◌<◌, ◌≤◌, Option, None, Some, unwrap_or, MatchOption, length, take, drop, replicate}
use Rattle.rules.specs.Polynomial.{Polynomial}
use Rattle.words.specs.Stored.{decoded}

-- the term of c and the set's words was written as the o-th, unless c is 0 or there are `limit` already
pub record Emitted (w o limit c : ℕ) (set d d' : List ℕ) (r : Option ℕ) : Type 0 where
  pub skip : c ≡ 0 → (r ≡ Some o) × (d' ≡ d)
  pub full : 0 < c → o ≡ limit → (r ≡ None) × (d' ≡ d)
  pub put : 0 < c → o < limit → (r ≡ Some (o + 1)) × (d' ≡ take (o * (w + 1)) d ++ ((c ∷ set) ++ drop (o * (w + 1) + (w + 1)) d))

-- only the words of the terms written changed, or of `limit` terms where there is no room
abbrev pub Behind : ℕ → ℕ → Option ℕ → List ℕ → List ℕ → Type 0
Behind w limit r d d' = drop (unwrap_or r limit * (w + 1)) d' ≡ drop (unwrap_or r limit * (w + 1)) d

-- the words behind the terms written are as they were; where there is no room, zeros stand in the place of `limit` terms
abbrev pub Kept : ℕ → ℕ → Option ℕ → List ℕ → List ℕ → Type 0
Kept w limit r d d' = MatchOption r (d' ≡ replicate (limit * (w + 1)) 0 ++ drop (limit * (w + 1)) d) (λ n. drop (n * (w + 1)) d' ≡ drop (n * (w + 1)) d)

-- the terms written are the polynomial q, and at most `limit`; there is no room where q has more
abbrev pub Gathered : ℕ → ℕ → Polynomial → Option ℕ → List ℕ → Type 0
Gathered w limit q r d' = MatchOption r (limit < length q) (λ n. (n ≤ limit) × (decoded w n d' ≡ q))
