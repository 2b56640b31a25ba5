-- Terms read from a list of words, w words to a set.
use Rattle.std.specs.Prelude.{ℕ, zero, suc, ◌+◌, List, [], ◌∷◌, take, drop, slice_index}
use Rattle.rules.specs.Polynomial.{Term, Polynomial}
use Rattle.words.specs.Numbers.{num, words_at}

-- the term whose words begin at a
abbrev pub term_at : ℕ → List ℕ → ℕ → Term
term_at w words a = (slice_index words a, num (words_at words (a + 1) w))

-- the first k terms
unfoldable pub decoded : ℕ → ℕ → List ℕ → Polynomial
decoded w zero words = []
decoded w (suc k) words = (slice_index words 0, num (take w (drop 1 words))) ∷ decoded w k (drop (suc w) words)
