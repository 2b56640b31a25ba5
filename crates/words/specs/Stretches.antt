-- Stretches of words, copied and moved.
use Rattle.std.specs.Prelude.{ℕ, ◌+◌, List, ◌++◌, take, drop}

-- d with the n words at `from` of `words` in place of those at `to`
abbrev pub copied : List ℕ → ℕ → List ℕ → ℕ → ℕ → List ℕ
copied words from d to n = take to d ++ (take n (drop from words) ++ drop (to + n) d)

-- d with its n words at `from` in place of those at `to`
abbrev pub moved : ℕ → ℕ → ℕ → List ℕ → List ℕ
moved from to n d = copied d from d to n
