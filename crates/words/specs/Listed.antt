-- The terms that stand in lent words.
use Rattle.std.specs.Prelude.{ℕ, get_or}
use Rattle.rules.specs.Polynomial.{Polynomial}
use Rattle.words.specs.Stored.{decoded}
use Rattle.words.specs.declared.listed.Terms.{Terms}

-- the list of the terms
abbrev pub terms_of : Terms → Polynomial
terms_of t = decoded t.width t.count t.words.now

-- the set of term i
abbrev pub set_of : Terms → ℕ → ℕ
set_of t i = (get_or (terms_of t) i (0, 0)).1

-- the coefficient of term i
abbrev pub coefficient_of : Terms → ℕ → ℕ
coefficient_of t i = (get_or (terms_of t) i (0, 0)).0
