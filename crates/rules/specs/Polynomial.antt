-- Polynomials modulo m = 2^l: terms, like terms gathered, zero terms dropped, sets falling.
use Rattle.std.specs.Prelude.{Bool, true, false, cond, List, [], ◌∷◌, ◌++◌, ℕ, zero, suc, ◌+◌, ◌-◌, ◌*◌, ◌%◌, ◌^◌, ◌<◌, ltb, eqb}
use Rattle.rules.specs.Netlist.{variable, inverted}
use Rattle.rules.specs.Values.{bit}

-- a coefficient and a set of variables; the set is the sum of 2^v over its variables
abbrev pub Term : Type 0
Term = ℕ × ℕ

abbrev pub Polynomial : Type 0
Polynomial = List Term

-- the sets fall, and all are below b
abbrev pub Below : ℕ → Polynomial → Type 0
Below b [] = Unit
Below b (t ∷ p) = (t.1 < b) × Below t.1 p

-- the coefficients are from 1 to m - 1
abbrev pub Coefficients : ℕ → Polynomial → Type 0
Coefficients m [] = Unit
Coefficients m (t ∷ p) = (0 < t.0) × (t.0 < m) × Coefficients m p

-- c where s is the set asked for, else 0
unfoldable pub hit : ℕ → ℕ → ℕ → ℕ
hit asked s c = cond (eqb s asked) c 0

-- the coefficient at a set: the sum over the terms that have it
unfoldable pub coefficient_at : Polynomial → ℕ → ℕ
coefficient_at [] asked = 0
coefficient_at (t ∷ p) asked = hit asked t.1 t.0 + coefficient_at p asked

-- every set is below b
abbrev pub Under : ℕ → Polynomial → Type 0
Under b [] = Unit
Under b (t ∷ p) = (t.1 < b) × Under b p

-- the term with coefficient c and set s in front, unless c is 0
unfoldable pub keep : ℕ → ℕ → Polynomial → Polynomial
keep zero s p = p
keep (suc c) s p = (suc c, s) ∷ p

-- c times the set s at its place: with the like term t, below t, or above t, by whether s equals t's set or is less
unfoldable pub place : ℕ → ℕ → ℕ → Term → Polynomial → Polynomial → Bool → Bool → Polynomial
place m c s t p lower true less = keep ((c + t.0) % m) s p
place m c s t p lower false true = t ∷ lower
place m c s t p lower false false = keep (c % m) s (t ∷ p)

-- one term more, gathered
unfoldable pub insert : ℕ → ℕ → ℕ → Polynomial → Polynomial
insert m c s [] = keep (c % m) s []
insert m c s (t ∷ p) = place m c s t p (insert m c s p) (eqb s t.1) (ltb s t.1)

-- all terms, gathered
unfoldable pub gather : ℕ → Polynomial → Polynomial
gather m [] = []
gather m (t ∷ p) = insert m t.0 t.1 (gather m p)

-- minus a polynomial modulo m: each coefficient times m - 1; not yet gathered
unfoldable pub minus : ℕ → Polynomial → Polynomial
minus m [] = []
minus m (t ∷ p) = ((m - 1) * t.0, t.1) ∷ minus m p

-- the set s with variable v in it, each variable at most once: x·x is x
unfoldable pub with_variable : ℕ → ℕ → ℕ
with_variable s v = s + (1 - bit s v) * 2 ^ v

-- a term times variable v or its inverse; variable 0 is false
unfoldable pub times_variable : ℕ → ℕ → ℕ → Term → Polynomial
times_variable m zero zero t = []
times_variable m zero (suc k) t = t ∷ []
times_variable m (suc v) zero t = (t.0, with_variable t.1 (suc v)) ∷ []
times_variable m (suc v) (suc k) t = t ∷ (m - t.0, with_variable t.1 (suc v)) ∷ []

-- every term times variable v, where it is chosen; variable 0 is constant false
unfoldable pub times_chosen : ℕ → ℕ → Polynomial → Polynomial
times_chosen zero v p = p
times_chosen (suc k) v [] = []
times_chosen (suc k) zero (t ∷ p) = []
times_chosen (suc k) (suc v) (t ∷ p) = (t.0, with_variable t.1 (suc v)) ∷ times_chosen (suc k) (suc v) p

-- every term times the literal x: 0, 1, x or 1 - x
unfoldable pub times_literal : ℕ → ℕ → Polynomial → Polynomial
times_literal m x [] = []
times_literal m x (t ∷ p) = times_variable m (variable x) (inverted x) t ++ times_literal m x p
