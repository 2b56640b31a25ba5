-- How often each variable occurs in a polynomial.
use Rattle.std.specs.Prelude.{◌≡◌, refl, List, [], ◌∷◌, ◌++◌, ℕ, zero, suc, ◌+◌, drop}
use Rattle.rules.specs.Each.{listed}
use Rattle.rules.specs.Polynomial.{Polynomial}
use Rattle.rules.specs.Values.{bit}
use Rattle.rules.specs.declared.counts.Counts.{Counts}
use Rattle.rules.specs.declared.records.RecordKind.TheVariants.{Gates}

-- how often a set counts at v: once where it holds v; at 0, which no set holds, every set counts
unfoldable pub counts_at : ℕ → ℕ → ℕ
counts_at s zero = 1
counts_at s (suc v) = bit s (suc v)

-- 1 for a coefficient that is there, 0 for none
unfoldable pub present : ℕ → ℕ
present zero = 0
present (suc c) = 1

-- the number of terms that hold v, and at 0 the number of all terms
unfoldable pub occurring : Polynomial → ℕ → ℕ
occurring [] v = 0
occurring (t ∷ p) v = counts_at t.1 v + occurring p v

-- the occurrences of a polynomial: entry 0, and an entry for each variable up to M
unfoldable pub occurrences : Counts → Polynomial → List ℕ
occurrences c p = listed (c.m + 1) (occurring p)

-- lent words with them in front, and behind them what was there
unfoldable pub with_occurrences : Counts → Polynomial → List ℕ → List ℕ
with_occurrences c p words = occurrences c p ++ drop (c.m + 1) words

-- P6, whose polynomial is gate 3 less a_0 b_0: two terms, and each variable in one of them
occurrences_right : occurrences (record { m = 3; i = 2; l = 0; o = 2; a = 1; records = Gates }) ((1, 8) ∷ (3, 6) ∷ []) ≡ 2 ∷ 1 ∷ 1 ∷ 1 ∷ []
unfolding occurrences occurring counts_at listed bit
occurrences_right = refl
