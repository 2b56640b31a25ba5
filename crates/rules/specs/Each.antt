-- Over every index below a bound: a test, a sum, a row of lists.
use Rattle.std.specs.Prelude.{Bool, true, ◌&&◌, List, [], ◌∷◌, ◌++◌, ℕ, zero, suc, ◌+◌}

-- the test holds at every index below the bound
unfoldable pub each : ℕ → (ℕ → Bool) → Bool
each zero test = true
each (suc k) test = each k test && test k

-- the sum of the numbers at the indices below the bound
unfoldable pub sum : ℕ → (ℕ → ℕ) → ℕ
sum zero number = 0
sum (suc k) number = sum k number + number k

-- the lists at the indices below the bound, one behind the other
unfoldable pub joined : {A : Type 0} → ℕ → (ℕ → List A) → List A
joined zero list = []
joined (suc k) list = joined k list ++ list k

-- the values at the indices below the bound
unfoldable pub listed : {A : Type 0} → ℕ → (ℕ → A) → List A
listed zero value = []
listed (suc k) value = listed k value ++ value k ∷ []

-- the test holds of every entry of a list
unfoldable pub every : {A : Type 0} → (A → Bool) → List A → Bool
every test [] = true
every test (x ∷ list) = test x && every test list
