-- What holds at every index below a bound, and what is listed there.
use mathlib.Core.Path.{◌≡◌, refl, ◌∙◌}
use mathlib.Core.Bool.{Bool, true, false, ◌&&◌, ◌||◌, true≢false}
use mathlib.Core.List.{List, [], ◌∷◌}
use mathlib.Core.Logic.{◌⊎◌, ⊎_elim}
use Prim.Native.Nat.{ℕ, zero, suc, ◌+◌, ◌<◌}
use native.Mathlib.Nat.{eq-or-lt_of_le, le_of_suc-le-suc}
use native.Mathlib.Numerals.{add-one}
use native.Mathlib.Omega.{arith}
use lib.ListN.{length, get_or, length-append, get_or-append}
use lib.Seq.{get_or_at}
use Rattle.rules.specs.Each.{each, sum, listed, every}

-- both parts of a test that holds
pub both : (a b : Bool) → (a && b) ≡ true → (a ≡ true) × (b ≡ true)
both true true h = (refl, refl)
both true false h = (refl, h)
both false true h = (h, refl)
both false false h = (h, h)

-- both parts of a choice that does not hold
pub neither : (a b : Bool) → (a || b) ≡ false → (a ≡ false) × (b ≡ false)
neither true b h = absurd (true≢false h)
neither false b h = (refl, h)

-- a test of two parts that hold
pub and_both : (a b : Bool) → a ≡ true → b ≡ true → (a && b) ≡ true
and_both true b h k = k
and_both false b h k = h

-- below one more: there, or below
pub below_suc : (i n : ℕ) → i < suc n → (i ≡ n) ⊎ (i < n)
below_suc i n h = eq-or-lt_of_le (le_of_suc-le-suc h)

-- the test at an index
pub each_at : (n : ℕ) (test : ℕ → Bool) → each n test ≡ true → (i : ℕ) → i < n → test i ≡ true
unfolding each
each_at zero test h i l = absurd (omega arith)
each_at (suc n) test h i l =
    let parts = both (each n test) (test n) h in
    ⊎_elim (λ (e : i ≡ n). rw e parts.1) (λ (k : i < n). each_at n test parts.0 i k) (below_suc i n l)

-- the test at every index
pub each_all : (n : ℕ) (test : ℕ → Bool) → ((i : ℕ) → i < n → test i ≡ true) → each n test ≡ true
unfolding each
each_all zero test h = refl
each_all (suc n) test h =
    and_both (each n test) (test n) (each_all n test (λ i l. h i (omega arith))) (h n (omega arith))

-- an index at which it fails
pub each_fails : (n : ℕ) (test : ℕ → Bool) → each n test ≡ false → (i : ℕ) × (i < n) × (test i ≡ false)
unfolding each
each_fails zero test h = absurd (true≢false h)
each_fails (suc n) test h = go (each n test) (test n) refl refl h (λ e. each_fails n test e)
  where
    go : (a b : Bool) → each n test ≡ a → test n ≡ b → (a && b) ≡ false → (each n test ≡ false → (i : ℕ) × (i < n) × (test i ≡ false)) → (i : ℕ) × (i < suc n) × (test i ≡ false)
    go true b e f k r = (n, omega arith, f ∙ k)
    go false b e f k r = let z = r e in (z.0, omega (arith, z.1), z.2)

-- the test of an entry
pub every_at : {A : Type 0} (test : A → Bool) (list : List A) (d : A) → every test list ≡ true → (i : ℕ) → i < length list → test (get_or list i d) ≡ true
unfolding every
every_at test [] d h i l = absurd (omega arith)
every_at test (x ∷ list) d h zero l = (both (test x) (every test list) h).0
every_at test (x ∷ list) d h (suc i) l = every_at test list d (both (test x) (every test list) h).1 i (omega arith)

-- the test of every entry
pub every_all : {A : Type 0} (test : A → Bool) (list : List A) (d : A) → ((i : ℕ) → i < length list → test (get_or list i d) ≡ true) → every test list ≡ true
unfolding every
every_all test [] d h = refl
every_all test (x ∷ list) d h =
    and_both (test x) (every test list) (h 0 (omega arith)) (every_all test list d (λ i l. h (suc i) (omega arith)))

-- as many values are listed as asked for
pub length_listed : {A : Type 0} (n : ℕ) (value : ℕ → A) → length (listed n value) ≡ n
unfolding listed
length_listed zero value = refl
length_listed (suc n) value = simp (length-append, length_listed n value) (add-one n)

-- the value listed at an index
pub get_or_listed : {A : Type 0} (n : ℕ) (value : ℕ → A) (d : A) (i : ℕ) → i < n → get_or (listed n value) i d ≡ value i
unfolding listed
get_or_listed zero value d i l = absurd (omega arith)
get_or_listed (suc n) value d i l =
    ⊎_elim
    (λ (e : i ≡ n). rw e (get_or_at (listed n value) (value n) [] d n (length_listed n value)))
    (λ (k : i < n). get_or-append (listed n value) (value n ∷ []) d i (rw (length_listed n value) k) ∙ get_or_listed n value d i k)
    (below_suc i n l)

-- equal numbers have equal sums
pub sum_same : (n : ℕ) (f g : ℕ → ℕ) → ((i : ℕ) → i < n → f i ≡ g i) → sum n f ≡ sum n g
unfolding sum
sum_same zero f g h = refl
sum_same (suc n) f g h = rw (sum_same n f g (λ i l. h i (omega arith)), h n (omega arith))

-- a sum of sums of two
pub sum_add : (n : ℕ) (f g : ℕ → ℕ) → sum n (λ i. f i + g i) ≡ sum n f + sum n g
unfolding sum
sum_add zero f g = refl
sum_add (suc n) f g = omega (arith, sum_add n f g)
