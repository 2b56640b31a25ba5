-- What is found in a text by one part of reading behind another, and what was found by each.
use mathlib.Core.Path.{◌≡◌, refl, ap, ◌∙◌}
use mathlib.Core.Bool.{Bool, true, false, cond}
use mathlib.Core.List.{List, [], ◌∷◌, ◌++◌}
use Prim.Native.Nat.{ℕ}
use native.Mathlib.Omega.{arith}
use lib.Dec.{eqb}
use borrow.Author.Tests.{eqb-true, eq-eqb}
use Rattle.rules.specs.Reading.{Scan, found, missing, behind, with_numbers, and_then, word, tested}

-- what is found is not missing
pub never : {A : Type 0} (s : Scan) (numbers text : List ℕ) → s ≡ missing → s ≡ found numbers text → A
never s numbers text m f = let z : ◌≡◌ {A = ℕ} 0 1 = cc in absurd (omega arith)

-- what is found behind numbers already there
pub with_back : (numbers : List ℕ) (s : Scan) (all rest : List ℕ) → with_numbers numbers s ≡ found all rest
    → (later : List ℕ) × (s ≡ found later rest) × (all ≡ numbers ++ later)
unfolding with_numbers
with_back numbers (found later text) all rest e = (later, cc, cc)
with_back numbers missing all rest e = never missing all rest refl e

-- what two parts found, each by itself
pub then_back : (s : Scan) (next : List ℕ → Scan) (all rest : List ℕ) → and_then s next ≡ found all rest
    → (numbers text later : List ℕ) × (s ≡ found numbers text) × (next text ≡ found later rest) × (all ≡ numbers ++ later)
unfolding and_then
then_back (found numbers text) next all rest e =
    let last = with_back numbers (next text) all rest e in
    (numbers, text, last.0, refl, last.1, last.2)
then_back missing next all rest e = never missing all rest refl e

-- both found: found one behind the other
pub then_forth : (s : Scan) (next : List ℕ → Scan) (numbers text later rest : List ℕ) → s ≡ found numbers text → next text ≡ found later rest
    → and_then s next ≡ found (numbers ++ later) rest
unfolding and_then with_numbers
then_forth s next numbers text later rest e f = rw (e, and_then, f)

-- a byte that is found is the first of the text
pub behind_back : (x : ℕ) (text numbers rest : List ℕ) → behind x text ≡ found numbers rest → (numbers ≡ []) × (text ≡ x ∷ rest)
unfolding behind
behind_back x [] numbers rest e = never missing numbers rest refl e
behind_back x (y ∷ text) numbers rest e = go (eqb x y) refl e
  where
    go : (t : Bool) → eqb x y ≡ t → cond t (found [] text) missing ≡ found numbers rest → (numbers ≡ []) × (y ∷ text ≡ x ∷ rest)
    go true h f = let same : x ≡ y = eqb-true x y h in (cc, cc)
    go false h f = never missing numbers rest refl f

-- a byte at the head of a text is found
pub behind_forth : (x : ℕ) (rest : List ℕ) → behind x (x ∷ rest) ≡ found [] rest
unfolding behind
behind_forth x rest = rw (eq-eqb x x refl)

-- a word that is found is what the text begins with
pub word_back : (letters text numbers rest : List ℕ) → word letters text ≡ found numbers rest → (numbers ≡ []) × (text ≡ letters ++ rest)
unfolding word
word_back [] text numbers rest e = (cc, cc)
word_back (x ∷ letters) text numbers rest e =
    let parts = then_back (behind x text) (word letters) numbers rest e in
    let head = behind_back x text parts.0 parts.1 parts.3 in
    let tail = word_back letters parts.1 parts.2 rest parts.4 in
    (parts.5 ∙ rw (head.0, tail.0), head.1 ∙ ap (λ (l : List ℕ). x ∷ l) tail.1)

-- a word that a text begins with is found
pub word_forth : (letters rest : List ℕ) → word letters (letters ++ rest) ≡ found [] rest
unfolding word
word_forth [] rest = refl
word_forth (x ∷ letters) rest =
    then_forth (behind x (x ∷ letters ++ rest)) (word letters) [] (letters ++ rest) [] rest (behind_forth x (letters ++ rest)) (word_forth letters rest)

-- numbers that are found under a test pass it
pub tested_back : (right : List ℕ → Bool) (words : List ℕ → List ℕ) (s : Scan) (all rest : List ℕ) → tested right words s ≡ found all rest
    → (numbers : List ℕ) × (s ≡ found numbers rest) × (right numbers ≡ true) × (all ≡ words numbers)
unfolding tested
tested_back right words (found numbers text) all rest e = go (right numbers) refl e
  where
    go : (t : Bool) → right numbers ≡ t → cond t (found (words numbers) text) missing ≡ found all rest
        → (others : List ℕ) × (found numbers text ≡ found others rest) × (right others ≡ true) × (all ≡ words others)
    go true h f = (numbers, cc, h, cc)
    go false h f = never missing all rest refl f
tested_back right words missing all rest e = never missing all rest refl e

-- numbers that pass a test are found under it
pub tested_forth : (right : List ℕ → Bool) (words : List ℕ → List ℕ) (s : Scan) (numbers rest : List ℕ) → s ≡ found numbers rest
    → right numbers ≡ true → tested right words s ≡ found (words numbers) rest
unfolding tested
tested_forth right words s numbers rest e h = rw (e, tested, h)
