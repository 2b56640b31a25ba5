-- A word at the start of a text.
use mathlib.Core.Path.{◌≡◌, refl, sym, ◌∙◌}
use mathlib.Core.Bool.{Bool, true, false, cond, ◌&&◌}
use mathlib.Core.List.{List, [], ◌∷◌}
use Prim.Native.Nat.{ℕ, ◌+◌}
use native.Mathlib.Omega.{arith}
use lib.Dec.{eqb}
use lib.ListN.{length, take, drop}
use lib.Pointwise.{pointwise}
use Rattle.std.specs.Borrow.{Bor}
use Rattle.std.specs.Prelude.{Option, Some, None, MatchOption}
use Rattle.std.proofs.lemmas.Bool.Decides.{nat_tests}
use Rattle.rules.specs.Reading.{found, missing, and_then, behind, word}
use Rattle.lines.specs.Found.{rest_scan}
use Rattle.lines.proofs.Scans.{with_none}

-- a word is there where the bytes in front are its bytes
word_is : (letters text : List ℕ)
    → word letters text ≡ cond (pointwise eqb (take (length letters) text) letters) (found [] (drop (length letters) text)) missing
unfolding word behind and_then
word_is [] text = refl
word_is (x ∷ letters) [] = refl
word_is (x ∷ letters) (y ∷ text) =
    let same : eqb x y ≡ eqb y x = grind (arith, nat_tests) in
    rw same (go (eqb y x) (word_is letters text))
  where
    go : (b : Bool) → word letters text ≡ cond (pointwise eqb (take (length letters) text) letters) (found [] (drop (length letters) text)) missing
        → and_then (cond b (found [] text) missing) (word letters) ≡ cond (b && pointwise eqb (take (length letters) text) letters) (found [] (drop (length letters) text)) missing
    go true e = with_none (word letters text) ∙ e
    go false e = refl

-- what is left once a word is stripped
pub word_stripped : (letters text : List ℕ) (r : Option (Bor (List ℕ)))
    → MatchOption r
    (pointwise eqb (take (length letters) text) letters ≡ false)
    (λ rest. (pointwise eqb (take (length letters) text) letters ≡ true) × (rest.now ≡ drop (length letters) text) × (length rest.now + length letters ≡ length text))
    → rest_scan r ≡ word letters text
word_stripped letters text (Some rest) h = rw h.1 (sym (word_is letters text ∙ rw h.0))
word_stripped letters text None h = sym (word_is letters text ∙ rw h)
