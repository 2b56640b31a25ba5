-- A field is a number below 10,000 and the byte behind it; fields are one behind the other.
use mathlib.Core.Path.{◌≡◌, refl, ap, sym, ◌∙◌}
use mathlib.Core.Bool.{Bool, true, false, cond, not}
use mathlib.Core.List.{List, [], ◌∷◌, ◌++◌, append_assoc}
use Prim.Native.Nat.{ℕ, suc, ◌<◌}
use native.Mathlib.Omega.{arith}
use lib.ListN.{length, get_or, drop}
use lib.Seq.{drop-append_seam}
use borrow.Author.Tests.{not-true}
use Rattle.rules.specs.Each.{every}
use Rattle.rules.specs.Text.{decimal, fields_text}
use Rattle.rules.specs.Reading.{found, missing, digit, leading_digits, value_from, well_written, behind, with_numbers, field, fields}
use Rattle.rules.proofs.All.{All, all_at}
use Rattle.rules.proofs.Indices.{both}
use Rattle.demands.proofs.Digits.{well_number, decimal_digits, decimal_value, decimal_well, leading_every, leading_front, leading_number}
use Rattle.demands.proofs.Scans.{never, with_back, then_back, then_forth, behind_back, behind_forth}

-- a text in which a number is found begins with its digits and the byte asked for
field_back : (end : ℕ) (text numbers rest : List ℕ) → field end text ≡ found numbers rest
    → (x : ℕ) × (numbers ≡ x ∷ []) × (x < 10000) × (text ≡ decimal x ++ end ∷ rest)
unfolding field
field_back end text numbers rest e = go (well_written number) refl e
  where
    number : List ℕ
    number = leading_digits text

    go : (t : Bool) → well_written number ≡ t
        → cond t (with_numbers (value_from 0 number ∷ []) (behind end (drop (length number) text))) missing ≡ found numbers rest
        → (x : ℕ) × (numbers ≡ x ∷ []) × (x < 10000) × (text ≡ decimal x ++ end ∷ rest)
    go true h f =
        let parts = with_back (value_from 0 number ∷ []) (behind end (drop (length number) text)) numbers rest f in
        let last = behind_back end (drop (length number) text) parts.0 rest parts.1 in
        let known = well_number number (leading_every text) h in
        (value_from 0 number, parts.2 ∙ rw last.0, known.small, sym (leading_front text) ∙ rw (known.printed, last.1))
    go false h f = never missing numbers rest refl f

-- a number at the head of a text, with the byte asked for, is found
field_forth : (end x : ℕ) (rest : List ℕ) → digit end ≡ false → x < 10000 → field end (decimal x ++ end ∷ rest) ≡ found (x ∷ []) rest
unfolding field with_numbers
field_forth end x rest d h =
    rw (
      leading_number (decimal x) end rest (decimal_digits x) d,
      decimal_well x h,
      drop-append_seam,
      behind_forth end rest,
      with_numbers,
      leading_number (decimal x) end rest (decimal_digits x) d,
      decimal_value x,
    )

-- numbers from a position on, each with the byte behind it
abbrev pub marked : ℕ → List ℕ → List ℕ → List (ℕ × ℕ)
marked j [] numbers = []
marked j (end ∷ ends) numbers = (get_or numbers j 0, end) ∷ marked (suc j) ends numbers

-- every number is below 10,000
abbrev pub Small : List ℕ → Type 0
Small = All (λ (x : ℕ). x < 10000)

-- also the one at a position
pub small_at : (numbers : List ℕ) (j : ℕ) → Small numbers → get_or numbers j 0 < 10000
small_at numbers j h = all_at (λ (x : ℕ). x < 10000) numbers 0 (omega arith) h j

-- one number more in front
marked_cons : (j : ℕ) (ends : List ℕ) (x : ℕ) (numbers : List ℕ) → marked (suc j) ends (x ∷ numbers) ≡ marked j ends numbers
marked_cons j [] x numbers = refl
marked_cons j (end ∷ ends) x numbers = ap (λ (l : List (ℕ × ℕ)). (get_or numbers j 0, end) ∷ l) (marked_cons (suc j) ends x numbers)

-- a text in which fields are found begins with their text
pub fields_back : (ends text numbers rest : List ℕ) → fields ends text ≡ found numbers rest
    → (length numbers ≡ length ends) × Small numbers × (text ≡ fields_text (marked 0 ends numbers) ++ rest)
unfolding fields fields_text
fields_back [] text numbers rest e =
    let none : numbers ≡ [] = cc in
    rw none (refl, tt, cc)
fields_back (end ∷ ends) text numbers rest e =
    let parts = then_back (field end text) (fields ends) numbers rest e in
    let head = field_back end text parts.0 parts.1 parts.3 in
    let tail = fields_back ends parts.1 parts.2 rest parts.4 in
    whole head.0 parts.1 parts.2 (parts.5 ∙ ap (λ (l : List ℕ). l ++ parts.2) head.1) head.2 head.3 tail
  where
    whole : (x : ℕ) (middle later : List ℕ) → numbers ≡ x ∷ later → x < 10000 → text ≡ decimal x ++ end ∷ middle
        → (length later ≡ length ends) × Small later × (middle ≡ fields_text (marked 0 ends later) ++ rest)
        → (length numbers ≡ length (end ∷ ends)) × Small numbers × (text ≡ fields_text (marked 0 (end ∷ ends) numbers) ++ rest)
    whole x middle later all small front tail =
        rw all (
          ap suc tail.0,
          (small, tail.1),
          front ∙ rw (tail.2, marked_cons 0 ends x later) (sym (append_assoc (decimal x) _ rest)),
        )

-- fields at the head of a text are found
pub fields_forth : (ends numbers rest : List ℕ) → every (λ end. not (digit end)) ends ≡ true → length numbers ≡ length ends → Small numbers
    → fields ends (fields_text (marked 0 ends numbers) ++ rest) ≡ found numbers rest
unfolding fields fields_text every
fields_forth [] [] rest d l h = refl
fields_forth [] (x ∷ numbers) rest d l h = absurd (omega arith)
fields_forth (end ∷ ends) [] rest d l h = absurd (omega arith)
fields_forth (end ∷ ends) (x ∷ numbers) rest d l h =
    let marks = both (not (digit end)) (every (λ end. not (digit end)) ends) d in
    rw (marked_cons 0 ends x numbers, append_assoc (decimal x))
    (then_forth _ (fields ends) (x ∷ []) (fields_text (marked 0 ends numbers) ++ rest) numbers rest
    (field_forth end x (fields_text (marked 0 ends numbers) ++ rest) (not-true (digit end) marks.0) h.0)
    (fields_forth ends numbers rest marks.1 (omega arith) h.1))
