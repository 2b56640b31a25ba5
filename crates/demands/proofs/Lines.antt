-- Lines one behind the other: the words that they find are a part of a table, and the text is what shows that part.
use mathlib.Core.Path.{◌≡◌, refl, ap, sym, ◌∙◌}
use mathlib.Core.Bool.{Bool, true, ◌&&◌}
use mathlib.Core.List.{List, [], ◌++◌, append_assoc, append-nil}
use Prim.Native.Nat.{ℕ, zero, suc, ◌+◌, ◌*◌, ◌<◌}
use native.Mathlib.Nat.{mul-zero, mul-suc}
use native.Mathlib.Omega.{arith}
use lib.ListN.{length, length-append}
use Rattle.rules.specs.Each.{each, joined}
use Rattle.rules.specs.Reading.{Scan, found, lines}
use Rattle.rules.proofs.Indices.{and_both}
use Rattle.demands.proofs.Scans.{then_back, then_forth}

-- words found in a text are a part of a table, of that size and from that position on: the table, whatever stands before and behind
-- them, keeps the rules there, and the text begins with what shows this part of it
pub record Part (size start : ℕ) (right : List ℕ → Bool) (shown : List ℕ → List ℕ) (text words rest : List ℕ) : Type 0 where
  pub long : length words ≡ size
  pub sound : (front later : List ℕ) → length front ≡ start → right (front ++ words ++ later) ≡ true
  pub written : (front later : List ℕ) → length front ≡ start → text ≡ shown (front ++ words ++ later) ++ rest

-- a part that puts no words into the table
pub no_words : (start : ℕ) (part text words rest : List ℕ) → words ≡ [] → text ≡ part ++ rest
    → Part 0 start (λ table. true) (λ table. part) text words rest
no_words start part text words rest e w = record { long = ap length e; sound = λ front later h. refl; written = λ front later h. w }

-- one part behind another
pub part_then : (size more start at : ℕ) (right further : List ℕ → Bool) (shown next : List ℕ → List ℕ) (text words middle later rest : List ℕ)
    → start + size ≡ at → Part size start right shown text words middle → Part more at further next middle later rest
    → Part (size + more) start (λ table. right table && further table) (λ table. shown table ++ next table) text (words ++ later) rest
part_then size more start at right further shown next text words middle later rest e one two =
    record { long = simp length-append (omega (arith, one.long, two.long)); sound = sound; written = written }
  where
    seam : (front behind : List ℕ) → front ++ (words ++ later) ++ behind ≡ front ++ words ++ (later ++ behind)
    seam front behind = simp append_assoc

    last : (front behind : List ℕ) → front ++ (words ++ later) ++ behind ≡ front ++ words ++ later ++ behind
    last front behind = simp append_assoc

    reach : (front : List ℕ) → length front ≡ start → length (front ++ words) ≡ at
    reach front h = simp length-append (omega (arith, one.long))

    sound : (front behind : List ℕ) → length front ≡ start
        → (right (front ++ (words ++ later) ++ behind) && further (front ++ (words ++ later) ++ behind)) ≡ true
    sound front behind h =
        and_both (right (front ++ (words ++ later) ++ behind)) (further (front ++ (words ++ later) ++ behind))
        (rw (seam front behind) (one.sound front (later ++ behind) h))
        (rw (last front behind) (two.sound (front ++ words) behind (reach front h)))

    written : (front behind : List ℕ) → length front ≡ start
        → text ≡ shown (front ++ (words ++ later) ++ behind) ++ next (front ++ (words ++ later) ++ behind) ++ rest
    written front behind h =
        let table : List ℕ = front ++ (words ++ later) ++ behind in
        one.written front (later ++ behind) h
        ∙ rw (two.written (front ++ words) behind (reach front h), ← seam front behind, ← last front behind)
        (sym (append_assoc (shown table) (next table) rest))

-- a part that begins the table
pub part_first : (size : ℕ) (right : List ℕ → Bool) (shown : List ℕ → List ℕ) (text words rest : List ℕ)
    → Part size 0 right shown text words rest → (right words ≡ true) × (text ≡ shown words ++ rest)
part_first size right shown text words rest part =
    (rw append-nil at (part.sound [] [] refl), rw append-nil at (part.written [] [] refl))

-- lines of one kind, so many words each, from a position on
module _ (line : ℕ → List ℕ → Scan) (shown : List ℕ → ℕ → List ℕ) (right : List ℕ → ℕ → Bool) (start width : ℕ) where
  -- what they found is a part of a table, where this is so of each
  pub lines_back : ((j : ℕ) (text words rest : List ℕ) → line j text ≡ found words rest
      → Part width (start + width * j) (λ table. right table j) (λ table. shown table j) text words rest)
      → (k : ℕ) (text words rest : List ℕ) → lines k line text ≡ found words rest
      → Part (width * k) start (λ table. each k (right table)) (λ table. joined k (shown table)) text words rest
  unfolding lines each joined
  lines_back one zero text words rest e = rw mul-zero (no_words start [] text words rest (cc) (cc))
  lines_back one (suc k) text words rest e =
      let parts = then_back (lines k line text) (line k) words rest e in
      let earlier = lines_back one k text parts.0 parts.1 parts.3 in
      let last = one k parts.1 parts.2 rest parts.4 in
      rw (parts.5, mul-suc)
      (part_then (width * k) width start (start + width * k)
      (λ table. each k (right table)) (λ table. right table k) (λ table. joined k (shown table)) (λ table. shown table k)
      text parts.0 parts.1 parts.2 rest refl earlier last)

-- lines are found one behind the other
pub lines_forth : (line : ℕ → List ℕ → Scan) (shown own : ℕ → List ℕ) (k : ℕ)
    → ((j : ℕ) → j < k → (rest : List ℕ) → line j (shown j ++ rest) ≡ found (own j) rest)
    → (rest : List ℕ) → lines k line (joined k shown ++ rest) ≡ found (joined k own) rest
unfolding lines joined
lines_forth line shown own zero one rest = refl
lines_forth line shown own (suc k) one rest =
    rw (append_assoc (joined k shown))
    (then_forth _ (line k) (joined k own) (shown k ++ rest) (own k) rest
    (lines_forth line shown own k (λ j h. one j (omega arith)) (shown k ++ rest))
    (one k (omega arith) rest))
