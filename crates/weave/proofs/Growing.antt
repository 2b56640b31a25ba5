-- One term more, if it is one and there is room: in words, and in a merge.
use Rattle.std.proofs.Common.{◌≡◌, ℕ, ◌+◌, ◌-◌, ◌*◌, ◌%◌, ◌<◌, ◌≤◌, List, [], ◌∷◌, ◌++◌, Option, None, Some, MatchOption, IfSome, unwrap_or, subst, length, take, drop, replicate, sym, refl, ap, ◌∙◌, append_assoc, add-mul, one-mul, mul-le-mul_right, arith, length-append, length-take-le, drop-drop, drop_at}
use mathlib.Core.Logic.{⊎_elim}
use native.Mathlib.Nat.{eq-or-lt_of_le, eq-zero-or-pos}
use lib.ListN.{length-replicate}
use Rattle.rules.specs.Each.{sum}
use Rattle.rules.specs.Polynomial.{Polynomial, hit, coefficient_at, Under, gather}
use Rattle.words.specs.Numbers.{num}
use Rattle.words.specs.Stored.{decoded}
use Rattle.words.proofs.Stored.{decoded_more}
use Rattle.weave.specs.Merging.{Lows, floor, Merging}
use Rattle.weave.specs.Written.{Emitted, Behind, Kept}
use Rattle.weave.proofs.Fronts.{merge_front, merge_skip, merge_take}

-- what was written, by what was found: no coefficient
pub emit_skip : (w o limit c : ℕ) (set d : List ℕ) → c ≡ 0 → Emitted w o limit c set d d (Some o)
emit_skip w o limit c set d e = record { skip = λ z. (refl, refl); full = λ z. absurd (omega arith); put = λ z. absurd (omega arith) }

-- no room
pub emit_full : (w o limit c : ℕ) (set d : List ℕ) → (c ≡ 0 → ⊥) → o ≡ limit → Emitted w o limit c set d d None
emit_full w o limit c set d n e = record { skip = λ z. absurd (n z); full = λ z y. (refl, refl); put = λ z y. absurd (omega arith) }

-- a term
pub emit_put : (w o limit c : ℕ) (set d d' : List ℕ) → (c ≡ 0 → ⊥) → (o ≡ limit → ⊥)
    → d' ≡ take (o * (w + 1)) d ++ ((c ∷ set) ++ drop (o * (w + 1) + (w + 1)) d) → Emitted w o limit c set d d' (Some (o + 1))
emit_put w o limit c set d d' n m e = record { skip = λ z. absurd (n z); full = λ z y. absurd (m y); put = λ z y. (refl, e) }

-- the term (c, s) was written behind o terms, unless c is 0 or there are `limit` already; out' has so many of the terms then
pub record Grown (o limit c s : ℕ) (out : Polynomial) (out' : ℕ → Polynomial) (r : Option ℕ) : Type 0 where
  pub skip : c ≡ 0 → (r ≡ Some o) × (out' o ≡ out)
  pub full : 0 < c → o ≡ limit → r ≡ None
  pub put : 0 < c → o < limit → (r ≡ Some (o + 1)) × (out' (o + 1) ≡ out ++ ((c, s) ∷ []))

-- what was written, as terms
pub grown : (w o limit c : ℕ) (set d d' : List ℕ) (r : Option ℕ) → o * (w + 1) ≤ length d → length set ≡ w → Emitted w o limit c set d d' r
    → Grown o limit c (num set) (decoded w o d) (λ n. decoded w n d') r
grown w o limit c set d d' r h l e = record {
  skip = λ z. ((e.skip z).0, ap (decoded w o) (e.skip z).1);
  full = λ z q. (e.full z q).0;
  put = λ z q. ((e.put z q).0, decoded_more w o c d d' set (drop (o * (w + 1) + (w + 1)) d) h l (e.put z q).1);
}

-- whatever is so of each outcome of a term is so of what was written
outcome : (o limit c s : ℕ) (out : Polynomial) (out' : ℕ → Polynomial) (r : Option ℕ) (P : Option ℕ → Type 0) → o ≤ limit → Grown o limit c s out out' r
    → (c ≡ 0 → out' o ≡ out → P (Some o)) → (0 < c → o ≡ limit → P None) → (0 < c → o < limit → out' (o + 1) ≡ out ++ ((c, s) ∷ []) → P (Some (o + 1))) → P r
outcome o limit c s out out' r P l e skip full put = ⊎_elim
    (λ (z : c ≡ 0). subst P (sym (e.skip z).0) (skip z (e.skip z).1))
    (λ (z : 0 < c). ⊎_elim
    (λ (q : o ≡ limit). subst P (sym (e.full z q)) (full z q))
    (λ (q : o < limit). subst P (sym (e.put z q).0) (put z q (e.put z q).1))
    (eq-or-lt_of_le l))
    (eq-zero-or-pos c)

-- the terms do not get fewer
pub grown_le : (o limit c s : ℕ) (out : Polynomial) (out' : ℕ → Polynomial) (r : Option ℕ) → o ≤ limit → Grown o limit c s out out' r → IfSome r (λ n. o ≤ n)
grown_le o limit c s out out' r l e = outcome o limit c s out out' r (λ r. IfSome r (λ n. o ≤ n)) l e (λ z f. omega arith) (λ z q. tt) (λ z q f. omega arith)

-- what is the same from one place on is the same from a later one on
pub drop_later : (a b : ℕ) (d d' : List ℕ) → a ≤ b → drop a d' ≡ drop a d → drop b d' ≡ drop b d
drop_later a b d d' h e =
    let f : a + (b - a) ≡ b = omega arith in
    sym (drop-drop (b - a) a d' ∙ rw f) ∙ ap (λ (x : List ℕ). drop (b - a) x) e ∙ (drop-drop (b - a) a d ∙ rw f)

-- what is behind some terms is behind more of them
pub behind_later : (w limit o : ℕ) (r : Option ℕ) (d d' : List ℕ) → o ≤ unwrap_or r limit → Behind w limit (Some o) d d' → Behind w limit r d d'
behind_later w limit o r d d' h = drop_later (o * (w + 1)) (unwrap_or r limit * (w + 1)) d d' (mul-le-mul_right (w + 1) h)

-- no word behind the room for `limit` terms has changed
pub behind_limit : (w limit n : ℕ) (d d' : List ℕ) → n ≤ limit → Behind w limit (Some n) d d' → Behind w limit None d d'
behind_limit w limit n d d' = behind_later w limit n None d d'

-- where there was no room, and what was written is cleared, zeros are there
pub kept_none : (w limit : ℕ) (d d₁ d' : List ℕ) → Behind w limit None d d₁ → d' ≡ replicate (limit * (w + 1)) 0 ++ drop (limit * (w + 1)) d₁ → Kept w limit None d d'
kept_none w limit d d₁ d' b e = e ∙ ap (λ (x : List ℕ). replicate (limit * (w + 1)) 0 ++ x) b

-- in either case no word behind is changed
pub kept_behind : (w limit : ℕ) (r : Option ℕ) (d d' : List ℕ) → Kept w limit r d d' → Behind w limit r d d'
kept_behind w limit (Some n) d d' k = k
kept_behind w limit None d d' k = rw k (drop_at (replicate (limit * (w + 1)) 0) (drop (limit * (w + 1)) d) (limit * (w + 1)) (length-replicate (limit * (w + 1)) 0))

-- one term more changes no word behind it
pub behind_more : (w o limit c : ℕ) (set d₀ d d' : List ℕ) (r : Option ℕ) → o ≤ limit → o * (w + 1) ≤ length d → length set ≡ w → Behind w limit (Some o) d₀ d → Emitted w o limit c set d d' r → Behind w limit r d₀ d'
behind_more w o limit c set d₀ d d' r lo h l b e = ⊎_elim
    (λ (z : c ≡ 0). rw ((e.skip z).0, (e.skip z).1) b)
    (λ (z : 0 < c). ⊎_elim
    (λ (q : o ≡ limit). rw ((e.full z q).0, (e.full z q).1) (behind_limit w limit o d₀ d lo b))
    (λ (q : o < limit).
    let a : (o + 1) * (w + 1) ≡ o * (w + 1) + (w + 1) = rw (add-mul o 1 (w + 1), one-mul (w + 1)) in
    let f : drop (o * (w + 1) + (w + 1)) d ≡ drop (o * (w + 1) + (w + 1)) d₀ = drop_later (o * (w + 1)) (o * (w + 1) + (w + 1)) d₀ d (omega arith) b in
    rw ((e.put z q).0, (e.put z q).1, a, ← append_assoc (take (o * (w + 1)) d) (c ∷ set) (drop (o * (w + 1) + (w + 1)) d)) (drop_at (take (o * (w + 1)) d ++ (c ∷ set)) (drop (o * (w + 1) + (w + 1)) d) (o * (w + 1) + (w + 1)) (simp length-append (omega (arith, length-take-le (o * (w + 1)) d h))) ∙ f))
    (eq-or-lt_of_le lo))
    (eq-zero-or-pos c)

-- how far a merge is: what is written and what is left, or there is no room
abbrev pub Room : ℕ → ℕ → ℕ → ℕ → Polynomial → (ℕ → Polynomial) → (ℕ → Polynomial) → Option ℕ → Type 0
Room m hi k limit r out q o = MatchOption o (limit < length (gather m r)) (λ n. (n ≤ limit) × Merging m hi k r (out n) q)

module _ (m hi k limit : ℕ) (r : Polynomial) (hm : 0 < m) (hr : Under hi r) where
  -- more terms are written than there is room for
  pub room_full : (out : Polynomial) (q : ℕ → Polynomial) → Merging m hi k r out q → limit < length out → limit < length (gather m r)
  room_full out q g l = rw (merge_front m hi k r hm hr out q g) (simp length-append (omega arith))

  -- a turn: the largest set s with its sum c leaves q for q', and is written if it is a term and there is room
  pub room_more : (out : Polynomial) (out' : ℕ → Polynomial) (q q' : ℕ → Polynomial) (o c s : ℕ) (o' : Option ℕ) → Merging m hi k r out q → length out ≡ o → o ≤ limit
      → s < floor hi out → Lows s k q'
      → ((u : ℕ) → sum k (λ j. coefficient_at (q j) u) % m ≡ (hit u s c + sum k (λ j. coefficient_at (q' j) u)) % m)
      → c < m → Grown o limit c s out out' o' → Room m hi k limit r out' q' o'
  room_more out out' q q' o c s o' g len l low lows sums small e = outcome o limit c s out out' o' (Room m hi k limit r out' q') l e
      (λ z f. (l, rw f (merge_skip m hi k r hm hr out q q' g c s low lows sums z)))
      (λ z h. room_full (out ++ ((c, s) ∷ [])) q' (merge_take m hi k r hm hr out q q' g c s low lows sums z small) (simp length-append (omega arith)))
      (λ z h f. (omega arith, rw f (merge_take m hi k r hm hr out q q' g c s low lows sums z small)))
