-- A term written over zeros: the words of a set, one variable more at a time, and the count on its way to a polynomial.
use mathlib.Core.Path.{◌≡◌, refl, ap, sym, ◌∙◌}
use mathlib.Core.Bool.{Bool, true, false}
use mathlib.Core.List.{List, [], ◌∷◌, ◌++◌, append_assoc, append-nil}
use Prim.Native.Nat.{ℕ, zero, suc, ◌+◌, ◌-◌, ◌*◌, ◌/◌, ◌%◌, ◌^◌, ◌<◌, ◌≤◌}
use native.Mathlib.Nat.{add-zero, zero-add, add-mul, one-mul, zero-div, div-eq_of_lt, mod-eq_of_lt, mul-mod_left}
use native.Mathlib.Omega.{arith}
use lib.Bits.{bit_xor, xor_zero_r, xor_comm, xor_shifted, xor_shr, xor_mod}
use lib.Dec.{eqb, ltb}
use lib.ListN.{length, get_or, take, drop, set, replicate, length-append, length-set, length-replicate, length-drop, get_or-replicate, replicate-append-replicate, get_or-append}
use lib.Pow.{pow-add, pow-lt, pow_pos, shl-shr}
use Rattle.std.proofs.lemmas.List.{set-append_right}
use lib.Seq.{ext_get_or, get_or-append-add, get_or-set_same, get_or-set_other, set-append_left, set_at, append_snoc, take-add, drop-drop, length-take-le}
use borrow.Author.Tests.{eqb-true, eqb-false, ltb-true, ltb-false}
use Rattle.rules.specs.Judging.{term_words, polynomial_words, padded}
use Rattle.rules.specs.Polynomial.{Term, Polynomial, keep}
use Rattle.rules.proofs.Indices.{length_listed, get_or_listed}
use Rattle.rules.proofs.Gathered.{keep_some}
use Rattle.words.proofs.Encoded.{length_polynomial_words, polynomial_words_append}
use Rattle.start.specs.Start.{single, word, set_words, Marks, Writes, Going, Full}
use Rattle.start.proofs.Outputs.{single_up, single_lt}

-- the word of v alone
word_here : (v : ℕ) → word (2 ^ v) (v / 64) ≡ 2 ^ (v % 64)
word_here v =
    let e : v ≡ v % 64 + 64 * (v / 64) = omega arith in
    ap (λ (k : ℕ). 2 ^ k / 2 ^ (64 * (v / 64)) % 2 ^ 64) e
    ∙ rw (pow-add 2 (v % 64) (64 * (v / 64)), shl-shr (2 ^ (v % 64)) (64 * (v / 64))) (mod-eq_of_lt (pow-lt {i = v % 64} {j = 64} (omega arith)))

-- the other words of v alone
word_elsewhere : (v j : ℕ) → (j ≡ v / 64 → ⊥) → word (2 ^ v) j ≡ 0
word_elsewhere v j n = go (ltb v (64 * j)) refl
  where
    go : (t : Bool) → ltb v (64 * j) ≡ t → word (2 ^ v) j ≡ 0
    go true h = rw (div-eq_of_lt {n = 2 ^ v} {m = 2 ^ (64 * j)} (pow-lt (ltb-true v (64 * j) h)))
    go false h =
        let e : v ≡ v - 64 * j - 64 + 64 + 64 * j = omega (arith, ltb-false v (64 * j) h, n) in
        ap (λ (k : ℕ). 2 ^ k / 2 ^ (64 * j) % 2 ^ 64) e
        ∙ rw (pow-add 2 (v - 64 * j - 64 + 64) (64 * j), shl-shr (2 ^ (v - 64 * j - 64 + 64)) (64 * j), pow-add 2 (v - 64 * j - 64) 64)
        (mul-mod_left _ _)

-- the words of a set with v above it
word_above : (v s j : ℕ) → s < 2 ^ v → word (2 ^ v + s) j ≡ bit_xor (word s j) (word (2 ^ v) j)
word_above v s j h =
    let e : 2 ^ v + s ≡ bit_xor s (2 ^ v) =
    sym (xor_comm s (2 ^ v) ∙ ap (λ (x : ℕ). bit_xor x s) (sym (one-mul (2 ^ v))) ∙ xor_shifted 1 v s h ∙ rw one-mul) in
    rw (e, xor_shr, xor_mod)

-- a set has as many words as asked for
length_set_words : (w s : ℕ) → length (set_words w s) ≡ w
unfolding set_words
length_set_words w s = length_listed w (word s)

-- each of them
get_or_set_words : (w s j : ℕ) → j < w → get_or (set_words w s) j 0 ≡ word s j
unfolding set_words
get_or_set_words w s j h = get_or_listed w (word s) 0 j h

-- the empty set's words are zeros
zero_words : (w : ℕ) → replicate w 0 ≡ set_words w 0
zero_words w =
    ext_get_or 0 (replicate w 0) (set_words w 0) (length-replicate w 0 ∙ sym (length_set_words w 0))
    (λ j l. let h : j < w = omega (arith, length-replicate {A = ℕ} w 0) in
    get_or-replicate w j 0 0 h ∙ sym (get_or_set_words w 0 j h ∙ rw zero-div))

-- v turned in the words of a set below it
turned_words : (w v s x : ℕ) → v < 64 * w → s < 2 ^ v → x ≡ bit_xor (get_or (set_words w s) (v / 64) 0) (2 ^ (v % 64))
    → set (set_words w s) (v / 64) x ≡ set_words w (2 ^ v + s)
turned_words w v s x h l e =
    let place : v / 64 < w = omega arith in
    let as_many : length (set (set_words w s) (v / 64) x) ≡ w = length-set (set_words w s) (v / 64) x ∙ length_set_words w s in
    ext_get_or 0 (set (set_words w s) (v / 64) x) (set_words w (2 ^ v + s)) (as_many ∙ sym (length_set_words w (2 ^ v + s)))
    (λ j b. let i : j < w = omega arith in
    rw (get_or_set_words w (2 ^ v + s) j i, word_above v s j l) (go j i (eqb j (v / 64)) refl))
  where
    go : (j : ℕ) → j < w → (t : Bool) → eqb j (v / 64) ≡ t → get_or (set (set_words w s) (v / 64) x) j 0 ≡ bit_xor (word s j) (word (2 ^ v) j)
    go j i true q =
        let z : j ≡ v / 64 = eqb-true j (v / 64) q in
        rw (z, word_here v, ← get_or_set_words w s (v / 64) (omega arith), ← e)
        (get_or-set_same (set_words w s) (v / 64) x 0 (omega (arith, length_set_words w s)))
    go j i false q =
        let z : j ≡ v / 64 → ⊥ = eqb-false j (v / 64) q in
        rw (get_or-set_other (set_words w s) (v / 64) j x 0 z, get_or_set_words w s j i, word_elsewhere v j z) (sym (xor_zero_r _))

-- v turned in the set that stands behind the first words
pub marked : (store store' : List ℕ) (at w v : ℕ) → v < 64 * w → 0 < v
    → store' ≡ set store (at + v / 64) (bit_xor (get_or store (at + v / 64) 0) (2 ^ (v % 64))) → Marks at w v store store'
marked store store' at w v h p g before after s e l f =
    let place : v / 64 < length (set_words w s) = omega (arith, length_set_words w s) in
    let here : get_or store (at + v / 64) 0 ≡ get_or (set_words w s) (v / 64) 0 =
    rw (f, ← e, get_or-append-add before (set_words w s ++ after) (v / 64) 0) (get_or-append (set_words w s) after 0 (v / 64) place) in
    let x = bit_xor (get_or (set_words w s) (v / 64) 0) (2 ^ (v % 64)) in
    let behind : at + v / 64 - at ≡ v / 64 = omega arith in
    g ∙ rw (here, f, set-append_right before (set_words w s ++ after) at (at + v / 64) x e (omega arith), behind, set-append_left (set_words w s) after (v / 64) x place, turned_words w v s x h (rw (single_up v p) at (l p)) refl, single_up v p)

-- variable 0 adds nothing to a set
pub unmarked : (store : List ℕ) (at w v : ℕ) → v ≤ 0 → Marks at w v store store
unfolding single
unmarked store at w zero h before after s l q e = e ∙ rw zero-add
unmarked store at w (suc v) h before after s l q e = absurd (omega arith)

-- a coefficient and the marks of two variables over zeros: a term
pub term_written : (store first second : List ℕ) (t w c x y : ℕ) → y ≤ x - 1 → Marks (t + 1) w y (set store t c) first
    → Marks (t + 1) w x first second → Writes t w c (single x + single y) store second
term_written store first second t w c x y h f g before after l e =
    let long : length (before ++ (c ∷ [])) ≡ t + 1 = simp length-append (omega arith) in
    let begun : set store t c ≡ (before ++ (c ∷ [])) ++ (set_words w 0 ++ after) =
    rw e (set_at before 0 (set_words w 0 ++ after) c t l) ∙ sym (append_snoc before c (set_words w 0 ++ after)) in
    let one : first ≡ (before ++ (c ∷ [])) ++ (set_words w (single y + 0) ++ after) =
    f (before ++ (c ∷ [])) after 0 long (λ q. rw (single_up y q) (pow_pos y)) begun in
    let two : second ≡ (before ++ (c ∷ [])) ++ (set_words w (single x + (single y + 0)) ++ after) =
    g (before ++ (c ∷ [])) after (single y + 0) long (λ q. omega (arith, single_lt y x (omega arith))) one in
    two ∙ rw (add-zero, append_snoc)

-- one more term of p, where it goes on with t
next_term : (p rest : Polynomial) (t : Term) (out : ℕ) → drop out p ≡ t ∷ rest
    → (take (out + 1) p ≡ take out p ++ (t ∷ [])) × (drop (out + 1) p ≡ rest) × (out + 1 ≤ length p)
next_term p rest t out e =
    (rw (take-add out 1 p, e), sym (drop-drop 1 out p) ∙ ap (λ (x : Polynomial). drop 1 x) e, omega (arith, length-drop out p, ap length e))

-- zeros for a term, and those behind it
zeros_split : (w more : ℕ) → w + 1 ≤ more → replicate more 0 ≡ 0 ∷ (set_words w 0 ++ replicate (more - (w + 1)) 0)
zeros_split w more h =
    let e : more ≡ suc (w + (more - (w + 1))) = omega arith in
    ap (λ (k : ℕ). replicate k 0) e ∙ rw (← zero_words w, replicate-append-replicate)

module _ (w : ℕ) (p rest : Polynomial) (store : List ℕ) (count c s : ℕ) (g : Going w p (keep c s rest) store count) where
  -- a coefficient 0 is passed over
  pub going_none : c ≡ 0 → Going w p rest store count
  unfolding keep
  going_none e = record { held = g.held; left = g.left ∙ rw e; words = g.words }

  module _ (n : c ≡ 0 → ⊥) where
    -- one more term of p is to come
    going_next : (take (count + 1) p ≡ take count p ++ ((c, s) ∷ [])) × (drop (count + 1) p ≡ rest) × (count + 1 ≤ length p)
    going_next = next_term p rest (c, s) count (g.left ∙ keep_some c s rest (omega (arith, n)))

    -- but there is no room for it
    pub going_full : Full w count p store
    going_full = record { more = omega (arith, going_next.2); words = g.words }

    module _ (room : count * (w + 1) + (w + 1) ≤ length store) where
      -- the words written so far
      going_length : length (polynomial_words w (take count p)) ≡ count * (w + 1)
      going_length = length_polynomial_words w (take count p) ∙ ap (λ (k : ℕ). k * (w + 1)) (length-take-le count p g.held)

      -- the words of one term more
      one_more : (count + 1) * (w + 1) ≡ count * (w + 1) + (w + 1)
      one_more = omega (arith, add-mul count 1 (w + 1))

      -- the zeros that the next term is written over
      going_zeros : store ≡ polynomial_words w (take count p) ++ (0 ∷ (set_words w 0 ++ replicate (length store - (count + 1) * (w + 1)) 0))
      unfolding padded
      going_zeros =
          let more : length store - count * (w + 1) - (w + 1) ≡ length store - (count + 1) * (w + 1) = omega (arith, one_more) in
          g.words
          ∙ ap (λ (k : ℕ). polynomial_words w (take count p) ++ replicate (length store - k) 0) going_length
          ∙ rw (zeros_split w (length store - count * (w + 1)) (omega arith), more)

      -- the next term written over them
      pub going_more : (store' : List ℕ) → length store' ≡ length store
          → Writes (count * (w + 1)) w c s store store'
          → Going w p rest store' (count + 1)
      unfolding padded polynomial_words term_words set_words
      going_more store' e f =
          let next = going_next in
          let all : polynomial_words w (take (count + 1) p) ≡ polynomial_words w (take count p) ++ (term_words w (c, s) ++ []) =
          ap (polynomial_words w) next.0 ∙ polynomial_words_append w (take count p) ((c, s) ∷ []) in
          let long : length (polynomial_words w (take (count + 1) p)) ≡ (count + 1) * (w + 1) =
          length_polynomial_words w (take (count + 1) p) ∙ ap (λ (k : ℕ). k * (w + 1)) (length-take-le (count + 1) p next.2) in
          record {
            held = next.2;
            left = next.1;
            words = f (polynomial_words w (take count p)) (replicate (length store - (count + 1) * (w + 1)) 0) going_length going_zeros ∙ rw (long, e, all, append-nil, append_assoc);
          }
