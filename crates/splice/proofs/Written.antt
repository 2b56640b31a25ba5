-- Words written in one place of a list, and the terms that stand elsewhere.
use mathlib.Core.Path.{◌≡◌, refl, ap, sym, ◌∙◌}
use mathlib.Core.List.{List, [], ◌∷◌, ◌++◌, append_assoc}
use Prim.Native.Nat.{ℕ, suc, ◌+◌, ◌-◌, ◌*◌, ◌≤◌}
use native.Mathlib.Numerals.{add-one}
use native.Mathlib.Omega.{arith}
use lib.ListN.{length, take, drop, length-append, length-drop, take-append-drop}
use lib.Seq.{length-take-le, take-take, take-append-le, drop-append-le, drop-drop, take_at, drop_at}
use Rattle.words.specs.Numbers.{num}
use Rattle.words.specs.Stored.{decoded}
use Rattle.words.proofs.Stored.{decoded_front, decoded_split}
use Rattle.words.specs.Stretches.{moved}

-- only words from a to before e were changed
pub record Only (a e : ℕ) (d d' : List ℕ) : Type 0 where
  pub front : (b : ℕ) → b ≤ a → take b d' ≡ take b d
  pub behind : (b : ℕ) → e ≤ b → drop b d' ≡ drop b d

-- none was
pub only_none : (a e : ℕ) (d : List ℕ) → Only a e d d
only_none a e d = record { front = λ b h. refl; behind = λ b h. refl }

-- n words were written at a
pub only_written : (a n e : ℕ) (x d d' : List ℕ) → length x ≡ n → a + n ≤ length d → a + n ≤ e → d' ≡ take a d ++ (x ++ drop (a + n) d) → Only a e d d'
only_written a n e x d d' l h g w = record {
  front = λ b k. rw w (take-append-le b (take a d) (x ++ drop (a + n) d) (omega (arith, at)) ∙ take-take b a d k);
  behind = λ b k.
      let q : a + n + (b - (a + n)) ≡ b = omega arith in
      let f : drop (a + n) d' ≡ drop (a + n) d = rw (w, ← append_assoc (take a d) x (drop (a + n) d)) (drop_at (take a d ++ x) (drop (a + n) d) (a + n) (simp length-append (omega (arith, at)))) in
      sym (drop-drop (b - (a + n)) (a + n) d' ∙ rw q) ∙ ap (λ (y : List ℕ). drop (b - (a + n)) y) f ∙ (drop-drop (b - (a + n)) (a + n) d ∙ rw q);
}
  where
    at : length (take a d) ≡ a
    at = length-take-le a d (omega arith)

-- terms are known by their words
pub decoded_taken : (w u : ℕ) (d : List ℕ) → u * (w + 1) ≤ length d → decoded w u (take (u * (w + 1)) d) ≡ decoded w u d
decoded_taken w u d h =
    sym (decoded_front w u (take (u * (w + 1)) d) (drop (u * (w + 1)) d) (rw (← add-one w) (omega (arith, length-take-le (u * (w + 1)) d h)))) ∙ ap (decoded w u) (take-append-drop (u * (w + 1)) d)

-- those in front of word b
front_terms : (w u x b : ℕ) (d : List ℕ) → b ≡ x + u * (w + 1) → b ≤ length d → decoded w u (drop x (take b d)) ≡ decoded w u (drop x d)
front_terms w u x b d e h =
    let l : length (take b d) ≡ b = length-take-le b d h in
    let f : drop x d ≡ drop x (take b d) ++ drop b d = ap (λ (y : List ℕ). drop x y) (sym (take-append-drop b d)) ∙ drop-append-le x (take b d) (drop b d) (omega arith) in
    sym (ap (decoded w u) f ∙ decoded_front w u (drop x (take b d)) (drop b d) (rw (← add-one w) (simp length-drop (omega (arith, l)))))

-- are the same where those words are
pub same_terms : (w u x b : ℕ) (d d' : List ℕ) → b ≡ x + u * (w + 1) → b ≤ length d → length d' ≡ length d → take b d' ≡ take b d → decoded w u (drop x d') ≡ decoded w u (drop x d)
same_terms w u x b d d' e h l t =
    sym (front_terms w u x b d' e (rw l h)) ∙ ap (λ (y : List ℕ). decoded w u (drop x y)) t ∙ front_terms w u x b d e h

-- terms that were moved
pub moved_terms : (w u from to : ℕ) (d d' : List ℕ) → from + u * (w + 1) ≤ length d → to + u * (w + 1) ≤ length d → d' ≡ moved from to (u * (w + 1)) d
    → decoded w u (drop to d') ≡ decoded w u (drop from d)
moved_terms w u from to d d' h k e =
    let f : drop to d' ≡ take (u * (w + 1)) (drop from d) ++ drop (to + u * (w + 1)) d = rw e (drop_at (take to d) (take (u * (w + 1)) (drop from d) ++ drop (to + u * (w + 1)) d) to (length-take-le to d (omega arith))) in
    let n : u * (w + 1) ≤ length (drop from d) = simp length-drop (omega arith) in
    ap (decoded w u) f ∙ decoded_front w u (take (u * (w + 1)) (drop from d)) (drop (to + u * (w + 1)) d) (rw (← add-one w) (omega (arith, length-take-le (u * (w + 1)) (drop from d) n))) ∙ decoded_taken w u (drop from d) n

-- a term that was written
pub put_term : (w t c : ℕ) (x r d d' : List ℕ) → length x ≡ w → t ≤ length d → d' ≡ take t d ++ ((c ∷ x) ++ r) → decoded w 1 (drop t d') ≡ (c, num x) ∷ []
unfolding decoded
put_term w t c x r d d' l h e =
    let f : drop t d' ≡ (c ∷ x) ++ r = rw e (drop_at (take t d) ((c ∷ x) ++ r) t (length-take-le t d h)) in
    let g : take w (x ++ r) ≡ x = take_at x r w l in
    rw (f, g)

-- terms in two parts
pub decoded_parts : (w k m x y : ℕ) (d : List ℕ) → y ≡ x + k * (w + 1) → decoded w (k + m) (drop x d) ≡ decoded w k (drop x d) ++ decoded w m (drop y d)
decoded_parts w k m x y d e =
    decoded_split w k m (drop x d) ∙ ap (λ (q : List ℕ). decoded w k (drop x d) ++ decoded w m q) (drop-drop (k * suc w) x d ∙ rw (e, add-one w))
