-- A stretch of terms moved, what stands behind it put together, and a new term written between both.
use mathlib.Core.Path.{◌≡◌, refl, ap, ◌∙◌}
use mathlib.Core.Bool.{Bool, true, false, cond}
use mathlib.Core.List.{List, ◌∷◌, ◌++◌}
use Prim.Native.Nat.{ℕ, zero, suc, ◌+◌, ◌*◌, ◌<◌, ◌≤◌}
use native.Mathlib.Nat.{one-mul}
use native.Mathlib.Omega.{arith}
use lib.Dec.{ltb, eqb}
use lib.ListN.{length, take, drop, length-drop}
use lib.Seq.{length-take-le}
use borrow.Author.Tests.{ne_eqb, ltb-true, ltb-false, le-ltb}
use Rattle.rules.specs.Polynomial.{Polynomial, keep}
use Rattle.words.specs.Numbers.{num}
use Rattle.words.specs.Stored.{decoded}
use Rattle.words.specs.Stretches.{moved}
use Rattle.rules.specs.Occurrences.{present}
use Rattle.splice.proofs.Written.{Only, only_none, only_written, same_terms, moved_terms, put_term}

-- u terms at word H moved to word T, if that is wanted
module _ (w u H T : ℕ) (d d' : List ℕ) (h : H + u * (w + 1) ≤ length d) (k : T + u * (w + 1) ≤ length d) where
  -- no other word is changed
  pub move_only : (e : ℕ) (b : Bool) → (b ≡ true → T + u * (w + 1) ≤ e) → d' ≡ cond b (moved H T (u * (w + 1)) d) d → Only T e d d'
  move_only e true g q = only_written T (u * (w + 1)) e (take (u * (w + 1)) (drop H d)) d d' (length-take-le (u * (w + 1)) (drop H d) (simp length-drop (omega arith))) k (g refl) q
  move_only e false g q = rw q (only_none T e d)

  -- and the terms are there
  pub move_terms : d' ≡ moved H T (u * (w + 1)) d → decoded w u (drop T d') ≡ decoded w u (drop H d)
  move_terms q = moved_terms w u H T d d' h k q

-- a term of c and the set x written at word t, if it is one
module _ (w t c : ℕ) (x d d' : List ℕ) (lx : length x ≡ w) (k : t + (w + 1) ≤ length d) (q : d' ≡ cond (eqb c 0) d (take t d ++ ((c ∷ x) ++ drop (t + (w + 1)) d))) where
  -- no other word is changed
  pub put_only : Only t (t + present c * (w + 1)) d d'
  unfolding present
  put_only = go c q
    where
      go : (c : ℕ) → d' ≡ cond (eqb c 0) d (take t d ++ ((c ∷ x) ++ drop (t + (w + 1)) d)) → Only t (t + present c * (w + 1)) d d'
      go zero f = rw f (only_none t (t + 0 * (w + 1)) d)
      go (suc c) f = rw (one-mul (w + 1)) (only_written t (w + 1) (t + (w + 1)) (suc c ∷ x) d d' (omega (arith, lx)) k (omega arith) (rw (ne_eqb (suc c) 0 (λ z. omega arith)) at f))

  -- and it is there
  pub put_there : (p : Polynomial) → decoded w (present c) (drop t d') ++ p ≡ keep c (num x) p
  unfolding present keep decoded
  put_there p = go c q
    where
      go : (c : ℕ) → d' ≡ cond (eqb c 0) d (take t d ++ ((c ∷ x) ++ drop (t + (w + 1)) d)) → decoded w (present c) (drop t d') ++ p ≡ keep c (num x) p
      go zero f = refl
      go (suc c) f = ap (λ (o : Polynomial). o ++ p) (put_term w t (suc c) x (drop (t + (w + 1)) d) d d' lx (omega arith) (rw (ne_eqb (suc c) 0 (λ z. omega arith)) at f))

-- the whole of a turn: u terms from word H to word T, what follows them put together from word T + U + C on, and a term between
module _ (w u H T M C N R : ℕ) (s0 s1 s2 s3 s4 : List ℕ) (room : N ≤ length s0) (hin : H + u * (w + 1) + M ≤ N) (tin : T + u * (w + 1) + C + R ≤ length s0)
    (l1 : length s1 ≡ length s0) (l2 : length s2 ≡ length s0) (l3 : length s3 ≡ length s0)
    (e1 : s1 ≡ cond (ltb T H) (moved H T (u * (w + 1)) s0) s0) where
  -- what is moved first
  first_only : Only T (H + u * (w + 1)) s0 s1
  first_only = move_only w u H T s0 s1 (omega arith) (omega arith) (H + u * (w + 1)) (ltb T H) (λ q. omega (arith, ltb-true T H q)) e1

  -- leaves what stands behind it
  pub rest_stays : drop (H + u * (w + 1) + M) s1 ≡ drop (H + u * (w + 1) + M) s0
  rest_stays = first_only.behind (H + u * (w + 1) + M) (omega arith)

  module _ (f2 : (b : ℕ) → b ≤ H + u * (w + 1) + M → b ≤ T + u * (w + 1) + C → take b s2 ≡ take b s1)
      (b2 : (b : ℕ) → N ≤ b → T + u * (w + 1) + C + R ≤ b → drop b s2 ≡ drop b s1)
      (e3 : s3 ≡ cond (ltb H T) (moved H T (u * (w + 1)) s2) s2) (o4 : Only (T + u * (w + 1)) (T + u * (w + 1) + C) s3 s4) (l4 : length s4 ≡ length s0) where
    -- what is moved last
    last_only : Only T (T + u * (w + 1)) s2 s3
    last_only = move_only w u H T s2 s3 (omega arith) (omega arith) (T + u * (w + 1)) (ltb H T) (λ q. omega arith) e3

    -- the stretch is in its place before the term is written
    stretch : decoded w u (drop T s3) ≡ decoded w u (drop H s0)
    stretch = go (ltb H T) refl (ltb T H) refl
      where
        go : (a : Bool) → ltb H T ≡ a → (b : Bool) → ltb T H ≡ b → decoded w u (drop T s3) ≡ decoded w u (drop H s0)
        go true a b y =
            let l : H < T = ltb-true H T a in
            let f : s3 ≡ moved H T (u * (w + 1)) s2 = rw a at e3 in
            let g : s1 ≡ s0 = rw (le-ltb T H (omega arith)) at e1 in
            move_terms w u H T s2 s3 (omega arith) (omega arith) f
            ∙ same_terms w u H (H + u * (w + 1)) s1 s2 refl (omega arith) (omega arith) (f2 (H + u * (w + 1)) (omega arith) (omega arith))
            ∙ ap (λ (z : List ℕ). decoded w u (drop H z)) g
        go false a true y =
            let l : T < H = ltb-true T H y in
            let f : s3 ≡ s2 = rw a at e3 in
            let g : s1 ≡ moved H T (u * (w + 1)) s0 = rw y at e1 in
            ap (λ (z : List ℕ). decoded w u (drop T z)) f
            ∙ same_terms w u T (T + u * (w + 1)) s1 s2 refl (omega arith) (omega arith) (f2 (T + u * (w + 1)) (omega arith) (omega arith))
            ∙ move_terms w u H T s0 s1 (omega arith) (omega arith) g
        go false a false y =
            let q : T ≡ H = omega (arith, ltb-false H T a, ltb-false T H y) in
            let f : s3 ≡ s2 = rw a at e3 in
            let g : s1 ≡ s0 = rw y at e1 in
            ap (λ (z : List ℕ). decoded w u (drop T z)) f
            ∙ same_terms w u T (T + u * (w + 1)) s1 s2 refl (omega arith) (omega arith) (f2 (T + u * (w + 1)) (omega arith) (omega arith))
            ∙ rw (g, q)

    -- and after it
    pub stretch_there : decoded w u (drop T s4) ≡ decoded w u (drop H s0)
    stretch_there = same_terms w u T (T + u * (w + 1)) s3 s4 refl (omega arith) (omega arith) (o4.front (T + u * (w + 1)) (omega arith)) ∙ stretch

    -- what was put together stays
    pub rest_there : drop (T + u * (w + 1) + C) s4 ≡ drop (T + u * (w + 1) + C) s2
    rest_there = o4.behind (T + u * (w + 1) + C) (omega arith) ∙ last_only.behind (T + u * (w + 1) + C) (omega arith)

    -- words in front of both places stay
    pub front_stays : (b : ℕ) → b ≤ H → b ≤ T → take b s4 ≡ take b s0
    front_stays b h t = o4.front b (omega arith) ∙ last_only.front b t ∙ f2 b (omega arith) (omega arith) ∙ first_only.front b t

    -- and behind all
    pub behind_stays : (b : ℕ) → N ≤ b → T + u * (w + 1) + C + R ≤ b → drop b s4 ≡ drop b s0
    behind_stays b n t = o4.behind b (omega arith) ∙ last_only.behind b (omega arith) ∙ b2 b n t ∙ first_only.behind b (omega arith)
