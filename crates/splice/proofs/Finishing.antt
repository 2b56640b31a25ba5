-- The store when all new terms are in it: what is left over is cleared.
use mathlib.Core.Path.{◌≡◌, ap, sym, ◌∙◌}
use mathlib.Core.List.{List, ◌++◌}
use Prim.Native.Nat.{ℕ, ◌+◌, ◌-◌, ◌*◌, ◌<◌, ◌≤◌}
use native.Mathlib.Nat.{zero-add, zero-mul, mul-le-mul_right}
use native.Mathlib.Omega.{arith}
use mir.Val.{Fits}
use mir.Syntax.{w64}
use lib.ListN.{length, get_or, take, drop, replicate, replicate-append-replicate, length-append, length-drop, length-replicate}
use lib.Seq.{drop_at, take_at, length-take-le}
use Rattle.rules.specs.Judging.{polynomial_words, padded}
use Rattle.words.specs.Stored.{decoded}
use Rattle.words.proofs.Encoded.{zeros_later, stored}
use Rattle.words.proofs.Stored.{stride_le}
use Rattle.weave.specs.declared.weaving.Sizes.{Sizes}
use Rattle.splice.specs.Splicing.{Spliced, spliced}
use Rattle.splice.proofs.Written.{same_terms}

module _ (z : Sizes) (store scratch : List ℕ) (r : ℕ) (store1 : List ℕ) (sp : Spliced z store scratch z.end 0 0 r store1) (l1 : length store1 ≡ length store)
    (room : z.n * (z.w + 1) ≤ length store) (store_room : z.limit * (z.w + 1) ≤ length store) (fits : z.n - z.end + z.made ≤ z.limit)
    (zeros : drop (z.n * (z.w + 1)) store ≡ replicate (length store - z.n * (z.w + 1)) 0) where
  -- the terms are in front
  in_front : decoded z.w r store1 ≡ spliced z store scratch z.end 0
  in_front = rw (zero-mul (z.w + 1)) at sp.there

  -- they lie inside
  pub held_room : r * (z.w + 1) ≤ length store
  held_room = stride_le r z.limit z.w (length store) (omega (arith, sp.most, fits)) store_room

  -- words behind both stay
  stays : (b : ℕ) → z.n * (z.w + 1) ≤ b → r * (z.w + 1) ≤ b → drop b store1 ≡ drop b store
  stays b x y = sp.behind b x (rw (zero-add r) y)

  -- as many terms as before, or more. The first part of each conclusion says nothing new: it shows `grind` which words are meant
  pub finished : z.n ≤ r → ((i : ℕ) → Fits w64 (get_or store1 i 0))
      → Spliced z store scratch z.end 0 0 r store1 × (store1 ≡ padded (length store) (polynomial_words z.w (spliced z store scratch z.end 0)))
  finished l f =
      let m : z.n * (z.w + 1) ≤ r * (z.w + 1) = mul-le-mul_right (z.w + 1) l in
      let behind : drop (r * (z.w + 1)) store1 ≡ replicate (length store1 - r * (z.w + 1)) 0 = stays (r * (z.w + 1)) m (omega arith) ∙ zeros_later (z.n * (z.w + 1)) (r * (z.w + 1)) store m zeros ∙ rw l1 in
      (sp, rw (l1, in_front) at (stored z.w store1 r (λ i. (f i).fits) (rw l1 held_room) behind))

  -- the store where there are fewer: what is left over is cleared
  abbrev left_cleared : List ℕ
  left_cleared = take (r * (z.w + 1)) store1 ++ (replicate (z.n * (z.w + 1) - r * (z.w + 1)) 0 ++ drop (z.n * (z.w + 1)) store1)

  pub finished_fewer : r < z.n → ((i : ℕ) → Fits w64 (get_or left_cleared i 0))
      → Spliced z store scratch z.end 0 0 r store1 × (left_cleared ≡ padded (length store) (polynomial_words z.w (spliced z store scratch z.end 0)))
  finished_fewer l f =
      let m : r * (z.w + 1) ≤ z.n * (z.w + 1) = mul-le-mul_right (z.w + 1) (omega arith) in
      let t : length (take (r * (z.w + 1)) store1) ≡ r * (z.w + 1) = length-take-le (r * (z.w + 1)) store1 (rw l1 held_room) in
      let l2 : length left_cleared ≡ length store = simp (length-append, length-replicate, length-drop, t) (omega (arith, room)) in
      let n : z.n * (z.w + 1) - r * (z.w + 1) + (length store - z.n * (z.w + 1)) ≡ length left_cleared - r * (z.w + 1) = omega (arith, room) in
      let behind : drop (r * (z.w + 1)) left_cleared ≡ replicate (length left_cleared - r * (z.w + 1)) 0 =
      drop_at (take (r * (z.w + 1)) store1) (replicate (z.n * (z.w + 1) - r * (z.w + 1)) 0 ++ drop (z.n * (z.w + 1)) store1) (r * (z.w + 1)) t
      ∙ ap (λ (x : List ℕ). replicate (z.n * (z.w + 1) - r * (z.w + 1)) 0 ++ x) (stays (z.n * (z.w + 1)) (omega arith) m ∙ zeros)
      ∙ replicate-append-replicate {A = ℕ} (z.n * (z.w + 1) - r * (z.w + 1)) (length store - z.n * (z.w + 1)) 0 ∙ rw n in
      let same : decoded z.w r left_cleared ≡ decoded z.w r store1 =
      same_terms z.w r 0 (r * (z.w + 1)) store1 left_cleared (sym (zero-add (r * (z.w + 1)))) (rw l1 held_room) (l2 ∙ sym l1) (take_at (take (r * (z.w + 1)) store1) (replicate (z.n * (z.w + 1) - r * (z.w + 1)) 0 ++ drop (z.n * (z.w + 1)) store1) (r * (z.w + 1)) t) in
      (sp, rw (l2, same ∙ in_front) at (stored z.w left_cleared r (λ i. (f i).fits) (rw l2 held_room) behind))
