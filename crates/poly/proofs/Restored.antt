-- Scratch: terms made behind the first words, used, and cleared again.
use mathlib.Core.Path.{◌≡◌, ap, sym, ◌∙◌}
use mathlib.Core.List.{List, [], ◌++◌, append-nil}
use Prim.Native.Nat.{ℕ, ◌+◌, ◌-◌, ◌≤◌}
use native.Mathlib.Omega.{arith}
use lib.ListN.{length, take, drop, replicate, length-drop, replicate-append-replicate, drop_of_length-le, take-append-drop}
use lib.Seq.{take_at, drop_at, take-take, drop-drop, length-take-le}
use Rattle.std.proofs.lemmas.List.{take-replicate, drop-replicate}

-- the first b words are zeros, e of them were written, and they are cleared again: all is as it was
pub front_again : (e b : ℕ) (s s1 s2 : List ℕ) → e ≤ b → take b s ≡ replicate b 0 → drop e s1 ≡ drop e s → s2 ≡ replicate e 0 ++ drop e s1 → s2 ≡ s
front_again e b s s1 s2 h z k c =
    let f : take e s ≡ replicate e 0 = sym (take-take e b s h) ∙ ap (λ (x : List ℕ). take e x) z ∙ take-replicate e b 0 h in
    c ∙ rw (k, ← f) (take-append-drop e s)

-- zeros from word b on, d of them cleared again, are as they were
pub zeros_again : (b d : ℕ) (s part : List ℕ) → s ≡ replicate (length s) 0 → b + d ≤ length s → part ≡ replicate d 0 ++ drop d (drop b s) → part ≡ drop b s
zeros_again b d s part z h e =
    let f : drop b s ≡ replicate (length s - b) 0 = ap (λ (x : List ℕ). drop b x) z ∙ drop-replicate b (length s) 0 in
    let n : d + (length s - b - d) ≡ length s - b = omega arith in
    e ∙ rw (f, drop-replicate {X = ℕ} d (length s - b) 0, replicate-append-replicate {A = ℕ} d (length s - b - d) 0, n)

-- s1 is s with the part from word b on written anew
module _ (b : ℕ) (s part s1 : List ℕ) (hb : b ≤ length s) (lp : length part ≡ length s - b) (e1 : s1 ≡ take b s ++ (part ++ drop (length s - b) (drop b s))) where
  -- behind the part there is nothing
  pub written : s1 ≡ take b s ++ part
  written =
      let n : drop (length s - b) (drop b s) ≡ [] = drop_of_length-le (drop b s) {i = length s - b} (simp length-drop (omega arith)) in
      e1 ∙ rw (n, append-nil part)

  -- the part is what stands there
  pub part_there : drop b s1 ≡ part
  part_there = rw written (drop_at (take b s) part b (length-take-le b s hb))

  -- where s is zeros, they still stand in front of the part
  pub front_zeros : s ≡ replicate (length s) 0 → take b s1 ≡ replicate b 0
  front_zeros z = rw written (take_at (take b s) part b (length-take-le b s hb)) ∙ ap (λ (x : List ℕ). take b x) z ∙ take-replicate b (length s) 0 hb

  -- and where d words of the part are cleared again, all are zeros
  pub restored : (d : ℕ) (s3 : List ℕ) → s ≡ replicate (length s) 0 → b + d ≤ length s → drop d part ≡ drop d (drop b s)
      → s3 ≡ take b s1 ++ (replicate (b + d - b) 0 ++ drop (b + d) s1) → s3 ≡ replicate (length s) 0
  restored d s3 z h k e3 =
      let last : drop (b + d) s1 ≡ replicate (length s - (b + d)) 0 =
      sym (drop-drop d b s1) ∙ ap (λ (x : List ℕ). drop d x) part_there ∙ k ∙ drop-drop d b s ∙ ap (λ (x : List ℕ). drop (b + d) x) z ∙ drop-replicate (b + d) (length s) 0 in
      let n : b + (b + d - b + (length s - (b + d))) ≡ length s = omega arith in
      e3 ∙ rw (front_zeros z, last, replicate-append-replicate {A = ℕ} (b + d - b) (length s - (b + d)) 0, replicate-append-replicate {A = ℕ} b (b + d - b + (length s - (b + d))) 0, n)
