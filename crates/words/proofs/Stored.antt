-- Laws of terms in words.
use Rattle.std.proofs.Common.{◌≡◌, ℕ, zero, suc, ◌+◌, ◌-◌, ◌*◌, ◌<◌, ◌≤◌, List, [], ◌∷◌, ◌++◌, length, get_or, take, drop, sym, refl, ap, ◌∙◌, mul-le-mul_right, suc-mul, add-mul, suc-add, one-mul, zero-add, zero-mul, add-one, add-one-le, arith, length-drop, take-append-drop, length-take-le, get_or-drop, drop-drop, take_at, drop_at}
use lib.ListN.{get_or-append}
use lib.Seq.{take-append-le, drop-append-le}
use Rattle.rules.specs.Polynomial.{Term}
use Rattle.words.specs.Listed.{terms_of}
use Rattle.words.specs.Numbers.{num, words_at}
use Rattle.words.specs.Stored.{term_at, decoded}
use Rattle.words.specs.declared.listed.Terms.{Terms}

-- k terms are k
pub length_decoded : (w k : ℕ) (s : List ℕ) → length (decoded w k s) ≡ k
unfolding decoded
length_decoded w zero s = refl
length_decoded w (suc k) s = ap suc (length_decoded w k (drop (suc w) s))

-- terms are as many as their count
pub length_terms : (t : Terms) → length (terms_of t) ≡ t.count
length_terms t = length_decoded t.width t.count t.words.now

-- the i-th term stands at word i (w + 1)
pub decoded_at : (w k i : ℕ) (s : List ℕ) → i < k → get_or (decoded w k s) i (0, 0) ≡ term_at w s (i * (w + 1))
unfolding decoded
decoded_at w zero i s h = absurd (omega arith)
decoded_at w (suc k) zero s h = rw (zero-mul, zero-add)
decoded_at w (suc k) (suc i) s h =
    let e : suc i * (w + 1) ≡ suc w + i * (w + 1) = omega (arith, suc-mul i (w + 1)) in
    let f : suc w + (i * (w + 1) + 1) ≡ suc w + i * (w + 1) + 1 = omega arith in
    rw (e, decoded_at w k i (drop (suc w) s) (omega arith), get_or-drop (suc w) s (i * (w + 1)) 0, drop-drop (i * (w + 1) + 1) (suc w) s, f)

-- the set of the i-th term
pub decoded_set : (w k i : ℕ) (s : List ℕ) → i < k → (get_or (decoded w k s) i (0, 0)).1 ≡ num (words_at s (i * (w + 1) + 1) w)
decoded_set w k i s h = ap (λ (t : Term). t.1) (decoded_at w k i s h)

-- the first k, and the rest
pub decoded_split : (w k m : ℕ) (s : List ℕ) → decoded w (k + m) s ≡ decoded w k s ++ decoded w m (drop (k * suc w) s)
unfolding decoded
decoded_split w zero m s = rw (zero-add, zero-mul)
decoded_split w (suc k) m s =
    let e : suc w + k * suc w ≡ suc k * suc w = omega (arith, suc-mul k (suc w)) in
    rw (suc-add, decoded_split w k m (drop (suc w) s), drop-drop (k * suc w) (suc w) s, e)

-- what comes after does not matter
pub decoded_front : (w k : ℕ) (s t : List ℕ) → k * suc w ≤ length s → decoded w k (s ++ t) ≡ decoded w k s
unfolding decoded
decoded_front w zero s t h = refl
decoded_front w (suc k) s t h =
    let l : suc w ≤ length s = omega (arith, suc-mul k (suc w)) in
    let r : k * suc w ≤ length (drop (suc w) s) = simp length-drop (omega (arith, suc-mul k (suc w))) in
    let one : drop 1 (s ++ t) ≡ drop 1 s ++ t = drop-append-le 1 s t (omega arith) in
    let short : w ≤ length (drop 1 s) = simp length-drop (omega arith) in
    rw (get_or-append s t 0 0 (omega arith), one, take-append-le w (drop 1 s) t short, drop-append-le (suc w) s t l, decoded_front w k (drop (suc w) s) t r)

-- nor do the words behind the terms
decoded_words_of : (w k : ℕ) (s : List ℕ) → k * suc w ≤ length s → decoded w k (take (k * suc w) s) ≡ decoded w k s
decoded_words_of w k s h =
    let l : length (take (k * suc w) s) ≡ k * suc w = length-take-le (k * suc w) s h in
    sym (decoded_front w k (take (k * suc w) s) (drop (k * suc w) s) (omega arith)) ∙ ap (decoded w k) (take-append-drop (k * suc w) s)

-- fewer terms are the first of them
pub decoded_take : (w e n : ℕ) (s : List ℕ) → e ≤ n → decoded w e s ≡ take e (decoded w n s)
unfolding decoded
decoded_take w zero n s h = refl
decoded_take w (suc e) zero s h = absurd (omega arith)
decoded_take w (suc e) (suc n) s h = rw (← decoded_take w e n (drop (suc w) s) (omega arith))

-- the terms from the e-th on stand at word e (w + 1)
pub decoded_drop : (w e n : ℕ) (s : List ℕ) → e ≤ n → drop e (decoded w n s) ≡ decoded w (n - e) (drop (e * (w + 1)) s)
decoded_drop w e n s h =
    let q : e + (n - e) ≡ n = omega arith in
    ap (λ (k : ℕ). drop e (decoded w k s)) (sym q) ∙ ap (drop e) (decoded_split w e (n - e) s)
    ∙ drop_at (decoded w e s) (decoded w (n - e) (drop (e * suc w) s)) e (length_decoded w e s) ∙ rw (add-one w)

-- one term written behind k
pub decoded_more : (w k c : ℕ) (d e N R : List ℕ) → k * (w + 1) ≤ length d → length N ≡ w → e ≡ take (k * (w + 1)) d ++ ((c ∷ N) ++ R)
    → decoded w (k + 1) e ≡ decoded w k d ++ ((c, num N) ∷ [])
unfolding decoded
decoded_more w k c d e N R h n q =
    let s : w + 1 ≡ suc w = add-one w in
    let l : length (take (k * suc w) d) ≡ k * suc w = length-take-le (k * suc w) d (rw s at h) in
    let front : decoded w k (take (k * suc w) d ++ ((c ∷ N) ++ R)) ≡ decoded w k (take (k * suc w) d) = decoded_front w k (take (k * suc w) d) ((c ∷ N) ++ R) (omega arith) in
    let same : decoded w k (take (k * suc w) d) ≡ decoded w k d = decoded_words_of w k d (rw s at h) in
    let back : drop (k * suc w) (take (k * suc w) d ++ ((c ∷ N) ++ R)) ≡ (c ∷ N) ++ R = drop_at (take (k * suc w) d) ((c ∷ N) ++ R) (k * suc w) l in
    let here : take w (N ++ R) ≡ N = take_at N R w n in
    rw (q, s, decoded_split w k 1, front, back, here, same)

-- d of n terms copied behind o, from the at-th on
pub decoded_stretch : (w o n at d : ℕ) (words target target' : List ℕ) → o * (w + 1) ≤ length target → at + d ≤ n → n * (w + 1) ≤ length words
    → target' ≡ take (o * (w + 1)) target ++ (take (d * (w + 1)) (drop (at * (w + 1)) words) ++ drop (o * (w + 1) + d * (w + 1)) target)
    → decoded w (o + d) target' ≡ decoded w o target ++ take d (drop at (decoded w n words))
decoded_stretch w o n at d words target target' h l r q =
    let W : List ℕ = drop (at * suc w) words in
    let A : List ℕ = take (o * suc w) target in
    let B : List ℕ = take (d * suc w) W in
    let C : List ℕ = drop (o * suc w + d * suc w) target in
    let s : w + 1 ≡ suc w = add-one w in
    let h' : o * suc w ≤ length target = rw s at h in
    let r' : n * suc w ≤ length words = rw s at r in
    let m : (at + d) * suc w ≤ n * suc w = mul-le-mul_right (suc w) l in
    let lw : d * suc w ≤ length W = simp length-drop (omega (arith, add-mul at d (suc w))) in
    let la : length A ≡ o * suc w = length-take-le (o * suc w) target h' in
    let lb : length B ≡ d * suc w = length-take-le (d * suc w) W lw in
    let q' : target' ≡ A ++ (B ++ C) = rw s at q in
    let front : decoded w o (A ++ (B ++ C)) ≡ decoded w o target = decoded_front w o A (B ++ C) (omega arith) ∙ decoded_words_of w o target h' in
    let back : decoded w d (B ++ C) ≡ decoded w d W = decoded_front w d B C (omega arith) ∙ decoded_words_of w d W lw in
    let part : take d (drop at (decoded w n words)) ≡ decoded w d W =
    ap (take d) (decoded_drop w at n words (omega arith) ∙ ap (λ (k : ℕ). decoded w (n - at) (drop (at * k) words)) s)
    ∙ sym (decoded_take w d (n - at) W (omega arith)) in
    rw (q', decoded_split w o d, front, drop_at A (B ++ C) (o * suc w) la, back, part)

-- the words of the k-th of n terms lie inside
pub stride_in : (k n w len : ℕ) → k < n → n * (w + 1) ≤ len → k * (w + 1) + (w + 1) ≤ len
stride_in k n w len h l =
    let m : (k + 1) * (w + 1) ≤ n * (w + 1) = mul-le-mul_right (w + 1) (add-one-le h) in
    omega (arith, add-mul k 1 (w + 1), one-mul (w + 1))

-- fewer terms take fewer words
pub stride_le : (k n w len : ℕ) → k ≤ n → n * (w + 1) ≤ len → k * (w + 1) ≤ len
stride_le k n w len h l = let m : k * (w + 1) ≤ n * (w + 1) = mul-le-mul_right (w + 1) h in omega arith
