-- Laws of the loops that write words.
use Rattle.std.proofs.Common.{◌≡◌, ℕ, suc, ◌+◌, ◌-◌, ◌%◌, ◌^◌, ◌<◌, ◌≤◌, List, ◌∷◌, ◌++◌, length, get_or, take, drop, set, sym, ap, ◌∙◌, append_assoc, add-one, arith, length-drop, take-append-drop, length-take-le, get_or-drop, drop-cons, get_or-take, take-suc, drop-drop, take-suc-set, take_at, drop-set-lt}
use native.Mathlib.Nat.{sub_self, mod-add-mod, add-mod_right}
use Rattle.std.specs.List.{copy_within}
use lib.Bits.{bit_xor}
use lib.Pow.{mod-mod-pow}
use lib.Seq.{set_at, append_snoc, paste, paste-suc, drop-paste}
use Rattle.words.specs.Numbers.{words_at, masked}
use Rattle.words.proofs.Numbers.{length_masked, get_or_masked}

-- one more word under its mask written
pub write_more : (d e s m : List ℕ) (i a w t k : ℕ) → i + w ≤ length s → a + w ≤ length m → t + w ≤ length d → k < w
    → e ≡ paste d t (masked (words_at s i w) (words_at m a w)) k
    → set e (t + k) (bit_xor (get_or s (i + k) 0) (get_or m (a + k) 0)) ≡ paste d t (masked (words_at s i w) (words_at m a w)) (k + 1)
write_more d e s m i a w t k hs hm hd l h =
    rw (h, ← get_or_masked s m i a w hs hm k l, add-one k) (paste-suc d t (masked (words_at s i w) (words_at m a w)) k 0 (omega arith) (omega (arith, length_masked s m i a w hs hm)))

-- a coefficient, and w words behind it
pub write_term : (d e N : List ℕ) (t c w : ℕ) → t < length d → e ≡ take (t + 1) (set d t c) ++ N ++ drop (t + 1 + w) (set d t c)
    → e ≡ take t d ++ ((c ∷ N) ++ drop (t + (w + 1)) d)
write_term d e N t c w h q =
    let f : t + 1 + w ≡ t + (w + 1) = omega arith in
    q ∙ ap (λ (x : List ℕ). x ++ N ++ drop (t + 1 + w) (set d t c)) (ap (λ (k : ℕ). take k (set d t c)) (add-one t) ∙ take-suc-set d t c h)
    ∙ rw (append_assoc, append_assoc, drop-set-lt (t + 1 + w) d t c (omega arith), f)

-- one more word copied
pub copy_more : (d e s : List ℕ) (f t k : ℕ) → f + k < length s → t + k < length d → e ≡ paste d t (drop f s) k
    → set e (t + k) (get_or s (f + k) 0) ≡ paste d t (drop f s) (k + 1)
copy_more d e s f t k hs hd h =
    rw (h, ← get_or-drop f s k 0, add-one k) (paste-suc d t (drop f s) k 0 hd (simp length-drop (omega arith)))

-- one more word copied from further behind in the same list
pub carry_more : (d e : List ℕ) (h t k : ℕ) → t ≤ h → h + k < length d → e ≡ paste d t (drop h d) k
    → set e (t + k) (get_or e (h + k) 0) ≡ paste d t (drop h d) (k + 1)
carry_more d e h t k l n q =
    let g : t + k + (h - t) ≡ h + k = omega arith in
    let from : drop (t + k) e ≡ drop (t + k) d =
    ap (drop (t + k)) q ∙ drop-paste d t (drop h d) k (omega arith) (simp length-drop (omega arith)) in
    let same : get_or e (h + k) 0 ≡ get_or d (h + k) 0 =
    ap (λ (x : ℕ). get_or e x 0) (sym g) ∙ sym (get_or-drop (t + k) e (h - t) 0)
    ∙ ap (λ (x : List ℕ). get_or x (h - t) 0) from ∙ get_or-drop (t + k) d (h - t) 0 ∙ ap (λ (x : ℕ). get_or d x 0) g in
    rw same (copy_more d e d h t k n (omega arith) q)

-- the words from further behind in the same list
pub carry_term : (d e : List ℕ) (h t c w : ℕ) → t + (w + 1) ≤ h → h + w ≤ length d → e ≡ copy_within (set d t c) h (h + w) (t + 1)
    → e ≡ take t d ++ ((c ∷ words_at d h w) ++ drop (t + (w + 1)) d)
carry_term d e h t c w l n q =
    let k : h + w - h ≡ w = omega arith in
    write_term d e (words_at d h w) t c w (omega arith) (rw (k, drop-set-lt h d t c (omega arith)) at q)

-- the last word of a front replaced by one of the words up to it
raise_word : (d r : List ℕ) (i j : ℕ) → i ≤ j → j < length d
    → set (take (suc j) d ++ r) j (get_or (take (suc j) d ++ r) i 0) ≡ take j d ++ get_or d i 0 ∷ r
raise_word d r i j l h =
    let same : get_or (take (suc j) d ++ r) i 0 ≡ get_or d i 0 =
    sym (get_or-take (suc j) (take (suc j) d ++ r) i 0 (omega arith))
    ∙ ap (λ (x : List ℕ). get_or x i 0) (take_at (take (suc j) d) r (suc j) (length-take-le (suc j) d (omega arith)))
    ∙ get_or-take (suc j) d i 0 (omega arith) in
    let front : take (suc j) d ++ r ≡ take j d ++ get_or d j 0 ∷ r =
    ap (λ (x : List ℕ). x ++ r) (take-suc d j 0 h) ∙ append_snoc (take j d) (get_or d j 0) r in
    ap (λ (x : ℕ). set (take (suc j) d ++ r) j x) same ∙ ap (λ (x : List ℕ). set x j (get_or d i 0)) front
    ∙ set_at (take j d) (get_or d j 0) r (get_or d i 0) j (length-take-le j d (omega arith))

-- no word moved behind yet
pub raise_none : (d : List ℕ) (f t n : ℕ) → d ≡ take (t + n) d ++ (take (n - n) (drop (f + n) d) ++ drop (t + n) d)
raise_none d f t n = rw sub_self (sym (take-append-drop (t + n) d))

-- one more word moved behind, with k words left before it and j after it
pub raise_more : (d e : List ℕ) (f t n k j : ℕ) → f ≤ t → t + n ≤ length d → k ≤ n → j + 1 ≡ k
    → e ≡ take (t + k) d ++ (take (n - k) (drop (f + k) d) ++ drop (t + n) d)
    → set e (t + j) (get_or e (f + j) 0) ≡ take (t + j) d ++ (take (n - j) (drop (f + j) d) ++ drop (t + n) d)
raise_more d e f t n k j l h m p q =
    let a : t + k ≡ suc (t + j) = omega arith in
    let b : suc (f + j) ≡ f + k = omega arith in
    let c : n - j ≡ suc (n - k) = omega arith in
    let word : take (n - j) (drop (f + j) d) ≡ get_or d (f + j) 0 ∷ take (n - k) (drop (f + k) d) =
    ap (λ (x : ℕ). take x (drop (f + j) d)) c ∙ ap (take (suc (n - k))) (drop-cons d (f + j) 0 (omega arith))
    ∙ ap (λ (x : ℕ). get_or d (f + j) 0 ∷ take (n - k) (drop x d)) b in
    rw (q, a, word) (raise_word d (take (n - k) (drop (f + k) d) ++ drop (t + n) d) (f + j) (t + j) (omega arith) (omega arith))

-- all of them moved
pub raise_all : (d e : List ℕ) (f t n k : ℕ) → k ≡ 0 → e ≡ take (t + k) d ++ (take (n - k) (drop (f + k) d) ++ drop (t + n) d)
    → e ≡ take t d ++ (take n (drop f d) ++ drop (t + n) d)
raise_all d e f t n k z q =
    let a : t + k ≡ t = omega arith in
    let b : n - k ≡ n = omega arith in
    let c : f + k ≡ f = omega arith in
    rw (a, b, c) at q

-- words moved to where they stand
pub move_none : (d : List ℕ) (f t n : ℕ) → f ≡ t → d ≡ take t d ++ (take n (drop f d) ++ drop (t + n) d)
move_none d f t n e = sym (rw (e, ← drop-drop n t d, take-append-drop n (drop t d)) (take-append-drop t d))

-- dropping to l bits after the wrap at 64
pub drop_wrap : (n l : ℕ) → l ≤ 64 → n % 2 ^ 64 % 2 ^ l ≡ n % 2 ^ l
drop_wrap n l h =
    let e : 64 - l + l ≡ 64 = omega arith in
    ap (λ (x : ℕ). n % 2 ^ x % 2 ^ l) (sym e) ∙ mod-mod-pow n (64 - l) l

-- a difference that wraps at 64, dropped to l bits
pub wrap_back : (r a b l : ℕ) → l ≤ 64 → b ≤ 2 ^ l → (r + b) % 2 ^ 64 ≡ a → r % 2 ^ l ≡ (a + (2 ^ l - b)) % 2 ^ l
wrap_back r a b l h le e =
    let f : a % 2 ^ l ≡ (r + b) % 2 ^ l = ap (λ (x : ℕ). x % 2 ^ l) (sym e) ∙ drop_wrap (r + b) l h in
    let g : r + b + (2 ^ l - b) ≡ r + 2 ^ l = omega arith in
    sym (rw (← mod-add-mod a (2 ^ l) (2 ^ l - b), f, mod-add-mod (r + b) (2 ^ l) (2 ^ l - b), g) (add-mod_right r (2 ^ l)))
