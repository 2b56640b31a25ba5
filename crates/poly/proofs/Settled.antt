-- Laws of the step in the store: the look for v, and what is moved and cleared.
use mathlib.Core.Path.{◌≡◌, refl, ap, sym, ◌∙◌}
use mathlib.Core.Bool.{Bool, true, false}
use Rattle.std.proofs.Common.{None, Some, suc, add-one, take-append-drop}
use mathlib.Core.List.{List, ◌++◌, append_assoc}
use Prim.Native.Nat.{ℕ, ◌+◌, ◌-◌, ◌*◌, ◌^◌, ◌<◌, ◌≤◌}
use native.Mathlib.Nat.{sub-zero, add-mul, mul-le-mul_right}
use native.Mathlib.Omega.{arith}
use lib.Dec.{ltb, leb}
use lib.IntN.{ℤ}
use lib.ListN.{length, get_or, take, drop, replicate, length-append, length-drop, length-replicate, replicate-append-replicate}
use lib.Pow.{pow_pos, pow_mono}
use lib.Seq.{drop-drop, take-add, take_at, drop_at, length-take-le}
use borrow.Author.Tests.{ltb-true, ltb-false, le-leb, lt-leb}
use Rattle.rules.specs.Judging.{polynomial_words, padded}
use Rattle.rules.specs.Netlist.{EveryVariable}
use Rattle.rules.specs.Polynomial.{Polynomial, Below, gather}
use Rattle.rules.specs.Steps.{all_replaced}
use Rattle.rules.specs.Values.{bit}
use Rattle.rules.specs.declared.records.Record.{Record}
use Rattle.rules.specs.declared.records.Record.TheVariants.{Gate, Cell}
use Rattle.rules.proofs.Bits.{bit_out}
use Rattle.words.specs.Stored.{decoded}
use Rattle.words.proofs.Stored.{length_decoded, decoded_drop, decoded_front, decoded_split, stride_le}
use Rattle.words.proofs.Encoded.{zeros_later, length_polynomial_words, words_decoded, zeros_behind}
use Rattle.gates.specs.Apart.{Making, Apart}
use Rattle.gates.specs.Rows.{row_of}
use Rattle.weave.specs.Seeking.{Last, Uses}
use Rattle.weave.specs.Weaving.{old_terms}
use Rattle.weave.proofs.Growing.{behind_limit}
use Rattle.weave.proofs.Places.{set_below}
use Rattle.tally.specs.Marks.{Renumbered}
use Rattle.tally.proofs.Moving.{moved_same}
use Rattle.poly.specs.Stepping.{Prepared, Both, Together, Ready, Stepped, Each}
use Rattle.gates.specs.declared.apart.Variables.{Variables}
use Rattle.weave.specs.declared.weaving.Parts.{Parts}
use Rattle.weave.specs.declared.weaving.Sizes.{Sizes}
use Rattle.poly.proofs.Parts.{step_absent}
use Rattle.poly.proofs.Restored.{front_again}

-- what stands behind word k + n where the first k words are others
behind_front : (k n : ℕ) (p d : List ℕ) → length p ≡ k → drop (k + n) (p ++ drop k d) ≡ drop (k + n) d
behind_front k n p d l =
    sym (drop-drop n k (p ++ drop k d)) ∙ ap (λ (x : List ℕ). drop n x) (drop_at p (drop k d) k l) ∙ drop-drop n k d

-- a stretch up to word `next` handed over, behind k words that were: scratch s and the store d
module _ (k next : ℕ) (s d e f e' f' : List ℕ) (o : k ≤ next) (h : k ≤ length s) (he : e ≡ take k s ++ drop k d) (hf : f ≡ replicate k 0 ++ drop k s) where
  -- up to there
  up_to : k + (next - k) ≡ next
  up_to = omega arith

  -- the store
  pub store_more : e' ≡ take k e ++ (take (next - k) (drop k f) ++ drop (k + (next - k)) e) → e' ≡ take next s ++ drop next d
  store_more c =
      let a : take k e ≡ take k s = ap (λ (x : List ℕ). take k x) he ∙ take_at (take k s) (drop k d) k (length-take-le k s h) in
      let b : drop k f ≡ drop k s = ap (λ (x : List ℕ). drop k x) hf ∙ drop_at (replicate k 0) (drop k s) k (length-replicate k 0) in
      let r : drop (k + (next - k)) e ≡ drop (k + (next - k)) d = ap (λ (x : List ℕ). drop (k + (next - k)) x) he ∙ behind_front k (next - k) (take k s) d (length-take-le k s h) in
      c ∙ rw (a, b, r, ← append_assoc, ← take-add k (next - k) s, up_to)

  -- and scratch
  pub scratch_more : f' ≡ take k f ++ (replicate (next - k) 0 ++ drop next f) → f' ≡ replicate next 0 ++ drop next s
  scratch_more c =
      let a : take k f ≡ replicate k 0 = ap (λ (x : List ℕ). take k x) hf ∙ take_at (replicate k 0) (drop k s) k (length-replicate k 0) in
      let r : drop (k + (next - k)) f ≡ drop (k + (next - k)) s = ap (λ (x : List ℕ). drop (k + (next - k)) x) hf ∙ behind_front k (next - k) (replicate k 0) s (length-replicate k 0) in
      c ∙ rw (a, rw up_to at r, ← append_assoc, replicate-append-replicate {A = ℕ} k (next - k) 0, up_to)

-- K words in front of a store that is zeros from word N on; cleared from there up to word U
cleared_behind : (K N U : ℕ) (front store d d' : List ℕ) → K ≤ U → N ≤ U → U ≤ length store → length front ≡ K → drop N store ≡ replicate (length store - N) 0
    → d ≡ front ++ drop K store → d' ≡ take K d ++ (replicate (U - K) 0 ++ drop U d) → d' ≡ front ++ replicate (length store - K) 0
cleared_behind K N U front store d d' hk hn hu l z c k =
    let f : take K d ≡ front = ap (λ (x : List ℕ). take K x) c ∙ take_at front (drop K store) K l in
    let g : drop K d ≡ drop K store = ap (λ (x : List ℕ). drop K x) c ∙ drop_at front (drop K store) K l in
    let ku : K + (U - K) ≡ U = omega arith in
    let b : drop U d ≡ drop U store = sym (drop-drop (U - K) K d ∙ rw ku) ∙ ap (λ (x : List ℕ). drop (U - K) x) g ∙ (drop-drop (U - K) K store ∙ rw ku) in
    let o : drop U store ≡ replicate (length store - U) 0 = zeros_later N U store hn z in
    let s : U - K + (length store - U) ≡ length store - K = omega arith in
    k ∙ rw (f, b, o, replicate-append-replicate {A = ℕ} (U - K) (length store - U) 0, s)

-- T words of the store shifted from F to E, and the first E of scratch moved in front of them
module _ (E F T : ℕ) (store scratch d e : List ℕ) (he : E ≤ length scratch) (hf : F + T ≤ length store) (ht : E + T ≤ length store)
    (hd : d ≡ take E store ++ (take T (drop F store) ++ drop (E + T) store)) (hm : e ≡ take E scratch ++ drop E d) where
  -- the store then
  both_there : e ≡ (take E scratch ++ take T (drop F store)) ++ drop (E + T) store
  both_there =
      let a : drop E d ≡ take T (drop F store) ++ drop (E + T) store = ap (λ (x : List ℕ). drop E x) hd ∙ drop_at (take E store) (take T (drop F store) ++ drop (E + T) store) E (length-take-le E store (omega arith)) in
      hm ∙ ap (λ (x : List ℕ). take E scratch ++ x) a ∙ sym (append_assoc (take E scratch) (take T (drop F store)) (drop (E + T) store))

  -- how many words both are
  both_length : length (take E scratch ++ take T (drop F store)) ≡ E + T
  both_length =
      let l : T ≤ length (drop F store) = simp length-drop (omega arith) in
      simp length-append (omega (arith, length-take-le E scratch he, length-take-le T (drop F store) l))

  -- and with zeros behind both, where there were zeros from word N on
  moved : (N U : ℕ) (d' : List ℕ) → E + T ≤ U → N ≤ U → U ≤ length store → drop N store ≡ replicate (length store - N) 0
      → d' ≡ take (E + T) e ++ (replicate (U - (E + T)) 0 ++ drop U e) → d' ≡ take E scratch ++ (take T (drop F store) ++ replicate (length store - (E + T)) 0)
  moved N U d' hu hn hl z k =
      cleared_behind (E + T) N U (take E scratch ++ take T (drop F store)) store e d' hu hn hl both_length z both_there k
      ∙ append_assoc (take E scratch) (take T (drop F store)) (replicate (length store - (E + T)) 0)

-- the words of n terms, in two parts
stride_parts : (at n w : ℕ) → at ≤ n → at * (w + 1) + (n - at) * (w + 1) ≡ n * (w + 1)
stride_parts at n w h =
    let m : at + (n - at) ≡ n = omega arith in
    sym (add-mul at (n - at) (w + 1)) ∙ ap (λ (k : ℕ). k * (w + 1)) m

-- the words of a store's terms from `at` on, and where they go behind `out` others, lie inside
pub shift_room : (n w at out len : ℕ) → at ≤ n → n * (w + 1) ≤ len → (out + (n - at)) * (w + 1) ≤ len
    → (at * (w + 1) + (n - at) * (w + 1) ≤ len) × (out * (w + 1) + (n - at) * (w + 1) ≤ len)
shift_room n w at out len h room both =
    (omega (arith, stride_parts at n w h), omega (arith, add-mul out (n - at) (w + 1)))

-- `out` terms in front of the n - at last ones of a store that held n, and zeros behind both
pub settled : (n w at out U : ℕ) (store scratch d e d' : List ℕ) → at ≤ n → n * (w + 1) ≤ length store → (out + (n - at)) * (w + 1) ≤ length store → out * (w + 1) ≤ length scratch
    → (out + (n - at)) * (w + 1) ≤ U → n * (w + 1) ≤ U → U ≤ length store → drop (n * (w + 1)) store ≡ replicate (length store - n * (w + 1)) 0
    → d ≡ take (out * (w + 1)) store ++ (take ((n - at) * (w + 1)) (drop (at * (w + 1)) store) ++ drop (out * (w + 1) + (n - at) * (w + 1)) store)
    → e ≡ take (out * (w + 1)) scratch ++ drop (out * (w + 1)) d
    → d' ≡ take ((out + (n - at)) * (w + 1)) e ++ (replicate (U - (out + (n - at)) * (w + 1)) 0 ++ drop U e)
    → d' ≡ take (out * (w + 1)) scratch ++ (take ((n - at) * (w + 1)) (drop (at * (w + 1)) store) ++ replicate (length store - (out + (n - at)) * (w + 1)) 0)
settled n w at out U store scratch d e d' h room both hs hu hn hl z hd hm k =
    let m : (out + (n - at)) * (w + 1) ≡ out * (w + 1) + (n - at) * (w + 1) = add-mul out (n - at) (w + 1) in
    let i = shift_room n w at out (length store) h room both in
    rw m (moved (out * (w + 1)) (at * (w + 1)) ((n - at) * (w + 1)) store scratch d e hs i.0 i.1 hd hm (n * (w + 1)) U d' (rw m at hu) hn hl z (rw m at k))

-- what stands behind the words of k terms does not matter to them
decoded_taken : (w k : ℕ) (s t : List ℕ) → k * (w + 1) ≤ length s → decoded w k (take (k * (w + 1)) s ++ t) ≡ decoded w k s
decoded_taken w k s t h =
    let n : k * suc w ≤ length (take (k * (w + 1)) s) = rw (← add-one w) (omega (arith, length-take-le (k * (w + 1)) s h)) in
    decoded_front w k (take (k * (w + 1)) s) t n ∙ sym (decoded_front w k (take (k * (w + 1)) s) (drop (k * (w + 1)) s) n) ∙ ap (decoded w k) (take-append-drop (k * (w + 1)) s)

-- scratch has room for `limit` terms
pub scratch_front : (z : Sizes) (store scratch : List ℕ) → Both z store scratch → z.limit * (z.w + 1) ≤ length scratch
scratch_front z store scratch b = omega (arith, b.task.scratch_room, add-mul z.limit z.made (z.w + 1))

-- there is no room for all terms, and the front of scratch is zeros: all is as it was
pub together_none : (z : Sizes) (q : Polynomial) (store scratch scratch' : List ℕ) → Both z store scratch → z.limit < length q
    → scratch' ≡ replicate (z.limit * (z.w + 1)) 0 ++ drop (z.limit * (z.w + 1)) scratch → Together z q store scratch None store scratch'
together_none z q store scratch scratch' b l c =
    let u : leb (length q) z.limit ≡ false = lt-leb (length q) z.limit l in
    record {
      counted = rw u;
      stored = rw u;
      kept = front_again (z.limit * (z.w + 1)) (z.limit * (z.w + 1)) scratch scratch scratch' (omega arith) b.clean refl c;
    }

-- the weave left the scratch `made`, with r.out terms in front of it
module _ (z : Sizes) (r : Parts) (q : Polynomial) (store scratch made : List ℕ) (b : Both z store scratch)
    (g : (r.out ≤ z.limit) × (r.at ≤ length (old_terms z store)) × (decoded z.w r.out made ++ drop r.at (old_terms z store) ≡ q))
    (t : drop (r.out * (z.w + 1)) made ≡ drop (r.out * (z.w + 1)) scratch) (lm : length made ≡ length scratch) where
  -- the terms left are terms of the store
  pub left_in : r.at ≤ z.n
  left_in = omega (arith, g.1, length_decoded z.w z.n store)

  -- both parts are all terms
  pub counted : length q ≡ r.out + (z.n - r.at)
  counted = ap length (sym g.2) ∙ simp (length-append, length-drop) (omega (arith, length_decoded z.w z.n store, length_decoded z.w r.out made))

  -- the terms in front of scratch lie inside
  pub front_in : r.out * (z.w + 1) ≤ length made
  front_in = omega (arith, scratch_front z store scratch b, mul-le-mul_right (z.w + 1) g.0, lm)

  -- what putting both parts together asks
  pub to_settle : r.out + (z.n - r.at) ≤ z.limit
      → (z.w ≤ 16) × (r.at ≤ z.n) × (z.n * (z.w + 1) ≤ length store) × ((r.out + (z.n - r.at)) * (z.w + 1) ≤ length store) × (r.out * (z.w + 1) ≤ length made)
      × (drop (z.n * (z.w + 1)) store ≡ replicate (length store - z.n * (z.w + 1)) 0)
  to_settle h = (
    b.task.narrow,
    left_in,
    b.task.room,
    stride_le (r.out + (z.n - r.at)) z.limit z.w (length store) h b.store_room,
    front_in,
    b.behind,
  )

  -- both parts fit: their terms are in the store
  module _ (store' scratch' : List ℕ) (h : r.out + (z.n - r.at) ≤ z.limit) (f : (i : ℕ) → get_or store' i 0 < 2 ^ 64)
      (e : store' ≡ take (r.out * (z.w + 1)) made ++ (take ((z.n - r.at) * (z.w + 1)) (drop (r.at * (z.w + 1)) store) ++ replicate (length store - (r.out + (z.n - r.at)) * (z.w + 1)) 0)) where
    -- their words
    abbrev words : ℕ
    words = (r.out + (z.n - r.at)) * (z.w + 1)

    -- those of both parts are so many
    parts_length : length (take (r.out * (z.w + 1)) made ++ take ((z.n - r.at) * (z.w + 1)) (drop (r.at * (z.w + 1)) store)) ≡ words
    parts_length =
        let tail_in : (z.n - r.at) * (z.w + 1) ≤ length (drop (r.at * (z.w + 1)) store) = simp length-drop (omega (arith, b.task.room, stride_parts r.at z.n z.w left_in)) in
        simp length-append (omega (arith, length-take-le (r.out * (z.w + 1)) made front_in, length-take-le ((z.n - r.at) * (z.w + 1)) (drop (r.at * (z.w + 1)) store) tail_in, add-mul r.out (z.n - r.at) (z.w + 1)))

    -- they stand in front of zeros
    parted : store' ≡ (take (r.out * (z.w + 1)) made ++ take ((z.n - r.at) * (z.w + 1)) (drop (r.at * (z.w + 1)) store)) ++ replicate (length store - words) 0
    parted = e ∙ sym (append_assoc (take (r.out * (z.w + 1)) made) (take ((z.n - r.at) * (z.w + 1)) (drop (r.at * (z.w + 1)) store)) (replicate (length store - words) 0))

    -- the terms there are those of q
    there : decoded z.w (r.out + (z.n - r.at)) store' ≡ q
    there =
        let m : drop (r.out * suc z.w) store' ≡ take ((z.n - r.at) * (z.w + 1)) (drop (r.at * (z.w + 1)) store) ++ replicate (length store - words) 0 =
        rw (← add-one z.w) (ap (λ (x : List ℕ). drop (r.out * (z.w + 1)) x) e ∙ drop_at (take (r.out * (z.w + 1)) made) (take ((z.n - r.at) * (z.w + 1)) (drop (r.at * (z.w + 1)) store) ++ replicate (length store - words) 0) (r.out * (z.w + 1)) (length-take-le (r.out * (z.w + 1)) made front_in)) in
        decoded_split z.w r.out (z.n - r.at) store'
        ∙ ap (λ (x : Polynomial). x ++ decoded z.w (z.n - r.at) (drop (r.out * suc z.w) store')) (ap (decoded z.w r.out) e ∙ decoded_taken z.w r.out made _ front_in)
        ∙ ap (λ (x : Polynomial). decoded z.w r.out made ++ x) (ap (decoded z.w (z.n - r.at)) m ∙ decoded_taken z.w (z.n - r.at) (drop (r.at * (z.w + 1)) store) _ (simp length-drop (omega (arith, b.task.room, stride_parts r.at z.n z.w left_in))) ∙ sym (decoded_drop z.w r.at z.n store left_in))
        ∙ g.2

    pub together_fits : scratch' ≡ replicate (r.out * (z.w + 1)) 0 ++ drop (r.out * (z.w + 1)) made → Together z q store scratch (Some (r.out + (z.n - r.at))) store' scratch'
    unfolding padded
    together_fits c =
        let l : length q ≡ r.out + (z.n - r.at) = counted in
        let u : leb (length q) z.limit ≡ true = le-leb (length q) z.limit (omega arith) in
        let long : words ≤ length store' = rw (parted, length-append) (omega (arith, parts_length)) in
        let p : polynomial_words z.w q ≡ take (r.out * (z.w + 1)) made ++ take ((z.n - r.at) * (z.w + 1)) (drop (r.at * (z.w + 1)) store) =
        ap (polynomial_words z.w) (sym there) ∙ words_decoded z.w (r.out + (z.n - r.at)) store' f long ∙ rw parted (take_at _ _ words parts_length) in
        let k : length (polynomial_words z.w q) ≡ words = length_polynomial_words z.w q ∙ rw l in
        record {
          counted = rw (u, l);
          stored = rw (u, k, p) parted;
          kept = front_again (r.out * (z.w + 1)) (z.limit * (z.w + 1)) scratch made scratch' (mul-le-mul_right (z.w + 1) g.0) b.clean t c;
        }

  -- they do not fit: what was written is cleared
  pub together_full : (scratch' : List ℕ) → z.limit < r.out + (z.n - r.at) → scratch' ≡ take 0 made ++ (replicate (z.limit * (z.w + 1) - 0) 0 ++ drop (z.limit * (z.w + 1)) made)
      → Together z q store scratch None store scratch'
  together_full scratch' h c =
      let k : drop (z.limit * (z.w + 1)) made ≡ drop (z.limit * (z.w + 1)) scratch = behind_limit z.w z.limit r.out scratch made g.0 t in
      together_none z q store scratch scratch' b (omega (arith, counted)) (rw (sub-zero (z.limit * (z.w + 1)), k) at c)

-- v does not occur: the step changes nothing of the terms
absent_same : (w l v : ℕ) (r : Record) (limit held : ℕ) (store scratch : List ℕ) → Ready w l v r limit held store scratch → (end : ℕ) → Last v (decoded w held store) end → end ≡ 0
    → gather (2 ^ l) (all_replaced (2 ^ l) v r (decoded w held store)) ≡ decoded w held store
absent_same w l v r limit held store scratch h end o z =
    step_absent (2 ^ l) v r (2 ^ (64 * w)) (decoded w held store) (pow_pos l) h.falls h.coefficients (rw z at o.free)

-- nor of the numbers
pub numbers_same : (w l v : ℕ) (r : Record) (limit held : ℕ) (store scratch numbers : List ℕ) → Ready w l v r limit held store scratch → (end : ℕ) → Last v (decoded w held store) end → end ≡ 0
    → Renumbered limit (decoded w held store) (gather (2 ^ l) (all_replaced (2 ^ l) v r (decoded w held store))) numbers numbers
numbers_same w l v r limit held store scratch numbers h end o z =
    record { moved = λ few. moved_same (λ u. rw (absent_same w l v r limit held store scratch h end o z)); stayed = λ many. refl }

-- nor of the store
pub stepped_same : (w l v : ℕ) (r : Record) (limit held : ℕ) (store scratch : List ℕ) → Ready w l v r limit held store scratch → (end : ℕ) → Last v (decoded w held store) end → end ≡ 0
    → Stepped w limit (gather (2 ^ l) (all_replaced (2 ^ l) v r (decoded w held store))) store scratch (Some held) store scratch
stepped_same w l v r limit held store scratch h end o z =
    let e = absent_same w l v r limit held store scratch h end o z in
    let t : leb (length (decoded w held store)) limit ≡ true = le-leb _ limit (omega (arith, length_decoded w held store, h.held_most)) in
    record {
      counted = rw (e, t, length_decoded);
      stored = rw (e, t) h.kept;
      cleared = h.clean;
    }

-- nothing is made of one where none holds v
pub each_none : (v : ℕ) (r : Record) (p : Polynomial) (end : ℕ) → Last v p end → end ≡ 0 → Each v r p 0
each_none v r p end o z =
    record { some = λ i l b. absurd (omega (arith, rw z at o.free i (omega arith) l)); none = λ free. refl }

-- what the record makes, where some term does
pub each_some : (v : ℕ) (r : Record) (p : Polynomial) (end made : ℕ) → Last v p end → (end ≡ 0 → ⊥) → Making r made → Each v r p made
each_some v r p end made o z making =
    record {
      some = λ i l b. making;
      none = λ free. absurd (omega (arith, free (end - 1) (omega arith) (omega (arith, o.high)), o.held (omega arith)));
    }

-- a variable of a set that is below a power of two
held_low : (s v e : ℕ) → bit s v ≡ 1 → s < 2 ^ e → v < e
held_low s v e b l = go (ltb v e) refl
  where
    go : (t : Bool) → ltb v e ≡ t → v < e
    go true d = ltb-true v e d
    go false d = let m : 2 ^ e ≤ 2 ^ v = pow_mono (ltb-false v e d) in absurd (omega (arith, (bit_out s v b).0))

-- what the look for the words used asks, where some term holds v
pub used_asks : (w l v : ℕ) (r : Record) (limit held end : ℕ) (store scratch : List ℕ) → Ready w l v r limit held store scratch → Last v (decoded w held store) end → (end ≡ 0 → ⊥)
    → (0 < held) × (0 < w) × Below (2 ^ (64 * w)) (decoded w held store)
used_asks w l v r limit held end store scratch h o z = (omega (arith, o.high, z, length_decoded w held store), omega (arith, h.v_in), h.falls)

-- a record reads some variable, so a bound of all it reads is not 0
some_below : (v : ℕ) (r : Record) → EveryVariable (λ u. u < v) r → 0 < v
some_below v (Gate x y) h = omega (arith, h.0)
some_below v (Cell byte x1 x2 x3) h = omega (arith, h.0)

-- what the step of a record brought apart asks
pub to_replace : (w l v : ℕ) (r : Record) (limit held end : ℕ) (store scratch : List ℕ) → Ready w l v r limit held store scratch → Last v (decoded w held store) end → (end ≡ 0 → ⊥)
    → (q : Variables) (row : List ℤ) → Apart r q (row_of row) → length row ≡ 8 → (k : ℕ) → Uses w (decoded w held store) k
    → Prepared store held w (record { v = v; over = q; l = l; k = k }) r row end scratch limit
to_replace w l v r limit held end store scratch h o z q row a e k u =
    let low = a.low v (some_below v r h.low) h.low in
    record {
      room = stride_le held limit w (length store) h.held_most h.store_room;
      narrow = h.narrow;
      fit = record {
        short = u.within;
        v_in = held_low (get_or (decoded w held store) (end - 1) (0, 0)).1 v (64 * k) (o.held (omega (arith, z))) (set_below (2 ^ (64 * k)) (decoded w held store) (end - 1) u.falls (omega (arith, o.high, z)));
        l_high = h.l_high;
        apart = a;
        eight = e;
        x_low = low.0;
        y_low = low.1;
        z_low = low.2;
        falls = u.falls;
        coefficients = h.coefficients;
      };
      few = h.held_most;
      last = o;
      some = omega (arith, z);
      store_room = h.store_room;
      scratch_room = h.scratch_room;
      behind = rw (length_decoded w held store) at (zeros_behind w store (decoded w held store) h.kept);
      clean = h.clean;
    }
