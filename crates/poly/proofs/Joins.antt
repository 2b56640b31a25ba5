-- The streams of a gate gather to what becomes of the terms that hold it, and each of them falls.
use mathlib.Core.Path.{◌≡◌, refl, ap, sym, ◌∙◌}
use mathlib.Core.Bool.{Bool, true, false, cond}
use mathlib.Core.List.{List, [], ◌∷◌}
use mathlib.Core.Logic.{◌⊎◌, inl, inr, ⊎_elim}
use Prim.Native.Nat.{ℕ, zero, suc, ◌+◌, ◌*◌, ◌%◌, ◌^◌, ◌<◌, ◌≤◌}
use native.Mathlib.Nat.{mod-add-mod, add-mod-mod}
use native.Mathlib.Omega.{arith}
use lib.Bits.{bit_xor, xor_lt}
use lib.Dec.{eqb}
use lib.IntN.{ℤ, pos}
use lib.ListN.{get_or}
use lib.Pow.{pow_pos}
use borrow.Author.Tests.{eqb-true}
use Rattle.rules.specs.Cells.{scaled}
use Rattle.rules.specs.Each.{sum, joined}
use Rattle.rules.specs.Values.{bit}
use Rattle.rules.specs.Polynomial.{Term, Polynomial, hit, coefficient_at, Below, Under, keep, gather}
use Rattle.rules.specs.Steps.{replaced, all_replaced}
use Rattle.rules.specs.declared.records.Record.{Record}
use Rattle.rules.proofs.Indices.{sum_same, sum_add}
use Rattle.rules.proofs.Terms.{hit_zero, coefficient_append, coefficient_joined}
use Rattle.rules.proofs.Gathered.{keep_coefficient, gather_same}
use Rattle.gates.specs.Apart.{Apart}
use Rattle.gates.specs.Masks.{mask_of}
use Rattle.gates.specs.Rows.{row_of, multiplier}
use Rattle.merge.specs.Streams.{streams_of, held_in, if_held, multiplier_of, weight, stream, streams}
use Rattle.weave.specs.Weaving.{holding}
use Rattle.merge.specs.declared.streams.Gate.{Gate}
use Rattle.rules.proofs.Bits.{bit_digit, bit_cases}
use Rattle.merge.proofs.Flow.{keep_none, streams_few}
use Rattle.gates.proofs.Whole.{scaled_none}
use Rattle.poly.proofs.Parts.{first, second}
use Rattle.gates.proofs.Replacing.{Small, term_sum, free_multiplier, distinct, shift, in_of}

-- the tables are those of a record brought apart, over variables that are not v
pub record Tables (g : Gate) (r : Record) (row multipliers : List ℤ) (mask : ℕ → ℕ) : Type 0 where
  pub apart : Apart r g.over (row_of row)
  pub x_off : g.over.x ≡ g.v → ⊥
  pub y_off : g.over.y ≡ g.v → ⊥
  pub z_off : g.over.z ≡ g.v → ⊥
  pub multiplied : (h j : ℕ) → h < streams_of g → j < streams_of g → get_or multipliers (h * 8 + j) (pos 0) ≡ multiplier (row_of row) h j
  pub masked : (j : ℕ) → j < streams_of g → mask j ≡ mask_of g.v g.over j

-- a set has one of the subsets that there are streams for
held_few : (g : Gate) (s : ℕ) → held_in g s < streams_of g
unfolding held_in streams_of
held_few g s = go (eqb g.over.z 0)
  where
    go : (b : Bool) → bit s g.over.x + 2 * bit s g.over.y + 4 * cond b 0 (bit s g.over.z) < cond b 4 8
    go true = omega (arith, bit_digit s g.over.x, bit_digit s g.over.y)
    go false = omega (arith, bit_digit s g.over.x, bit_digit s g.over.y, bit_digit s g.over.z)

-- the bits of a number below 8
three_bits : (a b c : ℕ) → a < 2 → b < 2 → c < 2 → (bit (a + 2 * b + 4 * c) 0 ≡ a) × (bit (a + 2 * b + 4 * c) 1 ≡ b) × (bit (a + 2 * b + 4 * c) 2 ≡ c)
unfolding bit
three_bits a b c h i j = (omega arith, omega arith, omega arith)

-- they say which of x, y and z a set has; nothing of a z that is not there
held_bits : (g : Gate) (s : ℕ) → (bit (held_in g s) 0 ≡ bit s g.over.x) × (bit (held_in g s) 1 ≡ bit s g.over.y) × ((bit (held_in g s) 2 ≡ bit s g.over.z) ⊎ (g.over.z ≡ 0))
unfolding held_in
held_bits g s = go (eqb g.over.z 0) refl
  where
    go : (b : Bool) → eqb g.over.z 0 ≡ b
        → (bit (bit s g.over.x + 2 * bit s g.over.y + 4 * cond b 0 (bit s g.over.z)) 0 ≡ bit s g.over.x)
        × (bit (bit s g.over.x + 2 * bit s g.over.y + 4 * cond b 0 (bit s g.over.z)) 1 ≡ bit s g.over.y)
        × ((bit (bit s g.over.x + 2 * bit s g.over.y + 4 * cond b 0 (bit s g.over.z)) 2 ≡ bit s g.over.z) ⊎ (g.over.z ≡ 0))
    go true e = let t = three_bits (bit s g.over.x) (bit s g.over.y) 0 (bit_digit s g.over.x) (bit_digit s g.over.y) (omega arith) in (t.0, t.1, inr (eqb-true g.over.z 0 e))
    go false e = let t = three_bits (bit s g.over.x) (bit s g.over.y) (bit s g.over.z) (bit_digit s g.over.x) (bit_digit s g.over.y) (bit_digit s g.over.z) in (t.0, t.1, inl t.2)

-- where there is no z, the last four of eight streams make nothing
sum_streams : (g : Gate) (f : ℕ → ℕ) → (g.over.z ≡ 0 → (j : ℕ) → j < 8 → bit j 2 ≡ 1 → f j ≡ 0) → sum (streams_of g) f ≡ sum 8 f
unfolding streams_of sum bit
sum_streams g f h = go (eqb g.over.z 0) refl
  where
    go : (b : Bool) → eqb g.over.z 0 ≡ b → sum (cond b 4 8) f ≡ sum 8 f
    go true e =
        let none = h (eqb-true g.over.z 0 e) in
        omega (arith, none 4 (omega arith) refl, none 5 (omega arith) refl, none 6 (omega arith) refl, none 7 (omega arith) refl)
    go false e = refl

-- sums that agree modulo m
sums : (m a b c d : ℕ) → a % m ≡ c % m → b % m ≡ d % m → (a + b) % m ≡ (c + d) % m
sums m a b c d e f = rw (← mod-add-mod a m b, e, mod-add-mod c m b, ← add-mod-mod c b m, f, add-mod-mod c d m)

-- a term in front of a falling list, or not
keep_low : (c s b : ℕ) (q : Polynomial) → (c ≡ 0 → Below b q) → (0 < c → (s < b) × Below s q) → Below b (keep c s q)
unfolding keep
keep_low zero s b q f h = f refl
keep_low (suc c) s b q f h = h (omega arith)

module _ (g : Gate) (r : Record) (row multipliers : List ℤ) (mask : ℕ → ℕ) (t : Tables g r row multipliers mask) where
  -- the multiplier of a set in a stream, from the gate's row
  abbrev taken : ℕ → ℕ → ℤ
  taken s j = multiplier (row_of row) (held_in g s) j

  -- so is a weight
  weight_taken : (j c s : ℕ) → j < streams_of g → weight g multipliers j (c, s) ≡ scaled (2 ^ g.l) (if_held (bit s g.v) (taken s j)) c
  unfolding weight multiplier_of
  weight_taken j c s l = ap (λ (z : ℤ). scaled (2 ^ g.l) (if_held (bit s g.v) z) c) (t.multiplied (held_in g s) j (held_few g s) l)

  -- a term that does not hold v is in no stream
  weight_none : (j : ℕ) → j < streams_of g → (z : Term) → bit z.1 g.v ≡ 0 → weight g multipliers j z ≡ 0
  unfolding if_held
  weight_none j l z e = weight_taken j z.0 z.1 l ∙ rw e (scaled_none (2 ^ g.l) (pos 0) z.0 refl)

  -- one that does has its multiplier
  weight_held : (j c s : ℕ) → j < streams_of g → bit s g.v ≡ 1 → weight g multipliers j (c, s) ≡ scaled (2 ^ g.l) (taken s j) c
  unfolding if_held
  weight_held j c s l e = weight_taken j c s l ∙ rw e

  -- where there is no z, no stream puts one in
  taken_none : (s : ℕ) → g.over.z ≡ 0 → (j : ℕ) → j < 8 → bit j 2 ≡ 1 → taken s j ≡ pos 0
  taken_none s e = free_multiplier 2 (held_in g s) (row_of row) (t.apart.no_z e)

  -- the streams hold of it what replacing makes of it
  term_streams : (u c s : ℕ) → c ≤ 2 ^ g.l → bit s g.v ≡ 1 → sum (streams_of g) (λ j. hit u (bit_xor s (mask j)) (weight g multipliers j (c, s))) % 2 ^ g.l ≡ coefficient_at (replaced (2 ^ g.l) g.v r (c, s)) u % 2 ^ g.l
  term_streams u c s h e =
      let b = held_bits g s in
      ap (λ (z : ℕ). z % 2 ^ g.l)
      (sum_same (streams_of g) (λ j. hit u (bit_xor s (mask j)) (weight g multipliers j (c, s))) (λ j. hit u (bit_xor s (mask_of g.v g.over j)) (scaled (2 ^ g.l) (taken s j) c)) (λ j l. rw (t.masked j l, weight_held j c s l e))
      ∙ sum_streams g (λ j. hit u (bit_xor s (mask_of g.v g.over j)) (scaled (2 ^ g.l) (taken s j) c)) (λ z j l o. rw (scaled_none (2 ^ g.l) (taken s j) c (taken_none s z j l o)) (hit_zero (bit_xor s (mask_of g.v g.over j)) u)))
      ∙ term_sum (2 ^ g.l) g.v u c s (held_in g s) r g.over (row_of row) h t.apart e t.x_off t.y_off t.z_off b.0 b.1 b.2

  -- and so of the terms of a polynomial that hold v
  held_streams : (p : Polynomial) (u : ℕ) → Small (2 ^ g.l) p → sum (streams_of g) (λ j. coefficient_at (stream g multipliers mask j p) u) % 2 ^ g.l ≡ coefficient_at (all_replaced (2 ^ g.l) g.v r (holding g.v p)) u % 2 ^ g.l
  unfolding stream all_replaced coefficient_at sum holding
  held_streams [] u h =
      let twice : sum (streams_of g) (λ j. 0) ≡ sum (streams_of g) (λ j. 0) + sum (streams_of g) (λ j. 0) = sum_add (streams_of g) (λ j. 0) (λ j. 0) in
      let none : sum (streams_of g) (λ j. 0) ≡ 0 = omega arith in
      ap (λ (n : ℕ). n % 2 ^ g.l) none
  held_streams (z ∷ p) u h =
      let split : sum (streams_of g) (λ j. coefficient_at (keep (weight g multipliers j z) (bit_xor z.1 (mask j)) (stream g multipliers mask j p)) u) ≡ sum (streams_of g) (λ j. hit u (bit_xor z.1 (mask j)) (weight g multipliers j z)) + sum (streams_of g) (λ j. coefficient_at (stream g multipliers mask j p) u) =
      sum_same (streams_of g) (λ j. coefficient_at (keep (weight g multipliers j z) (bit_xor z.1 (mask j)) (stream g multipliers mask j p)) u) (λ j. hit u (bit_xor z.1 (mask j)) (weight g multipliers j z) + coefficient_at (stream g multipliers mask j p) u) (λ j l. keep_coefficient (weight g multipliers j z) (bit_xor z.1 (mask j)) (stream g multipliers mask j p) u)
      ∙ sum_add (streams_of g) (λ j. hit u (bit_xor z.1 (mask j)) (weight g multipliers j z)) (λ j. coefficient_at (stream g multipliers mask j p) u) in
      ⊎_elim
      (λ (e : bit z.1 g.v ≡ 0).
      sum_one z u e p ∙ held_streams p u h.1 ∙ ap (λ (q : Polynomial). coefficient_at (all_replaced (2 ^ g.l) g.v r q) u % 2 ^ g.l) (sym (first g.v z p e).1))
      (λ (e : bit z.1 g.v ≡ 1).
      ap (λ (n : ℕ). n % 2 ^ g.l) split
      ∙ sums (2 ^ g.l) (sum (streams_of g) (λ j. hit u (bit_xor z.1 (mask j)) (weight g multipliers j z))) (sum (streams_of g) (λ j. coefficient_at (stream g multipliers mask j p) u)) (coefficient_at (replaced (2 ^ g.l) g.v r z) u) (coefficient_at (all_replaced (2 ^ g.l) g.v r (holding g.v p)) u) (term_streams u z.0 z.1 h.0 e) (held_streams p u h.1)
      ∙ ap (λ (n : ℕ). n % 2 ^ g.l) (sym (coefficient_append (replaced (2 ^ g.l) g.v r z) (all_replaced (2 ^ g.l) g.v r (holding g.v p)) u))
      ∙ ap (λ (q : Polynomial). coefficient_at (all_replaced (2 ^ g.l) g.v r q) u % 2 ^ g.l) (sym (second g.v z p e).1))
      (bit_cases z.1 g.v)
    where
      sum_one : (z : Term) (u : ℕ) → bit z.1 g.v ≡ 0 → (p : Polynomial) → sum (streams_of g) (λ j. coefficient_at (keep (weight g multipliers j z) (bit_xor z.1 (mask j)) (stream g multipliers mask j p)) u) % 2 ^ g.l ≡ sum (streams_of g) (λ j. coefficient_at (stream g multipliers mask j p) u) % 2 ^ g.l
      sum_one z u e p = ap (λ (n : ℕ). n % 2 ^ g.l) (sum_same (streams_of g) (λ j. coefficient_at (keep (weight g multipliers j z) (bit_xor z.1 (mask j)) (stream g multipliers mask j p)) u) (λ j. coefficient_at (stream g multipliers mask j p) u) (λ j l. ap (λ (q : Polynomial). coefficient_at q u) (keep_none (weight g multipliers j z) (bit_xor z.1 (mask j)) (stream g multipliers mask j p) (weight_none j l z e))))

  -- the streams of a gate gather to what becomes of the terms that hold it
  pub step_streams : (p : Polynomial) → Small (2 ^ g.l) p → gather (2 ^ g.l) (streams g multipliers mask (streams_of g) p) ≡ gather (2 ^ g.l) (all_replaced (2 ^ g.l) g.v r (holding g.v p))
  unfolding streams
  step_streams p h =
      gather_same (2 ^ g.l) (joined (streams_of g) (λ j. stream g multipliers mask j p)) (all_replaced (2 ^ g.l) g.v r (holding g.v p)) (pow_pos g.l)
      (λ u. ap (λ (z : ℕ). z % 2 ^ g.l) (coefficient_joined (streams_of g) (λ j. stream g multipliers mask j p) u) ∙ held_streams p u h)

  -- a stream moves every set that it has by the same number
  moved : (j : ℕ) → j < streams_of g → (z : Term) → 0 < weight g multipliers j z → bit_xor z.1 (mask j) + 2 ^ g.v ≡ z.1 + in_of g.over j
  moved j l z h = ⊎_elim
      (λ (e : bit z.1 g.v ≡ 0). absurd (omega (arith, weight_none j l z e)))
      (λ (e : bit z.1 g.v ≡ 1).
      let b = held_bits g z.1 in
      rw (t.masked j l) (shift g.v z.1 (held_in g z.1) j g.over (row_of row) (distinct r g.over (row_of row) t.apart) (omega (arith, (streams_few g).1)) (λ o. omega (arith, weight_held j z.0 z.1 l e ∙ scaled_none (2 ^ g.l) (taken z.1 j) z.0 o)) e t.x_off t.y_off t.z_off b.0 b.1 b.2))
      (bit_cases z.1 g.v)

  -- so it falls as they do
  falls : (j : ℕ) → j < streams_of g → (p : Polynomial) (b d : ℕ) → Below b p → b + in_of g.over j ≤ d + 2 ^ g.v → Below d (stream g multipliers mask j p)
  unfolding stream
  falls j l [] b d h e = tt
  falls j l (z ∷ p) b d h e = keep_low (weight g multipliers j z) (bit_xor z.1 (mask j)) d (stream g multipliers mask j p)
      (λ o. falls j l p z.1 d h.1 (omega arith))
      (λ o. let q : bit_xor z.1 (mask j) + 2 ^ g.v ≡ z.1 + in_of g.over j = moved j l z o in (omega arith, falls j l p z.1 (bit_xor z.1 (mask j)) h.1 (omega arith)))

  -- below any power of two that all sets and the mask are below
  pub stream_falls : (e j : ℕ) → j < streams_of g → (p : Polynomial) (b : ℕ) → Below b p → Under (2 ^ e) p → mask j < 2 ^ e → Below (2 ^ e) (stream g multipliers mask j p)
  unfolding stream
  stream_falls e j l [] b h u w = tt
  stream_falls e j l (z ∷ p) b h u w = keep_low (weight g multipliers j z) (bit_xor z.1 (mask j)) (2 ^ e) (stream g multipliers mask j p)
      (λ o. stream_falls e j l p z.1 h.1 u.1 w)
      (λ o. let q : bit_xor z.1 (mask j) + 2 ^ g.v ≡ z.1 + in_of g.over j = moved j l z o in (xor_lt e z.1 (mask j) u.0 w, falls j l p z.1 (bit_xor z.1 (mask j)) h.1 (omega arith)))
