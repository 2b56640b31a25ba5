-- A term times what a record stands for has the record's value times the term's, modulo m.
use mathlib.Core.Path.{◌≡◌, refl, sym, ◌∙◌}
use mathlib.Core.Bool.{Bool, true, false, cond, ◌&&◌}
use mathlib.Core.List.{List, [], ◌∷◌}
use Prim.Native.Nat.{ℕ, zero, suc, ◌+◌, ◌-◌, ◌*◌, ◌%◌, ◌<◌, ◌≤◌}
use native.Mathlib.Nat.{add-zero, add_comm, add_right_comm, add-mul, mul-add, mul_assoc, mul_comm, one-mul, mul-zero, zero-mul, add-mul-mod_self_right}
use native.Mathlib.Omega.{arith}
use lib.Dec.{eqb, leb}
use lib.IntN.{ℤ}
use lib.ListN.{length, get_or}
use borrow.Author.Tests.{eqb-true}
use Rattle.rules.specs.Each.{each, sum}
use Rattle.rules.specs.Netlist.{EveryVariable}
use Rattle.rules.specs.Values.{bit, record_value}
use Rattle.rules.specs.Polynomial.{Term, Polynomial, times_literal, times_chosen}
use Rattle.rules.specs.Cells.{lies_in, coefficient, above, below, scaled, within, Row}
use Rattle.rules.specs.Steps.{times_subset, times_whole, times_record}
use Rattle.rules.specs.declared.records.Record.{Record}
use Rattle.rules.specs.declared.records.Record.TheVariants.{Gate, Cell}
use Rattle.rules.proofs.Bits.{digit_cases, bit_digit}
use Rattle.rules.proofs.Indices.{sum_same, sum_add}
use Rattle.rules.proofs.Remainders.{mul_mod_mod, sum_factor}
use Rattle.rules.proofs.Weighed.{weighed_joined}
use Rattle.rules.proofs.CellRule.{row_right}
use Rattle.demands.specs.Polynomials.{chosen, set_value, value}
use Rattle.demands.proofs.Value.{Digits, digit_at, set_value_with, weighed_value, times_literal_capped, value_times_literal}

-- a digit that is chosen, or 1, times y: y where the choice is at most the digit, else 0
chosen_under : (d x y : ℕ) → d < 2 → x < 2 → chosen d x * y ≡ cond (leb d x) y 0
unfolding chosen
chosen_under d x y h k =
    digit_cases (λ d. chosen d x * y ≡ cond (leb d x) y 0)
    (digit_cases (λ x. 1 * y ≡ cond (leb 0 x) y 0) (one-mul y) (one-mul y) x k)
    (digit_cases (λ x. x * y ≡ cond (leb 1 x) y 0) (zero-mul y) (one-mul y) x k)
    d h

-- three digits are the bits of the point that they make
point_bits : (x1 x2 x3 : ℕ) → x1 < 2 → x2 < 2 → x3 < 2
    → (bit (x1 + 2 * x2 + 4 * x3) 0 ≡ x1) × (bit (x1 + 2 * x2 + 4 * x3) 1 ≡ x2) × (bit (x1 + 2 * x2 + 4 * x3) 2 ≡ x3)
unfolding bit
point_bits x1 x2 x3 h1 h2 h3 = (omega arith, omega arith, omega arith)

-- the digits of a subset, times y: y where the subset lies in the point, else 0
subset_under : (u x1 x2 x3 y : ℕ) → x1 < 2 → x2 < 2 → x3 < 2
    → chosen (bit u 0) x1 * (chosen (bit u 1) x2 * (chosen (bit u 2) x3 * y)) ≡ cond (lies_in u (x1 + 2 * x2 + 4 * x3)) y 0
unfolding lies_in each
subset_under u x1 x2 x3 y h1 h2 h3 =
    let bits = point_bits x1 x2 x3 h1 h2 h3 in
    rw (
      chosen_under (bit u 2) x3 y (bit_digit u 2) h3,
      chosen_under (bit u 1) x2 (cond (leb (bit u 2) x3) y 0) (bit_digit u 1) h2,
      chosen_under (bit u 0) x1 (cond (leb (bit u 1) x2) (cond (leb (bit u 2) x3) y 0) 0) (bit_digit u 0) h1,
      bits.0,
      bits.1,
      bits.2,
    )
    (go (leb (bit u 0) x1) (leb (bit u 1) x2) (leb (bit u 2) x3))
  where
    go : (a b c : Bool) → cond a (cond b (cond c y 0) 0) 0 ≡ cond (a && b && c) y 0
    go true true c = refl
    go true false c = refl
    go false b c = refl

-- p times c and n times m - c, where p is n and b: b times c, modulo m
balanced : (m c s p n b : ℕ) → c ≤ m → p ≡ n + b → s * (c * p + (m - c) * n) % m ≡ b * (c * s) % m
balanced m c s p n b l e =
    let whole : c + (m - c) ≡ m = omega arith in
    let all : c * (n + b) + (m - c) * n ≡ c * b + n * m = rw (mul-add, add_right_comm, ← add-mul, whole, mul_comm m n, add_comm) in
    rw (e, all, mul-add, ← mul_assoc s n m, add-mul-mod_self_right, mul_comm s, mul_comm c b, mul_assoc)

-- a truth byte's coefficients times c s, over the subsets in the point x: its bit there times c s, modulo m
subsets_sum : (m c s byte x : ℕ) → c ≤ m → x < 8
    → within (λ u. scaled m (coefficient byte u) c * s) x % m ≡ bit byte x * (c * s) % m
unfolding scaled within Row
subsets_sum m c s byte x l h =
    rw (
      sum_same 8 _ (λ u. s * (c * up u + (m - c) * down u)) (λ u k. apart (lies_in u x) (coefficient byte u)),
      sum_factor 8 s (λ u. c * up u + (m - c) * down u),
      sum_add 8 (λ u. c * up u) (λ u. (m - c) * down u),
      sum_factor 8 c up,
      sum_factor 8 (m - c) down,
    )
    (balanced m c s (sum 8 up) (sum 8 down) (bit byte x) l (row_right byte x h))
  where
    up : ℕ → ℕ
    up u = cond (lies_in u x) (above (coefficient byte u)) 0

    down : ℕ → ℕ
    down u = cond (lies_in u x) (below (coefficient byte u)) 0

    apart : (t : Bool) (z : ℤ) → cond t ((above z * c + below z * (m - c)) * s) 0 ≡ s * (c * cond t (above z) 0 + (m - c) * cond t (below z) 0)
    apart true z = rw (mul_comm s, mul_comm c, mul_comm (m - c))
    apart false z = rw (mul-zero c, mul-zero (m - c), mul-zero s)

module _ (vs : List ℕ) (m : ℕ) (d : Digits vs) (false_first : get_or vs 0 0 ≡ 0) where
  -- a polynomial times a variable, where it is chosen
  value_chosen : (k v : ℕ) (p : Polynomial) → v < length vs → value vs (times_chosen k v p) ≡ chosen k (get_or vs v 0) * value vs p
  unfolding times_chosen value chosen
  value_chosen zero v p l = sym (one-mul (value vs p))
  value_chosen (suc k) v [] l = sym (mul-zero (get_or vs v 0))
  value_chosen (suc k) zero (t ∷ p) l = rw (false_first, zero-mul)
  value_chosen (suc k) (suc v) (t ∷ p) l =
      rw (set_value_with vs t.1 (suc v) d l, value_chosen (suc k) (suc v) p l, mul-add, ← mul_assoc t.0, mul_comm (t.0 * set_value vs t.1))

  module _ (x1 x2 x3 : ℕ) (h1 : x1 < length vs) (h2 : x2 < length vs) (h3 : x3 < length vs) where
    -- the point that the three variables are at
    abbrev point : ℕ
    point = get_or vs x1 0 + 2 * get_or vs x2 0 + 4 * get_or vs x3 0

    -- a term times the variables of a subset: its value where the subset lies in the point, else 0
    value_subset : (u : ℕ) (t : Term) → value vs (times_subset u x1 x2 x3 t) ≡ cond (lies_in u point) (t.0 * set_value vs t.1) 0
    unfolding times_subset value
    value_subset u t =
        rw (value_chosen (bit u 0) x1 _ h1, value_chosen (bit u 1) x2 _ h2, value_chosen (bit u 2) x3 (t ∷ []) h3, add-zero)
        (subset_under u _ _ _ (t.0 * set_value vs t.1) (digit_at vs d x1) (digit_at vs d x2) (digit_at vs d x3))

    -- and times a whole number, also where that is 0
    value_whole : (z : ℤ) (u : ℕ) (t : Term)
        → value vs (times_whole m z u x1 x2 x3 t) ≡ cond (lies_in u point) (scaled m z t.0 * set_value vs t.1) 0
    unfolding times_whole value scaled
    value_whole z u t = go (eqb (above z + below z) 0) refl
      where
        none : (b : Bool) (y : ℕ) → y ≡ 0 → 0 ≡ cond b y 0
        none true y e = sym e
        none false y e = refl

        go : (b : Bool) → eqb (above z + below z) 0 ≡ b
            → value vs (cond b [] (times_subset u x1 x2 x3 (scaled m z t.0, t.1))) ≡ cond (lies_in u point) (scaled m z t.0 * set_value vs t.1) 0
        go true e =
            let nought : above z + below z ≡ 0 = eqb-true (above z + below z) 0 e in
            let up : above z ≡ 0 = omega arith in
            let down : below z ≡ 0 = omega arith in
            none (lies_in u point) _ (rw (up, down, zero-mul, zero-mul, zero-mul))
        go false e = value_subset u (scaled m z t.0, t.1)

    -- a term times a lookup cell
    value_cell : (byte : ℕ) (t : Term) → t.0 ≤ m
        → value vs (times_record m (Cell byte x1 x2 x3) t) % m ≡ bit byte point * (t.0 * set_value vs t.1) % m
    unfolding times_record within
    value_cell byte t l =
        let low1 = digit_at vs d x1 in
        let low2 = digit_at vs d x2 in
        let low3 = digit_at vs d x3 in
        rw (
          weighed_value vs _,
          weighed_joined (set_value vs) 8 (λ u. times_whole m (coefficient byte u) u x1 x2 x3 t),
          sum_same 8 _ (λ u. cond (lies_in u point) (scaled m (coefficient byte u) t.0 * set_value vs t.1) 0)
              (λ u k. sym (weighed_value vs _) ∙ value_whole (coefficient byte u) u t),
        )
        (subsets_sum m t.0 (set_value vs t.1) byte point l (omega arith))

  -- a term times a record has the record's value times the term's, modulo m
  pub value_times_record : (r : Record) (t : Term) → EveryVariable (λ w. w < length vs) r → t.0 ≤ m
      → value vs (times_record m r t) % m ≡ record_value vs r * (t.0 * set_value vs t.1) % m
  unfolding times_record record_value value
  value_times_record (Gate x y) t h l =
      rw (
        value_times_literal vs m d false_first x (times_literal m y (t ∷ [])) h.0 (times_literal_capped m y (t ∷ []) (l, tt)),
        ← mul_mod_mod,
        value_times_literal vs m d false_first y (t ∷ []) h.1 (l, tt),
        mul_mod_mod,
        add-zero,
        mul_assoc,
      )
  value_times_record (Cell byte x1 x2 x3) t h l = value_cell x1 x2 x3 h.0 h.1 h.2 byte t l
