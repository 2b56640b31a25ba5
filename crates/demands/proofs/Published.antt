-- The published specifications, gathered modulo 2^l, are the start polynomial.
use mathlib.Core.Path.{◌≡◌, refl, ap, sym, ◌∙◌}
use mathlib.Core.Bool.{Bool, true, false}
use mathlib.Core.List.{List, [], ◌∷◌, ◌++◌, append-nil}
use Prim.Native.Nat.{ℕ, zero, suc, ◌+◌, ◌-◌, ◌*◌, ◌%◌, ◌^◌, ◌<◌, ◌≤◌}
use native.Mathlib.Nat.{add_comm, add-zero, add-mul, mul-add, mul_assoc, mul-zero, zero-add, add-mod-mod, mul-mod_right, one-le-pow, two-pow-succ}
use native.Mathlib.Omega.{arith}
use lib.Pow.{pow-add}
use Rattle.rules.specs.Each.{sum, joined}
use Rattle.rules.specs.Netlist.{variable, inverted, output}
use Rattle.rules.specs.Product.{Kind, plain, signed, truncated, multiply_add, multiply_add_signed, complement, operand_width, addend_width, outputs_of}
use Rattle.rules.specs.Polynomial.{Polynomial, hit, minus, with_variable, times_variable, times_literal}
use Rattle.rules.specs.Steps.{modulus, start_terms, start}
use Rattle.rules.proofs.Indices.{sum_same}
use Rattle.rules.proofs.Gathered.{gather_same}
use Rattle.rules.proofs.Places.{fits}
use Rattle.rules.proofs.Remainders.{same_add, same_mul, opposite, same_cancel, sum_mod, sum_factor}
use Rattle.rules.proofs.Weighed.{weighed, weighed_coefficient, weighed_append, weighed_joined, weighed_one, weighed_minus}
use Rattle.demands.specs.Polynomials.{times, plain_operand, signed_operand, plain_outputs, published_outputs, operand_product, published_product, published_specification, Published}
use Rattle.demands.proofs.Times.{weighed_times}
use Rattle.demands.proofs.Operands.{operand_sum, product_sum, addend_sum, specified_sum, modulus_positive, plain_sum, weighed_plain_operand, weighed_signed_operand, weighed_start}

-- the product of two operands weighed
weighed_operands : (two : Bool) (m n : ℕ) (weight : ℕ → ℕ) (operand : ℕ → Polynomial)
    → ((v : ℕ) (weight : ℕ → ℕ) → weighed weight (operand v) ≡ operand_sum two m n (λ i. weight (2 ^ (v + i))))
    → weighed weight (times (operand 1) (operand (n + 1))) ≡ product_sum two m n weight
unfolding product_sum
weighed_operands two m n weight operand law =
    rw (weighed_times weight (operand 1) (operand (n + 1)), law 1) (simp (law (n + 1)))

-- a literal times half of m has only multiples of that half
half_turned : (m half : ℕ) (weight : ℕ → ℕ) (v k : ℕ) → half + half ≡ m
    → (y : ℕ) × (weighed weight (times_variable m v k (half, 0)) ≡ half * y)
unfolding weighed times_variable
half_turned m half weight zero zero e = (0, sym (mul-zero half))
half_turned m half weight zero (suc k) e = (weight 0, add-zero _)
half_turned m half weight (suc v) zero e = (_, add-zero _)
half_turned m half weight (suc v) (suc k) e =
    let less : m - half ≡ half = omega arith in
    (weight 0 + weight (with_variable 0 (suc v)), rw (less, add-zero) (sym (mul-add half _ _)))

-- so the top output may be taken with either sign
top_output : (m l x : ℕ) (weight : ℕ → ℕ) → 0 < m → 2 ^ l + 2 ^ l ≡ m
    → weighed weight (minus m (times_literal m x ((2 ^ l, 0) ∷ []))) % m ≡ weighed weight (times_literal m x ((2 ^ l, 0) ∷ [])) % m
unfolding times_literal
top_output m l x weight positive e =
    let t = half_turned m (2 ^ l) weight (variable x) (inverted x) e in
    rw (append-nil (times_variable m (variable x) (inverted x) (2 ^ l, 0)), weighed_minus weight m (times_variable m (variable x) (inverted x) (2 ^ l, 0)), t.1)
    (same_cancel m positive ((m - 1) * (2 ^ l * t.0)) (2 ^ l * t.0) (2 ^ l * t.0)
    (opposite m positive (2 ^ l * t.0) ∙ sym (rw (← add-mul (2 ^ l) (2 ^ l) t.0, e) (mul-mod_right m t.0))))

-- a sum whose later numbers are 0 modulo m
sum_cut : (m k d : ℕ) (f : ℕ → ℕ) → ((j : ℕ) → k ≤ j → f j % m ≡ 0) → sum k f % m ≡ sum (d + k) f % m
unfolding sum
sum_cut m k zero f h = rw (zero-add k)
sum_cut m k (suc d) f h =
    let e : suc d + k ≡ suc (d + k) = omega arith in
    rw (e, ← add-mod-mod (sum (d + k) f) (f (d + k)) m, h (d + k) (omega arith), add-zero) (sum_cut m k d f h)

-- a multiple of 2^i and 2^j is 0 modulo 2^n where i + j is n or more
power_out : (n i j x : ℕ) → n ≤ i + j → (2 ^ i * (2 ^ j * x)) % 2 ^ n ≡ 0
power_out n i j x h =
    let e : i + j ≡ n + (i + j - n) = omega arith in
    rw (← mul_assoc, ← pow-add 2 i j, e, pow-add, mul_assoc, mul-mod_right)

-- a term with the coefficient 2^(i+j) weighed
power_one : (weight : ℕ → ℕ) (i j s : ℕ) → weighed weight ((2 ^ (i + j), s) ∷ []) ≡ 2 ^ i * (2 ^ j * weight s)
power_one weight i j s = rw (weighed_one weight (2 ^ (i + j)) s, pow-add 2 i j, mul_assoc)

-- the truncated product weighed: what is left out is 0 modulo 2^n
weighed_truncated : (n : ℕ) (weight : ℕ → ℕ)
    → weighed weight (joined n (λ i. joined (n - i) (λ j. (2 ^ (i + j), 2 ^ (1 + i) + 2 ^ (n + 1 + j)) ∷ []))) % 2 ^ n
    ≡ product_sum false (2 ^ n) n weight % 2 ^ n
unfolding product_sum
weighed_truncated n weight =
    rw (weighed_joined weight n _, plain_sum (2 ^ n) n _) (sum_mod (2 ^ n) n _ _ row)
  where
    row : (i : ℕ) → i < n → weighed weight (joined (n - i) (λ j. (2 ^ (i + j), 2 ^ (1 + i) + 2 ^ (n + 1 + j)) ∷ [])) % 2 ^ n
        ≡ (2 ^ i * operand_sum false (2 ^ n) n (λ j. weight (2 ^ (1 + i) + 2 ^ (n + 1 + j)))) % 2 ^ n
    row i l =
        let whole : i + (n - i) ≡ n = omega arith in
        rw (
          weighed_joined weight (n - i) _,
          plain_sum (2 ^ n) n _,
          ← sum_factor n (2 ^ i),
          sum_same (n - i) _ _ (λ j k. power_one weight i j (2 ^ (1 + i) + 2 ^ (n + 1 + j))),
        )
        (rw whole at (sum_cut (2 ^ n) (n - i) i _ (λ j k. power_out n i j (weight (2 ^ (1 + i) + 2 ^ (n + 1 + j))) (omega arith))))

-- the outputs in two's complement weigh as the plain outputs
signed_outputs : (m l : ℕ) (table : List ℕ) (weight : ℕ → ℕ) → 0 < m → 2 ^ l + 2 ^ l ≡ m
    → weighed weight (minus m (times_literal m (output table l) ((2 ^ l, 0) ∷ [])) ++ plain_outputs m table l) % m
    ≡ weighed weight (plain_outputs m table (suc l)) % m
unfolding plain_outputs joined
signed_outputs m l table weight positive e =
    rw (
      weighed_append weight (minus m (times_literal m (output table l) ((2 ^ l, 0) ∷ []))) (plain_outputs m table l),
      weighed_append weight (plain_outputs m table l) (times_literal m (output table l) ((2 ^ l, 0) ∷ [])),
      add_comm (weighed weight (plain_outputs m table l)),
    )
    (same_add m _ _ _ _ (top_output m l (output table l) weight positive e) refl)

-- the published outputs weigh as the plain ones
weighed_outputs : (two : Bool) (m l : ℕ) (table : List ℕ) (weight : ℕ → ℕ) → 0 < l → m ≡ 2 ^ l
    → weighed weight (published_outputs two m table l) % m ≡ weighed weight (plain_outputs m table l) % m
unfolding published_outputs
weighed_outputs false m l table weight h e = refl
weighed_outputs true m l table weight h e =
    let next : suc (l - 1) ≡ l = omega arith in
    let halves : 2 ^ (l - 1) + 2 ^ (l - 1) ≡ m = sym (two-pow-succ (l - 1)) ∙ rw next (sym e) in
    signed_outputs m (l - 1) table weight (rw e (one-le-pow l 2 (omega arith))) halves
    ∙ ap (λ (x : ℕ). weighed weight (plain_outputs m table x) % m) next

-- the product of plain operands, and of operands in two's complement
two_operands : (two : Bool) (m n : ℕ) (weight : ℕ → ℕ) → 0 < n → weighed weight (operand_product two m n) % m ≡ product_sum two m n weight % m
unfolding operand_product
two_operands false m n weight h =
    ap (λ (x : ℕ). x % m)
    (weighed_operands false m n weight (plain_operand n)
    (λ v w. weighed_plain_operand w n v ∙ sym (plain_sum m n (λ i. w (2 ^ (v + i))))))
two_operands true m zero weight h = absurd (omega arith)
two_operands true m (suc k) weight h =
    ap (λ (x : ℕ). x % m)
    (weighed_operands true m (suc k) weight (signed_operand m (suc k)) (λ v w. weighed_signed_operand w m k v))

-- the published product weighs the product of the operands' bits
weighed_published : (kind : Kind) (m n : ℕ) (weight : ℕ → ℕ) → 0 < n → m ≡ 2 ^ outputs_of kind n
    → weighed weight (published_product kind m n) % m ≡ product_sum (complement kind) m n weight % m
unfolding published_product complement outputs_of
weighed_published plain m n weight h e = two_operands false m n weight h
weighed_published signed m n weight h e = two_operands true m n weight h
weighed_published truncated m n weight h e = rw e (weighed_truncated n weight)
weighed_published multiply_add m n weight h e = two_operands false m n weight h
weighed_published multiply_add_signed m n weight h e = two_operands true m n weight h

-- operands with bits have outputs
outputs_some : (kind : Kind) (n : ℕ) → 0 < n → 0 < outputs_of kind n
unfolding outputs_of
outputs_some plain n h = omega arith
outputs_some signed n h = omega arith
outputs_some truncated n h = h
outputs_some multiply_add n h = omega arith
outputs_some multiply_add_signed n h = omega arith

-- a published specification weighed: the outputs less the product of the operands' bits and the sum of c's
specified : (kind : Kind) (n : ℕ) (table : List ℕ) (m : ℕ) (weight : ℕ → ℕ) → 0 < n → m ≡ 2 ^ outputs_of kind n
    → weighed weight (published_specification kind m n table) % m
    ≡ (weighed weight (plain_outputs m table (outputs_of kind n)) + (m - 1) * (product_sum (complement kind) m n weight + addend_sum kind n weight)) % m
unfolding published_specification addend_sum
specified kind n table m weight h e =
    let k = addend_width kind n in
    rw (
      weighed_append weight (published_outputs (complement kind) m table (outputs_of kind n)) _,
      weighed_minus weight m (published_product kind m n ++ plain_operand k (2 * n + 1)),
      weighed_append weight (published_product kind m n) (plain_operand k (2 * n + 1)),
      weighed_plain_operand weight k (2 * n + 1),
    )
    (same_add m _ _ _ _
    (weighed_outputs (complement kind) m (outputs_of kind n) table weight (outputs_some kind n h) e)
    (same_mul m _ _ _ _ refl (same_add m _ _ _ _ (weighed_published kind m n weight h e) refl)))

-- the published specifications are the start polynomial
pub published : Published
unfolding modulus start
published kind c table right same =
    gather_same m (published_specification kind m n table) (start_terms kind c table) (modulus_positive kind c)
    (λ u. rw (weighed_coefficient u (published_specification kind m n table), weighed_coefficient u (start_terms kind c table)) (weighs (λ s. hit u s 1)))
  where
    m : ℕ
    m = modulus kind c

    n : ℕ
    n = operand_width kind c

    weighs : (weight : ℕ → ℕ) → weighed weight (published_specification kind m n table) % m ≡ weighed weight (start_terms kind c table) % m
    weighs weight =
        specified kind n table m weight (fits kind c right same).some refl
        ∙ ap (λ (l : ℕ). (weighed weight (plain_outputs m table l) + (m - 1) * specified_sum kind c weight) % m) (sym (fits kind c right same).outputs)
        ∙ sym (weighed_start kind c table weight)
