-- What is written, in its order, is the start polynomial.
use mathlib.Core.Path.{◌≡◌, refl, ap, sym, ◌∙◌}
use mathlib.Core.Bool.{true}
use mathlib.Core.List.{List, [], ◌∷◌, ◌++◌}
use mathlib.Core.Logic.{⊎_elim}
use Prim.Native.Nat.{ℕ, zero, suc, ◌+◌, ◌-◌, ◌*◌, ◌%◌, ◌^◌, ◌<◌, ◌≤◌}
use native.Mathlib.Nat.{add-zero, add_comm, add_assoc, mul-add, mul_assoc, le_refl, eq-or-lt_of_le, mod-lt, mod-mod, add-mod, pow-suc}
use native.Mathlib.Omega.{arith}
use lib.ListN.{get_or}
use lib.Pow.{pow_pos}
use Rattle.rules.specs.Each.{sum, joined}
use Rattle.rules.specs.Netlist.{counts_right, output, table_sound}
use Rattle.rules.specs.Product.{Kind, operand_width, addend_width, product_term, addend_term, specification}
use Rattle.rules.specs.Polynomial.{Polynomial, hit, coefficient_at, Below, Coefficients, keep, minus, times_literal}
use Rattle.rules.specs.Steps.{modulus, start_terms, start}
use Rattle.rules.specs.declared.counts.Counts.{Counts}
use Rattle.rules.proofs.Indices.{sum_same, sum_add}
use Rattle.rules.proofs.Terms.{hit_mod, weaken, coefficient_append, coefficient_joined}
use Rattle.rules.proofs.Sound.{right_counts}
use Rattle.rules.proofs.Places.{operands_within}
use Rattle.rules.proofs.Remainders.{sum_mod, sum_factor}
use Rattle.rules.proofs.Weighed.{hit_times, weighed_coefficient, weighed_minus}
use Rattle.rules.proofs.Gathered.{keep_below, keep_coefficients, keep_coefficient, unique, under_of, gather_same}
use Rattle.start.specs.Start.{single, down, output_terms, addend_terms, single_terms, weight, singles, pair_weight, pairs, rows, whole}
use Rattle.start.proofs.Sums.{sum_swap, sum_split, coefficient_down}
use Rattle.start.proofs.Outputs.{single_up, single_lt, singles_spread}

-- what holds of the rest, and goes from each index to the next, holds of all that is put in front
down_keeps : (P : ℕ → Polynomial → Type 0) (k : ℕ) (put : ℕ → Polynomial → Polynomial) (rest : Polynomial)
    → ((i : ℕ) (p : Polynomial) → i < k → P i p → P (suc i) (put i p)) → P 0 rest → P k (down k put rest)
unfolding down
down_keeps P zero put rest h r = r
down_keeps P (suc k) put rest h r =
    h k (down k put rest) (omega arith) (down_keeps P k put rest (λ i p l. h i p (omega arith)) r)

-- falling sets below b, coefficients from 1 to m - 1
abbrev Normal : ℕ → ℕ → Polynomial → Type 0
Normal m b p = Below b p × Coefficients m p

-- one term more in front
normal_keep : (m b c s : ℕ) (p : Polynomial) → c < m → s < b → Normal m s p → Normal m b (keep c s p)
normal_keep m b c s p h l n = (keep_below c s b p l n.0, keep_coefficients m c s p h n.1)

-- a higher bound
normal_up : (m b d : ℕ) (p : Polynomial) → b ≤ d → Normal m b p → Normal m d p
normal_up m b d p h n = (weaken b d p h n.0, n.1)

-- twice the set of a variable is that of the next
single_twice : (v : ℕ) → 0 < v → single v + single v ≡ single (suc v)
single_twice v h = rw (single_up v h, single_up (suc v) (omega arith), pow-suc) (omega arith)

-- the sets of one variable rise
single_le : (a b : ℕ) → a ≤ b → single a ≤ single b
single_le a b h = ⊎_elim (λ (e : a ≡ b). rw e (le_refl _)) (λ (l : a < b). omega (arith, single_lt a b l)) (eq-or-lt_of_le h)

-- all of it is normal where the weights are below m
module _ (kind : Kind) (m n : ℕ) (weights : List ℕ) (positive : 0 < m) where
  -- variables, the highest first
  normal_singles : (low count : ℕ) (rest : Polynomial) → ((v : ℕ) → v < low + 1 + count → get_or weights v 0 < m)
      → Normal m (single (low + 1)) rest → Normal m (single (low + 1 + count)) (singles weights low count rest)
  unfolding singles
  normal_singles low count rest h r =
      down_keeps (λ i. Normal m (single (low + 1 + i))) count _ rest
      (λ i p l. normal_keep m (single (low + 1 + suc i)) _ (single (low + 1 + i)) p (h _ (omega arith)) (single_lt _ _ (omega arith)))
      (rw add-zero r)

  -- the products of one b, which lie between it and the next
  normal_pairs : (j : ℕ) (rest : Polynomial) → Normal m (suc (single (n + 1 + j))) rest
      → Normal m (single (n + 1 + suc j)) (pairs kind m n j n rest)
  unfolding pairs pair_weight
  normal_pairs j rest r =
      let top = single (n + 1 + j) in
      let double : top + top ≡ single (n + 1 + suc j) = single_twice (n + 1 + j) (omega arith) ∙ ap single (omega arith) in
      let room : single (1 + n) ≤ top = single_le (1 + n) (n + 1 + j) (omega arith) in
      let put : ℕ → Polynomial → Polynomial = λ i. keep (pair_weight kind m n j i) (top + single (1 + i)) in
      normal_up m (top + single (1 + n)) (single (n + 1 + suc j)) (down n put rest) (omega arith)
      (down_keeps (λ i. Normal m (top + single (1 + i))) n put rest
      (λ i p l. normal_keep m (top + single (1 + suc i)) (pair_weight kind m n j i) (top + single (1 + i)) p (mod-lt _ positive) (omega (arith, single_lt (1 + i) (1 + suc i) (omega arith))))
      (normal_up m (suc top) (top + single (1 + 0)) rest (omega (arith, single_lt 0 1 (omega arith))) r))

  -- the products and b
  normal_rows : (rest : Polynomial) → ((v : ℕ) → v < n + 1 + n → get_or weights v 0 < m)
      → Normal m (single (n + 1)) rest → Normal m (single (n + 1 + n)) (rows kind m n weights n rest)
  unfolding rows
  normal_rows rest h r =
      down_keeps (λ j. Normal m (single (n + 1 + j))) n _ rest
      (λ j p l q. normal_pairs j _ (normal_keep m (suc (single (n + 1 + j))) _ (single (n + 1 + j)) p (h _ (omega arith)) (omega arith) q))
      (rw add-zero r)

  -- everything
  normal_whole : (gates : ℕ) → ((v : ℕ) → v < n + n + 1 + gates → get_or weights v 0 < m)
      → Normal m (single (n + n + 1 + gates)) (whole kind m n gates weights)
  unfolding whole single
  normal_whole gates h =
      let constant : Normal m (single (0 + 1)) (keep (get_or weights 0 0) 0 []) =
      normal_keep m (single (0 + 1)) _ 0 [] (h 0 (omega arith)) (omega arith) (tt, tt) in
      let first : Normal m (single (n + 1)) (singles weights 0 n (keep (get_or weights 0 0) 0 [])) =
      rw (add_comm n 1) (normal_singles 0 n _ (λ v l. h v (omega arith)) constant) in
      let second = normal_rows _ (λ v l. h v (omega arith)) first in
      normal_singles (n + n) gates _ h (rw (add_assoc n n 1, add_comm n 1, ← add_assoc n 1 n) second)

-- the coefficients of what is written
module _ (kind : Kind) (m n : ℕ) (weights : List ℕ) where
  -- of variables
  coefficient_singles : (low count : ℕ) (rest : Polynomial) (u : ℕ)
      → coefficient_at (singles weights low count rest) u
      ≡ sum count (λ k. hit u (single (low + 1 + k)) (get_or weights (low + 1 + k) 0)) + coefficient_at rest u
  unfolding singles
  coefficient_singles low count rest u = coefficient_down count _ _ rest u (λ i p. keep_coefficient _ _ p u)

  -- of the products and b
  coefficient_rows : (rest : Polynomial) (u : ℕ)
      → coefficient_at (rows kind m n weights n rest) u
      ≡ sum n (λ j. sum n (λ i. hit u (single (n + 1 + j) + single (1 + i)) (pair_weight kind m n j i)) + hit u (single (n + 1 + j)) (get_or weights (n + 1 + j) 0))
      + coefficient_at rest u
  unfolding rows pairs
  coefficient_rows rest u =
      coefficient_down n _ _ rest u
      (λ j p. coefficient_down n _ _ _ u (λ i q. keep_coefficient _ _ q u) ∙ rw (keep_coefficient _ _ p u) (omega arith))

  -- its coefficients: those of the variables and the constant, and those of the products
  coefficient_whole : (gates u : ℕ)
      → coefficient_at (whole kind m n gates weights) u
      ≡ sum (n + n + 1 + gates) (λ v. hit u (single v) (get_or weights v 0))
      + sum n (λ j. sum n (λ i. hit u (single (n + 1 + j) + single (1 + i)) (pair_weight kind m n j i)))
  unfolding whole coefficient_at sum single
  coefficient_whole gates u =
      let g : ℕ → ℕ = λ v. hit u (single v) (get_or weights v 0) in
      let later : n + n + 1 ≡ n + 1 + n = omega arith in
      let second : sum (n + n + 1) g ≡ sum (n + 1) g + sum n (λ j. g (n + 1 + j)) = ap (λ (k : ℕ). sum k g) later ∙ sum_split (n + 1) n g in
      let first : sum (n + 1) g ≡ sum 1 g + sum n (λ i. g (0 + 1 + i)) = ap (λ (k : ℕ). sum k g) (add_comm n 1) ∙ sum_split 1 n g in
      omega (
        arith,
        sum_split (n + n + 1) gates g,
        second,
        first,
        coefficient_singles (n + n) gates (rows kind m n weights n (singles weights 0 n (keep (get_or weights 0 0) 0 []))) u,
        coefficient_rows (singles weights 0 n (keep (get_or weights 0 0) 0 [])) u,
        sum_add n (λ j. sum n (λ i. hit u (single (n + 1 + j) + single (1 + i)) (pair_weight kind m n j i))) (λ j. g (n + 1 + j)),
        coefficient_singles 0 n (keep (get_or weights 0 0) 0 []) u,
        keep_coefficient (get_or weights 0 0) 0 [] u,
      )

-- the coefficient of minus a list
coefficient_minus : (m : ℕ) (p : Polynomial) (u : ℕ) → coefficient_at (minus m p) u ≡ (m - 1) * coefficient_at p u
coefficient_minus m p u =
    rw (weighed_coefficient u (minus m p), weighed_coefficient u p) (weighed_minus (λ s. hit u s 1) m p)

-- the coefficients of the products, reduced or not
products : (kind : Kind) (m n u : ℕ)
    → sum n (λ j. sum n (λ i. hit u (single (n + 1 + j) + single (1 + i)) (pair_weight kind m n j i))) % m
    ≡ ((m - 1) * coefficient_at (joined n (λ i. joined n (λ j. product_term kind m n i j ∷ []))) u) % m
unfolding pair_weight coefficient_at product_term
products kind m n u =
    let reduced : ℕ → ℕ → ℕ = λ j i. hit u (single (n + 1 + j) + single (1 + i)) (pair_weight kind m n j i) in
    let full : ℕ → ℕ → ℕ = λ j i. coefficient_at (product_term kind m n i j ∷ []) u in
    let inner : (j : ℕ) → sum n (reduced j) % m ≡ ((m - 1) * sum n (full j)) % m =
    λ j. sum_mod m n (reduced j) (λ i. (m - 1) * full j i) (λ i l. ap (λ (x : ℕ). x % m) (one i j) ∙ mod-mod _ m)
    ∙ ap (λ (x : ℕ). x % m) (sum_factor n (m - 1) (full j)) in
    sum_mod m n (λ j. sum n (reduced j)) (λ j. (m - 1) * sum n (full j)) (λ j l. inner j)
    ∙ ap (λ (x : ℕ). x % m)
    (sum_factor n (m - 1) (λ j. sum n (full j))
    ∙ ap (λ (x : ℕ). (m - 1) * x)
    (sym (sum_swap n n (λ i j. full j i))
    ∙ sum_same n _ _ (λ i l. sym (coefficient_joined n (λ j. product_term kind m n i j ∷ []) u))
    ∙ sym (coefficient_joined n (λ i. joined n (λ j. product_term kind m n i j ∷ [])) u)))
  where
    one : (i j : ℕ) → hit u (single (n + 1 + j) + single (1 + i)) (((m - 1) * (product_term kind m n i j).0) % m)
        ≡ ((m - 1) * coefficient_at (product_term kind m n i j ∷ []) u) % m
    one i j =
        rw (
          single_up (n + 1 + j) (omega arith),
          single_up (1 + i) (omega arith),
          add_comm (2 ^ (n + 1 + j)),
          hit_mod,
          add-zero,
          hit_times u (2 ^ (1 + i) + 2 ^ (n + 1 + j)) ((m - 1) * (product_term kind m n i j).0),
          hit_times u (2 ^ (1 + i) + 2 ^ (n + 1 + j)) (product_term kind m n i j).0,
          mul_assoc,
        )

-- with the weights of the outputs less c, its coefficients are those of the terms that are to be gathered
module _ (kind : Kind) (c : Counts) (table weights : List ℕ) (right : counts_right c ≡ true) (sound : table_sound c table ≡ true)
    (same : modulus kind c ≡ 2 ^ c.o) (w : (v : ℕ) → v ≤ c.m → get_or weights v 0 ≡ weight kind c table v) where
  -- n, and the variables above b
  abbrev n : ℕ
  n = operand_width kind c

  abbrev above : ℕ
  above = c.m - (n + n)

  -- the bound of the variables
  bound : n + n + 1 + above ≡ c.m + 1
  bound = omega (arith, operands_within kind c, (right_counts c right).variables)

  -- the coefficients of the variables and of the constant
  variables : (u : ℕ)
      → sum (n + n + 1 + above) (λ v. hit u (single v) (get_or weights v 0)) % modulus kind c ≡ coefficient_at (single_terms kind c table) u % modulus kind c
  unfolding weight
  variables u =
      let m = modulus kind c in
      let singly = single_terms kind c table in
      let each_weight : (v : ℕ) → v < c.m + 1 → hit u (single v) (get_or weights v 0) ≡ hit u (single v) (coefficient_at singly (single v)) % m =
      λ v l. rw (w v (omega arith), same, hit_mod) in
      rw bound
      (sum_mod m (c.m + 1) (λ v. hit u (single v) (get_or weights v 0)) (λ v. hit u (single v) (coefficient_at singly (single v)))
      (λ v l. ap (λ (x : ℕ). x % m) (each_weight v l) ∙ mod-mod (hit u (single v) (coefficient_at singly (single v))) m)
      ∙ ap (λ (x : ℕ). x % m) (sym (singles_spread kind c table u right sound)))

  -- those of the terms that are to be gathered: of the outputs, and minus those of the products and of c
  coefficient_start : (u : ℕ)
      → coefficient_at (start_terms kind c table) u
      ≡ coefficient_at (single_terms kind c table) u
      + (modulus kind c - 1) * coefficient_at (joined n (λ i. joined n (λ j. product_term kind (modulus kind c) n i j ∷ []))) u
  unfolding start_terms specification single_terms output_terms addend_terms
  coefficient_start u =
      let m = modulus kind c in
      let products = joined n (λ i. joined n (λ j. product_term kind m n i j ∷ [])) in
      let addends = joined (addend_width kind n) (λ k. addend_term n k ∷ []) in
      let outputs = joined c.o (λ i. times_literal m (output table i) ((2 ^ i, 0) ∷ [])) in
      rw (
        ← same,
        coefficient_append outputs (minus m (products ++ addends)) u,
        coefficient_append outputs (minus m addends) u,
        coefficient_minus m (products ++ addends) u,
        coefficient_minus m addends u,
        coefficient_append products addends u,
        mul-add,
      )
      (omega arith)

  same_coefficients : (u : ℕ) → coefficient_at (whole kind (modulus kind c) n above weights) u % modulus kind c ≡ coefficient_at (start_terms kind c table) u % modulus kind c
  same_coefficients u =
      let m = modulus kind c in
      rw (coefficient_whole kind m n weights above u, coefficient_start u)
      (add-mod _ _ m ∙ rw (variables u, products kind m n u) (sym (add-mod _ _ m)))

  -- what is written is the start polynomial
  pub start_whole : whole kind (modulus kind c) n above weights ≡ start kind c table
  unfolding start weight
  start_whole =
      let m = modulus kind c in
      let top = single (n + n + 1 + above) in
      let all = whole kind m n above weights in
      let positive : 0 < m = rw same (pow_pos c.o) in
      let below : (v : ℕ) → v < n + n + 1 + above → get_or weights v 0 < m =
      λ v l. rw (w v (omega (arith, bound)), same) (mod-lt _ (pow_pos c.o)) in
      let normal : Normal m top all = normal_whole kind m n weights positive above below in
      unique m top all all positive normal.0 normal.1 (under_of top top all (omega arith) normal.0) (λ u. refl)
      ∙ gather_same m all (start_terms kind c table) positive same_coefficients
