-- The weights that the loops over the outputs and over c add up, and the coefficient of a product.
use mathlib.Core.Path.{◌≡◌, refl, ap, sym, ◌∙◌}
use mathlib.Core.Bool.{Bool, true, false}
use mathlib.Core.List.{List, [], ◌∷◌, ◌++◌, append_assoc, append-nil}
use Prim.Native.Nat.{ℕ, ◌+◌, ◌-◌, ◌*◌, ◌%◌, ◌^◌, ◌<◌, ◌≤◌}
use native.Mathlib.Nat.{le_of_lt, add-zero, mod-add-mod, mod_self}
use native.Mathlib.Numerals.{add-one}
use native.Mathlib.Omega.{arith}
use lib.Dec.{eqb}
use lib.ListN.{length, get_or, set, length-set}
use lib.Pow.{pow-lt}
use lib.Seq.{get_or-set_same, get_or-set_other}
use borrow.Author.Tests.{eqb-true, eqb-false}
use Rattle.rules.specs.Each.{joined}
use Rattle.rules.specs.Netlist.{output}
use Rattle.rules.specs.Polynomial.{Polynomial, hit, coefficient_at, minus, times_literal}
use Rattle.rules.specs.Product.{addend_term}
use Rattle.rules.proofs.Remainders.{same_add, opposite, same_cancel}
use Rattle.rules.proofs.Terms.{hit_same, hit_other, hit_mod, coefficient_append}
use Rattle.words.proofs.Numbers.{one_shifted}
use Rattle.start.specs.Start.{single, output_terms, addend_terms, Weighed}
use Rattle.start.specs.Weighing.{Weighs}
use Rattle.start.specs.declared.weights.Weights.{Weights}
use Rattle.start.proofs.Outputs.{single_up, single_other}

-- c more at the weight of v: one more term of v alone
pub weighed_more : (m : ℕ) (p : Polynomial) (weights : List ℕ) (v c r : ℕ) → v < length weights → r ≡ (get_or weights v 0 + c) % m
    → Weighed m p weights → Weighed m (p ++ ((c, single v) ∷ [])) (set weights v r)
unfolding coefficient_at
weighed_more m p weights v c r h e k =
    record { weighs = λ u l. rw (coefficient_append p ((c, single v) ∷ []) (single u), add-zero) (go u l (eqb u v) refl) }
  where
    go : (u : ℕ) → u < length (set weights v r) → (t : Bool) → eqb u v ≡ t
        → get_or (set weights v r) u 0 ≡ (coefficient_at p (single u) + hit (single u) (single v) c) % m
    go u l true q =
        let z : u ≡ v = eqb-true u v q in
        rw (z, get_or-set_same weights v r 0 h, hit_same (single v) (single v) c refl, e, k.weighs v h, mod-add-mod)
    go u l false q =
        let z : u ≡ v → ⊥ = eqb-false u v q in
        rw (get_or-set_other weights v u r 0 z, hit_other (single v) (single u) c (single_other u v z), add-zero)
        (k.weighs u (rw length-set at l))

-- a coefficient that is the same modulo 2^l weighs the same
pub weighs_again : {a b : Weights} (c d s : ℕ) → c % 2 ^ a.l ≡ d % 2 ^ a.l → Weighs ((c, s) ∷ []) a b → Weighs ((d, s) ∷ []) a b
unfolding coefficient_at
weighs_again {a} {b} c d s e w =
    record { outputs = w.outputs; weighs = λ p q. record { weighs = λ v l. (w.weighs p q).weighs v l ∙ go p (single v) } }
  where
    m : ℕ
    m = 2 ^ a.l

    go : (p : Polynomial) (u : ℕ) → coefficient_at (p ++ ((c, s) ∷ [])) u % m ≡ coefficient_at (p ++ ((d, s) ∷ [])) u % m
    go p u =
        rw (coefficient_append p ((c, s) ∷ []) u, coefficient_append p ((d, s) ∷ []) u, add-zero, add-zero)
        (same_add m (coefficient_at p u) (coefficient_at p u) (hit u s c) (hit u s d) refl (sym (hit_mod s u m c) ∙ ap (hit u s) e ∙ hit_mod s u m d))

-- nothing is added
pub weighs_none : (a : Weights) → Weighs [] a a
weighs_none a = record { outputs = refl; weighs = λ p w. rw append-nil w }

-- terms added, then others
pub weighs_then : {first : Polynomial} (second : ℕ → Polynomial) {a b c : Weights} → Weighs first a b → Weighs (second b.l) b c → Weighs (first ++ second a.l) a c
weighs_then {first} second {a} e f = record {
  outputs = f.outputs ∙ e.outputs;
  weighs = λ p w. rw (← append_assoc p first (second a.l)) (rw e.outputs at (f.weighs (p ++ first) (rw e.outputs (e.weighs p w))));
}

-- the terms of one more output
pub outputs_more : (m k : ℕ) (table : List ℕ) → output_terms m table (k + 1) ≡ output_terms m table k ++ times_literal m (get_or table k 0) ((2 ^ k, 0) ∷ [])
unfolding output_terms joined output
outputs_more m k table = rw (add-one k)

-- the code's `1 << e` is below 2^l
pub shifted_le : (e l : ℕ) → e < l → l ≤ 64 → 1 * 2 ^ e % 2 ^ 64 ≤ 2 ^ l
shifted_le e l h b = rw (one_shifted e (omega arith)) (le_of_lt (pow-lt h))

-- one more bit of c
addends_more : (n k : ℕ) → addend_terms n (k + 1) ≡ addend_terms n k ++ (2 ^ k, 2 ^ (2 * n + 1 + k)) ∷ []
unfolding addend_terms addend_term joined
addends_more n k = rw (add-one k)

-- minus lists one behind the other
minus_append : (m : ℕ) (p q : Polynomial) → minus m (p ++ q) ≡ minus m p ++ minus m q
unfolding minus
minus_append m [] q = refl
minus_append m (t ∷ p) q = ap (λ (list : Polynomial). ((m - 1) * t.0, t.1) ∷ list) (minus_append m p q)

-- m - 1 times a number is, modulo m, m less it
pub less_one : (m c : ℕ) → 0 < m → c ≤ m → (m - c) % m ≡ ((m - 1) * c) % m
less_one m c positive h =
    let whole : m - c + c ≡ m = omega arith in
    same_cancel m positive (m - c) ((m - 1) * c) c (rw (whole, mod_self) (sym (opposite m positive c)))

-- minus one more bit of c
pub minus_more : (m n k : ℕ) → minus m (addend_terms n (k + 1)) ≡ minus m (addend_terms n k) ++ ((m - 1) * 2 ^ k, single (2 * n + 1 + k)) ∷ []
unfolding minus
minus_more m n k =
    rw (addends_more n k, minus_append m (addend_terms n k) ((2 ^ k, 2 ^ (2 * n + 1 + k)) ∷ []), ← single_up (2 * n + 1 + k) (omega arith))
