-- The value of a set of variables and of a polynomial: under sums, gathering and literals.
use mathlib.Core.Path.{◌≡◌, refl, ap, sym, ◌∙◌}
use mathlib.Core.List.{List, [], ◌∷◌, ◌++◌}
use Prim.Native.Nat.{ℕ, zero, suc, ◌+◌, ◌-◌, ◌*◌, ◌/◌, ◌%◌, ◌^◌, ◌<◌, ◌≤◌}
use native.Mathlib.Nat.{add-zero, zero-add, add-mul, mul-add, mul_assoc, mul_comm, mul_left_comm, mul_right_comm, mul-one, one-mul, mul-zero, zero-mul, mod-add-mod, add-mod-mod, mul-mod_right, zero-mod, pow-succ'}
use native.Mathlib.Omega.{arith}
use lib.ListN.{length, get_or}
use Rattle.rules.specs.Netlist.{variable, inverted}
use Rattle.rules.specs.Values.{bit, turned, literal_value}
use Rattle.rules.specs.Polynomial.{Term, Polynomial, Coefficients, gather, with_variable, times_variable, times_literal}
use Rattle.rules.proofs.All.{All, all_at}
use Rattle.rules.proofs.AllSets.{all_literal}
use Rattle.rules.proofs.Bits.{digit_cases, bit_first, bit_next, bit_none, bit_out, bit_other, with_cases}
use Rattle.rules.proofs.Weighed.{weighed, weighed_append, weighed_gather}
use Rattle.demands.specs.Polynomials.{chosen, set_value, value}

-- every entry is 0 or 1
abbrev pub Digits : List ℕ → Type 0
Digits = All (λ (x : ℕ). x < 2)

-- an entry of digits is a digit
pub digit_at : (vs : List ℕ) → Digits vs → (v : ℕ) → get_or vs v 0 < 2
digit_at vs d v = all_at (λ (x : ℕ). x < 2) vs 0 (omega arith) d v

-- the empty set has the value 1
pub set_value_none : (vs : List ℕ) → set_value vs 0 ≡ 1
unfolding set_value chosen
set_value_none [] = refl
set_value_none (x ∷ vs) = rw (set_value_none vs)

-- a set with a variable put in that is not there
set_value_put : (vs : List ℕ) (s v : ℕ) → bit s v ≡ 0 → v < length vs → set_value vs (s + 2 ^ v) ≡ get_or vs v 0 * set_value vs s
unfolding set_value chosen
set_value_put [] s v e l = absurd (omega arith)
set_value_put (x ∷ vs) s zero e l =
    let low : s % 2 ≡ 0 = sym (bit_first s) ∙ e in
    let odd : (s + 1) % 2 ≡ 1 = omega arith in
    let half : (s + 1) / 2 ≡ s / 2 = omega arith in
    rw (odd, half, low, one-mul)
set_value_put (x ∷ vs) s (suc v) e l =
    let power : 2 ^ suc v ≡ 2 * 2 ^ v = pow-succ' 2 v in
    let low : (s + 2 ^ suc v) % 2 ≡ s % 2 = omega arith in
    let half : (s + 2 ^ suc v) / 2 ≡ s / 2 + 2 ^ v = omega arith in
    rw (low, half, set_value_put vs (s / 2) v (sym (bit_next s v) ∙ e) (omega arith), mul_left_comm)

-- a set with a variable of it taken out
pub set_value_out : (vs : List ℕ) (s v : ℕ) → bit s v ≡ 1 → v < length vs → set_value vs s ≡ get_or vs v 0 * set_value vs (s - 2 ^ v)
set_value_out vs s v e l =
    let whole : s - 2 ^ v + 2 ^ v ≡ s = omega (arith, (bit_out s v e).0) in
    ap (set_value vs) (sym whole) ∙ set_value_put vs (s - 2 ^ v) v (bit_out s v e).1 l

-- a variable alone has its own value
pub set_value_one : (vs : List ℕ) (v : ℕ) → v < length vs → set_value vs (2 ^ v) ≡ get_or vs v 0
set_value_one vs v l = rw (zero-add, set_value_none vs, mul-one) at (set_value_put vs 0 v (bit_none v) l)

-- two variables have the product of their values
pub set_value_two : (vs : List ℕ) (u v : ℕ) → (u ≡ v → ⊥) → u < length vs → v < length vs → set_value vs (2 ^ u + 2 ^ v) ≡ get_or vs u 0 * get_or vs v 0
set_value_two vs u v n k l = rw (set_value_put vs (2 ^ u) v (bit_other u v n) l, set_value_one vs u k, mul_comm)

-- a digit is its own square
digit_square : (x : ℕ) → x < 2 → x * x ≡ x
digit_square = digit_cases (λ x. x * x ≡ x) refl refl

-- a set with a variable in it has its value times the variable's: x·x is x
pub set_value_with : (vs : List ℕ) (s v : ℕ) → Digits vs → v < length vs → set_value vs (with_variable s v) ≡ set_value vs s * get_or vs v 0
set_value_with vs s v d l =
    with_cases (λ t. set_value vs t ≡ set_value vs s * get_or vs v 0) s v
    (λ e. rw (set_value_out vs s v e l, mul_right_comm, digit_square (get_or vs v 0) (digit_at vs d v)))
    (λ e. rw (set_value_put vs s v e l, mul_comm))

-- the value weighs a set by its value
pub weighed_value : (vs : List ℕ) (p : Polynomial) → value vs p ≡ weighed (set_value vs) p
unfolding weighed value
weighed_value vs [] = refl
weighed_value vs (t ∷ p) = rw (weighed_value vs p)

-- the value of two polynomials, one behind the other
pub value_append : (vs : List ℕ) (p q : Polynomial) → value vs (p ++ q) ≡ value vs p + value vs q
value_append vs p q = rw (weighed_value vs (p ++ q), weighed_value vs p, weighed_value vs q) (weighed_append (set_value vs) p q)

-- gathering keeps the value modulo m
pub value_gather : (vs : List ℕ) (m : ℕ) (p : Polynomial) → value vs (gather m p) % m ≡ value vs p % m
value_gather vs m p = rw (weighed_value vs (gather m p), weighed_value vs p) (weighed_gather (set_value vs) m p)

-- every coefficient is at most m
abbrev pub Capped : ℕ → Polynomial → Type 0
Capped m = All (λ (t : Term). t.0 ≤ m)

-- coefficients below m are at most m
pub capped : (m : ℕ) (p : Polynomial) → Coefficients m p → Capped m p
capped m [] k = tt
capped m (t ∷ p) k = (omega (arith, k.1), capped m p k.2)

-- a polynomial times a literal: coefficients stay at most m
pub times_literal_capped : (m x : ℕ) (p : Polynomial) → Capped m p → Capped m (times_literal m x p)
times_literal_capped m x p h = all_literal (λ (t : Term). t.0 ≤ m) m x p (λ l t k. (k, omega arith)) h

-- c s plus m - c times s x is c s times 1 - x, modulo m
one_less : (m c s x : ℕ) → x < 2 → c ≤ m → (c * s + ((m - c) * (s * x) + 0)) % m ≡ (1 - x) * (c * s) % m
one_less m c s x h l =
    let whole : c + (m - c) ≡ m = omega arith in
    digit_cases (λ x. (c * s + ((m - c) * (s * x) + 0)) % m ≡ (1 - x) * (c * s) % m)
    (rw (mul-zero, mul-zero, add-zero, one-mul))
    (rw (mul-one, add-zero, ← add-mul, whole, zero-mul, mul-mod_right, zero-mod))
    x h

module _ (vs : List ℕ) (m : ℕ) (d : Digits vs) (false_first : get_or vs 0 0 ≡ 0) where
  -- a term times a variable or its inverse has the product of their values, modulo m
  value_times_variable : (v n : ℕ) (t : Term) → v < length vs → t.0 ≤ m
      → value vs (times_variable m v n t) % m ≡ turned n (get_or vs v 0) * (t.0 * set_value vs t.1) % m
  unfolding times_variable value turned
  value_times_variable zero zero t l h = rw (false_first, zero-mul)
  value_times_variable zero (suc k) t l h = rw (false_first, one-mul, add-zero)
  value_times_variable (suc v) zero t l h = rw (set_value_with vs t.1 (suc v) d l, add-zero, ← mul_assoc, mul_comm)
  value_times_variable (suc v) (suc k) t l h =
      rw (set_value_with vs t.1 (suc v) d l) (one_less m t.0 (set_value vs t.1) (get_or vs (suc v) 0) (digit_at vs d (suc v)) h)

  -- a polynomial times a literal has the product of their values, modulo m
  pub value_times_literal : (x : ℕ) (p : Polynomial) → variable x < length vs → Capped m p
      → value vs (times_literal m x p) % m ≡ literal_value vs x * value vs p % m
  unfolding times_literal value literal_value
  value_times_literal x [] l h = rw mul-zero
  value_times_literal x (t ∷ p) l h =
      rw (
        value_append vs (times_variable m (variable x) (inverted x) t) (times_literal m x p),
        ← mod-add-mod,
        value_times_variable (variable x) (inverted x) t l h.0,
        mod-add-mod,
        ← add-mod-mod,
        value_times_literal x p l h.1,
        add-mod-mod,
        mul-add,
      )
