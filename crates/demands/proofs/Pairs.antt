-- The two words that hold the inputs as the set of the variables that are 1 there, and the value of a polynomial of input variables at them.
use mathlib.Core.Path.{◌≡◌, refl, ap, sym, ◌∙◌}
use mathlib.Core.List.{List, [], ◌∷◌, ◌++◌, append_assoc, append-nil}
use mathlib.Core.Logic.{inl, inr}
use Prim.Native.Nat.{ℕ, zero, suc, ◌+◌, ◌*◌, ◌/◌, ◌^◌, ◌<◌}
use native.Mathlib.Nat.{mul_comm, mul-zero, mul-one, zero-add, pow-succ'}
use native.Mathlib.Omega.{arith}
use lib.Arith.{digits_lt}
use lib.ListN.{length, get_or, get_or-append}
use lib.Pow.{pow-add}
use Rattle.rules.specs.Each.{listed}
use Rattle.rules.specs.Values.{width, bit, input_values, gate_value, values_to, values}
use Rattle.rules.specs.Polynomial.{Polynomial, Coefficients, hit, coefficient_at}
use Rattle.rules.specs.Netlist.{gate}
use Rattle.rules.specs.declared.counts.Counts.{Counts}
use Rattle.rules.proofs.Indices.{length_listed}
use Rattle.rules.proofs.Terms.{hit_same, hit_other}
use Rattle.rules.proofs.All.{all_map}
use Rattle.rules.proofs.AllSets.{AllSets}
use Rattle.demands.specs.Polynomials.{set_value, value}
use Rattle.demands.proofs.Assigned.{length_inputs}
use Rattle.demands.proofs.Follows.{Follows, follows_bit, follows_listed, follows_append, set_value_front, set_value_own, At, set_value_at}
use Rattle.demands.proofs.Soonest.{NotAfter}

-- the set of the variables that are 1 for the words a, b
abbrev pub pair_set : ℕ → ℕ → ℕ → ℕ
pair_set n a b = 2 * (a + 2 ^ n * b)

-- a pair's set is one of input variables
pair_below : (n a b : ℕ) → a < 2 ^ n → b < 2 ^ n → pair_set n a b < 2 ^ suc (n + n)
pair_below n a b h k =
    let l : b * 2 ^ n + a < 2 ^ n * 2 ^ n = digits_lt k h in
    omega (arith, mul_comm b (2 ^ n), pow-add 2 n n, pow-succ' 2 (n + n))

-- the inputs' values are the digits of the pair's set
input_follows : (n a b : ℕ) → a < 2 ^ n → Follows (input_values n a b) (pair_set n a b)
unfolding input_values
input_follows n a b h =
    let n_bits : length (listed n (bit a)) ≡ n = length_listed n (bit a) in
    let half : pair_set n a b / 2 ≡ a + 2 ^ n * b = omega arith in
    let operands = follows_append (listed n (bit a)) (listed n (bit b)) a b (rw n_bits h) (follows_listed n a) (follows_listed n b) in
    (omega arith, rw half (rw n_bits at operands))

-- the values of the inputs stand first
values_front : (c : Counts) (table : List ℕ) (a b k : ℕ) → (more : List ℕ) × (values_to c table a b k ≡ input_values (width c) a b ++ more)
unfolding values_to
values_front c table a b zero = ([], sym (append-nil (input_values (width c) a b)))
values_front c table a b (suc k) =
    let before = values_front c table a b k in
    let last = gate_value c table (values_to c table a b k) (gate c k) ∷ [] in
    (before.0 ++ last, ap (λ (list : List ℕ). list ++ last) before.1 ∙ append_assoc (input_values (width c) a b) before.0 last)

module _ (c : Counts) (table : List ℕ) (a b : ℕ) where
  -- the value of an input is its digit in the set
  pub input_bit : a < 2 ^ width c → (v : ℕ) → v < suc (width c + width c) → get_or (values c table a b) v 0 ≡ bit (pair_set (width c) a b) v
  unfolding values
  input_bit h v l =
      let front = values_front c table a b c.a in
      let inside : v < length (input_values (width c) a b) = rw length_inputs l in
      rw front.1
      (get_or-append (input_values (width c) a b) front.0 0 v inside
      ∙ follows_bit (input_values (width c) a b) (pair_set (width c) a b) v (input_follows (width c) a b h) inside)

  -- a set of input variables has the value that it has at the inputs
  inputs_decide : (t : ℕ) → t < 2 ^ suc (width c + width c) → set_value (values c table a b) t ≡ set_value (input_values (width c) a b) t
  unfolding values
  inputs_decide t h =
      let front = values_front c table a b c.a in
      rw front.1 (set_value_front (input_values (width c) a b) front.0 t (rw length_inputs h))

  module _ (below_a : a < 2 ^ width c) (below_b : b < 2 ^ width c) where
    -- the pair's set has the value 1
    pair_own : set_value (values c table a b) (pair_set (width c) a b) ≡ 1
    pair_own =
        inputs_decide (pair_set (width c) a b) (pair_below (width c) a b below_a below_b)
        ∙ set_value_own (input_values (width c) a b) (pair_set (width c) a b) (input_follows (width c) a b below_a)

    -- another set of input variables has the value 0, or fewer variables
    pair_at : (t : ℕ) → t < 2 ^ suc (width c + width c) → At (values c table a b) (pair_set (width c) a b) t
    pair_at t h =
        rw (inputs_decide t h)
        (set_value_at (input_values (width c) a b) (pair_set (width c) a b) t
        (rw length_inputs (pair_below (width c) a b below_a below_b))
        (rw length_inputs h)
        (input_follows (width c) a b below_a))

    -- where no set comes before the pair's: the value is the coefficient of the pair's set
    pub pair_value : (p : Polynomial) → AllSets (λ t. t < 2 ^ suc (width c + width c)) p → AllSets (NotAfter (pair_set (width c) a b)) p
        → value (values c table a b) p ≡ coefficient_at p (pair_set (width c) a b)
    unfolding value coefficient_at
    pair_value [] inputs first = refl
    pair_value (t ∷ p) inputs first = rw (pair_value p inputs.1 first.1, go (pair_at t.1 inputs.0))
      where
        go : At (values c table a b) (pair_set (width c) a b) t.1
            → t.0 * set_value (values c table a b) t.1 ≡ hit (pair_set (width c) a b) t.1 t.0
        go (inl none) =
            let other : t.1 ≡ pair_set (width c) a b → ⊥ = λ e. omega (arith, sym pair_own ∙ ap (set_value (values c table a b)) (sym e) ∙ none) in
            rw (none, mul-zero, hit_other t.1 (pair_set (width c) a b) t.0 other)
        go (inr (inl same)) = rw (hit_same t.1 (pair_set (width c) a b) t.0 same, same, pair_own, mul-one)
        go (inr (inr fewer)) = absurd (omega (arith, first.0.0))

-- the coefficient at each set of a polynomial is not 0
pub coefficient_positive : (m : ℕ) (p : Polynomial) → Coefficients m p → AllSets (λ s. 0 < coefficient_at p s) p
unfolding coefficient_at
coefficient_positive m [] k = tt
coefficient_positive m (t ∷ p) k =
    (rw (hit_same t.1 t.1 t.0 refl) (omega (arith, k.0)), all_map p (λ s h. omega arith) (coefficient_positive m p k.2))

-- the coefficient at any other set is 0
pub coefficient_none : (u : ℕ) (p : Polynomial) → AllSets (λ s. s ≡ u → ⊥) p → coefficient_at p u ≡ 0
unfolding coefficient_at
coefficient_none u [] other = refl
coefficient_none u (t ∷ p) other = rw (hit_other t.1 u t.0 other.0, zero-add) (coefficient_none u p other.1)
