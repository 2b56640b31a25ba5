-- The shape of the polynomials of a run: sets that fall and hold only variables up to M, coefficients from 1 to m - 1; and
-- every one has the start's value.
use mathlib.Core.Path.{◌≡◌, refl, ◌∙◌}
use mathlib.Core.Bool.{true}
use mathlib.Core.List.{List}
use Prim.Native.Nat.{ℕ, suc, ◌+◌, ◌*◌, ◌%◌, ◌^◌, ◌<◌, ◌≤◌}
use native.Mathlib.Nat.{pow-succ'}
use native.Mathlib.Omega.{arith}
use borrow.Author.Tests.{ltb-true, leb-true}
use lib.Dec.{ltb, leb}
use lib.ListN.{length, get_or}
use lib.Pow.{pow_pos, pow-lt, pow_mono}
use Rattle.rules.specs.Each.{every}
use Rattle.rules.specs.Netlist.{record_at}
use Rattle.rules.specs.Values.{values}
use Rattle.rules.specs.Product.{Kind, operand_width, addend_width}
use Rattle.rules.specs.Polynomial.{Polynomial, Below, Coefficients, gather}
use Rattle.rules.specs.Steps.{modulus, start_terms, start, all_replaced, step, run, after}
use Rattle.rules.specs.Judging.{is_gate}
use Rattle.rules.specs.declared.counts.Counts.{Counts}
use Rattle.rules.proofs.Indices.{both, every_at}
use Rattle.rules.proofs.Gathered.{gather_below, gather_coefficients}
use Rattle.rules.proofs.Sound.{RightCounts, SoundTable, every_variable}
use Rattle.rules.proofs.Places.{operands_within}
use Rattle.rules.proofs.AllSets.{AllSets, Joins, sets_under, all_gather, all_start, all_terms_replaced}
use Rattle.rules.proofs.Bits.{with_variable_under}
use Rattle.rules.proofs.Trails.{trail_keeps}
use Rattle.demands.specs.Polynomials.{value}
use Rattle.demands.proofs.Operands.{modulus_positive}
use Rattle.demands.proofs.StepKeeps.{step_value}

-- the set holds only variables up to M
abbrev pub UpTo : Counts → ℕ → Type 0
UpTo c s = s < 2 ^ (c.m + 1)

-- normal: sets that fall, of variables up to M, and coefficients from 1 to m - 1
pub record Shape (kind : Kind) (c : Counts) (p : Polynomial) : Type 0 where
  pub falling : Below (2 ^ (c.m + 1)) p
  pub under : AllSets (UpTo c) p
  pub coefficients : Coefficients (modulus kind c) p

-- q is normal, and has p's value at every operand pair, modulo m
record Kept (kind : Kind) (c : Counts) (table : List ℕ) (p q : Polynomial) : Type 0 where
  shape : Shape kind c q
  same : (a b : ℕ) → value (values c table a b) q % modulus kind c ≡ value (values c table a b) p % modulus kind c

-- what is gathered is normal
gather_shape : (kind : Kind) (c : Counts) (p : Polynomial) → AllSets (UpTo c) p → Shape kind c (gather (modulus kind c) p)
gather_shape kind c p h =
    let m = modulus kind c in
    record {
      falling = gather_below m (2 ^ (c.m + 1)) p (sets_under (2 ^ (c.m + 1)) p h);
      under = all_gather (UpTo c) m p h;
      coefficients = gather_coefficients m p (modulus_positive kind c);
    }

-- a variable up to M put in leaves a set with only such
pub up_to_joins : (c : Counts) (v : ℕ) → v ≤ c.m → Joins (UpTo c) v
up_to_joins c v l above s h = with_variable_under (c.m + 1) s v (omega arith) h

-- what an order names that passes the test is a gate
pub gate_here : (c : Counts) (order : List ℕ) → every (is_gate c) order ≡ true → (j : ℕ) → j < length order
    → (c.i < get_or order j 0) × (get_or order j 0 ≤ c.m)
unfolding is_gate
gate_here c order h j l =
    let v = get_or order j 0 in
    let parts = both (ltb c.i v) (leb v c.m) (every_at (is_gate c) order 0 h j l) in
    (ltb-true c.i v parts.0, leb-true v c.m parts.1)

module _ (kind : Kind) (c : Counts) (table : List ℕ) (right : RightCounts c) (sound : SoundTable c table) where
  -- a step leaves a normal polynomial
  step_shape : (v : ℕ) → c.i < v → v ≤ c.m → (p : Polynomial) → AllSets (UpTo c) p → Shape kind c (step (modulus kind c) c table v p)
  unfolding step
  step_shape v above below p h =
      let facts = sound.gates v above (omega (arith, right.variables)) in
      let r = record_at c table v in
      gather_shape kind c (all_replaced (modulus kind c) v r p)
      (all_terms_replaced (UpTo c) (UpTo c) (modulus kind c) v (λ s e k. k) (λ s e k. omega arith) r
      (every_variable (λ w. w < v) (Joins (UpTo c)) (λ w l. up_to_joins c w (omega arith)) r facts.low) p h)

  -- n, the bits of a and of b
  abbrev n : ℕ
  n = operand_width kind c

  -- the set of a product's term holds inputs
  product_under : (i j : ℕ) → i < n → j < n → UpTo c (2 ^ (1 + i) + 2 ^ (n + 1 + j))
  product_under i j hi hj =
      let first : 2 ^ (1 + i) < 2 ^ (n + 1 + j) = pow-lt (omega arith) in
      let second : 2 ^ suc (n + 1 + j) ≤ 2 ^ (c.m + 1) = pow_mono (omega (arith, operands_within kind c, right.variables)) in
      omega (arith, pow-succ' 2 (n + 1 + j))

  -- so does that of a term of c
  addend_under : (i : ℕ) → i < addend_width kind n → UpTo c (2 ^ (2 * n + 1 + i))
  addend_under i h = pow-lt (omega (arith, operands_within kind c, right.variables))

  -- the start polynomial is normal
  pub start_shape : Shape kind c (start kind c table)
  unfolding start
  start_shape =
      gather_shape kind c (start_terms kind c table)
      (all_start (UpTo c) kind c table (pow_pos (c.m + 1)) (λ i l. up_to_joins c _ (sound.output_variables i l)) product_under addend_under)

  module _ (order : List ℕ) (gates : every (is_gate c) order ≡ true) (k : ℕ) (l : k ≤ length order) where
    -- every polynomial of a run is normal, and has the start's value
    run_kept : Kept kind c table (start kind c table) (after kind c table order k)
    unfolding after run
    run_kept =
        trail_keeps (λ j q. Kept kind c table (start kind c table) q) (modulus kind c) c table order keeps (start kind c table)
        (record { shape = start_shape; same = λ a b. refl }) k l
      where
        keeps : (j : ℕ) → j < length order → (q : Polynomial) → Kept kind c table (start kind c table) q
            → Kept kind c table (start kind c table) (step (modulus kind c) c table (get_or order j 0) q)
        keeps j lj q h =
            let v = get_or order j 0 in
            let here = gate_here c order gates j lj in
            record {
              shape = step_shape v here.0 here.1 q h.shape.under;
              same = λ a b. step_value (modulus kind c) c table right sound a b v here.0 here.1 q h.shape.coefficients ∙ h.same a b;
            }

    -- the polynomial after k steps is normal
    pub run_shape : Shape kind c (after kind c table order k)
    run_shape = run_kept.shape

    -- the polynomial after k steps has the start's value at every operand pair, modulo m
    pub run_value : (a b : ℕ)
        → value (values c table a b) (after kind c table order k) % modulus kind c ≡ value (values c table a b) (start kind c table) % modulus kind c
    run_value = run_kept.same
