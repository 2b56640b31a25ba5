-- A step of a gate keeps the value of a polynomial at every operand pair.
use mathlib.Core.Path.{◌≡◌, refl, ◌∙◌}
use mathlib.Core.List.{List, [], ◌∷◌}
use mathlib.Core.Logic.{⊎_elim}
use Prim.Native.Nat.{ℕ, ◌-◌, ◌*◌, ◌%◌, ◌^◌, ◌<◌, ◌≤◌}
use native.Mathlib.Nat.{add-zero, mul_left_comm, mod-add-mod, add-mod-mod}
use native.Mathlib.Omega.{arith}
use lib.ListN.{length, get_or}
use Rattle.rules.specs.Netlist.{record_at, EveryVariable}
use Rattle.rules.specs.Values.{bit, record_value, values}
use Rattle.rules.specs.Polynomial.{Term, Polynomial, Coefficients}
use Rattle.rules.specs.Steps.{modulus, where_held, replaced, all_replaced, step}
use Rattle.rules.specs.declared.counts.Counts.{Counts}
use Rattle.rules.specs.declared.records.Record.{Record}
use Rattle.rules.proofs.Sound.{RightCounts, right_counts, SoundTable, sound_table, every_variable}
use Rattle.rules.proofs.Bits.{bit_cases}
use Rattle.demands.specs.Polynomials.{value, set_value, StepKeeps}
use Rattle.demands.proofs.Assigned.{values_length, values_digits, values_false, values_gate}
use Rattle.demands.proofs.Value.{Digits, Capped, capped, set_value_out, value_append, value_gather}
use Rattle.demands.proofs.RecordValue.{value_times_record}

-- values that are digits with false first, in which v has the value of the record r
pub record Recorded (vs : List ℕ) (v : ℕ) (r : Record) : Type 0 where
  pub digits : Digits vs
  pub false_first : get_or vs 0 0 ≡ 0
  pub held : v < length vs
  pub low : EveryVariable (λ w. w < length vs) r
  pub own : get_or vs v 0 ≡ record_value vs r

module _ (m : ℕ) (vs : List ℕ) (v : ℕ) (r : Record) (g : Recorded vs v r) where
  -- a term keeps its value, modulo m
  value_replaced : (t : Term) → t.0 ≤ m → value vs (replaced m v r t) % m ≡ t.0 * set_value vs t.1 % m
  unfolding replaced where_held value
  value_replaced t h =
      ⊎_elim
      (λ (e : bit t.1 v ≡ 0). rw (e, add-zero))
      (λ (e : bit t.1 v ≡ 1).
      rw (
        e,
        value_times_record vs m g.digits g.false_first r (t.0, t.1 - 2 ^ v) g.low h,
        set_value_out vs t.1 v e g.held,
        g.own,
        mul_left_comm t.0,
      ))
      (bit_cases t.1 v)

  -- all terms keep their value, modulo m
  value_all_replaced : (p : Polynomial) → Capped m p → value vs (all_replaced m v r p) % m ≡ value vs p % m
  unfolding all_replaced value
  value_all_replaced [] h = refl
  value_all_replaced (t ∷ p) h =
      rw (
        value_append vs (replaced m v r t) (all_replaced m v r p),
        ← mod-add-mod,
        value_replaced t h.0,
        mod-add-mod,
        ← add-mod-mod,
        value_all_replaced p h.1,
        add-mod-mod,
      )

-- a gate of a sound table, at an operand pair
recorded : (c : Counts) (table : List ℕ) → RightCounts c → SoundTable c table → (a b v : ℕ) → c.i < v → v ≤ c.m
    → Recorded (values c table a b) v (record_at c table v)
recorded c table right sound a b v above below =
    let size = values_length c table a b right in
    let facts = sound.gates v above (omega (arith, right.variables)) in
    record {
      digits = values_digits c table a b;
      false_first = values_false c table a b;
      held = omega arith;
      low = every_variable (λ w. w < v) (λ w. w < length (values c table a b)) (λ w l. omega arith) (record_at c table v) facts.low;
      own = values_gate c table a b right sound v above below;
    }

-- a step of a gate of a sound table keeps the value, modulo m
pub step_value : (m : ℕ) (c : Counts) (table : List ℕ) → RightCounts c → SoundTable c table → (a b v : ℕ) → c.i < v → v ≤ c.m
    → (p : Polynomial) → Coefficients m p → value (values c table a b) (step m c table v p) % m ≡ value (values c table a b) p % m
unfolding step
step_value m c table right sound a b v above below p coefficients =
    let vs = values c table a b in
    let r = record_at c table v in
    value_gather vs m (all_replaced m v r p)
    ∙ value_all_replaced m vs v r (recorded c table right sound a b v above below) p (capped m p coefficients)

-- a step of a gate keeps the value at every operand pair
pub step_keeps : StepKeeps
step_keeps kind c table counts gates a b v above below p under coefficients =
    step_value (modulus kind c) c table (right_counts c counts) (sound_table c table gates) a b v above below p coefficients
