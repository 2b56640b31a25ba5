-- What a step makes at most, and that an idle step changes nothing.
use mathlib.Core.Path.{◌≡◌, refl, sym}
use mathlib.Core.Bool.{Bool, true, false, cond}
use mathlib.Core.List.{List, [], ◌∷◌}
use Prim.Native.Nat.{ℕ, zero, suc, ◌+◌, ◌-◌, ◌*◌, ◌^◌, ◌<◌, ◌≤◌}
use native.Mathlib.Nat.{mul-suc}
use native.Mathlib.Omega.{arith}
use lib.Dec.{eqb}
use lib.IntN.{ℤ}
use lib.ListN.{length, get_or, length-append}
use Rattle.rules.specs.Each.{joined}
use Rattle.rules.specs.Netlist.{variable, inverted, rhs0, rhs1, record_of, record_at}
use Rattle.rules.specs.Values.{bit}
use Rattle.rules.specs.Polynomial.{Term, Polynomial, times_variable, times_literal, times_chosen}
use Rattle.rules.specs.Cells.{above, below, scaled}
use Rattle.rules.specs.Steps.{where_held, times_subset, times_whole, times_record, replaced, all_replaced, made, step}
use Rattle.rules.specs.Judging.{most_made}
use Rattle.rules.specs.declared.counts.Counts.{Counts}
use Rattle.rules.specs.declared.records.Record.{Record}
use Rattle.rules.specs.declared.records.Record.TheVariants.{Gate, Cell}
use Rattle.rules.specs.declared.records.RecordKind.{RecordKind}
use Rattle.rules.specs.declared.records.RecordKind.TheVariants.{Gates, Cells}
use Rattle.rules.proofs.Gathered.{unique, under_of}
use Rattle.demands.specs.Polynomials.{TermsMade, StepIdle}

-- a term times a literal makes at most two
two_of_a_term : (m v n : ℕ) (t : Term) → length (times_variable m v n t) ≤ 2
unfolding times_variable
two_of_a_term m zero zero t = omega arith
two_of_a_term m zero (suc n) t = omega arith
two_of_a_term m (suc v) zero t = omega arith
two_of_a_term m (suc v) (suc n) t = omega arith

-- a polynomial times a literal has at most twice the terms
two_of_each : (m x : ℕ) (p : Polynomial) → length (times_literal m x p) ≤ 2 * length p
unfolding times_literal
two_of_each m x [] = omega arith
two_of_each m x (t ∷ p) =
    simp length-append (omega (arith, two_of_a_term m (variable x) (inverted x) t, two_of_each m x p))

-- a polynomial times a variable, where it is chosen, has no more terms
one_of_each : (d v : ℕ) (p : Polynomial) → length (times_chosen d v p) ≤ length p
unfolding times_chosen
one_of_each zero v p = omega arith
one_of_each (suc d) v [] = omega arith
one_of_each (suc d) zero (t ∷ p) = omega arith
one_of_each (suc d) (suc v) (t ∷ p) = omega (arith, one_of_each (suc d) (suc v) p)

-- lists of at most one term, one behind the other
one_at_each : (n : ℕ) (list : ℕ → Polynomial) → ((i : ℕ) → length (list i) ≤ 1) → length (joined n list) ≤ n
unfolding joined
one_at_each zero list h = omega arith
one_at_each (suc n) list h = simp length-append (omega (arith, one_at_each n list h, h n))

-- a term times a whole number and a subset makes at most one
one_of_a_whole : (m : ℕ) (z : ℤ) (u x1 x2 x3 : ℕ) (t : Term) → length (times_whole m z u x1 x2 x3 t) ≤ 1
unfolding times_whole times_subset
one_of_a_whole m z u x1 x2 x3 t = go (eqb (above z + below z) 0)
  where
    third : Polynomial
    third = times_chosen (bit u 2) x3 ((scaled m z t.0, t.1) ∷ [])

    second : Polynomial
    second = times_chosen (bit u 1) x2 third

    go : (none : Bool) → length (cond none [] (times_chosen (bit u 0) x1 second)) ≤ 1
    go true = omega arith
    go false =
        omega (arith, one_of_each (bit u 0) x1 second, one_of_each (bit u 1) x2 third, one_of_each (bit u 2) x3 ((scaled m z t.0, t.1) ∷ []))

-- a term times two literals makes at most four
four_of_a_term : (m x y : ℕ) (t : Term) → length (times_literal m x (times_literal m y (t ∷ []))) ≤ 4
four_of_a_term m x y t = omega (arith, two_of_each m x (times_literal m y (t ∷ [])), two_of_each m y (t ∷ []))

-- a term times any record makes at most eight
pub eight_of_a_term : (m : ℕ) (r : Record) (t : Term) → length (times_record m r t) ≤ 8
unfolding times_record
eight_of_a_term m (Gate x y) t = omega (arith, four_of_a_term m x y t)
eight_of_a_term m (Cell byte x1 x2 x3) t = one_at_each 8 _ (λ u. one_of_a_whole m _ u x1 x2 x3 t)

-- a term times a record makes at most four, and at most eight where the record is a lookup cell
most_of_a_term : (m : ℕ) (kind : RecordKind) (c : Counts) (table : List ℕ) (v : ℕ) (t : Term)
    → (0 < most_made kind) × (length (times_record m (record_of kind c table v) t) ≤ most_made kind)
unfolding times_record record_of most_made
most_of_a_term m Gates c table v t = (omega arith, four_of_a_term m (rhs0 c table v) (rhs1 c table v) t)
most_of_a_term m Cells c table v t = (omega arith, eight_of_a_term m (record_of Cells c table v) t)

-- one step makes at most that many of each term
pub terms_made : TermsMade
unfolding made all_replaced replaced where_held record_at
terms_made m c table v [] = omega arith
terms_made m c table v (t ∷ p) =
    simp length-append (omega (arith, go (bit t.1 v), terms_made m c table v p, mul-suc (most_made c.records) (length p)))
  where
    most : (t : Term) → (0 < most_made c.records) × (length (times_record m (record_at c table v) t) ≤ most_made c.records)
    most = most_of_a_term m c.records c table v

    go : (d : ℕ) → length (where_held d (t ∷ []) (times_record m (record_at c table v) (t.0, t.1 - 2 ^ v))) ≤ most_made c.records
    go zero = omega (arith, (most t).0)
    go (suc d) = (most (t.0, t.1 - 2 ^ v)).1

-- where v does not occur nothing is replaced
pub replaced_nowhere : (m v : ℕ) (r : Record) (p : Polynomial) → ((i : ℕ) → i < length p → bit (get_or p i (0, 0)).1 v ≡ 0) → all_replaced m v r p ≡ p
unfolding all_replaced replaced where_held
replaced_nowhere m v r [] none = refl
replaced_nowhere m v r (t ∷ p) none = rw (none 0 (omega arith), replaced_nowhere m v r p (λ i l. none (suc i) (omega arith)))

-- and nothing changes
pub step_idle : StepIdle
unfolding step
step_idle m c table v b p above falls coefficients none =
    rw (replaced_nowhere m v (record_at c table v) p none)
    (sym (unique m b p p above falls coefficients (under_of b b p (omega arith) falls) (λ u. refl)))
