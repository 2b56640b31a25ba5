-- An honest order is never "unfinished": once a gate is replaced, after all that read it, it does not come back.
use mathlib.Core.Path.{◌≡◌, refl}
use mathlib.Core.Bool.{Bool, true, false, cond}
use mathlib.Core.List.{List, [], ◌∷◌}
use Prim.Native.Nat.{ℕ, suc, ◌+◌, ◌-◌, ◌<◌, ◌≤◌}
use native.Mathlib.Omega.{arith}
use lib.Dec.{eqb}
use lib.ListN.{length, get_or}
use borrow.Author.Tests.{eqb-true}
use Rattle.rules.specs.Netlist.{gate}
use Rattle.rules.specs.Product.{kind_of}
use Rattle.rules.specs.Polynomial.{Term, Polynomial}
use Rattle.rules.specs.Steps.{modulus, start, trail, run, after, times_named, honest}
use Rattle.std.specs.Prelude.{Ok}
use Rattle.rules.specs.declared.answers.Answer.TheVariants.{Unfinished}
use Rattle.rules.specs.declared.counts.Counts.{Counts}
use Rattle.rules.proofs.All.{all_at}
use Rattle.rules.proofs.Bits.{bit_none}
use Rattle.rules.proofs.Sound.{right_counts}
use Rattle.demands.specs.Answers.{HonestFinishes}
use Rattle.demands.proofs.Passed.{passed}
use Rattle.demands.proofs.Honest.{honest_once, honest_falls}
use Rattle.demands.proofs.Absent.{Lacks, Absent, absent_after}
use Rattle.demands.proofs.Room.{unfinished_exact}
use Rattle.demands.proofs.Verdicts.{last}

-- what is named stands at some place
named_at : (v : ℕ) (order : List ℕ) → 0 < times_named v order → (k : ℕ) × (k < length order) × (get_or order k 0 ≡ v)
unfolding times_named
named_at v [] h = absurd (omega arith)
named_at v (w ∷ order) h = go (eqb w v) refl h (named_at v order)
  where
    go : (t : Bool) → eqb w v ≡ t → 0 < cond t 1 0 + times_named v order
        → (0 < times_named v order → (k : ℕ) × (k < length order) × (get_or order k 0 ≡ v))
        → (k : ℕ) × (k < suc (length order)) × (get_or (w ∷ order) k 0 ≡ v)
    go true e h later = (0, omega arith, eqb-true w v e)
    go false e h later = let z = later (omega arith) in (suc z.0, omega (arith, z.1), z.2)

-- after an honest order no gate occurs
gate_absent : (m : ℕ) (c : Counts) (table order : List ℕ) (p : Polynomial) → honest c table order ≡ true → (k : ℕ) → k < c.a
    → Absent (gate c k) (get_or (trail m c table p order) (length order) [])
gate_absent m c table order p h k l =
    let at = named_at (gate c k) order (omega (arith, honest_once c table order h k l)) in
    absent_after m c table (gate c k) order p at.0 at.1 at.2
    (λ j b lj. rw at.2 at (honest_falls c table order h j at.0 lj at.1 b))

-- so the judge is never unfinished
pub honest_finishes : HonestFinishes
unfolding after run gate
honest_finishes x steps terms h answered =
    let due = (unfinished_exact x (Ok (Unfinished steps terms)) answered).0 (steps, terms, refl) in
    let c = x.counts in
    let v = due.1.0 in
    let above : c.i < v = due.1.1 in
    let below : v ≤ c.m = due.1.2 in
    let sums = (right_counts c (passed x due.0.0).counts).variables in
    let own : c.i + 1 + (v - (c.i + 1)) ≡ v = omega arith in
    let p = start (kind_of x.kind) c x.table in
    let none = gate_absent (modulus (kind_of x.kind) c) c x.table x.order p h (v - (c.i + 1)) (omega arith) in
    omega (arith, all_at (λ (t : Term). Lacks v t.1) (last x) (0, 0) (bit_none v) (rw own at none) due.1.3.0, due.1.3.2)
