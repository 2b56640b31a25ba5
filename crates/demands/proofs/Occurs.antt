-- A polynomial has input variables only exactly when no gate variable occurs in it.
use mathlib.Core.Path.{◌≡◌, refl}
use mathlib.Core.Bool.{Bool, true, false, ◌&&◌, true≢false}
use mathlib.Core.List.{[], ◌∷◌}
use Prim.Native.Nat.{ℕ, suc, ◌+◌, ◌^◌, ◌<◌, ◌≤◌}
use native.Mathlib.Omega.{arith}
use lib.Dec.{ltb}
use lib.ListN.{get_or}
use lib.Pow.{pow_mono}
use borrow.Author.Tests.{ltb-true, ltb-false}
use Rattle.rules.specs.Each.{every}
use Rattle.rules.specs.Polynomial.{Polynomial}
use Rattle.rules.specs.Judging.{inputs_only}
use Rattle.rules.specs.declared.counts.Counts.{Counts}
use Rattle.rules.proofs.Indices.{every_at}
use Rattle.rules.proofs.AllSets.{AllSets}
use Rattle.rules.proofs.Bits.{bit_out, high_variable}
use Rattle.demands.specs.Answers.{GateOccurs}
use Rattle.demands.proofs.StepShape.{UpTo}

-- a set that is no set of inputs has a gate variable
pub gate_occurs : (c : Counts) (p : Polynomial) → AllSets (UpTo c) p → inputs_only c p ≡ false → GateOccurs c p
unfolding inputs_only every
gate_occurs c [] under h = absurd (true≢false h)
gate_occurs c (t ∷ p) under h = go (ltb t.1 (2 ^ (c.i + 1))) refl h (gate_occurs c p under.1)
  where
    go : (b : Bool) → ltb t.1 (2 ^ (c.i + 1)) ≡ b → (b && inputs_only c p) ≡ false → (inputs_only c p ≡ false → GateOccurs c p) → GateOccurs c (t ∷ p)
    go true e k later = let z = later k in (z.0, z.1, z.2, (suc z.3.0, omega (arith, z.3.1), z.3.2))
    go false e k later =
        let v = high_variable (c.i + 1) (c.m + 1) t.1 under.0 (ltb-false t.1 (2 ^ (c.i + 1)) e) in
        (v.0, omega (arith, v.1), omega (arith, v.2), (0, omega arith, v.3))

-- where a gate variable occurs there are not inputs only
pub not_inputs : (c : Counts) (p : Polynomial) → GateOccurs c p → inputs_only c p ≡ false
unfolding inputs_only
not_inputs c p z = go (inputs_only c p) refl
  where
    go : (b : Bool) → inputs_only c p ≡ b → inputs_only c p ≡ false
    go false e = e
    go true e =
        let s : ℕ = (get_or p z.3.0 (0, 0)).1 in
        let low : s < 2 ^ (c.i + 1) = ltb-true s (2 ^ (c.i + 1)) (every_at _ p (0, 0) e z.3.0 z.3.1) in
        let more : c.i + 1 ≤ z.0 = omega (arith, z.1) in
        absurd (omega (arith, (bit_out s z.0 z.3.2).0, pow_mono {i = c.i + 1} {j = z.0} more))
