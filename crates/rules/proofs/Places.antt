-- The places of a kind's operands among the inputs.
use mathlib.Core.Path.{◌≡◌}
use mathlib.Core.Bool.{Bool, true, false, cond}
use Prim.Native.Nat.{ℕ, ◌+◌, ◌*◌, ◌/◌, ◌%◌, ◌<◌, ◌≤◌}
use native.Mathlib.Omega.{arith}
use borrow.Author.Tests.{eqb-true, not-false}
use Rattle.rules.specs.Judging.{misfits}
use Rattle.rules.specs.Netlist.{counts_right}
use Rattle.rules.specs.Product.{Kind, adds, shares, operand_width, addend_width, outputs_of}
use Rattle.rules.specs.declared.counts.Counts.{Counts}
use Rattle.rules.proofs.Indices.{neither}
use Rattle.rules.proofs.Sound.{right_counts}

module _ (kind : Kind) (c : Counts) where
  -- n, the bits of a and of b
  abbrev n : ℕ
  n = operand_width kind c

  -- the operands stand within the inputs
  pub operands_within : n + n + addend_width kind n ≤ c.i
  unfolding operand_width addend_width shares
  operands_within = go (adds kind)
    where
      go : (t : Bool) → c.i / cond t 4 2 + c.i / cond t 4 2 + cond t (2 * (c.i / cond t 4 2)) 0 ≤ c.i
      go true = omega arith
      go false = omega arith

  -- a block that fits its kind: the operands are all of its inputs, and they have bits
  pub record Fits : Type 0 where
    pub inputs : c.i ≡ n + n + addend_width kind n
    pub outputs : c.o ≡ outputs_of kind n
    pub some : 0 < n

  -- so is one that is not refused for its kind
  pub fits : counts_right c ≡ true → misfits c kind ≡ false → Fits
  unfolding misfits operand_width addend_width shares
  fits right h =
      let parts = neither _ _ h in
      let whole = go (adds kind) (eqb-true _ _ (not-false _ parts.0)) in
      record { inputs = whole.0; outputs = eqb-true _ _ (not-false _ parts.1); some = whole.1 }
    where
      go : (t : Bool) → c.i % cond t 4 2 ≡ 0
          → (c.i ≡ c.i / cond t 4 2 + c.i / cond t 4 2 + cond t (2 * (c.i / cond t 4 2)) 0) × (0 < c.i / cond t 4 2)
      go true e = (omega arith, omega (arith, (right_counts c right).inputs))
      go false e = (omega arith, omega (arith, (right_counts c right).inputs))
