-- `desk::decimal::put_number` meets its contract: the digits stand behind the space. Assumes nothing.
use mathlib.Core.Path.{◌∙◌}
use mathlib.Core.List.{[], ◌∷◌}
use Prim.Native.Nat.{◌+◌}
use native.Mathlib.Omega.{arith}
use lib.ListN.{length-set}
use Rattle.rules.specs.Text.{decimal, space}
use Rattle.desk.proofs.Decimals.{decimal_word}
use Rattle.desk.proofs.Written.{written_one, written_joined}
use Rattle.desk.proofs.decimal.put_number.Goals as goal

pub put_decimal-requires : goal.put_decimal-requires
put_decimal-requires c =
    let x = c.args.x in
    simp length-set (omega (arith, decimal_word x (omega arith)))

pub shape_of-bytes : goal.shape_of-bytes
shape_of-bytes c = c.put_decimal.auto.bytes ∙ simp length-set

pub returns : goal.returns
returns c =
    let a = c.args in
    written_joined a.bytes.now _ _ (space ∷ []) (decimal a.x) a.at (a.at + 1) _ (omega arith)
    (written_one a.bytes.now a.at space (omega arith))
    c.put_decimal.ensures
