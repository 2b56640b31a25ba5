use mathlib.Core.Path.{refl, ◌∙◌}
use native.Mathlib.Omega.{arith}
use lib.ListN.{get_or}
use Rattle.desk.proofs.Decimals.{decimal_word}
use Rattle.desk.proofs.Numbers.{spaced_none, spaced_more}
use Rattle.desk.proofs.decimal.put_numbers.Goals as goal

pub loop-x-init : goal.loop-x-init
loop-x-init c = (omega arith, refl, spaced_none c.args.bytes.now c.args.at)

pub loop-x-preserved : goal.loop-x-preserved
loop-x-preserved c =
    let a = c.args in
    let l = c.loop-x in
    let put = c.put_number-end in
    let fits = c.type_inv.numbers l.x-index in (
      omega (arith, put.ensures.end, decimal_word (get_or a.numbers.now l.x-index 0) fits.fits),
      put.auto.bytes ∙ l.invariant.1,
      spaced_more a.bytes.now l.bytes put.new.bytes a.numbers.now a.at l.end put.result l.x-index
          (omega arith) (omega arith) l.invariant.2 put.ensures,
    )
