-- A number below 10 is one digit, and any other is its tens and one digit more. Assumes nothing.
use Prim.Native.Nat.{◌<◌}
use native.Mathlib.Omega.{arith}
use lib.ListN.{length}
use Rattle.desk.proofs.Decimals.{tens_length}
use Rattle.desk.proofs.Numbers.{written_tens}
use Rattle.desk.proofs.decimal.+put_decimal.Goals as goal

pub returns : goal.returns
returns t c =
    let a = c.args in
    let l = c.put_decimal-end in
    let room : l.result < length l.new.bytes = omega (arith, tens_length a.x (omega arith), l.auto.bytes, l.ensures.end) in
    written_tens a.bytes.now l.new.bytes a.at l.result a.x (omega arith) (omega arith) room l.ensures
