-- The eight entries that are copied are the row of the byte.
use Rattle.std.proofs.Common.{◌≡◌, ◌+◌, ◌-◌, length, ◌∙◌, arith, length-take, length-drop}
use Rattle.rows.proofs.Writing.{row_written}
use Rattle.rows.proofs.put_row.Goals as goal

pub returns : goal.returns
returns c =
    let a = c.args in
    let from = c.start-from in
    let eight = c.copy_from_slice in
    let n : a.at + 8 - a.at ≡ 8 = omega arith in
    let m : from.result + 8 - from.result ≡ 8 = omega arith in
    let long : length eight.new.self ≡ 8 = eight.ensures.len ∙ simp (length-take, length-drop) (omega arith) in
    rw n (row_written a.byte a.at from.result c.part-rows.result a.row.now eight.new.self c.part-rows.ensures from.ensures long (omega arith) (rw m at eight.ensures.after))
