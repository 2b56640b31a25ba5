-- The variables that there are none of are left out, and the three pairs brought apart, one after the other.
use Rattle.std.proofs.Common.{length, ap, ◌∙◌, arith}
use Rattle.gates.specs.Rows.{row_of}
use Rattle.gates.proofs.Made.{made_long}
use Rattle.gates.proofs.Parted.{within_more, all_left, first_parted, second_parted, all_apart}
use Rattle.gates.proofs.apart.apart.Goals as goal

pub join-y-requires : goal.join-y-requires
join-y-requires c =
    let w = c.put_record-q in
    let first = c.leave_out in
    let second = c.leave_out-2 in
    let left = all_left c.args.r w.result w.ensures.0 (row_of w.new.row) (row_of first.new.row) (row_of second.new.row) w.ensures.1 first.ensures second.ensures in
    (second.auto.row ∙ first.auto.row ∙ w.auto.row ∙ ap length c.requires.0, omega arith, omega arith, within_more 4 36 (row_of second.new.row) (omega arith) left.near)

pub join-third-requires : goal.join-third-requires
join-third-requires c =
    let w = c.put_record-q in
    let first = c.leave_out in
    let second = c.leave_out-2 in
    let x-y = c.join-y in
    let left = all_left c.args.r w.result w.ensures.0 (row_of w.new.row) (row_of first.new.row) (row_of second.new.row) w.ensures.1 first.ensures second.ensures in
    let parted = first_parted c.args.r w.result (row_of second.new.row) (row_of x-y.new.row) x-y.result left x-y.ensures.0 x-y.ensures.1 in
    (x-y.auto.row ∙ second.auto.row ∙ first.auto.row ∙ w.auto.row ∙ ap length c.requires.0, omega arith, omega arith, within_more 12 36 (row_of x-y.new.row) (omega arith) parted.near)

pub join-z-requires : goal.join-z-requires
join-z-requires c =
    let w = c.put_record-q in
    let first = c.leave_out in
    let second = c.leave_out-2 in
    let x-y = c.join-y in
    let x-z = c.join-third in
    let left = all_left c.args.r w.result w.ensures.0 (row_of w.new.row) (row_of first.new.row) (row_of second.new.row) w.ensures.1 first.ensures second.ensures in
    let parted = second_parted c.args.r w.result (row_of second.new.row) (row_of x-y.new.row) (row_of x-z.new.row) x-y.result x-z.result left x-y.ensures.0 x-y.ensures.1 x-z.ensures.0 x-z.ensures.1 in
    (x-z.auto.row ∙ x-y.auto.row ∙ second.auto.row ∙ first.auto.row ∙ w.auto.row ∙ ap length c.requires.0, omega arith, omega arith, parted.near)

pub returns : goal.returns
returns c =
    let r = c.args.r in
    let w = c.put_record-q in
    let first = c.leave_out in
    let second = c.leave_out-2 in
    let x-y = c.join-y in
    let x-z = c.join-third in
    let y-z = c.join-z in
    let left = all_left r w.result w.ensures.0 (row_of w.new.row) (row_of first.new.row) (row_of second.new.row) w.ensures.1 first.ensures second.ensures in (
      all_apart r w.result (row_of second.new.row) (row_of x-y.new.row) (row_of x-z.new.row) (row_of y-z.new.row) x-y.result x-z.result y-z.result left x-y.ensures.0 x-y.ensures.1 x-z.ensures.0 x-z.ensures.1 y-z.ensures.0 y-z.ensures.1,
      λ m t. c.not_zero-made.ensures ∙ made_long r w.result (row_of w.new.row) (row_of first.new.row) (row_of second.new.row) w.ensures.0 w.ensures.1 first.ensures second.ensures m t,
    )
