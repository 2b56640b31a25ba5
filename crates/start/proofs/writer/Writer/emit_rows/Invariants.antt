-- `emit_rows` emits the products and the weight of each b_j. The loop's invariant: the rows below j are left. Assumes nothing.
use Prim.Native.Nat.{◌^◌}
use Rattle.std.specs.Prelude.{Some}
use Rattle.rules.specs.Product.{kind_of}
use Rattle.start.specs.Start.{rows}
use Rattle.start.specs.Writing.{Leads}
use Rattle.start.proofs.writer.Writer.emit_rows.Given as goal

abbrev pub invariant-loop-j : goal.invariant-loop-j
invariant-loop-j l =
    let left = rows (kind_of l.shape.kind) (2 ^ l.shape.l) l.shape.n l.weights in
    Leads (left l.shape.n) (left l.j) l.initial.self l.self (Some tt)
