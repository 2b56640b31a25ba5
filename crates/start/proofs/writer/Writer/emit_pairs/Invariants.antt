-- `emit_pairs` emits the products of one b_j. The loop's invariant: those with an a below i are left. Assumes nothing.
use Prim.Native.Nat.{◌^◌}
use Rattle.std.specs.Prelude.{Some}
use Rattle.rules.specs.Product.{kind_of}
use Rattle.start.specs.Start.{pairs}
use Rattle.start.specs.Writing.{Leads}
use Rattle.start.proofs.writer.Writer.emit_pairs.Given as goal

abbrev pub invariant-loop-i : goal.invariant-loop-i
invariant-loop-i l =
    let left = pairs (kind_of l.shape.kind) (2 ^ l.shape.l) l.shape.n l.j in
    Leads (left l.shape.n) (left l.i) l.initial.self l.self (Some tt)
