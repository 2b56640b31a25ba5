-- The places of the two coefficients that are added lie behind the first, and in the row.
use Rattle.std.proofs.Common.{sym, ◌∙◌, arith}
use Rattle.words.proofs.Numbers.{one_shifted}
use Rattle.gates.proofs.Written.{other_places}
use Rattle.gates.proofs.apart.joined.Goals as goal

pub overflow_sub-u : goal.overflow_sub-u
overflow_sub-u c =
    let a = c.args in
    let p = c.requires in
    rw (one_shifted a.i (omega arith)) (other_places a.i a.j a.u p.2 p.3 p.1 (sym c.if-not-has.false ∙ c.has-2.ensures) (sym c.if-has.false ∙ c.has.ensures)).0

pub three-requires : goal.three-requires
three-requires c =
    let a = c.args in
    let p = c.requires in
    let q = other_places a.i a.j a.u p.2 p.3 p.1 (sym c.if-not-has.false ∙ c.has-2.ensures) (sym c.if-has.false ∙ c.has.ensures) in
    rw (one_shifted a.i (omega arith), one_shifted a.j (omega arith)) (p.0, p.1, q.1, q.2, q.3, omega arith, p.4)
