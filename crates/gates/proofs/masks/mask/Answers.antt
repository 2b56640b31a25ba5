-- Four turns make the mask of a stream.
use Rattle.std.proofs.Common.{arith, rules}
use Rattle.gates.proofs.Tables.{mask_turned, mask_made}
use Rattle.gates.proofs.masks.mask.Goals as goal

pub returns : goal.returns
returns c =
    let a = c.args in
    let out = mask_turned a.masks.now c.turn.new.words a.j a.w a.v (omega arith) (search rules) (omega arith) c.turn.ensures in
    mask_made a.w a.v a.q a.j a.masks.now c.turn.new.words c.put_in.new.masks c.put_in-2.new.masks c.put_in-3.new.masks c.requires.5 out c.put_in.ensures c.put_in-2.ensures c.put_in-3.ensures
