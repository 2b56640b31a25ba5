-- One mask after the other.
use Rattle.std.proofs.Common.{◌≡◌, ◌*◌, drop}
use Rattle.gates.proofs.Tables.{Making}
use Rattle.gates.proofs.masks.mask_table.Given as goal

abbrev pub invariant-loop-j : goal.invariant-loop-j
invariant-loop-j l = record {
  made : Making l.w l.v l.q l.streams l.j l.masks;
  behind : drop (l.streams * l.w) l.masks ≡ drop (l.streams * l.w) l.initial.masks;
}
