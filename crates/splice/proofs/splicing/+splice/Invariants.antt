-- Each call below has one new term less to put in its place.
use Prim.Native.Nat.{◌-◌}
use Rattle.splice.proofs.splicing.+splice.Given as goal

abbrev pub decreases-splice : goal.decreases-splice
decreases-splice l = l.z.made - l.used
