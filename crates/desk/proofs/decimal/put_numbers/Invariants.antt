-- The numbers passed are written, each in at most 21 bytes.
use Rattle.std.proofs.Common.{◌≡◌, ◌+◌, ◌*◌, ◌≤◌, length, take}
use Rattle.rules.specs.Desk.{spaced}
use Rattle.desk.specs.Written.{Written}
use Rattle.desk.proofs.decimal.put_numbers.Given as goal

abbrev pub invariant-loop-x : goal.invariant-loop-x
invariant-loop-x l =
    (l.end ≤ l.at + 21 * l.x-index) × (length l.bytes ≡ length l.initial.bytes)
    × Written l.initial.bytes l.at (spaced (take l.x-index l.numbers)) l.bytes l.end
