-- `fields::fields` meets its contract. The loop's invariant: the first k numbers were read, and the others are read behind them. Assumes nothing.
use Rattle.std.proofs.Common.{◌≡◌, length, take, drop}
use Rattle.rules.specs.Reading.{fields, with_numbers}
use Rattle.lines.proofs.fields.fields.Given as goal

abbrev pub invariant-loop-k : goal.invariant-loop-k
invariant-loop-k g l =
    (length l.numbers ≡ length l.ends)
    × (fields l.ends l.text ≡ with_numbers (take l.k l.numbers) (fields (drop l.k l.ends) l.rest))
