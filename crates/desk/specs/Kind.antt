-- What is promised of the kind that is asked for.
use Rattle.std.specs.Prelude.{cond, ltb, ℕ, Option, Some, None}

-- the number of a kind, or none: 5 is no kind
unfoldable pub kind_or_none : ℕ → Option ℕ
kind_or_none k = cond (ltb k 5) (Some k) None
