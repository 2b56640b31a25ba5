-- What is promised of a line.
use Rattle.std.specs.Prelude.{◌≡◌, List, ◌++◌, ℕ, ◌-◌, length, replicate}
use Rattle.rules.specs.Says.{Says}
use Rattle.rules.specs.Desk.{line_room, printed}
use Rattle.rules.specs.declared.answers.Line.{Line}

-- the bytes of a line that holds a text: the text, zeros behind it up to a line's room, and how many bytes the text has
pub record Holds (text all : List ℕ) (r : ℕ) : Type 0 where
  pub bytes : all ≡ text ++ replicate (line_room - length text) 0
  pub len : r ≡ length text

-- a line that holds what is printed of an answer
abbrev pub Formatted : Says → Line → Type 0
Formatted said r = Holds (printed said) r.bytes r.len
