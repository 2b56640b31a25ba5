-- What the second pass leaves in a table.
use Rattle.std.specs.Prelude.{◌≡◌, List, ℕ, take, drop}
use Rattle.rules.specs.Reading.{Scan, found, missing}

-- lines are found
abbrev pub Finds : Scan → Type 0
Finds (found words rest) = Unit
Finds missing = ⊥

-- the words that lines gave, so many, are the first of the table, all others as they were, and the text behind the lines is `later`
pub record Stored (lines : Scan) (later : List ℕ) (size : ℕ) (table exit : List ℕ) : Type 0 where
  pub words : lines ≡ found (take size exit) later
  pub others : drop size exit ≡ drop size table
