-- What is promised of a list that is written into.
use Rattle.std.specs.Prelude.{◌≡◌, List, ◌++◌, ℕ, ◌+◌, length, take, drop}

-- some numbers, written from a place on: where they end, and that all else is as it was
pub record Written (before : List ℕ) (at : ℕ) (numbers after : List ℕ) (r : ℕ) : Type 0 where
  pub end : r ≡ at + length numbers
  pub all : after ≡ take at before ++ numbers ++ drop (at + length numbers) before
