-- A list of words, read by place.
use Rattle.std.specs.Prelude.{◌≡◌, ℕ, ◌^◌, ◌<◌, List, length, slice_index}

-- a call at a place can only give the word of xs there; xs are k words
pub record Reads (gives : ℕ → ℕ → Type 0) (k : ℕ) (xs : List ℕ) : Type 0 where
  pub count : length xs ≡ k
  pub words : (at : ℕ) → at < k → slice_index xs at < 2 ^ 64
  pub given : (at x : ℕ) → at < k → gives at x → x ≡ slice_index xs at
