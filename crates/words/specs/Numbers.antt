-- A set read from its words as one number, the lowest word first; words under a mask.
use Rattle.std.specs.Prelude.{ℕ, ◌+◌, ◌*◌, ◌^◌, ◌<◌, List, [], ◌∷◌, take, drop, bit_xor}

-- the number of a list of words
unfoldable pub num : List ℕ → ℕ
num [] = 0
num (x ∷ xs) = num xs * 2 ^ 64 + x

-- w words from i on
abbrev pub words_at : List ℕ → ℕ → ℕ → List ℕ
words_at words i w = take w (drop i words)

-- words under a mask, word by word
unfoldable pub masked : List ℕ → List ℕ → List ℕ
masked [] masks = []
masked (x ∷ xs) [] = []
masked (x ∷ xs) (y ∷ ys) = bit_xor x y ∷ masked xs ys

-- the number of the w words at i under that of the mask at a
abbrev pub under_mask : List ℕ → ℕ → List ℕ → ℕ → ℕ → ℕ
under_mask words i masks a w = bit_xor (num (words_at words i w)) (num (words_at masks a w))

-- every entry is a word of 64 bits
abbrev pub Words : List ℕ → Type 0
Words [] = Unit
Words (x ∷ xs) = (x < 2 ^ 64) × Words xs
