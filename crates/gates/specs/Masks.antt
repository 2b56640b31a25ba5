-- The masks of a gate's streams: what each changes in a term's set.
use Rattle.std.specs.Prelude.{◌≡◌, List, ℕ, zero, suc, ◌+◌, ◌*◌, ◌^◌, ◌≤◌, drop}
use Rattle.std.specs.Int.Bits.{bit_xor}
use Rattle.rules.specs.Values.{bit}
use Rattle.words.specs.Numbers.{num, words_at}
use Rattle.gates.specs.declared.apart.Variables.{Variables}

-- a set with v turned in it, where d is not 0
unfoldable pub turned_by : ℕ → ℕ → ℕ → ℕ
turned_by zero s v = s
turned_by (suc d) s v = bit_xor s (2 ^ v)

-- what stream j changes in a set: v goes out, and the variables of the subset j come in
unfoldable pub mask_of : ℕ → Variables → ℕ → ℕ
mask_of v q j = turned_by (bit j 0) (turned_by (bit j 1) (turned_by (bit j 2) (2 ^ v) q.z) q.y) q.x

-- the mask of stream j, of those that stand behind one another in w words each
unfoldable pub mask_at : ℕ → List ℕ → ℕ → ℕ
mask_at w masks j = num (words_at masks (j * w) w)

-- v was so turned in the j-th mask, and the others are as they were, and the words behind it
pub record Turned (w j v d : ℕ) (m m' : List ℕ) : Type 0 where
  pub here : mask_at w m' j ≡ turned_by d (mask_at w m j) v
  pub there : (i : ℕ) → (i ≡ j → ⊥) → mask_at w m' i ≡ mask_at w m i
  pub behind : (b : ℕ) → j * w + w ≤ b → drop b m' ≡ drop b m

-- the j-th mask is that of stream j, and the others are as they were, and the words behind it
pub record Masked (w v : ℕ) (q : Variables) (j : ℕ) (m m' : List ℕ) : Type 0 where
  pub here : mask_at w m' j ≡ mask_of v q j
  pub there : (i : ℕ) → (i ≡ j → ⊥) → mask_at w m' i ≡ mask_at w m i
  pub behind : (b : ℕ) → j * w + w ≤ b → drop b m' ≡ drop b m
