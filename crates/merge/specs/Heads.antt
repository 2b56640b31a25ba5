-- Where the streams stand, and the sets at their heads.
use Rattle.std.specs.Prelude.{◌≡◌, List, cond, ℕ, suc, ◌+◌, ◌*◌, ◌%◌, ◌^◌, ◌<◌, ◌≤◌, ltb, get_or, drop}
use Rattle.std.specs.Int.Bits.{bit_xor}
use Rattle.rules.specs.Each.{sum}
use Rattle.rules.specs.Polynomial.{Polynomial, Below, coefficient_at, hit}
use Rattle.words.specs.Listed.{terms_of, set_of}
use Rattle.words.specs.Numbers.{words_at, masked}
use Rattle.weave.specs.Merging.{Lows}
use Rattle.gates.specs.Masks.{mask_at}
use Rattle.merge.specs.Streams.{streams_of, weight, stream, streams}
use Rattle.merge.specs.declared.streams.Streams.{Streams}
use Rattle.merge.specs.declared.streams.Weighted.{Weighted}

-- how many streams there are
abbrev pub count : Streams → ℕ
count s = streams_of s.weighted.gate

-- the modulus of the coefficients
abbrev pub modulus : Streams → ℕ
modulus s = 2 ^ s.weighted.gate.l

-- the weight of term i in stream j
abbrev pub weight_at : Weighted → ℕ → ℕ → ℕ
weight_at t j i = weight t.gate t.multipliers.now j (get_or (terms_of t.terms) i (0, 0))

-- the mask of stream j
abbrev pub mask : Streams → ℕ → ℕ
mask s j = mask_at s.weighted.terms.width s.masks.now j

-- the set of term i in stream j
abbrev pub set_in : Streams → ℕ → ℕ → ℕ
set_in s i j = bit_xor (set_of s.weighted.terms i) (mask s j)

-- its words
abbrev pub words_in : Streams → ℕ → ℕ → List ℕ
words_in s i j =
    masked (words_at s.weighted.terms.words.now (i * (s.weighted.terms.width + 1) + 1) s.weighted.terms.width) (words_at s.masks.now (j * s.weighted.terms.width) s.weighted.terms.width)

-- what stream j holds from term i on
abbrev pub from : Streams → ℕ → ℕ → Polynomial
from s j i = stream s.weighted.gate s.weighted.multipliers.now (mask s) j (drop i (terms_of s.weighted.terms))

-- all of stream j
abbrev pub whole : Streams → ℕ → Polynomial
whole s j = stream s.weighted.gate s.weighted.multipliers.now (mask s) j (terms_of s.weighted.terms)

-- what is left of stream j
abbrev pub rest : Streams → List ℕ → ℕ → Polynomial
rest s at j = from s j (get_or at j 0)

-- all streams, one behind the other
abbrev pub all : Streams → Polynomial
all s = streams s.weighted.gate s.weighted.multipliers.now (mask s) (count s) (terms_of s.weighted.terms)

-- r is the first term from `low` on that has a weight in stream j, or the end
pub record Next (t : Weighted) (j low r : ℕ) : Type 0 where
  pub least : low ≤ r
  pub high : r ≤ t.terms.count
  pub none : (i : ℕ) → low ≤ i → i < r → weight_at t j i ≡ 0
  pub some : r < t.terms.count → 0 < weight_at t j r

-- stream j stands at a term that has a weight in it, or at its end
abbrev pub Loaded : Streams → List ℕ → ℕ → Type 0
Loaded s at j = (get_or at j 0 ≤ s.weighted.terms.count) × (get_or at j 0 < s.weighted.terms.count → 0 < weight_at s.weighted j (get_or at j 0))

-- 0 at the end of a stream, else one more than the set at its head
unfoldable pub rank : Streams → List ℕ → ℕ → ℕ
rank s at j = cond (ltb (get_or at j 0) s.weighted.terms.count) (suc (set_in s (get_or at j 0) j)) 0

-- the head of stream j was added to c if its set is the one given, and the stream then goes on
pub record Took (s : Streams) (set j : ℕ) (at at' : List ℕ) (c c' : ℕ) : Type 0 where
  pub others : (i : ℕ) → (i ≡ j → ⊥) → get_or at' i 0 ≡ get_or at i 0
  pub grows : get_or at j 0 ≤ get_or at' j 0
  pub loaded : Loaded s at' j
  pub small : c' < modulus s
  pub sums : (u : ℕ) → (hit u set c' + coefficient_at (rest s at' j) u) % modulus s ≡ (hit u set c + coefficient_at (rest s at j) u) % modulus s
  pub lower : Below set (rest s at' j)
  pub moved : rank s at j ≡ suc set → get_or at j 0 < get_or at' j 0

-- every head whose set is the one given was added up to c, and those streams went on
pub record Swept (s : Streams) (set : ℕ) (at at' : List ℕ) (c : ℕ) : Type 0 where
  pub small : c < modulus s
  pub loaded : (i : ℕ) → i < count s → Loaded s at' i
  pub lows : Lows set (count s) (rest s at')
  pub sums : (u : ℕ) → sum (count s) (λ i. coefficient_at (rest s at i) u) % modulus s ≡ (hit u set c + sum (count s) (λ i. coefficient_at (rest s at' i) u)) % modulus s
  pub grows : (i : ℕ) → i < count s → get_or at i 0 ≤ get_or at' i 0
  pub moved : (i : ℕ) → i < count s → rank s at i ≡ suc set → get_or at i 0 < get_or at' i 0
