-- A step in lent words: what it asks, and what it leaves.
use Rattle.std.specs.Prelude.{◌≡◌, Bool, cond, ◌&&◌, List, ℕ, ◌+◌, ◌-◌, ◌*◌, ◌^◌, ◌<◌, ◌≤◌, leb, ltb, ℤ, Option, None, Some, length, get_or, take, drop, replicate}
use Rattle.rules.specs.Judging.{polynomial_words, padded}
use Rattle.rules.specs.Netlist.{EveryVariable, byte_of}
use Rattle.rules.specs.Polynomial.{Polynomial, Below, Coefficients}
use Rattle.rules.specs.Values.{bit}
use Rattle.rules.specs.declared.records.Record.{Record}
use Rattle.words.specs.Numbers.{num, words_at}
use Rattle.words.specs.Stored.{decoded}
use Rattle.weave.specs.Seeking.{Free, Last}
use Rattle.tally.specs.Marks.{Numbered}
use Rattle.weave.specs.Weaving.{Task, old_terms, new_terms}
use Rattle.weave.specs.declared.weaving.Sizes.{Sizes}
use Rattle.gates.specs.Apart.{Making, Apart}
use Rattle.gates.specs.Rows.{row_of}
use Rattle.merge.specs.declared.streams.Gate.{Gate}

-- the sets of the terms p use k of their w words, and the row is what the gate's record is brought apart to, over the gate's variables,
-- which are below v
pub record Fit (w : ℕ) (p : Polynomial) (g : Gate) (r : Record) (row : List ℤ) : Type 0 where
  pub short : g.k ≤ w
  pub v_in : g.v < 64 * g.k
  pub l_high : g.l ≤ 64
  pub apart : Apart r g.over (row_of row)
  pub eight : length row ≡ 8
  pub x_low : g.over.x < g.v
  pub y_low : g.over.y < g.v
  pub z_low : g.over.z < g.v
  pub falls : Below (2 ^ (64 * g.k)) p
  pub coefficients : Coefficients (2 ^ g.l) p

-- a polynomial of n terms is held, and some term holds the gate's variable, but none from `end` on; there is room for `limit` terms in
-- the store, and for four times as many in scratch, with zeros in both wherever no term is
pub record Prepared (store : List ℕ) (n w : ℕ) (g : Gate) (r : Record) (row : List ℤ) (end : ℕ) (scratch : List ℕ) (limit : ℕ) : Type 0 where
  pub room : n * (w + 1) ≤ length store
  pub narrow : w ≤ 16
  pub fit : Fit w (decoded w n store) g r row
  pub few : n ≤ limit
  pub last : Last g.v (decoded w n store) end
  pub some : 0 < end
  pub store_room : limit * (w + 1) ≤ length store
  pub scratch_room : 4 * limit * (w + 1) ≤ length scratch
  pub behind : drop (n * (w + 1)) store ≡ replicate (length store - n * (w + 1)) 0
  pub clean : scratch ≡ replicate (length scratch) 0

-- what putting both lists together asks: the terms of the store, some of which hold v, but none from `end` on, and new ones; room for
-- `limit` terms in the store, zeros behind those it holds, and zeros in front of the new ones in scratch
pub record Both (z : Sizes) (store scratch : List ℕ) : Type 0 where
  pub task : Task z store scratch
  pub last : Last z.v (old_terms z store) z.end
  pub some : 0 < z.end
  pub store_room : z.limit * (z.w + 1) ≤ length store
  pub behind : drop (z.n * (z.w + 1)) store ≡ replicate (length store - z.n * (z.w + 1)) 0
  pub clean : take (z.limit * (z.w + 1)) scratch ≡ replicate (z.limit * (z.w + 1)) 0

-- the variables of both lists have numbers
pub record Numbering (z : Sizes) (store scratch : List ℕ) (lent : ℕ) : Type 0 where
  pub some : 0 < lent
  pub old : Numbered lent (old_terms z store)
  pub new : Numbered lent (new_terms z scratch)

-- the new terms are put in place where they are few, there is room for all terms, and no variable is above v
unfoldable pub in_place : Sizes → List ℕ → Bool
in_place z store = leb z.made 16 && (leb (z.n - z.end + z.made) z.limit && ltb (num (words_at store 1 z.w)) (2 ^ (z.v + 1)))

-- both lists, gathered to q, are in the store: their number of terms, and their words; or there is no room, and the store is as it was.
-- Scratch is as it was.
pub record Together (z : Sizes) (q : Polynomial) (store scratch : List ℕ) (r : Option ℕ) (store' scratch' : List ℕ) : Type 0 where
  pub counted : r ≡ cond (leb (length q) z.limit) (Some (length q)) None
  pub stored : store' ≡ cond (leb (length q) z.limit) (padded (length store) (polynomial_words z.w q)) store
  pub kept : scratch' ≡ scratch

-- what a step asks: a polynomial of `held` terms over the variables below 64 w, coefficients of l bits, in a store
-- with room for `limit` terms and scratch for four times as many, with zeros wherever no term is; a gate that reads lower variables
pub record Ready (w l v : ℕ) (r : Record) (limit held : ℕ) (store scratch : List ℕ) : Type 0 where
  pub narrow : w ≤ 16
  pub l_high : l ≤ 64
  pub v_in : v < 64 * w
  pub low : EveryVariable (λ u. u < v) r
  pub byte : byte_of r ≤ 255
  pub held_most : held ≤ limit
  pub store_room : limit * (w + 1) ≤ length store
  pub scratch_room : 4 * limit * (w + 1) ≤ length scratch
  pub falls : Below (2 ^ (64 * w)) (decoded w held store)
  pub coefficients : Coefficients (2 ^ l) (decoded w held store)
  pub kept : store ≡ padded (length store) (polynomial_words w (decoded w held store))
  pub clean : scratch ≡ replicate (length scratch) 0

-- the variables of p, of the gate and of its record have numbers
pub record Numberable (lent v : ℕ) (r : Record) (p : Polynomial) : Type 0 where
  pub v_in : v < lent
  pub low : EveryVariable (λ u. u < v) r
  pub numbered : Numbered lent p

-- what the record of v makes of one term, where some term of p holds v; else 0
pub record Each (v : ℕ) (r : Record) (p : Polynomial) (each : ℕ) : Type 0 where
  pub some : (i : ℕ) → i < length p → bit (get_or p i (0, 0)).1 v ≡ 1 → Making r each
  pub none : Free v p 0 (length p) → each ≡ 0

-- what a step to the polynomial q leaves: where q has at most `limit` terms, their number, and the words of q in the store; else there is
-- no room, and the store is as it was. Scratch is zeros.
pub record Stepped (w limit : ℕ) (q : Polynomial) (store scratch : List ℕ) (r : Option ℕ) (store' scratch' : List ℕ) : Type 0 where
  pub counted : r ≡ cond (leb (length q) limit) (Some (length q)) None
  pub stored : store' ≡ cond (leb (length q) limit) (padded (length store) (polynomial_words w q)) store
  pub cleared : scratch' ≡ replicate (length scratch) 0
