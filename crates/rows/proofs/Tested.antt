-- A table of rows is right where a test of its subset sums, computed at every byte and every point, passes.
use mathlib.Core.Path.{◌≡◌, sym, ◌∙◌}
use mathlib.Core.Bool.{Bool, true, ◌&&◌}
use mathlib.Core.List.{List}
use Prim.Native.Nat.{ℕ, zero, suc, ◌+◌, ◌*◌, ◌<◌}
use native.Mathlib.Nat.{add-zero}
use native.Mathlib.Omega.{arith}
use borrow.Author.Tests.{eqb-true}
use lib.Dec.{eqb}
use lib.IntN.{ℤ, pos}
use lib.ListN.{get_or, drop}
use lib.Seq.{get_or-drop, drop-drop}
use Rattle.rules.specs.Each.{each, sum}
use Rattle.rules.specs.Values.{bit}
use Rattle.rules.specs.Cells.{above, below, lies_in, within, Row}
use Rattle.rules.proofs.Indices.{both, each_at}
use Rattle.rules.proofs.CellRule.{row_only}
use Rattle.rows.specs.Rows.{Right}

-- at a point, the sums over its subsets among the first eight entries differ by the truth bit of the byte
unfoldable pub sums_at : ℕ → List ℤ → ℕ → Bool
sums_at byte list x =
    eqb (within (λ u. above (get_or list u (pos 0))) x) (within (λ u. below (get_or list u (pos 0))) x + bit byte x)

-- the first eight entries are the row of the byte, the eight behind them that of the next byte, and so on for n rows
unfoldable pub rows_from : ℕ → ℕ → List ℤ → Bool
unfolding sums_at within lies_in each sum above below bit
rows_from zero byte list = true
rows_from (suc n) byte list = each 8 (sums_at byte list) && rows_from n (suc byte) (drop 8 list)

-- the test, read at a byte: its row stands there
row_there : (n byte : ℕ) (list : List ℤ) → rows_from n byte list ≡ true → (k : ℕ) → k < n → Row (byte + k) (λ u. get_or (drop (k * 8) list) u (pos 0))
unfolding rows_from Row
row_there zero byte list h k l = absurd (omega arith)
row_there (suc n) byte list h zero l =
    let first = (both (each 8 (sums_at byte list)) (rows_from n (suc byte) (drop 8 list)) h).0 in
    rw add-zero (λ x m. eqb-true _ _ (each_at 8 (sums_at byte list) first x m))
row_there (suc n) byte list h (suc k) l =
    let rest = (both (each 8 (sums_at byte list)) (rows_from n (suc byte) (drop 8 list)) h).1 in
    let place : suc k * 8 ≡ 8 + k * 8 = omega arith in
    let next : byte + suc k ≡ suc byte + k = omega arith in
    rw (place, next, ← drop-drop (k * 8) 8 list) (row_there n (suc byte) (drop 8 list) rest k (omega arith))

-- a list that passes as the part of a number holds every coefficient of that part, since no other whole numbers have those sums
pub tested_right : (part high : ℕ) (list : List ℤ) → high ≡ part → rows_from 16 (16 * part) list ≡ true → Right high list
unfolding Right
tested_right part high list e h low u l m =
    let row = row_there 16 (16 * part) list h low l in
    rw e (sym (get_or-drop (low * 8) list u (pos 0)) ∙ row_only (16 * part + low) (λ v. get_or (drop (low * 8) list) v (pos 0)) row u m)
