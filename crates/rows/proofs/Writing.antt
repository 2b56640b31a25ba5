-- A row copied out of its part of the table.
use Rattle.std.proofs.Common.{◌≡◌, ℕ, ◌+◌, ◌*◌, ◌/◌, ◌%◌, ◌<◌, ◌≤◌, List, length, get_or, take, drop, get_or-take, get_or-drop, ℤ, pos, ⊎_elim, ◌∙◌, arith}
use Rattle.std.proofs.lemmas.List.{places}
use borrow.Rule.Slice.PartMut.{put_mid}
use Rattle.rules.specs.Cells.{coefficient}
use Rattle.rows.specs.Rows.{Right, Written}

-- the row of a byte stands in the right part of the table
pub row_in : (list : List ℤ) (byte u : ℕ) → Right (byte / 16) list → u < 8 → get_or list (byte % 16 * 8 + u) (pos 0) ≡ coefficient byte u
unfolding Right
row_in list byte u right l =
    let whole : 16 * (byte / 16) + byte % 16 ≡ byte = omega arith in
    right (byte % 16) u (omega arith) l ∙ rw whole

-- entries written over k others
module _ (list written : List ℤ) (at k : ℕ) (l : at + k ≤ length list) (e : length written ≡ k) where
  over : (i : ℕ) → i < k → get_or (put_mid at k list written) (at + i) (pos 0) ≡ get_or written i (pos 0)
  over i h = grind (arith, places)

  before : (i : ℕ) → i < at → get_or (put_mid at k list written) i (pos 0) ≡ get_or list i (pos 0)
  before i h = grind (arith, places)

  behind : (i : ℕ) → at + k ≤ i → get_or (put_mid at k list written) i (pos 0) ≡ get_or list i (pos 0)
  behind i h = grind (arith, places)

-- eight entries copied
pub row_written : (byte at from : ℕ) (part row eight : List ℤ) → Right (byte / 16) part → from ≡ byte % 16 * 8 → length eight ≡ 8 → at + 8 ≤ length row → eight ≡ take 8 (drop from part)
    → Written byte at 8 row (put_mid at 8 row eight)
row_written byte at from part row eight right e f l q = record {
  inside = λ i h. over row eight at 8 l f i h ∙ rw (q, get_or-take, get_or-drop, e) (row_in part byte i right h);
  outside = λ i o. ⊎_elim (before row eight at 8 l f i) (behind row eight at 8 l f i) o;
}
