-- Numbers written into a list: one number, and two runs of them, one behind the other.
use mathlib.Core.Path.{◌≡◌, refl, sym, ◌∙◌}
use mathlib.Core.List.{List, [], ◌∷◌, ◌++◌, append_assoc, append-nil}
use Prim.Native.Nat.{ℕ, ◌+◌, ◌<◌, ◌≤◌}
use native.Mathlib.Nat.{add_assoc, add-zero}
use native.Mathlib.Numerals.{add-one}
use native.Mathlib.Omega.{arith}
use lib.ListN.{length, take, drop, set, length-append, take-append-drop}
use lib.Seq.{append_snoc, set_split, length-take-le, take_at, drop_at, drop-drop}
use Rattle.desk.specs.Written.{Written}

-- nothing written changes nothing
pub written_none : (list : List ℕ) (at : ℕ) → Written list at [] list at
written_none list at = record {
  end = sym (add-zero at);
  all = rw (append-nil, add-zero) (sym (take-append-drop at list));
}

-- a store writes one number
pub written_one : (list : List ℕ) (at x : ℕ) → at < length list → Written list at (x ∷ []) (set list at x) (at + 1)
written_one list at x h = record {
  end = refl;
  all = set_split list at x h ∙ rw (append_snoc, add-one);
}

-- what is written behind what was written
pub written_joined : (before between after first second : List ℕ) (at middle r : ℕ) → at ≤ length before
    → Written before at first between middle → Written between middle second after r → Written before at (first ++ second) after r
written_joined before between after first second at middle r h f s =
    let seam : length (take at before ++ first) ≡ middle = simp length-append (omega (arith, length-take-le at before h, f.end)) in
    let front : take middle between ≡ take at before ++ first = rw f.all (take_at (take at before ++ first) _ middle seam) in
    let back : drop middle between ≡ drop (at + length first) before = rw f.all (drop_at (take at before ++ first) _ middle seam) in
    let rest : drop (middle + length second) between ≡ drop (at + length (first ++ second)) before =
    rw (← drop-drop (length second) middle between, back, drop-drop, length-append, add_assoc) in
    record {
      end = simp length-append (omega (arith, f.end, s.end));
      all = s.all ∙ rw (front, rest, append_assoc (take at before) first second);
    }
