-- What a line holds: what is written into zeros; and when that is the desk's line.
use mathlib.Core.Path.{◌≡◌, refl, ◌∙◌}
use mathlib.Core.Bool.{Bool, true, false}
use mathlib.Core.List.{List, [], ◌∷◌, ◌++◌}
use Prim.Native.Nat.{ℕ, zero, suc, ◌+◌, ◌-◌, ◌<◌, ◌≤◌}
use native.Mathlib.Nat.{zero-add, sub-zero, zero-sub, suc-sub-suc}
use native.Mathlib.Omega.{arith}
use lib.ListN.{length, drop, set, replicate, length-append}
use Rattle.rules.specs.Text.{line_feed}
use Rattle.rules.specs.Says.{Says, refuses, answers}
use Rattle.rules.specs.Product.{kind_of, adds}
use Rattle.rules.specs.Desk.{line_room, spaced, kind_asked, desk_says, told, desk_line, Lined}
use Rattle.rules.specs.declared.answers.Line.{Line}
use Rattle.desk.specs.Written.{Written}
use Rattle.desk.specs.Line.{Holds, Formatted}
use Rattle.desk.proofs.Written.{written_one, written_joined}

-- a row of zeros without its first ones is a shorter row of zeros
zeros_behind : (n room : ℕ) → drop {A = ℕ} n (replicate room 0) ≡ replicate (room - n) 0
zeros_behind zero room = rw sub-zero
zeros_behind (suc n) zero = rw zero-sub
zeros_behind (suc n) (suc room) = rw suc-sub-suc (zeros_behind n room)

-- a line that a text is written into holds that text
holds_written : (text all : List ℕ) (r : ℕ) → Written (replicate line_room 0) 0 text all r → Holds text all r
holds_written text all r w = record {
  bytes = w.all ∙ rw (zero-add, zeros_behind (length text) line_room);
  len = w.end ∙ zero-add (length text);
}

-- a line that a letter, its numbers and a line end are written into
pub line_holds : (letter : ℕ) (numbers bytes : List ℕ) (end : ℕ) → end < length bytes
    → Written (letter ∷ replicate (line_room - 1) 0) 1 (spaced numbers) bytes end
    → Holds (letter ∷ spaced numbers ++ line_feed ∷ []) (set bytes end line_feed) (end + 1)
line_holds letter numbers bytes end h w =
    let zeros : List ℕ = replicate line_room 0 in
    let first : Written zeros 0 (letter ∷ []) (set zeros 0 letter) 1 = written_one zeros 0 letter (omega arith) in
    let both : Written zeros 0 (letter ∷ spaced numbers) bytes end =
    written_joined zeros (set zeros 0 letter) bytes (letter ∷ []) (spaced numbers) 0 1 end (omega arith) first w in
    holds_written _ _ _
    (written_joined zeros bytes _ (letter ∷ spaced numbers) (line_feed ∷ []) 0 end _ (omega arith) both (written_one bytes end line_feed h))

-- of two numbers, and of a refusal, nothing is left out
pub told_two : (adding : Bool) (k x y : ℕ) → told adding (answers k (x ∷ y ∷ [])) ≡ answers k (x ∷ y ∷ [])
unfolding told
told_two true k x y = refl
told_two false k x y = refl

pub told_refusal : (adding : Bool) (k : ℕ) → told adding (refuses k) ≡ refuses k
unfolding told
told_refusal true k = refl
told_refusal false k = refl

-- a line that holds what is printed of what the desk says of an input is the desk's line
pub formatted_lined : (input : List ℕ) (said : Says) (adding : Bool) (r : Line) → said ≡ desk_says input → adding ≡ adds (kind_of (kind_asked input))
    → Formatted (told adding said) r → Lined input r
unfolding desk_line
formatted_lined input said adding r e k f =
    let g : Formatted (told (adds (kind_of (kind_asked input))) (desk_says input)) r = rw (e, k) at f in
    record { bytes = g.bytes; len = g.len }

-- the desk's line has as many bytes as it says
pub lined_within : (input : List ℕ) (r : Line) → Lined input r → r.len ≤ length r.bytes
lined_within input r h = rw (h.len, h.bytes, length-append) (omega arith)
