-- The kind line of the desk's input: it is that of the kind asked, and no other kind's.
use mathlib.Core.Path.{◌≡◌, refl, ap, sym}
use mathlib.Core.Bool.{Bool, true, false, cond, true≢false}
use mathlib.Core.List.{List, [], ◌∷◌, ◌++◌}
use Prim.Native.Nat.{ℕ, zero, suc, ◌<◌, ◌≤◌}
use native.Mathlib.Omega.{arith}
use lib.Dec.{eqb}
use lib.ListN.{length, drop}
use borrow.Author.Tests.{eqb-true}
use Rattle.rules.specs.Desk.{kind_line, begins, asked_below, kind_asked}
use Rattle.rules.proofs.Indices.{both}
use Rattle.demands.specs.Refusals.{Asked}

-- a list that begins with a part has the rest behind it
begins_part : (part list : List ℕ) → begins part list ≡ true → list ≡ part ++ drop (length part) list
unfolding begins
begins_part [] list h = refl
begins_part (x ∷ part) [] h = absurd (true≢false (sym h))
begins_part (x ∷ part) (y ∷ list) h =
    let parts = both (eqb y x) (begins part list) h in
    rw (eqb-true y x parts.0) (ap (λ (rest : List ℕ). x ∷ rest) (begins_part part list parts.1))

-- the kind whose line was found is one that the input begins with
asked_begins : (k : ℕ) (input : List ℕ) → k ≤ 5 → asked_below k input < 5 → begins (kind_line (asked_below k input)) input ≡ true
unfolding asked_below
asked_begins zero input l h = absurd (omega arith)
asked_begins (suc k) input l h = go (asked_begins k input (omega arith)) (begins (kind_line k) input) refl h
  where
    go : (asked_below k input < 5 → begins (kind_line (asked_below k input)) input ≡ true)
        → (t : Bool) → begins (kind_line k) input ≡ t → cond t k (asked_below k input) < 5
        → begins (kind_line (cond t k (asked_below k input))) input ≡ true
    go later true e h = e
    go later false e h = later h

-- the text behind the line of the kind asked
abbrev pub text_behind : List ℕ → List ℕ
text_behind input = drop (length (kind_line (kind_asked input))) input

-- where a kind is asked, the input is its line and that text
pub asked : (input : List ℕ) → kind_asked input < 5 → Asked input (kind_asked input) (text_behind input)
unfolding kind_asked
asked input h = (h, begins_part (kind_line (asked_below 5 input)) input (asked_begins 5 input (omega arith) h))

-- a kind's line asks for it
line_asks : (kind : ℕ) (text : List ℕ) → kind < 5 → kind_asked (kind_line kind ++ text) ≡ kind
unfolding kind_asked asked_below kind_line begins
line_asks zero text h = refl
line_asks (suc zero) text h = refl
line_asks (suc (suc zero)) text h = refl
line_asks (suc (suc (suc zero))) text h = refl
line_asks (suc (suc (suc (suc zero)))) text h = refl
line_asks (suc (suc (suc (suc (suc k))))) text h = absurd (omega arith)

-- so what is asked is the kind asked
pub asks : (input : List ℕ) (kind : ℕ) (text : List ℕ) → Asked input kind text → kind_asked input ≡ kind
asks input kind text a = rw a.1 (line_asks kind text a.0)

-- what is asked is a kind, or 5
below_most : (k : ℕ) (input : List ℕ) → k ≤ 5 → asked_below k input ≤ 5
unfolding asked_below
below_most zero input l = omega arith
below_most (suc k) input l = go (below_most k input (omega arith)) (begins (kind_line k) input)
  where
    go : asked_below k input ≤ 5 → (t : Bool) → cond t k (asked_below k input) ≤ 5
    go later true = omega arith
    go later false = later

pub asked_most : (input : List ℕ) → kind_asked input ≤ 5
unfolding kind_asked
asked_most input = below_most 5 input (omega arith)
