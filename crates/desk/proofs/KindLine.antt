-- The kind line as the code reads it, and what the desk says by it.
use mathlib.Core.Path.{◌≡◌, refl, ap, sym, ◌∙◌}
use mathlib.Core.Bool.{Bool, true, false, cond}
use mathlib.Core.List.{List, [], ◌∷◌}
use Prim.Native.Nat.{ℕ, zero, suc, ◌+◌, ◌<◌, ◌≤◌}
use native.Mathlib.Omega.{arith}
use lib.Dec.{eqb}
use Rattle.std.specs.Prelude.{nat_eq, ltb, Option, Some, None, MatchOption, Ok, Err, ok_or}
use Rattle.rules.specs.declared.refusals.Refusal.{Refusal}
use Rattle.rules.specs.Product.{kind_of, adds}
use lib.Pointwise.{pointwise}
use lib.ListN.{length, take, length-append}
use borrow.Author.Tests.{lt-ltb, le-ltb, eq-eqb, ne_eqb, eqb-true, false-eqb, ltb-true, ltb-false}
use Rattle.rules.specs.Limits.{most_desk_bytes}
use Rattle.rules.specs.Says.{refuses}
use Rattle.rules.specs.Reading.{reading}
use Rattle.rules.specs.Desk.{desk_table, desk_read, kind_line, begins, kind_asked, desk_kind, desk_lines, desk_long, desk_says}
use Rattle.demands.proofs.KindLines.{text_behind, asked, asked_most}
use Rattle.desk.specs.Kind.{kind_or_none}

-- two numbers are compared either way round
eqb_swap : (x y : ℕ) → eqb x y ≡ eqb y x
eqb_swap x y = go (eqb x y) refl
  where
    go : (t : Bool) → eqb x y ≡ t → t ≡ eqb y x
    go true e = sym (eq-eqb y x (sym (eqb-true x y e)))
    go false e = sym (ne_eqb y x (λ d. false-eqb x y (sym e) (sym d)))

-- a slice starts with what its list begins with
pub starts_begins : (list part : List ℕ) → pointwise nat_eq part (take (length part) list) ≡ begins part list
unfolding begins
starts_begins list [] = refl
starts_begins [] (x ∷ part) = refl
starts_begins (y ∷ list) (x ∷ part) = rw (starts_begins list part, eqb_swap x y)

-- so a test of the first bytes is one of the rule
pub begun : (list part : List ℕ) {r t : Bool} → r ≡ pointwise nat_eq part (take (length part) list) → r ≡ t → begins part list ≡ t
begun list part e h = sym (starts_begins list part) ∙ sym e ∙ h

-- the bytes of a kind's line
pub short_line : (kind : ℕ) → kind < 4 → 2 ≡ length (kind_line kind)
unfolding kind_line
short_line zero h = refl
short_line (suc zero) h = refl
short_line (suc (suc zero)) h = refl
short_line (suc (suc (suc zero))) h = refl
short_line (suc (suc (suc (suc k)))) h = absurd (omega arith)

pub long_line : (kind : ℕ) → 4 ≤ kind → 3 ≡ length (kind_line kind)
unfolding kind_line
long_line zero h = absurd (omega arith)
long_line (suc zero) h = absurd (omega arith)
long_line (suc (suc zero)) h = absurd (omega arith)
long_line (suc (suc (suc zero))) h = absurd (omega arith)
long_line (suc (suc (suc (suc k)))) h = refl

-- more than 4,096 bytes
pub says_long : (input : List ℕ) → most_desk_bytes < length input → refuses 13 ≡ desk_says input
unfolding desk_says desk_long
says_long input h = rw (lt-ltb most_desk_bytes (length input) h)

-- at most as many are taken line by line
short_lines : (input : List ℕ) → length input ≤ most_desk_bytes → desk_says input ≡ desk_lines input
unfolding desk_says desk_long
short_lines input h = rw (le-ltb most_desk_bytes (length input) h)

-- where no kind is found, none is asked for
pub asked_none : (k : ℕ) → k ≤ 5 → None ≡ kind_or_none k → k ≡ 5
unfolding kind_or_none
asked_none k h e = go (ltb k 5) refl e
  where
    go : (t : Bool) → ltb k 5 ≡ t → None ≡ cond t (Some k) None → k ≡ 5
    go true l e = absurd (cc)
    go false l e = omega (arith, ltb-false k 5 l)

-- a kind that is found is the one asked for
pub asked_some : (k kind : ℕ) → Some kind ≡ kind_or_none k → (kind ≡ k) × (k ≡ 5 → ⊥)
unfolding kind_or_none
asked_some k kind e = go (ltb k 5) refl e
  where
    go : (t : Bool) → ltb k 5 ≡ t → Some kind ≡ cond t (Some k) None → (kind ≡ k) × (k ≡ 5 → ⊥)
    go true l e = (cc, λ same. omega (arith, ltb-true k 5 l))
    go false l e = absurd (cc)

-- a kind taken out of an option is the one that is there, and where none is taken, none is there
pub kind_there : (o : Option ℕ) (refusal : Refusal) (k : ℕ) → ok_or o refusal ≡ Ok k → o ≡ Some k
kind_there (Some k) refusal j e = cc
kind_there None refusal j e = absurd (cc)

pub kind_missing : (o : Option ℕ) (refusal r : Refusal) → ok_or o refusal ≡ Err r → (o ≡ None) × (refusal ≡ r)
kind_missing (Some k) refusal r e = absurd (cc)
kind_missing None refusal r e = (refl, cc)

-- c is added where the kind that is found says so, and not where none is found
pub adding_known : (input : List ℕ) (kind : Option ℕ) (r : Bool) → kind ≡ kind_or_none (kind_asked input)
    → MatchOption kind (r ≡ false) (λ k. r ≡ adds (kind_of k)) → r ≡ adds (kind_of (kind_asked input))
unfolding adds kind_of
adding_known input (Some k) r e h = rw (asked_some (kind_asked input) k e).0 at h
adding_known input None r e h = rw (asked_none (kind_asked input) (asked_most input) e) h

-- a kind that is asked for has a line
pub asked_line : (input : List ℕ) → (kind_asked input ≡ 5 → ⊥) → length (kind_line (kind_asked input)) ≤ length input
asked_line input n =
    let line = kind_line (kind_asked input) in
    let parts : length input ≡ length line + length (text_behind input) =
    ap length (asked input (omega (arith, asked_most input, n))).1 ∙ length-append line (text_behind input) in
    omega arith

-- a short input that asks for no kind
pub says_kindless : (input : List ℕ) → length input ≤ most_desk_bytes → kind_asked input ≡ 5 → refuses 9 ≡ desk_says input
unfolding desk_lines desk_kind
says_kindless input h e = sym (short_lines input h ∙ rw e)

-- a short input that asks for one
pub says_asked : (input : List ℕ) → length input ≤ most_desk_bytes → (kind_asked input ≡ 5 → ⊥)
    → desk_read (kind_asked input) (reading desk_table (text_behind input)) ≡ desk_says input
unfolding desk_lines desk_kind
says_asked input h n = sym (short_lines input h ∙ rw (lt-ltb (kind_asked input) 5 (omega (arith, asked_most input, n))))
