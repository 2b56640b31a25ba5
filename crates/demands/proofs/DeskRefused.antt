-- The desk prints `X k` exactly for what is unfit, with the number of the first check that it fails.
use mathlib.Core.Path.{◌≡◌, refl, ap, sym, ◌∙◌}
use mathlib.Core.Bool.{Bool, true, false}
use mathlib.Core.List.{List, []}
use Prim.Native.Nat.{ℕ, zero, suc, ◌-◌, ◌≤◌}
use native.Mathlib.Omega.{arith}
use lib.Dec.{ltb}
use lib.ListN.{length, get_or, replicate}
use lib.Seq.{take_at, drop_at}
use borrow.Author.Tests.{lt-ltb, le-ltb, ltb-true, ltb-false}
use Rattle.rules.specs.Says.{Says, refuses, answers}
use Rattle.rules.specs.Limits.{most_desk_bytes, most_desk_variables, desk_terms}
use Rattle.rules.specs.Product.{kind_of, adds}
use Rattle.rules.specs.Judging.{Inputs, judge_checks, verdict}
use Rattle.rules.specs.Reading.{Netlist, netlist, refused, reading}
use Rattle.rules.specs.Desk.{line_room, desk_table, falling, desk_checks, desk_judging, desk_sized, desk_read, kind_line, kind_asked, desk_kind, desk_lines, desk_long, desk_says, letter, printed, told, desk_line}
use Rattle.rules.specs.declared.counts.Counts.{Counts}
use Rattle.demands.specs.Netlists.{Written}
use Rattle.demands.specs.Refusals.{First, Asked, DeskUnfit, long, kindless, unread, large, unjudged, line_of, DeskRefusedExact}
use Rattle.demands.proofs.Readings.{Outcome, said, written_read, unread_refused}
use Rattle.demands.proofs.KindLines.{text_behind, asked, asks}
use Rattle.demands.proofs.Passed.{apart}
use Rattle.demands.proofs.Refused.{refused_exact}
use Rattle.demands.proofs.Verdicts.{verdict_answers}

-- what the desk hands to the judge, but for what its buffers hold
handed : ℕ → Counts → List ℕ → Inputs
handed kind c table =
    record {
      counts = c;
      table = table;
      kind = kind;
      limit = desk_terms;
      order = falling c;
      store = [];
      scratch = [];
      log = [];
      occurrences = [];
    }

-- the desk's judging refuses with the first condition that holds
judging_exact : (kind : ℕ) (c : Counts) (table : List ℕ) (k : ℕ)
    → (desk_judging kind c table ≡ refuses k → First (desk_checks kind c table) k) × (First (desk_checks kind c table) k → desk_judging kind c table ≡ refuses k)
unfolding desk_judging desk_checks judge_checks handed
judging_exact kind c table k =
    refused_exact (desk_checks kind c table) (verdict (kind_of kind) c table desk_terms (falling c)) (omega arith)
    (λ i h. verdict_answers (handed kind c table) i (sym h)) k

module _ (input : List ℕ) (short : length input ≤ most_desk_bytes) where
  -- where a netlist is read, it is too large or judged
  sized : (kind : ℕ) (text : List ℕ) → Asked input kind text → (c : Counts) (table : List ℕ) → Written text desk_table c table
      → (k : ℕ) → desk_sized kind c table (ltb most_desk_variables c.m) ≡ refuses k → DeskUnfit input k
  unfolding desk_sized
  sized kind text a c table w k h = go (ltb most_desk_variables c.m) refl h
    where
      go : (t : Bool) → ltb most_desk_variables c.m ≡ t → desk_sized kind c table t ≡ refuses k → DeskUnfit input k
      go true e h =
          let same : 13 ≡ k = cc in
          rw same at (large short kind text a c table w (ltb-true most_desk_variables c.m e))
      go false e h =
          unjudged short kind text a c table w (ltb-false most_desk_variables c.m e) k ((judging_exact kind c table k).0 h)

  -- where a kind is named, the text is unread, or it is sized
  read : (kind : ℕ) (text : List ℕ) → Asked input kind text → (n : Netlist) → Outcome desk_table text n
      → (k : ℕ) → desk_read kind n ≡ refuses k → DeskUnfit input k
  unfolding desk_read
  read kind text a (netlist c table) w k h = sized kind text a c table w k h
  read kind text a (refused j) u k h = let same : j ≡ k = cc in unread short kind text a k (rw same at u)

-- where no kind is named, that is what is wrong
no_kind : (input : List ℕ) → length input ≤ most_desk_bytes → ((kind : ℕ) (text : List ℕ) → Asked input kind text → ⊥)
    → (k : ℕ) → refuses 9 ≡ refuses k → DeskUnfit input k
no_kind input short none k h = let same : 9 ≡ k = cc in rw same at (kindless short none)

-- a short input: what is refused is unfit
lines_unfit : (input : List ℕ) → length input ≤ most_desk_bytes → (k : ℕ) → desk_lines input ≡ refuses k → DeskUnfit input k
unfolding desk_lines desk_kind
lines_unfit input short k h = go (ltb (kind_asked input) 5) refl h
  where
    go : (t : Bool) → ltb (kind_asked input) 5 ≡ t → desk_kind (kind_asked input) (text_behind input) t ≡ refuses k → DeskUnfit input k
    go true e h =
        read input short (kind_asked input) (text_behind input) (asked input (ltb-true (kind_asked input) 5 e))
        (reading desk_table (text_behind input)) (said desk_table (text_behind input)) k h
    go false e h =
        no_kind input short
        (λ kind text a. omega (arith, ltb-false (kind_asked input) 5 e, asks input kind text a, a.0)) k h

-- what the desk refuses is unfit
desk_unfit : (input : List ℕ) (k : ℕ) → desk_says input ≡ refuses k → DeskUnfit input k
unfolding desk_says desk_long
desk_unfit input k h = go (ltb most_desk_bytes (length input)) refl h
  where
    go : (t : Bool) → ltb most_desk_bytes (length input) ≡ t → desk_long input t ≡ refuses k → DeskUnfit input k
    go true e h =
        let same : 13 ≡ k = cc in
        let wrong : DeskUnfit input 13 = long (ltb-true most_desk_bytes (length input) e) in
        rw same at wrong
    go false e h = lines_unfit input (ltb-false most_desk_bytes (length input) e) k h

-- a short input is taken line by line
short_says : (input : List ℕ) → length input ≤ most_desk_bytes → desk_says input ≡ desk_lines input
unfolding desk_says desk_long
short_says input short = rw (le-ltb most_desk_bytes (length input) short)

-- behind its kind line stands the text
lines_asked : (input : List ℕ) (kind : ℕ) (text : List ℕ) → Asked input kind text → desk_lines input ≡ desk_read kind (reading desk_table text)
unfolding desk_lines desk_kind
lines_asked input kind text a =
    rw (asks input kind text a, lt-ltb kind 5 a.0, a.1, drop_at (kind_line kind) text (length (kind_line kind)) refl)

-- where no kind is asked, 9
lines_kindless : (input : List ℕ) → ((kind : ℕ) (text : List ℕ) → Asked input kind text → ⊥) → desk_lines input ≡ refuses 9
unfolding desk_lines desk_kind
lines_kindless input none = go (ltb (kind_asked input) 5) refl
  where
    go : (t : Bool) → ltb (kind_asked input) 5 ≡ t → desk_kind (kind_asked input) (text_behind input) t ≡ refuses 9
    go true e = absurd (none (kind_asked input) (text_behind input) (asked input (ltb-true (kind_asked input) 5 e)))
    go false e = refl

-- what is unfit is refused
unfit_refused : (input : List ℕ) (k : ℕ) → DeskUnfit input k → desk_says input ≡ refuses k
unfolding desk_says desk_long desk_read desk_sized
unfit_refused input k (long h) = rw (lt-ltb most_desk_bytes (length input) h)
unfit_refused input k (kindless short none) = short_says input short ∙ lines_kindless input none
unfit_refused input k (unread short kind text a j u) =
    short_says input short ∙ lines_asked input kind text a ∙ rw (unread_refused desk_table text u)
unfit_refused input k (large short kind text a c table w h) =
    short_says input short ∙ lines_asked input kind text a
    ∙ rw (written_read desk_table text c table w, lt-ltb most_desk_variables c.m h)
unfit_refused input k (unjudged short kind text a c table w h j f) =
    short_says input short ∙ lines_asked input kind text a
    ∙ rw (written_read desk_table text c table w, le-ltb most_desk_variables c.m h) ((judging_exact kind c table j).1 f)

-- no answer's letter is X
letter_apart : (k : ℕ) → letter k ≡ 88 → ⊥
unfolding letter
letter_apart zero h = omega arith
letter_apart (suc zero) h = omega arith
letter_apart (suc (suc zero)) h = omega arith
letter_apart (suc (suc (suc k))) h = omega arith

-- a line that begins with X is a refusal's
refusal_printed : (s : Says) → get_or (printed s) 0 0 ≡ 88 → (k : ℕ) × (s ≡ refuses k)
unfolding printed
refusal_printed (refuses k) h = (k, refl)
refusal_printed (answers k numbers) h = absurd (letter_apart k h)

-- what is printed is a refusal just where it is said
told_refused : (adding : Bool) (s : Says) (k : ℕ) → (s ≡ refuses k → told adding s ≡ refuses k) × (told adding s ≡ refuses k → s ≡ refuses k)
unfolding told
told_refused true (refuses j) k = ((λ e. e), (λ e. e))
told_refused false (refuses j) k = ((λ e. e), (λ e. e))
told_refused true (answers j numbers) k = ((λ e. e), (λ e. e))
told_refused false (answers j numbers) k = ((λ e. apart j k numbers e), (λ e. apart j k _ e))

-- the desk prints `X k` for what is unfit, and for nothing else
pub desk_refused_exact : DeskRefusedExact
unfolding desk_line
desk_refused_exact input r lined =
    let adding = adds (kind_of (kind_asked input)) in
    let line : line_of r ≡ desk_line input =
    rw (lined.len, lined.bytes) (take_at (desk_line input) (replicate (line_room - length (desk_line input)) 0) (length (desk_line input)) refl)
    in (
      (λ k u. line ∙ ap printed ((told_refused adding (desk_says input) k).0 (unfit_refused input k u))),
      (λ x.
          let known = refusal_printed (told adding (desk_says input)) (rw line at x) in
          let refused = (told_refused adding (desk_says input) known.0).1 known.1 in
          (known.0, desk_unfit input known.0 refused, line ∙ ap printed known.1)),
    )
