-- The desk program's line, from its input.
use Rattle.std.specs.Prelude.{◌≡◌, Bool, true, false, cond, ◌&&◌, List, [], ◌∷◌, ◌++◌, ℕ, ◌+◌, zero, suc, ◌-◌, ◌*◌, ltb, eqb, length, take, drop, replicate}
use Rattle.rules.specs.Each.{listed}
use Rattle.rules.specs.Limits.{most_desk_bytes, most_desk_variables, desk_terms}
use Rattle.rules.specs.Product.{kind_of, adds}
use Rattle.rules.specs.Judging.{term_width, judge_checks, verdict}
use Rattle.rules.specs.Reading.{Netlist, netlist, refused, reading}
use Rattle.rules.specs.Says.{Says, refuses, answers, first, refuse_or}
use Rattle.rules.specs.Text.{line_feed, space, decimal}
use Rattle.rules.specs.declared.answers.Line.{Line}
use Rattle.rules.specs.declared.counts.Counts.{Counts}

-- the bytes that a line has room for: a letter, seven numbers of 64 bits each behind a space, and a line end
abbrev pub line_room : ℕ
line_room = 151

-- the words of the desk's table: enough for every O and A within the limits
abbrev pub desk_table : ℕ
desk_table = 2106

-- the order M down to I + 1
unfoldable pub falling : Counts → List ℕ
falling c = listed c.a (λ k. c.m - k)

-- the checks of judging with the desk's term limit and order, and buffers that are long enough
unfoldable pub desk_checks : ℕ → Counts → List ℕ → List (ℕ × Bool)
desk_checks kind c words =
    judge_checks
    c
    words
    kind
    desk_terms
    (falling c)
    (desk_terms * term_width c)
    (4 * desk_terms * term_width c)
    (length (falling c))
    (c.m + 1)

-- judging with them
unfoldable pub desk_judging : ℕ → Counts → List ℕ → Says
desk_judging kind c words =
    let v = verdict (kind_of kind) c words desk_terms (falling c) in
    refuse_or (first (desk_checks kind c words)) v

-- refusal 13 for M above 127, and else judging
unfoldable pub desk_sized : ℕ → Counts → List ℕ → Bool → Says
desk_sized kind c words true = refuses 13
desk_sized kind c words false = desk_judging kind c words

-- the text's own refusals, then its size
unfoldable pub desk_read : ℕ → Netlist → Says
desk_read kind (netlist c words) = desk_sized kind c words (ltb most_desk_variables c.m)
desk_read kind (refused k) = refuses k

-- the kind line of a kind's number: `u`, `s`, `t`, `m` or `ms`, and a line feed
unfoldable pub kind_line : ℕ → List ℕ
kind_line zero = 117 ∷ line_feed ∷ []
kind_line (suc zero) = 115 ∷ line_feed ∷ []
kind_line (suc (suc zero)) = 116 ∷ line_feed ∷ []
kind_line (suc (suc (suc zero))) = 109 ∷ line_feed ∷ []
kind_line (suc (suc (suc (suc k)))) = 109 ∷ 115 ∷ line_feed ∷ []

-- a list begins with a part
unfoldable pub begins : List ℕ → List ℕ → Bool
begins [] list = true
begins (x ∷ part) [] = false
begins (x ∷ part) (y ∷ list) = eqb y x && begins part list

-- of the kinds below the bound, the one whose line the input begins with; 5 is no kind
unfoldable pub asked_below : ℕ → List ℕ → ℕ
asked_below zero input = 5
asked_below (suc k) input = cond (begins (kind_line k) input) k (asked_below k input)

-- the number of the kind whose line the input begins with; 5 where it begins with none
unfoldable pub kind_asked : List ℕ → ℕ
kind_asked input = asked_below 5 input

-- behind a kind line: the netlist text; else 9
unfoldable pub desk_kind : ℕ → List ℕ → Bool → Says
desk_kind kind text true = desk_read kind (reading desk_table text)
desk_kind kind text false = refuses 9

-- the kind line, and the text behind it
unfoldable pub desk_lines : List ℕ → Says
desk_lines input =
    let kind = kind_asked input in
    desk_kind kind (drop (length (kind_line kind)) input) (ltb kind 5)

-- refusal 13 for more than 4,096 bytes, and else the lines
unfoldable pub desk_long : List ℕ → Bool → Says
desk_long input true = refuses 13
desk_long input false = desk_lines input

-- what the desk program says of its input
unfoldable pub desk_says : List ℕ → Says
desk_says input = desk_long input (ltb most_desk_bytes (length input))

-- E, D, R, U: the letters of the answers 0 to 3
unfoldable pub letter : ℕ → ℕ
letter zero = 69
letter (suc zero) = 68
letter (suc (suc zero)) = 82
letter (suc (suc (suc k))) = 85

-- a space and a number, for each number
unfoldable pub spaced : List ℕ → List ℕ
spaced [] = []
spaced (x ∷ later) = space ∷ decimal x ++ spaced later

-- a letter, its numbers in decimal, and a line end; X is the letter of a refusal
unfoldable pub printed : Says → List ℕ
printed (refuses k) = 88 ∷ spaced (k ∷ []) ++ line_feed ∷ []
printed (answers k numbers) = letter k ∷ spaced numbers ++ line_feed ∷ []

-- what is printed of an answer: c, the fifth number of D, only where the kind adds it
unfoldable pub told : Bool → Says → Says
told adding (refuses k) = refuses k
told true (answers k numbers) = answers k numbers
told false (answers k numbers) = answers k (take 4 numbers ++ drop 5 numbers)

-- the line that the desk program prints
unfoldable pub desk_line : List ℕ → List ℕ
desk_line input = printed (told (adds (kind_of (kind_asked input))) (desk_says input))

-- the permitted outcome of the desk's line: its bytes with zeros behind them, and how many they are
pub record Lined (input : List ℕ) (r : Line) : Type 0 where
  pub bytes : r.bytes ≡ desk_line input ++ replicate (line_room - length (desk_line input)) 0
  pub len : r.len ≡ length (desk_line input)
