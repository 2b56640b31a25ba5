-- What a text begins with, as the scan of the rules.
use Rattle.std.specs.Prelude.{cond, List, [], ◌∷◌, ℕ, leb, length, drop, Option, Some, None}
use Rattle.std.specs.Borrow.{Bor}
use Rattle.rules.specs.Reading.{Scan, found, missing, leading_digits, value_from, well_written}

-- the text behind what was passed
abbrev pub rest_scan : Option (Bor (List ℕ)) → Scan
rest_scan (Some rest) = found [] rest.now
rest_scan None = missing

-- one number and the text behind it
abbrev pub value_scan : Option (ℕ × Bor (List ℕ)) → Scan
value_scan (Some (value, rest)) = found (value ∷ []) rest.now
value_scan None = missing

-- some numbers and the text behind them
abbrev pub numbers_scan : Option (List ℕ × Bor (List ℕ)) → Scan
numbers_scan (Some (numbers, rest)) = found numbers rest.now
numbers_scan None = missing

-- the number that the leading digits write, and how many they are, where they are at most four
unfoldable pub digits_of : List ℕ → Option (ℕ × ℕ)
digits_of text =
    let digits = leading_digits text in
    cond (leb (length digits) 4) (Some (value_from 0 digits, length digits)) None

-- the number that a text begins with, where it is well written, and the text behind it
unfoldable pub number_of : List ℕ → Scan
number_of text =
    let digits = leading_digits text in
    cond (well_written digits) (found (value_from 0 digits ∷ []) (drop (length digits) text)) missing
