-- What the header and the lines of a text give, as the scan of the rules.
use Rattle.std.specs.Prelude.{List, [], ◌∷◌, ℕ, Option, Some, None}
use Rattle.std.specs.Borrow.{Bor}
use Rattle.rules.specs.Reading.{Scan, found, missing}
use Rattle.rules.specs.declared.counts.Counts.{Counts}
use Rattle.rules.specs.declared.records.RecordKind.{RecordKind}
use Rattle.rules.specs.declared.records.RecordKind.TheVariants.{Gates}

-- the five numbers of a header
abbrev pub heading_scan : Option (Counts × Bor (List ℕ)) → Scan
heading_scan (Some (c, rest)) = found (c.m ∷ c.i ∷ c.l ∷ c.o ∷ c.a ∷ []) rest.now
heading_scan None = missing

-- the kind of record that a header goes with; none is named where it is missing
abbrev pub heading_records : Option (Counts × Bor (List ℕ)) → RecordKind
heading_records (Some (c, rest)) = c.records
heading_records None = Gates

-- the text behind what was found, without the numbers
unfoldable pub bare : Scan → Scan
bare (found numbers text) = found [] text
bare missing = missing
