-- What has been checked of counts and table before their parts are read.
use Rattle.std.specs.Prelude.{◌≡◌, true, false, List, ℕ, ◌≤◌, ◌<◌, length, get_or}
use Rattle.rules.specs.Netlist.{counts_right, table_short, table_unsound, EveryVariable, byte_of}
use Rattle.rules.specs.declared.counts.Counts.{Counts}
use Rattle.rules.specs.declared.records.Record.{Record}

-- counts within their limits, and a table long enough for them: what checks 2 and 3 leave
pub record Fitting (c : Counts) (table : List ℕ) : Type 0 where
  pub counts : counts_right c ≡ true
  pub long : table_short c (length table) ≡ false

-- and outputs and records that keep their rules: what check 8 leaves
pub record Sound (c : Counts) (table : List ℕ) : Type 0 where
  pub fitting : Fitting c table
  pub literals : table_unsound c table ≡ false

-- each of the first entries is 0 or 1
unfoldable pub Bits : ℕ → List ℕ → Type 0
Bits n values = (i : ℕ) → i < n → get_or values i 0 ≤ 1

-- the entry at w is there, and is 0 or 1
abbrev pub BitAt : List ℕ → ℕ → Type 0
BitAt values w = (w < length values) × (get_or values w 0 ≤ 1)

-- there is a bit for every variable that a record reads, and its truth byte is one
pub record Readable (values : List ℕ) (parts : Record) : Type 0 where
  pub bits : EveryVariable (BitAt values) parts
  pub byte : byte_of parts ≤ 255
