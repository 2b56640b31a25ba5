-- What right counts and a sound table say, as facts of numbers.
use mathlib.Core.Path.{◌≡◌}
use mathlib.Core.Bool.{Bool, false, ◌&&◌}
use mathlib.Core.List.{List}
use Prim.Native.Nat.{ℕ, ◌+◌, ◌*◌, ◌<◌, ◌≤◌}
use native.Mathlib.Nat.{mul-le-mul_right}
use native.Mathlib.Numerals.{add-one}
use native.Mathlib.Omega.{arith}
use lib.ListN.{length}
use borrow.Author.Tests.{ltb-false, not-false}
use Rattle.rules.specs.Each.{each}
use Rattle.rules.specs.Netlist.{counts_wrong, record_words, needed, variable, output, record_at, table_short, table_unsound}
use Rattle.rules.specs.declared.counts.Counts.{Counts}
use Rattle.rules.specs.declared.records.RecordKind.{RecordKind}
use Rattle.rules.specs.declared.records.RecordKind.TheVariants.{Gates, Cells}
use Rattle.rules.proofs.Sound.{RightCounts, SoundRecord, SoundTable, right_counts, sound_table}
use Rattle.netlist.specs.Taken.{Fitting, Sound}

-- a test of every index below a bound, with that of the bound
pub each_more : (n : ℕ) (test : ℕ → Bool) (s t : Bool) → s ≡ each n test → t ≡ test n → (s && t) ≡ each (n + 1) test
unfolding each
each_more n test s t e f = rw (add-one n, e, f)

-- checks 2 and 3 have refused nothing
pub passed : {c : Counts} {table : List ℕ} → counts_wrong c ≡ false → table_short c (length table) ≡ false → Fitting c table
unfolding counts_wrong
passed h l = record { counts = not-false _ h; long = l }

-- counts within their limits, and a table long enough for them, in numbers
pub record Facts (c : Counts) (table : List ℕ) : Type 0 where
  pub counts : RightCounts c
  pub long : c.o + record_words c.records * c.a ≤ length table

-- what checks 2 and 3 leave, in numbers
pub facts : {c : Counts} {table : List ℕ} → Fitting c table → Facts c table
unfolding table_short needed
facts {c} f = record { counts = right_counts c f.counts; long = ltb-false _ _ f.long }

-- the words of all records are at most four for each gate
pub most_words : (c : Counts) → record_words c.records * c.a ≤ 4 * c.a
unfolding record_words
most_words c = mul-le-mul_right c.a (go c.records)
  where
    go : (kind : RecordKind) → record_words kind ≤ 4
    go Gates = omega arith
    go Cells = omega arith

module _ {c : Counts} {table : List ℕ} (s : Sound c table) where
  -- what check 8 leaves
  sound : SoundTable c table
  unfolding table_unsound
  sound = sound_table c table (not-false _ s.literals)

  -- an output's variable is one that there is
  pub output_within : (i : ℕ) → i < c.o → variable (output table i) ≤ c.m
  output_within = sound.output_variables

  -- a gate's record reads variables below its own
  pub record_within : (v : ℕ) → c.i < v → v ≤ c.m → SoundRecord v (record_at c table v)
  record_within v l h = sound.gates v l (omega (arith, facts s.fitting))
