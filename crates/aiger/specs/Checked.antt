-- What the first pass finds.
use Rattle.std.specs.Prelude.{◌≡◌, List, [], ◌++◌, ℕ, ◌≤◌, Result, Ok, Err}
use Rattle.std.specs.Borrow.{Bor}
use Rattle.rules.specs.Netlist.{needed}
use Rattle.rules.specs.Says.{refusal_number}
use Rattle.rules.specs.Reading.{found, output_line, gate_line, lines, netlist, refused, reading}
use Rattle.rules.specs.declared.counts.Counts.{Counts}
use Rattle.rules.specs.declared.records.RecordKind.TheVariants.{Gates}
use Rattle.rules.specs.declared.refusals.Refusal.{Refusal}

-- a text that is right, for a table of so many words, `later` the text from its output lines on: what those and its gate lines give
pub record RightText (text : List ℕ) (words : ℕ) (c : Counts) (later : List ℕ) : Type 0 where
  pub outputs : List ℕ
  pub gates : List ℕ
  pub rest : List ℕ
  pub records : c.records ≡ Gates
  pub room : needed c ≤ words
  pub outputs_found : lines c.o (output_line c) later ≡ found outputs rest
  pub gates_found : lines c.a (gate_line c) rest ≡ found gates []
  pub is_read : reading words text ≡ netlist c (outputs ++ gates)

-- right, or refused as the rules say
abbrev pub Checked : List ℕ → ℕ → Result (Counts × Bor (List ℕ)) Refusal → Type 0
Checked text words (Ok (c, later)) = RightText text words c later.now
Checked text words (Err refusal) = reading words text ≡ refused (refusal_number refusal)
