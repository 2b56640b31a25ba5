-- What the maker of sound blocks answers.
use Rattle.std.specs.Prelude.{◌≡◌, List, ℕ, Result, IfOk}
use Rattle.rules.specs.Says.{first, refused}
use Rattle.rules.specs.Values.{evaluate_checks}
use Rattle.rules.specs.declared.counts.Counts.{Counts}
use Rattle.rules.specs.declared.refusals.Refusal.{Refusal}
use Rattle.netlist.specs.declared.table.SoundBlock.{SoundBlock}

-- the first refusal in the order of checks, or the block of these counts and this table
pub record Made (c : Counts) (table : List ℕ) (r : Result SoundBlock Refusal) : Type 0 where
  pub number : refused r ≡ first (evaluate_checks c table)
  pub counts : IfOk r (λ b. b.block.counts ≡ c)
  pub words : IfOk r (λ b. b.block.table.now ≡ table)
