-- What the evaluator says, by what the maker of sound blocks answers.
use mathlib.Core.Path.{◌≡◌, refl, ◌∙◌, sym}
use mathlib.Core.List.{List, [], ◌∷◌}
use Prim.Native.Nat.{ℕ}
use Rattle.std.specs.Prelude.{Ok, Err}
use Rattle.rules.specs.Says.{Says, refuses, answers, refusal_number, refuse_or}
use Rattle.rules.specs.Values.{shown, evaluating, Evaluated}
use Rattle.rules.specs.declared.counts.Counts.{Counts}
use Rattle.rules.specs.declared.refusals.Refusal.{Refusal}
use Rattle.rules.specs.declared.refusals.Refusal.TheVariants.{Header, CountOutside, ShortTable, InputLine, OutputLine, GateLine, BytesBehind, UnsoundTable, WrongKind, TermLimit, WrongOrder, ShortBuffer, DeskInput}
use Rattle.netlist.specs.declared.table.SoundBlock.{SoundBlock}
use Rattle.netlist.specs.Made.{Made}

-- no refusal has the number 0, so where there is one nothing else is said
pub refuses_number : (e : Refusal) (later : Says) → refuse_or (refusal_number e) later ≡ refuses (refusal_number e)
unfolding refuse_or
refuses_number Header later = refl
refuses_number CountOutside later = refl
refuses_number ShortTable later = refl
refuses_number InputLine later = refl
refuses_number OutputLine later = refl
refuses_number GateLine later = refl
refuses_number BytesBehind later = refl
refuses_number UnsoundTable later = refl
refuses_number WrongKind later = refl
refuses_number TermLimit later = refl
refuses_number WrongOrder later = refl
refuses_number ShortBuffer later = refl
refuses_number DeskInput later = refl

module _ {c : Counts} {table : List ℕ} (a b : ℕ) where
  -- the refusal of the maker is that of the evaluator
  pub refused_alike : (e : Refusal) → Made c table (Err e) → Evaluated c table a b (Err e)
  unfolding evaluating
  refused_alike e m =
      let word = answers 0 (shown c table a b ∷ []) in
      record { said = sym (refuses_number e word) ∙ rw m.number }

  -- a block that is made shows the word
  pub shown_alike : (block : SoundBlock) (w : ℕ) → Made c table (Ok block) → w ≡ shown block.block.counts block.block.table.now a b
      → Evaluated c table a b (Ok w)
  unfolding evaluating refuse_or
  shown_alike block w m e = record { said = rw (← m.number, e, m.counts, m.words) }
