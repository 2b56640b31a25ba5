use mathlib.Core.Path.{◌∙◌}
use Rattle.netlist.proofs.Filled.{shown_filled}
use Rattle.netlist.proofs.table.SoundBlock.shown.Goals as goal

pub returns : goal.returns
returns c = c.word.ensures ∙ shown_filled _ _ _ _ _ c.args.self.now.sound c.put_values.ensures
