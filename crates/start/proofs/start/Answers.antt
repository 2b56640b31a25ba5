-- `start` weighs the outputs and c, emits everything in its order, and clears the store where it was too much. Assumes nothing.
use mathlib.Core.Path.{refl}
use native.Mathlib.Omega.{arith}
use Rattle.std.proofs.Common.{rules}
use Rattle.rules.specs.Judging.{set_width, term_width}
use Rattle.rules.specs.Netlist.{needed, variable, output}
use Rattle.rules.proofs.Sound.{sound_table}
use Rattle.start.proofs.Ends.{bounds, started_within, started_over}
use Rattle.start.proofs.start.Goals as goal

pub weigh-requires : goal.weigh-requires
unfolding needed variable output
weigh-requires c =
    let a = c.args in
    let b = bounds c.requires c.operand_bits-bits.ensures in
    (omega (arith, c.requires.long), λ i l. omega (arith, (sound_table a.c a.table.now c.requires.sound).output_variables i l))

pub invariant_of-writer : goal.invariant_of-writer
unfolding term_width set_width
invariant_of-writer c =
    record { room = omega (arith, c.requires.room); few = omega arith }

pub invariant_of-weights : goal.invariant_of-weights
invariant_of-weights c =
    record { outputs = (bounds c.requires c.operand_bits-bits.ensures).outputs }

pub addend_bits-requires : goal.addend_bits-requires
addend_bits-requires c = (bounds c.requires c.operand_bits-bits.ensures).bits

pub returns-in-None : goal.returns-in-None
unfolding set_width
returns-in-None c =
    let most = (bounds c.requires c.operand_bits-bits.ensures).most in
    started_over c.requires c.operand_bits-bits.ensures c.addend_bits.ensures c.weigh.ensures c.weigh_addend.ensures refl refl (omega arith)
    (search rules) (search rules) c.in-None.ensures.leads c.clear.new.words c.clear.ensures

pub returns-in-Some : goal.returns-in-Some
unfolding set_width
returns-in-Some c =
    let written = c.emit_all in
    let most = (bounds c.requires c.operand_bits-bits.ensures).most in
    started_within c.requires c.operand_bits-bits.ensures c.addend_bits.ensures c.weigh.ensures c.weigh_addend.ensures refl refl (omega arith)
    (search rules) (search rules) written.new.self.count (rw written.ensures.same.limit at written.new.self.few) c.in-Some.ensures.leads
