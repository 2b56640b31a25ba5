-- `checked` meets its contract: reading goes as far as its steps say. Assumes nothing.
use Rattle.std.proofs.Common.{arith}
use Rattle.aiger.proofs.Readings.{refused_by, readings, bytes_behind, right_text}
use Rattle.std.proofs.lemmas.Bool.Decides.{nat_tests}
use Rattle.rules.specs.Netlist.{table_short}
use Rattle.rules.specs.Reading.{reading, header_read, counts_read, inputs_read, outputs_read, gates_read}
use Rattle.rules.specs.Says.{first}
use Rattle.rules.specs.declared.refusals.Refusal.TheVariants.{Header, InputLine, OutputLine, GateLine}
use Rattle.aiger.proofs.checked.Goals as goal

pub returns-in_err-counts : goal.returns-in_err-counts
unfolding reading header_read
returns-in_err-counts c =
    let none = c.in_err-counts.ensures in
    refused_by _ _ _ _ Header _ c.from_residual.ensures none.value none.ok_part (grind (arith, readings))

pub returns-then-counts_wrong : goal.returns-then-counts_wrong
unfolding reading header_read counts_read first
returns-then-counts_wrong c = grind (arith, readings)

pub returns-then-table_short : goal.returns-then-table_short
unfolding reading header_read counts_read first
returns-then-table_short c = grind (arith, readings)

pub returns-in_err-outputs : goal.returns-in_err-outputs
unfolding reading header_read counts_read inputs_read first
returns-in_err-outputs c =
    let none = c.in_err-outputs.ensures in
    refused_by _ _ _ _ InputLine _ c.from_residual-in_err-outputs.ensures none.value none.ok_part (grind (arith, readings))

pub returns-in_err-gates : goal.returns-in_err-gates
unfolding reading header_read counts_read inputs_read outputs_read first
returns-in_err-gates c =
    let none = c.in_err-gates.ensures in
    refused_by _ _ _ _ OutputLine _ c.from_residual-in_err-gates.ensures none.value none.ok_part (grind (arith, readings))

pub returns-in_err-end : goal.returns-in_err-end
unfolding reading header_read counts_read inputs_read outputs_read gates_read first
returns-in_err-end c =
    let none = c.in_err-end.ensures in
    refused_by _ _ _ _ GateLine _ c.from_residual-in_err-end.ensures none.value none.ok_part (grind (arith, readings))

pub returns-then-not-is_empty : goal.returns-then-not-is_empty
unfolding reading header_read counts_read inputs_read first
returns-then-not-is_empty c =
    let outputs = rw c.in_ok-gates.ensures.ok_part at c.pass-2.ensures in
    let gates = rw c.in_ok-end.ensures.ok_part at c.pass-3.ensures in
    bytes_behind _ _ _ _ _ _ (grind (arith, readings)) outputs gates (grind (arith, nat_tests))

pub returns : goal.returns
unfolding reading header_read counts_read inputs_read first table_short
returns c =
    let outputs = rw c.in_ok-gates.ensures.ok_part at c.pass-2.ensures in
    let gates = rw c.in_ok-end.ensures.ok_part at c.pass-3.ensures in
    right_text _ _ _ _ _ _ (grind (arith, readings)) outputs gates (grind arith) (grind (arith, nat_tests)) (grind (arith, nat_tests))
