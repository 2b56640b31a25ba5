use Rattle.std.proofs.Common.{◌≡◌, ◌+◌, ◌-◌, ◌^◌, ◌≤◌, sym, ◌∙◌, lt-ltb, le-ltb, arith}
use lib.Pow.{pow_mono}
use Rattle.rules.specs.Judging.{set_width}
use Rattle.words.specs.Numbers.{num, words_at}
use Rattle.ending.proofs.Ended.{gate_there, gate_absent}
use Rattle.ending.proofs.inputs_only.Goals as goal

pub loop-v-init : goal.loop-v-init
loop-v-init c = (omega arith, c.requires.3)

pub holds-requires : goal.holds-requires
unfolding set_width
holds-requires c = (c.requires.2, omega arith)

pub returns-then-holds-eq1 : goal.returns-then-holds-eq1
unfolding set_width
returns-then-holds-eq1 c =
    let a = c.args in
    let s = num (words_at a.store.now 1 (set_width a.c)) in
    let v = c.loop-v.v - 1 in
    let there : 2 ^ v ≤ s = gate_there s v (sym c.holds.ensures ∙ c.if-holds-eq1.true) in
    let less : 2 ^ (a.c.i + 1) ≤ 2 ^ v = pow_mono (omega arith) in
    sym (le-ltb s (2 ^ (a.c.i + 1)) (omega arith))

pub loop-v-preserved : goal.loop-v-preserved
unfolding set_width
loop-v-preserved c =
    let a = c.args in
    let s = num (words_at a.store.now 1 (set_width a.c)) in
    let v = c.loop-v.v - 1 in
    let e : v + 1 ≡ c.loop-v.v = omega arith in
    (omega arith, gate_absent s v (rw e c.loop-v.invariant.1) (λ h. c.if-holds-eq1.false (c.holds.ensures ∙ h)))

pub returns : goal.returns
returns c =
    let a = c.args in
    let last : c.loop-v.v ≡ a.c.i + 1 = omega arith in
    sym (lt-ltb (num (words_at a.store.now 1 (set_width a.c))) (2 ^ (a.c.i + 1)) (rw last at c.loop-v.invariant.1))
