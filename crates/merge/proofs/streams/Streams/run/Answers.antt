use Rattle.std.proofs.Common.{◌∙◌, arith}
use Rattle.merge.proofs.Merges.{go_start, go_end, turn_high, turned, turn_less}
use Rattle.merge.proofs.streams.Streams.run.Goals as goal

pub loop-limit-init : goal.loop-limit-init
loop-limit-init c = go_start c.args.self.now c.requires.2 _ _ _ c.requires.3

pub returns-then-i-self : goal.returns-then-i-self
returns-then-i-self c =
    let l = c.loop-limit in
    let b = c.best-b.ensures in
    (go_end c.args.self.now c.requires.2 _ _ _ _ _ _ l.invariant b.1 b.0 c.if-i-self.true, l.invariant.behind)

pub sweep-c-requires : goal.sweep-c-requires
sweep-c-requires c =
    let l = c.loop-limit in
    let b = c.best-b.ensures in
    (l.auto.at ∙ c.requires.0, c.if-i-self.false, b.0, l.invariant.loaded, turn_high c.args.self.now c.requires.2 _ _ _ _ _ _ l.invariant b.1 b.0 c.if-i-self.false)

pub returns-in_err-out : goal.returns-in_err-out
returns-in_err-out c =
    let l = c.loop-limit in
    let b = c.best-b.ensures in
    rw c.from_residual.ensures (rw c.in_err-out.was at (turned c.args.self.now c.requires.2 _ _ _ _ _ _ l.invariant b.1 b.0 c.if-i-self.false _ _ _ _ (omega arith) c.sweep-c.ensures c.emit.ensures))

pub loop-limit-smaller : goal.loop-limit-smaller
loop-limit-smaller c =
    let l = c.loop-limit in
    let b = c.best-b.ensures in
    turn_less c.args.self.now c.requires.2 _ _ _ _ _ _ l.invariant b.1 b.0 c.if-i-self.false _ _ _ _ (omega arith) c.sweep-c.ensures c.emit.ensures

pub loop-limit-preserved : goal.loop-limit-preserved
loop-limit-preserved c =
    let l = c.loop-limit in
    let b = c.best-b.ensures in
    rw c.in_ok-out.was at (turned c.args.self.now c.requires.2 _ _ _ _ _ _ l.invariant b.1 b.0 c.if-i-self.false _ _ _ _ (omega arith) c.sweep-c.ensures c.emit.ensures)
