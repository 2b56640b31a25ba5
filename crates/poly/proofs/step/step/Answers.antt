-- v is in no term: nothing changes. Else its record is brought apart, and then the step is made.
use Rattle.poly.proofs.Settled.{numbers_same, stepped_same, each_none, each_some, used_asks, to_replace}
use Rattle.poly.proofs.step.step.Goals as goal

pub returns-then-end-eq0 : goal.returns-then-end-eq0
returns-then-end-eq0 c =
    let a = c.args in
    let o = c.last_holding-end in
    (stepped_same a.w a.l a.v a.r a.limit a.held a.store.now a.scratch.now c.requires.0 o.result o.ensures c.if-end-eq0.true, numbers_same a.w a.l a.v a.r a.limit a.held a.store.now a.scratch.now a.numbers.now c.requires.0 o.result o.ensures c.if-end-eq0.true, each_none a.v a.r _ o.result o.ensures c.if-end-eq0.true)

pub words_used-k-requires : goal.words_used-k-requires
words_used-k-requires c =
    let a = c.args in
    let o = c.last_holding-end in
    used_asks a.w a.l a.v a.r a.limit a.held o.result a.store.now a.scratch.now c.requires.0 o.ensures c.if-end-eq0.false

pub replace-requires : goal.replace-requires
replace-requires c =
    let a = c.args in
    let o = c.last_holding-end in
    let q = c.apart-parts in
    let u = c.words_used-k in
    (to_replace a.w a.l a.v a.r a.limit a.held o.result a.store.now a.scratch.now c.requires.0 o.ensures c.if-end-eq0.false q.result.variables q.new.row q.ensures.0 q.auto.row u.result u.ensures, c.requires.1)

pub returns : goal.returns
returns c =
    let a = c.args in
    let o = c.last_holding-end in
    let q = c.apart-parts in
    let done = c.replace.ensures in
    (done.0, done.1, each_some a.v a.r _ o.result q.result.made o.ensures c.if-end-eq0.false q.ensures.1)
