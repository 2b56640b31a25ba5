-- Each line in turn, from the last kind down.
use Rattle.rules.specs.Desk.{kind_line, asked_below, kind_asked}
use Rattle.desk.specs.Kind.{kind_or_none}
use Rattle.desk.proofs.KindLine.{begun}
use Rattle.desk.proofs.kind.kind_asked.Goals as goal

pub returns-then-starts_with : goal.returns-then-starts_with
unfolding kind_asked asked_below kind_line kind_or_none
returns-then-starts_with c = rw (begun _ _ c.starts_with.ensures.value c.if-starts_with.true)

pub returns-then-starts_with-2 : goal.returns-then-starts_with-2
unfolding kind_asked asked_below kind_line kind_or_none
returns-then-starts_with-2 c = rw (begun _ _ c.starts_with.ensures.value c.if-starts_with.false, begun _ _ c.starts_with-2.ensures.value c.if-starts_with-2.true)

pub returns-then-starts_with-3 : goal.returns-then-starts_with-3
unfolding kind_asked asked_below kind_line kind_or_none
returns-then-starts_with-3 c = rw (begun _ _ c.starts_with.ensures.value c.if-starts_with.false, begun _ _ c.starts_with-2.ensures.value c.if-starts_with-2.false, begun _ _ c.starts_with-3.ensures.value c.if-starts_with-3.true)

pub returns-then-starts_with-4 : goal.returns-then-starts_with-4
unfolding kind_asked asked_below kind_line kind_or_none
returns-then-starts_with-4 c = rw (begun _ _ c.starts_with.ensures.value c.if-starts_with.false, begun _ _ c.starts_with-2.ensures.value c.if-starts_with-2.false, begun _ _ c.starts_with-3.ensures.value c.if-starts_with-3.false, begun _ _ c.starts_with-4.ensures.value c.if-starts_with-4.true)

pub returns-then-starts_with-5 : goal.returns-then-starts_with-5
unfolding kind_asked asked_below kind_line kind_or_none
returns-then-starts_with-5 c = rw (begun _ _ c.starts_with.ensures.value c.if-starts_with.false, begun _ _ c.starts_with-2.ensures.value c.if-starts_with-2.false, begun _ _ c.starts_with-3.ensures.value c.if-starts_with-3.false, begun _ _ c.starts_with-4.ensures.value c.if-starts_with-4.false, begun _ _ c.starts_with-5.ensures.value c.if-starts_with-5.true)

pub returns : goal.returns
unfolding kind_asked asked_below kind_line kind_or_none
returns c = rw (begun _ _ c.starts_with.ensures.value c.if-starts_with.false, begun _ _ c.starts_with-2.ensures.value c.if-starts_with-2.false, begun _ _ c.starts_with-3.ensures.value c.if-starts_with-3.false, begun _ _ c.starts_with-4.ensures.value c.if-starts_with-4.false, begun _ _ c.starts_with-5.ensures.value c.if-starts_with-5.false)
