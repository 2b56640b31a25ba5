-- A term written is the one asked for.
use Rattle.std.proofs.Common.{sym, ◌∙◌, arith}
use Rattle.weave.proofs.Growing.{emit_put}
use Rattle.merge.specs.Heads.{words_in}
use Rattle.merge.proofs.Flow.{set_under}
use Rattle.merge.proofs.streams.Streams.emit.Goals as goal

pub returns : goal.returns
returns c =
    let a = c.args in
    let s = a.self.now in
    let e = rw c.set_at-h.ensures at c.write.ensures in
    (emit_put s.weighted.terms.width a.o a.limit a.c (words_in s a.i a.b) a.scratch.now c.write.new.target (omega arith) (omega arith) e.0, λ some room. e.1 ∙ sym (set_under s a.i a.b (omega arith) (omega arith)))
