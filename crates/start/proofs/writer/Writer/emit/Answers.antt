-- `emit` passes over a coefficient 0, finds no room, or writes the next term. Assumes nothing.
use mathlib.Core.Path.{refl}
use native.Mathlib.Omega.{arith}
use Rattle.words.proofs.Stored.{stride_in}
use Rattle.start.proofs.Words.{going_more}
use Rattle.start.proofs.writer.Writer.emit.Goals as goal

pub returns : goal.returns
returns c =
    let s = c.args.self.now in
    let written = c.write_term.auto.store in
    let room = stride_in s.count s.limit s.w _ (omega arith) s.room in
    record {
      same = record { name = refl; lent = written; width = refl; limit = refl };
      leads = λ p rest g. going_more s.w p rest s.store.now s.count c.args.c _ g (omega arith) room c.write_term.new.store written c.write_term.ensures;
    }
