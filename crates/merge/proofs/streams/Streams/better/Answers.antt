-- Each return is one of the cases of two heads.
use Rattle.std.proofs.Common.{ap, sym, ◌∙◌, ltb-true, ltb-false, lt-ltb, le-ltb, get_or, arith}
use Rattle.std.specs.Ordering.{is_gt}
use Rattle.words.proofs.Numbers.{is_gt-nat_cmp}
use Rattle.merge.specs.Heads.{rank, set_in}
use Rattle.merge.proofs.Flow.{rank_end, rank_live}
use Rattle.merge.proofs.streams.Streams.better.Goals as goal

pub returns-then-i-self : goal.returns-then-i-self
returns-then-i-self c =
    let s = c.args.self.now in
    let at = c.args.at.now in
    rw (le-ltb (rank s at c.args.b) (rank s at c.args.j) (omega (arith, rank_end s c.args.j at c.if-i-self.true)))

pub returns-then-h-self : goal.returns-then-h-self
returns-then-h-self c =
    let s = c.args.self.now in
    let at = c.args.at.now in
    rw (lt-ltb (rank s at c.args.b) (rank s at c.args.j) (omega (arith, rank_end s c.args.b at c.if-h-self.true, rank_live s c.args.j at c.if-i-self.false)))

pub returns-then-is_gt : goal.returns-then-is_gt
returns-then-is_gt c =
    let s = c.args.self.now in
    let at = c.args.at.now in
    let more = ltb-true (set_in s (get_or at c.args.b 0) c.args.b) (set_in s (get_or at c.args.j 0) c.args.j) (sym (is_gt-nat_cmp _ _) ∙ ap is_gt (sym c.compare.ensures) ∙ sym c.is_gt.ensures ∙ c.if-is_gt.true) in
    rw (lt-ltb (rank s at c.args.b) (rank s at c.args.j) (omega (arith, more, rank_live s c.args.b at c.if-h-self.false, rank_live s c.args.j at c.if-i-self.false)))

pub returns-else-is_gt : goal.returns-else-is_gt
returns-else-is_gt c =
    let s = c.args.self.now in
    let at = c.args.at.now in
    let less = ltb-false (set_in s (get_or at c.args.b 0) c.args.b) (set_in s (get_or at c.args.j 0) c.args.j) (sym (is_gt-nat_cmp _ _) ∙ ap is_gt (sym c.compare.ensures) ∙ sym c.is_gt.ensures ∙ c.if-is_gt.false) in
    rw (le-ltb (rank s at c.args.b) (rank s at c.args.j) (omega (arith, less, rank_live s c.args.b at c.if-h-self.false, rank_live s c.args.j at c.if-i-self.false)))
