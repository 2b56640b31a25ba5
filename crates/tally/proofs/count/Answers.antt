-- `count` clears the numbers and then counts all terms. Assumes nothing.
use Rattle.std.proofs.Common.{◌≡◌, ◌^◌, ◌<◌, length, replicate, rules}
use Rattle.words.specs.Listed.{terms_of}
use Rattle.words.proofs.Stored.{length_terms}
use Rattle.tally.proofs.Numbering.{counted_anew}
use Rattle.tally.proofs.count.Goals as goal

pub returns : goal.returns
returns c =
    let a = c.args in
    let p = terms_of a.terms.now in
    let few : length p < 2 ^ 32 = rw length_terms c.requires.1 in
    let zeros : c.fill.new.self ≡ replicate (length a.numbers.now) 0 = search rules in
    counted_anew p (length a.numbers.now) _ few (rw zeros at c.mark_all.ensures)
