-- `sections::word` meets its contract: what is left once the word is stripped. Assumes nothing.
use Rattle.rules.specs.Text.{header_word}
use Rattle.lines.proofs.Words.{word_stripped}
use Rattle.lines.proofs.sections.word.Goals as goal

pub returns : goal.returns
returns c = word_stripped header_word c.args.text.now c.strip_prefix.result c.strip_prefix.ensures.cases
