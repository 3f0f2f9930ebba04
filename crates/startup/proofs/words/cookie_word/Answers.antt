use Rattle.std.proofs.Common.{rules}
use Rattle.startup.specs.Words.{cookie_word}
use Rattle.startup.proofs.words.cookie_word.Goals as goal

pub returns : goal.returns
unfolding cookie_word
returns c = search rules
