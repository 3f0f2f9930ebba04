use Rattle.translators.proofs.Called.{comes_in}
use Rattle.translators.proofs.laws.what_comes_in_was_called_for.Goals as goal

pub returns : goal.returns
returns c = λ mapping filter host first. comes_in mapping filter host first
