use Rattle.translators.proofs.Called.{keep_their}
use Rattle.translators.proofs.laws.each_inner_place_keeps_its_address.Goals as goal

pub returns : goal.returns
returns c = λ mapping filter host first. keep_their mapping filter host first
