use Rattle.translators.proofs.Called.{takes_the_next, are_refused}
use Rattle.translators.proofs.laws.ports_are_given_in_their_order.Goals as goal

pub returns-clause-next : goal.returns-clause-next
returns-clause-next c = λ mapping filter host first. takes_the_next mapping filter host first

pub returns-clause-refused : goal.returns-clause-refused
returns-clause-refused c = λ mapping filter host first. are_refused mapping filter host first
