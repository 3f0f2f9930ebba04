use Rattle.cookies.proofs.Reading.{test_is_right}
use Rattle.cookies.proofs.laws.the_answer_of_a_test_is_right.Goals as goal

pub returns : goal.returns
returns c = test_is_right
