use Rattle.cookies.proofs.Reading.{one_place_and_moment}
use Rattle.cookies.proofs.laws.a_cookie_tells_one_place_and_moment.Goals as goal

pub returns : goal.returns
returns c = one_place_and_moment
