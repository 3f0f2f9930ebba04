use Rattle.rtmfp_play.proofs.Placing.{placed_is}
use Rattle.rtmfp_play.proofs.journaling.Journaling.new.Goals as goal

pub returns : goal.returns
returns c =
    let made = c.new-world.ensures in
    placed_is c.new-world.result made.moment made.ends made.lines made.places
