use Rattle.log_packets.specs.Asked.{AreKeyingsOf}
use Rattle.endpoint_model.specs.Keying.{chunks_of}
use Rattle.log_outs.specs.Outs.{HoldsKeyings}
use Rattle.log_outs.proofs.Carrying.{holds_some, if_ok}
use Rattle.log_outs.proofs.carried.held_keyings.Goals as goal

pub returns-in-Some : goal.returns-in-Some
returns-in-Some c =
    if_ok (λ ids. AreKeyingsOf (chunks_of c.in-Some.packet) ids.items) (λ ids. HoldsKeyings c.args.opener.now ids.items)
    (λ ids are. holds_some c.args.opener.now ids.items c.reads.result c.in-Some.packet c.in-Some.is c.reads.ensures.reads c.reads.ensures.only are) c.keyings.result c.keyings.ensures
