-- The history of a world is agreed.
use Rattle.endpoint_laws.proofs.AgreedLaw.{every_history_is_agreed}
use Rattle.rendezvous_world.specs.Seen.{group_secrets, setup_at}
use Rattle.rendezvous_world.specs.History.{history_of}
use Rattle.rendezvous_world.specs.Sound.{IsSound}
use Rattle.rendezvous_world.specs.Laws.{EveryWorldIsAgreed}
use Rattle.rendezvous_world.proofs.Sounds.{sound}

pub agreed : EveryWorldIsAgreed
agreed w is =
    let holds : IsSound w = sound w is in
    every_history_is_agreed group_secrets (setup_at w.ends) (history_of w) is.calls holds.lawful holds.honest holds.fresh
