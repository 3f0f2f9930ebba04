use Rattle.std.proofs.Common.{◌≡◌, ◌<◌, false, not, Option, Some, length, sym, ap, ◌∙◌, subst, arith}
use Rattle.std.proofs.lemmas.List.{length-map}
use Rattle.std.specs.List.{list_any}
use Rattle.crypto_profile.specs.declared.keys.Context.{Context}
use Rattle.rendezvous_world.specs.Seen.{EndSeen, Seen}
use Rattle.rendezvous_world.specs.Sent.{sent_in}
use Rattle.rendezvous_world.specs.Faults.{is_forged_by, is_unsent_in, is_sent}
use Rattle.rendezvous_world.specs.Inside.{end_seen}
use Rattle.rendezvous_world.proofs.Pieces.{forged_there}
use Rattle.rendezvous_world.proofs.world.World.is_unsent.Goals as goal

pub returns-in-None : goal.returns-in-None
returns-in-None c =
    let i = c.self.inside in
    let there : c.args.end < length i.ends.items = omega (arith, subst (λ (w : Seen). c.args.end < length w.ends) (sym c.self.view_is) c.requires.there, length-map {B = EndSeen} i.ends.items end_seen) in
    subst (λ (w : Seen). false ≡ is_forged_by w c.args.end (Some c.args.bytes.now)) c.self.view_is
    (sym (forged_there i.ends.items c.args.end c.index-there.result.now c.args.bytes.now (sent_in i.journal) c.index-there.ensures there
    ∙ ap (λ (o : Option Context). is_unsent_in o c.args.bytes.now (sent_in i.journal)) (sym c.in-None.ensures.state)))

pub returns-in-Some : goal.returns-in-Some
returns-in-Some c =
    let i = c.self.inside in
    let there : c.args.end < length i.ends.items = omega (arith, subst (λ (w : Seen). c.args.end < length w.ends) (sym c.self.view_is) c.requires.there, length-map {B = EndSeen} i.ends.items end_seen) in
    subst (λ (w : Seen). not c.was_sent.result ≡ is_forged_by w c.args.end (Some c.args.bytes.now)) c.self.view_is
    (ap not (c.was_sent.ensures ∙ ap (λ (w : Seen). list_any (is_sent c.args.bytes.now c.in-Some.context) (sent_in w.lines)) (sym c.self.view_is))
    ∙ sym (forged_there i.ends.items c.args.end c.index-there.result.now c.args.bytes.now (sent_in i.journal) c.index-there.ensures there
    ∙ ap (λ (o : Option Context). is_unsent_in o c.args.bytes.now (sent_in i.journal)) (sym c.in-Some.ensures.state)))
