use Rattle.std.proofs.Common.{◌≡◌, ◌<◌, false, true, Option, Some, length, sym, ◌∙◌, subst, arith}
use Rattle.std.proofs.lemmas.List.{length-map}
use Rattle.std.specs.List.{list_any}
use Rattle.crypto_profile.specs.declared.keys.Context.{Context}
use Rattle.endpoint_laws.specs.OpensIn.{opens_in}
use Rattle.rendezvous_world.specs.Seen.{EndSeen, Seen}
use Rattle.rendezvous_world.specs.Sent.{sent_in}
use Rattle.rendezvous_world.specs.Faults.{is_forged_by, is_sent}
use Rattle.rendezvous_world.specs.Inside.{end_seen}
use Rattle.rendezvous_world.proofs.Pieces.{forged_there, sent_where_named}
use Rattle.rendezvous_world.proofs.world.World.is_forged.Goals as goal

pub returns-then-names : goal.returns-then-names
returns-then-names c =
    let i = c.self.inside in
    let there : c.args.end < length i.ends.items = omega (arith, subst (λ (w : Seen). c.args.end < length w.ends) (sym c.self.view_is) c.requires.there, length-map {B = EndSeen} i.ends.items end_seen) in
    let opens : Option Context = opens_in c.index-there.result.now.endpoint c.args.bytes.now in
    let sent : list_any (is_sent c.args.bytes.now c.args.context.now) (sent_in i.journal) ≡ true = subst (λ (w : Seen). list_any (is_sent c.args.bytes.now c.args.context.now) (sent_in w.lines) ≡ true) (sym c.self.view_is) c.requires.sent in
    subst (λ (w : Seen). false ≡ is_forged_by w c.args.end (Some c.args.bytes.now)) c.self.view_is
    (sym (forged_there i.ends.items c.args.end c.index-there.result.now c.args.bytes.now (sent_in i.journal) c.index-there.ensures there
    ∙ sent_where_named opens c.args.context.now c.args.bytes.now (sent_in i.journal) (c.names.ensures.opens c.if-names.true) sent))
