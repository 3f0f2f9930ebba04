use Rattle.std.proofs.Common.{◌∙◌, ap}
use Rattle.std.specs.FinMap.{insert}
use Rattle.crypto_profile.specs.declared.group.GroupSecret.{GroupSecret}
use Rattle.endpoint_laws.specs.Contexts.{Secrets}
use Rattle.log_packets.proofs.Entries.{secret_put, still_numbered}
use Rattle.log_packets.proofs.secrets.SecretMap.put.Goals as goal

pub invariant_of-self-2 : goal.invariant_of-self-2
invariant_of-self-2 c =
    still_numbered c.self.inside.map c.insert.new.self c.args.generation c.of.result c.in-Ok.ensures.updates c.self.invariant (ap (λ (g : GroupSecret). g.generation) c.of.ensures)

pub returns-clause-more : goal.returns-clause-more
returns-clause-more c =
    secret_put c.self.inside.map c.insert.new.self c.args.generation c.of.result c.in-Ok.ensures.updates
    ∙ ap (λ (s : Secrets). insert s c.args.generation c.of.result.secret) c.self.view_is
    ∙ ap (λ (g : GroupSecret). insert c.args.self.now c.args.generation g.secret) c.of.ensures
