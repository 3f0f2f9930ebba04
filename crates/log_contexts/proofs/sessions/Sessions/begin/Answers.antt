use Rattle.std.proofs.Common.{◌∙◌, ap}
use Rattle.std.specs.FinMap.{insert}
use Rattle.keyed_slab.proofs.KeyMaps.{keys_put}
use Rattle.log_digest.specs.Hearing.{Heard}
use Rattle.log_contexts.specs.Kept.{SessionTable}
use Rattle.log_contexts.proofs.sessions.Sessions.begin.Goals as goal

pub returns-clause-ok : goal.returns-clause-ok
returns-clause-ok c =
    keys_put c.self.inside.map c.insert.new.self c.args.near (record { generation = c.args.generation; hearing = c.new.result }) c.in-Ok.ensures.updates
    ∙ ap (λ (m : SessionTable). insert m c.args.near (record { generation = c.args.generation; hearing = c.new.result })) c.self.view_is
    ∙ ap (λ (h : Heard). insert c.args.self.now c.args.near (record { generation = c.args.generation; hearing = h })) c.new.ensures.value
