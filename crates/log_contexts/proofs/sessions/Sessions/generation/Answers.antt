use Rattle.std.proofs.Common.{◌∙◌, sym, ap}
use Rattle.std.specs.FinMap.{get}
use Rattle.keyed_slab.proofs.KeyMaps.{get_keys}
use Rattle.log_contexts.specs.Kept.{SessionTable, generation_in}
use Rattle.log_contexts.proofs.sessions.Sessions.generation.Goals as goal

pub returns-in-Some : goal.returns-in-Some
returns-in-Some c = ap generation_in (c.in-Some.ensures.value ∙ sym (get_keys c.self.inside.map.entries c.args.near) ∙ ap (λ (m : SessionTable). get m c.args.near) c.self.view_is)

pub returns-in-None : goal.returns-in-None
returns-in-None c = ap generation_in (c.in-None.ensures.value ∙ sym (get_keys c.self.inside.map.entries c.args.near) ∙ ap (λ (m : SessionTable). get m c.args.near) c.self.view_is)
