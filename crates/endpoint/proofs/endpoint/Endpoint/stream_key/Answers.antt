use Rattle.std.proofs.Common.{ap, sym, ◌∙◌, ℕ}
use Rattle.std.specs.FinMap.{get}
use Rattle.endpoint_model.specs.State.{State}
use Rattle.endpoint.specs.StreamKeys.{stream_key}
use Rattle.endpoint.proofs.StreamKeys.{key_found}
use Rattle.endpoint.proofs.endpoint.Endpoint.stream_key.Goals as goal

pub returns-then-has_secret : goal.returns-then-has_secret
returns-then-has_secret c =
    let there = ap (λ (near : ℕ). get c.self.inside.end.sessions near) (sym c.sealer_of.ensures)
    ∙ ap (λ i. get i.end.sessions c.sealer_of.result) (sym c.self-inside.view_is) ∙ sym c.in-Some.ensures in
    key_found c.self.inside.end c.args.secret.now c.args.context.now c.in-Some.row.now c.stream_key.result.now c.self.invariant there
    (sym c.seals_in.ensures ∙ c.if-seals_in.true)
    (sym c.generation_of.ensures ∙ c.if-generation_of-generation.true ∙ c.generation.ensures ∙ ap (λ (s : State). s.group.generation) (sym c.self.view_is))
    (sym c.has_secret.ensures ∙ c.if-has_secret.true) c.stream_key.ensures
    ∙ ap (λ (s : State). stream_key s c.args.secret.now c.args.context.now) c.self.view_is
