use Rattle.std.proofs.Common.{sym, subst, ◌∙◌}
use Rattle.glare_core.specs.declared.facts.Why.{Why}
use Rattle.glare_core.specs.Stands.{EndedStands}
use Rattle.endpoint_laws.specs.Past.{facts_of}
use Rattle.endpoint_laws.specs.Lawful.{EndedLine}
use Rattle.log_values.specs.Events.{call_of}
use Rattle.log_packets.specs.Asked.{Tells}
use Rattle.log_facts.proofs.Joining.{both_ways, far_why, idle_why, other_why}
use Rattle.log_facts.proofs.lines.ended.Goals as goal

pub returns-then-is_far : goal.returns-then-is_far
returns-then-is_far c = λ secrets setup now past nonce plain own arrival is comes taken last stands.
    let which = far_why c.args.why (sym c.is_far.ensures ∙ c.if-is_far.true) in
    subst (λ (w : Why). Tells (EndedLine secrets setup now (call_of nonce c.args.call.now) past c.args.rest.now c.args.peer.now c.args.near w) c.far.result) (sym which)
    (c.far.ensures secrets setup past nonce plain own c.args.peer.now arrival comes taken (subst (EndedStands own (facts_of past) c.args.peer.now c.args.near) which stands))

pub returns-then-is_idle : goal.returns-then-is_idle
returns-then-is_idle c = λ secrets setup now past nonce plain own arrival is comes taken last stands.
    let which = idle_why c.args.why (sym c.is_idle.ensures ∙ c.if-is_idle.true) in
    subst (λ (w : Why). Tells (EndedLine secrets setup now (call_of nonce c.args.call.now) past c.args.rest.now c.args.peer.now c.args.near w) c.idle.result) (sym which)
    (both_ways _ c.idle.result (c.idle.ensures.yes secrets setup nonce now past c.args.near is (last which)) (c.idle.ensures.no secrets setup nonce now past c.args.near is (last which)))

pub returns : goal.returns
returns c = λ secrets setup now past nonce plain own arrival is comes taken last stands.
    let none = other_why c.args.why (sym c.is_far.ensures ∙ c.if-is_far.false) (sym c.is_idle.ensures ∙ c.if-is_idle.false) in
    both_ways _ c.ended.result (c.ended.ensures.yes secrets setup nonce now past is none) (c.ended.ensures.no secrets setup nonce now past is none)
