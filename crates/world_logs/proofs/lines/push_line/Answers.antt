use Rattle.std.proofs.Common.{ℕ, sym, ap, ◌∙◌, subst}
use Rattle.endpoint_model.specs.declared.config.Draws.{Draws}
use Rattle.endpoint_model.specs.Added.{Added}
use Rattle.log_writing.specs.Written.{said}
use Rattle.rendezvous_world.specs.Deed.{deed_of}
use Rattle.rendezvous_world.specs.History.{event_of, peer_of}
use Rattle.rendezvous_world.specs.Seen.{print_at}
use Rattle.world_logs.specs.Given.{IsGivenTo}
use Rattle.world_logs.proofs.LinesTold.{call_told, nonce_told}
use Rattle.world_logs.proofs.lines.push_line.Goals as goal

pub returns : goal.returns
returns c =
    let ends = c.args.world.now.ends in
    let line = c.args.line.now in
    let step = c.in-Ok.step in
    let given = c.given_to-given.result in
    let is_given = subst (λ (g : ℕ). IsGivenTo (print_at ends (peer_of (deed_of step))) g (deed_of step) given) c.generation.ensures (c.given_to-given.ensures ends (c.as_slice.ensures ∙ c.named.ensures)) in
    c.in_ok-push_event.ensures (event_of ends line)
    (nonce_told ends line step c.nonce_for-nonce.result c.in-Ok.ensures (λ given bytes. c.nonce_for-nonce.ensures given line.line bytes (ap (λ (d : Draws). d.nonce) c.draws-draws.ensures)))
    (call_told ends line step given c.datagram_in.result.now (said c.said_call-call.result) c.in-Ok.ensures is_given c.datagram_in.ensures (c.said_call-call.ensures line.line (ap (λ (d : Draws). d.tag) c.draws-draws.ensures)))
    (sym (c.entries.ensures.entries ∙ ap (λ (o : Added). o.entries) c.out.ensures))
