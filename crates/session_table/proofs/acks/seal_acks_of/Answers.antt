use Rattle.std.proofs.Common.{◌≡◌, ℕ, List, sym, ap, subst, ◌∙◌, length, arith}
use Rattle.rtmfp_packet.specs.Head.{head_bytes}
use Rattle.session_flows.specs.Owing.{acks_put, after_acks}
use Rattle.session_flows.proofs.Acked.{put_behind}
use Rattle.endpoint_model.specs.Sending.{packet_head, session_packet}
use Rattle.endpoint_model.specs.FlowChunks.{acks_body}
use Rattle.session_table.specs.Table.{IsPacked, after_packed}
use Rattle.session_table.proofs.SealedParts.{head_at_most}
use Rattle.session_table.proofs.acks.seal_acks_of.Goals as goal

pub returns-clause-answer : goal.returns-clause-answer
returns-clause-answer c =
    let begun : c.begin_packet-packet.result ≡ packet_head c.args.row.now.session c.args.moment = c.begin_packet-packet.ensures.bytes ∙ ap head_bytes c.head.ensures in
    let put : c.put_acks.new.out ≡ session_packet c.args.row.now.session c.args.moment (acks_body c.args.row.now c.args.moment) =
    c.put_acks.ensures.packet ∙ ap (λ (p : List ℕ). (acks_put c.args.row.now.flows.taking p).packet) begun ∙ sym (put_behind c.args.row.now.flows.taking (packet_head c.args.row.now.session c.args.moment)) in
    subst (λ (p : List ℕ). IsPacked c.args.limit p c.args.row.now.session c.pack.result) put c.pack.ensures.answer

pub returns-clause-row : goal.returns-clause-row
returns-clause-row c =
    let begun : c.begin_packet-packet.result ≡ packet_head c.args.row.now.session c.args.moment = c.begin_packet-packet.ensures.bytes ∙ ap head_bytes c.head.ensures in
    let put : c.put_acks.new.out ≡ session_packet c.args.row.now.session c.args.moment (acks_body c.args.row.now c.args.moment) =
    c.put_acks.ensures.packet ∙ ap (λ (p : List ℕ). (acks_put c.args.row.now.flows.taking p).packet) begun ∙ sym (put_behind c.args.row.now.flows.taking (packet_head c.args.row.now.session c.args.moment)) in
    let flows : c.put_acks.new.self ≡ after_acks c.args.row.now.flows (packet_head c.args.row.now.session c.args.moment) = c.put_acks.ensures.flows ∙ ap (after_acks c.args.row.now.flows) begun in
    let session = c.pack.ensures.session ∙ ap (λ (p : List ℕ). after_packed c.args.limit p c.args.row.now.session) put in
    (λ i. record c.args.row.now { session = session i; flows = flows i })

pub returns-clause-falls : goal.returns-clause-falls
returns-clause-falls c = λ owed. c.put_acks.ensures.falls owed (omega (arith, ap (λ (b : List ℕ). length b) c.begin_packet-packet.ensures.bytes, head_at_most c.head.result))
