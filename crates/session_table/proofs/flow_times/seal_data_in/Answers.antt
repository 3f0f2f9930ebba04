use Rattle.std.proofs.Common.{ℕ, List, ap, subst, ◌∙◌}
use Rattle.rtmfp_packet.specs.Head.{head_bytes}
use Rattle.session_table.specs.Table.{IsPacked, after_packed}
use Rattle.session_table.proofs.Behind.{packet_behind, flows_behind, falls_behind}
use Rattle.session_table.proofs.flow_times.seal_data_in.Goals as goal

pub returns-clause-answer : goal.returns-clause-answer
returns-clause-answer c =
    let whole = packet_behind c.args.row.now c.args.moment c.begin_packet-packet.result c.fill.new.out (c.begin_packet-packet.ensures.bytes ∙ ap head_bytes c.head.ensures) c.fill.ensures.packet in
    subst (λ (p : List ℕ). IsPacked c.args.limit p c.args.row.now.session c.pack.result) whole c.pack.ensures.answer

pub returns-clause-row : goal.returns-clause-row
returns-clause-row c =
    let whole = packet_behind c.args.row.now c.args.moment c.begin_packet-packet.result c.fill.new.out (c.begin_packet-packet.ensures.bytes ∙ ap head_bytes c.head.ensures) c.fill.ensures.packet in
    let flows = flows_behind c.args.row.now c.args.moment c.begin_packet-packet.result c.fill.new.out (c.begin_packet-packet.ensures.bytes ∙ ap head_bytes c.head.ensures) c.fill.new.self c.fill.ensures.flows in
    let session = c.pack.ensures.session ∙ ap (λ (p : List ℕ). after_packed c.args.limit p c.args.row.now.session) whole in
    (λ i. record c.args.row.now { session = session i; flows = flows i })

pub returns-clause-falls : goal.returns-clause-falls
returns-clause-falls c =
    falls_behind c.args.row.now c.args.moment c.begin_packet-packet.result c.fill.new.out (c.begin_packet-packet.ensures.bytes ∙ ap head_bytes c.head.ensures) c.fill.new.self c.fill.ensures.flows c.fill.ensures.falls c.fill.ensures.waits
