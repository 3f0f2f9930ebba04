use Rattle.std.proofs.Common.{ap, ◌∙◌, ◌≡◌, List, ℕ}
use Rattle.glare_core.specs.Ledger.{held_with}
use Rattle.glare_core.specs.Calls.{ended_fact}
use Rattle.glare_core.proofs.Giving.{gave_kept, gave_ended}
use Rattle.glare_core.proofs.peers.Peers.end.Goals as goal

pub returns-clause-gave : goal.returns-clause-gave
returns-clause-gave c may =
    let peer : List ℕ = c.args.peer.now in
    let held_is : c.seat-seat.result.held ≡ held_with c.args.self.now peer = c.seat-seat.ensures.held ∙ ap (λ l. held_with l peer) c.self.view_is in
    gave_kept c.self.inside.own c.self.inside.max_peers c.self.inside.started c.self.inside.rows c.note_if.new.self c.args.self.now c.self.view_is
    c.ended_fact-fact.result (ended_fact (held_with c.args.self.now peer) peer c.args.why) peer c.seat-seat.result.held c.note_if.ensures.rows c.ended_fact-fact.ensures.of (c.ended_fact-fact.ensures.fact ∙ ap (λ h. ended_fact h peer c.args.why) held_is)
    (gave_ended c.args.self.now peer c.args.why may)
