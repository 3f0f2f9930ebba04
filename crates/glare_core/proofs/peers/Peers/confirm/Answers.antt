use Rattle.std.proofs.Common.{ap, ◌∙◌, ◌≡◌, List, ℕ}
use Rattle.glare_core.specs.Ledger.{held_with}
use Rattle.glare_core.specs.Calls.{confirmed_fact}
use Rattle.glare_core.proofs.Giving.{gave_kept, gave_confirmed}
use Rattle.glare_core.proofs.peers.Peers.confirm.Goals as goal

pub returns-clause-gave : goal.returns-clause-gave
returns-clause-gave c =
    let peer : List ℕ = c.args.peer.now in
    let held_is : c.seat-seat.result.held ≡ held_with c.args.self.now peer = c.seat-seat.ensures.held ∙ ap (λ l. held_with l peer) c.self.view_is in
    gave_kept c.self.inside.own c.self.inside.max_peers c.self.inside.started c.self.inside.rows c.note_if.new.self c.args.self.now c.self.view_is
    c.confirmed_fact-fact.result (confirmed_fact (held_with c.args.self.now peer) peer) peer c.seat-seat.result.held c.note_if.ensures.rows c.confirmed_fact-fact.ensures.of (c.confirmed_fact-fact.ensures.fact ∙ ap (λ h. confirmed_fact h peer) held_is)
    (gave_confirmed c.args.self.now peer)
