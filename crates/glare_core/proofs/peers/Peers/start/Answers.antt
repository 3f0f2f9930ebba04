use Rattle.std.proofs.Common.{sym, subst}
use Rattle.std.specs.FinMap.{len}
use Rattle.glare_core.specs.Ledger.{PeerRows}
use Rattle.glare_core.specs.Rows.{IsRoom}
use Rattle.glare_core.proofs.Giving.{gave_start_kept, start_room}
use Rattle.glare_core.proofs.peers.Peers.start.Goals as goal

pub invariant_of-self : goal.invariant_of-self
invariant_of-self c =
    let rows : PeerRows = c.self.inside.rows in
    let room : IsRoom c.seat-seat.result.known (len rows) c.self.inside.max_peers =
    subst (λ known. IsRoom known (len rows) c.self.inside.max_peers) (sym c.seat-seat.ensures.known)
    (start_room c.self.inside.own c.self.inside.max_peers c.self.inside.started rows c.args.self.now c.self.view_is c.self.invariant c.args.peer.now (sym c.in-None.ensures)) in
    c.in-Ok.ensures.room c.self.inside.max_peers room c.self.invariant

pub returns-in-Ok-clause-gave : goal.returns-in-Ok-clause-gave
returns-in-Ok-clause-gave c =
    gave_start_kept c.self.inside.own c.self.inside.max_peers c.self.inside.started c.self.inside.rows c.note_after.new.self c.args.self.now c.self.view_is
    c.args.peer.now c.args.near c.args.ni c.in-Ok.ensures.rows (sym c.in-None.ensures)
