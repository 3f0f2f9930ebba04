-- Sessions that this end closes.
use Rattle.std.proofs.Common.{ℕ, ◌≡◌, true, is_some, Option, sym, subst}
use Rattle.std.specs.FinMap.{get}
use Rattle.rtmfp_chunks.specs.Chunk.{Close as CloseChunk}
use Rattle.rtmfp_chunks.specs.Writing.{chunk_bytes}
use Rattle.glare_core.specs.declared.facts.Why.TheVariants.{Near}
use Rattle.session_core.specs.Closing.{closed_near}
use Rattle.endpoint_model.specs.declared.row.Row.{Row}
use Rattle.endpoint_model.specs.Added.{Added}
use Rattle.endpoint_model.specs.State.{State, Done}
use Rattle.endpoint_model.specs.InSessions.{held_row, ended_as, closing, closing_by, sent_home}
use Rattle.endpoint_model.proofs.Steps.{joined}
use Rattle.end_state.specs.Steps.{session_changed, end_told}
use Rattle.end_state.proofs.Endings.{ended_done, held_is}

pub closing_done : (s t u v : State) (near : ℕ) (before between after : Added) → is_some (held_row s near) ≡ true → Done (end_told s Near (get s.sessions near)) t before between →
    u ≡ session_changed closed_near t near (get t.sessions near) → Done (sent_home u near (chunk_bytes CloseChunk)) v between after → Done (closing s near) v before after
closing_done s t u v near before between after held told changed home =
    let found = held_is (get s.sessions near) held in
    let ended = ended_done s t u near Near closed_near found.row before between found.is told changed in
    subst (λ (o : Option Row). Done (closing_by s near o) v before after) (sym found.held)
    (joined (ended_as s near found.row Near (closed_near s.moment found.row.session)) (λ x. sent_home x near (chunk_bytes CloseChunk)) u v before between after ended home)
