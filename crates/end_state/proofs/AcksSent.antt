-- A packet of a session goes out once its flows have changed: acks, and flow data.
use Rattle.std.proofs.Common.{ℕ, List, ◌≡◌, Option, Some, sym, ap, ◌∙◌, subst}
use Rattle.std.specs.FinMap.{get, insert}
use Rattle.rtmfp_base.proofs.Maps.{get_inserted, insert_twice}
use Rattle.rtmfp_forms.specs.Address.{AddressParts}
use Rattle.session_flows.specs.Keeping.{FlowsState}
use Rattle.session_flows.specs.Owing.{after_acks}
use Rattle.startup.specs.State.{StartupState}
use Rattle.session_table.specs.declared.sealing.Packed.{Packed}
use Rattle.session_table.specs.Table.{IsPacked, IsPackedBy, after_packed, in_row, with_changed}
use Rattle.session_table.specs.Chunks.{acked, acks_at}
use Rattle.endpoint_model.specs.declared.row.Row.{Row}
use Rattle.endpoint_model.specs.Added.{Added}
use Rattle.endpoint_model.specs.InSessions.{sent_home, sent_home_by}
use Rattle.endpoint_model.specs.Sending.{limit_of, packet_head, session_packet}
use Rattle.endpoint_model.specs.OnFlows.{with_flows}
use Rattle.endpoint_model.specs.State.{State, Did, Done, Sessions, nothing, then_do, with_row, with_sessions}
use Rattle.endpoint_model.specs.FlowChunks.{acked_by, acks_body}
use Rattle.end_state.specs.declared.settings.Settings.{Settings}
use Rattle.end_state.specs.declared.groups.Groups.{Groups}
use Rattle.end_state.specs.Stored.{state_of}
use Rattle.end_state.specs.Steps.{packed_sent}
use Rattle.end_state.proofs.InSession.{packed_as}

-- a row with other flows, whose session is as a packet of this body left it
abbrev pub packed_row : State → Row → FlowsState → List ℕ → Row
packed_row s row flows body = record row { session = after_packed (limit_of s) (session_packet row.session s.moment body) row.session; flows = flows }

-- The flows of a session are changed, and then a body goes to where its datagrams go.
pub packet_as : (s : State) (near : ℕ) (row : Row) (flows : FlowsState) (body : List ℕ) (packed : Packed) → IsPacked (limit_of s) (session_packet row.session s.moment body) row.session packed →
    packed_sent (with_row s near (packed_row s row flows body)) near row.session.address packed ≡ then_do (nothing (with_flows s near row flows)) (λ t. sent_home t near body)
packet_as s near row flows body packed is =
    let sent : Row = record row { flows = flows } in
    let t : State = with_row s near sent in
    let got : get t.sessions near ≡ Some sent = get_inserted s.sessions near sent in
    let last : Row = packed_row s row flows body in
    ap (λ (m : Sessions). packed_sent (with_sessions s m) near row.session.address packed) (sym (insert_twice s.sessions near sent last))
    ∙ packed_as t near row.session.address body sent packed got is
    ∙ ap (sent_home_by t near body) (sym got)

pub acks_one : (settings : Settings) (moment sealed limit : ℕ) (groups : Groups) (startup : StartupState) (old new : Sessions) (t u : State) (near most : ℕ) (row : Row) (to : AddressParts) (packed : Packed) (before after : Added) →
    state_of settings moment sealed limit groups startup old ≡ t → most ≡ limit_of t → get old near ≡ Some row → to ≡ row.session.address →
    IsPackedBy most moment (acks_at moment) (get old near) packed → new ≡ in_row (acked most moment) old near →
    Done (packed_sent (state_of settings moment sealed limit groups startup new) near to packed) u before after → Done (acked_by t near (get t.sessions near)) u before after
acks_one settings moment sealed limit groups startup old new t u near most row to packed before after view most_is found to_is is new_is done =
    let s : State = state_of settings moment sealed limit groups startup old in
    let limited : most ≡ limit_of s = most_is ∙ ap limit_of (sym view) in
    let flows : FlowsState = after_acks row.flows (packet_head row.session moment) in
    let body : List ℕ = acks_body row moment in
    let packed_so : IsPackedBy (limit_of s) moment (acks_at moment) (Some row) packed =
    subst (λ (o : Option Row). IsPackedBy (limit_of s) moment (acks_at moment) o packed) found (subst (λ (n : ℕ). IsPackedBy n moment (acks_at moment) (get old near) packed) limited is) in
    let left : new ≡ insert old near (packed_row s row flows body) =
    new_is ∙ ap (λ (n : ℕ). in_row (acked n moment) old near) limited ∙ ap (with_changed (acked (limit_of s) moment) old near) found in
    let did : packed_sent (with_sessions s new) near to packed ≡ acked_by s near (get old near) =
    ap (λ (m : Sessions). packed_sent (with_sessions s m) near to packed) left ∙ ap (λ (a : AddressParts). packed_sent (with_row s near (packed_row s row flows body)) near a packed) to_is
    ∙ packet_as s near row flows body packed packed_so ∙ ap (acked_by s near) (sym found) in
    subst (λ (x : State). Done (acked_by x near (get x.sessions near)) u before after) view (subst (λ (d : Did). Done d u before after) did done)
