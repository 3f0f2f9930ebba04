-- Flow data that goes out in a session.
use Rattle.std.proofs.Common.{ℕ, List, ◌≡◌, Option, Some, sym, ap, ◌∙◌, subst}
use Rattle.std.specs.FinMap.{get, insert}
use Rattle.rtmfp_forms.specs.Address.{AddressParts}
use Rattle.session_flows.specs.Keeping.{FlowsState, with_sending}
use Rattle.startup.specs.State.{StartupState}
use Rattle.session_table.specs.declared.sealing.Packed.{Packed}
use Rattle.session_table.specs.Table.{IsPackedBy, in_row, with_changed}
use Rattle.session_table.specs.FlowTimes.{data_at, data_gone}
use Rattle.endpoint_model.specs.declared.row.Row.{Row}
use Rattle.endpoint_model.specs.Added.{Added}
use Rattle.endpoint_model.specs.Sending.{limit_of}
use Rattle.endpoint_model.specs.State.{State, Did, Done, Sessions, with_row, with_sessions}
use Rattle.endpoint_model.specs.FlowTimes.{data_body, data_packed}
use Rattle.end_state.specs.declared.settings.Settings.{Settings}
use Rattle.end_state.specs.declared.groups.Groups.{Groups}
use Rattle.end_state.specs.Stored.{state_of}
use Rattle.end_state.specs.Steps.{data_sent_by, packed_sent}
use Rattle.end_state.proofs.AcksSent.{packed_row, packet_as}

pub data_one : (settings : Settings) (moment sealed limit : ℕ) (groups : Groups) (startup : StartupState) (old new : Sessions) (t u : State) (near most : ℕ) (row : Row) (to : AddressParts) (packed : Packed) (before after : Added) →
    state_of settings moment sealed limit groups startup old ≡ t → most ≡ limit_of t → get old near ≡ Some row → to ≡ row.session.address →
    IsPackedBy most moment (data_at moment) (get old near) packed → new ≡ in_row (data_gone most moment) old near →
    Done (packed_sent (state_of settings moment sealed limit groups startup new) near to packed) u before after → Done (data_sent_by t near (get t.sessions near)) u before after
data_one settings moment sealed limit groups startup old new t u near most row to packed before after view most_is found to_is is new_is done =
    let s : State = state_of settings moment sealed limit groups startup old in
    let limited : most ≡ limit_of s = most_is ∙ ap limit_of (sym view) in
    let flows : FlowsState = with_sending row.flows (data_packed row moment).sending in
    let body : List ℕ = data_body row moment in
    let packed_so : IsPackedBy (limit_of s) moment (data_at moment) (Some row) packed =
    subst (λ (o : Option Row). IsPackedBy (limit_of s) moment (data_at moment) o packed) found (subst (λ (n : ℕ). IsPackedBy n moment (data_at moment) (get old near) packed) limited is) in
    let left : new ≡ insert old near (packed_row s row flows body) =
    new_is ∙ ap (λ (n : ℕ). in_row (data_gone n moment) old near) limited ∙ ap (with_changed (data_gone (limit_of s) moment) old near) found in
    let did : packed_sent (with_sessions s new) near to packed ≡ data_sent_by s near (get old near) =
    ap (λ (m : Sessions). packed_sent (with_sessions s m) near to packed) left ∙ ap (λ (a : AddressParts). packed_sent (with_row s near (packed_row s row flows body)) near a packed) to_is
    ∙ packet_as s near row flows body packed packed_so ∙ ap (data_sent_by s near) (sym found) in
    subst (λ (x : State). Done (data_sent_by x near (get x.sessions near)) u before after) view (subst (λ (d : Did). Done d u before after) did done)
