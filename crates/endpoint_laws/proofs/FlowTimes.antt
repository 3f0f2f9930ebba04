-- What time makes due of a session and of its flows: what is stated is lawful, each datagram that goes out meets its line, and the state agrees with both.
use Rattle.std.proofs.Common.{◌≡◌, ℕ, [], ◌∷◌, Bool, true, false, if◌then◌else◌, Option, Some, None, inl, refl, ap}
use Rattle.std.specs.FinMap.{get}
use Rattle.rtmfp_base.specs.Reasons.{where_true, first_that_stands}
use Rattle.session_core.specs.declared.stage.SessionDue.{SessionDue}
use Rattle.session_core.specs.Session.{SessionState}
use Rattle.session_core.specs.Closing.{first_due, needs_keepalive, with_loss}
use Rattle.session_flows.specs.Keeping.{with_sending}
use Rattle.session_flows.specs.Timing.{is_any_late, overdue_in, overdue_done}
use Rattle.session_flows.specs.Packing.{is_data_due}
use Rattle.endpoint_model.specs.declared.row.Row.{Row}
use Rattle.endpoint_model.specs.declared.row_due.RowDue.{RowDue}
use Rattle.endpoint_model.specs.declared.row_due.RowDue.TheVariants.{Session as SessionOf, Abandon, Data, Keepalive}
use Rattle.endpoint_model.specs.Event.{Setup, Call}
use Rattle.endpoint_model.specs.State.{State, nothing, with_row}
use Rattle.endpoint_model.specs.FlowTimes.{late_marked, end_due, abandon_due, row_due, data_packed, data_body, row_due_done}
use Rattle.endpoint_laws.specs.Contexts.{Secrets}
use Rattle.endpoint_laws.specs.Past.{Past}
use Rattle.endpoint_laws.specs.Lawful.{IsTick}
use Rattle.endpoint_laws.proofs.Tied.{Tied}
use Rattle.endpoint_laws.proofs.Going.{Goes}
use Rattle.endpoint_laws.proofs.InSessions.{goes_and_home}
use Rattle.endpoint_laws.proofs.OutSends.{Sent, Meets}
use Rattle.endpoint_laws.proofs.OutSessions.{and_home, meets_kept_alive, meets_session_due}
use Rattle.endpoint_laws.proofs.Hearing.{IsKnown}
use Rattle.endpoint_laws.proofs.SessionChunks.{goes_kept_alive, goes_session_due}
use Rattle.endpoint_laws.proofs.OnFlows.{IsLike, like_itself, goes_unseen, meets_unseen, goes_done, meets_done}
use Rattle.endpoint_laws.proofs.FlowData.{data_is_modest}

-- ---- numbers that are lost by time

like_if : (late : Bool) (moment : ℕ) (session : SessionState) → IsLike moment session (if late then with_loss true session else session)
like_if true moment session = record {
  alike = record { joined = refl; own = refl; generation = refl; inward = refl; outward = refl; role = refl; held = refl; thing = λ e. refl; stage = λ f. f; since = λ e. inl refl };
  descends = record { same = refl; opening = λ e. (e, refl) };
  sealed = refl;
}
like_if false moment session = like_itself moment session

-- the session in a row in which they are marked
pub late_like : (moment : ℕ) (row : Row) → IsLike moment row.session (late_marked moment row).session
late_like moment row = like_if (is_any_late row.session row.flows moment) moment row.session

-- ---- what is due of a session

-- its end comes first
end_is : (a : Option SessionDue) (b : Option (ℕ × ℕ)) (c d : Bool) (due : SessionDue) →
    first_that_stands (end_due a ∷ abandon_due b ∷ where_true c Data ∷ where_true d Keepalive ∷ []) ≡ Some (SessionOf due) → a ≡ Some due
end_is (Some first) b c d due e = let same : first ≡ due = cc in ap (λ (x : SessionDue). Some x) same
end_is None (Some found) c d due e = absurd (cc)
end_is None None true d due e = absurd (cc)
end_is None None false true due e = absurd (cc)
end_is None None false false due e = absurd (cc)

module _ (secrets : Secrets) (setup : Setup) (call : Call) (is_tick : IsTick call) (past : Past) (s : State) (tied : Tied secrets setup past s) (near : ℕ) (row : Row) (there : get s.sessions near ≡ Some row)
    (known : IsKnown past s.moment near row.session) where
  -- the row whose flows went
  abbrev sent_row : Row
  sent_row = record row { flows = with_sending row.flows (data_packed row s.moment).sending }

  goes_packed : Goes secrets setup call past s (nothing (with_row s near sent_row))
  goes_packed = goes_unseen s near row sent_row there (like_itself s.moment row.session) [] tt secrets setup call past tied

  pub goes_row_due : (due : RowDue) → row_due s.moment row ≡ Some due → Goes secrets setup call past s (row_due_done s near row due)
  goes_row_due (SessionOf due) is =
      goes_session_due secrets setup call is_tick past s tied near row there known due
      (end_is (first_due row.session s.moment) (overdue_in row.session row.flows s.moment) (is_data_due row.session row.flows s.moment) (needs_keepalive row.session s.moment) due is)
  goes_row_due (Abandon flow seq) is = goes_done s near row there (overdue_done row.flows (Some (flow, seq))) secrets setup call past tied
  goes_row_due Data is = goes_and_home secrets setup call s near (data_body row s.moment) past (nothing (with_row s near sent_row)) goes_packed
  goes_row_due Keepalive is = goes_kept_alive secrets setup call is_tick past s tied near row there known

  module _ (sent : Sent secrets setup past s) where
    meets_packed : Meets secrets setup s.moment call past (nothing (with_row s near sent_row))
    meets_packed = meets_unseen s near row sent_row there (like_itself s.moment row.session) [] tt secrets setup call past sent

    pub meets_row_due : (due : RowDue) → Meets secrets setup s.moment call past (row_due_done s near row due)
    meets_row_due (SessionOf due) = meets_session_due secrets setup call is_tick past s sent tied near row there known due
    meets_row_due (Abandon flow seq) = meets_done s near row there (overdue_done row.flows (Some (flow, seq))) secrets setup call past sent
    meets_row_due Data = and_home secrets setup call past s near (nothing (with_row s near sent_row)) goes_packed meets_packed (data_body row s.moment) (data_is_modest row s.moment)
    meets_row_due Keepalive = meets_kept_alive secrets setup call is_tick past s sent tied near row there known
