-- Sessions that are dropped, and those that go on.
use Rattle.std.proofs.Common.{ℕ, ◌≡◌, ◌≤◌, ◌+◌, ◌++◌, List, [], ◌∷◌, map, length, true, is_some, Option, Some, None, IfSome, refl, sym, ap, ◌∙◌, subst}
use Rattle.std.specs.FinMap.{get}
use Rattle.rtmfp_chunks.specs.Chunk.{Ping, Close as CloseChunk}
use Rattle.rtmfp_chunks.specs.Writing.{chunk_bytes}
use Rattle.glare_core.specs.declared.facts.Why.{Why}
use Rattle.session_core.specs.declared.stage.SessionDue.{SessionDue}
use Rattle.session_core.specs.declared.stage.SessionDue.TheVariants.{RepeatClose}
use Rattle.session_core.specs.Session.{SessionState}
use Rattle.session_core.specs.Closing.{first_due, after_due, kept_alive}
use Rattle.session_flows.specs.Keeping.{Stated}
use Rattle.session_flows.specs.Calling.{abandon_refused}
use Rattle.session_flows.specs.Timing.{overdue_in, overdue_done}
use Rattle.session_flows.proofs.Waits.{abandon_states}
use Rattle.session_table.specs.FlowTimes.{OverdueWaits, overdue_gone}
use Rattle.endpoint_model.specs.declared.entry.Entry.TheVariants.{Abandoned as AbandonedEntry}
use Rattle.endpoint_model.specs.OnFlows.{flow_entry, flows_done, with_flows}
use Rattle.endpoint_model.specs.declared.row.Row.{Row}
use Rattle.endpoint_model.specs.Added.{Added}
use Rattle.endpoint_model.specs.State.{State, Done, nothing, then_do, with_session, with_sessions, without_row}
use Rattle.endpoint_model.specs.InSessions.{sent_home}
use Rattle.endpoint_model.proofs.Steps.{done_nothing, joined}
use Rattle.rtmfp_base.proofs.Maps.{removed_none}
use Rattle.end_state.specs.Steps.{row_changed, session_changed, end_told}
use Rattle.end_loops.specs.DueItems.{abandoned_by, dropped_by, end_due_by, kept_alive_in}
use Rattle.end_state.proofs.Endings.{changed_done, none_home}

nothing_left : (s : State) (near : ℕ) → get s.sessions near ≡ None → without_row s near ≡ s
nothing_left s near none = ap (with_sessions s) (sym (removed_none s.sessions near none))

-- ---- it is dropped

pub dropped_done : (s t u : State) (near : ℕ) (why : Why) (before after : Added) → Done (end_told s why (get s.sessions near)) t before after → u ≡ without_row t near → Done (dropped_by s near why (get s.sessions near)) u before after
dropped_done s t u near why before after told gone = by (get s.sessions near) refl told
  where
    by : (o : Option Row) → get s.sessions near ≡ o → Done (end_told s why o) t before after → Done (dropped_by s near why o) u before after
    by None is d = record { state = gone ∙ ap (λ (x : State). without_row x near) d.state ∙ nothing_left s near is; entries = d.entries; free = d.free; room = d.room }
    by (Some row) is d = record { state = gone ∙ ap (λ (x : State). without_row x near) d.state; entries = d.entries; free = d.free; room = d.room }

-- ---- what it is sent again, and keepalives

-- the session changes, and something goes out in it
pub sent_on : (s t u : State) (near : ℕ) (change : ℕ → SessionState → SessionState) (row : Row) (body : List ℕ) (before after : Added) → get s.sessions near ≡ Some row →
    t ≡ session_changed change s near (get s.sessions near) → Done (sent_home t near body) u before after →
    Done (then_do (nothing (with_session s near row (change s.moment row.session))) (λ x. sent_home x near body)) u before after
sent_on s t u near change row body before after found changed home =
    joined (nothing (with_session s near row (change s.moment row.session))) (λ x. sent_home x near body) t u before before after (changed_done s t near change row before found changed) home

pub kept_alive_done : (s t u : State) (near : ℕ) (before after : Added) → t ≡ session_changed kept_alive s near (get s.sessions near) →
    Done (sent_home t near (chunk_bytes (Ping []))) u before after → Done (kept_alive_in s near (get s.sessions near)) u before after
kept_alive_done s t u near before after changed home = by (get s.sessions near) refl
  where
    by : (o : Option Row) → get s.sessions near ≡ o → Done (kept_alive_in s near o) u before after
    by None is = none_home s t u near (chunk_bytes (Ping [])) before before after is (subst (λ (x : State). Done (nothing s) x before before) (sym (changed ∙ ap (session_changed kept_alive s near) is)) (done_nothing s before)) home
    by (Some row) is = sent_on s t u near kept_alive row (chunk_bytes (Ping [])) before after is changed home

-- what is due counts as done
abbrev pub due_noted : ℕ → SessionState → SessionState
due_noted moment x = after_due (first_due x moment) moment x

pub repeated_done : (s t u : State) (near : ℕ) (before after : Added) → IfSome (get s.sessions near) (λ (row : Row). first_due row.session s.moment ≡ Some RepeatClose) →
    t ≡ session_changed due_noted s near (get s.sessions near) → Done (sent_home t near (chunk_bytes CloseChunk)) u before after → Done (end_due_by s near RepeatClose (get s.sessions near)) u before after
repeated_done s t u near before after due changed home = by (get s.sessions near) refl due
  where
    by : (o : Option Row) → get s.sessions near ≡ o → IfSome o (λ (row : Row). first_due row.session s.moment ≡ Some RepeatClose) → Done (end_due_by s near RepeatClose o) u before after
    by None is d = none_home s t u near (chunk_bytes CloseChunk) before before after is (subst (λ (x : State). Done (nothing s) x before before) (sym (changed ∙ ap (session_changed due_noted s near) is)) (done_nothing s before)) home
    by (Some row) is d =
        let P : Option SessionDue → Type 0 = λ due. Done (then_do (nothing (with_session s near row (after_due due s.moment row.session))) (λ x. sent_home x near (chunk_bytes CloseChunk))) u before after in
        subst P d (sent_on s t u near due_noted row (chunk_bytes CloseChunk) before after is changed home)

-- ---- a message is sent no longer

stated_as : (s : State) (near flow seq : ℕ) (row : Row) (before after : Added) → abandon_refused row.flows flow seq ≡ None → after.entries ≡ before.entries ++ AbandonedEntry near flow seq ∷ [] →
    after.entries ≡ before.entries ++ (flows_done s near row (overdue_done row.flows (Some (flow, seq)))).entries
stated_as s near flow seq row before after may entries =
    entries ∙ sym (ap (λ (stated : List Stated). before.entries ++ map (flow_entry near) stated) (abandon_states row.flows flow seq may))

entry_count : (s : State) (near flow seq : ℕ) (row : Row) → abandon_refused row.flows flow seq ≡ None → length (flows_done s near row (overdue_done row.flows (Some (flow, seq)))).entries ≡ 1
entry_count s near flow seq row may = ap (λ (stated : List Stated). length (map (flow_entry near) stated)) (abandon_states row.flows flow seq may)

pub abandoned_done : (s t : State) (near flow seq : ℕ) (before after : Added) → is_some (get s.sessions near) ≡ true →
    IfSome (get s.sessions near) (λ (row : Row). overdue_in row.session row.flows s.moment ≡ Some (flow, seq)) → IfSome (get s.sessions near) (λ (row : Row). OverdueWaits s.moment row) →
    t ≡ row_changed overdue_gone s near (get s.sessions near) → after.entries ≡ before.entries ++ AbandonedEntry near flow seq ∷ [] → before.free ≤ after.free + 1 → after.room ≡ before.room →
    Done (abandoned_by s near flow seq (get s.sessions near)) t before after
abandoned_done s t near flow seq before after there due waits changed entries free room = by (get s.sessions near) there due waits changed
  where
    by : (o : Option Row) → is_some o ≡ true → IfSome o (λ (row : Row). overdue_in row.session row.flows s.moment ≡ Some (flow, seq)) → IfSome o (λ (row : Row). OverdueWaits s.moment row) →
        t ≡ row_changed overdue_gone s near o → Done (abandoned_by s near flow seq o) t before after
    by None some is may left = absurd (cc)
    by (Some row) some is may left =
        let refused : abandon_refused row.flows flow seq ≡ None = subst (λ (f : Option (ℕ × ℕ)). IfSome f (λ found. abandon_refused row.flows found.0 found.1 ≡ None)) is may in
        record {
          state = left ∙ ap (λ (f : Option (ℕ × ℕ)). with_flows s near row (overdue_done row.flows f).flows) is;
          entries = stated_as s near flow seq row before after refused entries;
          free = subst (λ (n : ℕ). before.free ≤ after.free + n) (sym (entry_count s near flow seq row refused)) free;
          room = room;
        }
