-- A session whose peer closes it.
use Rattle.std.proofs.Common.{if◌then◌else◌, ℕ, ◌≡◌, Bool, true, false, is_some, Option, Some, None, refl, sym, ap, subst}
use Rattle.std.specs.FinMap.{get}
use Rattle.rtmfp_chunks.specs.Chunk.{CloseAck}
use Rattle.rtmfp_chunks.specs.Writing.{chunk_bytes}
use Rattle.glare_core.specs.declared.facts.Why.TheVariants.{Far}
use Rattle.session_core.specs.Closing.{is_held, asked_to_close}
use Rattle.endpoint_model.specs.declared.row.Row.{Row}
use Rattle.endpoint_model.specs.declared.entry.Entry.{Entry}
use Rattle.endpoint_model.specs.Added.{Added}
use Rattle.endpoint_model.specs.State.{State, Did, Done, nothing, with_session}
use Rattle.endpoint_model.specs.InSessions.{held_row, if_held, ended_as, lingering, close_taken_by, sent_home}
use Rattle.endpoint_model.proofs.Steps.{joined}
use Rattle.end_state.specs.Steps.{Gives, session_changed, end_told}
use Rattle.end_chunks.specs.Steps.{lingering_by}
use Rattle.end_state.proofs.Endings.{ended_gives, held_is, none_home}
use Rattle.end_state.proofs.Giving.{gives_nothing}

-- ---- its peer closes it

lingers_as : (s : State) (near : ℕ) (row : Row) (b : Bool) → is_held row.session.stage ≡ b →
    (if b then ended_as s near row Far (asked_to_close s.moment row.session) else nothing (with_session s near row (asked_to_close s.moment row.session))) ≡ lingering s near row
lingers_as s near row b e =
    ap (λ (x : Bool). if x then ended_as s near row Far (asked_to_close s.moment row.session) else nothing (with_session s near row (asked_to_close s.moment row.session))) (sym e)

pub held_lingers : (s t u : State) (near : ℕ) (entry : Option Entry) → is_some (held_row s near) ≡ true → Gives (end_told s Far (get s.sessions near)) t entry →
    u ≡ session_changed asked_to_close t near (get t.sessions near) → Gives (lingering_by s near (get s.sessions near)) u entry
held_lingers s t u near entry held told changed =
    let found = held_is (get s.sessions near) held in
    let ended = ended_gives s t u near Far asked_to_close found.row entry found.is told changed in
    subst (λ (o : Option Row). Gives (lingering_by s near o) u entry) (sym found.is) (subst (λ (d : Did). Gives d u entry) (lingers_as s near found.row true found.stage) ended)

pub other_lingers : (s u : State) (near : ℕ) → is_some (held_row s near) ≡ false → u ≡ session_changed asked_to_close s near (get s.sessions near) →
    Gives (lingering_by s near (get s.sessions near)) u None
other_lingers s u near held changed = by (get s.sessions near) held changed refl
  where
    stage : (row : Row) (b : Bool) → is_held row.session.stage ≡ b → is_some (if b then Some row else None) ≡ false → is_held row.session.stage ≡ false
    stage row true is e = absurd (cc)
    stage row false is e = is

    by : (o : Option Row) → is_some (if_held o) ≡ false → u ≡ session_changed asked_to_close s near o → get s.sessions near ≡ o → Gives (lingering_by s near o) u None
    by None e changed is = subst (λ (x : State). Gives (nothing s) x None) (sym changed) (gives_nothing s)
    by (Some row) e changed is =
        subst (λ (d : Did). Gives d u None) (lingers_as s near row false (stage row (is_held row.session.stage) refl e))
        (subst (λ (x : State). Gives (nothing (with_session s near row (asked_to_close s.moment row.session))) x None) (sym changed) (gives_nothing (with_session s near row (asked_to_close s.moment row.session))))

pub taken_close : (s t u : State) (near : ℕ) (before between after : Added) → Done (lingering_by s near (get s.sessions near)) t before between →
    Done (sent_home t near (chunk_bytes CloseAck)) u between after → Done (close_taken_by s near (get s.sessions near)) u before after
taken_close s t u near before between after lingers home = by (get s.sessions near) refl lingers
  where
    by : (o : Option Row) → get s.sessions near ≡ o → Done (lingering_by s near o) t before between → Done (close_taken_by s near o) u before after
    by None is l = none_home s t u near (chunk_bytes CloseAck) before between after is l home
    by (Some row) is l = joined (lingering s near row) (λ x. sent_home x near (chunk_bytes CloseAck)) t u before between after l home
