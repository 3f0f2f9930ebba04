-- What an end does of its sessions: each datagram that goes out meets its line.
use Rattle.std.proofs.Common.{◌≡◌, ℕ, ◌≤◌, List, [], ◌∷◌, length, Bool, true, false, ◌||◌, if◌then◌else◌, Option, Some, None, inl, inr, ◌⊎◌, refl, sym, ◌∙◌, arith}
use Rattle.std.specs.Prelude.{◌==◌}
use Rattle.std.specs.FinMap.{get}
use Rattle.rtmfp_forms.specs.Address.{AddressParts}
use Rattle.rtmfp_packet.specs.Walk.{Placed}
use Rattle.rtmfp_packet.specs.Whole.{Whole}
use Rattle.rtmfp_chunks.specs.Chunk.{Ping, Close as CloseChunk, CloseAck}
use Rattle.rtmfp_chunks.specs.Writing.{chunk_bytes}
use Rattle.glare_core.specs.declared.facts.Why.{Why}
use Rattle.glare_core.specs.declared.facts.Why.TheVariants.{Near, Far, Unconfirmed as NotConfirmed, Idle as WasIdle}
use Rattle.glare_core.specs.declared.facts.Fact.{Fact}
use Rattle.glare_core.specs.declared.facts.Fact.TheVariants.{Ended}
use Rattle.glare_core.specs.declared.facts.Held.{Held}
use Rattle.glare_core.specs.Ledger.{held_with}
use Rattle.glare_core.specs.Things.{near_of}
use Rattle.glare_core.specs.Calls.{ended_fact}
use Rattle.startup.specs.Attempts.{session_in, end_fact, after_end_by}
use Rattle.session_core.specs.declared.stage.Stage.TheVariants.{NearClose, FarLinger}
use Rattle.session_core.specs.declared.stage.SessionDue.{SessionDue}
use Rattle.session_core.specs.declared.stage.SessionDue.TheVariants.{Unconfirmed, Idle, Over, RepeatClose}
use Rattle.session_core.specs.Session.{SessionState}
use Rattle.session_core.specs.Closing.{is_held, is_near_close, closed_near, asked_to_close, needs_keepalive, kept_alive}
use Rattle.mobility.specs.declared.pending.Test.{Test}
use Rattle.mobility.specs.Tests.{asks, after_seen, address_for, after_reply}
use Rattle.endpoint_model.specs.declared.row.Row.{Row}
use Rattle.endpoint_model.specs.declared.config.Draws.{Draws}
use Rattle.endpoint_model.specs.declared.place.Place.{Place}
use Rattle.endpoint_model.specs.declared.place.Place.TheVariants.{Startup, Attempt, Session}
use Rattle.endpoint_model.specs.declared.entry.Entry.TheVariants.{Fact as FactEntry, Closed, Moved}
use Rattle.endpoint_model.specs.Event.{Setup, Call, Close, Receive}
use Rattle.endpoint_model.specs.State.{State, Did, nothing, then_do, fact_entries, with_startup, with_row, with_session}
use Rattle.endpoint_model.specs.Keying.{IsAmong, chunks_of}
use Rattle.endpoint_model.specs.Sending.{sent_in_session}
use Rattle.endpoint_model.specs.InSessions.{held_row, sent_home, ended_as, dropped, closed, closing_by, closing, lingering, close_taken_by, moved_where, moved_by, told_in_session, test_begun, tested_by, tested, session_due_done, kept_alive_by}
use Rattle.endpoint_model.proofs.Members.{tested as tested_number}
use Rattle.endpoint_laws.specs.Contexts.{Secrets}
use Rattle.endpoint_laws.specs.Past.{Past, Stamped, stamped, onto}
use Rattle.endpoint_laws.specs.Lawful.{IsTick}
use Rattle.endpoint_laws.proofs.Tied.{Tied}
use Rattle.endpoint_laws.proofs.OutNumbers.{numbered_removed}
use Rattle.endpoint_laws.proofs.OutSends.{Measured, measured, Sent, Meets, meets_nothing, meets_then, AreShort}
use Rattle.endpoint_laws.proofs.Staged.{Staged, tags_quiet, beside_quiet, stages_beside, kept_ended, staged_alike}
use Rattle.endpoint_laws.proofs.OutItems.{IsLight, measured_facts, measured_session, lines_facts, sent_session_changed, sent_quiet}
use Rattle.endpoint_laws.proofs.OutPackets.{IsModest, one_is_modest}
use Rattle.endpoint_laws.proofs.Replies.{says, home_by}
use Rattle.endpoint_laws.proofs.Going.{Goes}
use Rattle.endpoint_laws.proofs.Hearing.{IsKnown}
use Rattle.endpoint_laws.proofs.Passing.{PassedIn}
use Rattle.endpoint_laws.proofs.SessionChunks.{held_is_there, goes_near, closes, goes_pending, goes_again, goes_alive}

ended_light : (o : Option Held) (peer : List ℕ) (why : Why) → IsLight (ended_fact o peer why)
ended_light None peer why = tt
ended_light (Some thing) peer why = tt

close_is_modest : IsModest (chunk_bytes CloseChunk)
close_is_modest = one_is_modest CloseChunk (omega arith) (omega arith) (omega arith)

ack_is_modest : IsModest (chunk_bytes CloseAck)
ack_is_modest = one_is_modest CloseAck (omega arith) (omega arith) (omega arith)

ping_is_modest : (bytes : List ℕ) → length bytes ≤ 1024 → IsModest (chunk_bytes (Ping bytes))
ping_is_modest bytes short = one_is_modest (Ping bytes) (omega arith) (omega arith) (omega arith)

-- ---- what is kept when a session changes, ends, or is over

module _ (secrets : Secrets) (setup : Setup) (call : Call) (past : Past) (s : State) (sent : Sent secrets setup past s) (near : ℕ) (row : Row) (there : get s.sessions near ≡ Some row) where
  -- the attempts stay where a session ends
  short_after : (o : Option Fact) → AreShort (after_end_by s.startup row.session.joined.peer o).attempts
  short_after None = sent.short
  short_after (Some fact) = sent.short

  -- what answers its repeated keying is forgotten with it
  staged_over : (why : Why) (o : Option Held) →
      Staged secrets setup (onto s.moment (fact_entries (ended_fact o row.session.joined.peer why)) past) (with_startup s (after_end_by s.startup row.session.joined.peer (ended_fact o row.session.joined.peer why)))
  staged_over why None = staged_alike secrets setup past s (with_startup s s.startup) sent.staged refl
  staged_over why (Some thing) =
      let x : Stamped = stamped s.moment (FactEntry (Ended row.session.joined.peer (near_of thing) why)) in
      record {
        tags = tags_quiet past s.startup.attempts sent.staged.tags x refl refl;
        attempts = stages_beside secrets past s.startup.attempts sent.staged.attempts x (λ q. beside_quiet secrets q x refl refl refl);
        kept = kept_ended secrets setup past s.startup.kept sent.staged.kept sent.sized s.moment (Ended row.session.joined.peer (near_of thing) why);
      }

  meets_ended : (why : Why) (left : SessionState) → left.joined ≡ row.session.joined → left.own ≡ row.session.own → left.role ≡ row.session.role → left.generation ≡ row.session.generation → left.sealed ≡ row.session.sealed → Meets secrets setup s.moment call past (ended_as s near row why left)
  meets_ended why left joined own role generation count =
      let peer : List ℕ = row.session.joined.peer in
      let o : Option Fact = end_fact s.startup peer why in
      let told : Past = onto s.moment (fact_entries o) past in
      let after : Measured setup told s = measured_facts setup past s s.moment o (measured secrets setup past s sent) (ended_light (session_in (held_with s.startup.ledger peer)) peer why) in
      let changed : Measured setup told (with_session s near row left) = measured_session setup told s near row (record row { session = left }) after there joined own role generation count in
      let staged = staged_over why (session_in (held_with s.startup.ledger peer)) in
      record {
        lines = lines_facts secrets setup s.moment call past o;
        sent = record { numbered = changed.numbered; sized = changed.sized; short = short_after o; rows = sent.rows; staged = record { tags = staged.tags; attempts = staged.attempts; kept = staged.kept } };
      }

  meets_dropped : (why : Why) → Meets secrets setup s.moment call past (dropped s near row why)
  meets_dropped why =
      let peer : List ℕ = row.session.joined.peer in
      let o : Option Fact = end_fact s.startup peer why in
      let told : Past = onto s.moment (fact_entries o) past in
      let after : Measured setup told s = measured_facts setup past s s.moment o (measured secrets setup past s sent) (ended_light (session_in (held_with s.startup.ledger peer)) peer why) in
      let staged = staged_over why (session_in (held_with s.startup.ledger peer)) in
      record {
        lines = lines_facts secrets setup s.moment call past o;
        sent = record { numbered = numbered_removed _ _ s.sealed s.sessions after.numbered near; sized = after.sized; short = short_after o; rows = sent.rows; staged = record { tags = staged.tags; attempts = staged.attempts; kept = staged.kept } };
      }

  meets_changed : (new : Row) → new.session.joined ≡ row.session.joined → new.session.own ≡ row.session.own → new.session.role ≡ row.session.role → new.session.generation ≡ row.session.generation → new.session.sealed ≡ row.session.sealed → Meets secrets setup s.moment call past (nothing (with_row s near new))
  meets_changed new joined own role generation count = meets_nothing secrets setup s.moment call past (with_row s near new) (sent_session_changed secrets setup past s near row new sent there joined own role generation count)

  meets_moved : (new : Row) (to : AddressParts) → new.session.joined ≡ row.session.joined → new.session.own ≡ row.session.own → new.session.role ≡ row.session.role → new.session.generation ≡ row.session.generation → new.session.sealed ≡ row.session.sealed →
      Meets secrets setup s.moment call past (record { state = with_row s near new; entries = Moved near to ∷ [] })
  meets_moved new to joined own role generation count =
      let after : Sent secrets setup (stamped s.moment (Moved near to) ∷ past) s = sent_quiet secrets setup past s sent (stamped s.moment (Moved near to)) refl refl refl in
      record { lines = (tt, tt); sent = sent_session_changed secrets setup (stamped s.moment (Moved near to) ∷ past) s near row new after there joined own role generation count }

meets_closed : (secrets : Secrets) (setup : Setup) (call : Call) (past : Past) (s : State) → Sent secrets setup past s → (near : ℕ) → Meets secrets setup s.moment call past (closed s near)
meets_closed secrets setup call past s sent near =
    let quiet : Sent secrets setup (stamped s.moment (Closed near) ∷ past) s = sent_quiet secrets setup past s sent (stamped s.moment (Closed near)) refl refl refl in
    record {
      lines = (tt, tt);
      sent = record {
        numbered = numbered_removed _ (stamped s.moment (Closed near) ∷ past) s.sealed s.sessions quiet.numbered near;
        sized = sent.sized;
        short = sent.short;
        rows = sent.rows;
        staged = record { tags = quiet.staged.tags; attempts = quiet.staged.attempts; kept = quiet.staged.kept };
      };
    }

-- ---- a body to the session's address

-- something, and then that
module _ (secrets : Secrets) (setup : Setup) (call : Call) (past : Past) (s : State) (near : ℕ) (d : Did) (goes : Goes secrets setup call past s d) (meets : Meets secrets setup s.moment call past d) where
  pub and_home : (body : List ℕ) → IsModest body → Meets secrets setup s.moment call past (then_do d (λ t. sent_home t near body))
  and_home body modest = meets_then secrets setup s.moment call past d (λ t. sent_home t near body) meets
      (home_by secrets setup s.moment call (onto s.moment d.entries past) d.state meets.sent goes.tied near body modest (get d.state.sessions near) refl)

  and_said : (to : AddressParts) (body : List ℕ) → IsModest body → Meets secrets setup s.moment call past (then_do d (λ t. sent_in_session t near to body))
  and_said to body modest = meets_then secrets setup s.moment call past d (λ t. sent_in_session t near to body) meets
      (says secrets setup s.moment call (onto s.moment d.entries past) d.state meets.sent goes.tied near to body modest (get d.state.sessions near) refl)

-- ---- what stays of a session that closes or lingers

same_joined : (b : Bool) (x y : SessionState) → x.joined ≡ y.joined → (if b then x else y).joined ≡ y.joined
same_joined true x y e = e
same_joined false x y e = refl

same_own : (b : Bool) (x y : SessionState) → x.own ≡ y.own → (if b then x else y).own ≡ y.own
same_own true x y e = e
same_own false x y e = refl

same_role : (b : Bool) (x y : SessionState) → x.role ≡ y.role → (if b then x else y).role ≡ y.role
same_role true x y e = e
same_role false x y e = refl

same_generation : (b : Bool) (x y : SessionState) → x.generation ≡ y.generation → (if b then x else y).generation ≡ y.generation
same_generation true x y e = e
same_generation false x y e = refl

same_sealed : (b : Bool) (x y : SessionState) → x.sealed ≡ y.sealed → (if b then x else y).sealed ≡ y.sealed
same_sealed true x y e = e
same_sealed false x y e = refl

module _ (secrets : Secrets) (setup : Setup) (call : Call) (past : Past) (s : State) (sent : Sent secrets setup past s) (near : ℕ) (row : Row) (there : get s.sessions near ≡ Some row) where
  ended_if : (why : Why) (b : Bool) (left : SessionState) → left.joined ≡ row.session.joined → left.own ≡ row.session.own → left.role ≡ row.session.role → left.generation ≡ row.session.generation → left.sealed ≡ row.session.sealed →
      Meets secrets setup s.moment call past (ended_as s near row why (if b then left else row.session))
  ended_if why b left joined own role generation count =
      meets_ended secrets setup call past s sent near row there why (if b then left else row.session) (same_joined b left row.session joined) (same_own b left row.session own) (same_role b left row.session role) (same_generation b left row.session generation) (same_sealed b left row.session count)

  changed_if : (b : Bool) (left : SessionState) → left.joined ≡ row.session.joined → left.own ≡ row.session.own → left.role ≡ row.session.role → left.generation ≡ row.session.generation → left.sealed ≡ row.session.sealed →
      Meets secrets setup s.moment call past (nothing (with_session s near row (if b then left else row.session)))
  changed_if b left joined own role generation count =
      meets_changed secrets setup call past s sent near row there (record row { session = if b then left else row.session }) (same_joined b left row.session joined) (same_own b left row.session own) (same_role b left row.session role) (same_generation b left row.session generation) (same_sealed b left row.session count)

  either_meets : (b : Bool) (d e : Did) → Meets secrets setup s.moment call past d → Meets secrets setup s.moment call past e → Meets secrets setup s.moment call past (if b then d else e)
  either_meets true d e p q = p
  either_meets false d e p q = q

  meets_lingering : Meets secrets setup s.moment call past (lingering s near row)
  meets_lingering =
      let asked : Bool = is_held row.session.stage || is_near_close row.session.stage in
      either_meets (is_held row.session.stage) (ended_as s near row Far (asked_to_close s.moment row.session)) (nothing (with_session s near row (asked_to_close s.moment row.session)))
      (ended_if Far asked (record row.session { stage = FarLinger; since = s.moment }) refl refl refl refl refl) (changed_if asked (record row.session { stage = FarLinger; since = s.moment }) refl refl refl refl refl)

-- ---- a call that closes a session

module _ (secrets : Secrets) (setup : Setup) (past : Past) (s : State) (sent : Sent secrets setup past s) (tied : Tied secrets setup past s) (near : ℕ) where
  closing_found : (o : Option Row) → held_row s near ≡ o → Meets secrets setup s.moment (Close near) past (closing_by s near o)
  closing_found None is = meets_nothing secrets setup s.moment (Close near) past s sent
  closing_found (Some row) is =
      let found = held_is_there (get s.sessions near) row is in
      and_home secrets setup (Close near) past s near (ended_as s near row Near (closed_near s.moment row.session)) (goes_near secrets setup s near row is past tied)
      (ended_if secrets setup (Close near) past s sent near row found.0 Near (is_held row.session.stage) (record row.session { stage = NearClose; since = s.moment; close_sent = Some s.moment }) refl refl refl refl refl)
      (chunk_bytes CloseChunk) close_is_modest

  pub meets_closing : Meets secrets setup s.moment (Close near) past (closing s near)
  meets_closing = closing_found (held_row s near) refl

-- ---- closes, their answers, and answers to pings

module _ (secrets : Secrets) (setup : Setup) (from : AddressParts) (datagram : List ℕ) (draws : Draws) (packet : Whole) (past : Past) (s : State) (tied : Tied secrets setup past s) (sent : Sent secrets setup past s) (near : ℕ)
    (passed : PassedIn past near datagram packet s) (c : Placed) (among : (c.kind ≡ 0x0c) ⊎ (c.kind ≡ 0x4c) → IsAmong c (chunks_of packet)) where
  abbrev call : Call
  call = Receive from datagram draws

  taken : (o : Option Row) → get s.sessions near ≡ o → c.kind ≡ 0x0c → Meets secrets setup s.moment call past (close_taken_by s near o)
  taken None is kind = meets_nothing secrets setup s.moment call past s sent
  taken (Some row) is kind =
      and_home secrets setup call past s near (lingering s near row) (closes secrets setup from datagram draws packet past s tied near passed c among row is kind (is_held row.session.stage) refl)
      (meets_lingering secrets setup call past s sent near row is) (chunk_bytes CloseAck) ack_is_modest

  moved_to_where : (row : Row) → get s.sessions near ≡ Some row → (moves : Option Test) (o : Option AddressParts) → Meets secrets setup s.moment call past (moved_where s near row moves o)
  moved_to_where row is moves None = meets_nothing secrets setup s.moment call past s sent
  moved_to_where row is moves (Some to) = meets_moved secrets setup call past s sent near row is _ to refl refl refl refl refl

  moved : (o : Option Row) → get s.sessions near ≡ o → Meets secrets setup s.moment call past (moved_by s near from c.payload o)
  moved None is = meets_nothing secrets setup s.moment call past s sent
  moved (Some row) is = moved_to_where row is (after_reply row.moves from c.payload) (address_for row.moves from c.payload)

  by_kinds : (a b : Bool) → (c.kind == 0x0c) ≡ a → Meets secrets setup s.moment call past (if a then close_taken_by s near (get s.sessions near) else if b then closed s near else moved_by s near from c.payload (get s.sessions near))
  by_kinds true b e = taken (get s.sessions near) refl (is_close c.kind e)
    where
      is_close : (k : ℕ) → (k == 0x0c) ≡ true → k ≡ 0x0c
      is_close k e = elim (tested_number k 0x0c) [ inl is ↦ is.0 | inr other ↦ absurd (let clash : true ≡ false = sym e ∙ other.1 in cc) ]
  by_kinds false true e = meets_closed secrets setup call past s sent near
  by_kinds false false e = moved (get s.sessions near) refl

  pub meets_told : Meets secrets setup s.moment call past (told_in_session s near from c)
  meets_told = by_kinds (c.kind == 0x0c) (c.kind == 0x4c) refl

-- ---- a test of an address

module _ (secrets : Secrets) (setup : Setup) (call : Call) (past : Past) (s : State) (sent : Sent secrets setup past s) (tied : Tied secrets setup past s) (from : AddressParts) (draws : Draws) (token : length draws.token ≡ 16) where
  begun : (near : ℕ) (row : Row) → get s.sessions near ≡ Some row → Meets secrets setup s.moment call past (test_begun s near row from draws.token)
  begun near row is =
      let new : Row = record row { moves = after_seen row.moves row.session.address from draws.token s.moment } in
      and_said secrets setup call past s near (nothing (with_row s near new)) (goes_pending secrets setup call s from draws near row is past tied) (meets_changed secrets setup call past s sent near row is new refl refl refl refl refl) from
      (chunk_bytes (Ping draws.token)) (ping_is_modest draws.token (omega (arith, token)))

  tested_found : (near : ℕ) (o : Option Row) → held_row s near ≡ o → Meets secrets setup s.moment call past (tested_by s near from draws.token o)
  tested_found near None is = meets_nothing secrets setup s.moment call past s sent
  tested_found near (Some row) is =
      let found = held_is_there (get s.sessions near) row is in
      by (asks row.moves row.session.address from s.moment) (begun near row found.0)
    where
      by : (b : Bool) → Meets secrets setup s.moment call past (test_begun s near row from draws.token) → Meets secrets setup s.moment call past (if b then test_begun s near row from draws.token else nothing s)
      by true m = m
      by false m = meets_nothing secrets setup s.moment call past s sent

  pub meets_tested : (place : Place) → Meets secrets setup s.moment call past (tested s place from draws)
  meets_tested (Startup generation) = meets_nothing secrets setup s.moment call past s sent
  meets_tested (Attempt near generation) = meets_nothing secrets setup s.moment call past s sent
  meets_tested (Session near) = tested_found near (held_row s near) refl

-- ---- time

module _ (secrets : Secrets) (setup : Setup) (call : Call) (is_tick : IsTick call) (past : Past) (s : State) (sent : Sent secrets setup past s) (tied : Tied secrets setup past s) (near : ℕ) (row : Row) (there : get s.sessions near ≡ Some row)
    (known : IsKnown past s.moment near row.session) where
  pub meets_kept_alive : Meets secrets setup s.moment call past (kept_alive_by s near row)
  meets_kept_alive =
      and_home secrets setup call past s near (nothing (with_session s near row (kept_alive s.moment row.session))) (goes_alive secrets setup call is_tick past s tied near row there known)
      (changed_if secrets setup call past s sent near row there (needs_keepalive row.session s.moment) (record row.session { keepalive = Some s.moment }) refl refl refl refl refl) (chunk_bytes (Ping [])) (ping_is_modest [] (omega arith))

  pub meets_session_due : (due : SessionDue) → Meets secrets setup s.moment call past (session_due_done s near row due)
  meets_session_due Unconfirmed = meets_dropped secrets setup call past s sent near row there NotConfirmed
  meets_session_due Idle = meets_dropped secrets setup call past s sent near row there WasIdle
  meets_session_due Over = meets_closed secrets setup call past s sent near
  meets_session_due RepeatClose =
      let again : SessionState = record row.session { close_sent = Some s.moment } in
      and_home secrets setup call past s near (nothing (with_session s near row again)) (goes_again secrets setup call is_tick past s tied near row there known)
      (meets_changed secrets setup call past s sent near row there (record row { session = again }) refl refl refl refl refl) (chunk_bytes CloseChunk) close_is_modest
