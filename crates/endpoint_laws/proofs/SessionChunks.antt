-- What closes, their answers, answers to pings, tests of addresses, and time do to a session: what is stated is lawful, and the state agrees with it.
use Rattle.std.proofs.Common.{◌≡◌, ℕ, ◌+◌, ◌≤◌, suc, List, [], ◌∷◌, Bool, true, false, ◌&&◌, if◌then◌else◌, Option, Some, None, ◌||◌, inl, inr, ◌⊎◌, refl, sym, ap, subst, ◌∙◌, arith}
use Rattle.std.specs.Prelude.{◌==◌}
use Rattle.std.proofs.lemmas.Bool.Decides.{nat_tests}
use Rattle.std.specs.FinMap.{get}
use Rattle.crypto_profile.specs.declared.keys.Context.{Context}
use Rattle.rtmfp_forms.specs.Address.{AddressParts}
use Rattle.rtmfp_packet.specs.declared.head.Mode.{Mode}
use Rattle.rtmfp_packet.specs.Walk.{Placed}
use Rattle.rtmfp_packet.specs.Whole.{Whole}
use Rattle.rtmfp_chunks.specs.Chunk.{Chunk, Spells, Ping, Close as CloseChunk, CloseAck}
use Rattle.rtmfp_chunks.specs.Writing.{chunk_bytes}
use Rattle.glare_core.specs.declared.facts.Why.TheVariants.{Near, Far, Unconfirmed as NotConfirmed, Idle as WasIdle}
use Rattle.glare_core.specs.declared.facts.Joined.{Joined}
use Rattle.glare_core.specs.declared.facts.Held.{Held}
use Rattle.glare_core.specs.declared.facts.Held.TheVariants.{HalfOpen}
use Rattle.glare_core.specs.Standing.{held}
use Rattle.glare_core.specs.Things.{IsHalfOpen, IsSession, IsKept}
use Rattle.rtmfp_base.specs.Reasons.{where_true, first_that_stands}
use Rattle.session_core.specs.declared.stage.Role.{Role}
use Rattle.session_core.specs.declared.stage.Role.TheVariants.{Initiator, Responder}
use Rattle.session_core.specs.declared.stage.Stage.{Stage}
use Rattle.session_core.specs.declared.stage.Stage.TheVariants.{Opening, Open, NearClose, FarLinger, Closed}
use Rattle.session_core.specs.declared.stage.SessionDue.{SessionDue}
use Rattle.session_core.specs.declared.stage.SessionDue.TheVariants.{Unconfirmed, Idle, Over, RepeatClose}
use Rattle.session_core.specs.Session.{SessionState, context_between, is_opening}
use Rattle.session_core.specs.Closing.{is_open, is_near_close, is_far_linger, is_held, is_past, is_past_last, is_over, closed_near, asked_to_close, first_due, needs_keepalive, kept_alive}
use Rattle.mobility.specs.declared.pending.Test.{Test}
use Rattle.mobility.specs.Tests.{asks, after_seen, address_for, after_reply}
use Rattle.endpoint_model.specs.declared.row.Row.{Row}
use Rattle.endpoint_model.specs.declared.config.Draws.{Draws}
use Rattle.endpoint_model.specs.declared.place.Place.{Place}
use Rattle.endpoint_model.specs.declared.place.Place.TheVariants.{Startup, Attempt, Session}
use Rattle.endpoint_model.specs.declared.entry.Entry.TheVariants.{Closed as ClosedEntry}
use Rattle.endpoint_model.specs.Event.{Setup, own_of, Call, Close, Receive}
use Rattle.endpoint_model.specs.State.{State, nothing, with_row, with_session, without_row}
use Rattle.endpoint_model.specs.Admission.{peers_mode}
use Rattle.endpoint_model.specs.Keying.{IsAmong, chunks_of}
use Rattle.endpoint_model.specs.Causes.{row_takes}
use Rattle.endpoint_model.specs.InSessions.{ended_as, closed as closed_entry, if_held, held_row, closing_by, closing, lingering, close_taken_by, moved_where, moved_by, told_in_session, test_begun, tested_by, tested, session_due_done, kept_alive_by}
use Rattle.endpoint_model.specs.Sending.{sent_in_session}
use Rattle.endpoint_model.proofs.Members.{tested as tested_number}
use Rattle.endpoint_laws.specs.Past.{Past, Taken, taken_since}
use Rattle.endpoint_laws.specs.Contexts.{inward, ReadsUnder, Secrets, BeganWith, BegunUnder}
use Rattle.endpoint_laws.specs.OfTheLog.{WasThing}
use Rattle.endpoint_laws.specs.Taken.{count_in, IsNewAfter, PassesIn, TookIn, TookAt, Passes, inward_mode, TakesChunkOf}
use Rattle.endpoint_laws.specs.Lawful.{IsTick, FarLine, IsIdle}
use Rattle.endpoint_laws.proofs.ByKind.{and_is}
use Rattle.endpoint_laws.proofs.Tied.{Tied, StageFits, HasKeys, thing_of}
use Rattle.endpoint_laws.proofs.Begun.{born_thing, begun_as}
use Rattle.endpoint_laws.proofs.Moving.{IsAlike, alike_itself}
use Rattle.endpoint_laws.proofs.Made.{in_session_made}
use Rattle.endpoint_laws.proofs.Going.{Goes, Keeps, goes_nothing, goes_then, keeps_if, goes_sends}
use Rattle.endpoint_laws.proofs.Hearing.{lasting, first_fact, IsKnown}
use Rattle.endpoint_laws.proofs.Passing.{Passed, PassedIn}
use Rattle.endpoint_laws.proofs.InSessions.{IsLeft, was_itself, held_facts, id, goes_ended, goes_dropped, goes_closed, goes_changed, goes_moved, goes_and_home}

-- ---- a session as the thing that it is or was

pub was_inward : (setup : Setup) (generation : ℕ) (role : Role) (j : Joined) (thing : Held) → WasThing role j thing → context_between generation j (own_of setup) role false ≡ inward setup generation thing
was_inward setup generation Initiator j thing w = ap (inward setup generation) (sym w)
was_inward setup generation Responder j thing (inl w) = ap (inward setup generation) (sym w)
was_inward setup generation Responder j thing (inr w) = ap (inward setup generation) (sym w)

was_mode : (role : Role) (j : Joined) (thing : Held) → WasThing role j thing → peers_mode role ≡ inward_mode thing
was_mode Initiator j thing w = ap inward_mode (sym w)
was_mode Responder j thing (inl w) = ap inward_mode (sym w)
was_mode Responder j thing (inr w) = ap inward_mode (sym w)

module _ (secrets : Secrets) (setup : Setup) (session : SessionState) (thing : Held) (own : session.own ≡ own_of setup) (was : WasThing session.role session.joined thing) where
  context : context_between session.generation session.joined session.own session.role false ≡ inward setup session.generation thing
  context = ap (λ (o : List ℕ). context_between session.generation session.joined o session.role false) own ∙ was_inward setup session.generation session.role session.joined thing was

  mode : peers_mode session.role ≡ inward_mode thing
  mode = was_mode session.role session.joined thing was

  -- what passes in the session, passes in it as this thing
  as_thing : (near : ℕ) (before : List Taken) (datagram : List ℕ) →
      PassesIn secrets (context_between session.generation session.joined session.own session.role false) (peers_mode session.role) near before datagram → Passes secrets setup session.generation thing near before datagram
  as_thing near before datagram p = record {
    packet = p.packet;
    reads = subst (λ (c : Context). ReadsUnder secrets c near datagram p.packet) context p.reads;
    number = subst (λ (c : Context). IsNewAfter secrets c near (count_in datagram) before) context p.number;
    mode_is = p.mode_is ∙ mode;
  }

  -- and what it took as this thing it took
  took_as : (near moment : ℕ) (taken : List Taken) →
      TookIn secrets (context_between session.generation session.joined session.own session.role false) (peers_mode session.role) near moment taken ≡ TookAt secrets setup session.generation thing near moment taken
  took_as near moment taken =
      ap (λ (c : Context). TookIn secrets c (peers_mode session.role) near moment taken) context
      ∙ ap (λ (m : Mode). TookIn secrets (inward setup session.generation thing) m near moment taken) mode

-- the session of a row takes a chunk of the call's datagram
takes_chunk : (secrets : Secrets) (setup : Setup) (past : Past) (from : AddressParts) (datagram : List ℕ) (draws : Draws) (packet : Whole) (session : SessionState) (near : ℕ) (thing : Held) → session.own ≡ own_of setup → HasKeys secrets session →
    BegunUnder secrets setup (born_thing session.role session.joined) session.generation past → WasThing session.role session.joined thing → Passed past near datagram packet (lasting session) → (c : Placed) → IsAmong c (chunks_of packet) → (chunk : Chunk) → Spells chunk c.kind c.payload →
    TakesChunkOf secrets setup past thing near (record { from = from; datagram = datagram; draws = draws }) chunk
unfolding as_thing
takes_chunk secrets setup past from datagram draws packet session near thing own known begun was passed c among chunk spells = let p = passed secrets (known.secret, known.known, known.keyed.towards) in record {
  moment = p.moment;
  before = p.before;
  last = p.last;
  generation = session.generation;
  begun = begun_as secrets setup session.role session.joined thing session.generation past was begun;
  passes = as_thing secrets setup session thing own was near p.before datagram p.passes;
  placed = c;
  among = subst (λ (w : Whole). IsAmong c (chunks_of w)) (sym p.is) among;
  spells = spells;
}

-- ---- stages

if_true : {A : Type 0} (b : Bool) (x y : A) → b ≡ true → (if b then x else y) ≡ x
if_true b x y e = ap (λ t. if t then x else y) e

if_false : {A : Type 0} (b : Bool) (x y : A) → b ≡ false → (if b then x else y) ≡ y
if_false b x y e = ap (λ t. if t then x else y) e

near_fits : (role : Role) (stage : Stage) → StageFits role stage → StageFits role NearClose
near_fits Initiator stage f = tt
near_fits Responder stage f = tt

far_fits : (role : Role) (stage : Stage) → StageFits role stage → StageFits role FarLinger
far_fits Initiator stage f = tt
far_fits Responder stage f = tt

pub near_left : (moment : ℕ) (session : SessionState) → StageFits session.role session.stage → is_held session.stage ≡ true → IsLeft moment session (closed_near moment session)
near_left moment session fits held =
    subst (IsLeft moment session) (sym (if_true (is_held session.stage) (record session { stage = NearClose; since = moment; close_sent = Some moment }) session held))
    (record { joined = refl; own = refl; generation = refl; inward = refl; outward = refl; role = refl; closing = refl; stage = near_fits session.role session.stage fits; since = refl })

or_true : (a b : Bool) → a ≡ true → (a || b) ≡ true
or_true true b e = refl
or_true false b e = absurd (cc)

pub far_left : (moment : ℕ) (session : SessionState) → StageFits session.role session.stage → is_held session.stage ≡ true → IsLeft moment session (asked_to_close moment session)
far_left moment session fits held =
    subst (IsLeft moment session)
    (sym (if_true (is_held session.stage || is_near_close session.stage) (record session { stage = FarLinger; since = moment }) session (or_true (is_held session.stage) (is_near_close session.stage) held)))
    (record { joined = refl; own = refl; generation = refl; inward = refl; outward = refl; role = refl; closing = refl; stage = far_fits session.role session.stage fits; since = refl })

not_true : (b : Bool) → b ≡ false → b ≡ true → ⊥
not_true b p q = let e : true ≡ false = sym q ∙ p in cc

lingers_if : (b : Bool) (moment : ℕ) (session : SessionState) → StageFits session.role session.stage → is_held session.stage ≡ false → IsAlike moment session (if b then record session { stage = FarLinger; since = moment } else session)
lingers_if true moment session fits closing = record {
  joined = refl;
  own = refl;
  generation = refl;
  inward = refl;
  outward = refl;
  role = refl;
  held = sym closing;
  thing = λ e. absurd (not_true (is_held session.stage) closing e);
  stage = λ f. far_fits session.role session.stage f;
  since = λ e. inr refl;
}
lingers_if false moment session fits closing = alike_itself moment session

pub far_alike : (moment : ℕ) (session : SessionState) → StageFits session.role session.stage → is_held session.stage ≡ false → IsAlike moment session (asked_to_close moment session)
far_alike moment session fits closing = lingers_if (is_held session.stage || is_near_close session.stage) moment session fits closing

-- ---- a call that closes a session

may_close : (role : Role) (stage : Stage) (j : Joined) → IsSession (thing_of role stage j)
may_close Initiator stage j = tt
may_close Responder Opening j = tt
may_close Responder Open j = tt
may_close Responder NearClose j = tt
may_close Responder FarLinger j = tt
may_close Responder Closed j = tt

pub held_is_there : (o : Option Row) (row : Row) → if_held o ≡ Some row → (o ≡ Some row) × (is_held row.session.stage ≡ true)
held_is_there None row e = absurd (cc)
held_is_there (Some x) row e = by (is_held x.session.stage) refl e
  where
    by : (b : Bool) → is_held x.session.stage ≡ b → ◌≡◌ {A = Option Row} (if b then Some x else None) (Some row) → ◌≡◌ {A = Option Row} (Some x) (Some row) × (is_held row.session.stage ≡ true)
    by true is same = let one : x ≡ row = cc in (same, subst (λ (r : Row). is_held r.session.stage ≡ true) one is)
    by false is same = absurd (cc)

module _ (secrets : Secrets) (setup : Setup) (s : State) (near : ℕ) where
  -- the end of a session that is held
  pub goes_near : (row : Row) → held_row s near ≡ Some row → Keeps secrets setup (Close near) s (ended_as s near row Near (closed_near s.moment row.session))
  goes_near row is past tied =
      let found = held_is_there (get s.sessions near) row is in
      let fits = (tied.sessions near row found.0).stage in
      goes_ended secrets setup (Close near) past s tied near row found.0 found.1 Near (closed_near s.moment row.session) refl (may_close row.session.role row.session.stage row.session.joined)
      (near_left s.moment row.session fits found.1) (sym (id secrets setup (Close near) past s tied near row found.0 found.1 Near))

  closing_found : (o : Option Row) → held_row s near ≡ o → Keeps secrets setup (Close near) s (closing_by s near o)
  closing_found None is past tied = goes_nothing secrets setup (Close near) s past tied
  closing_found (Some row) is past tied = goes_and_home secrets setup (Close near) s near (chunk_bytes CloseChunk) past _ (goes_near row is past tied)

  pub goes_closing : Keeps secrets setup (Close near) s (closing s near)
  goes_closing = closing_found (held_row s near) refl

-- ---- closes, their answers, and answers to pings

module _ (secrets : Secrets) (setup : Setup) (from : AddressParts) (datagram : List ℕ) (draws : Draws) (packet : Whole) (past : Past) (s : State) (tied : Tied secrets setup past s) (near : ℕ) (passed : PassedIn past near datagram packet s)
    (c : Placed) (among : (c.kind ≡ 0x0c) ⊎ (c.kind ≡ 0x4c) → IsAmong c (chunks_of packet)) where
  abbrev call : Call
  call = Receive from datagram draws

  pub closes : (row : Row) → get s.sessions near ≡ Some row → c.kind ≡ 0x0c → (b : Bool) → is_held row.session.stage ≡ b → Goes secrets setup call past s (lingering s near row)
  closes row there kind true held =
      let is = tied.sessions near row there in
      let thing : Held = thing_of row.session.role row.session.stage row.session.joined in
      let line : FarLine secrets setup call past row.session.joined.peer near = record {
        thing = thing;
        is_held = held_facts secrets setup call past s tied near row there held Far;
        by = takes_chunk secrets setup past from datagram draws packet row.session near thing is.own is.known is.begun (was_itself row.session.role row.session.stage row.session.joined) (passed row there) c (among (inl kind)) CloseChunk (kind, tt);
      } in
      subst (λ d. Goes secrets setup call past s d) (sym (if_true (is_held row.session.stage) _ (nothing (with_session s near row (asked_to_close s.moment row.session))) held))
      (goes_ended secrets setup call past s tied near row there held Far (asked_to_close s.moment row.session) refl (may_close row.session.role row.session.stage row.session.joined) (far_left s.moment row.session is.stage held)
      (subst (λ k. FarLine secrets setup call past row.session.joined.peer k) (sym (id secrets setup call past s tied near row there held Far)) line))
  closes row there kind false held =
      subst (λ d. Goes secrets setup call past s d) (sym (if_false (is_held row.session.stage) _ (nothing (with_session s near row (asked_to_close s.moment row.session))) held))
      (goes_changed secrets setup call s near row (record row { session = asked_to_close s.moment row.session }) there (far_alike s.moment row.session (tied.sessions near row there).stage held) past tied)

  close_taken : (o : Option Row) → get s.sessions near ≡ o → c.kind ≡ 0x0c → Goes secrets setup call past s (close_taken_by s near o)
  close_taken None is kind = goes_nothing secrets setup call s past tied
  close_taken (Some row) is kind = goes_and_home secrets setup call s near (chunk_bytes CloseAck) past (lingering s near row) (closes row is kind (is_held row.session.stage) refl)

  pub near_not_held : (stage : Stage) → is_near_close stage ≡ true → is_held stage ≡ false
  near_not_held Opening e = absurd (cc)
  near_not_held Open e = absurd (cc)
  near_not_held NearClose e = refl
  near_not_held FarLinger e = absurd (cc)
  near_not_held Closed e = absurd (cc)

  answered : (o : Option Row) → get s.sessions near ≡ o → c.kind ≡ 0x4c → row_takes o 0x4c ≡ true → Goes secrets setup call past s (record { state = without_row s near; entries = ClosedEntry near ∷ [] })
  answered None is kind takes = absurd (cc)
  answered (Some row) is kind takes =
      let closing : is_held row.session.stage ≡ false = near_not_held row.session.stage takes in
      let t = tied.sessions near row is in
      let closed = t.closed closing in
      goes_closed secrets setup call past s tied near row is closing (record {
        thing = closed.thing;
        at = closed.at;
        closing = closed.closing;
        by = inl (takes_chunk secrets setup past from datagram draws packet row.session near closed.thing t.own t.known t.begun closed.was (passed row is) c (among (inr kind)) CloseAck (kind, tt));
      })

  moved_to_where : (row : Row) → get s.sessions near ≡ Some row → (moves : Option Test) (o : Option AddressParts) → Goes secrets setup call past s (moved_where s near row moves o)
  moved_to_where row is moves None = goes_nothing secrets setup call s past tied
  moved_to_where row is moves (Some to) =
      goes_moved secrets setup call s near row _ to is (record { joined = refl; own = refl; generation = refl; inward = refl; outward = refl; role = refl; held = refl; thing = λ e. refl; stage = λ f. f; since = λ e. inl refl }) past tied

  moved : (o : Option Row) → get s.sessions near ≡ o → Goes secrets setup call past s (moved_by s near from c.payload o)
  moved None is = goes_nothing secrets setup call s past tied
  moved (Some row) is = moved_to_where row is (after_reply row.moves from c.payload) (address_for row.moves from c.payload)

  pub goes_told : row_takes (get s.sessions near) c.kind ≡ true → Goes secrets setup call past s (told_in_session s near from c)
  goes_told takes = elim (tested_number c.kind 0x0c) [
    | inl is ↦ subst (λ d. Goes secrets setup call past s d) (sym (if_true (c.kind == 0x0c) (close_taken_by s near (get s.sessions near)) _ is.1)) (close_taken (get s.sessions near) refl is.0)
    | inr other ↦
        subst (λ d. Goes secrets setup call past s d) (sym (if_false (c.kind == 0x0c) (close_taken_by s near (get s.sessions near)) _ other.1)) (elim (tested_number c.kind 0x4c) [
          | inl is ↦
              subst (λ d. Goes secrets setup call past s d) (sym (if_true (c.kind == 0x4c) (closed_entry s near) _ is.1))
              (answered (get s.sessions near) refl is.0 (ap (row_takes (get s.sessions near)) (sym is.0) ∙ takes))
          | inr neither ↦ subst (λ d. Goes secrets setup call past s d) (sym (if_false (c.kind == 0x4c) (closed_entry s near) _ neither.1)) (moved (get s.sessions near) refl)
        ])
  ]

-- ---- a test of an address

module _ (secrets : Secrets) (setup : Setup) (call : Call) (s : State) (from : AddressParts) (draws : Draws) where
  -- the row with the test
  pub goes_pending : (near : ℕ) (row : Row) → get s.sessions near ≡ Some row → Keeps secrets setup call s (nothing (with_row s near (record row { moves = after_seen row.moves row.session.address from draws.token s.moment })))
  goes_pending near row is = goes_changed secrets setup call s near row _ is (alike_itself s.moment row.session)

  begun : (near : ℕ) (row : Row) → get s.sessions near ≡ Some row → Keeps secrets setup call s (test_begun s near row from draws.token)
  begun near row is past tied =
      let new : Row = record row { moves = after_seen row.moves row.session.address from draws.token s.moment } in
      let first = goes_pending near row is past tied in
      goes_then secrets setup call past s (nothing (with_row s near new)) (λ t. sent_in_session t near from (chunk_bytes (Ping draws.token))) first
      (in_session_made (goes_sends secrets setup call) (with_row s near new) near from (chunk_bytes (Ping draws.token)) tt past first.tied)

  tested_found : (near : ℕ) (o : Option Row) → held_row s near ≡ o → Keeps secrets setup call s (tested_by s near from draws.token o)
  tested_found near None is = goes_nothing secrets setup call s
  tested_found near (Some row) is =
      let found = held_is_there (get s.sessions near) row is in
      keeps_if secrets setup call s (asks row.moves row.session.address from s.moment) (test_begun s near row from draws.token) (nothing s) (λ e. begun near row found.0) (λ e. goes_nothing secrets setup call s)

  pub goes_tested : (place : Place) → Keeps secrets setup call s (tested s place from draws)
  goes_tested (Startup generation) = goes_nothing secrets setup call s
  goes_tested (Attempt near generation) = goes_nothing secrets setup call s
  goes_tested (Session near) = tested_found near (held_row s near) refl

-- ---- time

-- which of four tests it was
abbrev TestOf : Bool → Bool → Bool → Bool → SessionDue → Type 0
TestOf a b c d Unconfirmed = a ≡ true
TestOf a b c d Idle = b ≡ true
TestOf a b c d Over = c ≡ true
TestOf a b c d RepeatClose = d ≡ true

test_of : (a b c d : Bool) (due : SessionDue) → first_that_stands (where_true a Unconfirmed ∷ where_true b Idle ∷ where_true c Over ∷ where_true d RepeatClose ∷ []) ≡ Some due → TestOf a b c d due
test_of true b c d due e = let same : Unconfirmed ≡ due = cc in subst (TestOf true b c d) same refl
test_of false true c d due e = let same : Idle ≡ due = cc in subst (TestOf false true c d) same refl
test_of false false true d due e = let same : Over ≡ due = cc in subst (TestOf false false true d) same refl
test_of false false false true due e = let same : RepeatClose ≡ due = cc in subst (TestOf false false false true) same refl
test_of false false false false due e = absurd (cc)

abbrev DueOf : SessionState → ℕ → SessionDue → Type 0
DueOf session moment due = TestOf (is_opening session.stage && is_past 20000 session.since moment) (is_open session.stage && is_past 120000 session.taken moment) (is_over session moment)
    (is_near_close session.stage && is_past_last 5000 session.close_sent moment) due

past_is : (span at moment : ℕ) → is_past (suc span) at moment ≡ true → at + suc span ≤ moment
past_is span at moment e = grind (arith, nat_tests)

over_of : (stage : Stage) (since moment : ℕ) → ((is_near_close stage && is_past 90000 since moment) || (is_far_linger stage && is_past 19000 since moment)) ≡ true → (is_held stage ≡ false) × (since + 19000 ≤ moment)
over_of Opening since moment e = absurd (cc)
over_of Open since moment e = absurd (cc)
over_of NearClose since moment e = (refl, near (is_past 90000 since moment) refl e)
  where
    near : (b : Bool) → is_past 90000 since moment ≡ b → (b || false) ≡ true → since + 19000 ≤ moment
    near true is e = omega (arith, past_is 89999 since moment is)
    near false is e = absurd (cc)
over_of FarLinger since moment e = (refl, past_is 18999 since moment e)
over_of Closed since moment e = absurd (cc)

opening_held : (stage : Stage) → is_opening stage ≡ true → is_held stage ≡ true
opening_held stage e = or_true (is_opening stage) (is_open stage) e

open_held : (stage : Stage) → is_open stage ≡ true → is_held stage ≡ true
open_held Opening e = refl
open_held Open e = refl
open_held NearClose e = absurd (cc)
open_held FarLinger e = absurd (cc)
open_held Closed e = absurd (cc)

half_open_thing : (role : Role) (stage : Stage) (j : Joined) → role ≡ Responder → is_opening stage ≡ true → thing_of role stage j ≡ HalfOpen j
half_open_thing Initiator stage j r e = absurd (cc)
half_open_thing Responder Opening j r e = refl
half_open_thing Responder Open j r e = absurd (cc)
half_open_thing Responder NearClose j r e = absurd (cc)
half_open_thing Responder FarLinger j r e = absurd (cc)
half_open_thing Responder Closed j r e = absurd (cc)

is_kept : (role : Role) (stage : Stage) (j : Joined) → is_open stage ≡ true → IsKept (thing_of role stage j)
is_kept Initiator stage j e = tt
is_kept Responder Opening j e = absurd (cc)
is_kept Responder Open j e = tt
is_kept Responder NearClose j e = absurd (cc)
is_kept Responder FarLinger j e = absurd (cc)
is_kept Responder Closed j e = absurd (cc)

began_with : (role : Role) (stage : Stage) (j : Joined) → BeganWith (thing_of role stage j) (first_fact role j)
began_with Initiator stage j = refl
began_with Responder Opening j = refl
began_with Responder Open j = refl
began_with Responder NearClose j = refl
began_with Responder FarLinger j = refl
began_with Responder Closed j = refl

module _ (secrets : Secrets) (setup : Setup) (call : Call) (is_tick : IsTick call) (past : Past) (s : State) (tied : Tied secrets setup past s) (near : ℕ) (row : Row) (there : get s.sessions near ≡ Some row)
    (known : IsKnown past s.moment near row.session) where
  abbrev session : SessionState
  session = row.session

  abbrev thing : Held
  thing = thing_of session.role session.stage session.joined

  was : WasThing session.role session.joined thing
  was = was_itself session.role session.stage session.joined

  unconfirmed : DueOf session s.moment Unconfirmed → Goes secrets setup call past s (session_due_done s near row Unconfirmed)
  unconfirmed due =
      let both = and_is (is_opening session.stage) (is_past 20000 session.since s.moment) due in
      let born = known.half_open both.0 in
      let held_now : is_held session.stage ≡ true = opening_held session.stage both.0 in
      let is_half : thing ≡ HalfOpen session.joined = half_open_thing session.role session.stage session.joined born.0 both.0 in
      goes_dropped secrets setup call past s tied near row there held_now NotConfirmed refl (subst (λ h. IsHalfOpen h) (sym is_half) tt) (
        is_tick,
        record {
          j = session.joined;
          is_held = held_facts secrets setup call past s tied near row there held_now NotConfirmed ∙ ap (λ h. Some h) is_half;
          birth = session.since;
          born = born.1;
          over = past_is 19999 session.since s.moment both.1;
        },
      )

  idle : DueOf session s.moment Idle → Goes secrets setup call past s (session_due_done s near row Idle)
  idle due =
      let both = and_is (is_open session.stage) (is_past 120000 session.taken s.moment) due in
      let held_now : is_held session.stage ≡ true = open_held session.stage both.0 in
      let is = tied.sessions near row there in
      let late : session.taken + 120000 ≤ s.moment = past_is 119999 session.taken s.moment both.1 in
      let line : IsIdle secrets setup s.moment past session.joined.peer near = record {
        thing = thing;
        is_held = held_facts secrets setup call past s tied near row there held_now WasIdle;
        first = known.began.first;
        fact = first_fact session.role session.joined;
        began_with = began_with session.role session.stage session.joined;
        began = known.began.done;
        old = omega (arith, late, known.began.early);
        generation = session.generation;
        begun = begun_as secrets setup session.role session.joined thing session.generation past was is.begun;
        quiet = λ moment took.
            let by_then : moment ≤ session.taken = (known.counts secrets (is.known.secret, is.known.known, is.known.keyed.towards)).times moment (subst (λ (t : Type 0). t) (sym (took_as secrets setup session thing is.own was near moment (taken_since near past))) took) in
            omega (arith, late, by_then);
      } in
      goes_dropped secrets setup call past s tied near row there held_now WasIdle refl (is_kept session.role session.stage session.joined both.0)
      (subst (λ k. IsTick call × IsIdle secrets setup s.moment past session.joined.peer k) (sym (id secrets setup call past s tied near row there held_now WasIdle)) (is_tick, line))

  over : DueOf session s.moment Over → Goes secrets setup call past s (session_due_done s near row Over)
  over due =
      let both = over_of session.stage session.since s.moment due in
      let closed = (tied.sessions near row there).closed both.0 in
      goes_closed secrets setup call past s tied near row there both.0 (record { thing = closed.thing; at = closed.at; closing = closed.closing; by = inr (is_tick, omega (arith, both.1, closed.since)) })

  -- the row whose close is sent again
  pub goes_again : Goes secrets setup call past s (nothing (with_session s near row (record session { close_sent = Some s.moment })))
  goes_again = goes_changed secrets setup call s near row (record row { session = record session { close_sent = Some s.moment } }) there
      (record { joined = refl; own = refl; generation = refl; inward = refl; outward = refl; role = refl; held = refl; thing = λ e. refl; stage = λ f. f; since = λ e. inl refl }) past tied

  again : Goes secrets setup call past s (session_due_done s near row RepeatClose)
  again = goes_and_home secrets setup call s near (chunk_bytes CloseChunk) past _ goes_again

  by_due : (due : SessionDue) → DueOf session s.moment due → Goes secrets setup call past s (session_due_done s near row due)
  by_due Unconfirmed is = unconfirmed is
  by_due Idle is = idle is
  by_due Over is = over is
  by_due RepeatClose is = again

  alive_alike : (b : Bool) → IsAlike s.moment session (if b then record session { keepalive = Some s.moment } else session)
  alive_alike true = record { joined = refl; own = refl; generation = refl; inward = refl; outward = refl; role = refl; held = refl; thing = λ e. refl; stage = λ f. f; since = λ e. inl refl }
  alive_alike false = alike_itself s.moment session

  -- the row that is kept alive
  pub goes_alive : Goes secrets setup call past s (nothing (with_session s near row (kept_alive s.moment session)))
  goes_alive = goes_changed secrets setup call s near row (record row { session = kept_alive s.moment session }) there (alive_alike (needs_keepalive session s.moment)) past tied

  pub goes_kept_alive : Goes secrets setup call past s (kept_alive_by s near row)
  goes_kept_alive = goes_and_home secrets setup call s near (chunk_bytes (Ping [])) past _ goes_alive

  pub goes_session_due : (due : SessionDue) → first_due session s.moment ≡ Some due → Goes secrets setup call past s (session_due_done s near row due)
  goes_session_due due is =
      by_due due (test_of (is_opening session.stage && is_past 20000 session.since s.moment) (is_open session.stage && is_past 120000 session.taken s.moment) (is_over session s.moment)
      (is_near_close session.stage && is_past_last 5000 session.close_sent s.moment) due is)
