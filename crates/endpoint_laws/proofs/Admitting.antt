-- How a datagram comes in: what its admission leaves, and what it says of the datagram.
use Rattle.std.proofs.Common.{◌≡◌, ℕ, ◌+◌, ◌==◌, ◌≢◌, ◌⊎◌, List, [], ◌∷◌, ◌++◌, length, drop, cond, not, nat_lt, Bool, true, false, if◌then◌else◌, Option, Some, None, is_some, Result, Ok, Err, inl, inr, refl, sym, ap, subst, ◌∙◌, append_assoc, arith}
use Rattle.std.proofs.lemmas.Bool.Decides.{nat_tests}
use Rattle.std.specs.List.{flat_map, AllByRecursion}
use Rattle.std.specs.FinMap.{get, contains_key}
use Rattle.rtmfp_base.proofs.Maps.{get_inserted}
use Rattle.rtmfp_vlu.proofs.Bytes.{IsBytes, IsBytes-drop}
use Rattle.crypto_profile.specs.declared.keys.Context.{Context}
use Rattle.crypto_profile.specs.Keys.{Keys, startup_keys_of}
use Rattle.crypto_profile.specs.declared.keys.Context.TheVariants.{Startup as StartupContext}
use Rattle.crypto_profile.specs.declared.sealing.SealFault.{SealFault}
use Rattle.crypto_profile.specs.Opening.{open_refusal, plain_of}
use Rattle.packet_scramble.specs.Datagram.{sid_of}
use Rattle.rtmfp_packet.specs.declared.head.PacketHead.{PacketHead}
use Rattle.rtmfp_packet.specs.declared.head.PacketFault.{PacketFault}
use Rattle.rtmfp_packet.specs.declared.head.Mode.{Mode}
use Rattle.rtmfp_packet.specs.declared.head.Mode.TheVariants.{Initiator as FromInitiator, Responder as FromResponder, Startup as FromStartup}
use Rattle.rtmfp_packet.specs.Head.{mode_number}
use Rattle.rtmfp_packet.specs.Spelling.{Chunk as RawChunk, chunk_bytes}
use Rattle.rtmfp_packet.specs.Walk.{Placed, all_placed_from, visible, is_ignored}
use Rattle.rtmfp_packet.specs.Whole.{Whole}
use Rattle.rtmfp_packet.specs.Reading.{PacketReading, Reads}
use Rattle.rtmfp_base.specs.declared.cause.Cause.{Cause}
use Rattle.rtmfp_base.specs.declared.cause.Cause.TheVariants.{Short, WrongPlace, UnknownSession}
use Rattle.endpoint_model.specs.declared.row.Row.{Row}
use Rattle.session_core.specs.declared.hearing.Unheard.{Unheard}
use Rattle.session_core.specs.declared.hearing.Unheard.TheVariants.{Short as ShortPart, BadTag as WrongTag, Repeated as OldNumber}
use Rattle.session_core.specs.Session.{SessionState, with_stamps}
use Rattle.session_core.specs.Hearing.{counted, unheard, opens_in, is_new, count_of}
use Rattle.crypto_profile.specs.Window.{window_answer}
use Rattle.endpoint_model.specs.declared.place.Place.{Place}
use Rattle.endpoint_model.specs.declared.place.Place.TheVariants.{Startup, Attempt, Session}
use Rattle.rtmfp_forms.specs.Address.{AddressParts}
use Rattle.endpoint_model.specs.declared.config.Draws.{Draws}
use Rattle.endpoint_model.specs.Event.{Setup, Call, Receive, Event}
use Rattle.endpoint_laws.specs.Past.{Past, begun, before_event, last_call, receive_of, current_of, facts_of, Search, IsSearch}
use Rattle.endpoint_laws.specs.Contexts.{Secrets, ReadsUnder, OpensUnder, OpensFirst, startup_contexts, next_contexts, KeyingWent, IsAttemptIn, SearchUnder, AttemptUnder, StartupContextsOf, OpensInStartup, CallOpensIn, EventOpenedIn}
use Rattle.endpoint_laws.specs.Groups.{number_in, IsStageOf}
use Rattle.endpoint_model.specs.Keying.{IsAmong, chunks_of}
use Rattle.endpoint_model.specs.State.{State}
use Rattle.endpoint_model.specs.Admission.{packet_in, sid_at, opened_by, opened_in_startup, heard_by, heard_in, opened_at, opened_datagram, counted_by, counted_at, timed_by, timed_at, mode_at, has_mode, Admission, Rejected, Admitted, admitted_packet, admitted, admission, opened_first, next_places, places_of, placed_or, group_at, stage_group, attempt_group}
use Rattle.endpoint_laws.proofs.Bytes.{front_are, back_are, plain_is}
use Rattle.endpoint_model.proofs.Reading.{packet_reads}
use Rattle.endpoint_laws.proofs.OutSends.{Sent}
use Rattle.endpoint_laws.proofs.OutItems.{sent_session_changed}
use Rattle.glare_core.proofs.Accounts.{reads_held}
use Rattle.startup.specs.declared.aim.Aim.{Aim}
use Rattle.startup.specs.declared.aim.Aim.TheVariants.{AtPeer, ByName}
use Rattle.startup.specs.Aims.{IsHeldAs}
use Rattle.startup.specs.State.{AttemptState}
use Rattle.startup.specs.declared.attempt.Stage.{Stage}
use Rattle.startup.specs.declared.attempt.Stage.TheVariants.{Hello, Keying}
use Rattle.crypto_profile.specs.declared.group.GroupSecret.{GroupSecret}
use Rattle.endpoint_laws.proofs.Outset.{IsOutset}
use Rattle.endpoint_laws.proofs.OpensHere.{opened_under, FoundAtZero, found_at_zero}
use Rattle.endpoint_laws.proofs.Tied.{Tied, search_of, WasStartedAs}
use Rattle.endpoint_laws.proofs.Moving.{tied_session}
use Rattle.endpoint_laws.proofs.Confirming.{HeardIn, HeardAt}
use Rattle.crypto_profile.specs.declared.group.GroupSecret.{GroupSecret}
use Rattle.endpoint_laws.proofs.Kin.{group_known}
use Rattle.std.proofs.lemmas.Bool.{eqb-true}

-- ---- the place

-- A place under this session ID, and an attempt's with the generation that it has.
abbrev IsPlaceOf : State → ℕ → Place → Type 0
IsPlaceOf s sid (Startup generation) = 0 ≡ sid
IsPlaceOf s sid (Attempt near generation) = (near ≡ sid) × (sid ≢ 0) × (contains_key s.startup.attempts near ≡ true) × ((attempt_group s.group (get s.startup.attempts near)).generation ≡ generation)
IsPlaceOf s sid (Session near) = near ≡ sid

next_are : (s : State) (sid : ℕ) (next : Option GroupSecret) → 0 ≡ sid → AllByRecursion (IsPlaceOf s sid) (next_places next)
next_are s sid None zero = tt
next_are s sid (Some next) zero = (zero, tt)

unequal : (a b : ℕ) → (a == b) ≡ false → a ≢ b
unequal a b h e = grind (arith, nat_tests)

places_are : (s : State) (sid : ℕ) → AllByRecursion (IsPlaceOf s sid) (places_of s sid)
places_are s sid = by (sid == 0) (contains_key s.startup.attempts sid) (contains_key s.sessions sid) refl refl
  where
    by : (a b c : Bool) → (sid == 0) ≡ a → contains_key s.startup.attempts sid ≡ b → AllByRecursion (IsPlaceOf s sid)
        (if a then Startup s.group.generation ∷ next_places s.next else if b then Attempt sid (attempt_group s.group (get s.startup.attempts sid)).generation ∷ [] else if c then Session sid ∷ [] else [])
    by true b c z at = let zero : 0 ≡ sid = sym (eqb-true sid 0 z) in (zero, next_are s sid s.next zero)
    by false true c z at = ((refl, unequal sid 0 z, at, refl), tt)
    by false false true z at = (refl, tt)
    by false false false z at = tt

-- ---- what was opened

record IsOpened (s : State) (datagram : List ℕ) (place : Place) (plain : List ℕ) : Type 0 where
  id : IsPlaceOf s (sid_of datagram) place
  opened : opened_at s place (drop 4 datagram) ≡ Ok plain

found_by : (s : State) (datagram : List ℕ) (place : Place) (rest : List Place) (found : Place × List ℕ) → IsPlaceOf s (sid_of datagram) place → ((last : Cause) → opened_first s last rest (drop 4 datagram) ≡ Ok found → IsOpened s datagram found.0 found.1) →
    (r : Result (List ℕ) Cause) → opened_at s place (drop 4 datagram) ≡ r → placed_or place r (λ last. opened_first s last rest (drop 4 datagram)) ≡ Ok found → IsOpened s datagram found.0 found.1
found_by s datagram place rest found at later (Ok plain) is e =
    let same : (place, plain) ≡ found = cc in
    record { id = subst (λ (x : Place × List ℕ). IsPlaceOf s (sid_of datagram) x.0) same at; opened = subst (λ (x : Place × List ℕ). opened_at s x.0 (drop 4 datagram) ≡ Ok x.1) same is }
found_by s datagram place rest found at later (Err last) is e = later last e

found_is : (s : State) (datagram : List ℕ) (cause : Cause) (places : List Place) (found : Place × List ℕ) → AllByRecursion (IsPlaceOf s (sid_of datagram)) places →
    opened_first s cause places (drop 4 datagram) ≡ Ok found → IsOpened s datagram found.0 found.1
found_is s datagram cause [] found at e = absurd (cc)
found_is s datagram cause (place ∷ rest) found at e =
    found_by s datagram place rest found at.0 (λ last. found_is s datagram last rest found at.1) (opened_at s place (drop 4 datagram)) refl e

-- where it is long enough
long_enough : (s : State) (datagram : List ℕ) (b : Bool) (cause none : Cause) (found : Place × List ℕ) → (if b then Err cause else opened_first s none (places_of s (sid_of datagram)) (drop 4 datagram)) ≡ Ok found →
    opened_first s none (places_of s (sid_of datagram)) (drop 4 datagram) ≡ Ok found
long_enough s datagram true cause none found e = absurd (cc)
long_enough s datagram false cause none found e = e

-- what opens is bytes where the datagram is
startup_bytes : (s : State) (place : Place) (datagram plain : List ℕ) → IsBytes datagram → opened_in_startup s place (drop 4 datagram) ≡ Ok plain → IsBytes plain
startup_bytes s place datagram plain are e = by (open_refusal keys (sid_at place) (drop 4 datagram)) e
  where
    keys : Keys
    keys = startup_keys_of (group_at s place)

    by : (o : Option SealFault) → opened_by keys (drop 4 datagram) o ≡ Ok plain → IsBytes plain
    by None is = let same : plain_of keys (drop 4 datagram) ≡ plain = cc in subst IsBytes same (plain_is keys (drop 4 datagram) (IsBytes-drop 4 datagram are))
    by (Some fault) is = absurd (cc)

-- in the session of its place

opens_if : (a opens new : Bool) → (if a then Some ShortPart else if not opens then Some WrongTag else if not new then Some OldNumber else None) ≡ None → opens ≡ true
opens_if true opens new e = absurd (cc)
opens_if false true new e = refl
opens_if false false new e = absurd (cc)

heard_is : (session : SessionState) (part : List ℕ) (o : Option Unheard) (plain : List ℕ) → heard_by session part o ≡ Ok plain → o ≡ None
heard_is session part None plain e = refl
heard_is session part (Some ShortPart) plain e = absurd (cc)
heard_is session part (Some WrongTag) plain e = absurd (cc)
heard_is session part (Some OldNumber) plain e = absurd (cc)

session_heard : (datagram : List ℕ) (near : ℕ) (o : Option Row) (plain : List ℕ) → near ≡ sid_of datagram →
    heard_in o (drop 4 datagram) ≡ Ok plain → HeardIn datagram near o
session_heard datagram near None plain id e = tt
session_heard datagram near (Some row) plain id e =
    let part : List ℕ = drop 4 datagram in
    let none : unheard row.session part ≡ None = heard_is row.session part (unheard row.session part) plain e in
    (sym id, opens_if (nat_lt (length part) 32) (opens_in row.session part) (is_new (window_answer row.session.window (count_of part))) none)

-- ---- payloads are bytes

payloads_are : (at : ℕ) (chunks : List RawChunk) → IsBytes (flat_map chunk_bytes chunks) → (c : Placed) → IsAmong c (visible (all_placed_from at chunks)) → IsBytes c.payload
payloads_are at [] are c among = absurd among
payloads_are at (chunk ∷ chunks) are c among =
    let first : IsBytes (chunk_bytes chunk) = front_are (chunk_bytes chunk ++ flat_map chunk_bytes chunks) (chunk_bytes chunk) (flat_map chunk_bytes chunks) refl are in
    let later : IsBytes (flat_map chunk_bytes chunks) = back_are (chunk_bytes chunk ++ flat_map chunk_bytes chunks) (chunk_bytes chunk) (flat_map chunk_bytes chunks) refl are in
    let payload : IsBytes chunk.payload = IsBytes-drop 3 (chunk_bytes chunk) first in
    go (not (is_ignored chunk.kind)) payload (λ there. payloads_are (at + (3 + length chunk.payload)) chunks later c there) among
  where
    go : (b : Bool) → IsBytes chunk.payload → (IsAmong c (visible (all_placed_from (at + (3 + length chunk.payload)) chunks)) → IsBytes c.payload) →
        IsAmong c (cond b (record { kind = chunk.kind; at = at; payload = chunk.payload } ∷ visible (all_placed_from (at + (3 + length chunk.payload)) chunks)) (visible (all_placed_from (at + (3 + length chunk.payload)) chunks))) → IsBytes c.payload
    go true payload rest (inl is) = subst IsBytes (ap (λ (p : Placed). p.payload) (sym is)) payload
    go true payload rest (inr there) = rest there
    go false payload rest there = rest there

chunks_are : (plain : List ℕ) (packet : Whole) → IsBytes plain → Reads packet plain → (c : Placed) → IsAmong c (chunks_of packet) → IsBytes c.payload
chunks_are plain packet are reads c among =
    let joined : plain ≡ reads.spells.front ++ (flat_map chunk_bytes packet.chunks ++ packet.padding) =
    reads.spells.joined ∙ append_assoc reads.spells.front (flat_map chunk_bytes packet.chunks) packet.padding in
    let body = back_are plain reads.spells.front (flat_map chunk_bytes packet.chunks ++ packet.padding) joined are in
    payloads_are packet.start packet.chunks (front_are (flat_map chunk_bytes packet.chunks ++ packet.padding) (flat_map chunk_bytes packet.chunks) packet.padding refl body) c among

-- ---- what a datagram that is taken is

pub record IsRead (secrets : Secrets) (generation sid : ℕ) (datagram : List ℕ) (packet : Whole) : Type 0 where
  pub reads : ReadsUnder secrets (StartupContext generation) sid datagram packet
  pub bytes : (c : Placed) → IsAmong c (chunks_of packet) → IsBytes c.payload

-- It came in a startup context, by what was done before its event.
pub record CameIn (secrets : Secrets) (setup : Setup) (past : Past) (datagram : List ℕ) (generation sid : ℕ) (packet : Whole) : Type 0 where
  pub read : IsRead secrets generation sid datagram packet
  pub before : OpensInStartup secrets setup (before_event past) datagram generation
  pub event : EventOpenedIn secrets setup past generation

-- Under session ID 0: this is the first context in which it opens yet, and the generation's secret is the one kept for its place.
pub record CameAtZero (secrets : Secrets) (setup : Setup) (past : Past) (s : State) (datagram : List ℕ) (generation : ℕ) (packet : Whole) : Type 0 where
  pub came : CameIn secrets setup past datagram generation 0 packet
  pub mode : packet.head.mode ≡ FromStartup
  pub opens : OpensFirst secrets (startup_contexts setup past) 0 datagram (StartupContext generation) came.read.reads.plain
  pub group : (group_at s (Startup generation)).generation ≡ generation

-- Under that of an attempt, which keeps this generation as long as it is there.
pub record CameAtAttempt (secrets : Secrets) (setup : Setup) (past : Past) (s : State) (datagram : List ℕ) (near generation : ℕ) (packet : Whole) : Type 0 where
  pub came : CameIn secrets setup past datagram generation near packet
  pub group : (a : AttemptState) → get s.startup.attempts near ≡ Some a → (attempt_group s.group (Some a)).generation ≡ generation

abbrev pub Came : Secrets → Setup → Past → State → List ℕ → Place → Whole → Type 0
Came secrets setup past s datagram (Startup generation) packet = CameAtZero secrets setup past s datagram generation packet
Came secrets setup past s datagram (Attempt near generation) packet = CameAtAttempt secrets setup past s datagram near generation packet
Came secrets setup past s datagram (Session near) packet = Unit {0}

read_is : (plain : List ℕ) (packet : Whole) → IsBytes plain → packet_in plain ≡ Ok packet → Reads packet plain
read_is plain packet are e = subst (PacketReading plain) e (packet_reads plain are)

mode_is : (mode : Mode) → (mode_number mode == mode_number FromStartup) ≡ true → mode ≡ FromStartup
mode_is FromInitiator e = absurd (cc)
mode_is FromResponder e = absurd (cc)
mode_is FromStartup e = refl

-- ---- what stands at the beginning of an event

module _ (secrets : Secrets) (setup : Setup) (moment : ℕ) (event : Event) (past : Past) (s : State) (tied : Tied secrets setup (begun moment event ∷ past) s) where
  -- it stood before
  search_before : (near : ℕ) (which : Search) (at : ℕ) → IsSearch near which at (begun moment event ∷ past) → IsSearch near which at past
  search_before near which at there = elim there [ inl b ↦ absurd b.0 | inr p ↦ p.2 ]

  under_before : (near : ℕ) (a : AttemptState) → get s.startup.attempts near ≡ Some a → SearchUnder past near ⊎ AttemptUnder past near
  under_before near a there = by a.aim (tied.started near a there) (tied.sound.held near a there)
    where
      by : (aim : Aim) → WasStartedAs (begun moment event ∷ past) near a aim → IsHeldAs s.startup.ledger near a.ni aim → SearchUnder past near ⊎ AttemptUnder past near
      by (AtPeer peer n) was is = inr (record { peer = peer; n = n; ni = a.ni; is_held = sym (reads_held 0 s.startup.ledger (facts_of past) tied.account peer) ∙ is })
      by (ByName name) was is = inl (record { which = search_of name a; at = a.start; stands = search_before near (search_of name a) a.start was.0 })

  keying_before : (near generation : ℕ) → KeyingWent secrets near generation (begun moment event ∷ past) → KeyingWent secrets near generation past
  keying_before near generation went = elim went [ inl now ↦ absurd now | inr before ↦ before.3 ]

  attempt_in : (near : ℕ) (stage : Stage) → IsStageOf secrets (begun moment event ∷ past) near stage → IsAttemptIn secrets setup near (stage_group s.group stage).generation past
  attempt_in near Hello hello = inr ((λ generation went. hello generation (inr ((λ other none. none), tt, tt, went))), tied.current)
  attempt_in near (Keying at cookie under) went = inl (keying_before near under.generation went.0)

-- the same of a past that is at its outset
named_before : (secrets : Secrets) (setup : Setup) (past : Past) (s : State) → IsOutset past → Tied secrets setup past s → (near : ℕ) (a : AttemptState) → get s.startup.attempts near ≡ Some a → IsStageOf secrets past near a.stage → near ≢ 0 →
    StartupContextsOf secrets setup (before_event past) near (StartupContext (stage_group s.group a.stage).generation ∷ [])
named_before secrets setup past s outset tied near a there stage other =
    let now : Past = begun outset.moment outset.event ∷ before_event past in
    let noted : Tied secrets setup now s = subst (λ (p : Past). Tied secrets setup p s) outset.is tied in
    let staged : IsStageOf secrets now near a.stage = subst (λ (p : Past). IsStageOf secrets p near a.stage) outset.is stage in
    inr (
      other,
      under_before secrets setup outset.moment outset.event (before_event past) s noted near a there,
      ((stage_group s.group a.stage).generation, attempt_in secrets setup outset.moment outset.event (before_event past) s noted near a.stage staged, refl),
    )

contexts_before : (setup : Setup) (past : Past) → IsOutset past → startup_contexts setup past ≡ startup_contexts setup (before_event past)
contexts_before setup past outset = ap (startup_contexts setup) outset.is

-- the contexts of session ID 0, by the state
contexts_of : (secrets : Secrets) (setup : Setup) (past : Past) (s : State) → Tied secrets setup past s → StartupContext s.group.generation ∷ next_contexts (number_in s.next) ≡ startup_contexts setup past
contexts_of secrets setup past s tied =
    ap (λ (g : ℕ). StartupContext g ∷ next_contexts (number_in s.next)) tied.current ∙ ap (λ (o : Option ℕ). StartupContext (current_of setup past) ∷ next_contexts o) tied.next

-- ---- where it came

-- It opened so in the startup context of this generation.
record IsOpenedIn (secrets : Secrets) (setup : Setup) (past : Past) (datagram : List ℕ) (generation sid : ℕ) (plain : List ℕ) : Type 0 where
  opens : OpensUnder secrets (StartupContext generation) sid datagram plain
  before : OpensInStartup secrets setup (before_event past) datagram generation
  event : EventOpenedIn secrets setup past generation

abbrev IsOpenedAt : Secrets → Setup → Past → State → List ℕ → Place → List ℕ → Type 0
IsOpenedAt secrets setup past s datagram (Startup generation) plain =
    IsOpenedIn secrets setup past datagram generation 0 plain × OpensFirst secrets (startup_contexts setup past) 0 datagram (StartupContext generation) plain × ((group_at s (Startup generation)).generation ≡ generation)
IsOpenedAt secrets setup past s datagram (Attempt near generation) plain =
    IsOpenedIn secrets setup past datagram generation near plain × ((a : AttemptState) → get s.startup.attempts near ≡ Some a → (attempt_group s.group (Some a)).generation ≡ generation)
IsOpenedAt secrets setup past s datagram (Session near) plain = Unit {0}

first_opens : (secrets : Secrets) (contexts : List Context) (sid : ℕ) (datagram : List ℕ) (context : Context) (plain : List ℕ) → OpensFirst secrets contexts sid datagram context plain → OpensUnder secrets context sid datagram plain
first_opens secrets [] sid datagram context plain none = absurd none
first_opens secrets (first ∷ later) sid datagram context plain (inl here) = here.1
first_opens secrets (first ∷ later) sid datagram context plain (inr there) = first_opens secrets later sid datagram context plain there.1

module _ (secrets : Secrets) (setup : Setup) (past : Past) (s : State) (from : AddressParts) (datagram : List ℕ) (draws : Draws) (outset : IsOutset past) (last : last_call past ≡ Some (Receive from datagram draws)) (tied : Tied secrets setup past s)
    (stages : (near : ℕ) (a : AttemptState) → get s.startup.attempts near ≡ Some a → IsStageOf secrets past near a.stage) where
  of_event : (generation : ℕ) → OpensInStartup secrets setup (before_event past) datagram generation → EventOpenedIn secrets setup past generation
  of_event generation before = subst (λ (o : Option Call). CallOpensIn secrets setup (before_event past) (receive_of o) generation) (sym last) before

  -- under session ID 0
  opened_zero : (found : Place × List ℕ) → FoundAtZero secrets s datagram found → sid_of datagram ≡ 0 → IsOpenedAt secrets setup past s datagram found.0 found.1
  opened_zero found is zero =
      let generation : ℕ = is.generation in
      let First : List Context → ℕ → Type 0 = λ contexts sid. OpensFirst secrets contexts sid datagram (StartupContext generation) found.1 in
      let now : First (startup_contexts setup past) 0 = subst (λ (cs : List Context). First cs 0) (contexts_of secrets setup past s tied) is.opens in
      let before : OpensInStartup secrets setup (before_event past) datagram generation = record {
        contexts = startup_contexts setup (before_event past);
        named = inl (zero, refl);
        plain = found.1;
        opens = subst (First (startup_contexts setup (before_event past))) (sym zero) (subst (λ (cs : List Context). First cs 0) (contexts_before setup past outset) now);
      } in
      subst (λ (p : Place). IsOpenedAt secrets setup past s datagram p found.1) (sym is.place)
      (record { opens = first_opens secrets (startup_contexts setup past) 0 datagram (StartupContext generation) found.1 now; before = before; event = of_event generation before }, now, is.number)

  -- under that of an attempt
  opened_attempt : (near generation : ℕ) (plain : List ℕ) → IsPlaceOf s (sid_of datagram) (Attempt near generation) → opened_in_startup s (Attempt near generation) (drop 4 datagram) ≡ Ok plain → (o : Option AttemptState) → get s.startup.attempts near ≡ o →
      IsOpenedAt secrets setup past s datagram (Attempt near generation) plain
  opened_attempt near generation plain id e None there = let clash : false ≡ true = sym (ap (λ (o : Option AttemptState). is_some o) there) ∙ id.2 in absurd (cc)
  opened_attempt near generation plain id e (Some a) there =
      let number : (stage_group s.group a.stage).generation ≡ generation = sym (ap (λ (o : Option AttemptState). (attempt_group s.group o).generation) there) ∙ id.3 in
      let under : OpensUnder secrets (StartupContext generation) near datagram plain =
      subst (λ (g : ℕ). OpensUnder secrets (StartupContext g) near datagram plain) id.3 (opened_under secrets s (Attempt near generation) (group_known secrets s tied.holds (Attempt near generation)) datagram (sym id.0) plain e) in
      let named : StartupContextsOf secrets setup (before_event past) near (StartupContext generation ∷ []) =
      subst (λ (g : ℕ). StartupContextsOf secrets setup (before_event past) near (StartupContext g ∷ [])) number
      (named_before secrets setup past s outset tied near a there (stages near a there) (subst (λ (n : ℕ). n ≢ 0) (sym id.0) id.1)) in
      let before : OpensInStartup secrets setup (before_event past) datagram generation = record {
        contexts = StartupContext generation ∷ [];
        named = subst (λ (n : ℕ). StartupContextsOf secrets setup (before_event past) n (StartupContext generation ∷ [])) id.0 named;
        plain = plain;
        opens = inl (refl, subst (λ (n : ℕ). OpensUnder secrets (StartupContext generation) n datagram plain) id.0 under);
      } in (
        record { opens = under; before = before; event = of_event generation before },
        λ b is. ap (λ (o : Option AttemptState). (attempt_group s.group o).generation) (sym is) ∙ id.3,
      )

  opened_so : (place : Place) (plain : List ℕ) → opened_datagram s datagram ≡ Ok (place, plain) → IsOpened s datagram place plain → IsOpenedAt secrets setup past s datagram place plain
  opened_so (Startup generation) plain e is =
      let zero : sid_of datagram ≡ 0 = sym is.id in
      let places : places_of s (sid_of datagram) ≡ places_of s 0 = ap (places_of s) zero in
      let found : opened_first s UnknownSession (places_of s 0) (drop 4 datagram) ≡ Ok (Startup generation, plain) =
      ap (λ (l : List Place). opened_first s UnknownSession l (drop 4 datagram)) (sym places) ∙ long_enough s datagram (nat_lt (length datagram) 36) Short UnknownSession (Startup generation, plain) e in
      opened_zero (Startup generation, plain) (found_at_zero secrets s tied.holds datagram zero (Startup generation, plain) UnknownSession found) zero
  opened_so (Attempt near generation) plain e is = opened_attempt near generation plain is.id is.opened (get s.startup.attempts near) refl
  opened_so (Session near) plain e is = tt

-- and is a packet
came_in : (secrets : Secrets) (setup : Setup) (past : Past) (s : State) (place : Place) (datagram plain : List ℕ) (generation sid : ℕ) (packet : Whole) → IsBytes datagram → opened_in_startup s place (drop 4 datagram) ≡ Ok plain → packet_in plain ≡ Ok packet →
    IsOpenedIn secrets setup past datagram generation sid plain → CameIn secrets setup past datagram generation sid packet
came_in secrets setup past s place datagram plain generation sid packet are opened e is =
    let bytes : IsBytes plain = startup_bytes s place datagram plain are opened in
    let reads = read_is plain packet bytes e in
    record { read = record { reads = record { plain = plain; opens = is.opens; reads = reads }; bytes = chunks_are plain packet bytes reads }; before = is.before; event = is.event }

came_of : (secrets : Secrets) (setup : Setup) (past : Past) (s : State) (datagram plain : List ℕ) (place : Place) (packet : Whole) → IsBytes datagram → IsOpened s datagram place plain → IsOpenedAt secrets setup past s datagram place plain →
    packet_in plain ≡ Ok packet → has_mode packet.head (mode_at (counted_at s place (drop 4 datagram)) place) ≡ true → Came secrets setup past (timed_at (counted_at s place (drop 4 datagram)) place packet.head) datagram place packet
unfolding came_in
came_of secrets setup past s datagram plain (Startup generation) packet are opened at e mode = record {
  came = came_in secrets setup past s (Startup generation) datagram plain generation 0 packet are opened.opened e at.0;
  mode = mode_is packet.head.mode mode;
  opens = at.1;
  group = at.2;
}
came_of secrets setup past s datagram plain (Attempt near generation) packet are opened at e mode =
    record { came = came_in secrets setup past s (Attempt near generation) datagram plain generation near packet are opened.opened e at.0; group = at.1 }
came_of secrets setup past s datagram plain (Session near) packet are opened at e mode = tt

heard_of : (secrets : Secrets) (setup : Setup) (past : Past) (s : State) (datagram plain : List ℕ) (place : Place) → Tied secrets setup past s → IsOpened s datagram place plain → HeardAt s place datagram
heard_of secrets setup past s datagram plain (Startup generation) tied opened = tt
heard_of secrets setup past s datagram plain (Attempt near generation) tied opened = tt
heard_of secrets setup past s datagram plain (Session near) tied opened =
    session_heard datagram near (get s.sessions near) plain opened.id opened.opened

-- ---- what it leaves

-- the state after a step of the admission
pub record Leaves (secrets : Secrets) (setup : Setup) (past : Past) (s : State) (datagram : List ℕ) (place : Place) (t : State) : Type 0 where
  pub tied : Tied secrets setup past t
  pub sent : Sent secrets setup past t
  pub same : t.moment ≡ s.moment
  pub heard : HeardAt t place datagram

counted_leaves : (secrets : Secrets) (setup : Setup) (past : Past) (s : State) (datagram part : List ℕ) (near : ℕ) (o : Option Row) → get s.sessions near ≡ o → Tied secrets setup past s → Sent secrets setup past s → HeardIn datagram near o →
    Leaves secrets setup past s datagram (Session near) (counted_by s near part o)
counted_leaves secrets setup past s datagram part near None is tied sent heard = record { tied = tied; sent = sent; same = refl; heard = subst (HeardIn datagram near) (sym is) heard }
counted_leaves secrets setup past s datagram part near (Some row) is tied sent heard =
    let new : Row = record row { session = counted row.session part } in
    record {
      tied = tied_session secrets setup past s near row new tied is (record { joined = refl; own = refl; generation = refl; inward = refl; outward = refl; role = refl; held = refl; thing = λ e. refl; stage = λ f. f; since = λ e. inl refl });
      sent = sent_session_changed secrets setup past s near row new sent is refl refl refl refl refl;
      same = refl;
      heard = subst (HeardIn datagram near) (sym (get_inserted s.sessions near new)) heard;
    }

timed_leaves : (secrets : Secrets) (setup : Setup) (past : Past) (s : State) (datagram : List ℕ) (head : PacketHead) (near : ℕ) (o : Option Row) → get s.sessions near ≡ o → Tied secrets setup past s → Sent secrets setup past s → HeardIn datagram near o →
    Leaves secrets setup past s datagram (Session near) (timed_by s near head o)
timed_leaves secrets setup past s datagram head near None is tied sent heard = record { tied = tied; sent = sent; same = refl; heard = subst (HeardIn datagram near) (sym is) heard }
timed_leaves secrets setup past s datagram head near (Some row) is tied sent heard =
    let new : Row = record row { session = with_stamps head s.moment row.session } in
    record {
      tied = tied_session secrets setup past s near row new tied is (record { joined = refl; own = refl; generation = refl; inward = refl; outward = refl; role = refl; held = refl; thing = λ e. refl; stage = λ f. f; since = λ e. inl refl });
      sent = sent_session_changed secrets setup past s near row new sent is refl refl refl refl refl;
      same = refl;
      heard = subst (HeardIn datagram near) (sym (get_inserted s.sessions near new)) heard;
    }

counted_at_leaves : (secrets : Secrets) (setup : Setup) (past : Past) (s : State) (datagram part : List ℕ) (place : Place) → Tied secrets setup past s → Sent secrets setup past s → HeardAt s place datagram → Leaves secrets setup past s datagram place (counted_at s place part)
counted_at_leaves secrets setup past s datagram part (Startup generation) tied sent heard = record { tied = tied; sent = sent; same = refl; heard = heard }
counted_at_leaves secrets setup past s datagram part (Attempt near generation) tied sent heard = record { tied = tied; sent = sent; same = refl; heard = heard }
counted_at_leaves secrets setup past s datagram part (Session near) tied sent heard = counted_leaves secrets setup past s datagram part near (get s.sessions near) refl tied sent heard

timed_at_leaves : (secrets : Secrets) (setup : Setup) (past : Past) (s : State) (datagram : List ℕ) (head : PacketHead) (place : Place) → Tied secrets setup past s → Sent secrets setup past s → HeardAt s place datagram → Leaves secrets setup past s datagram place (timed_at s place head)
timed_at_leaves secrets setup past s datagram head (Startup generation) tied sent heard = record { tied = tied; sent = sent; same = refl; heard = heard }
timed_at_leaves secrets setup past s datagram head (Attempt near generation) tied sent heard = record { tied = tied; sent = sent; same = refl; heard = heard }
timed_at_leaves secrets setup past s datagram head (Session near) tied sent heard = timed_leaves secrets setup past s datagram head near (get s.sessions near) refl tied sent heard

-- What an admission says: the state that it leaves agrees, and a datagram that is taken is what it has to be.
pub record IsTaken (secrets : Secrets) (setup : Setup) (past : Past) (s : State) (datagram : List ℕ) (t : State) (place : Place) (packet : Whole) : Type 0 where
  pub leaves : Leaves secrets setup past s datagram place t
  pub came : Came secrets setup past t datagram place packet

pub record IsRejected (secrets : Secrets) (setup : Setup) (past : Past) (s t : State) : Type 0 where
  pub tied : Tied secrets setup past t
  pub sent : Sent secrets setup past t
  pub same : t.moment ≡ s.moment

abbrev pub AdmissionIs : Secrets → Setup → Past → State → List ℕ → Admission → Type 0
AdmissionIs secrets setup past s datagram (Rejected t cause) = IsRejected secrets setup past s t
AdmissionIs secrets setup past s datagram (Admitted t place packet) = IsTaken secrets setup past s datagram t place packet

packet_admitted : (secrets : Secrets) (setup : Setup) (past : Past) (s t : State) (datagram : List ℕ) (place : Place) (r : Result Whole PacketFault) → Leaves secrets setup past s datagram place t →
    ((packet : Whole) → r ≡ Ok packet → has_mode packet.head (mode_at t place) ≡ true → Came secrets setup past (timed_at t place packet.head) datagram place packet) → AdmissionIs secrets setup past s datagram (admitted_packet t place r)
packet_admitted secrets setup past s t datagram place (Err fault) leaves came = record { tied = leaves.tied; sent = leaves.sent; same = leaves.same }
packet_admitted secrets setup past s t datagram place (Ok packet) leaves came = by_mode (has_mode packet.head (mode_at t place)) (came packet refl)
  where
    by_mode : (b : Bool) → (b ≡ true → Came secrets setup past (timed_at t place packet.head) datagram place packet) →
        AdmissionIs secrets setup past s datagram (if b then Admitted (timed_at t place packet.head) place packet else Rejected t WrongPlace)
    by_mode true is =
        let timed = timed_at_leaves secrets setup past t datagram packet.head place leaves.tied leaves.sent leaves.heard in
        record { leaves = record { tied = timed.tied; sent = timed.sent; same = timed.same ∙ leaves.same; heard = timed.heard }; came = is refl }
    by_mode false is = record { tied = leaves.tied; sent = leaves.sent; same = leaves.same }

module _ (secrets : Secrets) (setup : Setup) (past : Past) (s : State) (from : AddressParts) (datagram : List ℕ) (draws : Draws) (outset : IsOutset past) (last : last_call past ≡ Some (Receive from datagram draws)) (tied : Tied secrets setup past s) (sent : Sent secrets setup past s)
    (are : IsBytes datagram) where
  admitted_is : (r : Result (Place × List ℕ) Cause) → opened_datagram s datagram ≡ r → AdmissionIs secrets setup past s datagram (admitted s datagram r)
  admitted_is (Err cause) e = record { tied = tied; sent = sent; same = refl }
  admitted_is (Ok (place, plain)) e =
      let is : IsOpened s datagram place plain =
      found_is s datagram UnknownSession (places_of s (sid_of datagram)) (place, plain) (places_are s (sid_of datagram)) (long_enough s datagram (nat_lt (length datagram) 36) Short UnknownSession (place, plain) e) in
      let t : State = counted_at s place (drop 4 datagram) in
      packet_admitted secrets setup past s t datagram place (packet_in plain)
      (counted_at_leaves secrets setup past s datagram (drop 4 datagram) place tied sent (heard_of secrets setup past s datagram plain place tied is))
      (λ packet read mode. came_of secrets setup past s datagram plain place packet are is (opened_so secrets setup past s from datagram draws outset last tied sent.staged.attempts place plain e is) read mode)

  pub admission_is : AdmissionIs secrets setup past s datagram (admission s datagram)
  admission_is = admitted_is (opened_datagram s datagram) refl
