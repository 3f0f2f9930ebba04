-- Where a datagram came stays so while its chunks are gone through.
use Rattle.std.proofs.Common.{◌≡◌, ℕ, List, [], ◌∷◌, Option, Some, None, Result, Ok, Err, inl, inr, refl, sym, ap, subst, ◌∙◌}
use Rattle.std.specs.FinMap.{get}
use Rattle.rtmfp_base.proofs.Maps.{found_inserted, found_left}
use Rattle.rtmfp_forms.specs.Address.{AddressParts}
use Rattle.crypto_profile.specs.declared.group.GroupSecret.{GroupSecret}
use Rattle.crypto_profile.specs.declared.keys.Context.{Context}
use Rattle.crypto_profile.specs.declared.keys.Context.TheVariants.{Startup as StartupContext}
use Rattle.rtmfp_packet.specs.Whole.{Whole}
use Rattle.rtmfp_packet.specs.Walk.{Placed}
use Rattle.rtmfp_chunks.specs.declared.reading.ChunkFault.{ChunkFault}
use Rattle.rtmfp_chunks.specs.Chunk.{Chunk, RHello, Redirect, CookieChange}
use Rattle.rtmfp_chunks.specs.FieldReading.{chunk_reading}
use Rattle.glare_core.specs.declared.facts.Fact.{Fact}
use Rattle.startup.specs.declared.attempt.Stage.{Stage}
use Rattle.startup.specs.declared.attempt.Stage.TheVariants.{Hello, Keying}
use Rattle.startup.specs.State.{StartupState, AttemptState, Attempts}
use Rattle.startup.specs.Attempts.{lowest, has_tag, changed, with_cookie, recookied, with_attempt, after_change}
use Rattle.startup.specs.Redirects.{told_addresses, new_candidates, extended, after_extension, after_redirect_of}
use Rattle.startup.specs.Keyings.{opened, after_opening}
use Rattle.rtmfp_data_chunks.specs.Chunk.{DataChunk}
use Rattle.rtmfp_data_chunks.specs.declared.view.DataFault.{DataFault}
use Rattle.rtmfp_data_chunks.specs.Reader.{data_reading}
use Rattle.rtmfp_data_chunks.specs.Fitting.{AreSmall}
use Rattle.endpoint_model.specs.FlowChunks.{flow_taken_by, flow_taken}
use Rattle.endpoint_model.specs.declared.config.Draws.{Draws}
use Rattle.endpoint_model.specs.declared.place.Place.{Place}
use Rattle.endpoint_model.specs.declared.place.Place.TheVariants.{Startup, Attempt, Session}
use Rattle.endpoint_model.specs.declared.row.Row.{Row}
use Rattle.endpoint_model.specs.declared.walk.Walk.{Walk}
use Rattle.endpoint_model.specs.declared.entry.Entry.{Entry}
use Rattle.endpoint_model.specs.Event.{Setup, Call}
use Rattle.endpoint_model.specs.State.{State, Did, with_startup}
use Rattle.endpoint_model.specs.Admission.{known_group, stage_group, attempt_group, sid_at, confirming}
use Rattle.endpoint_model.specs.Effects.{opening_done, read_left, read_done, replied, read_reply, chunk_did, with_opened}
use Rattle.endpoint_laws.specs.Past.{Past, stamped, onto, before_event, last_call, receive_of}
use Rattle.endpoint_laws.specs.Contexts.{Secrets, OpensFirst, OpensInStartup, CallOpensIn, startup_contexts, next_contexts}
use Rattle.endpoint_laws.specs.Past.{current_of, next_of}
use Rattle.endpoint_laws.proofs.Kin.{answered_there, changed_there}
use Rattle.endpoint_laws.proofs.Replies.{startup_sends}
use Rattle.endpoint_laws.proofs.Small.{Any}
use Rattle.endpoint_laws.proofs.ByKind.{is_taken, told_kinds, chunk_by_kind}
use Rattle.endpoint_laws.proofs.Made.{IsNoHello, by_hello, carries_any, replied_made, in_session_made, not_in_attempt, chunk_made}
use Rattle.endpoint_laws.proofs.Succeeding.{StaysInGroup, NamesNoneEach, current_onto, next_onto, stays_law, stays_begins}
use Rattle.endpoint_laws.proofs.Spelled.{hello_kind}
use Rattle.endpoint_laws.proofs.Chunked.{not_at_attempt}
use Rattle.endpoint_laws.proofs.Admitting.{CameIn, CameAtZero, CameAtAttempt, Came}

-- ---- entries of one event

pub before_onto : (moment : ℕ) (entries : List Entry) (past : Past) → before_event (onto moment entries past) ≡ before_event past
before_onto moment [] past = refl
before_onto moment (entry ∷ rest) past = before_onto moment rest (stamped moment entry ∷ past)

pub last_onto : (moment : ℕ) (entries : List Entry) (past : Past) → last_call (onto moment entries past) ≡ last_call past
last_onto moment [] past = refl
last_onto moment (entry ∷ rest) past = last_onto moment rest (stamped moment entry ∷ past)

contexts_onto : (setup : Setup) (moment : ℕ) (entries : List Entry) (past : Past) → NamesNoneEach entries → startup_contexts setup (onto moment entries past) ≡ startup_contexts setup past
contexts_onto setup moment entries past none =
    ap (λ (g : ℕ). StartupContext g ∷ next_contexts (next_of (onto moment entries past))) (current_onto setup moment entries past none)
    ∙ ap (λ (o : Option ℕ). StartupContext (current_of setup past) ∷ next_contexts o) (next_onto moment entries past none)

-- ---- the attempts

-- An attempt that is there was there before, with the same secret of the group.
abbrev WasThere : Attempts → AttemptState → ℕ → Type 0
WasThere attempts a near = (b : AttemptState) × (get attempts near ≡ Some b) × ((current : GroupSecret) → stage_group current a.stage ≡ stage_group current b.stage)

abbrev AttemptsStay : Attempts → Attempts → Type 0
AttemptsStay before after = (near : ℕ) (a : AttemptState) → get after near ≡ Some a → WasThere before a near

attempts_same : (attempts : Attempts) → AttemptsStay attempts attempts
attempts_same attempts near a there = (a, there, λ current. refl)

-- one goes on
attempts_put : (s : StartupState) (e : ℕ × AttemptState) (new : AttemptState) → get s.attempts e.0 ≡ Some e.1 → ((current : GroupSecret) → stage_group current new.stage ≡ stage_group current e.1.stage) → AttemptsStay s.attempts (with_attempt s e.0 new).attempts
attempts_put s e new there same near a is = elim (found_inserted s.attempts e.0 new near a is) [
  | inl here ↦ (
    e.1,
    ap (get s.attempts) here.0 ∙ there,
    λ current. ap (λ (x : AttemptState). stage_group current x.stage) (sym here.1) ∙ same current,
  )
  | inr other ↦ attempts_same s.attempts near a other.1
]

recookied_stays : (cookie : List ℕ) (stage : Stage) (current : GroupSecret) → stage_group current (with_cookie cookie stage) ≡ stage_group current stage
recookied_stays cookie Hello current = refl
recookied_stays cookie (Keying at old under) current = refl

changed_stays : (s : StartupState) (o : Option (ℕ × AttemptState)) (cookie : List ℕ) (moment : ℕ) → ((e : ℕ × AttemptState) → o ≡ Some e → get s.attempts e.0 ≡ Some e.1) → AttemptsStay s.attempts (after_change s o cookie moment).attempts
changed_stays s None cookie moment there = attempts_same s.attempts
changed_stays s (Some e) cookie moment there = attempts_put s e (recookied e.1 cookie moment) (there e refl) (recookied_stays cookie e.1.stage)

extended_stays : (s : StartupState) (e : ℕ × AttemptState) → get s.attempts e.0 ≡ Some e.1 → (new : List AddressParts) (moment : ℕ) → AttemptsStay s.attempts (after_extension s e new moment).attempts
extended_stays s e there [] moment = attempts_same s.attempts
extended_stays s e there (first ∷ others) moment = attempts_put s e (extended e.1 (first ∷ others) moment) there (λ current. refl)

redirected_stays : (s : StartupState) (o : Option (ℕ × AttemptState)) (addresses : List AddressParts) (moment : ℕ) → ((e : ℕ × AttemptState) → o ≡ Some e → get s.attempts e.0 ≡ Some e.1) → AttemptsStay s.attempts (after_redirect_of s o addresses moment).attempts
redirected_stays s None addresses moment there = attempts_same s.attempts
redirected_stays s (Some e) addresses moment there = extended_stays s e (there e refl) (new_candidates e.1.candidates addresses) moment

-- ---- a chunk of a datagram that came under the session ID of an attempt

abbrev Stays : State → Did → Type 0
Stays s d = AttemptsStay s.startup.attempts d.state.startup.attempts

-- then something that leaves what is kept
stays_then : (s : State) (startup : StartupState) (last : StartupState) → AttemptsStay s.startup.attempts startup.attempts → last ≡ startup → AttemptsStay s.startup.attempts last.attempts
stays_then s startup last stays same = subst (λ (x : StartupState). AttemptsStay s.startup.attempts x.attempts) (sym same) stays

left_stays : (s : State) (place : Place) (from : AddressParts) (read : Result Chunk ChunkFault) → IsNoHello read → AttemptsStay s.startup.attempts (read_left s place from read).startup.attempts
left_stays s place from (Ok (RHello tag cookie cert)) other = absurd other
left_stays s place from (Ok (Redirect tag list)) other = redirected_stays s.startup (lowest (has_tag tag) s.startup.attempts) (told_addresses list from) s.moment (answered_there s.startup.attempts tag)
left_stays s place from (Ok (CookieChange old new)) other = changed_stays s.startup (changed s.startup.attempts (sid_at place) old) new s.moment (changed_there s.startup.attempts (sid_at place) old)
left_stays s place from _ other = attempts_same s.startup.attempts

read_stays : (s : State) (place : Place) (from : AddressParts) (read : Result Chunk ChunkFault) → IsNoHello read → Stays s (read_done s place from read)
read_stays s place from read other =
    let t : State = read_left s place from read in
    let reply = read_reply s place from read in
    stays_then s t.startup (replied t place from reply).state.startup (left_stays s place from read other) (replied_made startup_sends t place from reply (carries_any Any (λ body. tt) reply))

opened_stays : (s : State) (near : ℕ) (from : AddressParts) (g : GroupSecret) (o : Option Fact) → Stays s (opening_done s near from g o)
opened_stays s near from g None = attempts_same s.startup.attempts
opened_stays s near from g (Some fact) =
    let t : State = with_opened (with_startup s (after_opening s.startup near fact)) fact from g in
    stays_then s t.startup (opening_done s near from g (Some fact)).state.startup (λ q a there. attempts_same s.startup.attempts q a (found_left s.startup.attempts near q a there).1) (in_session_made startup_sends t near from _ tt)

flows_stay : (s : State) (near : ℕ) (chunk : DataChunk) (o : Option Row) → (flow_taken_by s near chunk o).state.startup ≡ s.startup
flows_stay s near chunk None = refl
flows_stay s near chunk (Some row) = refl

flow_stays : (s : State) (near : ℕ) (read : Result DataChunk DataFault) → Stays s (flow_taken s near read)
flow_stays s near (Ok chunk) = stays_then s s.startup (flow_taken_by s near chunk (get s.sessions near)).state.startup (attempts_same s.startup.attempts) (flows_stay s near chunk (get s.sessions near))
flow_stays s near (Err fault) = attempts_same s.startup.attempts

chunk_stays : (near generation : ℕ) (from : AddressParts) (draws : Draws) (walk : Walk) (s : State) (c : Placed) → Stays s (chunk_did (Attempt near generation) from draws walk s c)
chunk_stays near generation from draws walk s c =
    let place : Place = Attempt near generation in
    chunk_by_kind (Stays s) place from draws walk s c (record {
      discarded = λ cause. attempts_same s.startup.attempts;
      initiator = λ kind taken none formed. absurd (cc);
      responder = λ kind taken none formed. opened_stays s near from (attempt_group s.group (get s.startup.attempts near)) (opened s.startup near c.payload);
      told = λ told taken has. absurd (not_at_attempt near c.kind (told_kinds c.kind told) (is_taken place walk c.kind taken));
      flows = λ is taken none. flow_stays s near (data_reading walk.cursor c.kind c.payload);
      piece = λ kind taken. absurd (cc);
      reads = λ taken formed none.
          by_hello (λ read. chunk_reading c.kind c.payload ≡ read → Stays s (read_done s place from read))
          (λ tag cookie cert is. absurd (not_in_attempt near generation c.kind (hello_kind c.kind c.payload tag cookie cert is) (is_taken place walk c.kind taken))) (λ read other is. read_stays s place from read other) (chunk_reading c.kind c.payload) refl;
    })

-- ---- it came there

module _ (secrets : Secrets) (setup : Setup) (past : Past) (s : State) (d : Did) (stays : StaysInGroup s d) (datagram : List ℕ) (packet : Whole) where
  abbrev now : Past
  now = onto s.moment d.entries past

  same_before : before_event now ≡ before_event past
  same_before = before_onto s.moment d.entries past

  came_in_still : (generation sid : ℕ) → CameIn secrets setup past datagram generation sid packet → CameIn secrets setup now datagram generation sid packet
  came_in_still generation sid came = record {
    read = came.read;
    before = subst (λ (p : Past). OpensInStartup secrets setup p datagram generation) (sym same_before) came.before;
    event = subst (λ (p : Past). CallOpensIn secrets setup p (receive_of (last_call now)) generation) (sym same_before)
        (subst (λ (o : Option Call). CallOpensIn secrets setup (before_event past) (receive_of o) generation) (sym (last_onto s.moment d.entries past)) came.event);
  }

  came_at_zero : (generation : ℕ) → CameAtZero secrets setup past s datagram generation packet → CameAtZero secrets setup now d.state datagram generation packet
  unfolding came_in_still
  came_at_zero generation came = record {
    came = came_in_still generation 0 came.came;
    mode = came.mode;
    opens = subst (λ (cs : List Context). OpensFirst secrets cs 0 datagram (StartupContext generation) came.came.read.reads.plain) (sym (contexts_onto setup s.moment d.entries past stays.none)) came.opens;
    group = ap (λ (o : Option GroupSecret). (known_group generation o d.state.group).generation) stays.next ∙ ap (λ (g : GroupSecret). (known_group generation s.next g).generation) stays.group ∙ came.group;
  }

  came_at_attempt : (near generation : ℕ) → Stays s d → CameAtAttempt secrets setup past s datagram near generation packet → CameAtAttempt secrets setup now d.state datagram near generation packet
  came_at_attempt near generation attempts came = record {
    came = came_in_still generation near came.came;
    group = λ a there.
        let was = attempts near a there in
        ap (λ (g : GroupSecret). (stage_group g a.stage).generation) stays.group ∙ ap (λ (g : GroupSecret). g.generation) (was.2 s.group) ∙ came.group was.0 was.1;
  }

-- after a chunk
pub came_on : (secrets : Secrets) (setup : Setup) (past : Past) (s : State) (datagram : List ℕ) (packet : Whole) (from : AddressParts) (draws : Draws) (walk : Walk) (c : Placed) (place : Place) → AreSmall walk.cursor → Came secrets setup past s datagram place packet →
    Came secrets setup (onto s.moment (chunk_did place from draws walk s c).entries past) (chunk_did place from draws walk s c).state datagram place packet
came_on secrets setup past s datagram packet from draws walk c (Startup generation) small came =
    came_at_zero secrets setup past s (chunk_did (Startup generation) from draws walk s c) (chunk_made stays_law stays_begins (Startup generation) from draws walk s c small) datagram packet generation came
came_on secrets setup past s datagram packet from draws walk c (Attempt near generation) small came =
    came_at_attempt secrets setup past s (chunk_did (Attempt near generation) from draws walk s c) (chunk_made stays_law stays_begins (Attempt near generation) from draws walk s c small) datagram packet near generation (chunk_stays near generation from draws walk s c) came
came_on secrets setup past s datagram packet from draws walk c (Session near) small came = tt

-- and after the session is confirmed
pub came_confirming : (secrets : Secrets) (setup : Setup) (past : Past) (s : State) (datagram : List ℕ) (packet : Whole) (place : Place) → Came secrets setup past s datagram place packet →
    Came secrets setup (onto s.moment (confirming s place).entries past) (confirming s place).state datagram place packet
came_confirming secrets setup past s datagram packet (Startup generation) came = came
came_confirming secrets setup past s datagram packet (Attempt near generation) came = came
came_confirming secrets setup past s datagram packet (Session near) came = tt
