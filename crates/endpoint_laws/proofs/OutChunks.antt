-- What goes out of a chunk of a datagram.
use Rattle.std.proofs.Common.{◌≡◌, ℕ, ◌^◌, ◌<◌, ◌≤◌, List, length, true, Option, Some, None, is_some, Result, Ok, ◌-◌, refl, sym, ap, subst, ◌∙◌}
use Rattle.std.specs.FinMap.{get}
use Rattle.sha2.specs.Sha256.{sha256}
use Rattle.crypto_profile.specs.declared.keys.Context.{Context}
use Rattle.crypto_profile.specs.declared.keys.Context.TheVariants.{Startup as StartupContext}
use Rattle.identity.specs.Certificates.{certificate_fault}
use Rattle.rtmfp_base.specs.declared.cause.Cause.TheVariants.{Malformed}
use Rattle.rtmfp_chunks.specs.declared.reading.ChunkFault.{ChunkFault}
use Rattle.rtmfp_forms.specs.Address.{AddressParts}
use Rattle.rtmfp_packet.specs.Walk.{Placed}
use Rattle.rtmfp_chunks.specs.FieldReading.{chunk_reading}
use Rattle.rtmfp_chunks.specs.Chunk.{Chunk, RHello, Spells}
use Rattle.startup.specs.State.{AttemptState}
use Rattle.rtmfp_data_chunks.specs.Reader.{data_reading}
use Rattle.endpoint_model.specs.declared.walk.Walk.{Walk}
use Rattle.endpoint_model.specs.declared.config.Draws.{Draws}
use Rattle.endpoint_model.specs.declared.place.Place.{Place}
use Rattle.endpoint_model.specs.Event.{Setup, Call, Open, Seek, Unseek, Cancel, Close, AddRow, Introduce, Narrow, Learn, Advance, OnFlows, Receive, Tick, ReceiveCall, open_in, receive_in}
use Rattle.rtmfp_packet.specs.Whole.{Whole}
use Rattle.endpoint_model.specs.Keying.{IsAmong, chunks_of}
use Rattle.endpoint_model.specs.declared.place.Place.TheVariants.{Startup, Attempt, Session}
use Rattle.endpoint_model.specs.InSessions.{told_in_session}
use Rattle.endpoint_laws.specs.Contexts.{Secrets, OpensFirst, CallOpensIn, EventOpenedIn}
use Rattle.endpoint_laws.specs.Lawful.{HasHello}
use Rattle.endpoint_laws.specs.Past.{Past, before_event, last_call, open_of, receive_of}
use Rattle.endpoint_model.specs.State.{State}
use Rattle.endpoint_model.specs.Admission.{sid_at, group_at, attempt_group}
use Rattle.endpoint_model.specs.Effects.{is_told_in_session, chunk_did}
use Rattle.endpoint_model.specs.Gathering.{may_be_gathered}
use Rattle.endpoint_model.specs.Causes.{takes, takes_in, read_fault}
use Rattle.endpoint_laws.proofs.Facts.{test_fails}
use Rattle.endpoint_laws.proofs.Bearing.{good_certificate}
use Rattle.endpoint_laws.proofs.Tied.{Tied}
use Rattle.endpoint_laws.proofs.OutSends.{Sent, Meets}
use Rattle.endpoint_laws.proofs.OutItems.{meets_discarded}
use Rattle.endpoint_laws.proofs.Replies.{HelloCame, meets_read}
use Rattle.endpoint_laws.proofs.FlowChunks.{meets_flow_taken}
use Rattle.endpoint_laws.proofs.ByKind.{told_kinds, is_taken, chunk_by_kind}
use Rattle.endpoint_laws.proofs.Stepping.{IsFrom, of_packet, close_apart}
use Rattle.endpoint_laws.proofs.Pieces.{meets_piece}
use Rattle.endpoint_laws.proofs.Chunked.{not_at_startup, not_at_attempt}
use Rattle.endpoint_laws.proofs.Passing.{PassedAt}
use Rattle.endpoint_laws.proofs.Admitting.{Came}
use Rattle.endpoint_laws.proofs.Made.{not_in_session, not_in_attempt}
use Rattle.endpoint_laws.proofs.Spelled.{hello_kind, hello_spelled}
use Rattle.endpoint_laws.proofs.OutSessions.{meets_told}
use Rattle.endpoint_laws.proofs.OutBirths.{meets_initiator, meets_responder}

-- ---- the call of an event whose datagram opened opens no attempt

call_opens : (call : Call) (r : ReceiveCall) → receive_in call ≡ Some r → open_in call ≡ None
call_opens (Open peer candidates draws) r is = absurd (cc)
call_opens (Seek name candidates draws) r is = refl
call_opens (Unseek near) r is = refl
call_opens (Cancel n) r is = refl
call_opens (Close near) r is = refl
call_opens (AddRow print addresses) r is = refl
call_opens Introduce r is = refl
call_opens (Narrow limit) r is = refl
call_opens (Learn secret) r is = refl
call_opens Advance r is = refl
call_opens (OnFlows near flow) r is = refl
call_opens (Receive from datagram draws) r is = refl
call_opens (Tick draws) r is = refl

no_open : (secrets : Secrets) (setup : Setup) (past : Past) (generation : ℕ) → EventOpenedIn secrets setup past generation → open_of (last_call past) ≡ None
no_open secrets setup past generation = by (last_call past)
  where
    by_receive : (call : Call) (r : Option ReceiveCall) → receive_in call ≡ r → CallOpensIn secrets setup (before_event past) r generation → open_in call ≡ None
    by_receive call None is opened = absurd opened
    by_receive call (Some r) is opened = call_opens call r is

    by : (o : Option Call) → CallOpensIn secrets setup (before_event past) (receive_of o) generation → open_of o ≡ None
    by None opened = refl
    by (Some call) opened = by_receive call (receive_in call) refl opened

-- ---- a chunk

module _ (secrets : Secrets) (setup : Setup) (from : AddressParts) (datagram : List ℕ) (draws : Draws) (packet : Whole) (past : Past) (s : State) (sent : Sent secrets setup past s) (tied : Tied secrets setup past s) (cert : length setup.cert ≤ 80) where
  abbrev call : Call
  call = Receive from datagram draws

  module _ (place : Place) (came : Came secrets setup past s datagram place packet) (passed : PassedAt past place datagram packet s) (small : draws.word < 2 ^ 32) (nonce : length draws.nonce ≡ 16) (walk : Walk) (c : Placed) (whence : IsFrom packet walk c) where
    told_at : (p : Place) → PassedAt past p datagram packet s → is_told_in_session c.kind ≡ true → takes_in p walk c.kind ≡ true → Meets secrets setup s.moment call past (told_in_session s (sid_at p) from c)
    told_at (Startup generation) passed told taken = absurd (not_at_startup c.kind (told_kinds c.kind told) (is_taken (Startup generation) walk c.kind taken))
    told_at (Attempt near generation) passed told taken = absurd (not_at_attempt near c.kind (told_kinds c.kind told) (is_taken (Attempt near generation) walk c.kind taken))
    told_at (Session near) passed told taken = meets_told secrets setup from datagram draws packet past s tied sent near passed c (λ close. (of_packet packet (Session near) walk c whence (close_apart c.kind close) taken).among)

    -- the generation in which the datagram of the event opened, where a keying of an initiator came
    opened_at : (p : Place) → Came secrets setup past s datagram p packet → takes p 0x38 ≡ true → EventOpenedIn secrets setup past (group_at s p).generation
    opened_at (Startup generation) came taken = subst (EventOpenedIn secrets setup past) (sym came.group) came.came.event
    opened_at (Attempt near generation) came taken = absurd (cc)
    opened_at (Session near) came taken = absurd (cc)

    -- and where one of a responder did
    attempt_at : (p : Place) → Came secrets setup past s datagram p packet → takes p 0x78 ≡ true → (a : AttemptState) → get s.startup.attempts (sid_at p) ≡ Some a → EventOpenedIn secrets setup past (attempt_group s.group (Some a)).generation
    attempt_at (Startup generation) came taken a there = absurd (cc)
    attempt_at (Attempt near generation) came taken a there = subst (EventOpenedIn secrets setup past) (sym (came.group a there)) came.came.event
    attempt_at (Session near) came taken a there = absurd (cc)

    -- and where a hello of one did
    hello_at : (p : Place) → Came secrets setup past s datagram p packet → takes_in p walk c.kind ≡ true → (tag cookie their : List ℕ) → chunk_reading c.kind c.payload ≡ Ok (RHello tag cookie their) → read_fault (length c.payload) (Ok (RHello tag cookie their)) ≡ None → HelloCame secrets setup call past s p tag cookie their
    hello_at (Startup generation) came taken tag cookie their is formed =
        let kind : c.kind ≡ 0x70 = hello_kind c.kind c.payload tag cookie their is in
        let among : IsAmong c (chunks_of packet) = (of_packet packet (Startup generation) walk c whence (ap may_be_gathered kind) taken).among in
        record {
          brings = λ more stay near tagged low short. subst (λ (g : ℕ). HasHello secrets setup more (sha256 their) near g datagram) (sym came.group) (record {
            packet = packet;
            reads = came.came.read.reads;
            opens = subst (λ (contexts : List Context). OpensFirst secrets contexts 0 datagram (StartupContext generation) came.came.read.reads.plain) (sym stay) came.opens;
            mode = came.mode;
            chunk = c;
            among = among;
            tag = tag;
            cookie = cookie;
            cert = their;
            spells =
                subst (λ (k : ℕ). Spells (RHello tag cookie their) k c.payload) (sym kind)
                (hello_spelled c.payload (RHello tag cookie their) (came.came.read.bytes c among) (sym (ap (λ (k : ℕ). chunk_reading k c.payload) kind) ∙ is));
            tag_is = tagged;
            lowest = low;
            narrow = short;
            is_cert = good_certificate their (test_fails (is_some (certificate_fault their)) (Malformed (length c.payload - length their)) formed);
            peer_is = refl;
          });
          no_open = no_open secrets setup past generation came.came.event;
        }
    hello_at (Attempt near generation) came taken tag cookie their is formed = absurd (not_in_attempt near generation c.kind (hello_kind c.kind c.payload tag cookie their is) (is_taken (Attempt near generation) walk c.kind taken))
    hello_at (Session near) came taken tag cookie their is formed = absurd (not_in_session near c.kind (hello_kind c.kind c.payload tag cookie their is) (is_taken (Session near) walk c.kind taken))

    pub meets_chunk : Meets secrets setup s.moment call past (chunk_did place from draws walk s c)
    meets_chunk = chunk_by_kind (λ d. Meets secrets setup s.moment call past d) place from draws walk s c (record {
      discarded = λ cause. meets_discarded secrets setup s.moment call past s c.at cause sent;
      initiator = λ kind taken none formed. meets_initiator secrets setup s.moment call past s sent tied from place draws walk c.payload small nonce (opened_at place came (is_taken place walk 0x38 taken)) none;
      responder = λ kind taken none formed. meets_responder secrets setup s.moment call past s sent tied from (sid_at place) (attempt_at place came (is_taken place walk 0x78 taken)) c.payload;
      told = λ told taken has. told_at place passed told taken;
      flows = λ is taken none. meets_flow_taken secrets setup call past s sent (sid_at place) (data_reading walk.cursor c.kind c.payload);
      piece = λ kind taken. meets_piece s (sid_at place) c.at secrets setup call past sent (chunk_reading c.kind c.payload);
      reads = λ taken formed none. meets_read secrets setup call past s sent tied cert place from (chunk_reading c.kind c.payload) (λ tag cookie their is. hello_at place came taken tag cookie their is (subst (λ (r : Result Chunk ChunkFault). read_fault (length c.payload) r ≡ None) is formed)) none;
    })
