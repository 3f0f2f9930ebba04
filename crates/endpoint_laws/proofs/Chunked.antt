-- A chunk of a datagram: what is stated is lawful, and the state agrees with it.
use Rattle.std.proofs.Common.{◌≡◌, ℕ, ◌≤◌, ◌<◌, ◌^◌, List, [], ◌∷◌, length, nat_lt, Bool, true, false, not, if◌then◌else◌, Option, Some, None, is_some, Result, Ok, Err, inl, inr, ◌⊎◌, refl, sym, ap, ◌∙◌}
use Rattle.std.specs.Str.{bytes_eq}
use Rattle.std.specs.FinMap.{get, contains_key}
use Rattle.std.proofs.lemmas.Slice.Eq.{bytes_eq-Decides}
use Rattle.rtmfp_forms.specs.Address.{AddressParts}
use Rattle.rtmfp_packet.specs.Walk.{Placed}
use Rattle.rtmfp_packet.specs.Whole.{Whole}
use Rattle.rtmfp_chunks.specs.declared.reading.ChunkFault.{ChunkFault}
use Rattle.rtmfp_chunks.specs.Chunk.{Chunk, RHello}
use Rattle.rtmfp_chunks.specs.FieldReading.{chunk_reading}
use Rattle.rtmfp_data_chunks.specs.Reader.{data_reading}
use Rattle.rtmfp_base.specs.declared.cause.Cause.{Cause}
use Rattle.rtmfp_base.specs.declared.cause.Cause.TheVariants.{NoAttempt, SecondKeying, WrongState, WrongPeer, BadSignature, Wide}
use Rattle.startup.specs.declared.aim.Aim.{Aim}
use Rattle.startup.specs.declared.aim.Aim.TheVariants.{AtPeer, ByName}
use Rattle.startup.specs.Aims.{is_search, is_towards}
use Rattle.startup.specs.Attempts.{lowest, has_tag, wide, hello_cause_at}
use Rattle.startup.specs.State.{AttemptState}
use Rattle.startup_packets.specs.Packets.{is_signed}
use Rattle.startup_packets.specs.Readings.{InitiatorKeying, ResponderKeying, initiator_keying_in, responder_keying_in}
use Rattle.startup.specs.Keyings.{fault_in, cause_by, named_cause, cookie_cause, initiator_cause, iikeying_cause, is_in_hello, attempt_cause, responder_cause, rikeying_cause}
use Rattle.cookies.specs.Cookie.{cookie_test}
use Rattle.rtmfp_base.specs.Reasons.{where_true, first_that_stands}
use Rattle.endpoint_model.specs.declared.walk.Walk.{Walk}
use Rattle.endpoint_model.specs.declared.config.Draws.{Draws}
use Rattle.endpoint_model.specs.declared.place.Place.{Place}
use Rattle.endpoint_model.specs.declared.place.Place.TheVariants.{Startup, Attempt, Session}
use Rattle.endpoint_model.specs.Event.{Setup, Call, Receive}
use Rattle.endpoint_laws.specs.Contexts.{Secrets}
use Rattle.endpoint_laws.specs.Past.{Past}
use Rattle.endpoint_model.specs.Keying.{IsAmong, IsFirst, chunks_of}
use Rattle.endpoint_model.specs.State.{State, full}
use Rattle.endpoint_model.specs.Admission.{sid_at, group_at, attempt_group}
use Rattle.endpoint_model.specs.Effects.{initiator_keyed, responder_keyed, is_told_in_session, read_done, chunk_did}
use Rattle.endpoint_model.specs.InSessions.{told_in_session}
use Rattle.endpoint_model.specs.Gathering.{may_be_gathered}
use Rattle.endpoint_model.specs.Causes.{takes, takes_in, read_fault, read_cause, initiator_keying_cause, responder_keying_cause, has_state_for}
use Rattle.identity.specs.Certificates.{certificate_fault}
use Rattle.rtmfp_base.specs.declared.cause.Cause.TheVariants.{Malformed}
use Rattle.endpoint_laws.proofs.Tied.{Tied}
use Rattle.endpoint_laws.proofs.Facts.{all_none, test_fails}
use Rattle.endpoint_laws.proofs.ByKind.{told_kinds, not_false, is_taken, chunk_by_kind}
use Rattle.endpoint_laws.proofs.Stepping.{IsFrom, of_packet, close_apart}
use Rattle.endpoint_laws.proofs.Pieces.{goes_piece}
use Rattle.endpoint_laws.proofs.Going.{Goes, goes_discarded}
use Rattle.endpoint_laws.proofs.Made.{by_hello, not_in_session, not_in_attempt}
use Rattle.endpoint_laws.proofs.Spelled.{hello_kind}
use Rattle.endpoint_model.specs.Sending.{is_spent}
use Rattle.endpoint_laws.proofs.Searching.{hello_goes}
use Rattle.endpoint_laws.proofs.Replies.{goes_read, goes_spent, goes_other}
use Rattle.endpoint_laws.proofs.FlowChunks.{goes_flow_taken}
use Rattle.endpoint_laws.proofs.Passing.{PassedAt}
use Rattle.endpoint_laws.proofs.SessionChunks.{goes_told}
use Rattle.endpoint_laws.proofs.Admitting.{Came}
use Rattle.endpoint_laws.proofs.Bearing.{IsHeard}
use Rattle.endpoint_laws.proofs.Keyed.{goes_initiator}
use Rattle.endpoint_laws.proofs.Answering.{OpensAttempt, goes_responder}
use Rattle.crypto_profile.specs.declared.group.GroupSecret.{GroupSecret}

-- ---- what there being no cause says of keyings

pub read_ok : {A : Type 0} (r : Result A Cause) → fault_in r ≡ None → (x : A) × (r ≡ Ok x)
read_ok (Ok x) e = (x, refl)
read_ok (Err cause) e = absurd (cc)

same_bytes : (x y : List ℕ) → not (bytes_eq x y) ≡ false → x ≡ y
same_bytes x y e = (bytes_eq-Decides x y).0 (not_false (bytes_eq x y) e)

unkeyed : (b : Bool) (o : Option Cause) → (if b then Some SecondKeying else o) ≡ None → (b ≡ false) × (o ≡ None)
unkeyed true o e = absurd (cc)
unkeyed false o e = (refl, e)

-- no keying came before this one
keyed_none : (s : State) (place : Place) (walk : Walk) (from : AddressParts) (payload : List ℕ) → initiator_keying_cause s place walk from payload ≡ None →
    (walk.keyed ≡ false) × (iikeying_cause s.startup payload from s.moment (full s) (group_at s place) ≡ None)
keyed_none s place walk from payload e = unkeyed walk.keyed (iikeying_cause s.startup payload from s.moment (full s) (group_at s place)) e

heard_of : (s : State) (group : GroupSecret) (from : AddressParts) (payload : List ℕ) (keying : InitiatorKeying) → initiator_keying_in payload ≡ Ok keying → iikeying_cause s.startup payload from s.moment (full s) group ≡ None →
    IsHeard s group from payload keying
heard_of s group from payload keying reads e =
    let none : initiator_cause s.startup payload from s.moment (full s) group keying ≡ None = sym (ap (cause_by (initiator_cause s.startup payload from s.moment (full s) group)) reads) ∙ e in
    let all = all_none (
    where_true (not (is_signed group.secret payload keying.sign)) BadSignature
    ∷ where_true (nat_lt 128 (length keying.cookie)) (Wide (length keying.cookie))
    ∷ cookie_cause (cookie_test s.startup.cookie_secret keying.cookie from s.moment) (named_cause s.startup keying (full s))
    ∷ []) none in
    record {
      reads = reads;
      signed = not_false (is_signed group.secret payload keying.sign) (test_fails (not (is_signed group.secret payload keying.sign)) BadSignature all.0);
      narrow = test_fails (nat_lt 128 (length keying.cookie)) (Wide (length keying.cookie)) all.1.0;
      cause = all.1.1.0;
    }

opens_of : (s : State) (near : ℕ) (payload : List ℕ) (keying : ResponderKeying) → responder_keying_in payload ≡ Ok keying → (o : Option AttemptState) → get s.startup.attempts near ≡ o →
    is_signed (attempt_group s.group (get s.startup.attempts near)).secret payload keying.sign ≡ true → attempt_cause keying o ≡ None → OpensAttempt s near payload
opens_of s near payload keying reads None is signed e = absurd (cc)
opens_of s near payload keying reads (Some a) is signed e = by a.aim refl e
  where
    by : (aim : Aim) → a.aim ≡ aim → first_that_stands (
        where_true (is_search aim) NoAttempt
        ∷ where_true (is_in_hello a.stage) WrongState
        ∷ where_true (not (is_towards keying.part.responder aim)) WrongPeer
        ∷ where_true (not (bytes_eq keying.part.ni a.ni)) NoAttempt
        ∷ []) ≡ None → OpensAttempt s near payload
    by (AtPeer peer n) aims none =
        let all = all_none (
        where_true false NoAttempt
        ∷ where_true (is_in_hello a.stage) WrongState
        ∷ where_true (not (bytes_eq keying.part.responder peer)) WrongPeer
        ∷ where_true (not (bytes_eq keying.part.ni a.ni)) NoAttempt
        ∷ []) none in
        record {
          a = a;
          there = is;
          peer = peer;
          n = n;
          aims = aims;
          keying = keying;
          reads = reads;
          signed = signed;
          responder = same_bytes keying.part.responder peer (test_fails (not (bytes_eq keying.part.responder peer)) WrongPeer all.1.1.0);
          ni = same_bytes keying.part.ni a.ni (test_fails (not (bytes_eq keying.part.ni a.ni)) NoAttempt all.1.1.1.0);
        }
    by (ByName name) aims none = absurd (cc)

pub opening_of : (s : State) (near generation : ℕ) (payload : List ℕ) (keying : ResponderKeying) → responder_keying_in payload ≡ Ok keying → responder_keying_cause s (Attempt near generation) payload ≡ None → OpensAttempt s near payload
opening_of s near generation payload keying reads e = by (contains_key s.startup.attempts near) e
  where
    group : GroupSecret
    group = attempt_group s.group (get s.startup.attempts near)

    by : (b : Bool) → (if b then rikeying_cause s.startup near payload group else Some NoAttempt) ≡ None → OpensAttempt s near payload
    by true e =
        let none : responder_cause s.startup near payload group keying ≡ None = sym (ap (cause_by (responder_cause s.startup near payload group)) reads) ∙ e in
        let all = all_none (
        where_true (not (is_signed group.secret payload keying.sign)) BadSignature
        ∷ attempt_cause keying (get s.startup.attempts near)
        ∷ []) none in
        opens_of s near payload keying reads (get s.startup.attempts near) refl
        (not_false (is_signed group.secret payload keying.sign) (test_fails (not (is_signed group.secret payload keying.sign)) BadSignature all.0)) all.1.0
    by false e = absurd (cc)

-- ---- chunks that are told in a session

pub not_at_startup : (k : ℕ) → (k ≡ 0x0c) ⊎ ((k ≡ 0x4c) ⊎ (k ≡ 0x41)) → takes (Startup 0) k ≡ true → ⊥
not_at_startup k (inl e) taken = let clash : true ≡ false = sym taken ∙ ap (takes (Startup 0)) e in cc
not_at_startup k (inr (inl e)) taken = let clash : true ≡ false = sym taken ∙ ap (takes (Startup 0)) e in cc
not_at_startup k (inr (inr e)) taken = let clash : true ≡ false = sym taken ∙ ap (takes (Startup 0)) e in cc

pub not_at_attempt : (near k : ℕ) → (k ≡ 0x0c) ⊎ ((k ≡ 0x4c) ⊎ (k ≡ 0x41)) → takes (Attempt near 0) k ≡ true → ⊥
not_at_attempt near k (inl e) taken = let clash : true ≡ false = sym taken ∙ ap (takes (Attempt near 0)) e in cc
not_at_attempt near k (inr (inl e)) taken = let clash : true ≡ false = sym taken ∙ ap (takes (Attempt near 0)) e in cc
not_at_attempt near k (inr (inr e)) taken = let clash : true ≡ false = sym taken ∙ ap (takes (Attempt near 0)) e in cc

pub either_way : (b : Bool) → (b ≡ true) ⊎ (b ≡ false)
either_way true = inl refl
either_way false = inr refl

module _ (secrets : Secrets) (setup : Setup) (from : AddressParts) (datagram : List ℕ) (draws : Draws) (most : setup.config.max_sessions ≤ 65536) (small : draws.word < 2 ^ 32) (packet : Whole) where
  abbrev call : Call
  call = Receive from datagram draws

  initiator_goes : (s : State) (past : Past) (place : Place) (walk : Walk) (c : Placed) → Tied secrets setup past s → Came secrets setup past s datagram place packet → IsAmong c (chunks_of packet) → (walk.keyed ≡ false → c.kind ≡ 0x38 → IsFirst c (chunks_of packet)) →
      c.kind ≡ 0x38 → takes place 0x38 ≡ true → initiator_keying_cause s place walk from c.payload ≡ None → fault_in (initiator_keying_in c.payload) ≡ None → Goes secrets setup call past s (initiator_keyed s place from draws c.payload)
  initiator_goes s past (Startup generation) walk c tied came among first kind taken none formed =
      let reads = read_ok (initiator_keying_in c.payload) formed in
      let both = keyed_none s (Startup generation) walk from c.payload none in
      goes_initiator secrets setup from datagram draws most small past s tied reads.0 generation came.group came.came.event packet c came.came.read came.opens came.mode among (first both.0 kind) kind (heard_of s (group_at s (Startup generation)) from c.payload reads.0 reads.1 both.1)
  initiator_goes s past (Attempt near generation) walk c tied came among first kind taken none formed = absurd (cc)
  initiator_goes s past (Session near) walk c tied came among first kind taken none formed = absurd (cc)

  responder_goes : (s : State) (past : Past) (place : Place) (c : Placed) → Tied secrets setup past s → Came secrets setup past s datagram place packet → IsAmong c (chunks_of packet) →
      c.kind ≡ 0x78 → takes place 0x78 ≡ true → responder_keying_cause s place c.payload ≡ None → fault_in (responder_keying_in c.payload) ≡ None → Goes secrets setup call past s (responder_keyed s (sid_at place) from c.payload)
  responder_goes s past (Startup generation) c tied came among kind taken none formed = absurd (cc)
  responder_goes s past (Attempt near generation) c tied came among kind taken none formed =
      let reads = read_ok (responder_keying_in c.payload) formed in
      goes_responder secrets setup from datagram draws packet past s tied near generation came c (opening_of s near generation c.payload reads.0 reads.1 none) among kind
  responder_goes s past (Session near) c tied came among kind taken none formed = absurd (cc)

  told_goes : (s : State) (past : Past) (place : Place) (c : Placed) → Tied secrets setup past s → PassedAt past place datagram packet s → ((c.kind ≡ 0x0c) ⊎ (c.kind ≡ 0x4c) → IsAmong c (chunks_of packet)) → is_told_in_session c.kind ≡ true →
      takes place c.kind ≡ true → has_state_for s place c.kind ≡ true → Goes secrets setup call past s (told_in_session s (sid_at place) from c)
  told_goes s past (Startup generation) c tied passed among told taken has = absurd (not_at_startup c.kind (told_kinds c.kind told) taken)
  told_goes s past (Attempt near generation) c tied passed among told taken has = absurd (not_at_attempt near c.kind (told_kinds c.kind told) taken)
  told_goes s past (Session near) c tied passed among told taken has = goes_told secrets setup from datagram draws packet past s tied near passed c among has

  good_cert : (cert : List ℕ) (at : ℕ) → where_true (is_some (certificate_fault cert)) (Malformed at) ≡ None → is_some (certificate_fault cert) ≡ false
  good_cert cert at none = test_fails (is_some (certificate_fault cert)) (Malformed at) none

  hello_at : (s : State) (past : Past) (place : Place) (c : Placed) → Tied secrets setup past s → Came secrets setup past s datagram place packet → IsAmong c (chunks_of packet) → (tag cookie cert : List ℕ) → chunk_reading c.kind c.payload ≡ Ok (RHello tag cookie cert) →
      takes place c.kind ≡ true → read_fault (length c.payload) (Ok (RHello tag cookie cert)) ≡ None → read_cause s place from (Ok (RHello tag cookie cert)) ≡ None → Goes secrets setup call past s (read_done s place from (Ok (RHello tag cookie cert)))
  hello_at s past (Startup generation) c tied came among tag cookie cert is taken formed none =
      let o = lowest (has_tag tag) s.startup.attempts in
      let all = all_none (wide tag ∷ wide cookie ∷ hello_cause_at s.startup o cert ∷ []) none in
      goes_read secrets setup call past s (Startup generation) from (Ok (RHello tag cookie cert)) (goes_spent secrets setup call past s (Startup generation) from tag cookie cert tied (is_spent s) refl
      (λ unspent. hello_goes secrets setup from datagram draws packet c generation among past came.came s tied (Startup generation) tag cookie cert is (good_cert cert _ formed) o refl all.1.1.0))
  hello_at s past (Attempt near generation) c tied came among tag cookie cert is taken formed none = absurd (not_in_attempt near generation c.kind (hello_kind c.kind c.payload tag cookie cert is) taken)
  hello_at s past (Session near) c tied came among tag cookie cert is taken formed none = absurd (not_in_session near c.kind (hello_kind c.kind c.payload tag cookie cert is) taken)

  read_goes : (s : State) (past : Past) (place : Place) (c : Placed) → Tied secrets setup past s → Came secrets setup past s datagram place packet → (c.kind ≡ 0x70 → IsAmong c (chunks_of packet)) → (read : Result Chunk ChunkFault) → chunk_reading c.kind c.payload ≡ read →
      takes place c.kind ≡ true → read_fault (length c.payload) read ≡ None → read_cause s place from read ≡ None → Goes secrets setup call past s (read_done s place from read)
  read_goes s past place c tied came among =
      by_hello (λ read. chunk_reading c.kind c.payload ≡ read → takes place c.kind ≡ true → read_fault (length c.payload) read ≡ None → read_cause s place from read ≡ None → Goes secrets setup call past s (read_done s place from read))
      (λ tag cookie cert is taken formed none. hello_at s past place c tied came (among (hello_kind c.kind c.payload tag cookie cert is)) tag cookie cert is taken formed none)
      (λ read other is taken formed none. goes_read secrets setup call past s place from read (goes_other secrets setup call s place from read other past tied))

  pub chunk_goes : (s : State) (past : Past) (place : Place) (walk : Walk) (c : Placed) → Tied secrets setup past s → Came secrets setup past s datagram place packet → PassedAt past place datagram packet s → IsFrom packet walk c → Goes secrets setup call past s (chunk_did place from draws walk s c)
  chunk_goes s past place walk c tied came passed whence = chunk_by_kind (λ d. Goes secrets setup call past s d) place from draws walk s c (record {
    discarded = λ cause. goes_discarded secrets setup call s c.at cause past tied;
    initiator = λ kind taken none formed.
        let own = of_packet packet place walk c whence (ap may_be_gathered kind) (ap (takes_in place walk) kind ∙ taken) in
        initiator_goes s past place walk c tied came own.among own.first kind (is_taken place walk 0x38 taken) none formed;
    responder = λ kind taken none formed.
        let own = of_packet packet place walk c whence (ap may_be_gathered kind) (ap (takes_in place walk) kind ∙ taken) in
        responder_goes s past place c tied came own.among kind (is_taken place walk 0x78 taken) none formed;
    told = λ told taken has. told_goes s past place c tied passed (λ close. (of_packet packet place walk c whence (close_apart c.kind close) taken).among) told (is_taken place walk c.kind taken) has;
    flows = λ is taken none. goes_flow_taken secrets setup call s (sid_at place) (data_reading walk.cursor c.kind c.payload) past tied;
    piece = λ kind taken. goes_piece s (sid_at place) c.at secrets setup call (chunk_reading c.kind c.payload) past tied;
    reads = λ taken formed none.
        read_goes s past place c tied came (λ hello. (of_packet packet place walk c whence (ap may_be_gathered hello) taken).among) (chunk_reading c.kind c.payload) refl (is_taken place walk c.kind taken) formed none;
  })
