-- The keyings that bear and open sessions: how they read, why they are discarded, and what they
-- make.
use Rattle.std.specs.Prelude.{ℕ, List, [], ◌∷◌, ◌==◌, Bool, true, false, not, Option, Some, None, is_none, Result, Ok, Err, if◌then◌else◌}
use Rattle.std.specs.Str.{bytes_eq}
use Rattle.std.specs.FinMap.{contains_key, get, insert, remove}
use Rattle.sha2.specs.Sha256.{sha256}
use Rattle.crypto_profile.specs.declared.group.GroupSecret.{GroupSecret}
use Rattle.crypto_profile.specs.Keys.{sign_key_of, startup_keys_of}
use Rattle.rtmfp_forms.specs.Address.{AddressParts}
use Rattle.rtmfp_chunks.specs.declared.kinds.TheConstants.{IIKEYING, RIKEYING}
use Rattle.cookies.specs.declared.CookieTest.{CookieTest}
use Rattle.cookies.specs.declared.CookieTest.TheVariants.{Bad, Moved, Expired, Current}
use Rattle.cookies.specs.Cookie.{cookie_of, cookie_test}
use Rattle.identity.specs.Targets.{selects, target_of}
use Rattle.glare_core.specs.declared.facts.Fact.{Fact}
use Rattle.glare_core.specs.declared.facts.Fact.TheVariants.{Opened, Ended}
use Rattle.glare_core.specs.declared.facts.Why.{Why}
use Rattle.glare_core.specs.declared.facts.Why.TheVariants.{Glare as ForGlare}
use Rattle.glare_core.specs.declared.facts.Joined.{Joined}
use Rattle.glare_core.specs.declared.facts.Held.{Held}
use Rattle.glare_core.specs.declared.facts.Held.TheVariants.{Opening, HalfOpen, KeptAsResponder, KeptAsInitiator}
use Rattle.glare_core.specs.declared.answers.Keying.{Keying}
use Rattle.glare_core.specs.declared.answers.HearRefusal.{HearRefusal}
use Rattle.glare_core.specs.declared.answers.HearRefusal.TheVariants.{Stale as StaleNumber, Glare as OwnPrevails, PeersFull as NoRow, SessionsFull as NoPlace, Memory as NoMemory}
use Rattle.glare_core.specs.Ledger.{Ledger, held_with}
use Rattle.rtmfp_base.specs.Reasons.{where_true, first_that_stands}
use Rattle.glare_core.specs.Calls.{is_born_of, hear_refusal, heard, heard_noted, way_made, born_fact}
use Rattle.rtmfp_base.specs.declared.cause.Cause.{Cause}
use Rattle.rtmfp_base.specs.declared.cause.Cause.TheVariants.{NotSelected, NoAttempt, WrongPeer, WrongState, BadCookie, BadSignature, WrongResponder, OwnCertificate, Stale, Glare, PeersFull, SessionsFull}
use Rattle.startup.specs.declared.answer.Answer.{Answer}
use Rattle.startup.specs.declared.answer.Keyed.{Keyed}
use Rattle.startup.specs.declared.answer.Keyed.TheVariants.{Change, Again, Birth}
use Rattle.startup.specs.declared.aim.Aim.{Aim}
use Rattle.startup.specs.declared.aim.Aim.TheVariants.{AtPeer, ByName}
use Rattle.startup.specs.declared.attempt.Stage.{Stage}
use Rattle.startup.specs.declared.attempt.Stage.TheVariants.{Hello, Keying as KeyingStage}
use Rattle.startup_packets.specs.Readings.{InitiatorKeying, ResponderKeying, initiator_keying_in, responder_keying_in}
use Rattle.startup_packets.specs.Packets.{is_signed, rhello_packet, cookiechange_packet, rikeying_packet, rikeying_signature, rikeying_with}
use Rattle.startup.specs.declared.kept.KeptKeying.{KeptKeying}
use Rattle.startup.specs.Answers.{answer_under}
use Rattle.startup.specs.Aims.{is_search, is_towards}
use Rattle.startup.specs.State.{AttemptState, Attempts, StartupState}
use Rattle.startup.specs.Attempts.{wide, is_own, without_attempt}

-- ---- how they read

-- why it doesn't read, or what this test says of it
abbrev pub cause_by : {A : Type 0} → (A → Option Cause) → Result A Cause → Option Cause
cause_by test (Ok read) = test read
cause_by test (Err cause) = Some cause

-- ---- hellos

-- why an initiator's hello isn't answered: its tag is wide, or its discriminator doesn't select the
-- own certificate, by its fingerprint or by its name
abbrev pub initiator_hello_cause : StartupState → List ℕ → List ℕ → Option Cause
initiator_hello_cause s epd tag = first_that_stands
    (wide tag ∷ where_true (not (selects (target_of epd) s.cert)) NotSelected ∷ [])

-- what answers it under this secret of the group: its tag, a new cookie for the address, and the own
-- certificate
abbrev pub initiator_hello_answer : StartupState → List ℕ → AddressParts → ℕ → GroupSecret → Answer
initiator_hello_answer s tag to now g =
    answer_under g to 0 (rhello_packet tag (cookie_of s.cookie_secret to now) s.cert)

-- ---- initiators' keyings

-- what a keying says to the ledger
abbrev pub keying_of : InitiatorKeying → Keying
keying_of keying = record {
  peer = sha256 keying.cert;
  n = keying.part.n;
  ni = keying.part.ni;
  far = keying.near;
}

-- the limit on sessions, which is told where there is no room for one more
abbrev pub limit_told : Option ℕ → ℕ
limit_told None = 0
limit_told (Some limit) = limit

-- the cause that goes with a refusal of the ledger
abbrev pub heard_cause : Option ℕ → Option HearRefusal → Option Cause
heard_cause full None = None
heard_cause full (Some (StaleNumber floor)) = Some (Stale floor)
heard_cause full (Some (OwnPrevails n)) = Some (Glare n)
heard_cause full (Some (NoRow count)) = Some (PeersFull count)
heard_cause full (Some NoPlace) = Some (SessionsFull (limit_told full))
heard_cause full (Some NoMemory) = None

-- why a keying with a good cookie is discarded
abbrev pub named_cause : StartupState → InitiatorKeying → Option ℕ → Option Cause
named_cause s keying full =
    first_that_stands (
    where_true (not (bytes_eq keying.part.responder (sha256 s.cert))) WrongResponder
    ∷ where_true (is_own s keying.cert) OwnCertificate
    ∷ heard_cause full (hear_refusal s.ledger (keying_of keying) (is_none full))
    ∷ [])

-- A cookie that moved or expired is no cause: it is changed. With a good one this later cause
-- stands.
abbrev pub cookie_cause : CookieTest → Option Cause → Option Cause
cookie_cause Bad later = Some BadCookie
cookie_cause Moved later = None
cookie_cause Expired later = None
cookie_cause Current later = later

-- why a keying is discarded that reads, and opened under this secret of the group
abbrev pub initiator_cause : StartupState → List ℕ → AddressParts → ℕ → Option ℕ → GroupSecret →
    InitiatorKeying → Option Cause
initiator_cause s payload from now full g keying =
    first_that_stands (
    where_true (not (is_signed g.secret payload keying.sign)) BadSignature
    ∷ wide keying.cookie
    ∷ cookie_cause (cookie_test s.cookie_secret keying.cookie from now) (named_cause s keying full)
    ∷ [])

-- Why an initiator's keying is discarded, where it came from this address at this moment, and
-- opened under this secret of the group; full is the limit on sessions where there is no room for
-- one more. Want of memory stands behind all this.
abbrev pub iikeying_cause : StartupState → List ℕ → AddressParts → ℕ → Option ℕ → GroupSecret →
    Option Cause
iikeying_cause s payload from now full g = cause_by (initiator_cause s payload from now full g)
    (initiator_keying_in payload)

-- a new cookie for the address, in place of that of the keying
abbrev pub change_answer : StartupState → InitiatorKeying → AddressParts → ℕ → GroupSecret → Answer
change_answer s keying from now g = answer_under g from keying.near
    (cookiechange_packet keying.cookie (cookie_of s.cookie_secret from now))

-- the responder's keying of a session that is born, under the secret of the group under which its
-- initiator's keying opened
abbrev pub session_answer : StartupState → Joined → AddressParts → GroupSecret → Answer
session_answer s j from g = answer_under g from j.far
    (rikeying_packet g.secret j.near j.nr j.k (sha256 s.cert) j.ni)

-- what of it is kept for repeats: the generation and its startup keys, and the signature
abbrev pub kept_keying : StartupState → Joined → GroupSecret → KeptKeying
kept_keying s j g =
    record {
      generation = g.generation;
      keys = startup_keys_of g;
      sign = rikeying_signature (sign_key_of g.secret) j.near j.nr j.k (sha256 s.cert) j.ni;
    }

-- the responder's keying of a session again, as it was kept
abbrev pub kept_answer : StartupState → Joined → AddressParts → KeptKeying → Answer
kept_answer s j from kept =
    record {
      to = from;
      sid = j.far;
      plain = rikeying_with j.near j.nr j.k (sha256 s.cert) j.ni kept.sign;
      generation = kept.generation;
      keys = kept.keys;
    }

-- the held session that was born of this very keying
abbrev pub repeated_session : Option Held → Keying → Option Joined
repeated_session None keying = None
repeated_session (Some (Opening n near ni)) keying = None
repeated_session (Some (HalfOpen j)) keying = where_true (is_born_of j keying) j
repeated_session (Some (KeptAsResponder j)) keying = where_true (is_born_of j keying) j
repeated_session (Some (KeptAsInitiator j)) keying = None

-- the session that is born of a keying
abbrev pub born_session : Ledger → Keying → ℕ → List ℕ → Joined
born_session l keying near nr =
    record {
      peer = keying.peer;
      n = keying.n;
      near = near;
      far = keying.far;
      ni = keying.ni;
      nr = nr;
      k = l.started;
    }

-- A repeated keying is answered as it was kept, whatever it opened under.
abbrev pub again_by : StartupState → Joined → AddressParts → Option KeptKeying → Option Keyed
again_by s j from None = None
again_by s j from (Some kept) = Some (Again (kept_answer s j from kept))

abbrev pub again_or_birth : StartupState → Keying → AddressParts → ℕ → List ℕ → GroupSecret →
    Option Joined → Option Keyed
again_or_birth s keying from near nr g (Some j) = again_by s j from (get s.kept keying.peer)
again_or_birth s keying from near nr g None =
    Some (Birth (way_made keying.peer (held_with s.ledger keying.peer))
    (born_fact s.ledger keying near nr)
    (session_answer s (born_session s.ledger keying near nr) from g))

abbrev pub keyed_with : StartupState → AddressParts → ℕ → ℕ → List ℕ → GroupSecret →
    InitiatorKeying → CookieTest → Option Keyed
keyed_with s from now near nr g keying Current =
    again_or_birth s (keying_of keying) from near nr g
    (repeated_session (held_with s.ledger (sha256 keying.cert)) (keying_of keying))
keyed_with s from now near nr g keying Bad = Some (Change (change_answer s keying from now g))
keyed_with s from now near nr g keying Moved = Some (Change (change_answer s keying from now g))
keyed_with s from now near nr g keying Expired = Some (Change (change_answer s keying from now g))

abbrev pub keyed_reading : StartupState → AddressParts → ℕ → ℕ → List ℕ → GroupSecret →
    Result InitiatorKeying Cause → Option Keyed
keyed_reading s from now near nr g (Ok keying) =
    keyed_with s from now near nr g keying (cookie_test s.cookie_secret keying.cookie from now)
keyed_reading s from now near nr g (Err cause) = None

-- What an initiator's keying gives that isn't discarded, and opened under this secret of the group:
-- a new cookie, the keying of its held session again, or the birth of a session with this near id
-- and nonce. None where it doesn't read, or nothing is kept of its held session.
abbrev pub keyed : StartupState → List ℕ → AddressParts → ℕ → ℕ → List ℕ → GroupSecret →
    Option Keyed
keyed s payload from now near nr g = keyed_reading s from now near nr g
    (initiator_keying_in payload)

-- the near id of a held attempt
abbrev pub opening_id : Option Held → Option ℕ
opening_id None = None
opening_id (Some (Opening n near ni)) = Some near
opening_id (Some (HalfOpen j)) = None
opening_id (Some (KeptAsResponder j)) = None
opening_id (Some (KeptAsInitiator j)) = None

-- the same by the fact that makes way for a session: what ends for Glare is an attempt
abbrev pub gone_for : ℕ → Why → Option ℕ
gone_for near ForGlare = Some near
gone_for near why = None

abbrev pub attempt_gone : Option Fact → Option ℕ
attempt_gone (Some (Ended peer near why)) = gone_for near why
attempt_gone (Some fact) = None
attempt_gone None = None

-- the attempts without that with this near id, where there is one
abbrev pub without : Attempts → Option ℕ → Attempts
without attempts None = attempts
without attempts (Some near) = remove attempts near

abbrev pub after_again_or_birth : StartupState → Keying → ℕ → List ℕ → GroupSecret →
    Option Joined → StartupState
after_again_or_birth s keying near nr g (Some j) = s
after_again_or_birth s keying near nr g None =
    record s {
      ledger = heard_noted s.ledger (heard s.ledger keying near nr);
      attempts = without s.attempts (opening_id (held_with s.ledger keying.peer));
      kept = insert s.kept keying.peer
          (kept_keying s (born_session s.ledger keying near nr) g);
    }

abbrev pub after_keyed_with : StartupState → ℕ → List ℕ → GroupSecret → InitiatorKeying →
    CookieTest → StartupState
after_keyed_with s near nr g keying Current =
    after_again_or_birth s (keying_of keying) near nr g
    (repeated_session (held_with s.ledger (sha256 keying.cert)) (keying_of keying))
after_keyed_with s near nr g keying Bad = s
after_keyed_with s near nr g keying Moved = s
after_keyed_with s near nr g keying Expired = s

abbrev pub after_keyed_reading : StartupState → AddressParts → ℕ → ℕ → List ℕ → GroupSecret →
    Result InitiatorKeying Cause → StartupState
after_keyed_reading s from now near nr g (Ok keying) =
    after_keyed_with s near nr g keying (cookie_test s.cookie_secret keying.cookie from now)
after_keyed_reading s from now near nr g (Err cause) = s

-- What it leaves: only a birth changes anything. An attempt that makes way for the session isn't
-- kept, and what answers a repeat of this keying is.
abbrev pub after_keying : StartupState → List ℕ → AddressParts → ℕ → ℕ → List ℕ → GroupSecret →
    StartupState
after_keying s payload from now near nr g = after_keyed_reading s from now near nr g
    (initiator_keying_in payload)

-- Whether it takes memory: where a session is born.
abbrev pub bears_with : StartupState → InitiatorKeying → CookieTest → Bool
bears_with s keying Current = is_none
    (repeated_session (held_with s.ledger (sha256 keying.cert)) (keying_of keying))
bears_with s keying Bad = false
bears_with s keying Moved = false
bears_with s keying Expired = false

abbrev pub bears_reading : StartupState → AddressParts → ℕ → Result InitiatorKeying Cause → Bool
bears_reading s from now (Ok keying) = bears_with s keying
    (cookie_test s.cookie_secret keying.cookie from now)
bears_reading s from now (Err cause) = false

abbrev pub bears : StartupState → List ℕ → AddressParts → ℕ → Bool
bears s payload from now = bears_reading s from now (initiator_keying_in payload)

-- the facts that it gave, the newest first
abbrev pub keyed_facts : Keyed → List Fact
keyed_facts (Change answer) = []
keyed_facts (Again answer) = []
keyed_facts (Birth None born answer) = born ∷ []
keyed_facts (Birth (Some ended) born answer) = born ∷ ended ∷ []

-- ---- responders' keyings

abbrev pub is_in_hello : Stage → Bool
is_in_hello Hello = true
is_in_hello (KeyingStage at cookie under) = false

-- why a responder's keying doesn't open this attempt; a search it never opens
abbrev pub attempt_cause : ResponderKeying → Option AttemptState → Option Cause
attempt_cause keying None = Some NoAttempt
attempt_cause keying (Some a) =
    first_that_stands (
    where_true (is_search a.aim) NoAttempt
    ∷ where_true (is_in_hello a.stage) WrongState
    ∷ where_true (not (is_towards keying.part.responder a.aim)) WrongPeer
    ∷ where_true (not (bytes_eq keying.part.ni a.ni)) NoAttempt
    ∷ [])

-- why it is discarded, where it opened under this secret of the group
abbrev pub responder_cause : StartupState → ℕ → List ℕ → GroupSecret → ResponderKeying →
    Option Cause
responder_cause s near payload g keying =
    first_that_stands (
    where_true (not (is_signed g.secret payload keying.sign)) BadSignature
    ∷ attempt_cause keying (get s.attempts near)
    ∷ [])

-- the same where the attempt is looked up first: no signature is tested where none is there
abbrev pub opening_cause : StartupState → ℕ → List ℕ → GroupSecret → ResponderKeying →
    Option Cause
opening_cause s near payload g keying = if contains_key s.attempts near then
    responder_cause s near payload g keying else Some NoAttempt

-- why a responder's keying is discarded that came under this near id, and opened under this secret
-- of the group
abbrev pub rikeying_cause : StartupState → ℕ → List ℕ → GroupSecret → Option Cause
rikeying_cause s near payload g = cause_by (responder_cause s near payload g)
    (responder_keying_in payload)

-- the session of an attempt towards a peer, with a number and a nonce, that this keying opens
abbrev pub opened_with : ℕ → ResponderKeying → List ℕ → ℕ → List ℕ → Fact
opened_with near keying peer n ni =
    Opened (record {
      peer = peer;
      n = n;
      near = near;
      far = keying.near;
      ni = ni;
      nr = keying.part.nr;
      k = keying.part.k;
    })

-- the same of an attempt with a nonce, by what it is towards
abbrev pub opened_as : ℕ → ResponderKeying → List ℕ → Aim → Option Fact
opened_as near keying ni (AtPeer peer n) = Some (opened_with near keying peer n ni)
opened_as near keying ni (ByName name) = None

abbrev pub opened_reading : ℕ → Option AttemptState → Result ResponderKeying Cause → Option Fact
opened_reading near (Some a) (Ok keying) = opened_as near keying a.ni a.aim
opened_reading near (Some a) (Err cause) = None
opened_reading near None reading = None

-- the fact of the attempt under this near id that a responder's keying opens
abbrev pub opened : StartupState → ℕ → List ℕ → Option Fact
opened s near payload = opened_reading near (get s.attempts near) (responder_keying_in payload)

-- what that leaves: the attempt is a session of the ledger now
abbrev pub after_opening : StartupState → ℕ → Fact → StartupState
after_opening s near fact = without_attempt s near fact

-- ---- faults of form

abbrev pub fault_in : {A : Type 0} → Result A Cause → Option Cause
fault_in (Ok read) = None
fault_in (Err cause) = Some cause

-- why the fields or the forms of a keying's payload, of either type, can't be read
abbrev pub keying_fault : ℕ → List ℕ → Option Cause
keying_fault kind payload =
    if kind == IIKEYING then fault_in (initiator_keying_in payload)
    else if kind == RIKEYING then fault_in (responder_keying_in payload)
    else None
