-- The attempts of an end: how one begins, goes on from hellos to keyings, and ends.
use Rattle.std.specs.Prelude.{ℕ, ◌+◌, ◌-◌, ◌^◌, ◌==◌, ◌||◌, not, Bool, false, nat_lt, if◌then◌else◌, List, [], ◌∷◌, ◌++◌, drop, length, Option, Some, None}
use Rattle.std.specs.List.{find, fold, list_any}
use Rattle.std.specs.Str.{bytes_eq}
use Rattle.std.specs.FinMap.{get, insert, remove, entries}
use Rattle.sha2.specs.Sha256.{sha256}
use Rattle.crypto_profile.specs.declared.group.GroupSecret.{GroupSecret}
use Rattle.crypto_profile.specs.Keys.{sign_key_of}
use Rattle.rtmfp_forms.specs.Address.{AddressParts, is_same_place}
use Rattle.glare_core.specs.declared.facts.Why.{Why}
use Rattle.glare_core.specs.declared.facts.Why.TheVariants.{Cancelled}
use Rattle.glare_core.specs.declared.facts.Fact.{Fact}
use Rattle.glare_core.specs.declared.facts.Held.{Held}
use Rattle.glare_core.specs.declared.facts.Held.TheVariants.{Opening, HalfOpen, KeptAsResponder, KeptAsInitiator}
use Rattle.glare_core.specs.declared.answers.StartRefusal.{StartRefusal}
use Rattle.glare_core.specs.declared.answers.StartRefusal.TheVariants.{AttemptsSpent as NoNumber, PeersFull as NoRow}
use Rattle.glare_core.specs.Ledger.{Ledger, held_with, row_count, noted, noted_if}
use Rattle.glare_core.specs.Things.{near_of}
use Rattle.rtmfp_base.specs.Reasons.{where_true, first_that_stands}
use Rattle.glare_core.specs.Calls.{peers_full, started_fact, confirmed_fact, ended_fact}
use Rattle.startup.specs.declared.attempt.Stage.{Stage}
use Rattle.startup.specs.declared.attempt.Stage.TheVariants.{Hello, Keying}
use Rattle.startup.specs.declared.answer.Answer.{Answer}
use Rattle.rtmfp_base.specs.declared.cause.Cause.{Cause}
use Rattle.rtmfp_base.specs.declared.cause.Cause.TheVariants.{Wide, NoAttempt, WrongState, WrongPeer, OwnCertificate, AlreadyHeld, AttemptsSpent, PeersFull}
use Rattle.startup.specs.declared.aim.Aim.{Aim}
use Rattle.startup.specs.declared.aim.Aim.TheVariants.{AtPeer, ByName}
use Rattle.startup.specs.Aims.{is_search, is_numbered, discriminator_of_aim, keying_of_aim, end_of_aim}
use Rattle.startup.specs.State.{AttemptState, Attempts, StartupState, SpreadParts}
use Rattle.startup.specs.Answers.{answer_under}
use Rattle.startup_packets.specs.Packets.{ihello_packet, iikeying_signed}

-- ---- finding attempts

-- the attempt with the lowest near id of those that pass the test, and that near id
abbrev pub lowest : (AttemptState → Bool) → Attempts → Option (ℕ × AttemptState)
lowest test attempts = find (λ e. test e.1) (entries attempts)

abbrev pub has_number : ℕ → AttemptState → Bool
has_number n a = is_numbered n a.aim

abbrev pub has_tag : List ℕ → AttemptState → Bool
has_tag tag a = bytes_eq a.tag tag

-- An attempt has a cookie in the keying stage alone.
abbrev pub is_cookie_of : List ℕ → Stage → Bool
is_cookie_of cookie Hello = false
is_cookie_of cookie (Keying at kept under) = bytes_eq kept cookie

abbrev pub has_cookie : List ℕ → AttemptState → Bool
has_cookie cookie a = is_cookie_of cookie a.stage

-- ---- changing what is kept

abbrev pub with_ledger : StartupState → Ledger → StartupState
with_ledger s ledger = record s { ledger = ledger }

-- an attempt put under its near id
abbrev pub with_attempt : StartupState → ℕ → AttemptState → StartupState
with_attempt s near a = record s { attempts = insert s.attempts near a }

-- an end noted, where there is one, and the attempt with this near id forgotten
abbrev pub without_attempt_by : StartupState → ℕ → Option Fact → StartupState
without_attempt_by s near fact = record s {
  ledger = noted_if s.ledger fact;
  attempts = remove s.attempts near;
}

-- a fact noted, and the attempt with this near id forgotten
abbrev pub without_attempt : StartupState → ℕ → Fact → StartupState
without_attempt s near fact = record s {
  ledger = noted s.ledger fact;
  attempts = remove s.attempts near;
}

-- ---- packets

-- the hellos of an attempt, to these addresses
abbrev pub hello_spread : AttemptState → List AddressParts → SpreadParts
hello_spread a to = record { to = to; plain = ihello_packet (discriminator_of_aim a.aim) a.tag }

-- the keying of an attempt, to an address with a cookie: signed and sealed under this secret of the
-- group, with the own certificate
abbrev pub keying_under : GroupSecret → List ℕ → ℕ → AttemptState → AddressParts → List ℕ → Answer
keying_under g cert near a to cookie =
    answer_under g to 0 (keying_of_aim (sign_key_of g.secret) near cookie cert a.ni a.aim)

-- ---- an attempt begins

-- An address joins the others unless one at its place is there.
abbrev pub joined : List AddressParts → AddressParts → List AddressParts
joined candidates address = if list_any (is_same_place address) candidates then candidates
    else candidates ++ address ∷ []

-- of the candidates at one place the first, in their order
abbrev pub distinct_candidates : List AddressParts → List AddressParts
distinct_candidates candidates = fold joined [] candidates

abbrev pub begun_attempt : StartupState → List ℕ → List AddressParts → List ℕ → List ℕ → ℕ →
    AttemptState
begun_attempt s peer candidates ni tag moment =
    record {
      aim = AtPeer peer (s.ledger.started + 1);
      ni = ni;
      tag = tag;
      start = moment;
      candidates = distinct_candidates candidates;
      stage = Hello;
      last = moment;
      gap = 0;
    }

abbrev pub after_begin : StartupState → List ℕ → List AddressParts → ℕ → List ℕ → List ℕ → ℕ →
    StartupState
after_begin s peer candidates near ni tag moment =
    with_attempt (with_ledger s (noted s.ledger (started_fact s.ledger peer near ni))) near
    (begun_attempt s peer candidates ni tag moment)

abbrev pub begin_spread : StartupState → List ℕ → List AddressParts → List ℕ → List ℕ → ℕ →
    SpreadParts
begin_spread s peer candidates ni tag moment =
    hello_spread (begun_attempt s peer candidates ni tag moment) (distinct_candidates candidates)

-- ---- a search begins, and is given up

-- It has no number yet, and nothing is noted of it.
abbrev pub begun_search : List ℕ → List AddressParts → List ℕ → List ℕ → ℕ → AttemptState
begun_search name candidates ni tag moment =
    record {
      aim = ByName name;
      ni = ni;
      tag = tag;
      start = moment;
      candidates = distinct_candidates candidates;
      stage = Hello;
      last = moment;
      gap = 0;
    }

abbrev pub after_seek : StartupState → List ℕ → List AddressParts → ℕ → List ℕ → List ℕ → ℕ →
    StartupState
after_seek s name candidates near ni tag moment =
    with_attempt s near (begun_search name candidates ni tag moment)

abbrev pub seek_spread : List ℕ → List AddressParts → List ℕ → List ℕ → ℕ → SpreadParts
seek_spread name candidates ni tag moment =
    hello_spread (begun_search name candidates ni tag moment) (distinct_candidates candidates)

-- whether a search is there
abbrev pub is_search_in : Option AttemptState → Bool
is_search_in None = false
is_search_in (Some a) = is_search a.aim

abbrev pub has_search : StartupState → ℕ → Bool
has_search s near = is_search_in (get s.attempts near)

-- what is left when the search with this near id is given up; an attempt stays
abbrev pub after_unseek : StartupState → ℕ → StartupState
after_unseek s near = if has_search s near then record s { attempts = remove s.attempts near }
    else s

-- ---- an attempt is given up

abbrev pub end_of : Option (ℕ × AttemptState) → Why → Option Fact
end_of None why = None
end_of (Some e) why = end_of_aim e.0 why e.1.aim

abbrev pub after_end_of : StartupState → Option (ℕ × AttemptState) → Why → StartupState
after_end_of s None why = s
after_end_of s (Some e) why = without_attempt_by s e.0 (end_of_aim e.0 why e.1.aim)

-- the fact with which the attempt of this number is cancelled, and what is kept after it
abbrev pub cancel_fact : StartupState → ℕ → Option Fact
cancel_fact s n = end_of (lowest (has_number n) s.attempts) Cancelled

abbrev pub after_cancel : StartupState → ℕ → StartupState
after_cancel s n = after_end_of s (lowest (has_number n) s.attempts) Cancelled

-- ---- a session is confirmed or ends

abbrev pub confirm_fact : StartupState → List ℕ → Option Fact
confirm_fact s peer = confirmed_fact (held_with s.ledger peer) peer

abbrev pub after_confirm : StartupState → List ℕ → StartupState
after_confirm s peer = with_ledger s (noted_if s.ledger (confirm_fact s peer))

-- what is held, where it is a session
abbrev pub session_in : Option Held → Option Held
session_in None = None
session_in (Some (Opening n near ni)) = None
session_in (Some (HalfOpen j)) = Some (HalfOpen j)
session_in (Some (KeptAsResponder j)) = Some (KeptAsResponder j)
session_in (Some (KeptAsInitiator j)) = Some (KeptAsInitiator j)

-- the fact with which the session with a peer ends, and what is kept after it
abbrev pub end_fact : StartupState → List ℕ → Why → Option Fact
end_fact s peer why = ended_fact (session_in (held_with s.ledger peer)) peer why

-- With the session what answers its repeated keying is forgotten.
abbrev pub after_end_by : StartupState → List ℕ → Option Fact → StartupState
after_end_by s peer None = s
after_end_by s peer (Some fact) = record s {
  ledger = noted s.ledger fact;
  kept = remove s.kept peer;
}

abbrev pub after_end : StartupState → List ℕ → Why → StartupState
after_end s peer why = after_end_by s peer (end_fact s peer why)

-- ---- the responder's hello

-- a tag or a cookie with more than 128 bytes
abbrev pub wide : List ℕ → Option Cause
wide bytes = where_true (nat_lt 128 (length bytes)) (Wide (length bytes))

-- Whether it is the own certificate. Another one with the same fingerprint would count as the own
-- one, too, since ends are named by their fingerprints; nobody knows such a pair.
abbrev pub is_own : StartupState → List ℕ → Bool
is_own s cert = bytes_eq cert s.cert || bytes_eq (sha256 cert) (sha256 s.cert)

-- What is held with the end that answers a search keeps an attempt towards it from starting.
abbrev pub held_cause : Option Held → Option Cause
held_cause None = None
held_cause (Some thing) = Some (AlreadyHeld (near_of thing))

-- There is no number for one more attempt, or no row for its peer.
abbrev pub spent_cause : Ledger → List ℕ → Option Cause
spent_cause l peer = first_that_stands (where_true (l.started == 2 ^ 64 - 1) AttemptsSpent
    ∷ where_true (peers_full l peer) (PeersFull (row_count l)) ∷ [])

-- the same by the ledger's answer to an attempt that would start, where its first reasons don't
-- stand
abbrev pub start_cause : Option StartRefusal → Option Cause
start_cause None = None
start_cause (Some NoNumber) = Some AttemptsSpent
start_cause (Some (NoRow count)) = Some (PeersFull count)
start_cause (Some refusal) = None

-- Why a search for a name isn't answered by the hello of an end with this certificate. The name of
-- a certificate is all that stands behind its 16 instance bytes.
abbrev pub search_cause : StartupState → List ℕ → List ℕ → Option Cause
search_cause s name cert = first_that_stands (
    where_true (not (bytes_eq name (drop 16 cert))) WrongPeer
    ∷ where_true (is_own s cert) OwnCertificate
    ∷ held_cause (held_with s.ledger (sha256 cert))
    ∷ spent_cause s.ledger (sha256 cert)
    ∷ [])

-- the same of an attempt or a search, by what it is towards
abbrev pub aim_cause : StartupState → Aim → List ℕ → Option Cause
aim_cause s (AtPeer peer n) cert = if bytes_eq (sha256 cert) peer then None else Some WrongPeer
aim_cause s (ByName name) cert = search_cause s name cert

-- and by its stage
abbrev pub hello_cause : StartupState → Stage → Aim → List ℕ → Option Cause
hello_cause s Hello aim cert = aim_cause s aim cert
hello_cause s (Keying at cookie under) aim cert = Some WrongState

abbrev pub hello_cause_at : StartupState → Option (ℕ × AttemptState) → List ℕ → Option Cause
hello_cause_at s None cert = Some NoAttempt
hello_cause_at s (Some e) cert = hello_cause s e.1.stage e.1.aim cert

-- why a responder's hello with this tag, cookie and certificate is discarded
abbrev pub rhello_cause : StartupState → List ℕ → List ℕ → List ℕ → Option Cause
rhello_cause s tag cookie cert = first_that_stands (wide tag ∷ wide cookie
    ∷ hello_cause_at s (lowest (has_tag tag) s.attempts) cert ∷ [])

-- an attempt that was answered, from an address with a cookie, in a generation whose secret it keeps
abbrev pub answered : AttemptState → AddressParts → List ℕ → ℕ → GroupSecret → AttemptState
answered a from cookie moment g = record a { stage = Keying from cookie g; last = moment; gap = 0 }

-- A search that was answered by an end with this fingerprint: it is the attempt towards it with
-- this number, which starts at this moment.
abbrev pub met : AttemptState → List ℕ → ℕ → AddressParts → List ℕ → ℕ → GroupSecret → AttemptState
met a peer n from cookie moment g = record a {
  aim = AtPeer peer n;
  start = moment;
  stage = Keying from cookie g;
  last = moment;
  gap = 0;
}

-- the fact that an answer by an end with this fingerprint states: the start of the attempt that a
-- search becomes
abbrev pub answer_fact_as : StartupState → List ℕ → ℕ → List ℕ → Aim → Option Fact
answer_fact_as s print near ni (AtPeer peer n) = None
answer_fact_as s print near ni (ByName name) = Some (started_fact s.ledger print near ni)

abbrev pub answer_fact : StartupState → List ℕ → Option (ℕ × AttemptState) → Option Fact
answer_fact s print None = None
answer_fact s print (Some e) = answer_fact_as s print e.0 e.1.ni e.1.aim

-- a search is an attempt towards this end, whose start is noted
abbrev pub after_start : StartupState → List ℕ → ℕ → AttemptState → AddressParts → List ℕ → ℕ →
    GroupSecret → StartupState
after_start s peer near a from cookie moment g =
    with_attempt (with_ledger s (noted s.ledger (started_fact s.ledger peer near a.ni))) near
    (met a peer (s.ledger.started + 1) from cookie moment g)

-- what it leaves: the attempt goes on, or the search is an attempt
abbrev pub after_answer_as : StartupState → List ℕ → ℕ × AttemptState → AddressParts → List ℕ → ℕ →
    GroupSecret → Aim → StartupState
after_answer_as s print e from cookie moment g (AtPeer peer n) =
    with_attempt s e.0 (answered e.1 from cookie moment g)
after_answer_as s print e from cookie moment g (ByName name) =
    after_start s print e.0 e.1 from cookie moment g

abbrev pub after_answer : StartupState → List ℕ → Option (ℕ × AttemptState) → AddressParts →
    List ℕ → ℕ → GroupSecret → StartupState
after_answer s print None from cookie moment g = s
after_answer s print (Some e) from cookie moment g =
    after_answer_as s print e from cookie moment g e.1.aim

-- the keying that goes to the end that answered, with the number that the attempt has then
abbrev pub keying_towards : StartupState → ℕ → List ℕ → List ℕ → ℕ → AddressParts → List ℕ →
    GroupSecret → Answer
keying_towards s near ni peer n to cookie g =
    answer_under g to 0 (iikeying_signed (sign_key_of g.secret) near cookie s.cert ni n peer)

abbrev pub answer_keying_as : StartupState → List ℕ → ℕ → List ℕ → AddressParts → List ℕ →
    GroupSecret → Aim → Answer
answer_keying_as s print near ni from cookie g (AtPeer peer n) =
    keying_towards s near ni peer n from cookie g
answer_keying_as s print near ni from cookie g (ByName name) =
    keying_towards s near ni print (s.ledger.started + 1) from cookie g

abbrev pub answer_keying : StartupState → List ℕ → Option (ℕ × AttemptState) → AddressParts →
    List ℕ → GroupSecret → Option Answer
answer_keying s print None from cookie g = None
answer_keying s print (Some e) from cookie g =
    Some (answer_keying_as s print e.0 e.1.ni from cookie g e.1.aim)

-- what a responder's hello states, what it leaves, and the keying that answers it, where it opened
-- under this secret of the group
abbrev pub rhello_fact : StartupState → List ℕ → List ℕ → Option Fact
rhello_fact s tag cert = answer_fact s (sha256 cert) (lowest (has_tag tag) s.attempts)

abbrev pub after_rhello : StartupState → List ℕ → List ℕ → List ℕ → AddressParts → ℕ →
    GroupSecret → StartupState
after_rhello s tag cookie cert from moment g = after_answer s (sha256 cert)
    (lowest (has_tag tag) s.attempts) from cookie moment g

abbrev pub rhello_keying : StartupState → List ℕ → List ℕ → List ℕ → AddressParts → GroupSecret →
    Option Answer
rhello_keying s tag cookie cert from g = answer_keying s (sha256 cert)
    (lowest (has_tag tag) s.attempts) from cookie g

-- whether it starts an attempt, and so takes memory
abbrev pub is_search_at : Option (ℕ × AttemptState) → Bool
is_search_at None = false
is_search_at (Some e) = is_search e.1.aim

abbrev pub rhello_starts : StartupState → List ℕ → Bool
rhello_starts s tag = is_search_at (lowest (has_tag tag) s.attempts)

-- ---- a cookie changes

-- the attempt with this near id, where it has this cookie
abbrev pub if_cookie : List ℕ → ℕ → Option AttemptState → Option (ℕ × AttemptState)
if_cookie cookie near None = None
if_cookie cookie near (Some a) = where_true (has_cookie cookie a) (near, a)

-- the attempt whose cookie a change under this session ID replaces: under 0 the one with the lowest
-- near id that has the old cookie, and else that attempt alone
abbrev pub changed : Attempts → ℕ → List ℕ → Option (ℕ × AttemptState)
changed attempts sid old = if sid == 0 then lowest (has_cookie old) attempts
    else if_cookie old sid (get attempts sid)

-- whether its keyings are sent in this generation
abbrev pub is_under : ℕ → Stage → Bool
is_under generation Hello = false
is_under generation (Keying at cookie under) = under.generation == generation

-- No attempt is chosen, or the one that is sends in another generation than the change came in.
abbrev pub none_to_change : ℕ → Option (ℕ × AttemptState) → Option Cause
none_to_change generation None = Some NoAttempt
none_to_change generation (Some e) = where_true (not (is_under generation e.1.stage)) NoAttempt

abbrev pub change_cause_among : Attempts → ℕ → List ℕ → List ℕ → ℕ → Option Cause
change_cause_among attempts sid old new generation = first_that_stands
    (wide old ∷ wide new ∷ none_to_change generation (changed attempts sid old) ∷ [])

-- why a change of a cookie is discarded that opened in this generation
abbrev pub cookie_change_cause : StartupState → ℕ → List ℕ → List ℕ → ℕ → Option Cause
cookie_change_cause s sid old new generation =
    change_cause_among s.attempts sid old new generation

abbrev pub with_cookie : List ℕ → Stage → Stage
with_cookie cookie Hello = Hello
with_cookie cookie (Keying at old under) = Keying at cookie under

-- an attempt that sends its keying with another cookie
abbrev pub recookied : AttemptState → List ℕ → ℕ → AttemptState
recookied a cookie moment = record a { stage = with_cookie cookie a.stage; last = moment }

abbrev pub after_change : StartupState → Option (ℕ × AttemptState) → List ℕ → ℕ → StartupState
after_change s None cookie moment = s
after_change s (Some e) cookie moment = with_attempt s e.0 (recookied e.1 cookie moment)

-- the keying that goes out again, to the address that answered, under the attempt's own secret
abbrev pub again_under : List ℕ → ℕ → AttemptState → Stage → List ℕ → Option Answer
again_under cert near a Hello cookie = None
again_under cert near a (Keying at old under) cookie =
    Some (keying_under under cert near a at cookie)

abbrev pub change_keying : StartupState → Option (ℕ × AttemptState) → List ℕ → Option Answer
change_keying s None cookie = None
change_keying s (Some e) cookie = again_under s.cert e.0 e.1 e.1.stage cookie

-- what a change of a cookie leaves, and the keying that answers it
abbrev pub after_cookie_change : StartupState → ℕ → List ℕ → List ℕ → ℕ → StartupState
after_cookie_change s sid old new moment = after_change s (changed s.attempts sid old) new moment

abbrev pub cookie_change_keying : StartupState → ℕ → List ℕ → List ℕ → Option Answer
cookie_change_keying s sid old new = change_keying s (changed s.attempts sid old) new

-- ---- the secret that an attempt keeps

abbrev pub secret_in : Stage → Option GroupSecret
secret_in Hello = None
secret_in (Keying at cookie under) = Some under

abbrev pub secret_of_attempt : Option AttemptState → Option GroupSecret
secret_of_attempt None = None
secret_of_attempt (Some a) = secret_in a.stage

-- the generation and secret of the attempt with this near id, which it has in the keying stage alone
abbrev pub secret_of : StartupState → ℕ → Option GroupSecret
secret_of s near = secret_of_attempt (get s.attempts near)
