-- One datagram meets its line, and leaves the numbers counted; and so do those of a packet in pieces.
use Rattle.std.proofs.Common.{◌≡◌, ◌≢◌, ◌==◌, ℕ, ◌+◌, ◌≤◌, List, [], ◌∷◌, ◌++◌, length, map, take, drop, Option, Some, Ok, inl, inr, refl, sym, ap, subst, ◌∙◌, Bool, true, false, if◌then◌else◌, arith, length-append}
use Rattle.std.specs.Int.{w64, to_be_bytes}
use Rattle.std.specs.FinMap.{get}
use Rattle.std.specs.List.{AllByRecursion}
use Rattle.rtmfp_base.proofs.Maps.{get_inserted}
use Rattle.glare_core.specs.declared.facts.Held.{Held}
use Rattle.std.proofs.lemmas.List.{length-take-le}
use Rattle.std.proofs.lemmas.Bool.Decides.{nat_tests}
use Rattle.sha2.specs.Sha256.{sha256}
use Rattle.sha2.proofs.Facts256.{length-sha256}
use Rattle.rtmfp_forms.specs.Address.{AddressParts}
use Rattle.rtmfp_packet.specs.Whole.{Whole}
use Rattle.rtmfp_packet.specs.Reading.{PacketReading}
use Rattle.rtmfp_packet.specs.Walk.{Placed}
use Rattle.rtmfp_chunks.specs.Chunk.{IIKeying, Spells}
use Rattle.crypto_profile.specs.declared.keys.Context.{Context}
use Rattle.crypto_profile.specs.declared.keys.Context.TheVariants.{Startup, Session}
use Rattle.crypto_profile.specs.Keys.{Keys, keys_of, startup_keys_of}
use Rattle.crypto_profile.specs.Sealing.{number_of, sealed, sealed_in}
use Rattle.crypto_profile.proofs.Opened.{sealed_carries}
use Rattle.packet_scramble.specs.Datagram.{datagram}
use Rattle.introducer.specs.Directory.{AddressRows}
use Rattle.identity.specs.ServiceNames.{IsServiceName}
use Rattle.startup.specs.declared.aim.Aim.{Aim}
use Rattle.startup.specs.declared.aim.Aim.TheVariants.{AtPeer, ByName}
use Rattle.startup.specs.State.{AttemptState, Attempts}
use Rattle.startup.specs.declared.attempt.Stage.{Stage}
use Rattle.startup.specs.declared.attempt.Stage.TheVariants.{Hello, Keying}
use Rattle.session_core.specs.Session.{SessionState, context_of}
use Rattle.session_core.specs.Sealed.{number_bytes, after_seal, is_spent}
use Rattle.endpoint_model.specs.declared.row.Row.{Row}
use Rattle.endpoint_model.specs.declared.entry.Entry.{Entry}
use Rattle.endpoint_model.specs.declared.entry.Entry.TheVariants.{Out}
use Rattle.endpoint_model.specs.Event.{Setup, own_of, Call}
use Rattle.endpoint_model.specs.Views.{Sending}
use Rattle.endpoint_laws.specs.Contexts.{Secrets, OpensUnder, IsKeyingOf, StandsUnder}
use Rattle.endpoint_laws.specs.Groups.{HasSecret, IsStageOf}
use Rattle.endpoint_laws.specs.Past.{Past, stamped, onto, facts_of}
use Rattle.endpoint_model.specs.State.{State, Did, nothing, after_entries, then_do, with_sealed, with_row, with_session}
use Rattle.endpoint_model.specs.Sending.{last_count, startup_number, startup_datagram, sent_startup, session_packet, session_datagram, sent_whole, sent_bodies, sent_in_pieces, sent_by, piece_body, has_counts, is_long}
use Rattle.endpoint_model.specs.Keying.{KeyingsAre, IsAmong, chunks_of}
use Rattle.endpoint_laws.specs.Lawful.{InSession, OutLine, KeyingOfAttempt, KeyingOfBorn}
use Rattle.endpoint_laws.proofs.Lines.{EntriesMeet, OutPart}
use Rattle.endpoint_laws.proofs.Tied.{sealed_once}
use Rattle.endpoint_laws.proofs.Going.{onto_append, seal_alike}
use Rattle.endpoint_laws.proofs.Moving.{known_alike}
use Rattle.endpoint_laws.proofs.PacketPieces.{pieces_are_modest}
use Rattle.endpoint_laws.proofs.Small.{its_pieces, in_pieces}
use Rattle.endpoint_laws.proofs.OutNumbers.{Numbered, not_startup, numbered_startup, numbered_changed, once_startup, once_session, numbered_session}
use Rattle.endpoint_laws.proofs.OutPackets.{IsModest, body_plain, no_keyings_among}
use Rattle.endpoint_laws.proofs.OutHeld.{AreSized, MaySend}
use Rattle.crypto_profile.specs.declared.group.GroupSecret.{GroupSecret}
use Rattle.endpoint_laws.proofs.Knowing.{context_generation}
use Rattle.endpoint_laws.proofs.Resealed.{opens_again}
use Rattle.endpoint_laws.proofs.Staged.{Staged, KeptAre, TagsAre, tags_quiet, StagesBeside, IsStartupOut, stage_beside, beside_session, beside_light, beside_other, kept_beside, staged_out, staged_alike}
use Rattle.endpoint_model.proofs.Members.{tested}

-- a cookie that an attempt keeps has 128 bytes or fewer
abbrev pub IsNarrow : Stage → Type 0
IsNarrow Hello = Unit {0}
IsNarrow (Keying at cookie under) = length cookie ≤ 128

-- the name that is looked for is one
abbrev pub IsNamed : Aim → Type 0
IsNamed (AtPeer peer n) = Unit {0}
IsNamed (ByName name) = IsServiceName name

pub record IsShort (a : AttemptState) : Type 0 where
  pub tag : length a.tag ≤ 128
  pub cookie : IsNarrow a.stage
  pub name : IsNamed a.aim

abbrev pub AreShort : Attempts → Type 0
AreShort attempts = (near : ℕ) (a : AttemptState) → get attempts near ≡ Some a → IsShort a

-- a row of addresses has 16 or fewer
abbrev pub AreFew : AddressRows → Type 0
AreFew rows = (print : List ℕ) (addresses : List AddressParts) → get rows print ≡ Some addresses → length addresses ≤ 16

-- what is counted of what went out, and the sizes of what goes out
pub record Measured (setup : Setup) (past : Past) (s : State) : Type 0 where
  pub numbered : Numbered (own_of setup) past s.sealed s.sessions
  pub sized : AreSized (facts_of past)
  pub short : AreShort s.startup.attempts
  pub rows : AreFew s.redirects

-- the same, and the generations in which things go out
pub record Sent (secrets : Secrets) (setup : Setup) (past : Past) (s : State) : Type 0 where
  pub numbered : Numbered (own_of setup) past s.sealed s.sessions
  pub sized : AreSized (facts_of past)
  pub short : AreShort s.startup.attempts
  pub rows : AreFew s.redirects
  pub staged : Staged secrets setup past s

pub measured : (secrets : Secrets) (setup : Setup) (past : Past) (s : State) → Sent secrets setup past s → Measured setup past s
measured secrets setup past s sent = record { numbered = sent.numbered; sized = sent.sized; short = sent.short; rows = sent.rows }

-- what a thing adds meets its lines, and it leaves this
pub record Meets (secrets : Secrets) (setup : Setup) (now : ℕ) (call : Call) (past : Past) (d : Did) : Type 0 where
  pub lines : EntriesMeet OutPart secrets setup now call past d.entries
  pub sent : Sent secrets setup (onto now d.entries past) d.state

pub meets_nothing : (secrets : Secrets) (setup : Setup) (now : ℕ) (call : Call) (past : Past) (s : State) → Sent secrets setup past s → Meets secrets setup now call past (nothing s)
meets_nothing secrets setup now call past s sent = record { lines = tt; sent = sent }

pub lines_append : (secrets : Secrets) (setup : Setup) (now : ℕ) (call : Call) (past : Past) (xs ys : List Entry) → EntriesMeet OutPart secrets setup now call past xs →
    EntriesMeet OutPart secrets setup now call (onto now xs past) ys → EntriesMeet OutPart secrets setup now call past (xs ++ ys)
lines_append secrets setup now call past [] ys p q = q
lines_append secrets setup now call past (x ∷ xs) ys p q = (p.0, lines_append secrets setup now call (stamped now x ∷ past) xs ys p.1 q)

-- these entries first, and then what a thing adds
pub meets_after : (secrets : Secrets) (setup : Setup) (now : ℕ) (call : Call) (past : Past) (entries : List Entry) (d : Did) → EntriesMeet OutPart secrets setup now call past entries →
    Meets secrets setup now call (onto now entries past) d → Meets secrets setup now call past (after_entries entries d)
meets_after secrets setup now call past entries d first later = record {
  lines = lines_append secrets setup now call past entries d.entries first later.lines;
  sent = subst (λ (p : Past). Sent secrets setup p d.state) (sym (onto_append now entries d.entries past)) later.sent;
}

pub meets_then : (secrets : Secrets) (setup : Setup) (now : ℕ) (call : Call) (past : Past) (d : Did) (next : State → Did) → Meets secrets setup now call past d →
    Meets secrets setup now call (onto now d.entries past) (next d.state) → Meets secrets setup now call past (then_do d next)
meets_then secrets setup now call past d next first later = meets_after secrets setup now call past d.entries (next d.state) first.lines later

unequal : (a b : ℕ) → (a == b) ≡ false → a ≢ b
unequal a b h e = grind (arith, nat_tests)

-- ---- a packet in the startup context

startup_sized : (setup : Setup) (count : ℕ) → length (startup_number (own_of setup) count) ≡ 16
startup_sized setup count =
    omega (arith, length-append (take 8 (sha256 setup.cert)) (to_be_bytes w64 count), length-take-le 8 (sha256 setup.cert) (omega (arith, length-sha256 setup.cert)))

-- what goes out under the secret of its generation
pub record IsUnder (secrets : Secrets) (generation : ℕ) (keys : Keys) : Type 0 where
  pub secret : List ℕ
  pub known : get secrets generation ≡ Some secret
  pub keys_are : keys ≡ keys_of secret (Startup generation)

pub under_has : (secrets : Secrets) (g : GroupSecret) → HasSecret secrets g → IsUnder secrets g.generation (startup_keys_of g)
under_has secrets g has = record { secret = g.secret; known = has; keys_are = refl }

-- each keying of a responder in the packet is one that may go out under this session ID, and there is none of an initiator
abbrev pub MayGo : Secrets → Setup → Past → ℕ → ℕ → List ℕ → Type 0
MayGo secrets setup past generation sid plain =
    (packet : Whole) → PacketReading plain (Ok packet) → KeyingsAre (λ near cookie cert part sign. ⊥) (λ near part sign. KeyingOfBorn secrets setup past (Startup generation) sid near part) packet

-- The packet has a keying of the attempt under this session ID.
pub record BearsKeying (near : ℕ) (plain : List ℕ) : Type 0 where
  pub packet : Whole
  pub reads : PacketReading plain (Ok packet)
  pub chunk : Placed
  pub among : IsAmong chunk (chunks_of packet)
  pub cookie : List ℕ
  pub cert : List ℕ
  pub part : List ℕ
  pub sign : List ℕ
  pub spells : Spells (IIKeying near cookie cert part sign) chunk.kind chunk.payload

-- It has that keying alone, which may go out.
pub record KeyingMay (secrets : Secrets) (setup : Setup) (call : Call) (past : Past) (generation mine : ℕ) (plain : List ℕ) : Type 0 where
  pub may : (packet : Whole) → PacketReading plain (Ok packet) →
      KeyingsAre (λ near cookie cert part sign. (near ≡ mine) × KeyingOfAttempt secrets setup call past (Startup generation) near cert part) (λ near part sign. KeyingOfBorn secrets setup past (Startup generation) 0 near part) packet
  pub bears : BearsKeying mine plain

-- The attempt sends its keyings in this generation.
pub record KeyedIn (secrets : Secrets) (generation : ℕ) (stage : Stage) : Type 0 where
  pub at : AddressParts
  pub cookie : List ℕ
  pub under : GroupSecret
  pub is : stage ≡ Keying at cookie under
  pub generation_is : under.generation ≡ generation
  pub has : HasSecret secrets under

module _ (secrets : Secrets) (setup : Setup) (now : ℕ) (call : Call) (past : Past) (s : State) (own : s.startup.ledger.own ≡ own_of setup) (counted : Measured setup past s) (generation : ℕ) (keys : Keys) (to : AddressParts) (sid : ℕ) (plain : List ℕ) where
  abbrev sending : Sending
  sending = record { to = to; datagram = startup_datagram s keys sid plain; context = Startup generation }

  abbrev after : Past
  after = stamped now (Out to (startup_datagram s keys sid plain) (Startup generation)) ∷ past

  abbrev KeyingsGo : Type 0
  KeyingsGo = (packet : Whole) → PacketReading plain (Ok packet) →
      KeyingsAre (λ near cookie cert part sign. KeyingOfAttempt secrets setup call past (Startup generation) near cert part) (λ near part sign. KeyingOfBorn secrets setup past (Startup generation) sid near part) packet

  -- with what is kept of generations where it goes out, and where no count is left
  sent_out : IsUnder secrets generation keys → KeyingsGo → ((s.sealed == last_count) ≡ true → Staged secrets setup past s) → (IsStartupOut secrets generation sid plain sending → Staged secrets setup after s) →
      Meets secrets setup now call past (sent_startup s generation keys to sid plain)
  sent_out under may spent staged = by_test (s.sealed == last_count) refl
    where
      number : List ℕ
      number = startup_number (own_of setup) (s.sealed + 1)

      is : startup_datagram s keys sid plain ≡ datagram sid (sealed_in under.secret (Startup generation) sid number plain)
      is = ap (λ (k : Keys). startup_datagram s k sid plain) under.keys_are ∙ ap (λ (o : List ℕ). datagram sid (sealed (keys_of under.secret (Startup generation)) sid (startup_number o (s.sealed + 1)) plain)) own

      carries : number_of (drop 4 (startup_datagram s keys sid plain)) ≡ number
      carries = ap (λ (d : List ℕ). number_of (drop 4 d)) is ∙ (sealed_carries (keys_of under.secret (Startup generation)) sid number plain (startup_sized setup (s.sealed + 1))).0

      line : s.sealed ≢ last_count → OutLine secrets setup call past (startup_datagram s keys sid plain) (Startup generation)
      line some = record {
        sid = sid;
        number = number;
        plain = plain;
        numbered = startup_sized setup (s.sealed + 1);
        secret = under.secret;
        known = under.known;
        is = is;
        once = λ far was. once_startup (own_of setup) past s.sealed s.sessions counted.numbered generation some was;
        keyings = may;
        session = tt;
      }

      left : Staged secrets setup after s
      left = staged (record { context = refl; secret = under.secret; known = under.known; number = number; size = startup_sized setup (s.sealed + 1); is = is })

      by_test : (b : Bool) → (s.sealed == last_count) ≡ b →
          Meets secrets setup now call past (if b then nothing s else record { state = with_sealed s (s.sealed + 1); entries = Out to (startup_datagram s keys sid plain) (Startup generation) ∷ [] })
      by_test true e = meets_nothing secrets setup now call past s (record { numbered = counted.numbered; sized = counted.sized; short = counted.short; rows = counted.rows; staged = spent e })
      by_test false e = record {
        lines = (line (unequal s.sealed last_count e), tt);
        sent = record {
          numbered = numbered_startup (own_of setup) past s.sealed s.sessions counted.numbered generation now to (startup_datagram s keys sid plain) (unequal s.sealed last_count e) carries;
          sized = counted.sized;
          short = counted.short;
          rows = counted.rows;
          staged = staged_alike secrets setup after s (with_sealed s (s.sealed + 1)) left refl;
        };
      }

  -- one that has no keying of an initiator
  light_out : IsUnder secrets generation keys → MayGo secrets setup past generation sid plain → Staged secrets setup past s → Meets secrets setup now call past (sent_startup s generation keys to sid plain)
  light_out under may staged =
      sent_out under
      (λ packet reads. let k = may packet reads in record { initiators = λ c near cookie cert part sign among spells. absurd (k.initiators c near cookie cert part sign among spells); responders = k.responders })
      (λ spent. staged)
      (λ is. staged_out secrets setup past s staged now to (startup_datagram s keys sid plain) (Startup generation)
      (beside_light secrets now to (startup_datagram s keys sid plain) (Startup generation) generation sid plain is (λ packet reads c near cookie cert part sign among spells. (may packet reads).initiators c near cookie cert part sign among spells)))

-- the keying of an attempt, which is in the keying stage then; what is kept of the others is as before
module _ (secrets : Secrets) (setup : Setup) (now : ℕ) (call : Call) (past : Past) (s : State) (own : s.startup.ledger.own ≡ own_of setup) (counted : Measured setup past s) (generation : ℕ) (keys : Keys) (to : AddressParts) (plain : List ℕ)
    (mine : ℕ) (stage : (a : AttemptState) → get s.startup.attempts mine ≡ Some a → KeyedIn secrets generation a.stage) (others : StagesBeside secrets past s.startup.attempts mine) (kept : KeptAre secrets setup past s.startup.kept) (tags : TagsAre past s.startup.attempts) where
  abbrev out : Sending
  out = record { to = to; datagram = startup_datagram s keys 0 plain; context = Startup generation }

  pub keying_out : IsUnder secrets generation keys → KeyingMay secrets setup call past generation mine plain → ((s.sealed == last_count) ≡ true → Staged secrets setup past s) → Meets secrets setup now call past (sent_startup s generation keys to 0 plain)
  keying_out under may spent =
      sent_out secrets setup now call past s own counted generation keys to 0 plain under
      (λ packet reads. let k = may.may packet reads in record { initiators = λ c near cookie cert part sign among spells. (k.initiators c near cookie cert part sign among spells).1; responders = k.responders })
      spent
      (λ is. record {
        tags = tags_quiet past s.startup.attempts tags (stamped now (Out to (startup_datagram s keys 0 plain) (Startup generation))) refl refl;
        attempts = λ q a e. elim (tested q mine) [
          | inl same ↦ subst (λ (n : ℕ). IsStageOf secrets (stamped now (Out to (startup_datagram s keys 0 plain) (Startup generation)) ∷ past) n a.stage) (sym same.0) (went is a (stage a (ap (get s.startup.attempts) (sym same.0) ∙ e)))
          | inr other ↦
              stage_beside secrets past q (stamped now (Out to (startup_datagram s keys 0 plain) (Startup generation)))
              (beside_other secrets now to (startup_datagram s keys 0 plain) (Startup generation) generation 0 plain is mine
              (λ packet reads c near cookie cert part sign among spells. ((may.may packet reads).initiators c near cookie cert part sign among spells).0) q other.0) a.stage (others q a other.0 e)
        ];
        kept = kept_beside secrets setup past s.startup.kept kept (stamped now (Out to (startup_datagram s keys 0 plain) (Startup generation))) refl;
      })
    where
      keying_of : IsStartupOut secrets generation 0 plain out → IsKeyingOf secrets mine generation out
      keying_of is = record {
        context = refl;
        sid = 0;
        packet = may.bears.packet;
        reads = record {
          plain = plain;
          opens = subst (λ (d : List ℕ). OpensUnder secrets (Startup generation) 0 d plain) (sym is.is) (opens_again secrets is.secret generation 0 is.number plain is.known (omega arith) is.size);
          reads = may.bears.reads;
        };
        chunk = may.bears.chunk;
        among = may.bears.among;
        cookie = may.bears.cookie;
        cert = may.bears.cert;
        part = may.bears.part;
        sign = may.bears.sign;
        spells = may.bears.spells;
      }

      went : IsStartupOut secrets generation 0 plain out → (a : AttemptState) → KeyedIn secrets generation a.stage → IsStageOf secrets (stamped now (Out to (startup_datagram s keys 0 plain) (Startup generation)) ∷ past) mine a.stage
      went is a in_stage =
          subst (IsStageOf secrets (stamped now (Out to (startup_datagram s keys 0 plain) (Startup generation)) ∷ past) mine) (sym in_stage.is)
          (inl (subst (λ (g : ℕ). IsKeyingOf secrets mine g out) (sym in_stage.generation_is) (keying_of is)), in_stage.has)

module _ (secrets : Secrets) (setup : Setup) (now : ℕ) (call : Call) (past : Past) (s : State) (sent : Sent secrets setup past s) (own : s.startup.ledger.own ≡ own_of setup) where
  pub meets_startup : (generation : ℕ) (keys : Keys) (to : AddressParts) (sid : ℕ) (plain : List ℕ) → IsUnder secrets generation keys → MayGo secrets setup past generation sid plain → Meets secrets setup now call past (sent_startup s generation keys to sid plain)
  meets_startup generation keys to sid plain under may = light_out secrets setup now call past s own (measured secrets setup past s sent) generation keys to sid plain under may sent.staged

-- ---- a packet in a session

module _ (secrets : Secrets) (setup : Setup) (now : ℕ) (call : Call) (past : Past) (s : State) (sent : Sent secrets setup past s) (near : ℕ) (row : Row) (there : get s.sessions near ≡ Some row) (may : MaySend secrets setup past row.session) where
  meets_whole : (to : AddressParts) (body : List ℕ) → IsModest body → Meets secrets setup now call past (sent_whole s near to body (Some row))
  meets_whole to body modest = by_test (row.session.sealed == last_count) refl
    where
      is : session_datagram row.session s.moment body ≡
          datagram row.session.joined.far (sealed_in may.keyed.secret (context_of row.session true) row.session.joined.far (number_bytes (row.session.sealed + 1)) (session_packet row.session s.moment body))
      is = ap (λ (k : Keys). datagram row.session.joined.far (sealed k row.session.joined.far (number_bytes (row.session.sealed + 1)) (session_packet row.session s.moment body))) may.keyed.keyed.away

      carries : number_of (drop 4 (session_datagram row.session s.moment body)) ≡ number_bytes (row.session.sealed + 1)
      carries = (sealed_carries row.session.outward row.session.joined.far (number_bytes (row.session.sealed + 1)) (session_packet row.session s.moment body) refl).0

      line : row.session.sealed ≢ last_count → OutLine secrets setup call past (session_datagram row.session s.moment body) (context_of row.session true)
      line some = record {
        sid = row.session.joined.far;
        number = number_bytes (row.session.sealed + 1);
        plain = session_packet row.session s.moment body;
        numbered = refl;
        secret = may.keyed.secret;
        known = ap (get secrets) (context_generation row.session.generation row.session.joined row.session.own row.session.role true) ∙ may.keyed.known;
        is = is;
        once = λ far was. once_session (own_of setup) past s.sealed s.sessions sent.numbered near row there some far was;
        keyings = λ packet reads. no_keyings_among _ _ packet (body_plain row.session s.moment body packet modest reads);
        session = may.stands;
      }

      sealed_more : (b : Bool) → b ≡ false → (if b then row.session else sealed_once row.session) ≡ sealed_once row.session
      sealed_more b e = ap (λ (t : Bool). if t then row.session else sealed_once row.session) e

      by_test : (b : Bool) → (row.session.sealed == last_count) ≡ b →
          Meets secrets setup now call past (if b then nothing s else record { state = with_session s near row (after_seal row.session); entries = Out to (session_datagram row.session s.moment body) (context_of row.session true) ∷ [] })
      by_test true e = meets_nothing secrets setup now call past s sent
      by_test false e = record {
        lines = (line (unequal row.session.sealed last_count e), tt);
        sent = record {
          numbered = numbered_session (own_of setup) past s.sealed s.sessions sent.numbered near row there (unequal row.session.sealed last_count e) now to (session_datagram row.session s.moment body)
              (record row { session = after_seal row.session }) (sealed_more (row.session.sealed == last_count) e) carries may.known;
          sized = sent.sized;
          short = sent.short;
          rows = sent.rows;
          staged = staged_alike secrets setup (stamped now (Out to (session_datagram row.session s.moment body) (context_of row.session true)) ∷ past) s (with_session s near row (after_seal row.session))
              (staged_out secrets setup past s sent.staged now to (session_datagram row.session s.moment body) (context_of row.session true)
              (beside_session secrets now to (session_datagram row.session s.moment body) (context_of row.session true) (not_startup row.session.generation row.session.joined row.session.own row.session.role))) refl;
        };
      }

-- what is sent leaves what may be sent
module _ (secrets : Secrets) (setup : Setup) (now : ℕ) (past : Past) (to : AddressParts) (datagram : List ℕ) (context : Context) where
  in_session_still : (sid : ℕ) (of : Context) → InSession secrets setup past sid of → InSession secrets setup (stamped now (Out to datagram context) ∷ past) sid of
  in_session_still sid (Startup generation) in_it = tt
  in_session_still sid (Session generation ni nr fp_i fp_r sid_i sid_r to_responder) in_it =
      (in_it.0, in_it.1, stands in_it.0 in_it.1 in_it.2, inr ((λ none. none), in_it.3), in_it.4, in_it.5)
    where
      stands : (thing : Held) (near : ℕ) → StandsUnder past near thing → StandsUnder (stamped now (Out to datagram context) ∷ past) near thing
      stands thing near (inl is) = inl is
      stands thing near (inr is) = inr (is.0, inr (tt, is.1))

  may_still : (b : Bool) (session : SessionState) → MaySend secrets setup past session → MaySend secrets setup (stamped now (Out to datagram context) ∷ past) (if b then session else sealed_once session)
  may_still true session may = record { keyed = may.keyed; known = may.known; stands = in_session_still session.joined.far (context_of session true) may.stands }
  may_still false session may = record {
    keyed = known_alike secrets now session (sealed_once session) (seal_alike false now session) may.keyed;
    known = may.known;
    stands = in_session_still session.joined.far (context_of session true) may.stands;
  }

-- one packet after another, and those of a packet in pieces
module _ (secrets : Secrets) (setup : Setup) (now : ℕ) (call : Call) (near : ℕ) (to : AddressParts) where
  abbrev BodiesMeet : List (List ℕ) → Type 0
  BodiesMeet bodies = (past : Past) (s : State) (row : Row) → Sent secrets setup past s → get s.sessions near ≡ Some row → MaySend secrets setup past row.session → Meets secrets setup now call past (sent_bodies s near to bodies)

  meets_first : (body : List ℕ) (rest : List (List ℕ)) → IsModest body → BodiesMeet rest → BodiesMeet (body ∷ rest)
  meets_first body rest modest later past s row sent there may =
      subst (λ (o : Option Row). Meets secrets setup now call past (then_do (sent_whole s near to body o) (λ t. sent_bodies t near to rest))) (sym there)
      (meets_then secrets setup now call past (sent_whole s near to body (Some row)) (λ t. sent_bodies t near to rest) first (by (row.session.sealed == last_count) first.sent))
    where
      first : Meets secrets setup now call past (sent_whole s near to body (Some row))
      first = meets_whole secrets setup now call past s sent near row there may to body modest

      went : Did
      went = record {
        state = with_session s near row (after_seal row.session);
        entries = Out to (session_datagram row.session s.moment body) (context_of row.session true) ∷ [];
      }

      by : (b : Bool) → (let d : Did = if b then nothing s else went in Sent secrets setup (onto now d.entries past) d.state) →
          (let d : Did = if b then nothing s else went in Meets secrets setup now call (onto now d.entries past) (sent_bodies d.state near to rest))
      by true kept = later past s row kept there may
      by false kept =
          later (onto now went.entries past) went.state (record row { session = after_seal row.session }) kept (get_inserted s.sessions near _)
          (may_still secrets setup now past to (session_datagram row.session s.moment body) (context_of row.session true) (is_spent row.session) row.session may)

  meets_bodies : (bodies : List (List ℕ)) → AllByRecursion IsModest bodies → BodiesMeet bodies
  meets_bodies [] modest past s row sent there may = meets_nothing secrets setup now call past s sent
  meets_bodies (body ∷ rest) modest past s row sent there may = meets_first body rest modest.0 (meets_bodies rest modest.1) past s row sent there may

module _ (secrets : Secrets) (setup : Setup) (now : ℕ) (call : Call) (past : Past) (s : State) (sent : Sent secrets setup past s) (near : ℕ) (row : Row) (there : get s.sessions near ≡ Some row) (may : MaySend secrets setup past row.session) where
  meets_pieces : (to : AddressParts) (body : List ℕ) → has_counts row (length (its_pieces s row body)) ≡ true → Meets secrets setup now call past (in_pieces s near row to body)
  meets_pieces to body has =
      let new : Row = record row { packets = row.packets + 1 } in
      let t : State = with_row s near new in
      let kept : Sent secrets setup past t = record {
        numbered = numbered_changed (own_of setup) past s.sealed s.sessions sent.numbered near row new there refl refl refl refl refl;
        sized = sent.sized;
        short = sent.short;
        rows = sent.rows;
        staged = staged_alike secrets setup past s t sent.staged refl;
      } in
      meets_bodies secrets setup now call near to (map (piece_body (row.packets + 1)) (its_pieces s row body)) (pieces_are_modest s row body has) past t new kept (get_inserted s.sessions near new) may

  -- a packet with this body, whole or in pieces
  pub meets_session : (to : AddressParts) (body : List ℕ) → IsModest body → Meets secrets setup now call past (sent_by s near to body (Some row))
  meets_session to body modest = by (is_long s row body)
    where
      counted : (b : Bool) → has_counts row (length (its_pieces s row body)) ≡ b → Meets secrets setup now call past (if b then in_pieces s near row to body else nothing s)
      counted true has = meets_pieces to body has
      counted false has = meets_nothing secrets setup now call past s sent

      by : (b : Bool) → Meets secrets setup now call past (if b then sent_in_pieces s near to row (its_pieces s row body) else sent_whole s near to body (Some row))
      by true = counted (has_counts row (length (its_pieces s row body))) refl
      by false = meets_whole secrets setup now call past s sent near row there may to body modest
