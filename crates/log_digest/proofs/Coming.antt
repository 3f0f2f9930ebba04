-- Lawful entries may come.
use Rattle.std.proofs.Common.{ℕ, List, ◌≡◌, ◌≤◌, inl, inr, refl, ap, length, Option, Some, None, ◌∙◌, arith, length-append}
use Rattle.std.specs.Int.{w32, to_be_bytes}
use Rattle.glare_core.specs.declared.facts.Fact.{Fact}
use Rattle.glare_core.specs.declared.facts.Fact.TheVariants.{Started, Born, Opened, Confirmed, Ended}
use Rattle.packet_scramble.specs.Datagram.{scrambled}
use Rattle.crypto_profile.specs.declared.keys.Context.{Context}
use Rattle.crypto_profile.specs.Sealing.{sealed_in}
use Rattle.crypto_profile.specs.Keys.{keys_of}
use Rattle.crypto_profile.proofs.Opened.{length-sealed}
use Rattle.endpoint_model.specs.declared.entry.Entry.{Entry}
use Rattle.endpoint_model.specs.declared.entry.Entry.TheVariants.{Fact as FactEntry, Closed, Sought, Unsought, Moved, Learnt, Advanced, FlowOpened, Queued, Finished, Abandoned, Handed, Discard, Out}
use Rattle.endpoint_model.specs.Event.{Setup, Call, ReceiveCall, SeekCall, receive_in, seek_in}
use Rattle.endpoint_laws.specs.Past.{Past, seek_of}
use Rattle.endpoint_laws.specs.Contexts.{Secrets, SearchUnder}
use Rattle.endpoint_laws.specs.Lawful.{FactLine, TakesHelloIn, SeeksIn, OutLine}
use Rattle.log_digest.specs.declared.spot.Drawn.{Drawn}
use Rattle.log_digest.specs.Changes.{HasPlace, drawn_in}
use Rattle.log_digest.specs.Laws.{EachLawfulEntryMayCome, EventsUseNoNumber}

search_stands : (secrets : Secrets) (setup : Setup) (past : Past) (o : Option ReceiveCall) (peer : List ℕ) (n near : ℕ) (ni : List ℕ) → TakesHelloIn secrets setup past o peer n near ni → SearchUnder past near
search_stands secrets setup past None peer n near ni hello = absurd hello
search_stands secrets setup past (Some r) peer n near ni hello =
    let answers = hello.2 in record { which = _; at = answers.at; stands = answers.stands }

has_place : (secrets : Secrets) (setup : Setup) (now : ℕ) (call : Call) (past : Past) (rest : List Entry) (g : Fact) → FactLine secrets setup now call past rest g → HasPlace past g
has_place secrets setup now call past rest (Started peer n near ni) (inl by_open) = inl by_open.1.unused
has_place secrets setup now call past rest (Started peer n near ni) (inr hello) = inr (search_stands secrets setup past (receive_in call) peer n near ni hello)
has_place secrets setup now call past rest (Born j) line = line.id.unused
has_place secrets setup now call past rest (Opened j) line = tt
has_place secrets setup now call past rest (Confirmed peer near) line = tt
has_place secrets setup now call past rest (Ended peer near why) line = tt

draws : (o : Option SeekCall) (name : List ℕ) → SeeksIn o name → (drawn : Drawn) × (drawn_in o ≡ Some drawn)
draws None name seeks = absurd seeks
draws (Some seek) name seeks = (record { tag = seek.draws.tag; ni = seek.draws.nonce }, refl)

long_enough : (secrets : Secrets) (setup : Setup) (call : Call) (past : Past) (sent : List ℕ) (context : Context) → OutLine secrets setup call past sent context → 36 ≤ length sent
long_enough secrets setup call past sent context line =
    let part = sealed_in line.secret context line.sid line.number line.plain in
    omega (arith, ap length line.is, length-append (to_be_bytes w32 (scrambled line.sid part)) part, length-sealed (keys_of line.secret context) line.sid line.number line.plain line.numbered)

pub lawful_may_come : EachLawfulEntryMayCome
lawful_may_come secrets setup now call past rest (FactEntry g) last line = ((line.0, has_place secrets setup now call past rest g line.1), tt)
lawful_may_come secrets setup now call past rest (Closed near) last line = ((line.thing, line.at, line.closing), tt)
lawful_may_come secrets setup now call past rest (Sought near name) last line =
    let sought = line.0 in
    let d = draws (seek_in call) name sought.by in
    ((sought.id.unused, (d.0, ap (λ (c : Option Call). drawn_in (seek_of c)) last ∙ d.1)), tt)
lawful_may_come secrets setup now call past rest (Unsought near why) last line = (let ended = line.0 in record { which = ended.which; at = ended.at; stands = ended.stands }, tt)
lawful_may_come secrets setup now call past rest (Moved near to) last line = (tt, tt)
lawful_may_come secrets setup now call past rest (Learnt generation) last line = (tt, tt)
lawful_may_come secrets setup now call past rest (Advanced generation) last line = (tt, tt)
lawful_may_come secrets setup now call past rest (FlowOpened near flow) last line = (tt, tt)
lawful_may_come secrets setup now call past rest (Queued near flow seq message) last line = (tt, tt)
lawful_may_come secrets setup now call past rest (Finished near flow seq) last line = (tt, tt)
lawful_may_come secrets setup now call past rest (Abandoned near flow seq) last line = (tt, tt)
lawful_may_come secrets setup now call past rest (Handed near flow seq message) last line = (tt, tt)
lawful_may_come secrets setup now call past rest (Discard place cause) last line = (tt, tt)
lawful_may_come secrets setup now call past rest (Out to sent context) last line = (tt, long_enough secrets setup call past sent context line)

pub events_use_none : EventsUseNoNumber
events_use_none moment e past stamps are = record {
  there = λ context number w. elim w [ inl never ↦ absurd never | inr before ↦ are.there context number before ];
  is = λ context number e. inr (are.is context number e);
}
