-- The line of a datagram that goes out, by what is kept.
use Rattle.std.proofs.Common.{ℕ, List, ◌≡◌, ◌≤◌, refl, sym, ap, subst, Bool, true, false, drop, length, Ok, arith, length-append}
use Rattle.crypto_profile.specs.declared.keys.Context.{Context}
use Rattle.crypto_profile.specs.Sealing.{number_of, sealed_in}
use Rattle.crypto_profile.specs.Keys.{keys_of}
use Rattle.crypto_profile.proofs.Opened.{length-sealed}
use Rattle.std.specs.Int.{w32, to_be_bytes}
use Rattle.packet_scramble.specs.Datagram.{scrambled, sid_of}
use Rattle.rtmfp_packet.specs.Whole.{Whole}
use Rattle.rtmfp_packet.specs.Reading.{PacketReading}
use Rattle.endpoint_model.specs.Event.{Setup}
use Rattle.endpoint_model.specs.Keying.{KeyingsAre, chunks_of}
use Rattle.endpoint_laws.specs.Past.{Past}
use Rattle.endpoint_laws.specs.Contexts.{Secrets}
use Rattle.endpoint_laws.specs.Lawful.{KeyingOfAttempt, KeyingOfBorn, OutLine}
use Rattle.log_values.specs.Events.{call_of}
use Rattle.log_packets.specs.Asked.{Tells}
use Rattle.log_packets.specs.Opening.{WasSealed, IsSealed}
use Rattle.log_packets.proofs.Chunks.{only_true}
use Rattle.log_outs.specs.declared.sender.Sender.{Sender}
use Rattle.log_outs.specs.declared.sender.Cause.{Cause}
use Rattle.log_outs.specs.Answers.{TellsUnder}
use Rattle.log_outs.specs.Keyings.{ChunkMay, Each, fields_i}
use Rattle.log_outs.specs.Outs.{IsCauseOf, IsSenderOf, MayGoOut}
use Rattle.log_outs.specs.Numbers.{IsNew}
use Rattle.log_outs.proofs.Ways.{session_yes, session_no}
use Rattle.log_outs.proofs.Numbering.{new_yes, new_no}
use Rattle.log_outs.proofs.Responders.{responder_yes, responder_no}
use Rattle.log_outs.proofs.Initiators.{initiator_yes, initiator_no}

module _ (secrets : Secrets) (setup : Setup) (past : Past) (nonce : List ℕ) (s : Sender) (why : Cause) (is : IsSenderOf secrets setup past s) (of : IsCauseOf secrets setup past nonce why) (bytes plain : List ℕ) (context : Context) where
  abbrev Line : Type 0
  Line = OutLine secrets setup (call_of nonce why.call.now) past bytes context

  abbrev Keyings : ℕ → Whole → Type 0
  Keyings sid packet = KeyingsAre (λ near cookie cert part sign. KeyingOfAttempt secrets setup (call_of nonce why.call.now) past context near cert part)
      (λ near part sign. KeyingOfBorn secrets setup past context sid near part) packet

  keyings_yes : (sid : ℕ) (packet : Whole) → Each (ChunkMay s why context sid) (chunks_of packet) → Keyings sid packet
  keyings_yes sid packet each = record {
    initiators = λ c near cookie cert part sign among spells. initiator_yes secrets setup past s is nonce why of context (fields_i near cookie cert part sign) ((each c among).initiators near cookie cert part sign spells);
    responders = λ c near part sign among spells. responder_yes secrets setup past s is context sid near part ((each c among).responders near part sign spells);
  }

  keyings_no : (sid : ℕ) (packet : Whole) → Keyings sid packet → Each (ChunkMay s why context sid) (chunks_of packet)
  keyings_no sid packet are c among = record {
    initiators = λ near cookie cert part sign spells. initiator_no secrets setup past s is nonce why of context (fields_i near cookie cert part sign) (are.initiators c near cookie cert part sign among spells);
    responders = λ near part sign spells. responder_no secrets setup past s is context sid near part (are.responders c near part sign among spells);
  }

  line_of : (sid : ℕ) (number : List ℕ) → IsSealed secrets context bytes sid number plain → MayGoOut s why plain context number sid → Line
  line_of sid number sealed may = record {
    sid = sid;
    number = number;
    plain = plain;
    numbered = sealed.numbered;
    secret = sealed.secret;
    known = sealed.known;
    is = sealed.is;
    once = new_yes secrets setup past s is context number may.once;
    keyings = λ packet reads. keyings_yes sid packet (may.keyings packet reads);
    session = session_yes secrets setup past s is context sid may.session;
  }

  may_of : (line : Line) → line.plain ≡ plain → line.number ≡ number_of (drop 4 bytes) → MayGoOut s why plain context (number_of (drop 4 bytes)) line.sid
  may_of line plain_is number_is = record {
    once = new_no secrets setup past s is context (number_of (drop 4 bytes)) (subst (IsNew past context) number_is line.once);
    session = session_no secrets setup past s is context line.sid line.session;
    keyings = λ packet reads. keyings_no line.sid packet (line.keyings packet (subst (λ (p : List ℕ). PacketReading p (Ok packet)) (sym plain_is) reads));
  }

  sealing_of : (line : Line) → IsSealed secrets context bytes line.sid line.number line.plain
  sealing_of line = record { numbered = line.numbered; secret = line.secret; known = line.known; is = line.is }

  pub line_tells : (it : Bool) → WasSealed secrets context bytes true plain → TellsUnder (sid_of bytes) (MayGoOut s why plain context (number_of (drop 4 bytes))) it → Tells Line it
  line_tells it sealed tells = record {
    yes = λ e. line_of (sid_of bytes) (number_of (drop 4 bytes)) (sealed.yes refl) (tells.yes e);
    no = λ line. let told = sealed.no line.sid line.number line.plain (sealing_of line) in tells.no line.sid told.1 (may_of line told.3 told.2);
  }

  pub not_sealed_tells : WasSealed secrets context bytes false plain → Tells Line false
  not_sealed_tells sealed = record {
    yes = λ e. only_true false refl e;
    no = λ line. (sealed.no line.sid line.number line.plain (sealing_of line)).0;
  }

pub sealed_long : (secrets : Secrets) (context : Context) (bytes : List ℕ) (sid : ℕ) (number plain : List ℕ) → IsSealed secrets context bytes sid number plain → 36 ≤ length bytes
sealed_long secrets context bytes sid number plain sealed =
    let part = sealed_in sealed.secret context sid number plain in
    omega (arith, ap length sealed.is, length-append (to_be_bytes w32 (scrambled sid part)) part, length-sealed (keys_of sealed.secret context) sid number plain sealed.numbered)
