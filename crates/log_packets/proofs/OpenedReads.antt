-- What is so of a datagram that was opened.
use Rattle.std.proofs.Common.{ℕ, ◌≡◌, ◌≤◌, Bool, true, false, nat_lt, List, [], ◌∷◌, drop, length, inl, inr, Option, Some, None, Result, Ok, if◌then◌else◌, refl, sym, ap, subst, ◌∙◌}
use Rattle.crypto_profile.specs.declared.keys.Context.TheVariants.{Startup}
use Rattle.packet_scramble.specs.Datagram.{sid_of}
use Rattle.rtmfp_packet.specs.declared.head.Mode.TheVariants.{Startup as StartupMode}
use Rattle.rtmfp_packet.specs.declared.head.PacketFault.{PacketFault}
use Rattle.rtmfp_packet.specs.Reading.{PacketReading}
use Rattle.rtmfp_packet.proofs.Readings.{packet_reading_same}
use Rattle.rtmfp_packet.specs.Whole.{Whole}
use Rattle.endpoint_model.specs.Keying.{IsAmong, IsSigned, chunks_of}
use Rattle.endpoint_laws.specs.Contexts.{Secrets, OpensUnder, OpensFirst, ReadsUnder, startup_contexts}
use Rattle.endpoint_model.specs.Event.{Setup}
use Rattle.endpoint_laws.specs.Lawful.{HasHello, IsTagged}
use Rattle.endpoint_laws.specs.Past.{Past, Search, IsSearch, tag_of}
use Rattle.rtmfp_chunks.specs.Chunk.{RHello, Spells}
use Rattle.crypto_profile.specs.declared.keys.Context.{Context}
use Rattle.log_packets.specs.Opening.{startup_of, IsFirstOpened}
use Rattle.log_packets.specs.Laws.{EachOpensUnderItsOwn, BringsHello, WhatOpensReads, AnAnswerIsAmongItsChunks, KeyingsAreAmongItsChunks, AHelloIsAmongItsChunks, TheHelloIsAmongItsChunks}
use Rattle.log_packets.proofs.Opens.{long_is, one_of}

kept : (short : Bool) (id : ℕ) → short ≡ false → (if short then None else Some id) ≡ Some id
kept true id e = absurd cc
kept false id e = refl

pub opens_under_its_own : EachOpensUnderItsOwn
opens_under_its_own secrets context sid bytes plain o =
    kept (nat_lt (length bytes) 36) (sid_of bytes) (long_is bytes o.opens.0) ∙ ap (λ n. Some n) o.id

pub opened_reads : WhatOpensReads
opened_reads secrets context sid bytes opens plain is = record {
  yes = λ e packet reads. record { plain = plain; opens = is.yes e; reads = reads };
  no = λ packet r. let it = is.no r.plain r.opens in (it.0, it.1, subst (λ (b : List ℕ). PacketReading b (Ok packet)) it.1 r.reads);
}

same_packet : (plain : List ℕ) (a b : Whole) → PacketReading plain (Ok a) → PacketReading plain (Ok b) → a ≡ b
same_packet plain a b p q = ok_is a b (packet_reading_same plain (Ok a) (Ok b) p q)
  where
    ok_is : (x y : Whole) → ◌≡◌ {A = Result Whole PacketFault} (Ok x) (Ok y) → x ≡ y
    ok_is x y e = cc

pub among_answers : AnAnswerIsAmongItsChunks
among_answers secrets generation secret j bytes plain packet it known fits is reads tells =
    let opened = opened_reads secrets (Startup generation) j.near bytes true plain is in
    record {
      yes = λ e.
          let s = tells.yes e in
          let r : ReadsUnder secrets (Startup generation) j.near bytes packet = opened.yes refl packet reads in
          let same : r.opens.secret ≡ secret = one_of r.opens.secret secret (sym r.opens.known ∙ known) in
          record {
            packet = packet;
            reads = r;
            chunk = s.chunk;
            among = s.among;
            sign = s.is.sign;
            spells = s.is.spells;
            number = fits;
            signed = subst (λ (x : List ℕ). IsSigned x s.chunk.payload s.is.sign) (sym same) s.is.signed;
          };
      no = λ a.
          let r = opened.no a.packet a.reads in
          let same : a.packet ≡ packet = same_packet plain a.packet packet r.2 reads in
          let secret_is : a.reads.opens.secret ≡ secret = one_of a.reads.opens.secret secret (sym a.reads.opens.known ∙ known) in
          tells.no (record {
            chunk = a.chunk;
            among = subst (λ (p : Whole). IsAmong a.chunk (chunks_of p)) same a.among;
            is = record { sign = a.sign; spells = a.spells; signed = subst (λ (x : List ℕ). IsSigned x a.chunk.payload a.sign) secret_is a.signed };
          });
    }

pub among_keyings : KeyingsAreAmongItsChunks
among_keyings secrets near generation sid sent plain packet it context is reads tells =
    let opened = opened_reads secrets (Startup generation) sid sent.datagram true plain is in
    record {
      yes = λ e.
          let s = tells.yes e in
          record {
            context = context;
            sid = sid;
            packet = packet;
            reads = opened.yes refl packet reads;
            chunk = s.chunk;
            among = s.among;
            cookie = s.is.cookie;
            cert = s.is.cert;
            part = s.is.part;
            sign = s.is.sign;
            spells = s.is.spells;
          };
      no = λ k.
          let id : k.sid ≡ sid = sym k.reads.opens.id ∙ (is.yes refl).id in
          let r = opened.no k.packet (subst (λ n. ReadsUnder secrets (Startup generation) n sent.datagram k.packet) id k.reads) in
          let same : k.packet ≡ packet = same_packet plain k.packet packet r.2 reads in
          tells.no (record {
            chunk = k.chunk;
            among = subst (λ (p : Whole). IsAmong k.chunk (chunks_of p)) same k.among;
            is = record { cookie = k.cookie; cert = k.cert; part = k.part; sign = k.sign; spells = k.spells };
          });
    }

-- ---- hellos

first_under : (secrets : Secrets) (contexts : List Context) (sid : ℕ) (bytes : List ℕ) (context : Context) (plain : List ℕ) → OpensFirst secrets contexts sid bytes context plain → OpensUnder secrets context sid bytes plain
first_under secrets [] sid bytes context plain o = absurd o
first_under secrets (first ∷ later) sid bytes context plain (inl here) = here.1
first_under secrets (first ∷ later) sid bytes context plain (inr rest) = first_under secrets later sid bytes context plain rest.1

module _ (secrets : Secrets) (setup : Setup) (past : Past) (near current generation : ℕ) (next : Option ℕ) (bytes plain tag peer : List ℕ) (packet : Whole)
    (contexts : startup_contexts setup past ≡ startup_of current next) (is : IsFirstOpened secrets current next 0 bytes (Some generation) plain) (reads : PacketReading plain (Ok packet)) (tag_is : tag_of near past ≡ Some tag) where
  has_hello : BringsHello past tag peer near packet → HasHello secrets setup past peer near generation bytes
  has_hello b =
      let first = subst (λ (cs : List Context). OpensFirst secrets cs 0 bytes (Startup generation) plain) (sym contexts) (is.yes generation refl) in
      let s = b.hello in
      record {
        packet = packet;
        reads = record { plain = plain; opens = first_under secrets (startup_contexts setup past) 0 bytes (Startup generation) plain first; reads = reads };
        opens = first;
        mode = b.mode;
        chunk = s.chunk;
        among = s.among;
        tag = tag;
        cookie = s.is.cookie;
        cert = s.is.cert;
        spells = s.is.spells;
        tag_is = tag_is;
        lowest = b.lowest;
        narrow = s.is.from.narrow;
        is_cert = s.is.from.is_cert;
        peer_is = s.is.from.peer_is;
      }

  brings_hello : HasHello secrets setup past peer near generation bytes → BringsHello past tag peer near packet
  brings_hello h =
      let found = is.no (Startup generation) h.reads.plain (subst (λ (cs : List Context). OpensFirst secrets cs 0 bytes (Startup generation) h.reads.plain) contexts h.opens) in
      let read : PacketReading plain (Ok h.packet) = subst (λ (b : List ℕ). PacketReading b (Ok h.packet)) found.3 h.reads.reads in
      let same : h.packet ≡ packet = same_packet plain h.packet packet read reads in
      let same_tag : h.tag ≡ tag = one_of h.tag tag (sym h.tag_is ∙ tag_is) in
      record {
        mode = subst (λ (p : Whole). p.head.mode ≡ StartupMode) same h.mode;
        lowest = subst (λ (t : List ℕ). (other : ℕ) → IsTagged past t other → near ≤ other) same_tag h.lowest;
        hello = record {
          chunk = h.chunk;
          among = subst (λ (p : Whole). IsAmong h.chunk (chunks_of p)) same h.among;
          is = record {
            cookie = h.cookie;
            cert = h.cert;
            spells = subst (λ (t : List ℕ). Spells (RHello t h.cookie h.cert) h.chunk.kind h.chunk.payload) same_tag h.spells;
            from = record { narrow = h.narrow; is_cert = h.is_cert; peer_is = h.peer_is };
          };
        };
      }

pub among_hellos : AHelloIsAmongItsChunks
among_hellos = record { brings = brings_hello; has = has_hello }

pub among_answering : TheHelloIsAmongItsChunks
among_answering secrets generation past bytes plain peer n near search packet it is reads one size fits tells =
    let opened = opened_reads secrets (Startup generation) 0 bytes true plain is in
    record {
      yes = λ e.
          let s = tells.yes e in
          record {
            packet = packet;
            reads = opened.yes refl packet reads;
            chunk = s.chunk;
            among = s.among;
            tag = search.tag;
            cookie = s.is.cookie;
            cert = s.is.cert;
            spells = s.is.spells;
            is_cert = s.is.of.is_cert;
            peer_is = s.is.of.peer_is;
            at = one.at;
            stands = subst (λ (name : List ℕ). IsSearch near (record { name = name; tag = search.tag; ni = search.ni }) one.at past) s.is.of.name_is one.stands;
            nonce_size = size;
            number = fits;
          };
      no = λ a.
          let r = opened.no a.packet a.reads in
          let same : a.packet ≡ packet = same_packet plain a.packet packet r.2 reads in
          let which : ◌≡◌ {A = Search} (record { name = drop 16 a.cert; tag = a.tag; ni = search.ni }) search = one.only (record { name = drop 16 a.cert; tag = a.tag; ni = search.ni }) a.at a.stands in
          let same_tag : a.tag ≡ search.tag = ap (λ (x : Search). x.tag) which in
          tells.no (record {
            chunk = a.chunk;
            among = subst (λ (p : Whole). IsAmong a.chunk (chunks_of p)) same a.among;
            is = record {
              cookie = a.cookie;
              cert = a.cert;
              spells = subst (λ (t : List ℕ). Spells (RHello t a.cookie a.cert) a.chunk.kind a.chunk.payload) same_tag a.spells;
              of = record { is_cert = a.is_cert; name_is = sym (ap (λ (x : Search). x.name) which); peer_is = a.peer_is };
            };
          });
    }
