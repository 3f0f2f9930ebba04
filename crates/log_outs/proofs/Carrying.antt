-- The keyings of attempts that go out with a datagram, by the plain packet that is held.
use Rattle.std.specs.Prelude.{IfOk, IfSome}
use Rattle.std.proofs.Common.{ℕ, List, [], ◌∷◌, ◌≡◌, ◌==◌, inl, inr, refl, sym, ap, subst, Bool, true, false, ◌||◌, drop, length, Option, Some, None, Result, Ok, Err, ◌∙◌, arith}
use Rattle.std.specs.List.{list_any}
use Rattle.std.specs.Int.{w32, to_be_bytes}
use Rattle.std.proofs.lemmas.List.{drop_at}
use Rattle.crypto_profile.specs.declared.keys.Context.{Context}
use Rattle.crypto_profile.specs.declared.keys.Context.TheVariants.{Startup}
use Rattle.crypto_profile.specs.Keys.{Keys, keys_of}
use Rattle.crypto_profile.specs.Opening.{plain_of}
use Rattle.crypto_profile.specs.Sealing.{number_of, sealed}
use Rattle.crypto_profile.proofs.Opened.{length-sealed, sealed_carries, sealed_opens}
use Rattle.packet_scramble.specs.Datagram.{scrambled, sid_of}
use Rattle.rtmfp_packet.specs.Whole.{Whole}
use Rattle.rtmfp_packet.specs.Reading.{PacketReading}
use Rattle.rtmfp_packet.specs.declared.head.PacketFault.{PacketFault}
use Rattle.rtmfp_packet.proofs.Readings.{packet_reading_same}
use Rattle.glare_core.specs.Steps.{Among}
use Rattle.endpoint_model.specs.Keying.{chunks_of}
use Rattle.endpoint_model.specs.Views.{Sending}
use Rattle.endpoint_laws.specs.Contexts.{Secrets, ReadsUnder, generation_of, IsKeyingOf}
use Rattle.log_contexts.specs.Contexts.{AreKeyingsOf}
use Rattle.log_packets.specs.Asked.{Tells, SomeChunk, IsKeyingWith, AreKeyingsOf as AreChunksOf}
use Rattle.log_packets.specs.Opening.{IsSealed, IsOpened}
use Rattle.log_packets.proofs.Chunks.{only_true}
use Rattle.log_packets.proofs.Asking.{for_some}
use Rattle.log_packets.proofs.OpenedReads.{opened_reads, among_keyings}
use Rattle.log_outs.specs.Outs.{HoldsKeyings}
use Rattle.log_outs.proofs.Ways.{same_number, number_same}

whole_one : (a b : Whole) → Some a ≡ Some b → a ≡ b
whole_one a b e = cc

secret_one : (a b : List ℕ) → Some a ≡ Some b → a ≡ b
secret_one a b e = cc

ok_one : (a b : Whole) → ◌≡◌ {A = Result Whole PacketFault} (Ok a) (Ok b) → a ≡ b
ok_one a b e = cc

same_packet : (plain : List ℕ) (a b : Whole) → PacketReading plain (Ok a) → PacketReading plain (Ok b) → a ≡ b
same_packet plain a b p q = ok_one a b (packet_reading_same plain (Ok a) (Ok b) p q)

-- ---- what is among them

among_any : (near : ℕ) (ids : List ℕ) → Among near ids → list_any (λ id. id == near) ids ≡ true
among_any near [] a = absurd a
among_any near (id ∷ ids) (inl here) = ap (λ (b : Bool). b || list_any (λ k. k == near) ids) (number_same id near (sym here))
among_any near (id ∷ ids) (inr later) = either (id == near) (list_any (λ k. k == near) ids) (among_any near ids later)
  where
    either : (a b : Bool) → b ≡ true → (a || b) ≡ true
    either true b e = refl
    either false b e = e

any_among : (near : ℕ) (ids : List ℕ) → list_any (λ id. id == near) ids ≡ true → Among near ids
any_among near [] e = absurd cc
any_among near (id ∷ ids) e = by (λ f. any_among near ids f) (id == near) refl e
  where
    by : (list_any (λ k. k == near) ids ≡ true → Among near ids) → (b : Bool) → (id == near) ≡ b → (b || list_any (λ k. k == near) ids) ≡ true → Among near (id ∷ ids)
    by later true is f = inl (sym (same_number id near is))
    by later false is f = inr (later f)

-- ---- what is held

pub holds_some : (plain ids : List ℕ) (o : Option Whole) (p : Whole) → o ≡ Some p → IfSome o (λ packet. PacketReading plain (Ok packet)) → ((packet : Whole) → PacketReading plain (Ok packet) → o ≡ Some packet) → AreChunksOf (chunks_of p) ids → HoldsKeyings plain ids
holds_some plain ids o p some reads only are = record {
  there = λ packet is near one. are.there near (subst (λ (q : Whole). SomeChunk (IsKeyingWith near) (chunks_of q)) (whole_one packet p (sym (only packet is) ∙ some)) one);
  is = λ near e. (p, for_some (λ (q : Whole). PacketReading plain (Ok q)) o p reads some, are.is near e);
}

pub holds_none : (plain : List ℕ) (o : Option Whole) → o ≡ None → ((packet : Whole) → PacketReading plain (Ok packet) → o ≡ Some packet) → HoldsKeyings plain []
holds_none plain o none only = record {
  there = λ packet is near one. absurd (let clash : None ≡ Some packet = sym none ∙ only packet is in cc);
  is = λ near e. only_true false refl e;
}

pub if_ok : {A E : Type 0} (P Q : A → Type 0) → ((a : A) → P a → Q a) → (r : Result A E) → IfOk r P → IfOk r Q
if_ok P Q so (Ok a) is = so a is
if_ok P Q so (Err e) is = tt

-- ---- what was sealed opens

module _ (secrets : Secrets) (generation : ℕ) (bytes number plain : List ℕ) (s : IsSealed secrets (Startup generation) bytes (sid_of bytes) number plain) where
  abbrev ours : Keys
  ours = keys_of s.secret (Startup generation)

  abbrev part : List ℕ
  part = sealed ours (sid_of bytes) number plain

  behind : drop 4 bytes ≡ part
  behind = ap (drop 4) s.is ∙ drop_at (to_be_bytes w32 (scrambled (sid_of bytes) part)) part 4 refl

  named : number_of (drop 4 bytes) ≡ number
  named = ap number_of behind ∙ (sealed_carries ours (sid_of bytes) number plain s.numbered).0

  plain_is : (keys : Keys) (other : List ℕ) → drop 4 bytes ≡ sealed keys (sid_of bytes) (number_of (drop 4 bytes)) other → plain_of keys (drop 4 bytes) ≡ other
  plain_is keys other e = ap (plain_of keys) e ∙ (sealed_opens keys (sid_of bytes) (number_of (drop 4 bytes)) other (ap length named ∙ s.numbered)).1

  pub was_opened : IsOpened secrets (Startup generation) (sid_of bytes) bytes true plain
  was_opened = record {
    yes = λ e. record {
      secret = s.secret;
      known = s.known;
      id = refl;
      opens = (omega (arith, ap length behind, length-sealed ours (sid_of bytes) number plain s.numbered), same, tt);
    };
    no = λ other o.
        let under : o.secret ≡ s.secret = secret_one o.secret s.secret (sym o.known ∙ s.known) in
        (refl, sym (plain_is (keys_of o.secret (Startup generation)) other o.opens.1) ∙ ap (λ (x : List ℕ). plain_of (keys_of x (Startup generation)) (drop 4 bytes)) under ∙ plain_is ours plain same);
  }
    where
      same : drop 4 bytes ≡ sealed ours (sid_of bytes) (number_of (drop 4 bytes)) plain
      same = behind ∙ ap (λ (n : List ℕ). sealed ours (sid_of bytes) n plain) (sym named)

-- ---- the keyings that go out

module _ (secrets : Secrets) (sent : Sending) (number plain : List ℕ) where
  tells_one : (near : ℕ) (ids : List ℕ) → HoldsKeyings plain ids → (packet : Whole) → PacketReading plain (Ok packet) → ((other : Whole) → PacketReading plain (Ok other) → other ≡ packet) → Tells (SomeChunk (IsKeyingWith near) (chunks_of packet)) (list_any (λ id. id == near) ids)
  tells_one near ids holds packet reads one = record {
    yes = λ e. let it = holds.is near e in subst (λ (q : Whole). SomeChunk (IsKeyingWith near) (chunks_of q)) (one it.0 it.1) it.2;
    no = λ some. holds.there packet reads near some;
  }

  in_startup : (generation : ℕ) → sent.context ≡ Startup generation → IsSealed secrets (Startup generation) sent.datagram (sid_of sent.datagram) number plain → (ids : List ℕ) → HoldsKeyings plain ids → AreKeyingsOf secrets (Some sent) ids
  in_startup generation at s ids holds =
      let opened = was_opened secrets generation sent.datagram number plain s in
      record {
        there = λ near other k. any_among near ids (there opened near other k);
        is = λ near among.
            let it = holds.is near (among_any near ids among) in
            (generation, (tells opened near it.0 it.1).yes (among_any near ids among));
      }
    where
      tells : IsOpened secrets (Startup generation) (sid_of sent.datagram) sent.datagram true plain → (near : ℕ) (packet : Whole) → PacketReading plain (Ok packet) → Tells (IsKeyingOf secrets near generation sent) (list_any (λ id. id == near) ids)
      tells opened near packet reads =
          among_keyings secrets near generation (sid_of sent.datagram) sent plain packet (list_any (λ id. id == near) ids) at opened reads (tells_one near ids holds packet reads (λ other is. same_packet plain other packet is reads))

      there : IsOpened secrets (Startup generation) (sid_of sent.datagram) sent.datagram true plain → (near other : ℕ) (k : IsKeyingOf secrets near other sent) → list_any (λ id. id == near) ids ≡ true
      there opened near other k =
          let same : other ≡ generation = ap generation_of (sym k.context ∙ at) in
          let mine : IsKeyingOf secrets near generation sent = subst (λ (n : ℕ). IsKeyingOf secrets near n sent) same k in
          let read : ReadsUnder secrets (Startup generation) (sid_of sent.datagram) sent.datagram mine.packet =
          subst (λ (n : ℕ). ReadsUnder secrets (Startup generation) n sent.datagram mine.packet) (sym mine.reads.opens.id) mine.reads in
          let told = (opened_reads secrets (Startup generation) (sid_of sent.datagram) sent.datagram true plain opened).no mine.packet read in
          (tells opened near mine.packet told.2).no mine

  pub in_context : (context : Context) (generation : ℕ) → context ≡ Startup generation → sent.context ≡ context → IsSealed secrets context sent.datagram (sid_of sent.datagram) number plain → (ids : List ℕ) → HoldsKeyings plain ids → AreKeyingsOf secrets (Some sent) ids
  in_context context generation is at s ids holds =
      in_startup generation (at ∙ is) (subst (λ (c : Context). IsSealed secrets c sent.datagram (sid_of sent.datagram) number plain) is s) ids holds
