-- A datagram has one plain packet where it opens, and goes under one session ID.
use Rattle.std.proofs.Common.{ℕ, ◌≡◌, ◌==◌, ◌≤◌, nat_lt, Bool, true, false, if◌then◌else◌, List, [], ◌∷◌, length, drop, Option, Some, None, Ok, inl, inr, sym, ap, subst, ◌∙◌, arith, length-drop}
use Rattle.std.proofs.lemmas.Bool.Decides.{nat_tests}
use Rattle.crypto_profile.specs.declared.keys.Context.{Context}
use Rattle.crypto_profile.specs.declared.keys.Context.TheVariants.{Startup}
use Rattle.crypto_profile.specs.Keys.{keys_of}
use Rattle.crypto_profile.specs.Opening.{plain_of}
use Rattle.crypto_profile.proofs.Opened.{opens_by_its_tag}
use Rattle.packet_scramble.specs.Datagram.{sid_of}
use Rattle.rtmfp_packet.specs.Whole.{Whole}
use Rattle.rtmfp_packet.specs.Reading.{PacketReading}
use Rattle.endpoint_model.specs.Event.{Setup, ReceiveCall}
use Rattle.endpoint_laws.specs.Past.{Past, before_event}
use Rattle.endpoint_laws.specs.Contexts.{Secrets, OpensUnder, OpensFirst, OpensInStartup, ReadsUnder}
use Rattle.log_packets.specs.Opening.{sid_in, is_sid}
use Rattle.log_arrivals.specs.declared.arrival.Arrival.{Arrival}
use Rattle.log_arrivals.specs.declared.arrival.Arrival.TheVariants.{Startup as InStartup, Session as InSession}
use Rattle.log_facts.specs.Coming.{Comes, IsPacketOf, IsRead}

pub one_of : {A : Type 0} (a b : A) → Some a ≡ Some b → a ≡ b
one_of a b e = cc

pub plain_one : (secrets : Secrets) (context : Context) (sid : ℕ) (bytes p q : List ℕ) → OpensUnder secrets context sid bytes p → OpensUnder secrets context sid bytes q → p ≡ q
plain_one secrets context sid bytes p q a b =
    let same : a.secret ≡ b.secret = one_of a.secret b.secret (sym a.known ∙ b.known) in
    ((opens_by_its_tag a.secret context sid (drop 4 bytes) p).0 a.opens).2
    ∙ ap (λ (s : List ℕ). plain_of (keys_of s context) (drop 4 bytes)) same
    ∙ sym ((opens_by_its_tag b.secret context sid (drop 4 bytes) q).0 b.opens).2

pub first_under : (secrets : Secrets) (contexts : List Context) (sid : ℕ) (bytes : List ℕ) (c : Context) (p : List ℕ) → OpensFirst secrets contexts sid bytes c p → OpensUnder secrets c sid bytes p
first_under secrets [] sid bytes c p o = absurd o
first_under secrets (first ∷ later) sid bytes c p (inl o) = o.1
first_under secrets (first ∷ later) sid bytes c p (inr o) = first_under secrets later sid bytes c p o.1

same_sid : (short : Bool) (id sid : ℕ) → is_sid (if short then None else Some id) sid ≡ true → id ≡ sid
same_sid true id sid e = absurd cc
same_sid false id sid e = let same : (id == sid) ≡ true = e in grind (arith, nat_tests)

is_same_sid : (short : Bool) (id sid : ℕ) → short ≡ false → id ≡ sid → is_sid (if short then None else Some id) sid ≡ true
is_same_sid true id sid e same = absurd cc
is_same_sid false id sid e same = let is : id ≡ sid = same in grind (arith, nat_tests)

long_is : (bytes : List ℕ) → 32 ≤ length (drop 4 bytes) → nat_lt (length bytes) 36 ≡ false
long_is bytes long =
    let count : 36 ≤ length bytes = omega (arith, long, length-drop 4 bytes) in
    grind (arith, nat_tests)

pub sid_is : (bytes : List ℕ) (sid : ℕ) → is_sid (sid_in bytes) sid ≡ true → sid_of bytes ≡ sid
sid_is bytes sid e = same_sid (nat_lt (length bytes) 36) (sid_of bytes) sid e

-- What opens goes under its session ID.
pub is_under : (secrets : Secrets) (context : Context) (sid : ℕ) (bytes plain : List ℕ) → OpensUnder secrets context sid bytes plain → is_sid (sid_in bytes) sid ≡ true
is_under secrets context sid bytes plain o = is_same_sid (nat_lt (length bytes) 36) (sid_of bytes) sid (long_is bytes o.opens.0) o.id

module _ (secrets : Secrets) (setup : Setup) (past : Past) (r : ReceiveCall) (plain : List ℕ) (arrival : Arrival) (packet : Option Whole) (c : Comes secrets setup past (Some r) plain arrival packet) where
  in_startup : (g : ℕ) → arrival ≡ InStartup g → IsPacketOf plain packet
  in_startup g e = subst (λ (a : Arrival). IsRead a plain packet) e c.reads

  pub in_session : arrival ≡ InSession → IsPacketOf plain packet
  in_session e = subst (λ (a : Arrival). IsRead a plain packet) e c.reads

  -- what opens in a startup context is told
  pub told : (g sid : ℕ) (whole : Whole) → OpensInStartup secrets setup (before_event past) r.datagram g → ReadsUnder secrets (Startup g) sid r.datagram whole →
      (arrival ≡ InStartup g) × (packet ≡ Some whole) × (is_sid (sid_in r.datagram) sid ≡ true)
  told g sid whole o reads =
      let starts = c.arrives.starts g o.plain (record { contexts = o.contexts; named = o.named; opens = o.opens }) in
      let under : OpensUnder secrets (Startup g) (sid_of r.datagram) r.datagram o.plain = first_under secrets o.contexts (sid_of r.datagram) r.datagram (Startup g) o.plain o.opens in
      let here : OpensUnder secrets (Startup g) (sid_of r.datagram) r.datagram reads.plain = subst (λ (n : ℕ). OpensUnder secrets (Startup g) n r.datagram reads.plain) (sym reads.opens.id) reads.opens in
      let same : reads.plain ≡ plain = plain_one secrets (Startup g) (sid_of r.datagram) r.datagram reads.plain o.plain here under ∙ starts.1 in
      (starts.0, (in_startup g starts.0).only whole (subst (λ (p : List ℕ). PacketReading p (Ok whole)) same reads.reads), is_under secrets (Startup g) sid r.datagram reads.plain reads.opens)

  pub there : (g sid : ℕ) (whole : Whole) → arrival ≡ InStartup g → packet ≡ Some whole → is_sid (sid_in r.datagram) sid ≡ true →
      OpensInStartup secrets setup (before_event past) r.datagram g × ReadsUnder secrets (Startup g) sid r.datagram whole
  there g sid whole e p goes =
      let s = c.arrives.startup g e in
      let under : OpensUnder secrets (Startup g) (sid_of r.datagram) r.datagram plain = first_under secrets s.contexts (sid_of r.datagram) r.datagram (Startup g) plain s.opens in (
        record { contexts = s.contexts; named = s.named; plain = plain; opens = s.opens },
        record {
          plain = plain;
          opens = subst (λ (n : ℕ). OpensUnder secrets (Startup g) n r.datagram plain) (sid_is r.datagram sid goes) under;
          reads = (in_startup g e).is whole p;
        },
      )
