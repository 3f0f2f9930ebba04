-- A birth that meets its line is one whose offer was made and let.
use Rattle.std.proofs.Common.{ℕ, ◌<◌, ◌^◌, ◌≡◌, ◌≢◌, inl, inr, Bool, true, false, List, length, Option, Some, None, refl, sym, ap, subst, ◌∙◌, Decides}
use Rattle.std.specs.Str.{bytes_eq}
use Rattle.std.proofs.lemmas.Bool.Decides.{Decides-and, Decides-eqb, Decides-not}
use Rattle.std.proofs.lemmas.Slice.Eq.{bytes_eq-Decides}
use Rattle.crypto_profile.specs.declared.keys.Context.{Context}
use Rattle.crypto_profile.specs.declared.keys.Context.TheVariants.{Startup}
use Rattle.packet_scramble.specs.Datagram.{sid_of}
use Rattle.rtmfp_chunks.specs.Chunk.{IIKeying, Spells}
use Rattle.cookies.specs.Cookie.{IsAnswer}
use Rattle.cookies.specs.declared.CookieTest.TheVariants.{Current}
use Rattle.glare_core.specs.declared.facts.Joined.{Joined}
use Rattle.endpoint_model.specs.Event.{Setup, Call, ReceiveCall, own_of, receive_in}
use Rattle.endpoint_model.specs.Keying.{IsSigned, initiator_part}
use Rattle.endpoint_laws.specs.Past.{Past, before_event}
use Rattle.endpoint_laws.specs.Contexts.{Secrets, OpensFirst, OpensUnder, startup_contexts}
use Rattle.endpoint_laws.specs.Admissible.{Admissible, Offer}
use Rattle.endpoint_laws.specs.Lawful.{BearsIn, BornLine, IsFree, WayMade}
use Rattle.log_packets.specs.Asked.{InitiatorFields, Tells}
use Rattle.log_facts.specs.Coming.{IsSaidBy}
use Rattle.log_facts.proofs.Answering.{not_both, not_so}
use Rattle.log_facts.proofs.Arriving.{first_under, one_of, plain_one}
use Rattle.log_digest.specs.Kept.{Digested}
use Rattle.log_digest.specs.Digest.{IsDigestOf}
use Rattle.log_values.specs.declared.log.LoggedCall.{LoggedCall}
use Rattle.log_values.specs.declared.log.LoggedCall.TheVariants.{Open as OpenCall, Seek as SeekCall, Cancel as CancelCall, Unseek as UnseekCall, Close as CloseCall, Learn as LearnCall, Advance as AdvanceCall, Receive, Tick as TickCall, Other as OtherCall}
use Rattle.log_values.specs.Events.{call_of, draws_of, no_tag}
use Rattle.log_births.specs.declared.party.Party.{Party}
use Rattle.log_births.specs.declared.party.Way.{Way}
use Rattle.log_births.specs.Births.{IsPartyOf, IsWay, MayBear, MayBearHere, Stays}
use Rattle.log_births.specs.Rooms.{may_bear}
use Rattle.log_births.proofs.Letting.{bear_decides}
use Rattle.log_births.specs.Offers.{IsOffered, Offers, is_named, offer_of, received}

-- ---- what a keying is named

named_decides : (own : List ℕ) (o : Offer) (k : InitiatorFields) → Decides (is_named own o k) (((k.near ≡ o.far) × (o.far ≢ 0)) × (k.part ≡ initiator_part o.ni o.n own))
named_decides own o k =
    Decides-and _ _ (Decides-and _ _ (Decides-eqb k.near o.far) (Decides-not _ (Decides-eqb o.far 0))) (bytes_eq-Decides k.part (initiator_part o.ni o.n own))

-- ---- what was offered

module _ (secrets : Secrets) (setup : Setup) (now : ℕ) (past : Past) (p : Party) (of : IsPartyOf setup p) (j : Joined) where
  abbrev Said : ReceiveCall → Type 0
  Said r = IsSaidBy secrets setup past r 0 (Offers p r.from now (offer_of j))

  abbrev Admits : Past → ReceiveCall → Type 0
  Admits before r = Admissible secrets setup before now r.from r.datagram (offer_of j)

  module _ (before : Past) (r : ReceiveCall) (stays : startup_contexts setup before ≡ startup_contexts setup (before_event past)) where
    admits : j.n < 2 ^ 64 → length j.ni ≡ 16 → Said r → MayBear setup before j.peer j.n → Admits before r
    admits counted sized s may =
        let id : sid_of r.datagram ≡ 0 = s.reads.opens.id in
        let o = s.opens in
        let contexts_are : o.contexts ≡ startup_contexts setup before = elim o.named [ inl here ↦ here.1 ∙ sym stays | inr under ↦ absurd (under.0 id) ] in
        let here : OpensUnder secrets (Startup s.generation) 0 r.datagram o.plain =
        subst (λ (n : ℕ). OpensUnder secrets (Startup s.generation) n r.datagram o.plain) id
        (first_under secrets o.contexts (sid_of r.datagram) r.datagram (Startup s.generation) o.plain o.opens) in
        let plains : o.plain ≡ s.reads.plain = plain_one secrets (Startup s.generation) 0 r.datagram o.plain s.reads.plain here s.reads.opens in
        let first : OpensFirst secrets (startup_contexts setup before) 0 r.datagram (Startup s.generation) s.reads.plain =
        subst (λ (b : List ℕ). OpensFirst secrets (startup_contexts setup before) 0 r.datagram (Startup s.generation) b) plains
        (subst (λ (cs : List Context). OpensFirst secrets cs 0 r.datagram (Startup s.generation) o.plain) contexts_are
        (subst (λ (n : ℕ). OpensFirst secrets o.contexts n r.datagram (Startup s.generation) o.plain) id o.opens)) in
        let f = s.so.first in
        let m = s.so.makes in
        let k = s.so.fields in
        let named = (named_decides p.own.now (offer_of j) k).0 m.named in
        let part_is : k.part ≡ initiator_part j.ni j.n (own_of setup) = named.1 ∙ ap (initiator_part j.ni j.n) (sym of.own_is) in
        record {
          packet = s.packet;
          generation = s.generation;
          reads = s.reads;
          opens = first;
          mode = s.so.mode;
          chunk = f.chunk;
          first = f.first;
          cookie = k.cookie;
          cert = k.cert;
          sign = k.sign;
          spells = subst (λ (part : List ℕ). Spells (IIKeying j.far k.cookie k.cert part k.sign) f.chunk.kind f.chunk.payload) part_is
              (subst (λ (n : ℕ). Spells (IIKeying n k.cookie k.cert k.part k.sign) f.chunk.kind f.chunk.payload) named.0.0 f.spells);
          number = counted;
          nonce_size = sized;
          far = named.0.1;
          is_cert = m.of.is_cert;
          peer = m.of.peer_is;
          signed = subst (λ (b : List ℕ). IsSigned s.reads.opens.secret b k.sign) (sym f.payload_is) m.signed;
          narrow = m.cookie.narrow;
          current = subst (λ (secret : List ℕ). IsAnswer secret k.cookie r.from now Current) (sym of.cookies_are) m.cookie.current;
          other = subst (λ (cert : List ℕ). k.cert ≢ cert) (sym of.cert_is) m.of.other;
          above = may.above;
          prevails = may.prevails;
          row = may.row;
          place = may.place;
        }

    said_by : Admits before r → Said r
    said_by a =
        let id : sid_of r.datagram ≡ 0 = a.reads.opens.id in
        let k : InitiatorFields = record { near = j.far; cookie = a.cookie; cert = a.cert; part = initiator_part j.ni j.n (own_of setup); sign = a.sign } in
        let part_is : k.part ≡ initiator_part j.ni j.n p.own.now = ap (initiator_part j.ni j.n) of.own_is in
        record {
          generation = a.generation;
          opens = record {
            contexts = startup_contexts setup before;
            named = inl (id, stays);
            plain = a.reads.plain;
            opens = subst (λ (n : ℕ). OpensFirst secrets (startup_contexts setup before) n r.datagram (Startup a.generation) a.reads.plain) (sym id) a.opens;
          };
          packet = a.packet;
          reads = a.reads;
          so = record {
            mode = a.mode;
            payload = a.chunk.payload;
            fields = k;
            first = record { chunk = a.chunk; first = a.first; payload_is = refl; spells = a.spells };
            makes = record {
              named = (named_decides p.own.now (offer_of j) k).1 ((refl, a.far), part_is);
              of = record { is_cert = a.is_cert; peer_is = a.peer; other = subst (λ (cert : List ℕ). a.cert ≢ cert) of.cert_is a.other };
              cookie = record { narrow = a.narrow; current = subst (λ (secret : List ℕ). IsAnswer secret a.cookie r.from now Current) of.cookies_are a.current };
              signed = a.signed;
            };
          };
        }

    lets : Admits before r → MayBear setup before j.peer j.n
    lets a = record { above = a.above; prevails = a.prevails; row = a.row; place = a.place }

  -- ---- before the end that made way the startup contexts were the same

  stays_before : (before : Past) → WayMade now past before j.peer → startup_contexts setup past ≡ startup_contexts setup (before_event past) → startup_contexts setup before ≡ startup_contexts setup (before_event past)
  stays_before before (inl same) stays = ap (startup_contexts setup) (sym same) ∙ stays
  stays_before before (inr w) stays = ap (startup_contexts setup) (sym w.3) ∙ stays

  -- ---- the line

  record Parts (o : Option ReceiveCall) (nonce : List ℕ) : Type 0 where
    drawn : j.nr ≡ nonce
    free : IsFree j.near past
    may : MayBearHere setup now past j.peer j.n
    offered : IsOffered secrets setup past p now (offer_of j) o

  -- the line of a birth by the datagram of a call, if it is given one
  record LineBy (o : Option ReceiveCall) : Type 0 where
    before : Past
    way : WayMade now past before j.peer
    by : BearsIn secrets setup before now o (offer_of j) j.nr
    id : IsFree j.near past

  module _ (nonce : List ℕ) (o : Option ReceiveCall) (stays : Stays setup past o) (draws : (r : ReceiveCall) → o ≡ Some r → r.draws.nonce ≡ nonce) where
    parts_line : j.n < 2 ^ 64 → length j.ni ≡ 16 → Parts o nonce → LineBy o
    parts_line counted sized q = by o refl
      where
        by : (x : Option ReceiveCall) → o ≡ x → LineBy o
        by None e = absurd (subst (λ (y : Option ReceiveCall). IsOffered secrets setup past p now (offer_of j) y) e q.offered)
        by (Some r) e =
            let before = q.may.before in
            let same : startup_contexts setup before ≡ startup_contexts setup (before_event past) = stays_before before q.may.way (stays r e) in
            let said : Said r = subst (λ (y : Option ReceiveCall). IsOffered secrets setup past p now (offer_of j) y) e q.offered in
            record {
              before = before;
              way = q.may.way;
              by = subst (λ (y : Option ReceiveCall). BearsIn secrets setup before now y (offer_of j) j.nr) (sym e) (admits before r same counted sized said q.may.may, q.drawn ∙ sym (draws r e));
              id = q.free;
            }

    line_parts : LineBy o → Parts o nonce
    line_parts l = by o refl
      where
        by : (x : Option ReceiveCall) → o ≡ x → Parts o nonce
        by None e = absurd (subst (λ (y : Option ReceiveCall). BearsIn secrets setup l.before now y (offer_of j) j.nr) e l.by)
        by (Some r) e =
            let b : BearsIn secrets setup l.before now (Some r) (offer_of j) j.nr = subst (λ (y : Option ReceiveCall). BearsIn secrets setup l.before now y (offer_of j) j.nr) e l.by in
            let same : startup_contexts setup l.before ≡ startup_contexts setup (before_event past) = stays_before l.before l.way (stays r e) in
            record {
              drawn = b.1 ∙ draws r e;
              free = l.id;
              may = record { before = l.before; way = l.way; may = lets l.before r same b.0 };
              offered = subst (λ (y : Option ReceiveCall). IsOffered secrets setup past p now (offer_of j) y) (sym e) (said_by l.before r same b.0);
            }

  of_line : (call : Call) → BornLine secrets setup now call past j → LineBy (receive_in call)
  of_line call l = record { before = l.before; way = l.way; by = l.by; id = l.id }

  line_of : (call : Call) → LineBy (receive_in call) → BornLine secrets setup now call past j
  line_of call l = record { before = l.before; way = l.way; by = l.by; id = l.id }

draws_in : (nonce : List ℕ) (call : LoggedCall) (r : ReceiveCall) → receive_in (call_of nonce call) ≡ Some r → r.draws.nonce ≡ nonce
draws_in nonce (Receive from datagram) r e = sym (ap (λ (x : ReceiveCall). x.draws.nonce) (one_of (received from datagram (draws_of nonce no_tag)) r e))
draws_in nonce (OpenCall peer tag) r e = absurd cc
draws_in nonce (SeekCall name tag) r e = absurd cc
draws_in nonce (CancelCall n) r e = absurd cc
draws_in nonce (UnseekCall near) r e = absurd cc
draws_in nonce (CloseCall near) r e = absurd cc
draws_in nonce (LearnCall secret) r e = absurd cc
draws_in nonce AdvanceCall r e = absurd cc
draws_in nonce TickCall r e = absurd cc
draws_in nonce OtherCall r e = absurd cc

module _ (secrets : Secrets) (setup : Setup) (now : ℕ) (past : Past) (p : Party) (of : IsPartyOf setup p) (j : Joined) (nonce : List ℕ) (call : LoggedCall)
    (stays : Stays setup past (receive_in (call_of nonce call))) where
  abbrev TheLine : Type 0
  TheLine = BornLine secrets setup now (call_of nonce call) past j

  abbrev TheParts : Type 0
  TheParts = Parts secrets setup now past p of j (receive_in (call_of nonce call)) nonce

  parts_of : TheLine → TheParts
  parts_of l = line_parts secrets setup now past p of j nonce (receive_in (call_of nonce call)) stays (draws_in nonce call) (of_line secrets setup now past p of j (call_of nonce call) l)

  pub not_drawn : (it : Bool) → it ≡ bytes_eq j.nr nonce → it ≡ false → Tells TheLine false
  not_drawn it is e = not_so _ (λ l. not_both it e (is ∙ (bytes_eq-Decides j.nr nonce).1 (parts_of l).drawn))

  pub not_free : (it : Bool) → (IsFree j.near past → it ≡ true) → it ≡ false → Tells TheLine false
  not_free it only e = not_so _ (λ l. not_both it e (only l.id))

  module _ (d : Digested) (is : IsDigestOf now past d) (way : Option Way) (is_way : IsWay now past way) where
    pub not_borne : (it : Bool) → it ≡ may_bear p d way j.peer j.n → it ≡ false → Tells TheLine false
    not_borne it value e = not_so _ (λ l. not_both it e (value ∙ (bear_decides setup p of j.peer j.n now past d is way is_way).1 (parts_of l).may))

    pub born_is : (drawn may it : Bool) (at : ℕ) → drawn ≡ bytes_eq j.nr nonce → drawn ≡ true → IsFree j.near past → may ≡ may_bear p d way j.peer j.n → may ≡ true → at ≡ d.moment → j.n < 2 ^ 64 → length j.ni ≡ 16 →
        Tells (IsOffered secrets setup past p at (offer_of j) (receive_in (call_of nonce call))) it → Tells TheLine it
    born_is drawn may it at nonce_is e free value f moment counted sized t =
        let offered : Tells (IsOffered secrets setup past p now (offer_of j) (receive_in (call_of nonce call))) it =
        subst (λ (m : ℕ). Tells (IsOffered secrets setup past p m (offer_of j) (receive_in (call_of nonce call))) it) (moment ∙ is.moment_is) t in
        record {
          yes = λ y.
              let q : TheParts = record {
                drawn = (bytes_eq-Decides j.nr nonce).0 (sym nonce_is ∙ e);
                free = free;
                may = (bear_decides setup p of j.peer j.n now past d is way is_way).0 (sym value ∙ f);
                offered = offered.yes y;
              } in
              line_of secrets setup now past p of j (call_of nonce call)
              (parts_line secrets setup now past p of j nonce (receive_in (call_of nonce call)) stays (draws_in nonce call) counted sized q);
          no = λ l. offered.no (parts_of l).offered;
        }
