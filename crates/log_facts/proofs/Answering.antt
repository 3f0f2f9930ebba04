-- What is said in a startup context is found, and what is found is said.
use Rattle.std.proofs.Common.{ℕ, ◌<◌, ◌^◌, ◌≡◌, Bool, true, false, not, List, length, drop, Option, Some, None, refl, sym, ap, subst, ◌∙◌}
use Rattle.std.specs.FinMap.{get}
use Rattle.std.specs.Str.{bytes_eq}
use Rattle.std.proofs.lemmas.Slice.Eq.{bytes_eq-Decides}
use Rattle.rtmfp_packet.specs.Whole.{Whole}
use Rattle.rtmfp_packet.specs.Walk.{Placed}
use Rattle.glare_core.specs.declared.facts.Joined.{Joined}
use Rattle.endpoint_model.specs.Event.{Setup, ReceiveCall}
use Rattle.endpoint_model.specs.Keying.{chunks_of}
use Rattle.endpoint_laws.specs.Past.{Past, Search}
use Rattle.endpoint_laws.specs.Contexts.{Secrets}
use Rattle.endpoint_laws.specs.Lawful.{TakesAnswerIn, TakesHelloIn}
use Rattle.log_digest.specs.declared.spot.Spot.{Spot}
use Rattle.log_digest.specs.declared.spot.Spot.TheVariants.{Searching, Holding, Closing}
use Rattle.log_digest.specs.Spots.{IsSpotOf, searching}
use Rattle.log_packets.specs.Opening.{is_sid}
use Rattle.log_packets.specs.Asked.{IsAnswer, IsHelloOf, SomeChunk, Tells}
use Rattle.log_arrivals.specs.declared.arrival.Arrival.{Arrival}
use Rattle.log_arrivals.specs.declared.arrival.Arrival.TheVariants.{Nowhere, Startup as InStartup, Session as InSession}
use Rattle.log_facts.specs.Coming.{Comes, IsSaid, IsSoughtBy, sid_under, startup_at}
use Rattle.log_facts.proofs.Arriving.{one_of, told, there}

pub not_some : {A : Type 0} (o : Option A) (a : A) → o ≡ None → o ≡ Some a → ⊥
not_some None a e f = let clash = f in absurd cc
not_some (Some x) a e f = absurd cc

pub not_both : (b : Bool) → b ≡ false → b ≡ true → ⊥
not_both true e f = absurd cc
not_both false e f = absurd cc

pub not_so : (P : Type 0) → (P → ⊥) → Tells P false
not_so P none = record { yes = λ e. absurd (not_both false refl e); no = λ p. absurd (none p) }

pub tells_like : (P Q : Type 0) (it : Bool) → (P → Q) → (Q → P) → Tells P it → Tells Q it
tells_like P Q it there back t = record { yes = λ e. there (t.yes e); no = λ q. t.no (back q) }

at_startup : (arrival : Arrival) (g : ℕ) → startup_at arrival ≡ Some g → arrival ≡ InStartup g
at_startup Nowhere g e = absurd cc
at_startup (InStartup h) g e = ap InStartup (one_of h g e)
at_startup InSession g e = absurd cc

module _ (secrets : Secrets) (setup : Setup) (past : Past) (plain : List ℕ) (arrival : Arrival) (packet : Option Whole) (sid : ℕ) (IsSo : List ℕ → Whole → Type 0) where
  -- What is said is told of.
  record IsTold (o : Option ReceiveCall) : Type 0 where
    generation : ℕ
    startup : startup_at arrival ≡ Some generation
    whole : Whole
    reads : packet ≡ Some whole
    goes : is_sid (sid_under o) sid ≡ true
    secret : List ℕ
    known : get secrets generation ≡ Some secret
    so : IsSo secret whole

  is_told : (o : Option ReceiveCall) → Comes secrets setup past o plain arrival packet → IsSaid secrets setup past o sid IsSo → IsTold o
  is_told None c s = absurd s
  is_told (Some r) c s =
      let t = told secrets setup past r plain arrival packet c s.generation sid s.packet s.opens s.reads in
      record { generation = s.generation; startup = ap startup_at t.0; whole = s.packet; reads = t.1; goes = t.2; secret = s.reads.opens.secret; known = s.reads.opens.known; so = s.so }

  is_said : (o : Option ReceiveCall) → Comes secrets setup past o plain arrival packet → (g : ℕ) (whole : Whole) → startup_at arrival ≡ Some g → packet ≡ Some whole → is_sid (sid_under o) sid ≡ true →
      ((secret : List ℕ) → get secrets g ≡ Some secret → IsSo secret whole) → IsSaid secrets setup past o sid IsSo
  is_said None c g whole e p goes so = absurd cc
  is_said (Some r) c g whole e p goes so =
      let t = there secrets setup past r plain arrival packet c g sid whole (at_startup arrival g e) p goes in
      record { generation = g; opens = t.0; packet = whole; reads = t.1; so = so t.1.opens.secret t.1.opens.known }

  module _ (o : Option ReceiveCall) (c : Comes secrets setup past o plain arrival packet) where
    pub no_startup : startup_at arrival ≡ None → Tells (IsSaid secrets setup past o sid IsSo) false
    no_startup none = not_so _ (λ s. let t = is_told o c s in not_some (startup_at arrival) t.generation none t.startup)

    pub no_packet : packet ≡ None → Tells (IsSaid secrets setup past o sid IsSo) false
    no_packet none = not_so _ (λ s. let t = is_told o c s in not_some packet t.whole none t.reads)

    pub not_under : (goes : Bool) → goes ≡ is_sid (sid_under o) sid → goes ≡ false → Tells (IsSaid secrets setup past o sid IsSo) false
    not_under goes is other = not_so _ (λ s. let t = is_told o c s in not_both goes other (is ∙ t.goes))

    pub no_secret : (g : ℕ) → startup_at arrival ≡ Some g → get secrets g ≡ None → Tells (IsSaid secrets setup past o sid IsSo) false
    no_secret g e none = not_so _ (λ s. let t = is_told o c s in
        not_some (get secrets g) t.secret none (ap (get secrets) (one_of g t.generation (sym e ∙ t.startup)) ∙ t.known))

    pub said : (g : ℕ) (whole : Whole) (goes it : Bool) → startup_at arrival ≡ Some g → packet ≡ Some whole → goes ≡ is_sid (sid_under o) sid → goes ≡ true →
        ((secret : List ℕ) → get secrets g ≡ Some secret → Tells (IsSo secret whole) it) → Tells (IsSaid secrets setup past o sid IsSo) it
    said g whole goes it e p is goes_there tells = record {
      yes = λ t. is_said o c g whole e p (sym is ∙ goes_there) (λ secret known. (tells secret known).yes t);
      no = λ s.
          let t = is_told o c s in
          let known : get secrets g ≡ Some t.secret = ap (get secrets) (one_of g t.generation (sym e ∙ t.startup)) ∙ t.known in
          (tells t.secret known).no (subst (IsSo t.secret) (one_of t.whole whole (sym t.reads ∙ p)) t.so);
    }

-- ---- answers to attempts

-- the packet answers the attempt
abbrev pub HasAnswer : Joined → List ℕ → Whole → Type 0
HasAnswer j secret packet = SomeChunk (IsAnswer secret j) (chunks_of packet) × (j.k < 2 ^ 64)

module _ (secrets : Secrets) (setup : Setup) (past : Past) (j : Joined) where
  answer_there : (o : Option ReceiveCall) → IsSaid secrets setup past o j.near (HasAnswer j) → TakesAnswerIn secrets setup past o j
  answer_there None s = absurd s
  answer_there (Some r) s = (
    s.generation,
    s.opens,
    record {
      packet = s.packet;
      reads = s.reads;
      chunk = s.so.0.chunk;
      among = s.so.0.among;
      sign = s.so.0.is.sign;
      spells = s.so.0.is.spells;
      number = s.so.1;
      signed = s.so.0.is.signed;
    },
  )

  answer_back : (o : Option ReceiveCall) → TakesAnswerIn secrets setup past o j → IsSaid secrets setup past o j.near (HasAnswer j)
  answer_back None t = absurd t
  answer_back (Some r) t = record {
    generation = t.0;
    opens = t.1;
    packet = t.2.packet;
    reads = t.2.reads;
    so = (record { chunk = t.2.chunk; among = t.2.among; is = record { sign = t.2.sign; spells = t.2.spells; signed = t.2.signed } }, t.2.number);
  }

  pub takes_answer : (o : Option ReceiveCall) (it : Bool) → Tells (IsSaid secrets setup past o j.near (HasAnswer j)) it → Tells (TakesAnswerIn secrets setup past o j) it
  takes_answer o it t = tells_like _ _ it (answer_there o) (answer_back o) t

pub answers_by : (secrets : Secrets) (j : Joined) (g : ℕ) (under : List ℕ) (whole : Whole) (it : Bool) → get secrets g ≡ Some under → j.k < 2 ^ 64 → Tells (SomeChunk (IsAnswer under j) (chunks_of whole)) it →
    (secret : List ℕ) → get secrets g ≡ Some secret → Tells (HasAnswer j secret whole) it
answers_by secrets j g under whole it known counted t secret is =
    let same : under ≡ secret = one_of under secret (sym known ∙ is) in record {
      yes = λ e. (subst (λ (s : List ℕ). SomeChunk (IsAnswer s j) (chunks_of whole)) same (t.yes e), counted);
      no = λ h. t.no (subst (λ (s : List ℕ). SomeChunk (IsAnswer s j) (chunks_of whole)) (sym same) h.0);
    }

-- ---- answers to searches

-- the packet answers what stands so
abbrev pub HasHello : Spot → List ℕ → List ℕ → List ℕ → Whole → Type 0
HasHello spot peer ni secret packet = IsSoughtBy spot peer ni (chunks_of packet)

pub other_nonce : (name tag drawn peer ni : List ℕ) (at : ℕ) (chunks : List Placed) (other : Bool) → other ≡ not (bytes_eq drawn ni) → other ≡ true → Tells (IsSoughtBy (Searching name tag drawn at) peer ni chunks) false
other_nonce name tag drawn peer ni at chunks other is e = not_so _ (λ s. not_both other (is ∙ ap not ((bytes_eq-Decides drawn ni).1 s.0)) e)

not_false : (b : Bool) → not b ≡ false → b ≡ true
not_false true e = refl
not_false false e = absurd cc

module _ (secrets : Secrets) (setup : Setup) (past : Past) (peer : List ℕ) (n near : ℕ) (ni : List ℕ) where
  hello_there : (spot : Spot) → IsSpotOf past near (Some spot) → n < 2 ^ 64 → length ni ≡ 16 → (o : Option ReceiveCall) → IsSaid secrets setup past o 0 (HasHello spot peer ni) → TakesHelloIn secrets setup past o peer n near ni
  hello_there spot is counted sized None s = absurd s
  hello_there (Holding with_peer at) is counted sized (Some r) s = absurd s.so
  hello_there (Closing thing at) is counted sized (Some r) s = absurd s.so
  hello_there (Searching name tag drawn at) is counted sized (Some r) s =
      let h = s.so.1 in
      let which : Search = record { name = drop 16 h.is.cert; tag = tag; ni = ni } in
      let same : Some (Searching name tag drawn at) ≡ Some (searching which at) = (λ i. Some (Searching (h.is.of.name_is i) tag (s.so.0 i) at)) in (
        s.generation,
        s.opens,
        record {
          packet = s.packet;
          reads = s.reads;
          chunk = h.chunk;
          among = h.among;
          tag = tag;
          cookie = h.is.cookie;
          cert = h.is.cert;
          spells = h.is.spells;
          is_cert = h.is.of.is_cert;
          peer_is = h.is.of.peer_is;
          at = at;
          stands = is.search_is which at same;
          nonce_size = sized;
          number = counted;
        },
      )

  stands_there : (spot : Option Spot) → IsSpotOf past near spot → (o : Option ReceiveCall) → TakesHelloIn secrets setup past o peer n near ni →
      (which : Search) × (at : ℕ) × (spot ≡ Some (searching which at))
  stands_there spot is None t = absurd t
  stands_there spot is (Some r) t =
      let which : Search = record { name = drop 16 t.2.cert; tag = t.2.tag; ni = ni } in
      (which, t.2.at, is.search_there which t.2.at t.2.stands)

  hello_back : (spot : Spot) → IsSpotOf past near (Some spot) → (o : Option ReceiveCall) → TakesHelloIn secrets setup past o peer n near ni → IsSaid secrets setup past o 0 (HasHello spot peer ni)
  hello_back spot is None t = absurd t
  hello_back spot is (Some r) t =
      let a = t.2 in
      let which : Search = record { name = drop 16 a.cert; tag = a.tag; ni = ni } in
      let same : searching which a.at ≡ spot = one_of (searching which a.at) spot (sym (is.search_there which a.at a.stands)) in
      record {
        generation = t.0;
        opens = t.1;
        packet = a.packet;
        reads = a.reads;
        so = subst (λ (x : Spot). IsSoughtBy x peer ni (chunks_of a.packet)) same
            (refl, record { chunk = a.chunk; among = a.among; is = record { cookie = a.cookie; cert = a.cert; spells = a.spells; of = record { is_cert = a.is_cert; name_is = refl; peer_is = a.peer_is } } });
      }

  -- nothing stands there
  pub no_search : (spot : Option Spot) → IsSpotOf past near spot → spot ≡ None → (o : Option ReceiveCall) → Tells (TakesHelloIn secrets setup past o peer n near ni) false
  no_search spot is none o = not_so _ (λ t. let s = stands_there spot is o t in not_some spot (searching s.0 s.1) none s.2)

  pub takes_hello : (found : Option Spot) → IsSpotOf past near found → (spot : Spot) → found ≡ Some spot → n < 2 ^ 64 → length ni ≡ 16 → (o : Option ReceiveCall) (it : Bool) →
      Tells (IsSaid secrets setup past o 0 (HasHello spot peer ni)) it → Tells (TakesHelloIn secrets setup past o peer n near ni) it
  takes_hello found is spot e counted sized o it t =
      let here : IsSpotOf past near (Some spot) = subst (IsSpotOf past near) e is in
      tells_like _ _ it (hello_there spot here counted sized o) (hello_back spot here o) t

  -- what refuses whatever is asked of the packet
  pub refuses_hello : (o : Option ReceiveCall) → Tells (IsSaid secrets setup past o 0 (λ secret packet. Unit {0})) false → Tells (TakesHelloIn secrets setup past o peer n near ni) false
  refuses_hello None t = not_so _ (λ h. absurd h)
  refuses_hello (Some r) t = not_so _ (λ h. not_both false refl (t.no (record { generation = h.0; opens = h.1; packet = h.2.packet; reads = h.2.reads; so = tt })))
