-- What an end keeps of the generations in which it sends and takes, by what it did: the stages of its attempts, and what answers repeated keyings.
use Rattle.std.proofs.Common.{◌≡◌, ℕ, List, [], ◌∷◌, length, drop, cond, Bool, if◌then◌else◌, Option, Some, None, Ok, inl, inr, ◌⊎◌, refl, sym, ap, subst, ◌∙◌}
use Rattle.std.specs.Ordering.{nat_cmp}
use Rattle.std.specs.Cmp.Lexicographic.{slice_cmp}
use Rattle.std.specs.FinMap.{get, insert, remove, get-empty}
use Rattle.rtmfp_base.proofs.Maps.{none_is_some, found_inserted, found_left}
use Rattle.crypto_profile.specs.declared.keys.Context.{Context}
use Rattle.crypto_profile.specs.declared.keys.Context.TheVariants.{Startup}
use Rattle.crypto_profile.specs.Sealing.{sealed_in, Opens}
use Rattle.packet_scramble.specs.Datagram.{datagram}
use Rattle.rtmfp_packet.specs.Whole.{Whole}
use Rattle.rtmfp_packet.specs.Reading.{PacketReading}
use Rattle.rtmfp_packet.specs.Walk.{Placed}
use Rattle.rtmfp_chunks.specs.Chunk.{IIKeying, Spells}
use Rattle.rtmfp_forms.specs.Address.{AddressParts}
use Rattle.glare_core.specs.declared.facts.Fact.{Fact}
use Rattle.glare_core.specs.declared.facts.Fact.TheVariants.{Started, Born, Confirmed}
use Rattle.glare_core.specs.declared.facts.Held.{Held}
use Rattle.glare_core.specs.declared.facts.Held.TheVariants.{Opening, HalfOpen, KeptAsResponder}
use Rattle.glare_core.specs.declared.facts.Joined.{Joined}
use Rattle.glare_core.specs.Standing.{peer_of, confirmed, held}
use Rattle.glare_core.proofs.Tails.{same_end}
use Rattle.startup.specs.declared.kept.KeptKeying.{KeptKeying}
use Rattle.startup.specs.declared.attempt.Stage.{Stage}
use Rattle.startup.specs.declared.attempt.Stage.TheVariants.{Hello, Keying}
use Rattle.startup.specs.State.{AttemptState, Attempts, KeptKeyings, StartupState}
use Rattle.startup.proofs.Prints.{get_put, get_taken}
use Rattle.session_core.specs.declared.stage.Role.TheVariants.{Responder}
use Rattle.endpoint_model.specs.declared.entry.Entry.TheVariants.{Fact as FactEntry, Sought, Out}
use Rattle.endpoint_model.specs.Views.{Sending}
use Rattle.endpoint_model.specs.Event.{Setup}
use Rattle.endpoint_model.specs.Keying.{IsAmong, chunks_of}
use Rattle.endpoint_model.specs.State.{State, fresh}
use Rattle.endpoint_laws.specs.Past.{Past, Stamped, stamped, facts_of, fact_and, fact_done, out_done, sought_done, GoesOn, started_id, sought_id, last_call, open_of, seek_of, opened_tag, sought_tag, tag_if, tag_of}
use Rattle.endpoint_laws.specs.Contexts.{Secrets, BegunUnder, EventOpenedIn, IsKeying, IsKeyingOf, KeyingWent, IsInHello}
use Rattle.endpoint_laws.specs.Groups.{IsStageOf}
use Rattle.endpoint_laws.specs.Lawful.{IsBornHere}
use Rattle.endpoint_laws.proofs.Begun.{begun_after, begun_on}
use Rattle.endpoint_laws.proofs.OutHeld.{AreSized, held_sized}
use Rattle.endpoint_laws.proofs.Resealed.{opened_plain}
use Rattle.endpoint_model.proofs.Members.{tested}

-- What answers repeated keyings is of a session that is held, and of the generation in which it was born.
pub record IsKeptFrom (secrets : Secrets) (setup : Setup) (past : Past) (peer : List ℕ) (kept : KeptKeying) : Type 0 where
  pub j : Joined
  pub is_held : IsBornHere (held peer (facts_of past)) j
  pub born : BegunUnder secrets setup (HalfOpen j) kept.generation past

abbrev pub StagesAre : Secrets → Past → Attempts → Type 0
StagesAre secrets past attempts = (near : ℕ) (a : AttemptState) → get attempts near ≡ Some a → IsStageOf secrets past near a.stage

abbrev pub KeptAre : Secrets → Setup → Past → KeptKeyings → Type 0
KeptAre secrets setup past kept = (peer : List ℕ) (k : KeptKeying) → get kept peer ≡ Some k → IsKeptFrom secrets setup past peer k

-- Each attempt and each search has the tag that was drawn for it.
abbrev pub TagsAre : Past → Attempts → Type 0
TagsAre past attempts = (near : ℕ) (a : AttemptState) → get attempts near ≡ Some a → tag_of near past ≡ Some a.tag

pub record Staged (secrets : Secrets) (setup : Setup) (past : Past) (s : State) : Type 0 where
  pub tags : TagsAre past s.startup.attempts
  pub attempts : StagesAre secrets past s.startup.attempts
  pub kept : KeptAre secrets setup past s.startup.kept

-- A new end has done nothing.
pub staged_fresh : (secrets : Secrets) (setup : Setup) → Staged secrets setup [] (fresh setup)
staged_fresh secrets setup =
    let s : State = fresh setup in
    record {
      tags = λ near a e. absurd (none_is_some a (get s.startup.attempts near) (get-empty nat_cmp near) e);
      attempts = λ near a e. absurd (none_is_some a (get s.startup.attempts near) (get-empty nat_cmp near) e);
      kept = λ peer kept e. absurd (none_is_some kept (get s.startup.kept peer) (get-empty (slice_cmp nat_cmp) peer) e);
    }

-- ---- stages

-- It is no keying of an attempt under this session ID, and begins none.
pub record IsBeside (secrets : Secrets) (near : ℕ) (x : Stamped) : Type 0 where
  pub no_keying : (other : ℕ) → IsKeying secrets near other (out_done x.what) → ⊥
  pub not_started : GoesOn near (started_id (fact_done x.what))
  pub not_sought : GoesOn near (sought_id (sought_done x.what))

module _ (secrets : Secrets) (past : Past) (near : ℕ) where
  went_beside : (x : Stamped) (generation : ℕ) → IsBeside secrets near x → KeyingWent secrets near generation past → KeyingWent secrets near generation (x ∷ past)
  went_beside x generation beside went = inr (beside.no_keying, beside.not_started, beside.not_sought, went)

  went_before : (x : Stamped) (generation : ℕ) → IsBeside secrets near x → KeyingWent secrets near generation (x ∷ past) → KeyingWent secrets near generation past
  went_before x generation beside (inl is) = absurd (beside.no_keying generation is)
  went_before x generation beside (inr p) = p.3

  pub stage_beside : (x : Stamped) → IsBeside secrets near x → (stage : Stage) → IsStageOf secrets past near stage → IsStageOf secrets (x ∷ past) near stage
  stage_beside x beside Hello is = λ generation went. is generation (went_before x generation beside went)
  stage_beside x beside (Keying at cookie under) is = (went_beside x under.generation beside is.0, is.1)

  -- with what begins an attempt or a search it is in the hello stage
  not_on : (o : Option ℕ) → o ≡ Some near → GoesOn near o → ⊥
  not_on None is on = cc
  not_on (Some id) is on = on (let same : id ≡ near = cc in same)

  pub hello_started : (x : Stamped) → out_done x.what ≡ None → started_id (fact_done x.what) ≡ Some near → IsInHello secrets near (x ∷ past)
  hello_started x no_out started generation (inl is) = subst (IsKeying secrets near generation) no_out is
  hello_started x no_out started generation (inr p) = not_on (started_id (fact_done x.what)) started p.1

  pub hello_sought : (x : Stamped) → out_done x.what ≡ None → sought_id (sought_done x.what) ≡ Some near → IsInHello secrets near (x ∷ past)
  hello_sought x no_out sought generation (inl is) = subst (IsKeying secrets near generation) no_out is
  hello_sought x no_out sought generation (inr p) = not_on (sought_id (sought_done x.what)) sought p.2

goes_on_none : (near : ℕ) (o : Option ℕ) → o ≡ None → GoesOn near o
goes_on_none near o is = subst (GoesOn near) (sym is) tt

-- what is no datagram and begins nothing
pub beside_quiet : (secrets : Secrets) (near : ℕ) (x : Stamped) → out_done x.what ≡ None → started_id (fact_done x.what) ≡ None → sought_id (sought_done x.what) ≡ None → IsBeside secrets near x
beside_quiet secrets near x no_out no_start no_search = record {
  no_keying = λ other is. subst (IsKeying secrets near other) no_out is;
  not_started = goes_on_none near (started_id (fact_done x.what)) no_start;
  not_sought = goes_on_none near (sought_id (sought_done x.what)) no_search;
}

-- what is no datagram, and begins something under another session ID
pub beside_begun : (secrets : Secrets) (near : ℕ) (x : Stamped) → out_done x.what ≡ None → GoesOn near (started_id (fact_done x.what)) → GoesOn near (sought_id (sought_done x.what)) → IsBeside secrets near x
beside_begun secrets near x no_out not_started not_sought = record {
  no_keying = λ generation is. subst (IsKeying secrets near generation) no_out is;
  not_started = not_started;
  not_sought = not_sought;
}

module _ (secrets : Secrets) (past : Past) (attempts : Attempts) (all : StagesAre secrets past attempts) where
  pub stages_beside : (x : Stamped) → ((near : ℕ) → IsBeside secrets near x) → StagesAre secrets (x ∷ past) attempts
  stages_beside x beside near a e = stage_beside secrets past near x (beside near) a.stage (all near a e)

  pub stages_left : (near : ℕ) → StagesAre secrets past (remove attempts near)
  stages_left near q a e = all q a (found_left attempts near q a e).1

  pub stages_put : (near : ℕ) (a : AttemptState) → IsStageOf secrets past near a.stage → StagesAre secrets past (insert attempts near a)
  stages_put near a is q b e = elim (found_inserted attempts near a q b e) [
    | inl d ↦ subst (λ (n : ℕ). IsStageOf secrets past n b.stage) (sym d.0) (subst (λ (x : AttemptState). IsStageOf secrets past near x.stage) d.1 is)
    | inr d ↦ all q b d.1
  ]

  -- an attempt or a search that begins, where the others go on
  pub stages_begun : (near : ℕ) (a : AttemptState) (x : Stamped) → a.stage ≡ Hello → IsInHello secrets near (x ∷ past) → ((q : ℕ) → (q ≡ near → ⊥) → IsBeside secrets q x) →
      StagesAre secrets (x ∷ past) (insert attempts near a)
  stages_begun near a x hello is others q b e = elim (found_inserted attempts near a q b e) [
    | inl d ↦ subst (λ (n : ℕ). IsStageOf secrets (x ∷ past) n b.stage) (sym d.0) (subst (λ (y : AttemptState). IsStageOf secrets (x ∷ past) near y.stage) d.1 (subst (IsStageOf secrets (x ∷ past) near) (sym hello) is))
    | inr d ↦ stage_beside secrets past q x (others q d.0) b.stage (all q b d.1)
  ]

-- ---- tags

-- with what begins nothing
tag_stays : (near : ℕ) (x : Stamped) (past : Past) → started_id (fact_done x.what) ≡ None → sought_id (sought_done x.what) ≡ None → tag_of near (x ∷ past) ≡ tag_of near past
tag_stays near x past no_start no_search =
    ap (λ (o : Option ℕ). tag_if near o (sought_tag (seek_of (last_call past)) (tag_of near past)) (tag_if near (started_id (fact_done x.what)) (opened_tag (open_of (last_call past)) (tag_of near past)) (tag_of near past))) no_search
    ∙ ap (λ (o : Option ℕ). tag_if near o (opened_tag (open_of (last_call past)) (tag_of near past)) (tag_of near past)) no_start

-- with what begins something under this session ID, and under another
tag_here : (near : ℕ) (new before : Option (List ℕ)) → tag_if near (Some near) new before ≡ new
tag_here near new before = elim (tested near near) [
  | inl same ↦ ap (λ (b : Bool). if b then new else before) same.1
  | inr other ↦ absurd (other.0 refl)
]

tag_beside : (near id : ℕ) (new before : Option (List ℕ)) → (near ≡ id → ⊥) → tag_if near (Some id) new before ≡ before
tag_beside near id new before apart = elim (tested id near) [
  | inl same ↦ absurd (apart (sym same.0))
  | inr other ↦ ap (λ (b : Bool). if b then new else before) other.1
]

-- an attempt, and a search, that begin
pub tag_started : (near now : ℕ) (peer : List ℕ) (n : ℕ) (ni : List ℕ) (past : Past) → tag_of near (stamped now (FactEntry (Started peer n near ni)) ∷ past) ≡ opened_tag (open_of (last_call past)) (tag_of near past)
tag_started near now peer n ni past = tag_here near (opened_tag (open_of (last_call past)) (tag_of near past)) (tag_of near past)

pub tag_sought : (near now : ℕ) (name : List ℕ) (past : Past) → tag_of near (stamped now (Sought near name) ∷ past) ≡ sought_tag (seek_of (last_call past)) (tag_of near past)
tag_sought near now name past = tag_here near (sought_tag (seek_of (last_call past)) (tag_of near past)) (tag_of near past)

module _ (past : Past) (attempts : Attempts) (all : TagsAre past attempts) where
  pub tags_quiet : (x : Stamped) → started_id (fact_done x.what) ≡ None → sought_id (sought_done x.what) ≡ None → TagsAre (x ∷ past) attempts
  tags_quiet x no_start no_search near a e = tag_stays near x past no_start no_search ∙ all near a e

  pub tags_left : (near : ℕ) → TagsAre past (remove attempts near)
  tags_left near q a e = all q a (found_left attempts near q a e).1

  -- an attempt that keeps its tag
  pub tags_put : (near : ℕ) (old new : AttemptState) → get attempts near ≡ Some old → new.tag ≡ old.tag → TagsAre past (insert attempts near new)
  tags_put near old new there tag q b e = elim (found_inserted attempts near new q b e) [
    | inl d ↦ ap (λ (n : ℕ). tag_of n past) d.0 ∙ all near old there ∙ ap (λ (t : List ℕ). Some t) (sym tag ∙ ap (λ (x : AttemptState). x.tag) d.1)
    | inr d ↦ all q b d.1
  ]

  -- one that begins, or that a search becomes
  tags_begun : (x : Stamped) (near : ℕ) (a : AttemptState) → tag_of near (x ∷ past) ≡ Some a.tag → ((q : ℕ) → (q ≡ near → ⊥) → tag_of q (x ∷ past) ≡ tag_of q past) → TagsAre (x ∷ past) (insert attempts near a)
  tags_begun x near a here others q b e = elim (found_inserted attempts near a q b e) [
    | inl d ↦ ap (λ (n : ℕ). tag_of n (x ∷ past)) d.0 ∙ here ∙ ap (λ (y : AttemptState). Some y.tag) d.1
    | inr d ↦ others q d.0 ∙ all q b d.1
  ]

  pub tags_started : (near now : ℕ) (peer : List ℕ) (n : ℕ) (ni : List ℕ) (a : AttemptState) → opened_tag (open_of (last_call past)) (tag_of near past) ≡ Some a.tag →
      TagsAre (stamped now (FactEntry (Started peer n near ni)) ∷ past) (insert attempts near a)
  tags_started near now peer n ni a is =
      tags_begun (stamped now (FactEntry (Started peer n near ni))) near a (tag_started near now peer n ni past ∙ is) (λ q other. tag_beside q near (opened_tag (open_of (last_call past)) (tag_of q past)) (tag_of q past) other)

  pub tags_sought : (near now : ℕ) (name : List ℕ) (a : AttemptState) → sought_tag (seek_of (last_call past)) (tag_of near past) ≡ Some a.tag → TagsAre (stamped now (Sought near name) ∷ past) (insert attempts near a)
  tags_sought near now name a is =
      tags_begun (stamped now (Sought near name)) near a (tag_sought near now name past ∙ is) (λ q other. tag_beside q near (sought_tag (seek_of (last_call past)) (tag_of q past)) (tag_of q past) other)

-- the stages of all attempts but one
abbrev pub StagesBeside : Secrets → Past → Attempts → ℕ → Type 0
StagesBeside secrets past attempts near = (q : ℕ) (a : AttemptState) → (q ≡ near → ⊥) → get attempts q ≡ Some a → IsStageOf secrets past q a.stage

-- ---- datagrams that go out

-- each initiator's keying in the packet has this session ID
abbrev pub InitiatorsAre : (ℕ → Type 0) → List ℕ → Type 0
InitiatorsAre P plain = (packet : Whole) → PacketReading plain (Ok packet) → (c : Placed) (near : ℕ) (cookie cert part sign : List ℕ) → IsAmong c (chunks_of packet) →
    Spells (IIKeying near cookie cert part sign) c.kind c.payload → P near

one_secret : (a b : List ℕ) → Some a ≡ Some b → a ≡ b
one_secret a b e = cc

one_generation : (a b : ℕ) → Startup a ≡ Startup b → a ≡ b
one_generation a b e = cc

-- The datagram is this sealed part in the startup context of a generation.
pub record IsStartupOut (secrets : Secrets) (generation sid : ℕ) (plain : List ℕ) (sent : Sending) : Type 0 where
  pub context : sent.context ≡ Startup generation
  pub secret : List ℕ
  pub known : get secrets generation ≡ Some secret
  pub number : List ℕ
  pub size : length number ≡ 16
  pub is : sent.datagram ≡ datagram sid (sealed_in secret (Startup generation) sid number plain)

-- a keying in it is in its plain packet
keying_says : (secrets : Secrets) (P : ℕ → Type 0) (generation sid : ℕ) (plain : List ℕ) (sent : Sending) → IsStartupOut secrets generation sid plain sent → InitiatorsAre P plain → (near other : ℕ) →
    IsKeyingOf secrets near other sent → P near
keying_says secrets P generation sid plain sent out says near other k =
    let same : other ≡ generation = one_generation other generation (sym k.context ∙ out.context) in
    let under = k.reads.opens in
    let secret_is : under.secret ≡ out.secret = one_secret under.secret out.secret (sym under.known ∙ ap (get secrets) same ∙ out.known) in
    let part : List ℕ = sealed_in out.secret (Startup generation) sid out.number plain in
    let opens : Opens out.secret (Startup generation) k.sid part k.reads.plain =
    subst (λ (d : List ℕ). Opens out.secret (Startup generation) k.sid (drop 4 d) k.reads.plain) out.is
    (subst (λ (g : ℕ). Opens out.secret (Startup g) k.sid (drop 4 sent.datagram) k.reads.plain) same
    (subst (λ (x : List ℕ). Opens x (Startup other) k.sid (drop 4 sent.datagram) k.reads.plain) secret_is under.opens)) in
    let plain_is : k.reads.plain ≡ plain = opened_plain out.secret generation sid k.sid out.number plain k.reads.plain out.size opens in
    says k.packet (subst (λ (p : List ℕ). PacketReading p (Ok k.packet)) plain_is k.reads.reads) k.chunk near k.cookie k.cert k.part k.sign k.among k.spells

module _ (secrets : Secrets) (now : ℕ) (to : AddressParts) (bytes : List ℕ) (context : Context) where
  abbrev sending : Sending
  sending = record { to = to; datagram = bytes; context = context }

  abbrev out : Stamped
  out = stamped now (Out to bytes context)

  -- in a session
  pub beside_session : ((generation : ℕ) → context ≡ Startup generation → ⊥) → (near : ℕ) → IsBeside secrets near out
  beside_session not_startup near = record { no_keying = λ other k. not_startup other k.context; not_started = tt; not_sought = tt }

  module _ (generation sid : ℕ) (plain : List ℕ) (is : IsStartupOut secrets generation sid plain sending) where
    -- in the startup context, with no keying of an initiator
    pub beside_light : InitiatorsAre (λ near. ⊥) plain → (near : ℕ) → IsBeside secrets near out
    beside_light says near = record { no_keying = λ other k. keying_says secrets (λ n. ⊥) generation sid plain sending is says near other k; not_started = tt; not_sought = tt }

    -- or with one of another attempt
    pub beside_other : (mine : ℕ) → InitiatorsAre (λ near. near ≡ mine) plain → (near : ℕ) → (near ≡ mine → ⊥) → IsBeside secrets near out
    beside_other mine says near other = record { no_keying = λ g k. other (keying_says secrets (λ n. n ≡ mine) generation sid plain sending is says near g k); not_started = tt; not_sought = tt }

-- ---- what answers repeated keyings

-- what is held with another peer stays
pub held_beside : (p : List ℕ) (fact : Fact) (earlier : List Fact) → (peer_of fact ≡ p → ⊥) → held p (fact ∷ earlier) ≡ held p earlier
held_beside p fact earlier other = elim (same_end (peer_of fact) p) [
  | inl d ↦ absurd (other d.0)
  | inr d ↦ rw d.1 refl
]

born_peer : (p : List ℕ) (facts : List Fact) (j : Joined) → AreSized facts → IsBornHere (held p facts) j → j.peer ≡ p
born_peer p facts j sized (inl half) = (held_sized p facts (HalfOpen j) sized half).3
born_peer p facts j sized (inr kept) = (held_sized p facts (KeptAsResponder j) sized kept).3

-- an attempt wasn't born here
born_no_attempt : (o : Option Held) (j : Joined) (n near : ℕ) (ni : List ℕ) → o ≡ Some (Opening n near ni) → IsBornHere o j → ⊥
born_no_attempt o j n near ni is (inl half) = cc
born_no_attempt o j n near ni is (inr kept) = cc

born_something : (o : Option Held) (j : Joined) → o ≡ None → IsBornHere o j → ⊥
born_something o j is (inl half) = cc
born_something o j is (inr kept) = cc

confirmed_here : (o : Option Held) (j : Joined) → IsBornHere o j → IsBornHere (confirmed o) j
confirmed_here o j (inl half) = inr (ap confirmed half)
confirmed_here o j (inr kept) = inr (ap confirmed kept)

-- what is found among them after one is put there, or after one is gone
pub kept_found : (m : KeptKeyings) (p q : List ℕ) (k v : KeptKeying) → get (insert m p k) q ≡ Some v → ((p ≡ q) × (k ≡ v)) ⊎ ((p ≡ q → ⊥) × (get m q ≡ Some v))
kept_found m p q k v e = elim (same_end p q) [
  | inl d ↦ (let here : Some k ≡ Some v = sym (ap (λ (b : Bool). cond b (Some k) (get m q)) d.1) ∙ sym (get_put m p k q) ∙ e in inl (d.0, cc))
  | inr d ↦ inr (d.0, sym (ap (λ (b : Bool). cond b (Some k) (get m q)) d.1) ∙ sym (get_put m p k q) ∙ e)
]

pub kept_gone : (m : KeptKeyings) (p q : List ℕ) (v : KeptKeying) → get (remove m p) q ≡ Some v → (p ≡ q → ⊥) × (get m q ≡ Some v)
kept_gone m p q v e = elim (same_end p q) [
  | inl d ↦ (let clash : None ≡ Some v = sym (ap (λ (b : Bool). cond b None (get m q)) d.1) ∙ sym (get_taken m p q) ∙ e in absurd (cc))
  | inr d ↦ (d.0, sym (ap (λ (b : Bool). cond b None (get m q)) d.1) ∙ sym (get_taken m p q) ∙ e)
]

module _ (secrets : Secrets) (setup : Setup) (past : Past) where
  kept_quiet : (x : Stamped) → fact_done x.what ≡ None → (peer : List ℕ) (kept : KeptKeying) → IsKeptFrom secrets setup past peer kept → IsKeptFrom secrets setup (x ∷ past) peer kept
  kept_quiet x no_fact peer kept k = record {
    j = k.j;
    is_held = subst (λ (o : Option Fact). IsBornHere (held peer (fact_and o (facts_of past))) k.j) (sym no_fact) k.is_held;
    born = begun_on secrets setup (HalfOpen k.j) kept.generation past x no_fact k.born;
  }

  -- a fact of another peer
  kept_other : AreSized (facts_of past) → (now : ℕ) (fact : Fact) (peer : List ℕ) (kept : KeptKeying) → (peer_of fact ≡ peer → ⊥) → IsKeptFrom secrets setup past peer kept →
      IsKeptFrom secrets setup (stamped now (FactEntry fact) ∷ past) peer kept
  kept_other sized now fact peer kept other k = record {
    j = k.j;
    is_held = subst (λ (o : Option Held). IsBornHere o k.j) (sym (held_beside peer fact (facts_of past) other)) k.is_held;
    born = begun_after secrets setup Responder k.j kept.generation past now fact (λ is. other (ap peer_of is ∙ born_peer peer (facts_of past) k.j sized k.is_held)) k.born;
  }

  kept_confirmed : AreSized (facts_of past) → (now : ℕ) (p : List ℕ) (near : ℕ) (peer : List ℕ) (kept : KeptKeying) → IsKeptFrom secrets setup past peer kept →
      IsKeptFrom secrets setup (stamped now (FactEntry (Confirmed p near)) ∷ past) peer kept
  kept_confirmed sized now p near peer kept k = elim (same_end p peer) [
    | inl d ↦ record {
      j = k.j;
      is_held = rw d.1 (confirmed_here (held peer (facts_of past)) k.j k.is_held);
      born = begun_after secrets setup Responder k.j kept.generation past now (Confirmed p near) (λ is. cc) k.born;
    }
    | inr d ↦ kept_other sized now (Confirmed p near) peer kept d.0 k
  ]

module _ (secrets : Secrets) (setup : Setup) (past : Past) (kept : KeptKeyings) (all : KeptAre secrets setup past kept) where
  pub kept_beside : (x : Stamped) → fact_done x.what ≡ None → KeptAre secrets setup (x ∷ past) kept
  kept_beside x no_fact peer k e = kept_quiet secrets setup past x no_fact peer k (all peer k e)

  module _ (sized : AreSized (facts_of past)) (now : ℕ) where
    pub kept_same : (p : List ℕ) (near : ℕ) → KeptAre secrets setup (stamped now (FactEntry (Confirmed p near)) ∷ past) kept
    kept_same p near peer k e = kept_confirmed secrets setup past sized now p near peer k (all peer k e)

    -- a fact of a peer of which nothing is kept
    kept_fact : (fact : Fact) → ((k : KeptKeying) → IsKeptFrom secrets setup past (peer_of fact) k → ⊥) → KeptAre secrets setup (stamped now (FactEntry fact) ∷ past) kept
    kept_fact fact none peer k e = kept_other secrets setup past sized now fact peer k (λ same. none k (subst (λ (p : List ℕ). IsKeptFrom secrets setup past p k) (sym same) (all peer k e))) (all peer k e)

    -- of an attempt, or of a peer with which nothing is held
    pub kept_attempt : (fact : Fact) (n near : ℕ) (ni : List ℕ) → held (peer_of fact) (facts_of past) ≡ Some (Opening n near ni) → KeptAre secrets setup (stamped now (FactEntry fact) ∷ past) kept
    kept_attempt fact n near ni is = kept_fact fact (λ k from. born_no_attempt (held (peer_of fact) (facts_of past)) from.j n near ni is from.is_held)

    pub kept_nothing : (fact : Fact) → held (peer_of fact) (facts_of past) ≡ None → KeptAre secrets setup (stamped now (FactEntry fact) ∷ past) kept
    kept_nothing fact is = kept_fact fact (λ k from. born_something (held (peer_of fact) (facts_of past)) from.j is from.is_held)

    -- of the peer whose keying is forgotten
    pub kept_ended : (fact : Fact) → KeptAre secrets setup (stamped now (FactEntry fact) ∷ past) (remove kept (peer_of fact))
    kept_ended fact peer k e = let found = kept_gone kept (peer_of fact) peer k e in kept_other secrets setup past sized now fact peer k found.0 (all peer k found.1)

-- A session is born, before which another thing with its peer may end.
module _ (secrets : Secrets) (setup : Setup) (past : Past) (kept : KeptKeyings) (now : ℕ) (j : Joined) where
  abbrev pub KeptBut : Past → Type 0
  KeptBut p = (peer : List ℕ) (k : KeptKeying) → (j.peer ≡ peer → ⊥) → get kept peer ≡ Some k → IsKeptFrom secrets setup p peer k

  pub kept_but : KeptAre secrets setup past kept → KeptBut past
  kept_but all peer k other e = all peer k e

  pub kept_but_ended : AreSized (facts_of past) → (fact : Fact) → peer_of fact ≡ j.peer → KeptBut past → KeptBut (stamped now (FactEntry fact) ∷ past)
  kept_but_ended sized fact same all peer k other e = kept_other secrets setup past sized now fact peer k (λ is. other (sym same ∙ is)) (all peer k other e)

  pub kept_born : AreSized (facts_of past) → (new : KeptKeying) → EventOpenedIn secrets setup past new.generation → KeptBut past → KeptAre secrets setup (stamped now (FactEntry (Born j)) ∷ past) (insert kept j.peer new)
  kept_born sized new opened all peer k e = elim (kept_found kept j.peer peer new k e) [
    | inl d ↦ subst (λ (v : KeptKeying). IsKeptFrom secrets setup (stamped now (FactEntry (Born j)) ∷ past) peer v) d.1
        (subst (λ (p : List ℕ). IsKeptFrom secrets setup (stamped now (FactEntry (Born j)) ∷ past) p new) d.0
        (record {
          j = j;
          is_held = inl (elim (same_end j.peer j.peer) [ inl x ↦ rw x.1 refl | inr x ↦ absurd (x.0 refl) ]);
          born = inl (refl, opened);
        }))
    | inr d ↦ kept_other secrets setup past sized now (Born j) peer k d.0 (all peer k d.0 d.1)
  ]

-- ---- both

module _ (secrets : Secrets) (setup : Setup) (past : Past) (s : State) (staged : Staged secrets setup past s) where
  -- what is neither a datagram nor a fact, and begins no search
  pub staged_quiet : (x : Stamped) → out_done x.what ≡ None → fact_done x.what ≡ None → sought_done x.what ≡ None → Staged secrets setup (x ∷ past) s
  staged_quiet x no_out no_fact no_search = record {
    tags = tags_quiet past s.startup.attempts staged.tags x (ap started_id no_fact) (ap sought_id no_search);
    attempts = stages_beside secrets past s.startup.attempts staged.attempts x (λ near. beside_quiet secrets near x no_out (ap started_id no_fact) (ap sought_id no_search));
    kept = kept_beside secrets setup past s.startup.kept staged.kept x no_fact;
  }

  -- a datagram that is no keying of an attempt
  pub staged_out : (now : ℕ) (to : AddressParts) (bytes : List ℕ) (context : Context) → ((near : ℕ) → IsBeside secrets near (stamped now (Out to bytes context))) → Staged secrets setup (stamped now (Out to bytes context) ∷ past) s
  staged_out now to bytes context beside = record {
    tags = tags_quiet past s.startup.attempts staged.tags (stamped now (Out to bytes context)) refl refl;
    attempts = stages_beside secrets past s.startup.attempts staged.attempts (stamped now (Out to bytes context)) beside;
    kept = kept_beside secrets setup past s.startup.kept staged.kept (stamped now (Out to bytes context)) refl;
  }

-- where what is kept of startup is the same
pub staged_alike : (secrets : Secrets) (setup : Setup) (past : Past) (s t : State) → Staged secrets setup past s → t.startup ≡ s.startup → Staged secrets setup past t
staged_alike secrets setup past s t staged same = record {
  tags = λ near a e. staged.tags near a (ap (λ (x : StartupState). get x.attempts near) (sym same) ∙ e);
  attempts = λ near a e. staged.attempts near a (ap (λ (x : StartupState). get x.attempts near) (sym same) ∙ e);
  kept = λ peer k e. staged.kept peer k (ap (λ (x : StartupState). get x.kept peer) (sym same) ∙ e);
}
