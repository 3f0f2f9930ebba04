-- Initiators' keyings that go out, by what is kept.
use Rattle.std.proofs.Common.{ℕ, List, [], ◌∷◌, ◌≡◌, ◌≤◌, ◌&&◌, inl, inr, refl, sym, ap, subst, Bool, true, false, if◌then◌else◌, nat_lt, length, Option, Some, None, Ok, ◌∙◌}
use Rattle.std.specs.FinMap.{get}
use Rattle.std.specs.Str.{bytes_eq}
use Rattle.std.proofs.lemmas.Slice.Eq.{bytes_eq-Decides}
use Rattle.rtmfp_forms.proofs.Places.{first_true, second_true, both_true}
use Rattle.crypto_profile.specs.declared.keys.Context.{Context}
use Rattle.crypto_profile.specs.declared.keys.Context.TheVariants.{Startup, Session}
use Rattle.packet_scramble.specs.Datagram.{sid_of}
use Rattle.rtmfp_packet.specs.Reading.{PacketReading}
use Rattle.glare_core.specs.declared.facts.Held.{Held}
use Rattle.glare_core.specs.declared.facts.Held.TheVariants.{Opening, HalfOpen, KeptAsResponder, KeptAsInitiator}
use Rattle.glare_core.specs.Standing.{held}
use Rattle.glare_core.specs.Things.{near_of}
use Rattle.endpoint_model.specs.Event.{Setup, ReceiveCall as ReceiveCallOf, receive_in}
use Rattle.endpoint_model.specs.Keying.{initiator_part}
use Rattle.endpoint_laws.specs.Past.{Past, before_event, facts_of}
use Rattle.endpoint_laws.specs.Contexts.{Secrets, HeldUnder, OpensFirst, OpensUnder, startup_contexts}
use Rattle.endpoint_laws.specs.Lawful.{IsTagged, KeyingGoesIn, KeyingOfAttempt, TakesHelloOf}
use Rattle.log_values.specs.declared.log.LoggedCall.{LoggedCall}
use Rattle.log_values.specs.declared.log.LoggedCall.TheVariants.{Receive as ReceiveCall}
use Rattle.log_values.specs.Events.{call_of}
use Rattle.log_digest.specs.declared.spot.Spot.{Spot}
use Rattle.log_digest.specs.declared.spot.Spot.TheVariants.{Searching, Holding, Closing}
use Rattle.log_contexts.specs.Kept.{keying_at, tag_at}
use Rattle.log_contexts.specs.Lowest.{IsLowest}
use Rattle.log_contexts.proofs.Standing.{held_spot}
use Rattle.log_contexts.proofs.Tagged.{tagged_tell}
use Rattle.log_arrivals.specs.declared.arrival.Arrival.TheVariants.{Startup as InStartup}
use Rattle.log_arrivals.specs.Arrivals.{ArrivesIn, StartsAt}
use Rattle.log_packets.specs.Asked.{InitiatorFields}
use Rattle.log_packets.specs.Opening.{is_sid, sid_in}
use Rattle.log_packets.proofs.OpenedReads.{opens_under_its_own}
use Rattle.log_outs.specs.declared.sender.Sender.{Sender}
use Rattle.log_outs.specs.declared.sender.Cause.{Cause}
use Rattle.log_outs.specs.declared.attempts.Attempt.{Attempt}
use Rattle.log_outs.specs.Standing.{attempt_in, attempt_under, attempt_at}
use Rattle.log_outs.specs.Keyings.{AttemptMay, GoesIn, InitiatorMay, TakesHello, TakesItsHello, is_to_zero}
use Rattle.log_outs.specs.Outs.{IsCauseOf, IsSenderOf}
use Rattle.log_outs.proofs.Ways.{same_number}

attempt_one : (a b : Attempt) → Some a ≡ Some b → a ≡ b
attempt_one a b e = cc

none_some : {A : Type 0} (a : A) → None ≡ Some a → ⊥
none_some a e = absurd cc

-- ---- a datagram under session ID 0

zero_is : (bytes : List ℕ) → is_sid (sid_in bytes) 0 ≡ true → sid_of bytes ≡ 0
zero_is bytes e = by (nat_lt (length bytes) 36) e
  where
    by : (short : Bool) → is_sid (if short then None else Some (sid_of bytes)) 0 ≡ true → sid_of bytes ≡ 0
    by true f = absurd cc
    by false f = same_number (sid_of bytes) 0 f

is_zero : (bytes : List ℕ) → sid_in bytes ≡ Some 0 → is_sid (sid_in bytes) 0 ≡ true
is_zero bytes e = ap (λ (o : Option ℕ). is_sid o 0) e

opens_some : (secrets : Secrets) (contexts : List Context) (sid : ℕ) (datagram : List ℕ) (context : Context) (plain : List ℕ) → OpensFirst secrets contexts sid datagram context plain → OpensUnder secrets context sid datagram plain
opens_some secrets [] sid datagram context plain o = absurd o
opens_some secrets (first ∷ later) sid datagram context plain (inl here) = here.1
opens_some secrets (first ∷ later) sid datagram context plain (inr there) = opens_some secrets later sid datagram context plain there.1

has_both : (a b : Bool) → (a && b) ≡ true → (a ≡ true) × (b ≡ true)
has_both a b e = (first_true a b e, second_true a b e)

module _ (secrets : Secrets) (setup : Setup) (past : Past) (s : Sender) (is : IsSenderOf secrets setup past s) where
  -- ---- the attempt that is held

  record IsHeld (near : ℕ) (a : Attempt) : Type 0 where
    n : ℕ
    ni : List ℕ
    is_held : held a.peer (facts_of past) ≡ Some (Opening n near ni)
    values : a.part ≡ initiator_part ni n a.peer

  by_attempt : (near : ℕ) (a : Attempt) (peer : List ℕ) (thing : Held) → held peer (facts_of past) ≡ Some thing → near_of thing ≡ near → attempt_in peer (Some thing) ≡ Some a → IsHeld near a
  by_attempt near a peer (Opening n id ni) is_held same e =
      let it : ◌≡◌ {A = Attempt} (record { peer = peer; part = initiator_part ni n peer }) a = attempt_one (record { peer = peer; part = initiator_part ni n peer }) a e in
      subst (IsHeld near) it (record { n = n; ni = ni; is_held = is_held ∙ ap (λ (q : ℕ). Some (Opening n q ni)) same; values = refl })
  by_attempt near a peer (HalfOpen j) is_held same e = absurd cc
  by_attempt near a peer (KeptAsResponder j) is_held same e = absurd cc
  by_attempt near a peer (KeptAsInitiator j) is_held same e = absurd cc

  attempt_of : (near : ℕ) (a : Attempt) → attempt_at near s.digest.now ≡ Some a → IsHeld near a
  attempt_of near a found = by_spot (get s.digest.now.spots near) refl found
    where
      by_spot : (o : Option Spot) → get s.digest.now.spots near ≡ o → attempt_under s.digest.now.roll o ≡ Some a → IsHeld near a
      by_spot None e f = absurd cc
      by_spot (Some (Searching name tag ni at)) e f = absurd cc
      by_spot (Some (Holding peer at)) e f =
          let h = (is.digest.spots_are.spot near).held_is peer at e in
          by_attempt near a peer h.thing h.is_held h.id (ap (attempt_in peer) (sym h.is_held) ∙ ap (attempt_in peer) (sym (is.digest.roll_is.held_is peer)) ∙ f)
      by_spot (Some (Closing t at)) e f = absurd cc

  found_attempt : (near n : ℕ) (peer ni : List ℕ) → held peer (facts_of past) ≡ Some (Opening n near ni) → attempt_at near s.digest.now ≡ Some (record { peer = peer; part = initiator_part ni n peer })
  found_attempt near n peer ni is_held =
      let h : HeldUnder (facts_of past) near (Opening n near ni) = record { peer = peer; is_held = is_held; id = refl } in
      ap (attempt_under s.digest.now.roll) (held_spot is.last past s.digest.now is.digest near (Opening n near ni) h).1 ∙ ap (attempt_in peer) (is.digest.roll_is.held_is peer ∙ is_held)

  -- ---- the lowest with a tag

  lowest_yes : (tag : List ℕ) (near : ℕ) → IsLowest s.contexts.now.threads s.digest.now tag near → (other : ℕ) → IsTagged past tag other → near ≤ other
  lowest_yes tag near least other tagged =
      let kept = tagged_tell.kept secrets setup is.last past s.digest.now s.contexts.now tag other is.contexts is.digest tagged in
      least other kept.0 kept.1

  lowest_no : (tag : List ℕ) (near : ℕ) → ((other : ℕ) → IsTagged past tag other → near ≤ other) → IsLowest s.contexts.now.threads s.digest.now tag near
  lowest_no tag near least other under tag_there = least other (tagged_tell.stands secrets setup is.last past s.digest.now s.contexts.now tag other is.contexts is.digest under tag_there)

  module _ (nonce : List ℕ) (why : Cause) (of : IsCauseOf secrets setup past nonce why) where
    -- ---- the hello of the event

    hello_yes : (near generation : ℕ) (peer : List ℕ) (call : LoggedCall) → ArrivesIn secrets setup (before_event past) (receive_in (call_of nonce call)) why.plain.now why.arrival →
        ((r : ReceiveCallOf) → receive_in (call_of nonce call) ≡ Some r → startup_contexts setup past ≡ startup_contexts setup (before_event past)) →
        why.arrival ≡ InStartup generation → is_to_zero call ≡ true → (t : Option (List ℕ)) → tag_at near s.contexts.now.threads ≡ t → TakesItsHello s why near t peer →
        TakesHelloOf secrets setup past peer near generation (receive_in (call_of nonce call))
    hello_yes near generation peer (ReceiveCall from datagram) arrives stays at zero None tag takes = absurd takes
    hello_yes near generation peer (ReceiveCall from datagram) arrives stays at zero (Some t) tag takes =
        let id : sid_of datagram ≡ 0 = zero_is datagram zero in
        let start = arrives.startup generation at in
        let contexts_are : start.contexts ≡ startup_contexts setup past = elim start.named [ inl here ↦ here.1 ∙ sym (stays _ refl) | inr under ↦ absurd (under.0 id) ] in
        let opens : OpensFirst secrets (startup_contexts setup past) 0 datagram (Startup generation) why.plain.now =
        subst (λ (n : ℕ). OpensFirst secrets (startup_contexts setup past) n datagram (Startup generation) why.plain.now) id
        (subst (λ (cs : List Context). OpensFirst secrets cs (sid_of datagram) datagram (Startup generation) why.plain.now) contexts_are start.opens) in
        let it = takes.hello.welcomes.hello in
        record {
          packet = takes.hello.packet;
          reads = record {
            plain = why.plain.now;
            opens = opens_some secrets (startup_contexts setup past) 0 datagram (Startup generation) why.plain.now opens;
            reads = takes.hello.reads;
          };
          opens = opens;
          mode = takes.hello.welcomes.mode;
          chunk = it.chunk;
          among = it.among;
          tag = t;
          cookie = it.is.cookie;
          cert = it.is.cert;
          spells = it.is.spells;
          tag_is = is.contexts.tag near ∙ tag;
          lowest = lowest_yes t near takes.lowest;
          narrow = it.is.from.narrow;
          is_cert = it.is.from.is_cert;
          peer_is = it.is.from.peer_is;
        }
    hello_yes near generation peer call arrives stays at zero t tag takes = absurd cc

    hello_no : (near generation : ℕ) (peer : List ℕ) (call : LoggedCall) → ArrivesIn secrets setup (before_event past) (receive_in (call_of nonce call)) why.plain.now why.arrival →
        ((r : ReceiveCallOf) → receive_in (call_of nonce call) ≡ Some r → startup_contexts setup past ≡ startup_contexts setup (before_event past)) →
        TakesHelloOf secrets setup past peer near generation (receive_in (call_of nonce call)) →
        (why.arrival ≡ InStartup generation) × (is_to_zero call ≡ true) × TakesItsHello s why near (tag_at near s.contexts.now.threads) peer
    hello_no near generation peer (ReceiveCall from datagram) arrives stays h =
        let id : sid_of datagram ≡ 0 = h.reads.opens.id in
        let starts : StartsAt secrets setup (before_event past) datagram generation h.reads.plain = record {
          contexts = startup_contexts setup past;
          named = inl (id, stays _ refl);
          opens = subst (λ (n : ℕ). OpensFirst secrets (startup_contexts setup past) n datagram (Startup generation) h.reads.plain) (sym id) h.opens;
        } in
        let told = arrives.starts generation h.reads.plain starts in
        let takes : TakesHello s why near h.tag peer = record {
          hello = record {
            packet = h.packet;
            reads = subst (λ (p : List ℕ). PacketReading p (Ok h.packet)) told.1 h.reads.reads;
            welcomes = record {
              mode = h.mode;
              hello = record {
                chunk = h.chunk;
                among = h.among;
                is = record { cookie = h.cookie; cert = h.cert; spells = h.spells; from = record { narrow = h.narrow; is_cert = h.is_cert; peer_is = h.peer_is } };
              };
            };
          };
          lowest = lowest_no h.tag near h.lowest;
        } in (
          told.0,
          is_zero datagram (opens_under_its_own secrets (Startup generation) 0 datagram h.reads.plain h.reads.opens),
          subst (λ (t : Option (List ℕ)). TakesItsHello s why near t peer) (sym h.tag_is ∙ is.contexts.tag near) takes,
        )
    hello_no near generation peer call arrives stays h = absurd h

    -- ---- in which generation it goes out

    goes_yes : (near generation : ℕ) (peer : List ℕ) (o : Option ℕ) → keying_at near s.contexts.now.threads ≡ o → GoesIn s why near o (tag_at near s.contexts.now.threads) peer generation → KeyingGoesIn secrets setup past (call_of nonce why.call.now) peer near generation
    goes_yes near generation peer (Some went) kept goes = inl (is.contexts.keying near generation (kept ∙ ap (λ (n : ℕ). Some n) goes))
    goes_yes near generation peer None kept goes = inr (
      (λ other went. none_some other (sym kept ∙ is.contexts.went near other went)),
      hello_yes near generation peer why.call.now of.arrives of.stays goes.came.at goes.came.zero (tag_at near s.contexts.now.threads) refl goes.takes,
    )

    goes_no : (near generation : ℕ) (peer : List ℕ) → KeyingGoesIn secrets setup past (call_of nonce why.call.now) peer near generation → GoesIn s why near (keying_at near s.contexts.now.threads) (tag_at near s.contexts.now.threads) peer generation
    goes_no near generation peer (inl went) = subst (λ (o : Option ℕ). GoesIn s why near o (tag_at near s.contexts.now.threads) peer generation) (sym (is.contexts.went near generation went)) refl
    goes_no near generation peer (inr first) = by (keying_at near s.contexts.now.threads) refl
      where
        by : (o : Option ℕ) → keying_at near s.contexts.now.threads ≡ o → GoesIn s why near o (tag_at near s.contexts.now.threads) peer generation
        by (Some other) kept = absurd (first.0 other (is.contexts.keying near other kept))
        by None kept =
            let told = hello_no near generation peer why.call.now of.arrives of.stays first.1 in
            record { came = record { at = told.0; zero = told.1 }; takes = told.2 }

    -- ---- the keying

    attempt_yes : (generation : ℕ) (k : InitiatorFields) (o : Option Attempt) → attempt_at k.near s.digest.now ≡ o → AttemptMay s why generation k o → KeyingOfAttempt secrets setup (call_of nonce why.call.now) past (Startup generation) k.near k.cert k.part
    attempt_yes generation k None found may = absurd may
    attempt_yes generation k (Some a) found may =
        let it = attempt_of k.near a found in
        let both = has_both (bytes_eq k.cert s.cert.now) (bytes_eq k.part a.part) may.0 in
        record {
          own = (bytes_eq-Decides k.cert s.cert.now).0 both.0 ∙ sym is.cert_is;
          peer = a.peer;
          n = it.n;
          ni = it.ni;
          is_held = it.is_held;
          values = (bytes_eq-Decides k.part a.part).0 both.1 ∙ it.values;
          generation = generation;
          goes = goes_yes k.near generation a.peer (keying_at k.near s.contexts.now.threads) refl may.1;
          startup = refl;
        }

    pub initiator_yes : (context : Context) (k : InitiatorFields) → InitiatorMay s why context k → KeyingOfAttempt secrets setup (call_of nonce why.call.now) past context k.near k.cert k.part
    initiator_yes (Session generation ni nr fp_i fp_r sid_i sid_r to_responder) k may = absurd may
    initiator_yes (Startup generation) k may = attempt_yes generation k (attempt_at k.near s.digest.now) refl may

    pub initiator_no : (context : Context) (k : InitiatorFields) → KeyingOfAttempt secrets setup (call_of nonce why.call.now) past context k.near k.cert k.part → InitiatorMay s why context k
    initiator_no context k a = subst (λ (c : Context). InitiatorMay s why c k) (sym a.startup)
        (subst (AttemptMay s why a.generation k) (sym (found_attempt k.near a.n a.peer a.ni a.is_held)) (
          both_true (bytes_eq k.cert s.cert.now) (bytes_eq k.part (initiator_part a.ni a.n a.peer)) ((bytes_eq-Decides k.cert s.cert.now).1 (a.own ∙ is.cert_is)) ((bytes_eq-Decides k.part (initiator_part a.ni a.n a.peer)).1 a.values),
          goes_no k.near a.generation a.peer a.goes,
        ))
