-- What the table refuses of a Learnt and of an Advanced, of what comes or goes out in another generation than it should, and of an initiator's keying without a hello that its attempt takes.
use Rattle.std.proofs.Common.{ℕ, max, drop, length, ◌==◌, ◌≤◌, List, [], ◌∷◌, ◌++◌, ◌≡◌, ◌⊎◌, inl, inr, refl, sym, ap, subst, ◌∙◌, cond, true, false, Option, Some, None, arith}
use Rattle.std.specs.Prelude.{Bool, if◌then◌else◌}
use Rattle.std.specs.Str.{bytes_eq}
use Rattle.std.proofs.lemmas.Bool.{eq-eqb}
use Rattle.sha2.specs.Sha256.{sha256}
use Rattle.identity.specs.Certificates.{IsCertificate}
use Rattle.crypto_profile.specs.declared.keys.Context.{Context}
use Rattle.crypto_profile.specs.declared.keys.Context.TheVariants.{Startup}
use Rattle.packet_scramble.specs.Datagram.{sid_of}
use Rattle.rtmfp_packet.specs.Whole.{Whole}
use Rattle.rtmfp_chunks.specs.Chunk.{IIKeying}
use Rattle.glare_core.specs.declared.facts.Fact.{Fact}
use Rattle.glare_core.specs.declared.facts.Fact.TheVariants.{Started, Born, Opened, Confirmed, Ended}
use Rattle.glare_core.specs.declared.facts.Held.{Held}
use Rattle.glare_core.specs.declared.facts.Held.TheVariants.{Opening, HalfOpen, KeptAsResponder, KeptAsInitiator}
use Rattle.glare_core.specs.declared.facts.Joined.{Joined}
use Rattle.glare_core.specs.Standing.{held}
use Rattle.rtmfp_forms.specs.Address.{AddressParts}
use Rattle.endpoint_model.specs.declared.config.Draws.{Draws}
use Rattle.endpoint_model.specs.Event.{Setup, Call, Open, Receive, ReceiveCall, receive_in, Event}
use Rattle.endpoint_checks.proofs.Pasts.{some_event}
use Rattle.endpoint_model.specs.Keying.{IsAmong, chunks_of}
use Rattle.endpoint_model.specs.declared.entry.Entry.TheVariants.{Fact as FactEntry, Learnt, Advanced, Out}
use Rattle.endpoint_laws.specs.Past.{Past, begun, stamped, fact_done, facts_of, current_of, Search, IsSearch}
use Rattle.endpoint_laws.specs.Contexts.{Secrets, generation_of, next_contexts, startup_contexts, OpensUnder, OpensFirst, KeyingWent, IsAttemptIn, StartupContextsOf, AttemptUnder, SearchUnder, OpensInStartup, EventOpenedIn, BeganWith, Begins, BegunUnder}
use Rattle.endpoint_laws.specs.Lawful.{IsFree, TakesHelloIn, HasHello, TakesHelloOf, KeyingGoesIn, OutLine}
use Rattle.endpoint_laws.proofs.Unique.{keying_one}
use Rattle.endpoint_checks.specs.Logs.{doing, says}
use Rattle.endpoint_checks.specs.Sends.{HasChunk, sends}
use Rattle.endpoint_checks.specs.Generations.{learns, advances, OpensNotIn, TheTableRefusesLearnts, TheTableRefusesAdvances, TheTableRefusesComers, TheTableRefusesKeyingsInOthers, TheTableRefusesAnswersInOthers}
use Rattle.endpoint_checks.specs.Brings.{Hello, BringsHello}
use Rattle.endpoint_checks.proofs.Brings.{one_packet, OneHello, only_hello}
use Rattle.endpoint_checks.proofs.Logs.{same, other}
use Rattle.endpoint_checks.proofs.Searched.{passed}
use Rattle.endpoint_checks.proofs.Starting.{taken as held_already}
use Rattle.endpoint_checks.proofs.Bearing.{before_is}
use Rattle.endpoint_checks.proofs.Sending.{attempt_of, born_of, true_is}
use Rattle.endpoint_checks.proofs.Still.{IsSilent, none_went}

-- ---- learning and advancing

gone_over : (b : Bool) (next : ℕ) → b ≡ true → (if b then None else Some next) ≡ None
gone_over true next e = refl
gone_over false next e = absurd (cc)

none_next : (next generation : ℕ) → (if next == next then None else Some next) ≡ Some generation → ⊥
none_next next generation e = let clash : None ≡ Some generation = sym (gone_over (next == next) next (eq-eqb next next refl)) ∙ e in cc

one_number : (x y : ℕ) → Some x ≡ Some y → y ≡ x
one_number x y e = cc

pub learnts_refused : TheTableRefusesLearnts
learnts_refused secrets setup moment secret draws generation = record {
  in_open = λ towards candidates h. h.0.0.1.by;
  in_cancel = λ m h. h.0.0.1.by;
  in_close = λ id h. h.0.0.1.by;
  in_advance = λ h. h.0.0.1.by;
  in_receive = λ from datagram h. h.0.0.1.by;
  in_tick = λ h. h.0.0.1.by;
  other_number = λ differ h. differ h.0.0.1.number;
  other_number_later = λ c d next differ h. differ h.1.1.0.0.1.number;
  known = λ c next h. let none : Some next ≡ None = h.1.0.0.1.none in cc;
  twice = λ next h. let none : Some next ≡ None = h.0.1.0.1.none in cc;
  first = record { by = tt; none = refl; number = refl };
  later = λ next. record { by = tt; none = gone_over (next == next) next (eq-eqb next next refl); number = refl };
}

pub advances_refused : TheTableRefusesAdvances
advances_refused secrets setup moment secret draws generation = record {
  in_open = λ towards candidates c next h. let clash : false ≡ true = h.1.0.0.1.by in cc;
  in_cancel = λ m c next h. let clash : false ≡ true = h.1.0.0.1.by in cc;
  in_learn = λ c next h. let clash : false ≡ true = h.1.0.0.1.by in cc;
  in_receive = λ from datagram c next h. let clash : false ≡ true = h.1.0.0.1.by in cc;
  in_tick = λ c next h. let clash : false ≡ true = h.1.0.0.1.by in cc;
  unknown = λ h. let clash : None ≡ Some generation = h.0.0.1.number in cc;
  again = λ c d next h. none_next next generation h.1.1.0.0.1.number;
  twice = λ c next h. none_next next generation h.1.0.1.0.1.number;
  other_number = λ c next differ h. differ (one_number next generation h.1.0.0.1.number);
  next_one = record { by = refl; number = refl };
}

-- ---- contexts

same_generation : (g h : ℕ) → Startup g ≡ Startup h → g ≡ h
same_generation g h e = ap generation_of e

opened_there : (secrets : Secrets) (g sid : ℕ) (sent plain : List ℕ) (context : Context) → OpensNotIn secrets g sid sent → (Startup g ≡ context) × OpensUnder secrets context sid sent plain → ⊥
opened_there secrets g sid sent plain context none here = none plain (subst (λ (c : Context). OpensUnder secrets c sid sent plain) (sym here.0) here.1)

opens_in_none : (secrets : Secrets) (g h sid : ℕ) (sent plain : List ℕ) (context : Context) → OpensNotIn secrets g sid sent → OpensNotIn secrets h sid sent → OpensFirst secrets (Startup g ∷ Startup h ∷ []) sid sent context plain → ⊥
opens_in_none secrets g h sid sent plain context one other (inl here) = opened_there secrets g sid sent plain context one here
opens_in_none secrets g h sid sent plain context one other (inr (closed, inl here)) = opened_there secrets h sid sent plain context other here
opens_in_none secrets g h sid sent plain context one other (inr (closed, inr none)) = none.1

opens_in_no_one : (secrets : Secrets) (g sid : ℕ) (sent plain : List ℕ) (context : Context) → OpensNotIn secrets g sid sent → OpensFirst secrets (Startup g ∷ []) sid sent context plain → ⊥
opens_in_no_one secrets g sid sent plain context one (inl here) = opened_there secrets g sid sent plain context one here
opens_in_no_one secrets g sid sent plain context one (inr none) = none.1

-- after an Advanced of the number that was learnt, no next one is known
gone_contexts : (next : ℕ) → Startup next ∷ next_contexts (if next == next then None else Some next) ≡ Startup next ∷ []
gone_contexts next = ap (λ (o : Option ℕ). Startup next ∷ next_contexts o) (gone_over (next == next) next (eq-eqb next next refl))

-- of the first of two contexts where a datagram opens in it, and of the second where it doesn't
in_the_first : (secrets : Secrets) (g h k sid : ℕ) (sent plain other : List ℕ) → OpensUnder secrets (Startup g) sid sent other → OpensFirst secrets (Startup g ∷ Startup h ∷ []) sid sent (Startup k) plain → k ≡ g
in_the_first secrets g h k sid sent plain other opens (inl here) = same_generation k g (sym here.0)
in_the_first secrets g h k sid sent plain other opens (inr later) = absurd (later.0 other opens)

in_the_second : (secrets : Secrets) (g h k sid : ℕ) (sent plain : List ℕ) → OpensNotIn secrets g sid sent → OpensFirst secrets (Startup g ∷ Startup h ∷ []) sid sent (Startup k) plain → k ≡ h
in_the_second secrets g h k sid sent plain one (inl here) = absurd (opened_there secrets g sid sent plain (Startup k) one here)
in_the_second secrets g h k sid sent plain one (inr (closed, inl here)) = same_generation k h (sym here.0)
in_the_second secrets g h k sid sent plain one (inr (closed, inr none)) = absurd none.1

-- ---- attempts

-- an attempt that starts as the first thing that an end does has a session ID
started_near : {A : Type 0} (secrets : Secrets) (setup : Setup) (moment : ℕ) (e : Event) (o : Option ReceiveCall) (peer : List ℕ) (n near : ℕ) (ni : List ℕ) → (A × IsFree near (begun moment e ∷ [])) ⊎ TakesHelloIn secrets setup (begun moment e ∷ []) o peer n near ni → near ≡ 0 → ⊥
started_near secrets setup moment e o peer n near ni (inl by_open) zero = by_open.1.some zero
started_near secrets setup moment e None peer n near ni (inr hello) zero = hello
started_near secrets setup moment e (Some r) peer n near ni (inr hello) zero = nothing_sought (record { name = drop 16 hello.2.cert; tag = hello.2.tag; ni = ni }) hello.2.at hello.2.stands
  where
    nothing_sought : (which : Search) (at : ℕ) → IsSearch near which at (begun moment e ∷ []) → ⊥
    nothing_sought which at (inl own) = own.0
    nothing_sought which at (inr old) = old.2

-- the generation of an attempt opens its datagrams
attempt_opens : (secrets : Secrets) (setup : Setup) (past : Past) (sent : List ℕ) (g near h : ℕ) → (near ≡ 0 → ⊥) → sid_of sent ≡ near → ((k : ℕ) → IsAttemptIn secrets setup near k past → k ≡ h) → (o : OpensInStartup secrets setup past sent g) → OpensNotIn secrets h near sent → ⊥
attempt_opens secrets setup past sent g near h some id only o none = by o.named
  where
    by : StartupContextsOf secrets setup past (sid_of sent) o.contexts → ⊥
    by (inl zero) = some (sym id ∙ zero.0)
    by (inr other) =
        opens_in_no_one secrets h near sent o.plain (Startup g) none
        (subst (λ (s : ℕ). OpensFirst secrets (Startup h ∷ []) s sent (Startup g) o.plain) id
        (subst (λ (cs : List Context). OpensFirst secrets cs (sid_of sent) sent (Startup g) o.plain)
        (other.2.2 ∙ ap (λ (k : ℕ). Startup k ∷ []) (only other.2.0 (subst (λ (s : ℕ). IsAttemptIn secrets setup s other.2.0 past) id other.2.1))) o.opens))

in_hello : (secrets : Secrets) (setup : Setup) (near k : ℕ) (past : Past) → IsAttemptIn secrets setup near k past → IsSilent past → k ≡ current_of setup past
in_hello secrets setup near k past (inl went) quiet = absurd (none_went secrets near k past quiet went)
in_hello secrets setup near k past (inr is) quiet = is.1

in_keying : (secrets : Secrets) (setup : Setup) (near g k : ℕ) (past : Past) → KeyingWent secrets near g past → IsAttemptIn secrets setup near k past → k ≡ g
in_keying secrets setup near g k past went (inl is) = keying_one secrets near k g past is went
in_keying secrets setup near g k past went (inr is) = absurd (is.0 g went)

-- what was done: an attempt started, then a generation was learnt, and became the current one; or the attempt's keying went out
abbrev started_learnt : Call → Call → ℕ → Joined → Past
started_learnt b c next j = stamped 0 (Learnt next) ∷ begun 0 (learns c next) ∷ stamped 0 (FactEntry (Started j.peer j.n j.near j.ni)) ∷ begun 0 (doing 0 b (says (Started j.peer j.n j.near j.ni))) ∷ []

abbrev started_advanced : Call → Call → Call → ℕ → Joined → Past
started_advanced b c d next j = stamped 0 (Advanced next) ∷ begun 0 (advances d next) ∷ started_learnt b c next j

abbrev started_keyed : Call → AddressParts → List ℕ → ℕ → Joined → Past
started_keyed b to keying generation j =
    stamped 0 (Out to keying (Startup generation)) ∷ stamped 0 (FactEntry (Started j.peer j.n j.near j.ni)) ∷ begun 0 (doing 0 b (FactEntry (Started j.peer j.n j.near j.ni) ∷ Out to keying (Startup generation) ∷ [])) ∷ []

pub comers_refused : TheTableRefusesComers
comers_refused secrets setup moment b c d from sent draws next j = record {
  in_neither = λ one other h.
      let line = h.1.0.0.1 in
      let a = line.by.0 in
      opens_in_none secrets setup.generation next 0 sent a.reads.plain (Startup a.generation) one other
      (subst (λ (cs : List Context). OpensFirst secrets cs 0 sent (Startup a.generation) a.reads.plain) (ap (startup_contexts setup) (before_is _ _ _ _ line.before j.peer line.way)) a.opens);
  in_the_last = λ one h.
      let line = h.1.1.0.0.1 in
      let a = line.by.0 in
      opens_in_no_one secrets next 0 sent a.reads.plain (Startup a.generation) one
      (subst (λ (cs : List Context). OpensFirst secrets cs 0 sent (Startup a.generation) a.reads.plain) (ap (startup_contexts setup) (before_is _ _ _ _ line.before j.peer line.way) ∙ gone_contexts next) a.opens);
  opened_in_the_next = λ none h.
      let line = h.1.1.0.0.1 in
      attempt_opens secrets setup (started_learnt b c next j) sent line.0 j.near setup.generation (started_near secrets setup _ _ (receive_in b) j.peer j.n j.near j.ni h.0.0.1) line.2.reads.opens.id
      (λ k is. in_hello secrets setup j.near k (started_learnt b c next j) is (refl, (refl, (refl, (refl, tt))))) line.1 none;
  opened_in_the_last = λ none h.
      let line = h.1.1.1.0.0.1 in
      attempt_opens secrets setup (started_advanced b c d next j) sent line.0 j.near next (started_near secrets setup _ _ (receive_in b) j.peer j.n j.near j.ni h.0.0.1) line.2.reads.opens.id
      (λ k is. in_hello secrets setup j.near k (started_advanced b c d next j) is (refl, (refl, (refl, (refl, (refl, (refl, tt))))))) line.1 none;
  opened_in_another = λ to keying generation went none h.
      let line = h.1.0.0.1 in
      attempt_opens secrets setup (started_keyed b to keying generation j) sent line.0 j.near generation (started_near secrets setup _ _ (receive_in b) j.peer j.n j.near j.ni h.0.0.1) line.2.reads.opens.id
      (λ k is. in_keying secrets setup j.near generation k (started_keyed b to keying generation j) (inl went) is) line.1 none;
}

-- ---- initiators' keyings

-- where none went out before, the first one goes out in the generation of a hello
first_goes : (secrets : Secrets) (setup : Setup) (past : Past) (call : Call) (peer : List ℕ) (near g : ℕ) → KeyingGoesIn secrets setup past call peer near g → IsSilent past → TakesHelloOf secrets setup past peer near g (receive_in call)
first_goes secrets setup past call peer near g (inl went) quiet = absurd (none_went secrets near g past quiet went)
first_goes secrets setup past call peer near g (inr first) quiet = first.1

goes_on : (secrets : Secrets) (setup : Setup) (past : Past) (call : Call) (peer : List ℕ) (near g h : ℕ) → KeyingWent secrets near h past → KeyingGoesIn secrets setup past call peer near g → g ≡ h
goes_on secrets setup past call peer near g h went (inl is) = keying_one secrets near g h past is went
goes_on secrets setup past call peer near g h went (inr first) = absurd (first.0 h went)

-- the attempt under session ID 5 whose first keying goes out, and the hello that it takes
record Heard (secrets : Secrets) (setup : Setup) (past : Past) (generation : ℕ) (hello : List ℕ) : Type 0 where
  pub peer : List ℕ
  pub n : ℕ
  pub ni : List ℕ
  pub is_held : held peer (facts_of past) ≡ Some (Opening n 5 ni)
  pub takes : HasHello secrets setup past peer 5 generation hello

heard : {secrets : Secrets} {setup : Setup} {past : Past} {from : AddressParts} {draws : Draws} {hello sent : List ℕ} {generation : ℕ} {cookie cert part sign : List ℕ} → HasChunk secrets (Startup generation) sent (IIKeying 5 cookie cert part sign) →
    OutLine secrets setup (Receive from hello draws) past sent (Startup generation) → IsSilent past → Heard secrets setup past generation hello
heard {secrets} {setup} {past} {from} {draws} {hello} {sent} {generation} {cookie} {cert} {part} {sign} has line quiet =
    let k = attempt_of secrets setup _ _ sent (Startup generation) line 5 cookie cert part sign has in
    record {
      peer = k.peer;
      n = k.n;
      ni = k.ni;
      is_held = k.is_held;
      takes = subst (λ (g : ℕ). HasHello secrets setup past k.peer 5 g hello) (same_generation k.generation generation (sym k.startup)) (first_goes secrets setup past (Receive from hello draws) k.peer 5 k.generation k.goes quiet);
    }

same_tag : (a b : List ℕ) → Some a ≡ Some b → a ≡ b
same_tag a b e = cc

-- it says what the hello says that is the datagram's only chunk
says_so : {secrets : Secrets} {setup : Setup} {past : Past} {generation : ℕ} {sent : List ℕ} {hello : Hello} → BringsHello secrets generation sent hello → (a : Heard secrets setup past generation sent) →
    OneHello a.takes.tag hello.tag a.takes.cookie hello.cookie a.takes.cert hello.cert
says_so {secrets} {setup} {past} {generation} {sent} {hello} b a =
    let takes = a.takes in
    only_hello secrets generation sent hello b takes.packet takes.reads takes.chunk takes.among takes.tag takes.cookie takes.cert takes.spells

-- ---- other attempts with the tag

-- the attempt that is held with one peer, where one with another was started later
held_before : (b c : Bool) (x y : Held) → b ≡ false → c ≡ true → cond b (Some x) (cond c (Some y) None) ≡ Some y
held_before true c x y is at = absurd (cc)
held_before false true x y is at = refl
held_before false false x y is at = absurd (cc)

-- what was done where an attempt started, under the only session ID in use
abbrev started : Call → List ℕ → List ℕ → Past
started b peer ni = stamped 0 (FactEntry (Started peer 1 5 ni)) ∷ begun 0 (doing 0 b (says (Started peer 1 5 ni))) ∷ []

lowest_of_one : (b : Call) (peer ni : List ℕ) (id : ℕ) → SearchUnder (started b peer ni) id ⊎ AttemptUnder (started b peer ni) id → 5 ≤ id
lowest_of_one b peer ni id (inl sought) = absurd (passed (passed sought.stands))
lowest_of_one b peer ni id (inr attempt) = let one = (true_is peer attempt.peer (Opening 1 5 ni) (Opening attempt.n id attempt.ni) attempt.is_held).1 in let is : id ≡ 5 = cc in omega (arith, is)

-- ---- what is refused

pub keyings_in_others_refused : TheTableRefusesKeyingsInOthers
keyings_in_others_refused secrets setup moment b c d from to draws hello sent peer ni generation next cookie cert part sign has = record {
  unasked = λ none h.
      let k = attempt_of secrets setup _ _ sent (Startup generation) h.1.0.0 5 cookie cert part sign has in
      let past : Past = begun (max 0 moment) (doing moment d (sends to sent (Startup generation))) ∷ started b peer ni in
      subst (λ (o : Option ReceiveCall). TakesHelloOf secrets setup past k.peer 5 k.generation o) none (first_goes secrets setup past d k.peer 5 k.generation k.goes (refl, (refl, (refl, tt))));
  no_hello = λ packet reads none h.
      let takes = (heard has h.1.0.0 (refl, (refl, (refl, tt)))).takes in
      none takes.chunk takes.tag takes.cookie takes.cert (subst (λ (p : Whole). IsAmong takes.chunk (chunks_of p)) (one_packet secrets (Startup generation) 0 hello takes.packet packet takes.reads reads) takes.among) takes.spells;
  other_tag = λ candidates drawn says_hello brings differ h.
      let a = heard has h.1.0.0 (refl, (refl, (refl, tt))) in
      differ (sym (says_so brings a).tag_is ∙ sym (same_tag drawn.tag a.takes.tag a.takes.tag_is));
  other_peer = λ says_hello brings differ h.
      let a = heard has h.1.0.0 (refl, (refl, (refl, tt))) in
      differ (sym (ap sha256 (says_so brings a).cert_is) ∙ sym a.takes.peer_is ∙ sym (true_is peer a.peer (Opening 1 5 ni) (Opening a.n 5 a.ni) a.is_held).0);
  no_certificate = λ says_hello brings none h.
      let a = heard has h.1.0.0 (refl, (refl, (refl, tt))) in
      none (subst IsCertificate (says_so brings a).cert_is a.takes.is_cert);
  wide_cookie = λ says_hello brings wide h.
      let a = heard has h.1.0.0 (refl, (refl, (refl, tt))) in
      omega (arith, wide, a.takes.narrow, ap length (says_so brings a).cookie_is);
  other_mode = λ packet reads differ h.
      let takes = (heard has h.1.0.0 (refl, (refl, (refl, tt)))).takes in
      differ (ap (λ (p : Whole). p.head.mode) (one_packet secrets (Startup generation) 0 hello packet takes.packet reads takes.reads) ∙ takes.mode);
  higher_than_attempt = λ towards nonce others candidates other_draws drawn tag h.
      let takes = (heard has h.1.1.0.0 (refl, (refl, (refl, (refl, (refl, tt)))))).takes in
      let free : bytes_eq peer towards ≡ false = other peer towards (λ e. held_already (bytes_eq towards peer) (Opening 1 4 nonce) (same towards peer (sym e)) h.1.0.0.0.free) in
      let held_there = held_before (bytes_eq peer towards) (bytes_eq towards towards) (Opening 2 5 ni) (Opening 1 4 nonce) free (same towards towards refl) in
      omega (arith, takes.lowest 4 (inr (record { peer = towards; n = 1; ni = nonce; is_held = held_there }), ap (λ (t : List ℕ). Some t) tag ∙ takes.tag_is));
  higher_than_search = λ name others candidates other_draws drawn tag h.
      let takes = (heard has h.1.1.0.0 (refl, (refl, (refl, (refl, (refl, tt)))))).takes in
      omega (
        arith,
        takes.lowest 4 (
          inl (record {
            which = record { name = name; tag = other_draws.tag; ni = other_draws.nonce };
            at = 0;
            stands = inr (tt, tt, inr (tt, (λ e. omega (arith, e)), inr (tt, tt, inl ((refl, refl, (refl, refl)), refl))));
          }),
          ap (λ (t : List ℕ). Some t) tag ∙ takes.tag_is,
        ),
      );
  in_the_current = λ none is h.
      let takes = (heard has h.1.1.0.0 (refl, (refl, (refl, (refl, (refl, tt)))))).takes in
      none takes.reads.plain (subst (λ (g : ℕ). OpensUnder secrets (Startup g) 0 hello takes.reads.plain) is takes.reads.opens);
  in_the_next = λ plain opens differ h.
      let takes = (heard has h.1.1.0.0 (refl, (refl, (refl, (refl, (refl, tt)))))).takes in
      differ (in_the_first secrets setup.generation next generation 0 hello takes.reads.plain plain opens takes.opens);
  other_than_before = λ first before differ went h.
      let k = attempt_of secrets setup _ _ sent (Startup generation) h.1.0.0 5 cookie cert part sign has in
      let past : Past = begun (max 0 moment) (doing moment d (sends to sent (Startup generation))) ∷ stamped 0 (Out to first (Startup before)) ∷ stamped 0 (FactEntry (Started peer 1 5 ni)) ∷ begun 0 (doing 0 b (FactEntry (Started peer 1 5 ni) ∷ Out to first (Startup before) ∷ [])) ∷ [] in
      let there : KeyingWent secrets 5 before past = inr ((λ other none. none), tt, tt, inl went) in
      differ (same_generation generation k.generation k.startup ∙ goes_on secrets setup past d k.peer 5 k.generation before there k.goes);
  fitting = λ candidates drawn says_hello brings mode tag narrow is_cert peer_is. record {
    packet = brings.packet;
    reads = brings.reads;
    opens = inl (refl, brings.reads.opens);
    mode = mode;
    chunk = brings.chunk;
    among = subst (IsAmong brings.chunk) (sym brings.only) (inl refl);
    tag = says_hello.tag;
    cookie = says_hello.cookie;
    cert = says_hello.cert;
    spells = brings.spells;
    tag_is = ap (λ (t : List ℕ). Some t) (sym tag);
    lowest = λ id tagged. lowest_of_one (Open peer candidates drawn) peer ni id tagged.0;
    narrow = omega (arith, narrow);
    is_cert = is_cert;
    peer_is = peer_is;
  };
}

-- ---- what a session began with

abbrev begins_some : Option Fact → Bool
begins_some None = false
begins_some (Some (Started peer n near ni)) = false
begins_some (Some (Born j)) = true
begins_some (Some (Opened j)) = true
begins_some (Some (Confirmed peer near)) = false
begins_some (Some (Ended peer near why)) = false

abbrev BeginsNothing : Past → Type 0
BeginsNothing [] = Unit {0}
BeginsNothing (s ∷ earlier) = (begins_some (fact_done s.what) ≡ false) × BeginsNothing earlier

true_false : true ≡ false → ⊥
true_false e = cc

began_with : (thing : Held) (fact : Fact) → begins_some (Some fact) ≡ false → BeganWith thing fact → ⊥
began_with (Opening n near ni) fact none with_it = with_it
began_with (HalfOpen j) fact none with_it = true_false (sym (ap (λ (f : Fact). begins_some (Some f)) with_it) ∙ none)
began_with (KeptAsResponder j) fact none with_it = true_false (sym (ap (λ (f : Fact). begins_some (Some f)) with_it) ∙ none)
began_with (KeptAsInitiator j) fact none with_it = true_false (sym (ap (λ (f : Fact). begins_some (Some f)) with_it) ∙ none)

begins_it : (thing : Held) (o : Option Fact) → begins_some o ≡ false → Begins thing o → ⊥
begins_it thing None none begins = begins
begins_it thing (Some fact) none begins = began_with thing fact none begins

begun_never : (secrets : Secrets) (setup : Setup) (thing : Held) (g : ℕ) (past : Past) → BeginsNothing past → BegunUnder secrets setup thing g past → ⊥
begun_never secrets setup thing g [] none is = is
begun_never secrets setup thing g (s ∷ earlier) none (inl here) = begins_it thing (fact_done s.what) none.0 here.0
begun_never secrets setup thing g (s ∷ earlier) none (inr older) = begun_never secrets setup thing g earlier none.1 older.1

begun_once : (secrets : Secrets) (setup : Setup) (thing : Held) (g : ℕ) (front : Past) (moment : ℕ) (j : Joined) (back : Past) → BeginsNothing front → BeginsNothing back → BegunUnder secrets setup thing g (front ++ stamped moment (FactEntry (Born j)) ∷ back) → EventOpenedIn secrets setup back g
begun_once secrets setup thing g [] moment j back none more (inl here) = here.1
begun_once secrets setup thing g [] moment j back none more (inr older) = absurd (begun_never secrets setup thing g back more older.1)
begun_once secrets setup thing g (s ∷ front) moment j back none more (inl here) = absurd (begins_it thing (fact_done s.what) none.0 here.0)
begun_once secrets setup thing g (s ∷ front) moment j back none more (inr older) = begun_once secrets setup thing g front moment j back none.1 more older.1

-- where a generation was learnt and nothing else done, a datagram opens in the current one or in that
learnt_opens : (secrets : Secrets) (setup : Setup) (n next g : ℕ) (e : Event) (sent : List ℕ) → (o : OpensInStartup secrets setup (stamped n (Learnt next) ∷ begun n e ∷ []) sent g) → OpensFirst secrets (Startup setup.generation ∷ Startup next ∷ []) 0 sent (Startup g) o.plain
learnt_opens secrets setup n next g e sent o = by o.named
  where
    nothing_sought : (near at : ℕ) (which : Search) → IsSearch near which at (stamped n (Learnt next) ∷ begun n e ∷ []) → ⊥
    nothing_sought near at which (inl own) = own.0
    nothing_sought near at which (inr (go, on, inl own)) = own.0
    nothing_sought near at which (inr (go, on, inr old)) = old.2

    no_attempt : (near : ℕ) → SearchUnder (stamped n (Learnt next) ∷ begun n e ∷ []) near ⊎ AttemptUnder (stamped n (Learnt next) ∷ begun n e ∷ []) near → ⊥
    no_attempt near (inl sought) = nothing_sought near sought.at sought.which sought.stands
    no_attempt near (inr attempt) = let clash : None ≡ Some (Opening attempt.n near attempt.ni) = attempt.is_held in cc

    by : StartupContextsOf secrets setup (stamped n (Learnt next) ∷ begun n e ∷ []) (sid_of sent) o.contexts → OpensFirst secrets (Startup setup.generation ∷ Startup next ∷ []) 0 sent (Startup g) o.plain
    by (inl zero) =
        subst (λ (s : ℕ). OpensFirst secrets (Startup setup.generation ∷ Startup next ∷ []) s sent (Startup g) o.plain) zero.0
        (subst (λ (cs : List Context). OpensFirst secrets cs (sid_of sent) sent (Startup g) o.plain) zero.1 o.opens)
    by (inr other) = absurd (no_attempt (sid_of sent) other.1)

-- ---- responders' keyings, and datagrams in sessions

-- a generation was learnt, and then a datagram taken
abbrev taken : Call → ℕ → AddressParts → List ℕ → Draws → Past
taken c next from keying draws = begun 0 (doing 0 (Receive from keying draws) []) ∷ stamped 0 (Learnt next) ∷ begun 0 (learns c next) ∷ []

-- and a session born of it
abbrev born : Call → ℕ → ℕ → AddressParts → List ℕ → Draws → Joined → Past
born c next moment from keying draws j = begun (max 0 moment) (doing moment (Receive from keying draws) (says (Born j))) ∷ stamped 0 (Learnt next) ∷ begun 0 (learns c next) ∷ []

pub answers_in_others_refused : TheTableRefusesAnswersInOthers
answers_in_others_refused secrets setup moment c d from to draws keying sent next j near part sign = record {
  in_the_current = λ none has differ h.
      let b = born_of secrets setup _ _ sent (Startup setup.generation) h.1.0.1.0 near part sign has in
      let o = begun_once secrets setup (HalfOpen b.j) b.generation [] 0 j (taken c next from keying draws) tt (refl, (refl, (refl, tt))) b.born in
      differ (same_generation setup.generation b.generation b.startup ∙ in_the_second secrets setup.generation next b.generation 0 keying o.plain none (learnt_opens secrets setup 0 next b.generation (learns c next) keying o));
  in_the_current_later = λ none has differ h.
      let b = born_of secrets setup _ _ sent (Startup setup.generation) h.1.1.0.0 near part sign has in
      let o = begun_once secrets setup (HalfOpen b.j) b.generation (begun 0 some_event ∷ []) 0 j (taken c next from keying draws) (refl, tt) (refl, (refl, (refl, tt))) b.born in
      differ (same_generation setup.generation b.generation b.startup ∙ in_the_second secrets setup.generation next b.generation 0 keying o.plain none (learnt_opens secrets setup 0 next b.generation (learns c next) keying o));
  in_the_new = λ a plain opens has differ h.
      let b = born_of secrets setup _ _ sent (Startup next) h.1.1.1.0.0 near part sign has in
      let o = begun_once secrets setup (HalfOpen b.j) b.generation (begun 0 some_event ∷ stamped 0 (Advanced next) ∷ begun 0 (advances a next) ∷ []) (max 0 moment) j (born c next moment from keying draws j) (refl, (refl, (refl, tt))) (refl, (refl, (refl, tt))) b.born in
      differ (sym (same_generation next b.generation b.startup ∙ in_the_first secrets setup.generation next b.generation 0 keying o.plain plain opens (learnt_opens secrets setup 0 next b.generation (learns c next) keying o)));
  session_in_the_current = λ none differ h.
      let s = h.1.1.0.0.session in
      let o = begun_once secrets setup s.0 setup.generation (begun 0 some_event ∷ []) 0 j (taken c next from keying draws) (refl, tt) (refl, (refl, (refl, tt))) s.3 in
      differ (in_the_second secrets setup.generation next setup.generation 0 keying o.plain none (learnt_opens secrets setup 0 next setup.generation (learns c next) keying o));
  session_in_the_new = λ a plain opens differ h.
      let s = h.1.1.1.0.0.session in
      let o = begun_once secrets setup s.0 next (begun 0 some_event ∷ stamped 0 (Advanced next) ∷ begun 0 (advances a next) ∷ []) (max 0 moment) j (born c next moment from keying draws j) (refl, (refl, (refl, tt))) (refl, (refl, (refl, tt))) s.3 in
      differ (sym (in_the_first secrets setup.generation next next 0 keying o.plain plain opens (learnt_opens secrets setup 0 next next (learns c next) keying o)));
}
