-- The numbers of the datagrams that went out: in the startup context, and in the contexts of the sessions that are kept.
use Rattle.std.proofs.Common.{◌≡◌, ℕ, ◌+◌, ◌^◌, ◌<◌, ◌≤◌, ◌≢◌, List, [], ◌∷◌, length, take, drop, replicate, Option, Some, None, inl, inr, refl, sym, ap, subst, ◌∙◌, true, false, arith}
use Rattle.std.specs.Int.{w64, to_be_bytes, from_be_bytes}
use Rattle.std.specs.Ordering.{nat_cmp}
use Rattle.std.specs.FinMap.{get, insert, remove, empty, get-empty}
use Rattle.std.proofs.lemmas.Nat.{from_be_bytes-to_be_bytes_8}
use Rattle.rtmfp_base.proofs.Maps.{none_is_some, found_inserted, found_left}
use Rattle.rtmfp_forms.specs.Address.{AddressParts}
use Rattle.crypto_profile.specs.declared.keys.Context.{Context}
use Rattle.crypto_profile.specs.declared.keys.Context.TheVariants.{Startup, Session}
use Rattle.crypto_profile.specs.Sealing.{number_of}
use Rattle.glare_core.specs.declared.facts.Fact.{Fact}
use Rattle.glare_core.specs.declared.facts.Fact.TheVariants.{Born, Opened}
use Rattle.glare_core.specs.declared.facts.Held.TheVariants.{Opening}
use Rattle.glare_core.specs.declared.facts.Joined.{Joined}
use Rattle.glare_core.specs.Standing.{held}
use Rattle.glare_core.specs.Account.{AreLawful}
use Rattle.glare_core.specs.Steps.{Among}
use Rattle.glare_core.specs.Told.{AllDifferent}
use Rattle.session_core.specs.declared.stage.Role.{Role}
use Rattle.session_core.specs.declared.stage.Role.TheVariants.{Initiator, Responder}
use Rattle.session_core.specs.Session.{SessionState, context_between, context_of}
use Rattle.session_core.specs.Sealed.{number_bytes}
use Rattle.endpoint_model.specs.declared.row.Row.{Row}
use Rattle.endpoint_model.specs.Event.{Event}
use Rattle.endpoint_model.specs.declared.entry.Entry.TheVariants.{Fact as FactEntry, Out}
use Rattle.endpoint_laws.specs.Past.{Stamped, stamped, facts_of, fact_and, fact_done, out_done, begun, Past}
use Rattle.endpoint_model.specs.State.{Sessions}
use Rattle.endpoint_model.specs.Sending.{last_count, startup_number}
use Rattle.endpoint_laws.specs.Lawful.{IsNumbered, WasNumbered, AsFarAs, nonces_of}
use Rattle.endpoint_model.proofs.Parts.{past_front}
use Rattle.endpoint_laws.proofs.Tied.{sealed_once}
use Rattle.endpoint_laws.proofs.OutFacts.{opened_nonces, nonce_stays, opened_stays, different_before, not_opened}

-- the number is that of a count, one of the first so many
pub record Counted (spell : ℕ → List ℕ) (most : ℕ) (number : List ℕ) : Type 0 where
  pub count : ℕ
  pub first : 1 ≤ count
  pub last : count ≤ most
  pub is : number ≡ spell count

counted_more : (spell : ℕ → List ℕ) (most : ℕ) (number : List ℕ) → Counted spell most number → Counted spell (most + 1) number
counted_more spell most number c = record { count = c.count; first = c.first; last = omega (arith, c.last); is = c.is }

counted_last : (spell : ℕ → List ℕ) (most : ℕ) (number : List ℕ) → number ≡ spell (most + 1) → Counted spell (most + 1) number
counted_last spell most number is = record { count = most + 1; first = omega arith; last = omega arith; is = is }

-- The nonce of this end in the context is one of the facts: that of an attempt that was opened, or that of a birth.
abbrev pub Known : Context → List Fact → Type 0
Known (Startup generation) facts = Unit {0}
Known (Session generation ni nr fp_i fp_r sid_i sid_r true) facts = Among ni (opened_nonces facts)
Known (Session generation ni nr fp_i fp_r sid_i sid_r false) facts = Among nr (nonces_of facts)

known_stays : (context : Context) (fact : Fact) (earlier : List Fact) → Known context earlier → Known context (fact ∷ earlier)
known_stays (Startup generation) fact earlier k = tt
known_stays (Session generation ni nr fp_i fp_r sid_i sid_r true) fact earlier k = opened_stays ni fact earlier k
known_stays (Session generation ni nr fp_i fp_r sid_i sid_r false) fact earlier k = nonce_stays nr fact earlier k

-- The numbers that were used are those of the counts, and contexts tell the sessions apart.
pub record Numbered (own : List ℕ) (past : Past) (sealed : ℕ) (sessions : Sessions) : Type 0 where
  pub few : sealed ≤ last_count
  pub startup : (generation : ℕ) (number : List ℕ) → WasNumbered (Startup generation) number past → Counted (startup_number own) sealed number
  pub known : (context : Context) (number : List ℕ) → WasNumbered context number past → Known context (facts_of past)
  pub under : (near : ℕ) (row : Row) → get sessions near ≡ Some row → row.session.joined.near ≡ near
  pub few_in : (near : ℕ) (row : Row) → get sessions near ≡ Some row → row.session.sealed ≤ last_count
  pub sent : (near : ℕ) (row : Row) → get sessions near ≡ Some row → AllDifferent (nonces_of (facts_of past)) →
      (number : List ℕ) → WasNumbered (context_of row.session true) number past → Counted number_bytes row.session.sealed number

-- ---- contexts

pub not_startup : (g : ℕ) (j : Joined) (own : List ℕ) (role : Role) (generation : ℕ) → context_between g j own role true ≡ Startup generation → ⊥
not_startup g j own Initiator generation e = cc
not_startup g j own Responder generation e = cc

same_near : (g : ℕ) (j : Joined) (own : List ℕ) (role : Role) (g' : ℕ) (j' : Joined) (own' : List ℕ) (role' : Role) →
    context_between g j own role true ≡ context_between g' j' own' role' true → j.near ≡ j'.near
same_near g j own Initiator g' j' own' Initiator e = cc
same_near g j own Initiator g' j' own' Responder e = absurd (cc)
same_near g j own Responder g' j' own' Initiator e = absurd (cc)
same_near g j own Responder g' j' own' Responder e = cc

as_far : (g : ℕ) (j : Joined) (own : List ℕ) (role : Role) (facts : List Fact) → AsFarAs (context_between g j own role true) facts → AllDifferent (nonces_of facts)
as_far g j own Initiator facts a = a
as_far g j own Responder facts a = a

-- ---- one entry more

pub numbered_new : (own : List ℕ) → Numbered own [] 0 empty
numbered_new own =
    let none = λ (near : ℕ) (row : Row) (e : get {R = nat_cmp} empty near ≡ Some row). none_is_some row (get {R = nat_cmp} empty near) (get-empty nat_cmp near) e in
    record {
      few = omega arith;
      startup = λ generation number was. absurd was;
      known = λ context number was. absurd was;
      under = λ near row e. absurd (none near row e);
      few_in = λ near row e. absurd (none near row e);
      sent = λ near row e d number was. absurd was;
    }

module _ (own : List ℕ) (past : Past) (sealed : ℕ) (sessions : Sessions) (n : Numbered own past sealed sessions) where
  pub numbered_fact : (now : ℕ) (fact : Fact) → Numbered own (stamped now (FactEntry fact) ∷ past) sealed sessions
  numbered_fact now fact = record {
    few = n.few;
    startup = λ generation number was. elim was [ inl b ↦ absurd b | inr w ↦ n.startup generation number w ];
    known = λ context number was. elim was [ inl b ↦ absurd b | inr w ↦ known_stays context fact (facts_of past) (n.known context number w) ];
    under = n.under;
    few_in = n.few_in;
    sent = λ near row e d number was. elim was [ inl b ↦ absurd b | inr w ↦ n.sent near row e (different_before fact (facts_of past) d) number w ];
  }

  -- what is neither a datagram nor a fact
  module _ (x : Stamped) (no_out : out_done x.what ≡ None) (no_fact : fact_done x.what ≡ None) where
    before : (context : Context) (number : List ℕ) → WasNumbered context number (x ∷ past) → WasNumbered context number past
    before context number was = elim was [ inl b ↦ absurd (subst (IsNumbered context number) no_out b) | inr w ↦ w ]

    facts_are : facts_of (x ∷ past) ≡ facts_of past
    facts_are = ap (λ (o : Option Fact). fact_and o (facts_of past)) no_fact

    pub numbered_quiet : Numbered own (x ∷ past) sealed sessions
    numbered_quiet = record {
      few = n.few;
      startup = λ generation number was. n.startup generation number (before (Startup generation) number was);
      known = λ context number was. subst (Known context) (sym facts_are) (n.known context number (before context number was));
      under = n.under;
      few_in = n.few_in;
      sent = λ near row e d number was. n.sent near row e (subst (λ (f : List Fact). AllDifferent (nonces_of f)) facts_are d) number (before (context_of row.session true) number was);
    }

  pub numbered_begun : (now : ℕ) (e : Event) → Numbered own (begun now e ∷ past) sealed sessions
  numbered_begun now e = numbered_quiet (begun now e) refl refl

  -- a datagram in the startup context of whatever generation
  pub numbered_startup : (generation now : ℕ) (to : AddressParts) (datagram : List ℕ) → sealed ≢ last_count → number_of (drop 4 datagram) ≡ startup_number own (sealed + 1) →
      Numbered own (stamped now (Out to datagram (Startup generation)) ∷ past) (sealed + 1) sessions
  numbered_startup generation now to datagram some is = record {
    few = omega (arith, n.few, some);
    startup = λ other number was. elim was [
      | inl p ↦ counted_last (startup_number own) sealed number (sym p.1 ∙ is)
      | inr w ↦ counted_more (startup_number own) sealed number (n.startup other number w)
    ];
    known = λ context number was. elim was [
      | inl p ↦ subst (λ (c : Context). Known c (facts_of past)) p.0 tt
      | inr w ↦ n.known context number w
    ];
    under = n.under;
    few_in = n.few_in;
    sent = λ near row e d number was. elim was [
      | inl p ↦ absurd (not_startup row.session.generation row.session.joined row.session.own row.session.role generation (sym p.0))
      | inr w ↦ n.sent near row e d number w
    ];
  }

  pub once_startup : (generation : ℕ) → sealed ≢ last_count → WasNumbered (Startup generation) (startup_number own (sealed + 1)) past → ⊥
  once_startup generation some was =
      let c = n.startup generation (startup_number own (sealed + 1)) was in
      let words : to_be_bytes w64 (sealed + 1) ≡ to_be_bytes w64 c.count =
      sym (past_front (length (take 8 own)) (take 8 own) (to_be_bytes w64 (sealed + 1)) refl)
      ∙ ap (drop (length (take 8 own))) c.is
      ∙ past_front (length (take 8 own)) (take 8 own) (to_be_bytes w64 c.count) refl in
      let small : sealed + 1 < 2 ^ 64 = omega (arith, n.few, some) in
      let small' : c.count < 2 ^ 64 = omega (arith, c.last, small) in
      let same : sealed + 1 ≡ c.count = sym (from_be_bytes-to_be_bytes_8 (sealed + 1) small) ∙ ap (from_be_bytes w64) words ∙ from_be_bytes-to_be_bytes_8 c.count small' in
      omega (arith, same, c.last)

  -- ---- the sessions

  pub numbered_removed : (near : ℕ) → Numbered own past sealed (remove sessions near)
  numbered_removed near = record {
    few = n.few;
    startup = n.startup;
    known = n.known;
    under = λ q row e. n.under q row (found_left sessions near q row e).1;
    few_in = λ q row e. n.few_in q row (found_left sessions near q row e).1;
    sent = λ q row e. n.sent q row (found_left sessions near q row e).1;
  }

  -- a session that changes, but not in its context nor in its count
  pub numbered_changed : (near : ℕ) (old new : Row) → get sessions near ≡ Some old → new.session.joined ≡ old.session.joined → new.session.own ≡ old.session.own → new.session.role ≡ old.session.role → new.session.generation ≡ old.session.generation → new.session.sealed ≡ old.session.sealed →
      Numbered own past sealed (insert sessions near new)
  numbered_changed near old new there joined mine role generation count =
      let context : context_of new.session true ≡ context_of old.session true =
      ap (λ (g : ℕ). context_between g new.session.joined new.session.own new.session.role true) generation
      ∙ ap (λ (j : Joined). context_between old.session.generation j new.session.own new.session.role true) joined
      ∙ ap (λ (o : List ℕ). context_between old.session.generation old.session.joined o new.session.role true) mine
      ∙ ap (λ (r : Role). context_between old.session.generation old.session.joined old.session.own r true) role in
      record {
        few = n.few;
        startup = n.startup;
        known = n.known;
        under = λ q row e. elim (found_inserted sessions near new q row e) [
          | inl d ↦ ap (λ (r : Row). r.session.joined.near) (sym d.1) ∙ ap (λ (j : Joined). j.near) joined ∙ n.under near old there ∙ sym d.0
          | inr d ↦ n.under q row d.1
        ];
        few_in = λ q row e. elim (found_inserted sessions near new q row e) [
          | inl d ↦ subst (λ (m : ℕ). m ≤ last_count) (sym count ∙ ap (λ (r : Row). r.session.sealed) d.1) (n.few_in near old there)
          | inr d ↦ n.few_in q row d.1
        ];
        sent = λ q row e d' number was. elim (found_inserted sessions near new q row e) [
          | inl d ↦ subst (λ (m : ℕ). Counted number_bytes m number) (sym count ∙ ap (λ (r : Row). r.session.sealed) d.1)
              (n.sent near old there d' number (subst (λ (c : Context). WasNumbered c number past) (ap (λ (r : Row). context_of r.session true) (sym d.1) ∙ context) was))
          | inr d ↦ n.sent q row d.1 d' number was
        ];
      }

  -- a session that sent nothing yet, in whose context nothing was sent
  pub numbered_added : (near : ℕ) (new : Row) → new.session.sealed ≡ 0 → new.session.joined.near ≡ near →
      (AllDifferent (nonces_of (facts_of past)) → (number : List ℕ) → WasNumbered (context_of new.session true) number past → ⊥) → Numbered own past sealed (insert sessions near new)
  numbered_added near new none id unused = record {
    few = n.few;
    startup = n.startup;
    known = n.known;
    under = λ q row e. elim (found_inserted sessions near new q row e) [
      | inl d ↦ ap (λ (r : Row). r.session.joined.near) (sym d.1) ∙ id ∙ sym d.0
      | inr d ↦ n.under q row d.1
    ];
    few_in = λ q row e. elim (found_inserted sessions near new q row e) [
      | inl d ↦ subst (λ (m : ℕ). m ≤ last_count) (sym none ∙ ap (λ (r : Row). r.session.sealed) d.1) (omega arith)
      | inr d ↦ n.few_in q row d.1
    ];
    sent = λ q row e d' number was. elim (found_inserted sessions near new q row e) [
      | inl d ↦ absurd (unused d' number (subst (λ (r : Row). WasNumbered (context_of r.session true) number past) (sym d.1) was))
      | inr d ↦ n.sent q row d.1 d' number was
    ];
  }

  -- a datagram in a session
  module _ (near : ℕ) (row : Row) (there : get sessions near ≡ Some row) (some : row.session.sealed ≢ last_count) where
    pub once_session : AsFarAs (context_of row.session true) (facts_of past) → WasNumbered (context_of row.session true) (number_bytes (row.session.sealed + 1)) past → ⊥
    once_session far was =
        let c = n.sent near row there (as_far row.session.generation row.session.joined row.session.own row.session.role (facts_of past) far) (number_bytes (row.session.sealed + 1)) was in
        let words : to_be_bytes w64 (row.session.sealed + 1) ≡ to_be_bytes w64 c.count =
        sym (past_front 8 (replicate 8 0) (to_be_bytes w64 (row.session.sealed + 1)) refl)
        ∙ ap (drop 8) c.is
        ∙ past_front 8 (replicate 8 0) (to_be_bytes w64 c.count) refl in
        let small : row.session.sealed + 1 < 2 ^ 64 = omega (arith, n.few_in near row there, some) in
        let small' : c.count < 2 ^ 64 = omega (arith, c.last, small) in
        let same : row.session.sealed + 1 ≡ c.count = sym (from_be_bytes-to_be_bytes_8 (row.session.sealed + 1) small) ∙ ap (from_be_bytes w64) words ∙ from_be_bytes-to_be_bytes_8 c.count small' in
        omega (arith, same, c.last)

    pub numbered_session : (now : ℕ) (to : AddressParts) (datagram : List ℕ) (new : Row) → new.session ≡ sealed_once row.session →
        number_of (drop 4 datagram) ≡ number_bytes (row.session.sealed + 1) → Known (context_of row.session true) (facts_of past) →
        Numbered own (stamped now (Out to datagram (context_of row.session true)) ∷ past) sealed (insert sessions near new)
    numbered_session now to datagram new is number_is known = record {
      few = n.few;
      startup = λ generation number was. elim was [
        | inl p ↦ absurd (not_startup row.session.generation row.session.joined row.session.own row.session.role generation p.0)
        | inr w ↦ n.startup generation number w
      ];
      known = λ context number was. elim was [
        | inl p ↦ subst (λ (c : Context). Known c (facts_of past)) p.0 known
        | inr w ↦ n.known context number w
      ];
      under = λ q other e. elim (found_inserted sessions near new q other e) [
        | inl d ↦ ap (λ (r : Row). r.session.joined.near) (sym d.1) ∙ ap (λ (s : SessionState). s.joined.near) is ∙ n.under near row there ∙ sym d.0
        | inr d ↦ n.under q other d.1
      ];
      few_in = λ q other e. elim (found_inserted sessions near new q other e) [
        | inl d ↦ (let more : other.session.sealed ≡ row.session.sealed + 1 = ap (λ (r : Row). r.session.sealed) (sym d.1) ∙ ap (λ (s : SessionState). s.sealed) is in omega (arith, more, n.few_in near row there, some))
        | inr d ↦ n.few_in q other d.1
      ];
      sent = λ q other e d' number was. elim (found_inserted sessions near new q other e) [
        | inl d ↦ subst (λ (s : SessionState). Counted number_bytes s.sealed number) (sym is ∙ ap (λ (r : Row). r.session) d.1)
            (counted_here number d' (subst (λ (s : SessionState). WasNumbered (context_of s true) number (stamped now (Out to datagram (context_of row.session true)) ∷ past)) (ap (λ (r : Row). r.session) (sym d.1) ∙ is) was))
        | inr d ↦ elim was [
          | inl p ↦ absurd (d.0 (sym (n.under q other d.1) ∙ sym (same_near row.session.generation row.session.joined row.session.own row.session.role other.session.generation other.session.joined other.session.own other.session.role p.0) ∙ n.under near row there))
          | inr w ↦ n.sent q other d.1 d' number w
        ]
      ];
    }
      where
        counted_here : (number : List ℕ) → AllDifferent (nonces_of (facts_of past)) → WasNumbered (context_of row.session true) number (stamped now (Out to datagram (context_of row.session true)) ∷ past) →
            Counted number_bytes (row.session.sealed + 1) number
        counted_here number d (inl p) = counted_last number_bytes row.session.sealed number (sym p.1 ∙ number_is)
        counted_here number d (inr w) = counted_more number_bytes row.session.sealed number (n.sent near row there d number w)

-- ---- a session begins, of which nothing was sent

module _ (own : List ℕ) (past : Past) (sealed : ℕ) (sessions : Sessions) (n : Numbered own past sealed sessions) (now : ℕ) (j : Joined) (new : Row) (none : new.session.sealed ≡ 0) (joined : new.session.joined ≡ j) where
  in_role : (role : Role) → new.session.role ≡ role → context_of new.session true ≡ context_between new.session.generation j new.session.own role true
  in_role role is =
      ap (λ (k : Joined). context_between new.session.generation k new.session.own new.session.role true) joined
      ∙ ap (λ (r : Role). context_between new.session.generation j new.session.own r true) is

  known_as : (role : Role) (number : List ℕ) → new.session.role ≡ role → WasNumbered (context_of new.session true) number past → Known (context_between new.session.generation j new.session.own role true) (facts_of past)
  known_as role number is w = n.known (context_between new.session.generation j new.session.own role true) number (subst (λ (c : Context). WasNumbered c number past) (in_role role is) w)

  -- it is born, with a new nonce
  pub numbered_born : new.session.role ≡ Responder → Numbered own (stamped now (FactEntry (Born j)) ∷ past) sealed (insert sessions j.near new)
  numbered_born role =
      numbered_added own (stamped now (FactEntry (Born j)) ∷ past) sealed sessions (numbered_fact own past sealed sessions n now (Born j)) j.near new none (ap (λ (k : Joined). k.near) joined)
      (λ d number was. elim was [ inl b ↦ b | inr w ↦ d.0 (known_as Responder number role w) ])

  -- it is that of an attempt, which is opened once
  pub numbered_opened : new.session.role ≡ Initiator → AreLawful own 0 (facts_of past) → held j.peer (facts_of past) ≡ Some (Opening j.n j.near j.ni) →
      Numbered own (stamped now (FactEntry (Opened j)) ∷ past) sealed (insert sessions j.near new)
  numbered_opened role lawful is_held =
      numbered_added own (stamped now (FactEntry (Opened j)) ∷ past) sealed sessions (numbered_fact own past sealed sessions n now (Opened j)) j.near new none (ap (λ (k : Joined). k.near) joined)
      (λ d number was. elim was [ inl b ↦ b | inr w ↦ not_opened own 0 j.peer (facts_of past) j.n j.near j.ni lawful d is_held (known_as Initiator number role w) ])
