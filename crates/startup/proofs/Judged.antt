-- What a keying that was found to be heard, and how, gives and leaves.
use Rattle.std.proofs.Common.{ℕ, List, [], ◌∷◌, ◌≡◌, true, false, not, Option, Some, None, is_none, Result, Ok, Err, IfOk, IfErr, refl, sym, ap, ◌∙◌}
use Rattle.std.specs.Str.{bytes_eq}
use Rattle.std.specs.FinMap.{get}
use Rattle.sha2.specs.Sha256.{sha256}
use Rattle.crypto_profile.specs.declared.group.GroupSecret.{GroupSecret}
use Rattle.rtmfp_forms.specs.Address.{AddressParts}
use Rattle.cookies.specs.declared.CookieTest.{CookieTest}
use Rattle.cookies.specs.declared.CookieTest.TheVariants.{Bad, Moved, Expired, Current}
use Rattle.cookies.specs.Cookie.{cookie_test}
use Rattle.glare_core.specs.declared.facts.Joined.{Joined}
use Rattle.glare_core.specs.declared.answers.Keying.{Keying}
use Rattle.glare_core.specs.declared.answers.HearRefusal.{HearRefusal}
use Rattle.glare_core.specs.declared.answers.Way.{Way}
use Rattle.glare_core.specs.declared.answers.Judged.{Judged}
use Rattle.glare_core.specs.declared.answers.Judged.TheVariants.{Birth as IsBirth}
use Rattle.glare_core.specs.declared.facts.Held.{Held}
use Rattle.glare_core.specs.declared.facts.Held.TheVariants.{Opening, HalfOpen, KeptAsResponder, KeptAsInitiator}
use Rattle.glare_core.specs.Ledger.{held_with}
use Rattle.rtmfp_base.specs.Reasons.{where_true, first_that_stands}
use Rattle.glare_core.specs.Calls.{hear_refusal, session_again, way_of, again_or_way, unless_refused, judged}
use Rattle.rtmfp_base.specs.declared.cause.Cause.{Cause}
use Rattle.rtmfp_base.specs.declared.cause.Cause.TheVariants.{BadSignature, WrongResponder, OwnCertificate}
use Rattle.startup.specs.declared.answer.Keyed.{Keyed}
use Rattle.startup.specs.declared.answer.Keyed.TheVariants as keyed
use Rattle.startup.specs.declared.judging.Hearing.TheVariants.{Change, Again, Birth}
use Rattle.startup.specs.State.{StartupState}
use Rattle.startup_packets.specs.Packets.{is_signed}
use Rattle.startup.specs.Attempts.{wide}
use Rattle.startup_packets.specs.Readings.{InitiatorKeying}
use Rattle.startup.specs.Attempts.{is_own}
use Rattle.startup.specs.Keyings.{heard_cause, cookie_cause, named_cause, keying_of, repeated_session, initiator_cause, change_answer, again_by, again_or_birth, after_again_or_birth, keyed_with, after_keyed_with, bears_with}
use Rattle.startup.specs.Judging.{unless_cause, heard_as, hearing, judged_initiator}
use Rattle.glare_core.proofs.Judging.{unrefused}
use Rattle.startup.proofs.Uncaused.{IsHeard, no_cause_is_heard}

-- ---- what was found, where no cause stands
pub uncaused : {A : Type 0} (found x : A) (o : Option Cause) → unless_cause found o ≡ Ok x → o ≡ None
uncaused found x None e = refl
uncaused found x (Some cause) e = absurd (cc)

pub is_found : {A : Type 0} (found x : A) (o : Option Cause) → unless_cause found o ≡ Ok x → found ≡ x
is_found found x None e = cc
is_found found x (Some cause) e = absurd (cc)

-- a keying with a good signature and a narrow, current cookie
lone : (o : Option Cause) → first_that_stands (o ∷ []) ≡ o
lone None = refl
lone (Some cause) = refl

pub current_judged : (s : StartupState) (payload : List ℕ) (from : AddressParts) (now : ℕ) (full : Option ℕ) (g : GroupSecret) (read : InitiatorKeying) →
    is_signed g.secret payload read.sign ≡ true → wide read.cookie ≡ None → cookie_test s.cookie_secret read.cookie from now ≡ Current →
    unless_cause (hearing s read Current) (named_cause s read full) ≡ judged_initiator s payload from now full g read
current_judged s payload from now full g read signed narrow current =
    sym ((λ i. unless_cause (hearing s read (current i)) (first_that_stands (where_true (not (signed i)) BadSignature ∷ narrow i ∷ cookie_cause (current i) (named_cause s read full) ∷ [])))
    ∙ ap (unless_cause (hearing s read Current)) (lone (named_cause s read full)))

-- ---- the session that a keying is again of

same_session : (thing : Option Held) (keying : Keying) → session_again thing keying ≡ repeated_session thing keying
same_session None keying = refl
same_session (Some (Opening n near ni)) keying = refl
same_session (Some (HalfOpen j)) keying = refl
same_session (Some (KeptAsResponder j)) keying = refl
same_session (Some (KeptAsInitiator j)) keying = refl

-- what the ledger judges of a keying with a good cookie is what hearing it would be
pub judged_ok : (s : StartupState) (read : InitiatorKeying) (full : Option ℕ) (found : Judged) →
    bytes_eq read.part.responder (sha256 s.cert) ≡ true → is_own s read.cert ≡ false → judged s.ledger (keying_of read) (is_none full) ≡ Ok found →
    Ok (heard_as (keying_of read) found) ≡ unless_cause (hearing s read Current) (named_cause s read full)
judged_ok s read full found named other e =
    let thing : Option Held = held_with s.ledger (sha256 read.cert) in
    let way : Way = way_of s.ledger (sha256 read.cert) in
    let is = unrefused (again_or_way (session_again thing (keying_of read)) way) found (hear_refusal s.ledger (keying_of read) (is_none full)) e in
    let same : again_or_way (repeated_session thing (keying_of read)) way ≡ found = sym (ap (λ o. again_or_way o way) (same_session thing (keying_of read))) ∙ is.1 in
    sym (λ i. unless_cause (heard_as (keying_of read) (same i)) (first_that_stands (where_true (not (named i)) WrongResponder ∷ where_true (other i) OwnCertificate ∷ heard_cause full (is.0 i) ∷ [])))

-- and so it is why the keying is discarded
refused_is : (found : Judged) (refusal : HearRefusal) (o : Option HearRefusal) → unless_refused found o ≡ Err refusal → o ≡ Some refusal
refused_is found refusal None e = absurd (cc)
refused_is found refusal (Some x) e = cc

pub judged_err : (s : StartupState) (read : InitiatorKeying) (full : Option ℕ) (refusal : HearRefusal) (cause : Cause) →
    bytes_eq read.part.responder (sha256 s.cert) ≡ true → is_own s read.cert ≡ false → judged s.ledger (keying_of read) (is_none full) ≡ Err refusal → heard_cause full (Some refusal) ≡ Some cause →
    Err cause ≡ unless_cause (hearing s read Current) (named_cause s read full)
judged_err s read full refusal cause named other e stands =
    let thing : Option Held = held_with s.ledger (sha256 read.cert) in
    let way : Way = way_of s.ledger (sha256 read.cert) in
    let is = refused_is (again_or_way (session_again thing (keying_of read)) way) refusal (hear_refusal s.ledger (keying_of read) (is_none full)) e in
    let third : heard_cause full (hear_refusal s.ledger (keying_of read) (is_none full)) ≡ Some cause = ap (heard_cause full) is ∙ stands in
    sym (λ i. unless_cause (hearing s read Current) (first_that_stands (where_true (not (named i)) WrongResponder ∷ where_true (other i) OwnCertificate ∷ third i ∷ [])))

-- ---- the three ways

module _ (s : StartupState) (from : AddressParts) (now : ℕ) (near : ℕ) (nr : List ℕ) (g : GroupSecret) (read : InitiatorKeying) where
  abbrev pub repeated : Option Joined
  repeated = repeated_session (held_with s.ledger (sha256 read.cert)) (keying_of read)

  abbrev way_there : Way
  way_there = way_of s.ledger (sha256 read.cert)

  pub record GivesAndLeaves (test : CookieTest) (answer : Option Keyed) (after : StartupState) : Type 0 where
    pub gives : keyed_with s from now near nr g read test ≡ answer
    pub leaves : after_keyed_with s near nr g read test ≡ after

  not_change : (o : Option Joined) → heard_as (keying_of read) (again_or_way o way_there) ≡ Change → ⊥
  not_change None e = cc
  not_change (Some j) e = cc

  change_gives : (test : CookieTest) → hearing s read test ≡ Change → GivesAndLeaves test (Some (keyed.Change (change_answer s read from now g))) s
  change_gives Current e = absurd (not_change repeated e)
  change_gives Bad e = record { gives = refl; leaves = refl }
  change_gives Moved e = record { gives = refl; leaves = refl }
  change_gives Expired e = record { gives = refl; leaves = refl }

  held_again : (o : Option Joined) (keying : Keying) (j : Joined) → heard_as (keying_of read) (again_or_way o way_there) ≡ Again keying j → (o ≡ Some j) × (keying_of read ≡ keying)
  held_again None keying j e = absurd (cc)
  held_again (Some k) keying j e = (cc, cc)

  -- it is the keying of a session that is held
  pub record IsRepeat (test : CookieTest) (keying : Keying) (j : Joined) : Type 0 where
    pub gives : GivesAndLeaves test (again_by s j from (get s.kept keying.peer)) s
    pub held_is : repeated_session (held_with s.ledger keying.peer) keying ≡ Some j

  again_gives : (test : CookieTest) (keying : Keying) (j : Joined) → hearing s read test ≡ Again keying j → IsRepeat test keying j
  again_gives Current keying j e =
      let is = held_again repeated keying j e in
      record {
        gives = record {
          gives = ap (again_or_birth s (keying_of read) from near nr g) is.0 ∙ ap (λ (k : Keying). again_by s j from (get s.kept k.peer)) is.1;
          leaves = ap (after_again_or_birth s (keying_of read) near nr g) is.0;
        };
        held_is = ap (λ (k : Keying). repeated_session (held_with s.ledger k.peer) k) (sym is.1) ∙ is.0;
      }
  again_gives Bad keying j e = absurd (cc)
  again_gives Moved keying j e = absurd (cc)
  again_gives Expired keying j e = absurd (cc)

  pub record IsBorn (test : CookieTest) (keying : Keying) (way : Way) : Type 0 where
    pub current : test ≡ Current
    pub keying_is : keying_of read ≡ keying
    pub way_is : way_there ≡ way
    pub fresh : repeated ≡ None

  born_new : (o : Option Joined) (keying : Keying) (way : Way) → heard_as (keying_of read) (again_or_way o way_there) ≡ Birth keying way → (o ≡ None) × (keying_of read ≡ keying) × (way_there ≡ way)
  born_new None keying way e = (refl, cc, cc)
  born_new (Some k) keying way e = absurd (cc)

  pub birth_is : (test : CookieTest) (keying : Keying) (way : Way) → hearing s read test ≡ Birth keying way → IsBorn test keying way
  birth_is Current keying way e =
      let is = born_new repeated keying way e in
      record { current = refl; keying_is = is.1; way_is = is.2; fresh = is.0 }
  birth_is Bad keying way e = absurd (cc)
  birth_is Moved keying way e = absurd (cc)
  birth_is Expired keying way e = absurd (cc)

  pub birth_gives : (test : CookieTest) (keying : Keying) (way : Way) → IsBorn test keying way →
      GivesAndLeaves test (again_or_birth s keying from near nr g None) (after_again_or_birth s keying near nr g None)
  birth_gives test keying way is =
      record {
        gives = ap (keyed_with s from now near nr g read) is.current ∙ ap (again_or_birth s (keying_of read) from near nr g) is.fresh ∙ ap (λ (k : Keying). again_or_birth s k from near nr g None) is.keying_is;
        leaves = ap (after_keyed_with s near nr g read) is.current ∙ ap (after_again_or_birth s (keying_of read) near nr g) is.fresh ∙ ap (λ (k : Keying). after_again_or_birth s k near nr g None) is.keying_is;
      }

-- ---- what was found is so

module _ (s : StartupState) (payload : List ℕ) (from : AddressParts) (now : ℕ) (full : Option ℕ) (g : GroupSecret) (read : InitiatorKeying) where
  pub change_so : (near : ℕ) (nr : List ℕ) → judged_initiator s payload from now full g read ≡ Ok Change →
      GivesAndLeaves s from now near nr g read (cookie_test s.cookie_secret read.cookie from now) (Some (keyed.Change (change_answer s read from now g))) s
  change_so near nr judged = change_gives s from now near nr g read (cookie_test s.cookie_secret read.cookie from now)
      (is_found (hearing s read (cookie_test s.cookie_secret read.cookie from now)) Change (initiator_cause s payload from now full g read) judged)

  pub again_so : (near : ℕ) (nr : List ℕ) (keying : Keying) (j : Joined) → judged_initiator s payload from now full g read ≡ Ok (Again keying j) →
      IsRepeat s from now near nr g read (cookie_test s.cookie_secret read.cookie from now) keying j
  again_so near nr keying j judged = again_gives s from now near nr g read (cookie_test s.cookie_secret read.cookie from now) keying j
      (is_found (hearing s read (cookie_test s.cookie_secret read.cookie from now)) (Again keying j) (initiator_cause s payload from now full g read) judged)

  -- its session can be born
  pub record Bears (near : ℕ) (nr : List ℕ) (keying : Keying) (way : Way) : Type 0 where
    pub other : sha256 s.cert ≡ keying.peer → ⊥
    pub judged_so : judged s.ledger keying (is_none full) ≡ Ok (IsBirth way)
    pub fresh : repeated_session (held_with s.ledger keying.peer) keying ≡ None
    pub gives : GivesAndLeaves s from now near nr g read (cookie_test s.cookie_secret read.cookie from now)
        (again_or_birth s keying from near nr g None) (after_again_or_birth s keying near nr g None)
    pub bears_it : bears_with s read (cookie_test s.cookie_secret read.cookie from now) ≡ true

  pub birth_so : (near : ℕ) (nr : List ℕ) (keying : Keying) (way : Way) → judged_initiator s payload from now full g read ≡ Ok (Birth keying way) → Bears near nr keying way
  birth_so near nr keying way found =
      let t : CookieTest = cookie_test s.cookie_secret read.cookie from now in
      let none : initiator_cause s payload from now full g read ≡ None = uncaused (hearing s read t) (Birth keying way) (initiator_cause s payload from now full g read) found in
      let is : IsBorn s from now near nr g read t keying way =
      birth_is s from now near nr g read t keying way (is_found (hearing s read t) (Birth keying way) (initiator_cause s payload from now full g read) found) in
      let heard : IsHeard s full read = no_cause_is_heard s payload from now full g read none is.current in
      let new : session_again (held_with s.ledger (sha256 read.cert)) (keying_of read) ≡ None = same_session (held_with s.ledger (sha256 read.cert)) (keying_of read) ∙ is.fresh in
      record {
        other = λ same. heard.other (same ∙ sym (ap (λ (k : Keying). k.peer) is.keying_is));
        judged_so = ap (λ (k : Keying). judged s.ledger k (is_none full)) (sym is.keying_is) ∙ (λ i. unless_refused (again_or_way (new i) (is.way_is i)) (heard.heard i));
        fresh = ap (λ (k : Keying). repeated_session (held_with s.ledger k.peer) k) (sym is.keying_is) ∙ is.fresh;
        gives = birth_gives s from now near nr g read t keying way is;
        bears_it = ap (bears_with s read) is.current ∙ ap is_none is.fresh;
      }

-- ---- what a result says of its value carries over

pub if_ok : {A E : Type 0} (P Q : A → Type 0) (r : Result A E) → ((x : A) → P x → Q x) → IfOk r P → IfOk r Q
if_ok P Q (Ok x) go h = go x h
if_ok P Q (Err e) go h = h

pub if_err : {A E : Type 0} (P Q : E → Type 0) (r : Result A E) → ((x : E) → P x → Q x) → IfErr r P → IfErr r Q
if_err P Q (Ok x) go h = h
if_err P Q (Err e) go h = go e h
