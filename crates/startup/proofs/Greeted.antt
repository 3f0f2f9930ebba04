-- Which attempt or search a responder's hello answers, and which cause it has.
use Rattle.std.proofs.Common.{ℕ, List, [], ◌∷◌, ◌≡◌, ◌+◌, ◌==◌, ◌-◌, ◌^◌, ◌||◌, not, drop, Bool, true, false, Option, Some, None, refl, sym, ap, ◌∙◌}
use Rattle.std.specs.Str.{bytes_eq}
use Rattle.sha2.specs.Sha256.{sha256}
use Rattle.crypto_profile.specs.declared.group.GroupSecret.{GroupSecret}
use Rattle.rtmfp_forms.specs.Address.{AddressParts}
use Rattle.rtmfp_base.specs.Reasons.{first_that_stands, where_true}
use Rattle.rtmfp_base.specs.declared.cause.Cause.{Cause}
use Rattle.rtmfp_base.specs.declared.cause.Cause.TheVariants.{AttemptsSpent, NoAttempt, PeersFull, OwnCertificate, WrongPeer, WrongState}
use Rattle.glare_core.specs.declared.answers.StartRefusal.TheVariants.{OwnPrint, AttemptsSpent as NoNumber, PeersFull as NoRow}
use Rattle.glare_core.specs.declared.facts.Held.{Held}
use Rattle.glare_core.specs.Ledger.{Ledger, held_with, row_count}
use Rattle.glare_core.specs.Calls.{peers_full, start_held, start_refusal, started_fact}
use Rattle.startup_packets.specs.Readings.{ResponderKeying}
use Rattle.startup.specs.declared.aim.Aim.{Aim}
use Rattle.startup.specs.declared.aim.Aim.TheVariants.{AtPeer, ByName}
use Rattle.startup.specs.declared.attempt.Stage.{Stage}
use Rattle.startup.specs.declared.attempt.Stage.TheVariants.{Hello, Keying}
use Rattle.startup.specs.Aims.{is_search, is_towards}
use Rattle.startup.specs.State.{AttemptState, StartupState}
use Rattle.startup.specs.Keyings.{attempt_cause, is_in_hello}
use Rattle.startup.specs.declared.leaving.Found.{Found}
use Rattle.startup.specs.declared.leaving.Greeting.{Greeting}
use Rattle.startup.specs.Judging.{IsFound, IsGreeted}
use Rattle.startup.specs.Attempts.{wide, has_search, is_search_at, lowest, has_tag, held_cause, spent_cause, start_cause, search_cause, aim_cause, hello_cause, hello_cause_at, rhello_cause, is_own, is_search_in, answer_fact, answer_fact_as, answer_keying, answer_keying_as, keying_towards, after_answer, after_answer_as, after_start, answered, with_attempt}

-- the cause of what is found by its tag is that of the hello, where neither field is wide
third_stands : (a b c : Option Cause) → a ≡ None → b ≡ None → first_that_stands (a ∷ b ∷ c ∷ []) ≡ c
third_stands None None None x y = refl
third_stands None None (Some cause) x y = refl
third_stands None (Some v) c x y = absurd (cc)
third_stands (Some u) b c x y = absurd (cc)

pub greeted_stands : (s : StartupState) (tag cookie cert : List ℕ) {o : Option Cause} → wide tag ≡ None → wide cookie ≡ None → hello_cause_at s (lowest (has_tag tag) s.attempts) cert ≡ o → rhello_cause s tag cookie cert ≡ o
greeted_stands s tag cookie cert narrow_tag narrow_cookie is =
    third_stands (wide tag) (wide cookie) (hello_cause_at s (lowest (has_tag tag) s.attempts) cert) narrow_tag narrow_cookie ∙ is

-- ---- what a responder's keying opens is no search

pub opens_no_search : (keying : ResponderKeying) (a : AttemptState) (name : List ℕ) → a.aim ≡ ByName name → attempt_cause keying (Some a) ≡ None → ⊥
opens_no_search keying a name searches none =
    let clash : Some NoAttempt ≡ None =
    sym (ap (λ (aim : Aim). first_that_stands (where_true (is_search aim) NoAttempt ∷ where_true (is_in_hello a.stage) WrongState
    ∷ where_true (not (is_towards keying.part.responder a.aim)) WrongPeer ∷ where_true (not (bytes_eq keying.part.ni a.ni)) NoAttempt ∷ [])) searches) ∙ none in
    cc

-- ---- an attempt that may start towards another end

-- what is left of the ledger's reasons where the first two don't stand
pub spent_is : (l : Ledger) (peer : List ℕ) → bytes_eq peer l.own ≡ false → held_with l peer ≡ None → start_cause (start_refusal l peer) ≡ spent_cause l peer
spent_is l peer other unheld =
    (λ i. start_cause (first_that_stands (where_true (other i) OwnPrint ∷ start_held (unheld i) ∷ where_true (l.started == 2 ^ 64 - 1) NoNumber ∷ where_true (peers_full l peer) (NoRow (row_count l)) ∷ [])))
    ∙ go (l.started == 2 ^ 64 - 1) (peers_full l peer)
  where
    go : (spent full : Bool) → start_cause (first_that_stands (None ∷ None ∷ where_true spent NoNumber ∷ where_true full (NoRow (row_count l)) ∷ []))
        ≡ first_that_stands (where_true spent AttemptsSpent ∷ where_true full (PeersFull (row_count l)) ∷ [])
    go true full = refl
    go false true = refl
    go false false = refl

-- it has not the own fingerprint, and nothing is held with it
or_false : (a b : Bool) → (a || b) ≡ false → b ≡ false
or_false true b e = absurd (let clash : true ≡ false = e in cc)
or_false false b e = e

pub other_print : (s : StartupState) (cert : List ℕ) → s.ledger.own ≡ sha256 s.cert → is_own s cert ≡ false → bytes_eq (sha256 cert) s.ledger.own ≡ false
other_print s cert own other = ap (bytes_eq (sha256 cert)) own ∙ or_false (bytes_eq cert s.cert) (bytes_eq (sha256 cert) (sha256 s.cert)) other

pub unheld : (thing : Option Held) → held_cause thing ≡ None → thing ≡ None
unheld None e = refl
unheld (Some thing) e = absurd (cc)

-- where no cause stands, the ledger has none either
all_none : {A : Type 0} (a b c d : Option A) → first_that_stands (a ∷ b ∷ c ∷ d ∷ []) ≡ None → (b ≡ None) × (c ≡ None) × (d ≡ None)
all_none None None None None e = (refl, refl, refl)
all_none None None None (Some x) e = absurd (cc)
all_none None None (Some x) d e = absurd (cc)
all_none None (Some x) c d e = absurd (cc)
all_none (Some x) b c d e = absurd (cc)

untested : {A : Type 0} (test : Bool) (x : A) → where_true test x ≡ None → test ≡ false
untested true x e = absurd (cc)
untested false x e = refl

spent_none : (spent full : Bool) (count : ℕ) → first_that_stands (where_true spent AttemptsSpent ∷ where_true full (PeersFull count) ∷ []) ≡ None → (spent ≡ false) × (full ≡ false)
spent_none true full count e = absurd (cc)
spent_none false true count e = absurd (cc)
spent_none false false count e = (refl, refl)

pub startable : (s : StartupState) (name cert : List ℕ) → s.ledger.own ≡ sha256 s.cert → search_cause s name cert ≡ None → start_refusal s.ledger (sha256 cert) ≡ None
startable s name cert own none =
    let l : Ledger = s.ledger in
    let peer : List ℕ = sha256 cert in
    let parts = all_none (where_true (not (bytes_eq name (drop 16 cert))) WrongPeer) (where_true (is_own s cert) OwnCertificate) (held_cause (held_with l peer)) (spent_cause l peer) none in
    let other : bytes_eq peer l.own ≡ false = other_print s cert own (untested (is_own s cert) OwnCertificate parts.0) in
    let free : held_with l peer ≡ None = unheld (held_with l peer) parts.1 in
    let left = spent_none (l.started == 2 ^ 64 - 1) (peers_full l peer) (row_count l) parts.2 in
    λ i. first_that_stands (where_true (other i) OwnPrint ∷ start_held (free i) ∷ where_true (left.0 i) NoNumber ∷ where_true (left.1 i) (NoRow (row_count l)) ∷ [])

-- a search that has the name, of another end, has the cause of what is held, and then the last ones
search_is : (s : StartupState) (name cert : List ℕ) → bytes_eq name (drop 16 cert) ≡ true → is_own s cert ≡ false →
    search_cause s name cert ≡ first_that_stands (held_cause (held_with s.ledger (sha256 cert)) ∷ spent_cause s.ledger (sha256 cert) ∷ [])
search_is s name cert named other =
    λ i. first_that_stands (where_true (not (named i)) WrongPeer ∷ where_true (other i) OwnCertificate ∷ held_cause (held_with s.ledger (sha256 cert)) ∷ spent_cause s.ledger (sha256 cert) ∷ [])

alone : {A : Type 0} (o : Option A) → first_that_stands (o ∷ []) ≡ o
alone None = refl
alone (Some x) = refl

pub search_held : (s : StartupState) (name cert : List ℕ) (cause : Cause) → bytes_eq name (drop 16 cert) ≡ true → is_own s cert ≡ false → held_cause (held_with s.ledger (sha256 cert)) ≡ Some cause →
    search_cause s name cert ≡ Some cause
search_held s name cert cause named other is = search_is s name cert named other ∙ ap (λ o. first_that_stands (o ∷ spent_cause s.ledger (sha256 cert) ∷ [])) is

pub search_spent : (s : StartupState) (name cert : List ℕ) → bytes_eq name (drop 16 cert) ≡ true → is_own s cert ≡ false → held_cause (held_with s.ledger (sha256 cert)) ≡ None →
    search_cause s name cert ≡ spent_cause s.ledger (sha256 cert)
search_spent s name cert named other is =
    search_is s name cert named other ∙ ap (λ o. first_that_stands (o ∷ spent_cause s.ledger (sha256 cert) ∷ [])) is ∙ alone (spent_cause s.ledger (sha256 cert))

-- an attempt that is found has this cause, and so a search that isn't discarded may start
cause_there : (s : StartupState) (stage : Stage) (aim : Aim) (name cert : List ℕ) → aim ≡ ByName name → hello_cause s stage aim cert ≡ None → search_cause s name cert ≡ None
cause_there s Hello aim name cert searches none = sym (ap (λ (x : Aim). aim_cause s x cert) searches) ∙ none
cause_there s (Keying at cookie under) aim name cert searches none = absurd (cc)

pub may_start : (s : StartupState) (a : AttemptState) (name cert : List ℕ) → s.ledger.own ≡ sha256 s.cert → a.aim ≡ ByName name → hello_cause s a.stage a.aim cert ≡ None → start_refusal s.ledger (sha256 cert) ≡ None
may_start s a name cert own searches none = startable s name cert own (cause_there s a.stage a.aim name cert searches none)

-- ---- searches that are there

pub searched : (o : Option AttemptState) → is_search_in o ≡ true → (a : AttemptState) × (o ≡ Some a) × (is_search a.aim ≡ true)
searched None e = absurd (let clash : false ≡ true = e in cc)
searched (Some a) e = (a, refl, e)

pub found_search : (s : StartupState) (found : Found) (chosen : Option (ℕ × AttemptState)) → IsFound s found chosen → has_search s found.near ≡ true → is_search_at chosen ≡ true
found_search s found chosen is has = ap is_search_at is.chosen_is ∙ ap is_search_in (sym is.there) ∙ has

-- ---- what is found is answered, by what it is towards

module _ (s : StartupState) (print : List ℕ) (found : Found) (chosen : Option (ℕ × AttemptState)) (is : IsFound s found chosen) where
  module _ (peer : List ℕ) (n : ℕ) (aims : is.attempt.aim ≡ AtPeer peer n) where
    pub towards_fact : answer_fact s print chosen ≡ None
    towards_fact = ap (answer_fact s print) is.chosen_is ∙ ap (answer_fact_as s print found.near is.attempt.ni) aims

    pub towards_keying : (from : AddressParts) (cookie : List ℕ) (g : GroupSecret) → answer_keying s print chosen from cookie g ≡ Some (keying_towards s found.near is.attempt.ni peer n from cookie g)
    towards_keying from cookie g =
        ap (λ o. answer_keying s print o from cookie g) is.chosen_is ∙ ap (λ (aim : Aim). Some (answer_keying_as s print found.near is.attempt.ni from cookie g aim)) aims

    pub towards_after : (from : AddressParts) (cookie : List ℕ) (moment : ℕ) (g : GroupSecret) → after_answer s print chosen from cookie moment g ≡ with_attempt s found.near (answered is.attempt from cookie moment g)
    towards_after from cookie moment g =
        ap (λ o. after_answer s print o from cookie moment g) is.chosen_is ∙ ap (λ (aim : Aim). after_answer_as s print (found.near, is.attempt) from cookie moment g aim) aims

  module _ (name : List ℕ) (aims : is.attempt.aim ≡ ByName name) where
    pub search_fact : answer_fact s print chosen ≡ Some (started_fact s.ledger print found.near is.attempt.ni)
    search_fact = ap (answer_fact s print) is.chosen_is ∙ ap (answer_fact_as s print found.near is.attempt.ni) aims

    pub search_keying : (from : AddressParts) (cookie : List ℕ) (g : GroupSecret) → answer_keying s print chosen from cookie g ≡ Some (keying_towards s found.near is.attempt.ni print (s.ledger.started + 1) from cookie g)
    search_keying from cookie g =
        ap (λ o. answer_keying s print o from cookie g) is.chosen_is ∙ ap (λ (aim : Aim). Some (answer_keying_as s print found.near is.attempt.ni from cookie g aim)) aims

    pub search_after : (from : AddressParts) (cookie : List ℕ) (moment : ℕ) (g : GroupSecret) → after_answer s print chosen from cookie moment g ≡ after_start s print found.near is.attempt from cookie moment g
    search_after from cookie moment g =
        ap (λ o. after_answer s print o from cookie moment g) is.chosen_is ∙ ap (λ (aim : Aim). after_answer_as s print (found.near, is.attempt) from cookie moment g aim) aims

    pub has_it : has_search s found.near ≡ true
    has_it = ap is_search_in is.there ∙ ap is_search aims

-- a search that a hello answers may start
pub greeted_starts : (s : StartupState) (greeting : Greeting) (chosen : Option (ℕ × AttemptState)) (cert name : List ℕ) (is : IsGreeted s greeting chosen cert) → s.ledger.own ≡ sha256 s.cert →
    is.found.attempt.aim ≡ ByName name → start_refusal s.ledger greeting.print ≡ None
greeted_starts s greeting chosen cert name is own aims =
    ap (start_refusal s.ledger) is.print ∙ may_start s is.found.attempt name cert own aims (sym (ap (λ o. hello_cause_at s o cert) is.found.chosen_is) ∙ is.none)
