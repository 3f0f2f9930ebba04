-- What no cause of a keying leaves.
use Rattle.std.proofs.Common.{ℕ, List, [], ◌∷◌, ◌≡◌, Bool, true, false, ◌||◌, ◌&&◌, not, Option, Some, None, is_some, is_none, refl, sym, ap, ◌∙◌, if◌then◌else◌, nat_le}
use Rattle.std.specs.Str.{bytes_eq}
use Rattle.std.proofs.lemmas.Slice.Eq.{bytes_eq-Decides}
use Rattle.sha2.specs.Sha256.{sha256}
use Rattle.crypto_profile.specs.declared.group.GroupSecret.{GroupSecret}
use Rattle.rtmfp_forms.specs.Address.{AddressParts}
use Rattle.identity.specs.Order.{is_above}
use Rattle.cookies.specs.declared.CookieTest.TheVariants.{Current}
use Rattle.cookies.specs.Cookie.{cookie_test}
use Rattle.glare_core.specs.declared.facts.Held.{Held}
use Rattle.glare_core.specs.declared.facts.Held.TheVariants.{Opening, HalfOpen, KeptAsResponder, KeptAsInitiator}
use Rattle.glare_core.specs.declared.answers.Keying.{Keying}
use Rattle.glare_core.specs.declared.answers.HearRefusal.{HearRefusal}
use Rattle.glare_core.specs.declared.answers.HearRefusal.TheVariants.{Stale, Glare, PeersFull, SessionsFull, Memory}
use Rattle.glare_core.specs.Ledger.{Ledger, held_with, floor_of, row_count}
use Rattle.rtmfp_base.specs.Reasons.{where_true, first_that_stands}
use Rattle.glare_core.specs.Calls.{again_of, peers_full, glare_of, birth_refusal, hear_refusal}
use Rattle.rtmfp_base.specs.declared.cause.Cause.{Cause}
use Rattle.rtmfp_base.specs.declared.cause.Cause.TheVariants.{OwnCertificate, BadSignature, WrongResponder}
use Rattle.startup_packets.specs.Packets.{is_signed}
use Rattle.startup.specs.State.{StartupState}
use Rattle.startup.specs.Attempts.{wide, is_own}
use Rattle.startup_packets.specs.Readings.{InitiatorKeying}
use Rattle.startup.specs.Keyings.{keying_of, heard_cause, named_cause, cookie_cause, initiator_cause}

-- of three answers none stands where the first that stands is none
second_none : {A : Type 0} (a b c : Option A) → first_that_stands (a ∷ b ∷ c ∷ []) ≡ None → b ≡ None
second_none None None c e = refl
second_none None (Some x) c e = absurd (cc)
second_none (Some x) b c e = absurd (cc)

third_none : {A : Type 0} (a b c : Option A) → first_that_stands (a ∷ b ∷ c ∷ []) ≡ None → c ≡ None
third_none None None None e = refl
third_none None None (Some x) e = absurd (cc)
third_none None (Some x) c e = absurd (cc)
third_none (Some x) b c e = absurd (cc)

-- ---- the ledger never answers want of memory as a refusal that stands

NotMemory : Option HearRefusal → Type 0
NotMemory o = o ≡ Some Memory → ⊥

first_is_not : (o : Option HearRefusal) (rest : List (Option HearRefusal)) → NotMemory o → NotMemory (first_that_stands rest) → NotMemory (first_that_stands (o ∷ rest))
unfolding NotMemory
first_is_not None rest a b = b
first_is_not (Some x) rest a b = a

tested_is_not : (test : Bool) (x : HearRefusal) → (x ≡ Memory → ⊥) → NotMemory (where_true test x)
unfolding NotMemory
tested_is_not true x ne = λ e. ne (cc)
tested_is_not false x ne = λ e. cc

glare_is_not : (own peer : List ℕ) (thing : Option Held) → NotMemory (glare_of own peer thing)
unfolding NotMemory
glare_is_not own peer None = λ e. cc
glare_is_not own peer (Some (Opening n near ni)) = tested_is_not (is_above own peer) (Glare n) (λ e. cc)
glare_is_not own peer (Some (HalfOpen j)) = λ e. cc
glare_is_not own peer (Some (KeptAsResponder j)) = λ e. cc
glare_is_not own peer (Some (KeptAsInitiator j)) = λ e. cc

birth_is_not : (l : Ledger) (keying : Keying) (free : Bool) → NotMemory (birth_refusal l keying free)
unfolding NotMemory
birth_is_not l keying free =
    let floor = floor_of l keying.peer in
    let thing = held_with l keying.peer in
    let glare = glare_of l.own keying.peer thing in
    let rows = where_true (peers_full l keying.peer) (PeersFull (row_count l)) in
    let places = where_true (is_none thing && not free) SessionsFull in
    first_is_not (where_true (nat_le keying.n floor) (Stale floor)) (glare ∷ rows ∷ places ∷ []) (tested_is_not (nat_le keying.n floor) (Stale floor) (λ e. cc))
    (first_is_not glare (rows ∷ places ∷ []) (glare_is_not l.own keying.peer thing)
    (first_is_not rows (places ∷ []) (tested_is_not (peers_full l keying.peer) (PeersFull (row_count l)) (λ e. cc))
    (first_is_not places [] (tested_is_not (is_none thing && not free) SessionsFull (λ e. cc)) (λ e. cc))))

chosen_is_not : (again : Bool) (o : Option HearRefusal) → NotMemory o → NotMemory (if again then None else o)
unfolding NotMemory
chosen_is_not true o ne = λ e. cc
chosen_is_not false o ne = ne

hear_is_not : (l : Ledger) (keying : Keying) (free : Bool) → NotMemory (hear_refusal l keying free)
hear_is_not l keying free = chosen_is_not (is_some (again_of (held_with l keying.peer) keying)) (birth_refusal l keying free) (birth_is_not l keying free)

unheard : (full : Option ℕ) (o : Option HearRefusal) → NotMemory o → heard_cause full o ≡ None → o ≡ None
unfolding NotMemory
unheard full None ne e = refl
unheard full (Some (Stale floor)) ne e = absurd (cc)
unheard full (Some (Glare n)) ne e = absurd (cc)
unheard full (Some (PeersFull n)) ne e = absurd (cc)
unheard full (Some SessionsFull) ne e = absurd (cc)
unheard full (Some Memory) ne e = absurd (ne refl)

-- ---- a keying with a current cookie

untested : {A : Type 0} (test : Bool) (x : A) → where_true test x ≡ None → test ≡ false
untested true x e = absurd (cc)
untested false x e = refl

or_true : (a b : Bool) → b ≡ true → (a || b) ≡ true
or_true true b e = refl
or_true false b e = e

-- the two ends have different fingerprints
pub other_print : (s : StartupState) (cert : List ℕ) → is_own s cert ≡ false → sha256 s.cert ≡ sha256 cert → ⊥
other_print s cert not_own same =
    let t : is_own s cert ≡ true =
    or_true (bytes_eq cert s.cert) (bytes_eq (sha256 cert) (sha256 s.cert)) ((bytes_eq-Decides (sha256 cert) (sha256 s.cert)).1 (sym same)) in
    let clash : true ≡ false = sym t ∙ not_own in
    cc

-- nothing keeps a keying with a current cookie from being heard
pub record IsHeard (s : StartupState) (full : Option ℕ) (keying : InitiatorKeying) : Type 0 where
  pub other : sha256 s.cert ≡ sha256 keying.cert → ⊥
  pub heard : hear_refusal s.ledger (keying_of keying) (is_none full) ≡ None

named : (s : StartupState) (full : Option ℕ) (keying : InitiatorKeying) → named_cause s keying full ≡ None → IsHeard s full keying
named s full keying none =
    let wrong : Option Cause = where_true (not (bytes_eq keying.part.responder (sha256 s.cert))) WrongResponder in
    let own : Option Cause = where_true (is_own s keying.cert) OwnCertificate in
    let refused : Option HearRefusal = hear_refusal s.ledger (keying_of keying) (is_none full) in
    record {
      other = other_print s keying.cert (untested (is_own s keying.cert) OwnCertificate (second_none wrong own (heard_cause full refused) none));
      heard = unheard full refused (hear_is_not s.ledger (keying_of keying) (is_none full)) (third_none wrong own (heard_cause full refused) none);
    }

pub no_cause_is_heard : (s : StartupState) (payload : List ℕ) (from : AddressParts) (now : ℕ) (full : Option ℕ) (g : GroupSecret) (keying : InitiatorKeying)
    → initiator_cause s payload from now full g keying ≡ None → cookie_test s.cookie_secret keying.cookie from now ≡ Current → IsHeard s full keying
no_cause_is_heard s payload from now full g keying none current =
    let signed : Option Cause = where_true (not (is_signed g.secret payload keying.sign)) BadSignature in
    let tested : Option Cause = cookie_cause (cookie_test s.cookie_secret keying.cookie from now) (named_cause s keying full) in
    named s full keying (sym (ap (λ t. cookie_cause t (named_cause s keying full)) current) ∙ third_none signed (wide keying.cookie) tested none)
