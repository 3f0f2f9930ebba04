-- What happens to the attempts of an end keeps its fingerprint, and that all secrets of the group that it has are known.
use Rattle.std.proofs.Common.{◌≡◌, ℕ, List, [], ◌∷◌, length, Bool, true, false, cond, if◌then◌else◌, Option, Some, None, Result, Ok, Err, ◌⊎◌, inl, inr, refl, sym, ap, subst, ◌∙◌, ◌==◌}
use Rattle.std.specs.Ordering.{eq_by_cmp, nat_cmp}
use Rattle.std.specs.Cmp.Lexicographic.{slice_cmp, nat_list_cmp_total}
use Rattle.std.specs.FinMap.{get, insert, remove, get-insert, get-remove}
use Rattle.rtmfp_forms.specs.Address.{AddressParts}
use Rattle.cookies.specs.declared.CookieTest.{CookieTest}
use Rattle.cookies.specs.declared.CookieTest.TheVariants.{Bad, Moved, Expired, Current}
use Rattle.cookies.specs.Cookie.{cookie_test}
use Rattle.sha2.specs.Sha256.{sha256}
use Rattle.crypto_profile.specs.declared.group.GroupSecret.{GroupSecret}
use Rattle.crypto_profile.specs.declared.keys.Context.TheVariants.{Startup as StartupContext}
use Rattle.crypto_profile.specs.Keys.{sign_key_of, keys_of}
use Rattle.crypto_profile.proofs.Streams.{length-hmac}
use Rattle.glare_core.specs.declared.facts.Fact.{Fact}
use Rattle.glare_core.specs.declared.facts.Joined.{Joined}
use Rattle.glare_core.specs.declared.facts.Why.{Why}
use Rattle.glare_core.specs.declared.answers.Heard.{Heard}
use Rattle.glare_core.specs.declared.answers.Heard.TheVariants.{Again, Birth}
use Rattle.glare_core.specs.declared.answers.Keying.{Keying as OfferedKeying}
use Rattle.glare_core.specs.Ledger.{Ledger, held_with, noted_if}
use Rattle.glare_core.specs.Calls.{heard, heard_noted}
use Rattle.rtmfp_base.specs.declared.cause.Cause.{Cause}
use Rattle.rtmfp_base.specs.Reasons.{where_true}
use Rattle.rtmfp_base.proofs.Maps.{found_inserted, found_left}
use Rattle.rtmfp_base.proofs.Lowest.{first_is_there}
use Rattle.startup.specs.declared.attempt.Stage.{Stage}
use Rattle.startup.specs.declared.attempt.Stage.TheVariants.{Hello, Keying}
use Rattle.startup.specs.declared.kept.KeptKeying.{KeptKeying}
use Rattle.startup.specs.State.{StartupState, AttemptState, Attempts, KeptKeyings}
use Rattle.startup.specs.Attempts.{lowest, has_tag, has_cookie, if_cookie, changed, with_cookie, recookied, confirm_fact, with_ledger, with_attempt, without_attempt_by, after_confirm, end_fact, after_end, after_end_by, is_search_in, after_unseek, after_change, after_cookie_change}
use Rattle.startup.specs.Due.{repeated}
use Rattle.startup_packets.specs.Readings.{InitiatorKeying, initiator_keying_in}
use Rattle.startup.specs.Keyings.{keying_of, born_session, kept_keying, repeated_session, opening_id, without, after_again_or_birth, after_keyed_with, after_keyed_reading, after_keying}
use Rattle.startup.specs.Redirects.{told_addresses, new_candidates, extended, after_extension, after_redirect_of, after_redirect}
use Rattle.endpoint_model.specs.declared.place.Place.{Place}
use Rattle.endpoint_model.specs.declared.place.Place.TheVariants.{Startup, Attempt, Session}
use Rattle.endpoint_model.specs.State.{State, with_startup}
use Rattle.endpoint_model.specs.Admission.{stage_group, attempt_group, known_group, group_at}
use Rattle.endpoint_laws.specs.Contexts.{Secrets}
use Rattle.endpoint_laws.specs.Groups.{HasSecret}

-- ---- secrets of the group

-- What answers repeated keyings goes out under the secret of its generation.
pub record IsKeptUnder (secrets : Secrets) (kept : KeptKeying) : Type 0 where
  pub secret : List ℕ
  pub known : get secrets kept.generation ≡ Some secret
  pub keys : kept.keys ≡ keys_of secret (StartupContext kept.generation)
  pub sign : length kept.sign ≡ 32

-- The map has each secret that the end keeps.
pub record HoldsSecrets (secrets : Secrets) (s : State) : Type 0 where
  pub current : HasSecret secrets s.group
  pub next : (g : GroupSecret) → s.next ≡ Some g → HasSecret secrets g
  pub attempts : (near : ℕ) (a : AttemptState) → get s.startup.attempts near ≡ Some a → HasSecret secrets (attempt_group s.group (Some a))
  pub kept : (peer : List ℕ) (kept : KeptKeying) → get s.startup.kept peer ≡ Some kept → IsKeptUnder secrets kept

-- so it has that of each attempt and of each place

attempt_known : (secrets : Secrets) (s : State) → HoldsSecrets secrets s → (near : ℕ) → HasSecret secrets (attempt_group s.group (get s.startup.attempts near))
attempt_known secrets s holds near = by (get s.startup.attempts near) refl
  where
    by : (o : Option AttemptState) → get s.startup.attempts near ≡ o → HasSecret secrets (attempt_group s.group o)
    by None is = holds.current
    by (Some a) is = holds.attempts near a is

next_or_current : (secrets : Secrets) (generation : ℕ) (next : Option GroupSecret) (current : GroupSecret) → HasSecret secrets current → ((g : GroupSecret) → next ≡ Some g → HasSecret secrets g) →
    HasSecret secrets (known_group generation next current)
next_or_current secrets generation None current has later = has
next_or_current secrets generation (Some next) current has later = by (next.generation == generation)
  where
    by : (b : Bool) → HasSecret secrets (if b then next else current)
    by true = later next refl
    by false = has

pub group_known : (secrets : Secrets) (s : State) → HoldsSecrets secrets s → (place : Place) → HasSecret secrets (group_at s place)
group_known secrets s holds (Startup generation) = next_or_current secrets generation s.next s.group holds.current holds.next
group_known secrets s holds (Attempt near generation) = attempt_known secrets s holds near
group_known secrets s holds (Session near) = holds.current

-- what leaves attempts, and keeps what answers under secrets that are known
pub holds_left : (secrets : Secrets) (s t : State) → HoldsSecrets secrets s → t.group ≡ s.group → t.next ≡ s.next → ((near : ℕ) (a : AttemptState) → get t.startup.attempts near ≡ Some a → get s.startup.attempts near ≡ Some a) →
    ((peer : List ℕ) (kept : KeptKeying) → get t.startup.kept peer ≡ Some kept → IsKeptUnder secrets kept) → HoldsSecrets secrets t
holds_left secrets s t holds group next there kept = record {
  current = subst (HasSecret secrets) (sym group) holds.current;
  next = λ g e. holds.next g (sym next ∙ e);
  attempts = λ near a e. subst (λ (g : GroupSecret). HasSecret secrets (attempt_group g (Some a))) (sym group) (holds.attempts near a (there near a e));
  kept = kept;
}

-- what is no matter of startup and of its generations leaves them as they are
pub holds_still : (secrets : Secrets) (s t : State) → HoldsSecrets secrets s → t.group ≡ s.group → t.next ≡ s.next → t.startup ≡ s.startup → HoldsSecrets secrets t
holds_still secrets s t holds group next startup =
    holds_left secrets s t holds group next (λ near a e. sym (ap (λ (x : StartupState). get x.attempts near) startup) ∙ e) (λ peer k e. holds.kept peer k (sym (ap (λ (x : StartupState). get x.kept peer) startup) ∙ e))

-- ---- the attempts that are found

pub answered_there : (attempts : Attempts) (tag : List ℕ) (e : ℕ × AttemptState) → lowest (has_tag tag) attempts ≡ Some e → get attempts e.0 ≡ Some e.1
answered_there attempts tag e is = (first_is_there (has_tag tag) attempts e is).0

if_cookie_there : (cookie : List ℕ) (near : ℕ) (o : Option AttemptState) (e : ℕ × AttemptState) → if_cookie cookie near o ≡ Some e → (near ≡ e.0) × (o ≡ Some e.1)
if_cookie_there cookie near None e is = absurd (cc)
if_cookie_there cookie near (Some a) e is = by (has_cookie cookie a) is
  where
    by : (b : Bool) → where_true b (near, a) ≡ Some e → (near ≡ e.0) × (Some a ≡ Some e.1)
    by true is = let same : (near, a) ≡ e = cc in (ap (λ (p : ℕ × AttemptState). p.0) same, ap (λ (p : ℕ × AttemptState). Some p.1) same)
    by false is = absurd (cc)

pub changed_there : (attempts : Attempts) (sid : ℕ) (old : List ℕ) (e : ℕ × AttemptState) → changed attempts sid old ≡ Some e → get attempts e.0 ≡ Some e.1
changed_there attempts sid old e is = by (sid == 0) is
  where
    by : (b : Bool) → (if b then lowest (has_cookie old) attempts else if_cookie old sid (get attempts sid)) ≡ Some e → get attempts e.0 ≡ Some e.1
    by true is = (first_is_there (has_cookie old) attempts e is).0
    by false is = let found = if_cookie_there old sid (get attempts sid) e is in ap (get attempts) (sym found.0) ∙ found.1

-- ---- what is kept of an end

pub record IsKin (s : State) (new : StartupState) : Type 0 where
  pub own : new.ledger.own ≡ s.startup.ledger.own
  pub holds : (secrets : Secrets) → HoldsSecrets secrets s → HoldsSecrets secrets (with_startup s new)

pub kin_itself : (s : State) → IsKin s s.startup
kin_itself s = record { own = refl; holds = λ secrets holds. holds }

noted_own : (l : Ledger) (o : Option Fact) → (noted_if l o).own ≡ l.own
noted_own l None = refl
noted_own l (Some fact) = refl

-- what is found among kept keyings after an insert or a removal was put there, or was there before
kept_put : (m : KeptKeyings) (p q : List ℕ) (k v : KeptKeying) → get (insert m p k) q ≡ Some v → (k ≡ v) ⊎ (get m q ≡ Some v)
kept_put m p q k v e = by (eq_by_cmp (slice_cmp nat_cmp) q p) (sym (get-insert nat_list_cmp_total m p k q) ∙ e)
  where
    by : (b : Bool) → cond b (Some k) (get m q) ≡ Some v → (k ≡ v) ⊎ (get m q ≡ Some v)
    by true is = inl (let same : k ≡ v = cc in same)
    by false is = inr is

kept_left : (m : KeptKeyings) (p q : List ℕ) (v : KeptKeying) → get (remove m p) q ≡ Some v → get m q ≡ Some v
kept_left m p q v e = by (eq_by_cmp (slice_cmp nat_cmp) q p) (sym (get-remove nat_list_cmp_total m p q) ∙ e)
  where
    by : (b : Bool) → cond b None (get m q) ≡ Some v → get m q ≡ Some v
    by true is = absurd (cc)
    by false is = is

-- ---- attempts

-- a change of the ledger alone
pub kin_noted : (s : State) (ledger : Ledger) → ledger.own ≡ s.startup.ledger.own → IsKin s (with_ledger s.startup ledger)
kin_noted s ledger own = record { own = own; holds = λ secrets holds. holds_left secrets s (with_startup s (with_ledger s.startup ledger)) holds refl refl (λ near a e. e) holds.kept }

-- an attempt is put there whose secret is known, too
pub kin_put : (s : State) (ledger : Ledger) (near : ℕ) (a : AttemptState) → ledger.own ≡ s.startup.ledger.own → ((secrets : Secrets) → HoldsSecrets secrets s → HasSecret secrets (attempt_group s.group (Some a))) →
    IsKin s (with_attempt (with_ledger s.startup ledger) near a)
kin_put s ledger near a own under = record {
  own = own;
  holds = λ secrets holds. record {
    current = holds.current;
    next = holds.next;
    attempts = λ q b e. elim (found_inserted s.startup.attempts near a q b e) [
      | inl here ↦ subst (λ (x : AttemptState). HasSecret secrets (attempt_group s.group (Some x))) here.1 (under secrets holds)
      | inr other ↦ holds.attempts q b other.1
    ];
    kept = holds.kept;
  };
}

-- one that sends hellos is
pub kin_begin : (s : State) (ledger : Ledger) (near : ℕ) (a : AttemptState) → ledger.own ≡ s.startup.ledger.own → a.stage ≡ Hello → IsKin s (with_attempt (with_ledger s.startup ledger) near a)
kin_begin s ledger near a own hello = kin_put s ledger near a own (λ secrets holds. subst (λ (stage : Stage). HasSecret secrets (stage_group s.group stage)) (sym hello) holds.current)

-- so is one that was answered in a datagram that came at a place
pub kin_answered : (s : State) (place : Place) (ledger : Ledger) (near : ℕ) (a : AttemptState) (at : AddressParts) (cookie : List ℕ) → ledger.own ≡ s.startup.ledger.own → a.stage ≡ Keying at cookie (group_at s place) →
    IsKin s (with_attempt (with_ledger s.startup ledger) near a)
kin_answered s place ledger near a at cookie own keying = kin_put s ledger near a own (λ secrets holds. subst (λ (stage : Stage). HasSecret secrets (stage_group s.group stage)) (sym keying) (group_known secrets s holds place))

-- and one that goes on
pub kin_goes_on : (s : State) (e : ℕ × AttemptState) → get s.startup.attempts e.0 ≡ Some e.1 → (a : AttemptState) → ((current : GroupSecret) → stage_group current a.stage ≡ stage_group current e.1.stage) → IsKin s (with_attempt s.startup e.0 a)
kin_goes_on s e there a same = kin_put s s.startup.ledger e.0 a refl (λ secrets holds. subst (HasSecret secrets) (sym (same s.group)) (holds.attempts e.0 e.1 there))

pub kin_repeat : (s : State) (e : ℕ × AttemptState) → get s.startup.attempts e.0 ≡ Some e.1 → (moment : ℕ) → IsKin s (with_attempt s.startup e.0 (repeated e.1 moment))
kin_repeat s e there moment = kin_goes_on s e there (repeated e.1 moment) (λ current. refl)

-- an attempt goes, with its fact where there is one
pub kin_without : (s : State) (near : ℕ) (fact : Option Fact) → IsKin s (without_attempt_by s.startup near fact)
kin_without s near fact = record {
  own = noted_own s.startup.ledger fact;
  holds = λ secrets holds. holds_left secrets s (with_startup s (without_attempt_by s.startup near fact)) holds refl refl (λ q a e. (found_left s.startup.attempts near q a e).1) holds.kept;
}

pub kin_confirm : (s : State) (peer : List ℕ) → IsKin s (after_confirm s.startup peer)
kin_confirm s peer = kin_noted s (noted_if s.startup.ledger (confirm_fact s.startup peer)) (noted_own s.startup.ledger (confirm_fact s.startup peer))

pub ended_kin : (s : State) (peer : List ℕ) (o : Option Fact) → IsKin s (after_end_by s.startup peer o)
ended_kin s peer None = kin_itself s
ended_kin s peer (Some fact) = record {
  own = refl;
  holds = λ secrets holds. holds_left secrets s (with_startup s (after_end_by s.startup peer (Some fact))) holds refl refl (λ q a e. e) (λ q k e. holds.kept q k (kept_left s.startup.kept peer q k e));
}

pub kin_end : (s : State) (peer : List ℕ) (why : Why) → IsKin s (after_end s.startup peer why)
kin_end s peer why = ended_kin s peer (end_fact s.startup peer why)

pub kin_unseek : (s : State) (near : ℕ) → IsKin s (after_unseek s.startup near)
kin_unseek s near = by (is_search_in (get s.startup.attempts near))
  where
    by : (b : Bool) → IsKin s (if b then record s.startup { attempts = remove s.startup.attempts near } else s.startup)
    by true = kin_without s near None
    by false = kin_itself s

-- an attempt with another cookie sends under the secret that it has
recookied_same : (cookie : List ℕ) (stage : Stage) (current : GroupSecret) → stage_group current (with_cookie cookie stage) ≡ stage_group current stage
recookied_same cookie Hello current = refl
recookied_same cookie (Keying at old under) current = refl

pub changed_kin : (s : State) (o : Option (ℕ × AttemptState)) (cookie : List ℕ) (moment : ℕ) → ((e : ℕ × AttemptState) → o ≡ Some e → get s.startup.attempts e.0 ≡ Some e.1) → IsKin s (after_change s.startup o cookie moment)
changed_kin s None cookie moment there = kin_itself s
changed_kin s (Some e) cookie moment there = kin_goes_on s e (there e refl) (recookied e.1 cookie moment) (recookied_same cookie e.1.stage)

pub kin_change : (s : State) (sid : ℕ) (old new : List ℕ) (moment : ℕ) → IsKin s (after_cookie_change s.startup sid old new moment)
kin_change s sid old new moment = changed_kin s (changed s.startup.attempts sid old) new moment (changed_there s.startup.attempts sid old)

pub extended_kin : (s : State) (e : ℕ × AttemptState) → get s.startup.attempts e.0 ≡ Some e.1 → (new : List AddressParts) (moment : ℕ) → IsKin s (after_extension s.startup e new moment)
extended_kin s e there [] moment = kin_itself s
extended_kin s e there (first ∷ others) moment = kin_goes_on s e there (extended e.1 (first ∷ others) moment) (λ current. refl)

redirected_kin : (s : State) (o : Option (ℕ × AttemptState)) (addresses : List AddressParts) (moment : ℕ) → ((e : ℕ × AttemptState) → o ≡ Some e → get s.startup.attempts e.0 ≡ Some e.1) →
    IsKin s (after_redirect_of s.startup o addresses moment)
redirected_kin s None addresses moment there = kin_itself s
redirected_kin s (Some e) addresses moment there = extended_kin s e (there e refl) (new_candidates e.1.candidates addresses) moment

pub kin_redirect : (s : State) (tag list : List ℕ) (from : AddressParts) (moment : ℕ) → IsKin s (after_redirect s.startup tag list from moment)
kin_redirect s tag list from moment = redirected_kin s (lowest (has_tag tag) s.startup.attempts) (told_addresses list from) moment (answered_there s.startup.attempts tag)

-- ---- keyings

heard_own : (l : Ledger) (h : Heard) → (heard_noted l h).own ≡ l.own
heard_own l (Again near) = refl
heard_own l (Birth None born) = refl
heard_own l (Birth (Some ended) born) = refl

without_there : (attempts : Attempts) (gone : Option ℕ) (near : ℕ) (a : AttemptState) → get (without attempts gone) near ≡ Some a → get attempts near ≡ Some a
without_there attempts None near a e = e
without_there attempts (Some k) near a e = (found_left attempts k near a e).1

-- what is kept of a birth
kept_under : (secrets : Secrets) (s : StartupState) (j : Joined) (g : GroupSecret) → HasSecret secrets g → IsKeptUnder secrets (kept_keying s j g)
kept_under secrets s j g has = record { secret = g.secret; known = has; keys = refl; sign = length-hmac (sign_key_of g.secret) _ }

pub born_kept : (secrets : Secrets) (s : State) → HoldsSecrets secrets s → (peer : List ℕ) (j : Joined) (g : GroupSecret) → HasSecret secrets g → (q : List ℕ) (kept : KeptKeying) →
    get (insert s.startup.kept peer (kept_keying s.startup j g)) q ≡ Some kept → IsKeptUnder secrets kept
born_kept secrets s holds peer j g has q kept e = elim (kept_put s.startup.kept peer q (kept_keying s.startup j g) kept e) [
  | inl here ↦ subst (IsKeptUnder secrets) here (kept_under secrets s.startup j g has)
  | inr other ↦ holds.kept q kept other
]

module _ (s : State) (place : Place) where
  born_kin : (keying : OfferedKeying) (near : ℕ) (nr : List ℕ) → IsKin s (after_again_or_birth s.startup keying near nr (group_at s place) None)
  born_kin keying near nr = record {
    own = heard_own s.startup.ledger (heard s.startup.ledger keying near nr);
    holds = λ secrets holds. holds_left secrets s (with_startup s (after_again_or_birth s.startup keying near nr (group_at s place) None)) holds refl refl
        (λ q a e. without_there s.startup.attempts (opening_id (held_with s.startup.ledger keying.peer)) q a e)
        (born_kept secrets s holds keying.peer (born_session s.startup.ledger keying near nr) (group_at s place) (group_known secrets s holds place));
  }

  keyed_kin : (near : ℕ) (nr : List ℕ) (keying : InitiatorKeying) (test : CookieTest) → IsKin s (after_keyed_with s.startup near nr (group_at s place) keying test)
  keyed_kin near nr keying Current = by (repeated_session (held_with s.startup.ledger (sha256 keying.cert)) (keying_of keying))
    where
      by : (o : Option Joined) → IsKin s (after_again_or_birth s.startup (keying_of keying) near nr (group_at s place) o)
      by (Some j) = kin_itself s
      by None = born_kin (keying_of keying) near nr
  keyed_kin near nr keying Bad = kin_itself s
  keyed_kin near nr keying Moved = kin_itself s
  keyed_kin near nr keying Expired = kin_itself s

  reading_kin : (from : AddressParts) (now near : ℕ) (nr : List ℕ) (r : Result InitiatorKeying Cause) → IsKin s (after_keyed_reading s.startup from now near nr (group_at s place) r)
  reading_kin from now near nr (Ok keying) = keyed_kin near nr keying (cookie_test s.startup.cookie_secret keying.cookie from now)
  reading_kin from now near nr (Err cause) = kin_itself s

  pub kin_keying : (payload : List ℕ) (from : AddressParts) (now near : ℕ) (nr : List ℕ) → IsKin s (after_keying s.startup payload from now near nr (group_at s place))
  kin_keying payload from now near nr = reading_kin from now near nr (initiator_keying_in payload)
