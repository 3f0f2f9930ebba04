-- Chunks that speak of an attempt: what they do to the one that was found is what their rules say.
use Rattle.std.proofs.Common.{ℕ, ◌≡◌, Bool, true, false, if◌then◌else◌, List, [], length, Option, Some, None, refl, sym, ap, ◌∙◌, subst}
use Rattle.rtmfp_forms.specs.Address.{AddressParts}
use Rattle.rtmfp_chunks.specs.Chunk.{RHello}
use Rattle.glare_core.specs.declared.facts.Fact.{Fact}
use Rattle.startup.specs.declared.answer.Answer.{Answer}
use Rattle.startup.specs.declared.leaving.Found.{Found}
use Rattle.startup.specs.declared.leaving.Greeting.{Greeting}
use Rattle.startup.specs.State.{AttemptState, SpreadParts, StartupState}
use Rattle.startup.specs.Attempts.{lowest, has_tag, changed, rhello_fact, after_rhello, rhello_keying, answer_fact, after_answer, answer_keying, after_change, change_keying, after_cookie_change, cookie_change_keying}
use Rattle.startup.specs.Redirects.{sent_by_spread}
use Rattle.startup.specs.Judging.{IsFound, IsGreeted, found_in, ExtensionParts, Extends, extension_spread}
use Rattle.startup.proofs.Choices.{found_is}
use Rattle.crypto_profile.specs.declared.group.GroupSecret.{GroupSecret}
use Rattle.endpoint_model.specs.declared.place.Place.{Place}
use Rattle.endpoint_model.specs.Added.{Added}
use Rattle.endpoint_model.specs.Admission.{group_at}
use Rattle.endpoint_model.specs.State.{State, Did, Done, nothing, after_entries, fact_entries, with_startup}
use Rattle.endpoint_model.specs.Sending.{is_spent, sent_answer, sent_if}
use Rattle.end_chunks.specs.Judging.{greeting_did, hello_did, view_done}

-- ---- a responder's hello

-- once no count of a startup packet is left, nothing goes out
spent_is : {A : Type 0} (b : Bool) (x y : A) → b ≡ true → (if b then x else y) ≡ x
spent_is true x y is = refl
spent_is false x y is = absurd (cc)

nothing_goes : (s : State) (answer : Option Answer) → is_spent s ≡ true → sent_if s answer ≡ nothing s
nothing_goes s None is = refl
nothing_goes s (Some answer) is = spent_is (is_spent s) (nothing s) _ is

unless_spent : (s left : State) (fact : Option Fact) (answer : Option Answer) (b : Bool) → is_spent s ≡ b →
    after_entries (fact_entries (if b then None else fact)) (sent_if (if b then s else left) answer)
    ≡ (if b then nothing s else after_entries (fact_entries fact) (sent_if left answer))
unless_spent s left fact answer true is = ap (λ (d : Did). after_entries [] d) (nothing_goes s answer is)
unless_spent s left fact answer false is = refl

-- the hello with this certificate does what the attempt or search does that was found, with its fingerprint
pub hello_does : (s : State) (place : Place) (from : AddressParts) (tag cookie cert : List ℕ) (greeting : Greeting) → IsGreeted s.startup greeting (lowest (has_tag tag) s.startup.attempts) cert →
    view_done s place from (RHello tag cookie cert) ≡ hello_did s (group_at s place) greeting.print (found_in s.startup greeting.found) from cookie
hello_does s place from tag cookie cert greeting is =
    unless_spent s (with_startup s (after_rhello s.startup tag cookie cert from s.moment (group_at s place))) (rhello_fact s.startup tag cert) (rhello_keying s.startup tag cookie cert from (group_at s place)) (is_spent s) refl
    ∙ ap (λ (print : List ℕ). hello_did s (group_at s place) print (lowest (has_tag tag) s.startup.attempts) from cookie) (sym is.print)
    ∙ ap (λ (o : Option (ℕ × AttemptState)). hello_did s (group_at s place) greeting.print o from cookie) (found_is s.startup greeting.found (lowest (has_tag tag) s.startup.attempts) is.found)

-- what startup told of the one that was chosen, and then its keying, is what the one does that was found
pub hello_so : (s t : State) (g group : GroupSecret) (print : List ℕ) (chosen found : Option (ℕ × AttemptState)) (from : AddressParts) (cookie : List ℕ) (fact : Option Fact) (answer : Answer) (new : State) (before after : Added) →
    g ≡ group → chosen ≡ found → fact ≡ answer_fact s.startup print chosen → answer_keying s.startup print chosen from cookie g ≡ Some answer →
    t ≡ with_startup s (after_answer s.startup print chosen from cookie s.moment g) →
    Done (after_entries (fact_entries fact) (sent_answer t answer)) new before after → Done (greeting_did s group print found from cookie) new before after
hello_so s t g group print chosen found from cookie fact answer new before after under same fact_is answer_is t_is done =
    let left : State = with_startup s (after_answer s.startup print chosen from cookie s.moment g) in
    let did : after_entries (fact_entries fact) (sent_answer t answer) ≡ greeting_did s group print found from cookie =
    ap (λ (f : Option Fact). after_entries (fact_entries f) (sent_answer t answer)) fact_is
    ∙ ap (λ (u : State). after_entries (fact_entries (answer_fact s.startup print chosen)) (sent_answer u answer)) t_is
    ∙ ap (λ (o : Option Answer). after_entries (fact_entries (answer_fact s.startup print chosen)) (sent_if left o)) (sym answer_is)
    ∙ ap (λ (o : Option (ℕ × AttemptState)). greeting_did s g print o from cookie) same
    ∙ ap (λ (h : GroupSecret). greeting_did s h print found from cookie) under in
    subst (λ (d : Did). Done d new before after) did done

-- ---- a change of a cookie

abbrev pub change_did : State → Option (ℕ × AttemptState) → List ℕ → Did
change_did s chosen cookie = sent_if (with_startup s (after_change s.startup chosen cookie s.moment)) (change_keying s.startup chosen cookie)

pub change_does : (s : State) (sid : ℕ) (old new : List ℕ) (found : Found) → IsFound s.startup found (changed s.startup.attempts sid old) →
    sent_if (with_startup s (after_cookie_change s.startup sid old new s.moment)) (cookie_change_keying s.startup sid old new) ≡ change_did s (found_in s.startup found) new
change_does s sid old new found is = ap (λ o. change_did s o new) (found_is s.startup found (changed s.startup.attempts sid old) is)

-- ---- a redirect

-- the attempt that is extended was found, and there is a hello for each of the further candidates
module _ (s : StartupState) (e : ExtensionParts) (is : Extends s e) where
  pub extended_found : IsFound s e.found (Some (e.found.near, is.attempt))
  extended_found = record { attempt = is.attempt; chosen_is = refl; there = is.there }

  pub hellos_are : (spread : SpreadParts) → extension_spread (Some (e.found.near, is.attempt)) e.new ≡ Some spread → length e.new ≡ length spread.to
  hellos_are spread e = ap sent_by_spread e
