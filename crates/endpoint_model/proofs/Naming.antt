-- Where a datagram under a session ID may belong.
use Rattle.std.proofs.Common.{ℕ, ◌≡◌, ◌≢◌, ◌==◌, List, [], ◌∷◌, Bool, false, if◌then◌else◌, ap, ◌∙◌, arith}
use Rattle.std.proofs.lemmas.Bool.Decides.{nat_tests}
use Rattle.std.specs.FinMap.{get, contains_key}
use Rattle.endpoint_model.specs.declared.place.Place.{Place}
use Rattle.endpoint_model.specs.declared.place.Place.TheVariants.{Startup, Attempt, Session}
use Rattle.endpoint_model.specs.State.{State}
use Rattle.endpoint_model.specs.Admission.{attempt_group, next_places, places_of}

not_zero : (n : ℕ) → n ≢ 0 → (n == 0) ≡ false
not_zero n other = grind (arith, nat_tests)

-- under one that isn't 0, by whether an attempt or a session has it
pub places_by : (s : State) (sid : ℕ) (attempt session : Bool) → sid ≢ 0 → contains_key s.startup.attempts sid ≡ attempt → contains_key s.sessions sid ≡ session →
    places_of s sid ≡ (if attempt then Attempt sid (attempt_group s.group (get s.startup.attempts sid)).generation ∷ [] else if session then Session sid ∷ [] else [])
places_by s sid attempt session other at_attempt at_session =
    let startup : List Place = Startup s.group.generation ∷ next_places s.next in
    let here : List Place = Attempt sid (attempt_group s.group (get s.startup.attempts sid)).generation ∷ [] in
    ap (λ b. if b then startup else if contains_key s.startup.attempts sid then here else if contains_key s.sessions sid then Session sid ∷ [] else []) (not_zero sid other)
    ∙ ap (λ b. if b then here else if contains_key s.sessions sid then Session sid ∷ [] else []) at_attempt
    ∙ ap (λ b. if attempt then here else if b then Session sid ∷ [] else []) at_session
