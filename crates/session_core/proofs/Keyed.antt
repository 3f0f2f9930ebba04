-- Sessions whose keys are those of a secret: what opens in their context, and which sessions are so.
use Rattle.std.proofs.Common.{◌≡◌, ◌↔◌, ℕ, List, Bool, true, false, take, replicate, sym, ap, ◌∙◌}
use Rattle.std.specs.Bool.{IsTrue}
use Rattle.rtmfp_forms.specs.Address.{AddressParts}
use Rattle.crypto_profile.specs.Keys.{Keys, keys_of}
use Rattle.crypto_profile.specs.Opening.{plain_of}
use Rattle.crypto_profile.specs.Sealing.{number_of, sealed, NumberFits, Opens}
use Rattle.glare_core.specs.declared.facts.Joined.{Joined}
use Rattle.session_core.specs.declared.stage.Role.{Role}
use Rattle.session_core.specs.declared.stage.Role.TheVariants.{Initiator, Responder}
use Rattle.session_core.specs.Session.{SessionState, IsKeyed, context_between, context_of, new_session}
use Rattle.session_core.specs.Hearing.{opens_in, OpensBy, OpensInItsContext}
use Rattle.session_core.proofs.Hears.{opens_some_plain, opens_this_plain}

fits : (g : ℕ) (j : Joined) (own : List ℕ) (role : Role) (outward : Bool) (number : List ℕ)
    → (take 8 number ≡ replicate 8 0) ↔ NumberFits (context_between g j own role outward) number
fits g j own Initiator outward number = ((λ e. e), (λ e. e))
fits g j own Responder outward number = ((λ e. e), (λ e. e))

-- where the keys towards this end are those of a secret
module _ (secret : List ℕ) (s : SessionState) (towards : s.inward ≡ keys_of secret (context_of s false)) (part : List ℕ) where
  in_context : (plain : List ℕ) → OpensBy s.inward s.joined.near part plain ↔ Opens secret (context_of s false) s.joined.near part plain
  in_context plain =
      let fit = fits s.generation s.joined s.own s.role false (number_of part) in
      let same = ap (λ (keys : Keys). sealed keys s.joined.near (number_of part) plain) towards in (
        (λ opens. (opens.0, opens.1 ∙ same, fit.0 opens.2)),
        (λ opens. (opens.0, opens.1 ∙ sym same, fit.1 opens.2)),
      )

  pub opens_in_context : IsTrue (opens_in s part) ↔ ((plain : List ℕ) × Opens secret (context_of s false) s.joined.near part plain)
  opens_in_context = (
    (λ h. let found = (opens_some_plain s part).0 h in (found.0, (in_context found.0).0 found.1)),
    (λ found. (opens_some_plain s part).1 (found.0, (in_context found.0).1 found.1)),
  )

  pub plain_in_context : (plain : List ℕ) → Opens secret (context_of s false) s.joined.near part plain → plain ≡ plain_of s.inward part
  plain_in_context plain opens = opens_this_plain s part plain ((in_context plain).1 opens)

pub opens_in_its_context : OpensInItsContext
opens_in_its_context secret s part plain keyed = in_context secret s keyed.towards part plain

-- ---- which sessions are so

-- a new one
pub keyed_begun : {secret group : List ℕ} → secret ≡ group → (generation : ℕ) (j : Joined) (own : List ℕ) (role : Role) (from : AddressParts) (moment : ℕ) →
    IsKeyed group (new_session j own role from generation secret moment)
keyed_begun same generation j own role from moment = record {
  towards = ap (λ (secret : List ℕ). keys_of secret (context_between generation j own role false)) same;
  away = ap (λ (secret : List ℕ). keys_of secret (context_between generation j own role true)) same;
}

-- one that is the same end with the same keys
pub keyed_same : (secret : List ℕ) (old new : SessionState) → new.joined ≡ old.joined → new.own ≡ old.own → new.role ≡ old.role → new.generation ≡ old.generation →
    new.inward ≡ old.inward → new.outward ≡ old.outward → IsKeyed secret old → IsKeyed secret new
keyed_same secret old new joined own role generation inward outward keyed =
    let contexts : (away : Bool) → context_of old away ≡ context_of new away = λ away. cc in
    record {
      towards = inward ∙ keyed.towards ∙ ap (keys_of secret) (contexts false);
      away = outward ∙ keyed.away ∙ ap (keys_of secret) (contexts true);
    }
