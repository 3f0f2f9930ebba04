-- The key by which a session of the current generation seals is that of its context under the group's
-- secret.
use Rattle.std.proofs.Common.{◌≡◌, ℕ, List, Bool, true, ◌&&◌, ◌==◌, if◌then◌else◌, Option, Some, None, refl, sym, ap, ◌∙◌}
use Rattle.std.specs.FinMap.{get}
use Rattle.std.specs.Str.{bytes_eq}
use Rattle.std.proofs.lemmas.Bool.{eq-eqb}
use Rattle.std.proofs.lemmas.Slice.Eq.{bytes_eq-Decides}
use Rattle.crypto_profile.specs.declared.keys.Context.{Context}
use Rattle.crypto_profile.specs.Keys.{Keys, keys_of}
use Rattle.crypto_profile.proofs.Contexts.{same_context_is}
use Rattle.session_core.specs.declared.stage.Role.{Role}
use Rattle.session_core.specs.declared.stage.Role.TheVariants.{Initiator, Responder}
use Rattle.session_core.specs.Session.{SessionState, context_of}
use Rattle.endpoint_model.specs.declared.row.Row.{Row}
use Rattle.endpoint_model.specs.State.{State}
use Rattle.endpoint_laws.specs.Contexts.{generation_of}
use Rattle.endpoint.specs.Reached.{IsReached}
use Rattle.endpoint.specs.StreamKeys.{seals_in, sealer_of, stream_key}
use Rattle.endpoint.proofs.Reaching.{tied_there}

generation_is : (session : SessionState) → generation_of (context_of session true) ≡ session.generation
generation_is session = by session.role
  where
    by : (r : Role) → generation_of (context_of (record session { role = r }) true) ≡ session.generation
    by Initiator = refl
    by Responder = refl

pub key_is_under : (s : State) (secret : List ℕ) (context : Context) (near : ℕ) (row : Row) → IsReached s → get s.sessions near ≡ Some row →
    seals_in context (Some row) ≡ true → generation_of context ≡ s.group.generation → bytes_eq s.group.secret secret ≡ true → row.session.outward.enc ≡ (keys_of secret context).enc
key_is_under s secret context near row is there seals current same =
    let at = tied_there s is in
    let session = (at.tied.sessions near row there).known in
    let its : context_of row.session true ≡ context = same_context_is (context_of row.session true) context seals in
    let generation : row.session.generation ≡ s.group.generation = sym (generation_is row.session) ∙ ap generation_of its ∙ current in
    let both : Some session.secret ≡ Some s.group.secret = sym session.known ∙ ap (get at.secrets) generation ∙ at.tied.holds.current in
    let under : session.secret ≡ s.group.secret = cc in
    let secret_is : session.secret ≡ secret = under ∙ (bytes_eq-Decides s.group.secret secret).0 same in
    ap (λ (keys : Keys). keys.enc)
    (session.keyed.away ∙ ap (λ (g : List ℕ). keys_of g (context_of row.session true)) secret_is ∙ ap (keys_of secret) its)

pub key_found : (s : State) (secret : List ℕ) (context : Context) (row : Row) (key : List ℕ) → IsReached s → get s.sessions (sealer_of context) ≡ Some row →
    seals_in context (Some row) ≡ true → generation_of context ≡ s.group.generation → bytes_eq s.group.secret secret ≡ true → key ≡ row.session.outward.enc → Some key ≡ stream_key s secret context
key_found s secret context row key is there seals current same its =
    let by : Bool → Option (List ℕ) = λ b. if b then Some (keys_of secret context).enc else None in
    let now : Bool = generation_of context == s.group.generation in
    let its_secret : Bool = bytes_eq s.group.secret secret in
    ap (λ (k : List ℕ). Some k) (its ∙ key_is_under s secret context (sealer_of context) row is there seals current same)
    ∙ sym (ap (λ (o : Option Row). by (seals_in context o && now && its_secret)) there ∙ ap (λ (b : Bool). by (b && now && its_secret)) seals
    ∙ ap (λ (b : Bool). by (b && its_secret)) (eq-eqb (generation_of context) s.group.generation current) ∙ ap by same)
