-- The keys of the keystreams in which an end's sessions seal.
use Rattle.std.specs.Prelude.{ℕ, Bool, true, false, if◌then◌else◌, ◌==◌, ◌&&◌, bytes_eq, List, Option, Some, None}
use Rattle.std.specs.FinMap.{get}
use Rattle.crypto_profile.specs.declared.keys.Context.{Context}
use Rattle.crypto_profile.specs.declared.keys.Context.TheVariants.{Startup, Session}
use Rattle.crypto_profile.specs.Keys.{keys_of, same_context}
use Rattle.session_core.specs.Session.{context_of}
use Rattle.endpoint_model.specs.declared.row.Row.{Row}
use Rattle.endpoint_model.specs.State.{State}
use Rattle.endpoint_laws.specs.Contexts.{generation_of}

-- the session ID of the end that seals in a context
abbrev pub sealer_of : Context → ℕ
sealer_of (Startup generation) = 0
sealer_of (Session generation ni nr fp_i fp_r sid_i sid_r true) = sid_i
sealer_of (Session generation ni nr fp_i fp_r sid_i sid_r false) = sid_r

-- whether a session seals in this context
abbrev pub seals_in : Context → Option Row → Bool
seals_in context None = false
seals_in context (Some row) = same_context (context_of row.session true) context

-- that of a session's keystream, where it seals in this context, which is of the current generation,
-- and the secret is the group's in that
abbrev pub stream_key : State → List ℕ → Context → Option (List ℕ)
stream_key s secret context =
    if seals_in context (get s.sessions (sealer_of context))
    && (generation_of context == s.group.generation) && bytes_eq s.group.secret secret
    then Some (keys_of secret context).enc else None
