-- Why a chunk of startup that an end takes would be discarded, by its type and payload: what the
-- calls for these chunks answer, without making them.
use Rattle.std.specs.Prelude.{ℕ, ◌-◌, ◌==◌, List, length, Option, Some, None, is_some, Result, Ok, Err, if◌then◌else◌}
use Rattle.crypto_profile.specs.declared.group.GroupSecret.{GroupSecret}
use Rattle.rtmfp_forms.specs.Address.{AddressParts}
use Rattle.rtmfp_chunks.specs.declared.kinds.TheConstants.{RHELLO, REDIRECT, COOKIE_CHANGE, IIKEYING, RIKEYING}
use Rattle.rtmfp_chunks.specs.declared.reading.ChunkFault.{ChunkFault}
use Rattle.rtmfp_chunks.specs.Chunk.{Chunk, RHello, Redirect, CookieChange}
use Rattle.rtmfp_chunks.specs.FieldReading.{chunk_reading}
use Rattle.identity.specs.Certificates.{certificate_fault}
use Rattle.rtmfp_base.specs.declared.cause.Cause.{Cause}
use Rattle.rtmfp_base.specs.declared.cause.Cause.TheVariants.{UnknownChunk, Malformed}
use Rattle.startup.specs.State.{StartupState}
use Rattle.startup.specs.Attempts.{rhello_cause, cookie_change_cause}
use Rattle.startup.specs.Redirects.{redirect_cause}
use Rattle.startup_packets.specs.Readings.{fault_cause}
use Rattle.startup.specs.Keyings.{iikeying_cause, rikeying_cause}

-- A responder's hello whose certificate has no form is malformed there; the certificate ends the
-- payload.
abbrev pub rhello_refusal_with : StartupState → List ℕ → List ℕ → List ℕ → List ℕ → Option Cause
rhello_refusal_with s payload tag cookie cert =
    if is_some (certificate_fault cert) then Some (Malformed (length payload - length cert))
    else rhello_cause s tag cookie cert

abbrev pub rhello_refusal_reading : StartupState → List ℕ → Result Chunk ChunkFault → Option Cause
rhello_refusal_reading s payload (Ok (RHello tag cookie cert)) =
    rhello_refusal_with s payload tag cookie cert
rhello_refusal_reading s payload (Ok chunk) = Some (UnknownChunk RHELLO)
rhello_refusal_reading s payload (Err fault) = Some (fault_cause fault)

unfoldable pub rhello_refusal : StartupState → List ℕ → Option Cause
rhello_refusal s payload = rhello_refusal_reading s payload (chunk_reading RHELLO payload)

abbrev pub redirect_refusal_reading : StartupState → AddressParts → Result Chunk ChunkFault →
    Option Cause
redirect_refusal_reading s from (Ok (Redirect tag list)) = redirect_cause s tag list from
redirect_refusal_reading s from (Ok chunk) = Some (UnknownChunk REDIRECT)
redirect_refusal_reading s from (Err fault) = Some (fault_cause fault)

unfoldable pub redirect_refusal : StartupState → List ℕ → AddressParts → Option Cause
redirect_refusal s payload from = redirect_refusal_reading s from (chunk_reading REDIRECT payload)

abbrev pub cookie_change_refusal_reading : StartupState → ℕ → ℕ → Result Chunk ChunkFault →
    Option Cause
cookie_change_refusal_reading s sid generation (Ok (CookieChange old new)) =
    cookie_change_cause s sid old new generation
cookie_change_refusal_reading s sid generation (Ok chunk) = Some (UnknownChunk COOKIE_CHANGE)
cookie_change_refusal_reading s sid generation (Err fault) = Some (fault_cause fault)

unfoldable pub cookie_change_refusal : StartupState → ℕ → List ℕ → ℕ → Option Cause
cookie_change_refusal s sid payload generation = cookie_change_refusal_reading s sid generation
    (chunk_reading COOKIE_CHANGE payload)

-- The cause with which a responder's hello, a redirect, a change of a cookie or a keying would be
-- discarded that came under this session ID from this address at this moment, and opened under
-- this secret of the group. There is none for other types.
abbrev pub refusal : StartupState → ℕ → ℕ → List ℕ → AddressParts → ℕ → Option ℕ → GroupSecret →
    Option Cause
refusal s sid kind payload from now full g =
    if kind == RHELLO then rhello_refusal s payload
    else if kind == REDIRECT then redirect_refusal s payload from
    else if kind == COOKIE_CHANGE then cookie_change_refusal s sid payload g.generation
    else if kind == IIKEYING then iikeying_cause s payload from now full g
    else if kind == RIKEYING then rikeying_cause s sid payload g
    else None
