-- How keyings read from their payloads (RFC 7016 sections 2.3.7 and 2.3.8, with the own form of what
-- they carry).
use Rattle.std.specs.Prelude.{ℕ, List, ◌+◌, ◌-◌, ◌==◌, length, drop, Option, Some, None, is_some, Result, Ok, Err, if◌then◌else◌}
use Rattle.rtmfp_vlu.specs.declared.reading.VluFault.{VluFault}
use Rattle.rtmfp_vlu.specs.Reading.{number_at}
use Rattle.rtmfp_chunks.specs.declared.kinds.TheConstants.{IIKEYING, RIKEYING}
use Rattle.rtmfp_chunks.specs.declared.reading.ChunkFault.{ChunkFault}
use Rattle.rtmfp_chunks.specs.declared.reading.ChunkFault.TheVariants.{Unknown, Malformed as BadField}
use Rattle.rtmfp_chunks.specs.Chunk.{Chunk, IIKeying, RIKeying}
use Rattle.rtmfp_chunks.specs.FieldReading.{chunk_reading}
use Rattle.identity.specs.Certificates.{certificate_fault}
use Rattle.rtmfp_base.specs.declared.cause.Cause.{Cause}
use Rattle.rtmfp_base.specs.declared.cause.Cause.TheVariants.{UnknownChunk, Malformed}
use Rattle.startup_packets.specs.declared.parts.InitiatorPart.{InitiatorPart}
use Rattle.startup_packets.specs.declared.parts.ResponderPart.{ResponderPart}
use Rattle.startup_packets.specs.Packets.{initiator_part_in, responder_part_in}

-- what an initiator's keying says
pub record InitiatorKeying : Type 0 where
  -- its session ID
  pub near : ℕ
  pub cookie : List ℕ
  pub cert : List ℕ
  pub part : InitiatorPart
  pub sign : List ℕ

-- what a responder's keying says
pub record ResponderKeying : Type 0 where
  -- its session ID
  pub near : ℕ
  pub part : ResponderPart
  pub sign : List ℕ

-- how many bytes a VLU takes
abbrev pub bytes_used : Result (ℕ × ℕ) VluFault → ℕ
bytes_used (Ok found) = found.1
bytes_used (Err fault) = 0

-- the offset in a payload of what stands behind the VLU at this offset
abbrev pub behind_vlu : List ℕ → ℕ → ℕ
behind_vlu payload at = at + bytes_used (number_at (drop at payload))

-- the offset of the certificate, which stands behind its length, after the session ID and a cookie
-- of so many bytes behind their length
unfoldable pub cert_offset : List ℕ → ℕ → ℕ
cert_offset payload cookie_len = behind_vlu payload (behind_vlu payload 4 + cookie_len)

-- the offset of the part, which stands before the signature at the end
abbrev pub part_offset : List ℕ → List ℕ → List ℕ → ℕ
part_offset payload part sign = length payload - length sign - length part

abbrev pub fault_cause : ChunkFault → Cause
fault_cause (Unknown kind) = UnknownChunk kind
fault_cause (BadField at) = Malformed at

abbrev pub with_initiator_part : ℕ → ℕ → List ℕ → List ℕ → List ℕ → Option InitiatorPart →
    Result InitiatorKeying Cause
with_initiator_part at near cookie cert sign None = Err (Malformed at)
with_initiator_part at near cookie cert sign (Some part) =
    Ok (record { near = near; cookie = cookie; cert = cert; part = part; sign = sign })

-- these fields, where each has its form: the session ID isn't 0, and the certificate and the part
-- are ones; the first that hasn't is told
abbrev pub formed_initiator : List ℕ → ℕ → List ℕ → List ℕ → List ℕ → List ℕ →
    Result InitiatorKeying Cause
formed_initiator payload near cookie cert part sign =
    if near == 0 then Err (Malformed 0)
    else if is_some (certificate_fault cert) then
    Err (Malformed (cert_offset payload (length cookie)))
    else with_initiator_part (part_offset payload part sign) near cookie cert sign
    (initiator_part_in part)

-- no other chunk has the type
abbrev pub initiator_fields : List ℕ → Result Chunk ChunkFault → Result InitiatorKeying Cause
initiator_fields payload (Ok (IIKeying near cookie cert part sign)) =
    formed_initiator payload near cookie cert part sign
initiator_fields payload (Ok chunk) = Err (UnknownChunk IIKEYING)
initiator_fields payload (Err fault) = Err (fault_cause fault)

-- an initiator's keying, read from its payload
unfoldable pub initiator_keying_in : List ℕ → Result InitiatorKeying Cause
initiator_keying_in payload = initiator_fields payload (chunk_reading IIKEYING payload)

abbrev pub with_responder_part : ℕ → ℕ → List ℕ → Option ResponderPart →
    Result ResponderKeying Cause
with_responder_part at near sign None = Err (Malformed at)
with_responder_part at near sign (Some part) = Ok (record { near = near; part = part; sign = sign })

abbrev pub formed_responder : List ℕ → ℕ → List ℕ → List ℕ → Result ResponderKeying Cause
formed_responder payload near part sign =
    if near == 0 then Err (Malformed 0)
    else with_responder_part (part_offset payload part sign) near sign (responder_part_in part)

abbrev pub responder_fields : List ℕ → Result Chunk ChunkFault → Result ResponderKeying Cause
responder_fields payload (Ok (RIKeying near part sign)) = formed_responder payload near part sign
responder_fields payload (Ok chunk) = Err (UnknownChunk RIKEYING)
responder_fields payload (Err fault) = Err (fault_cause fault)

-- a responder's keying, read from its payload
unfoldable pub responder_keying_in : List ℕ → Result ResponderKeying Cause
responder_keying_in payload = responder_fields payload (chunk_reading RIKEYING payload)
