-- Bodies without pieces: one chunk that isn't of flows.
use Rattle.std.specs.Prelude.{◌==◌}
use Rattle.std.proofs.Common.{◌≡◌, false, ℕ, ◌≤◌, ◌<◌, ◌^◌, List, [], length, refl, arith}
use Rattle.rtmfp_chunks.specs.Chunk.{Chunk, IHello, FIHello, RHello, Redirect, CookieChange}
use Rattle.rtmfp_chunks.specs.Chunk.{IIKeying, RIKeying, Ping, PingReply, Close, CloseAck, Fragment}
use Rattle.rtmfp_chunks.specs.Chunk.{kind_of}
use Rattle.rtmfp_chunks.specs.Writing.{payload_bytes, chunk_bytes}
use Rattle.rtmfp_packet.specs.Spelling.{Chunk as Written}
use Rattle.startup_packets.proofs.Sizes.{fihello_length}
use Rattle.rtmfp_forms.specs.Address.{AddressParts}
use Rattle.cookies.specs.Cookie.{observed}
use Rattle.endpoint_handing.proofs.Bodies.{IsBeside, body_pieces, one_beside}

-- their types are apart from those of flows
type_beside : (chunk : Chunk) → (kind_of chunk == 0x7f) ≡ false → IsBeside (kind_of chunk)
type_beside (IHello epd tag) whole = record { data_kind = refl; next_kind = refl; bitmap = refl; ranges = refl; probe = refl; exception = refl; part = whole }
type_beside (FIHello epd reply tag) whole = record { data_kind = refl; next_kind = refl; bitmap = refl; ranges = refl; probe = refl; exception = refl; part = whole }
type_beside (RHello tag cookie cert) whole = record { data_kind = refl; next_kind = refl; bitmap = refl; ranges = refl; probe = refl; exception = refl; part = whole }
type_beside (Redirect tag list) whole = record { data_kind = refl; next_kind = refl; bitmap = refl; ranges = refl; probe = refl; exception = refl; part = whole }
type_beside (CookieChange old new) whole = record { data_kind = refl; next_kind = refl; bitmap = refl; ranges = refl; probe = refl; exception = refl; part = whole }
type_beside (IIKeying near cookie cert part sign) whole = record { data_kind = refl; next_kind = refl; bitmap = refl; ranges = refl; probe = refl; exception = refl; part = whole }
type_beside (RIKeying near part sign) whole = record { data_kind = refl; next_kind = refl; bitmap = refl; ranges = refl; probe = refl; exception = refl; part = whole }
type_beside (Ping bytes) whole = record { data_kind = refl; next_kind = refl; bitmap = refl; ranges = refl; probe = refl; exception = refl; part = whole }
type_beside (PingReply bytes) whole = record { data_kind = refl; next_kind = refl; bitmap = refl; ranges = refl; probe = refl; exception = refl; part = whole }
type_beside Close whole = record { data_kind = refl; next_kind = refl; bitmap = refl; ranges = refl; probe = refl; exception = refl; part = whole }
type_beside CloseAck whole = record { data_kind = refl; next_kind = refl; bitmap = refl; ranges = refl; probe = refl; exception = refl; part = whole }
type_beside (Fragment more id number bytes) whole = record { data_kind = refl; next_kind = refl; bitmap = refl; ranges = refl; probe = refl; exception = refl; part = whole }

kind_small : (chunk : Chunk) → kind_of chunk < 2 ^ 8
kind_small (IHello epd tag) = omega arith
kind_small (FIHello epd reply tag) = omega arith
kind_small (RHello tag cookie cert) = omega arith
kind_small (Redirect tag list) = omega arith
kind_small (CookieChange old new) = omega arith
kind_small (IIKeying near cookie cert part sign) = omega arith
kind_small (RIKeying near part sign) = omega arith
kind_small (Ping bytes) = omega arith
kind_small (PingReply bytes) = omega arith
kind_small Close = omega arith
kind_small CloseAck = omega arith
kind_small (Fragment more id number bytes) = omega arith

pub no_pieces : (chunk : Chunk) → (kind_of chunk == 0x7f) ≡ false → length (payload_bytes chunk) < 2 ^ 16 → body_pieces (chunk_bytes chunk) ≡ []
no_pieces chunk whole short =
    let written : Written = record { kind = kind_of chunk; payload = payload_bytes chunk } in
    one_beside written (record { kind = kind_small chunk; size = short }) (type_beside chunk whole)

pub close_none : body_pieces (chunk_bytes Close) ≡ []
close_none = no_pieces Close refl (omega arith)

pub close_ack_none : body_pieces (chunk_bytes CloseAck) ≡ []
close_ack_none = no_pieces CloseAck refl (omega arith)

pub ping_none : (bytes : List ℕ) → length bytes < 2 ^ 16 → body_pieces (chunk_bytes (Ping bytes)) ≡ []
ping_none bytes short = no_pieces (Ping bytes) refl (omega (arith, short))

pub reply_none : (bytes : List ℕ) → length bytes < 2 ^ 16 → body_pieces (chunk_bytes (PingReply bytes)) ≡ []
reply_none bytes short = no_pieces (PingReply bytes) refl (omega (arith, short))

pub hello_none : (epd tag : List ℕ) (from : AddressParts) → length epd ≡ 33 → length tag ≤ 128 → body_pieces (chunk_bytes (FIHello epd (observed from) tag)) ≡ []
hello_none epd tag from selected short =
    no_pieces (FIHello epd (observed from) tag) refl (omega (arith, fihello_length epd (observed from) tag (omega (arith, selected)) short))
