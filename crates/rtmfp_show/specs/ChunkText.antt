-- The texts of chunks.
use Rattle.std.specs.Prelude.{ℕ, List, [], ◌∷◌, codes, map}
use Rattle.rtmfp_chunks.specs.Chunk.{Chunk, IHello, FIHello, RHello, Redirect, CookieChange, IIKeying, RIKeying, Ping, PingReply, Close, CloseAck, Fragment}
use Rattle.rtmfp_chunks.specs.FieldReading.{addresses_in}
use Rattle.rtmfp_text.specs.Words.{bit_field_text, field_text, list_text, number_field_text, text_of}
use Rattle.rtmfp_text.specs.AddressText.{address_text}

-- the name and the fields of a chunk
unfoldable pub chunk_text : Chunk → List ℕ
chunk_text (IHello epd tag) =
    text_of (field_text (codes " ihello epd=") epd ∷ field_text (codes " tag=") tag ∷ [])
chunk_text (FIHello epd reply tag) = text_of
    (field_text (codes " fihello epd=") epd ∷ codes " reply=" ∷ address_text reply
    ∷ field_text (codes " tag=") tag ∷ [])
chunk_text (RHello tag cookie cert) = text_of
    (field_text (codes " rhello tag=") tag ∷ field_text (codes " cookie=") cookie
    ∷ field_text (codes " cert=") cert ∷ [])
chunk_text (Redirect tag list) =
    text_of (field_text (codes " redirect tag=") tag ∷ codes " to="
    ∷ list_text (map address_text (addresses_in list)) ∷ [])
chunk_text (CookieChange old new) = text_of
    (field_text (codes " cookiechange old=") old ∷ field_text (codes " new=") new ∷ [])
chunk_text (IIKeying near cookie cert part sign) =
    text_of (number_field_text (codes " iikeying near=") near ∷ field_text (codes " cookie=") cookie
    ∷ field_text (codes " cert=") cert ∷ field_text (codes " part=") part
    ∷ field_text (codes " sign=") sign ∷ [])
chunk_text (RIKeying near part sign) = text_of
    (number_field_text (codes " rikeying near=") near ∷ field_text (codes " part=") part
    ∷ field_text (codes " sign=") sign ∷ [])
chunk_text (Ping bytes) = field_text (codes " ping bytes=") bytes
chunk_text (PingReply bytes) = field_text (codes " pingreply bytes=") bytes
chunk_text Close = codes " close"
chunk_text CloseAck = codes " closeack"
chunk_text (Fragment more id number bytes) =
    text_of (bit_field_text (codes " fragment more=") more ∷ number_field_text (codes " id=") id
    ∷ number_field_text (codes " number=") number ∷ field_text (codes " bytes=") bytes ∷ [])
