-- The chunks of RFC 7016 section 2.3, the chunks of flows aside, and what spells them.
use Rattle.std.specs.Prelude.{◌≡◌, ℕ, ◌==◌, if◌then◌else◌, Bool, List, Option, Some, None}
use Rattle.rtmfp_forms.specs.Address.{AddressParts}
use Rattle.rtmfp_chunks.specs.declared.view.ChunkView.{ChunkView}
use Rattle.rtmfp_chunks.specs.declared.view.ChunkView.TheVariants as view
use Rattle.rtmfp_chunks.specs.Fields.{Counted, Number, SessionId, More, OneAddress, Parts, Then, Rest, AddressList, Ignored, PartsSpell}
use Rattle.rtmfp_chunks.specs.Fields.{Row, ThenRow, RestRow, AddressesRow, IgnoredRow, CountedForm, NumberForm, SessionIdForm, MoreForm, AddressForm, RowBreaks}

-- a chunk as contracts see it; the list of a redirect is its addresses' bytes
pub data Chunk : Type 0 where
  IHello : (epd tag : List ℕ) → Chunk
  FIHello : (epd : List ℕ) → (reply : AddressParts) → (tag : List ℕ) → Chunk
  RHello : (tag cookie cert : List ℕ) → Chunk
  Redirect : (tag list : List ℕ) → Chunk
  CookieChange : (old new : List ℕ) → Chunk
  IIKeying : (near : ℕ) → (cookie cert part sign : List ℕ) → Chunk
  RIKeying : (near : ℕ) → (part sign : List ℕ) → Chunk
  Ping : (bytes : List ℕ) → Chunk
  PingReply : (bytes : List ℕ) → Chunk
  Close : Chunk
  CloseAck : Chunk
  Fragment : (more : Bool) → (id number : ℕ) → (bytes : List ℕ) → Chunk

-- the chunk that a view shows
abbrev pub chunk_of : ChunkView → Chunk
chunk_of (view.IHello epd tag) = IHello epd.now tag.now
chunk_of (view.FIHello epd reply tag) = FIHello epd.now reply tag.now
chunk_of (view.RHello tag cookie cert) = RHello tag.now cookie.now cert.now
chunk_of (view.Redirect tag list) = Redirect tag.now list.now
chunk_of (view.CookieChange old new) = CookieChange old.now new.now
chunk_of (view.IIKeying near cookie cert part sign) =
    IIKeying near cookie.now cert.now part.now sign.now
chunk_of (view.RIKeying near part sign) = RIKeying near part.now sign.now
chunk_of (view.Ping bytes) = Ping bytes.now
chunk_of (view.PingReply bytes) = PingReply bytes.now
chunk_of view.Close = Close
chunk_of view.CloseAck = CloseAck
chunk_of (view.Fragment more id number bytes) = Fragment more id number bytes.now

-- the type of each chunk
abbrev pub kind_of : Chunk → ℕ
kind_of (IHello epd tag) = 0x30
kind_of (FIHello epd reply tag) = 0x0f
kind_of (RHello tag cookie cert) = 0x70
kind_of (Redirect tag list) = 0x71
kind_of (CookieChange old new) = 0x79
kind_of (IIKeying near cookie cert part sign) = 0x38
kind_of (RIKeying near part sign) = 0x78
kind_of (Ping bytes) = 0x01
kind_of (PingReply bytes) = 0x41
kind_of Close = 0x0c
kind_of CloseAck = 0x4c
kind_of (Fragment more id number bytes) = 0x7f

-- the fields of each chunk
abbrev pub parts_of : Chunk → Parts
parts_of (IHello epd tag) = Then (Counted epd) (Rest tag)
parts_of (FIHello epd reply tag) = Then (Counted epd) (Then (OneAddress reply) (Rest tag))
parts_of (RHello tag cookie cert) = Then (Counted tag) (Then (Counted cookie) (Rest cert))
parts_of (Redirect tag list) = Then (Counted tag) (AddressList list)
parts_of (CookieChange old new) = Then (Counted old) (Rest new)
parts_of (IIKeying near cookie cert part sign) =
    Then (SessionId near) (Then (Counted cookie)
    (Then (Counted cert) (Then (Counted part) (Rest sign))))
parts_of (RIKeying near part sign) = Then (SessionId near) (Then (Counted part) (Rest sign))
parts_of (Ping bytes) = Rest bytes
parts_of (PingReply bytes) = Rest bytes
parts_of Close = Ignored
parts_of CloseAck = Ignored
parts_of (Fragment more id number bytes) = Then (More more)
    (Then (Number id) (Then (Number number) (Rest bytes)))

-- a payload of this type spells the chunk
abbrev pub Spells : Chunk → ℕ → List ℕ → Type 0
Spells chunk kind b = (kind ≡ kind_of chunk) × PartsSpell (parts_of chunk) b

-- which fields a payload of each type has
unfoldable pub row_of : ℕ → Option Row
row_of kind =
    if kind == 0x30 then Some (ThenRow CountedForm RestRow)
    else if kind == 0x0f then Some (ThenRow CountedForm (ThenRow AddressForm RestRow))
    else if kind == 0x70 then Some (ThenRow CountedForm (ThenRow CountedForm RestRow))
    else if kind == 0x71 then Some (ThenRow CountedForm AddressesRow)
    else if kind == 0x79 then Some (ThenRow CountedForm RestRow)
    else if kind == 0x38 then
    Some (ThenRow SessionIdForm (ThenRow CountedForm
    (ThenRow CountedForm (ThenRow CountedForm RestRow))))
    else if kind == 0x78 then Some (ThenRow SessionIdForm (ThenRow CountedForm RestRow))
    else if kind == 0x01 then Some RestRow
    else if kind == 0x41 then Some RestRow
    else if kind == 0x0c then Some IgnoredRow
    else if kind == 0x4c then Some IgnoredRow
    else if kind == 0x7f then
    Some (ThenRow MoreForm (ThenRow NumberForm (ThenRow NumberForm RestRow)))
    else None

-- the first field that isn't there breaks at this offset
abbrev pub Breaks : ℕ → List ℕ → ℕ → Type 0
Breaks kind b at = (row : Row) × (row_of kind ≡ Some row) × RowBreaks row b at
