-- What is written spells the same fields.
use Rattle.std.proofs.Common.{◌≡◌, ℕ, ◌<◌, Bool, true, false, cond, leb, List, length, Ok, refl, subst, arith}
use Rattle.rtmfp_vlu.proofs.Fields.{vlu-spells}
use Rattle.rtmfp_vlu.specs.Vlu.{vlu}
use Rattle.rtmfp_forms.proofs.Addresses.{address_bytes-spell}
use Rattle.rtmfp_chunks.specs.Fields.{Field, Counted, Number, SessionId, More, OneAddress, Parts, Then, Rest, AddressList, Ignored, FieldSpells, PartsSpell, AreAddresses}
use Rattle.rtmfp_chunks.specs.Chunk.{Chunk, IHello, FIHello, RHello, Redirect, CookieChange, IIKeying, RIKeying, Ping, PingReply, Close, CloseAck, Fragment, parts_of}
use Rattle.rtmfp_chunks.specs.Reading.{Reading}
use Rattle.rtmfp_chunks.specs.Writing.{field_bytes, parts_bytes, FieldFits, PartsFit, IsWritable}

flags_fit : (more : Bool) → cond more 128 0 < 256
flags_fit true = omega arith
flags_fit false = omega arith

flags_highest : (more : Bool) → more ≡ leb 128 (cond more 128 0)
flags_highest true = refl
flags_highest false = refl

field_bytes-spell : (field : Field) → FieldFits field → FieldSpells field (field_bytes field)
field_bytes-spell (Counted bytes) h = record { count = vlu (length bytes); spells = vlu-spells (length bytes) h; joined = refl }
field_bytes-spell (Number number) h = vlu-spells number h
field_bytes-spell (SessionId id) h = (h, refl)
field_bytes-spell (More more) h = record { flags = cond more 128 0; fits = flags_fit more; highest = flags_highest more; whole = refl }
field_bytes-spell (OneAddress address) h = address_bytes-spell address h

pub parts_bytes-spell : (parts : Parts) → PartsFit parts → PartsSpell parts (parts_bytes parts)
parts_bytes-spell (Then first others) h = (field_bytes first, parts_bytes others, refl, field_bytes-spell first h.0, parts_bytes-spell others h.1)
parts_bytes-spell (Rest bytes) h = refl
parts_bytes-spell (AddressList list) h = (refl, h)
parts_bytes-spell Ignored h = tt

writable_parts : (chunk : Chunk) (b : List ℕ) → PartsSpell (parts_of chunk) b → IsWritable chunk
writable_parts (IHello epd tag) b h = tt
writable_parts (FIHello epd reply tag) b h = tt
writable_parts (RHello tag cookie cert) b h = tt
writable_parts (Redirect tag list) b h = let P : List ℕ → Type 0 = λ xs. AreAddresses xs in subst P h.4.0 h.4.1
writable_parts (CookieChange old new) b h = tt
writable_parts (IIKeying near cookie cert part sign) b h = tt
writable_parts (RIKeying near part sign) b h = tt
writable_parts (Ping bytes) b h = tt
writable_parts (PingReply bytes) b h = tt
writable_parts Close b h = tt
writable_parts CloseAck b h = tt
writable_parts (Fragment more id number bytes) b h = tt

-- what was read can be written
pub writable : (chunk : Chunk) (kind : ℕ) (b : List ℕ) → Reading kind b (Ok chunk) → IsWritable chunk
writable chunk kind b h = writable_parts chunk b h.1
