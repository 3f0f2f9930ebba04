-- Keyings and responders' hellos that read are spelled, and the signatures of keyings end them.
use Rattle.std.proofs.Common.{◌≡◌, ℕ, ◌-◌, ◌==◌, List, [], ◌++◌, length, take, Option, Some, None, Result, Ok, Err, Bool, true, false, if◌then◌else◌, refl, sym, ap, subst, ◌∙◌, arith, append_assoc, length-append}
use Rattle.std.proofs.lemmas.Bool.{eqb-true}
use Rattle.std.proofs.lemmas.List.{take_at}
use Rattle.std.proofs.lemmas.Slice.Eq.{bytes_eq-Decides}
use Rattle.crypto_profile.specs.Hmac.{hmac}
use Rattle.crypto_profile.specs.Keys.{sign_key_of}
use Rattle.rtmfp_vlu.proofs.Bytes.{IsBytes, IsBytes-drop}
use Rattle.rtmfp_vlu.proofs.Fields.{behind}
use Rattle.rtmfp_forms.specs.OptionReading.{◌>>=◌}
use Rattle.rtmfp_chunks.specs.Fields.{Field, Counted, Number, SessionId, More, OneAddress, Parts, Then, Rest, AddressList, Ignored, Form, CountedForm, SessionIdForm, Row, ThenRow, RestRow, AddressesRow, IgnoredRow, form_of, PartsSpell}
use Rattle.rtmfp_chunks.specs.Chunk.{Chunk, IHello, FIHello, RHello, Redirect, CookieChange, IIKeying, RIKeying, Ping, PingReply, Close, CloseAck, Fragment, Spells, row_of, kind_of, parts_of}
use Rattle.rtmfp_chunks.specs.FieldReading.{field_then, list_at, row_at, typed, typed_row, chunk_at, chunk_with, known_chunk, chunk_or_fault, chunk_reading}
use Rattle.rtmfp_chunks.proofs.FieldLaws.{FieldIs, field_is}
use Rattle.rtmfp_chunks.proofs.RowLaws.{row_of_parts, RowIs, row_is}
use Rattle.startup_packets.specs.Packets.{is_signed, is_signed_by, before_signature}
use Rattle.endpoint_model.specs.Keying.{IsSigned}

-- ---- what is read has the row's form

made_row : (first : Form) (others : Row) (field : Field) (q : Result Parts ℕ) (parts : Parts) → form_of field ≡ first → ((p : Parts) → q ≡ Ok p → row_of_parts p ≡ others) →
    (q >>= λ p. Ok (Then field p)) ≡ Ok parts → row_of_parts parts ≡ ThenRow first others
made_row first others field (Ok p) parts form later e =
    let same : Then field p ≡ parts = cc in
    sym (ap row_of_parts same) ∙ ap (λ (f : Form). ThenRow f (row_of_parts p)) form ∙ ap (ThenRow first) (later p refl)
made_row first others field (Err left) parts form later e = absurd (cc)

then_row : (first : Form) (others : Row) (b : List ℕ) (r : Result (Field × List ℕ) ℕ) (parts : Parts) → FieldIs first b r → IsBytes b →
    ((rest : List ℕ) → IsBytes rest → (p : Parts) → row_at others rest ≡ Ok p → row_of_parts p ≡ others) →
    (r >>= λ field. (row_at others field.1 >>= λ p. Ok (Then field.0 p))) ≡ Ok parts → row_of_parts parts ≡ ThenRow first others
then_row first others b (Ok found) parts h are later e =
    let bytes : IsBytes found.1 = subst IsBytes (behind b h.0 found.1 h.2) (IsBytes-drop (length h.0) b are) in
    made_row first others found.0 (row_at others found.1) parts h.1 (later found.1 bytes) e
then_row first others b (Err left) parts h are later e = absurd (cc)

has_row : (row : Row) (b : List ℕ) → IsBytes b → (parts : Parts) → row_at row b ≡ Ok parts → row_of_parts parts ≡ row
unfolding row_at
has_row (ThenRow first others) b are parts e = then_row first others b (field_then first b) parts (field_is first b are) are (λ rest bytes p at. has_row others rest bytes p at) e
has_row RestRow b are parts e = let same : Rest b ≡ parts = cc in sym (ap row_of_parts same)
has_row AddressesRow b are parts e = places (list_at b) e
  where
    places : (q : Result (List ℕ) ℕ) → (q >>= λ list. Ok (AddressList list)) ≡ Ok parts → row_of_parts parts ≡ AddressesRow
    places (Ok list) e = let same : AddressList list ≡ parts = cc in sym (ap row_of_parts same)
    places (Err left) e = absurd (cc)
has_row IgnoredRow b are parts e = let same : Ignored ≡ parts = cc in sym (ap row_of_parts same)

-- ---- parts by their row

record IsThen (parts : Parts) (first : Form) (others : Row) : Type 0 where
  field : Field
  rest : Parts
  is : parts ≡ Then field rest
  form : form_of field ≡ first
  row : row_of_parts rest ≡ others

then_is : (parts : Parts) (first : Form) (others : Row) → row_of_parts parts ≡ ThenRow first others → IsThen parts first others
then_is (Then field rest) first others e = record { field = field; rest = rest; is = refl; form = let a : form_of field ≡ first = cc in a; row = let a : row_of_parts rest ≡ others = cc in a }
then_is (Rest bytes) first others e = absurd (cc)
then_is (AddressList list) first others e = absurd (cc)
then_is Ignored first others e = absurd (cc)

rest_is : (parts : Parts) → row_of_parts parts ≡ RestRow → (bytes : List ℕ) × (parts ≡ Rest bytes)
rest_is (Then field rest) e = absurd (cc)
rest_is (Rest bytes) e = (bytes, refl)
rest_is (AddressList list) e = absurd (cc)
rest_is Ignored e = absurd (cc)

id_is : (field : Field) → form_of field ≡ SessionIdForm → (id : ℕ) × (field ≡ SessionId id)
id_is (Counted bytes) e = absurd (cc)
id_is (Number number) e = absurd (cc)
id_is (SessionId id) e = (id, refl)
id_is (More more) e = absurd (cc)
id_is (OneAddress address) e = absurd (cc)

counted_is : (field : Field) → form_of field ≡ CountedForm → (bytes : List ℕ) × (field ≡ Counted bytes)
counted_is (Counted bytes) e = (bytes, refl)
counted_is (Number number) e = absurd (cc)
counted_is (SessionId id) e = absurd (cc)
counted_is (More more) e = absurd (cc)
counted_is (OneAddress address) e = absurd (cc)

responder_parts : (parts : Parts) → row_of_parts parts ≡ ThenRow SessionIdForm (ThenRow CountedForm RestRow) →
    (near : ℕ) × (part : List ℕ) × (sign : List ℕ) × (parts ≡ parts_of (RIKeying near part sign))
responder_parts parts e =
    let one = then_is parts SessionIdForm (ThenRow CountedForm RestRow) e in
    let id = id_is one.field one.form in
    let two = then_is one.rest CountedForm RestRow one.row in
    let part = counted_is two.field two.form in
    let last = rest_is two.rest two.row in
    (id.0, part.0, last.0, one.is ∙ ap (λ (f : Field). Then f one.rest) id.1 ∙ ap (Then (SessionId id.0)) (two.is ∙ ap (λ (f : Field). Then f two.rest) part.1 ∙ ap (Then (Counted part.0)) last.1))

initiator_parts : (parts : Parts) → row_of_parts parts ≡ ThenRow SessionIdForm (ThenRow CountedForm (ThenRow CountedForm (ThenRow CountedForm RestRow))) →
    (near : ℕ) × (cookie : List ℕ) × (cert : List ℕ) × (part : List ℕ) × (sign : List ℕ) × (parts ≡ parts_of (IIKeying near cookie cert part sign))
initiator_parts parts e =
    let one = then_is parts SessionIdForm (ThenRow CountedForm (ThenRow CountedForm (ThenRow CountedForm RestRow))) e in
    let id = id_is one.field one.form in
    let two = then_is one.rest CountedForm (ThenRow CountedForm (ThenRow CountedForm RestRow)) one.row in
    let cookie = counted_is two.field two.form in
    let three = then_is two.rest CountedForm (ThenRow CountedForm RestRow) two.row in
    let cert = counted_is three.field three.form in
    let four = then_is three.rest CountedForm RestRow three.row in
    let part = counted_is four.field four.form in
    let last = rest_is four.rest four.row in (
      id.0,
      cookie.0,
      cert.0,
      part.0,
      last.0,
      one.is ∙ ap (λ (f : Field). Then f one.rest) id.1 ∙ ap (Then (SessionId id.0)) (
          two.is ∙ ap (λ (f : Field). Then f two.rest) cookie.1 ∙ ap (Then (Counted cookie.0)) (
          three.is ∙ ap (λ (f : Field). Then f three.rest) cert.1 ∙ ap (Then (Counted cert.0)) (
          four.is ∙ ap (λ (f : Field). Then f four.rest) part.1 ∙ ap (Then (Counted part.0)) last.1))),
    )

-- ---- keyings that read

known : (kind : ℕ) (o : Option Chunk) (x chunk : Chunk) → o ≡ Some x → known_chunk kind o ≡ Ok chunk → chunk ≡ x
known kind None x chunk is e = absurd (cc)
known kind (Some y) x chunk is e = cc

initiator_in : (b : List ℕ) (r : Result Parts ℕ) (chunk : Chunk) → ((parts : Parts) → r ≡ Ok parts → PartsSpell parts b × (row_of_parts parts ≡ ThenRow SessionIdForm (ThenRow CountedForm (ThenRow CountedForm (ThenRow CountedForm RestRow))))) →
    chunk_or_fault 0x38 b (Some (typed 0x38 r)) ≡ Ok chunk → Spells chunk 0x38 b
unfolding chunk_with
initiator_in b (Ok parts) chunk h e =
    let both = h parts refl in
    let is = initiator_parts parts both.1 in
    let x : Chunk = IIKeying is.0 is.1 is.2 is.3 is.4 in
    let same : chunk ≡ x = known 0x38 (chunk_with 0x38 parts) x chunk (ap (chunk_with 0x38) is.5) e in
    subst (λ (c : Chunk). Spells c 0x38 b) (sym same) (refl, subst (λ (p : Parts). PartsSpell p b) is.5 both.0)
initiator_in b (Err left) chunk h e = absurd (cc)

responder_in : (b : List ℕ) (r : Result Parts ℕ) (chunk : Chunk) → ((parts : Parts) → r ≡ Ok parts → PartsSpell parts b × (row_of_parts parts ≡ ThenRow SessionIdForm (ThenRow CountedForm RestRow))) →
    chunk_or_fault 0x78 b (Some (typed 0x78 r)) ≡ Ok chunk → Spells chunk 0x78 b
unfolding chunk_with
responder_in b (Ok parts) chunk h e =
    let both = h parts refl in
    let is = responder_parts parts both.1 in
    let x : Chunk = RIKeying is.0 is.1 is.2 in
    let same : chunk ≡ x = known 0x78 (chunk_with 0x78 parts) x chunk (ap (chunk_with 0x78) is.3) e in
    subst (λ (c : Chunk). Spells c 0x78 b) (sym same) (refl, subst (λ (p : Parts). PartsSpell p b) is.3 both.0)
responder_in b (Err left) chunk h e = absurd (cc)

spelled_row : (row : Row) (b : List ℕ) → IsBytes b → (parts : Parts) → row_at row b ≡ Ok parts → PartsSpell parts b × (row_of_parts parts ≡ row)
spelled_row row b are parts e = (spells (row_at row b) (row_is row b are) e, has_row row b are parts e)
  where
    spells : (r : Result Parts ℕ) → RowIs row b r → r ≡ Ok parts → PartsSpell parts b
    spells (Ok p) is e = let same : p ≡ parts = cc in subst (λ (q : Parts). PartsSpell q b) same is
    spells (Err left) is e = absurd (cc)

pub initiator_spelled : (b : List ℕ) (chunk : Chunk) → IsBytes b → chunk_reading 0x38 b ≡ Ok chunk → Spells chunk 0x38 b
unfolding chunk_reading chunk_at row_of
initiator_spelled b chunk are e =
    initiator_in b (row_at (ThenRow SessionIdForm (ThenRow CountedForm (ThenRow CountedForm (ThenRow CountedForm RestRow)))) b) chunk
    (spelled_row (ThenRow SessionIdForm (ThenRow CountedForm (ThenRow CountedForm (ThenRow CountedForm RestRow)))) b are) e

pub responder_spelled : (b : List ℕ) (chunk : Chunk) → IsBytes b → chunk_reading 0x78 b ≡ Ok chunk → Spells chunk 0x78 b
unfolding chunk_reading chunk_at row_of
responder_spelled b chunk are e =
    responder_in b (row_at (ThenRow SessionIdForm (ThenRow CountedForm RestRow)) b) chunk (spelled_row (ThenRow SessionIdForm (ThenRow CountedForm RestRow)) b are) e

-- ---- responders' hellos that read

hello_parts : (parts : Parts) → row_of_parts parts ≡ ThenRow CountedForm (ThenRow CountedForm RestRow) → (tag : List ℕ) × (cookie : List ℕ) × (cert : List ℕ) × (parts ≡ parts_of (RHello tag cookie cert))
hello_parts parts e =
    let one = then_is parts CountedForm (ThenRow CountedForm RestRow) e in
    let tag = counted_is one.field one.form in
    let two = then_is one.rest CountedForm RestRow one.row in
    let cookie = counted_is two.field two.form in
    let last = rest_is two.rest two.row in
    (tag.0, cookie.0, last.0, one.is ∙ ap (λ (f : Field). Then f one.rest) tag.1 ∙ ap (Then (Counted tag.0)) (two.is ∙ ap (λ (f : Field). Then f two.rest) cookie.1 ∙ ap (Then (Counted cookie.0)) last.1))

hello_in : (b : List ℕ) (r : Result Parts ℕ) (chunk : Chunk) → ((parts : Parts) → r ≡ Ok parts → PartsSpell parts b × (row_of_parts parts ≡ ThenRow CountedForm (ThenRow CountedForm RestRow))) →
    chunk_or_fault 0x70 b (Some (typed 0x70 r)) ≡ Ok chunk → Spells chunk 0x70 b
unfolding chunk_with
hello_in b (Ok parts) chunk h e =
    let both = h parts refl in
    let is = hello_parts parts both.1 in
    let x : Chunk = RHello is.0 is.1 is.2 in
    let same : chunk ≡ x = known 0x70 (chunk_with 0x70 parts) x chunk (ap (chunk_with 0x70) is.3) e in
    subst (λ (c : Chunk). Spells c 0x70 b) (sym same) (refl, subst (λ (p : Parts). PartsSpell p b) is.3 both.0)
hello_in b (Err left) chunk h e = absurd (cc)

pub hello_spelled : (b : List ℕ) (chunk : Chunk) → IsBytes b → chunk_reading 0x70 b ≡ Ok chunk → Spells chunk 0x70 b
unfolding chunk_reading chunk_at row_of
hello_spelled b chunk are e =
    hello_in b (row_at (ThenRow CountedForm (ThenRow CountedForm RestRow)) b) chunk (spelled_row (ThenRow CountedForm (ThenRow CountedForm RestRow)) b are) e

-- ---- a chunk that is read has its type

kind_if : (k n : ℕ) (t : Bool) (x chunk : Chunk) (o : Option Chunk) → (k == n) ≡ t → n ≡ kind_of x → (o ≡ Some chunk → k ≡ kind_of chunk) → (if t then Some x else o) ≡ Some chunk → k ≡ kind_of chunk
kind_if k n true x chunk o is of later e = let same : x ≡ chunk = cc in eqb-true k n is ∙ of ∙ ap kind_of same
kind_if k n false x chunk o is of later e = later e

none_left : (k : ℕ) (chunk : Chunk) → ◌≡◌ {A = Option Chunk} None (Some chunk) → k ≡ kind_of chunk
none_left k chunk e = absurd (cc)

with_kind : (k : ℕ) (parts : Parts) (chunk : Chunk) → chunk_with k parts ≡ Some chunk → k ≡ kind_of chunk
unfolding chunk_with
with_kind k (Then (Counted x) (Rest y)) chunk e = kind_if k 0x30 (k == 0x30) (IHello x y) chunk _ refl refl (kind_if k 0x79 (k == 0x79) (CookieChange x y) chunk None refl refl (none_left k chunk)) e
with_kind k (Then (Counted epd) (Then (OneAddress reply) (Rest tag))) chunk e = kind_if k 0x0f (k == 0x0f) (FIHello epd reply tag) chunk None refl refl (none_left k chunk) e
with_kind k (Then (Counted tag) (Then (Counted cookie) (Rest cert))) chunk e = kind_if k 0x70 (k == 0x70) (RHello tag cookie cert) chunk None refl refl (none_left k chunk) e
with_kind k (Then (Counted tag) (AddressList list)) chunk e = kind_if k 0x71 (k == 0x71) (Redirect tag list) chunk None refl refl (none_left k chunk) e
with_kind k (Then (SessionId near) (Then (Counted cookie) (Then (Counted cert) (Then (Counted part) (Rest sign))))) chunk e =
    kind_if k 0x38 (k == 0x38) (IIKeying near cookie cert part sign) chunk None refl refl (none_left k chunk) e
with_kind k (Then (SessionId near) (Then (Counted part) (Rest sign))) chunk e = kind_if k 0x78 (k == 0x78) (RIKeying near part sign) chunk None refl refl (none_left k chunk) e
with_kind k (Rest bytes) chunk e = kind_if k 0x01 (k == 0x01) (Ping bytes) chunk _ refl refl (kind_if k 0x41 (k == 0x41) (PingReply bytes) chunk None refl refl (none_left k chunk)) e
with_kind k Ignored chunk e = kind_if k 0x0c (k == 0x0c) Close chunk _ refl refl (kind_if k 0x4c (k == 0x4c) CloseAck chunk None refl refl (none_left k chunk)) e
with_kind k (Then (More more) (Then (Number id) (Then (Number number) (Rest bytes)))) chunk e = kind_if k 0x7f (k == 0x7f) (Fragment more id number bytes) chunk None refl refl (none_left k chunk) e
with_kind k parts chunk e = none_left k chunk e

known_is : (kind : ℕ) (o : Option Chunk) (chunk : Chunk) → known_chunk kind o ≡ Ok chunk → o ≡ Some chunk
known_is kind None chunk e = absurd (cc)
known_is kind (Some x) chunk e = let same : x ≡ chunk = cc in ap (λ (c : Chunk). Some c) same

typed_kind : (kind : ℕ) (r : Result Parts ℕ) (found : ℕ × Parts) → typed kind r ≡ Ok found → kind ≡ found.0
typed_kind kind (Ok parts) found e = let same : (kind, parts) ≡ found = cc in ap (λ (x : ℕ × Parts). x.0) same
typed_kind kind (Err left) found e = absurd (cc)

row_kind : (kind : ℕ) (b : List ℕ) (o : Option Row) (found : ℕ × Parts) → typed_row kind b o ≡ Some (Ok found) → kind ≡ found.0
row_kind kind b None found e = absurd (cc)
row_kind kind b (Some row) found e = typed_kind kind (row_at row b) found (let same : typed kind (row_at row b) ≡ Ok found = cc in same)

pub read_kind : (kind : ℕ) (b : List ℕ) (chunk : Chunk) → chunk_reading kind b ≡ Ok chunk → kind ≡ kind_of chunk
unfolding chunk_reading chunk_at
read_kind kind b chunk e = by (chunk_at kind b) refl e
  where
    by : (o : Option (Result (ℕ × Parts) ℕ)) → chunk_at kind b ≡ o → chunk_or_fault kind b o ≡ Ok chunk → kind ≡ kind_of chunk
    by None is e = absurd (cc)
    by (Some (Err left)) is e = absurd (cc)
    by (Some (Ok found)) is e = row_kind kind b (row_of kind) found is ∙ with_kind found.0 found.1 chunk (known_is kind (chunk_with found.0 found.1) chunk e)

pub hello_kind : (kind : ℕ) (b tag cookie cert : List ℕ) → chunk_reading kind b ≡ Ok (RHello tag cookie cert) → kind ≡ 0x70
hello_kind kind b tag cookie cert e = read_kind kind b (RHello tag cookie cert) e

-- ---- what ends a payload

last_of : Parts → Option (List ℕ)
last_of (Then first others) = last_of others
last_of (Rest bytes) = Some bytes
last_of (AddressList list) = None
last_of Ignored = None

ends : (parts : Parts) (b sign : List ℕ) → last_of parts ≡ Some sign → PartsSpell parts b → (front : List ℕ) × (b ≡ front ++ sign)
unfolding last_of
ends (Then first others) b sign e h =
    let rest = ends others h.1 sign e h.4 in
    (h.0 ++ rest.0, h.2 ∙ ap (λ xs. h.0 ++ xs) rest.1 ∙ sym (append_assoc h.0 rest.0 sign))
ends (Rest bytes) b sign e h = let same : bytes ≡ sign = cc in ([], h ∙ same)
ends (AddressList list) b sign e h = absurd (cc)
ends Ignored b sign e h = absurd (cc)

signed_of : (secret payload sign : List ℕ) → (front : List ℕ) × (payload ≡ front ++ sign) → is_signed secret payload sign ≡ true → IsSigned secret payload sign
unfolding is_signed_by
signed_of secret payload sign ended e =
    let before : before_signature payload sign ≡ ended.0 =
    ap (λ n. take n payload) (let count : length payload - length sign ≡ length ended.0 = omega (arith, ap length ended.1, length-append ended.0 sign) in count)
    ∙ ap (take (length ended.0)) ended.1 ∙ take_at ended.0 sign (length ended.0) refl in
    record {
      before = ended.0;
      whole = ended.1;
      signature = sym ((bytes_eq-Decides (hmac (sign_key_of secret) (before_signature payload sign)) sign).0 e) ∙ ap (hmac (sign_key_of secret)) before;
    }

pub initiator_signed : (secret payload : List ℕ) (near : ℕ) (cookie cert part sign : List ℕ) → Spells (IIKeying near cookie cert part sign) 0x38 payload → is_signed secret payload sign ≡ true → IsSigned secret payload sign
unfolding last_of
initiator_signed secret payload near cookie cert part sign spells e = signed_of secret payload sign (ends (parts_of (IIKeying near cookie cert part sign)) payload sign refl spells.1) e

pub responder_signed : (secret payload : List ℕ) (near : ℕ) (part sign : List ℕ) → Spells (RIKeying near part sign) 0x78 payload → is_signed secret payload sign ≡ true → IsSigned secret payload sign
unfolding last_of
responder_signed secret payload near part sign spells e = signed_of secret payload sign (ends (parts_of (RIKeying near part sign)) payload sign refl spells.1) e
