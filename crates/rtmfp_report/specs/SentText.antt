-- The texts of datagrams that go out.
use Rattle.std.specs.Prelude.{ℕ, List, [], ◌∷◌, ◌++◌, drop, Option, Some, None, codes}
use Rattle.std.specs.FinMap.{get}
use Rattle.crypto_profile.specs.declared.keys.Context.{Context}
use Rattle.crypto_profile.specs.Keys.{keys_of}
use Rattle.crypto_profile.specs.Opening.{plain_of}
use Rattle.rtmfp_forms.specs.Address.{AddressParts}
use Rattle.rtmfp_text.specs.Words.{number_field_text, text_of}
use Rattle.rtmfp_text.specs.AddressText.{address_text}
use Rattle.rtmfp_text.specs.KindText.{kind_text}
use Rattle.endpoint_laws.specs.Contexts.{Secrets, generation_of}
use Rattle.endpoint.specs.Kinds.{kinds_in}

-- the names of chunks, each behind a plus sign
abbrev pub behind_pluses : List ℕ → List ℕ
behind_pluses [] = []
behind_pluses (kind ∷ kinds) = codes "+" ++ (kind_text kind ++ behind_pluses kinds)

-- the names of chunks with plus signs between them, and a word for none
abbrev pub kinds_text : List ℕ → List ℕ
kinds_text [] = codes "none"
kinds_text (kind ∷ kinds) = kind_text kind ++ behind_pluses kinds

-- The types of the chunks of a datagram's plain packet; none where it has no head, and none without
-- the secret. The sealed part stands behind the 4 bytes of the session ID. It is deciphered by the
-- keys of its context, whatever its tag.
abbrev pub kinds_under : Option (List ℕ) → Context → List ℕ → List ℕ
kinds_under None context datagram = []
kinds_under (Some secret) context datagram =
    kinds_in (plain_of (keys_of secret context) (drop 4 datagram))

-- the same by the secret that the group has in the context's generation
abbrev pub sent_kinds : Secrets → Context → List ℕ → List ℕ
sent_kinds secrets context datagram =
    kinds_under (get secrets (generation_of context)) context datagram

-- the datagram of this number, where it goes, and the names of its chunks
unfoldable pub sent_text : Secrets → ℕ → AddressParts → List ℕ → Context → List ℕ
sent_text secrets number to datagram context = text_of (
    number_field_text (codes "sent ") number ∷ codes " " ∷ address_text to ∷ codes " "
    ∷ kinds_text (sent_kinds secrets context datagram) ∷ [])
