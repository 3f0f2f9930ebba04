-- The text of addresses.
use Rattle.std.specs.Prelude.{ℕ, List, [], ◌∷◌, codes, decimal, slice_index, if◌then◌else◌}
use Rattle.hex.specs.Hex.{encode_lower}
use Rattle.rtmfp_forms.specs.Address.{AddressParts}
use Rattle.rtmfp_text.specs.Words.{text_of}

-- the four numbers of a host, as 10.0.0.1
unfoldable pub v4_host_text : List ℕ → List ℕ
v4_host_text host = text_of (
    decimal (slice_index host 0) ∷ codes "." ∷ decimal (slice_index host 1) ∷ codes "."
    ∷ decimal (slice_index host 2) ∷ codes "." ∷ decimal (slice_index host 3) ∷ [])

-- the 16 bytes of a host, in brackets
unfoldable pub v6_host_text : List ℕ → List ℕ
v6_host_text host = text_of (codes "[" ∷ encode_lower host ∷ codes "]" ∷ [])

abbrev pub host_text : AddressParts → List ℕ
host_text address = if address.v6 then v6_host_text address.host else v4_host_text address.host

-- host, colon and port
unfoldable pub address_text : AddressParts → List ℕ
address_text address = text_of (host_text address ∷ codes ":" ∷ decimal address.port ∷ [])
