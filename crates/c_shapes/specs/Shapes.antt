-- What the structs of rtmfp.h mean.
use Rattle.std.specs.Prelude.{ℕ, Bool, true, false, not, ◌&&◌, ◌||◌, nat_eq, nat_le, if◌then◌else◌, List, [], ◌∷◌, ◌++◌, replicate, slice_index, Some, None}
use Rattle.rtmfp_forms.specs.Address.{AddressParts}
use Rattle.endpoint_model.specs.declared.config.Draws.{Draws}
use Rattle.endpoint_model.specs.Event.{Setup}
use Rattle.flow_send.specs.declared.waiting.MessageOptions.{MessageOptions}
use Rattle.c_shapes.specs.declared.shapes.CAddress.{CAddress}
use Rattle.c_shapes.specs.declared.shapes.CConfig.{CConfig}
use Rattle.c_shapes.specs.declared.shapes.CDraws.{CDraws}

-- the draws of a call
abbrev pub drawn : CDraws → Draws
drawn d = record { nonce = d.nonce; tag = d.tag; token = d.token; word = d.word }

-- how long a message is sent, where all ones are no limit
abbrev pub message_options : ℕ → ℕ → MessageOptions
message_options deadline resends = record {
  deadline = if nat_eq deadline 0xffffffffffffffff then None else Some deadline;
  resends = if nat_eq resends 0xffffffff then None else Some resends;
}

-- a limit that an end may be narrowed to
abbrev pub is_limit : ℕ → Bool
is_limit limit = nat_le 96 limit && nat_le limit 1164

-- the family is one of the two, and the origin one of the four
abbrev pub is_address : CAddress → Bool
is_address a = (nat_eq a.family 4 || nat_eq a.family 6) && nat_le a.origin 3

-- an origin that there is, or else 0
abbrev pub origin_of : ℕ → ℕ
origin_of origin = if nat_le origin 3 then origin else 0

-- the address of a struct: 16 bytes of host, or the first four and zeros
abbrev pub placed : CAddress → AddressParts
placed a = if nat_eq a.family 6
    then record {
      v6 = true;
      origin = origin_of a.origin;
      host = a.host;
      port = a.port;
    }
    else record {
      v6 = false;
      origin = origin_of a.origin;
      host = (slice_index a.host 0 ∷ slice_index a.host 1 ∷ slice_index a.host 2
          ∷ slice_index a.host 3 ∷ []) ++ replicate 12 0;
      port = a.port;
    }

-- the struct of an address
abbrev pub shown_address : AddressParts → CAddress
shown_address a = record {
  family = if a.v6 then 6 else 4;
  origin = a.origin;
  port = a.port;
  host = a.host;
}

-- the struct where there is no address
abbrev pub nowhere : CAddress
nowhere = record { family = 0; origin = 0; port = 0; host = replicate 16 0 }

-- the limits are in their ranges
abbrev pub is_config : CConfig → Bool
is_config c = nat_le 1 c.max_peers && (nat_le c.max_peers 1048576
    && (nat_le 1 c.max_sessions && nat_le c.max_sessions 65536))

-- what an end is made of
abbrev pub setup_of : CConfig → List ℕ → ℕ → List ℕ → List ℕ → Setup
setup_of c certificate generation group cookies = record {
  config = record {
    max_peers = c.max_peers;
    max_sessions = c.max_sessions;
    introduces = not (nat_eq c.introduces 0);
  };
  cert = certificate;
  generation = generation;
  secret = group;
  cookie_secret = cookies;
}
