-- Events and their texts, for rows.
use Rattle.std.specs.Prelude.{ℕ, ◌≡◌, false, List, ◌∷◌, codes, replicate}
use Rattle.rtmfp_forms.specs.Address.{AddressParts}
use Rattle.endpoint_model.specs.declared.config.Draws.{Draws}
use Rattle.endpoint_model.specs.declared.entry.Entry.{Entry}
use Rattle.endpoint_model.specs.Event.{Call, Done}
use Rattle.log_writing.specs.Written.{event_lines, text_of}

-- the lines of this call and these entries, of the end `a` at moment 5, have this text
abbrev pub IsEventText : Call → List Entry → List ℕ → Type 0
IsEventText call entries text = text_of (event_lines (codes "a") 5
    (record { moment = 5; call = call; answer = Done; entries = entries })) ≡ text

-- a nonce of digits 2
abbrev pub draws : Draws
draws = record {
  nonce = replicate 16 0x22;
  tag = replicate 16 0x33;
  token = replicate 16 0x44;
  word = 7;
}

-- 1.2.3.4:5, of this origin
abbrev pub from_origin : ℕ → AddressParts
from_origin origin =
    record { v6 = false; origin = origin; host = 1 ∷ 2 ∷ 3 ∷ 4 ∷ replicate 12 0; port = 5 }
