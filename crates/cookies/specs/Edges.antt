-- Short names for the addresses at which the rules' edges are stated.
use Rattle.std.specs.Prelude.{ℕ, ◌∷◌, true, false, replicate}
use Rattle.rtmfp_forms.specs.Address.{AddressParts}

-- 10.0.0.last, port 1935
abbrev pub v4 : ℕ → ℕ → AddressParts
v4 origin last = record {
  v6 = false;
  origin = origin;
  host = 10 ∷ 0 ∷ 0 ∷ last ∷ replicate 12 0;
  port = 1935;
}

-- an IPv6 address of sixteen bytes 9, port 1935
abbrev pub v6 : ℕ → AddressParts
v6 origin = record { v6 = true; origin = origin; host = replicate 16 9; port = 1935 }
