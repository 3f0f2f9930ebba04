-- Values for the rows.
use Rattle.std.specs.Prelude.{ℕ, ◌∷◌, false, Option, Some, replicate}
use Rattle.rtmfp_forms.specs.Address.{AddressParts}
use Rattle.mobility.specs.declared.pending.Test.{Test}

-- the host 10.0.0.h, with an origin and a port
abbrev pub v4 : ℕ → ℕ → ℕ → AddressParts
v4 origin h port = record {
  v6 = false;
  origin = origin;
  host = 10 ∷ 0 ∷ 0 ∷ h ∷ replicate 12 0;
  port = port;
}

-- a test of the port of 10.0.0.1, with a token of 16 times one byte
abbrev pub tested : ℕ → ℕ → ℕ → Option Test
tested port byte moment = Some (record {
  address = v4 0 1 port;
  token = replicate 16 byte;
  moment = moment;
})
