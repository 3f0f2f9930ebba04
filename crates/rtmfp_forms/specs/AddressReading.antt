-- An address from left to right, and how many bytes it takes.
use Rattle.std.specs.Prelude.{ℕ, ◌+◌, ◌-◌, ◌%◌, nat_le, nat_lt, if◌then◌else◌, List, [], ◌∷◌, ◌++◌, length, take, drop, replicate, Result, Ok, Err}
use Rattle.std.specs.Int.{w16, from_be_bytes}
use Rattle.rtmfp_forms.specs.declared.fault.FormFault.{FormFault}
use Rattle.rtmfp_forms.specs.declared.fault.FormFault.TheVariants.{Short}
use Rattle.rtmfp_forms.specs.Address.{AddressParts, host_len}

unfoldable pub address_at : List ℕ → Result (AddressParts × ℕ) FormFault
address_at [] = Err Short
address_at (flags ∷ rest) =
    let n = host_len (nat_le 128 flags) in
    if nat_lt (length rest) (n + 2) then Err Short
    else Ok (
      record {
        v6 = nat_le 128 flags;
        origin = flags % 4;
        host = take n rest ++ replicate (16 - n) 0;
        port = from_be_bytes w16 (take 2 (drop n rest));
      },
      n + 3,
    )
