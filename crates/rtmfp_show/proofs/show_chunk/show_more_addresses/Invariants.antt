use Rattle.std.proofs.Common.{◌≡◌, ◌++◌, map}
use Rattle.rtmfp_text.specs.Words.{behind_commas}
use Rattle.rtmfp_text.specs.AddressText.{address_text}
use Rattle.rtmfp_show.proofs.show_chunk.show_more_addresses.Given as goal

abbrev pub invariant-loop-address : goal.invariant-loop-address
invariant-loop-address l = l.text ++ behind_commas (map address_text l.address-iterator) ≡ l.fn.text ++ behind_commas (map address_text l.fn.addresses)
