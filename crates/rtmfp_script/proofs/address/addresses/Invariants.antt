use Rattle.std.proofs.Common.{◌≡◌, ◌-◌, length}
use Rattle.rtmfp_script.specs.Fields.{addresses_from, addresses_of}
use Rattle.rtmfp_script.proofs.address.addresses.Given as goal

abbrev pub invariant-words : goal.invariant-words
invariant-words l = record {
  count : length l.addresses ≡ l.at;
  same : addresses_from (32 - l.at) l.addresses l.rest ≡ addresses_of l.text;
}
