use Rattle.std.proofs.Common.{◌≡◌, ◌≤◌, ◌+◌, ◌*◌, ◌∷◌, length, take}
use Rattle.rtmfp_chunks.specs.Fields.{AreAddresses}
use Rattle.startup_packets.specs.Packets.{addresses_bytes}
use Rattle.startup_packets.proofs.packets.spelled.Given as goal

abbrev pub invariant-loop-address : goal.invariant-loop-address
invariant-loop-address l = record {
  bytes : l.list ≡ 0 ∷ addresses_bytes (take l.address-index l.addresses);
  addresses : AreAddresses (addresses_bytes (take l.address-index l.addresses));
  short : length l.list ≤ 1 + 19 * l.address-index;
}
