use Rattle.std.proofs.Common.{ℕ, ◌≡◌, ◌+◌, ◌++◌, ◌∷◌, [], take, List, ap, sym, subst, ◌∙◌, arith}
use Rattle.std.proofs.lemmas.List.{take_more}
use Rattle.rtmfp_forms.specs.Address.{AddressParts, address_bytes}
use Rattle.rtmfp_chunks.specs.Fields.{AreAddresses}
use Rattle.startup_packets.specs.Packets.{addresses_bytes}
use Rattle.startup_packets.proofs.Addresses.{are_more, bytes_more}
use Rattle.startup_packets.proofs.packets.spelled.Goals as goal

pub loop-address-preserved : goal.loop-address-preserved
loop-address-preserved c =
    let done : List AddressParts = take c.loop-address.address-index c.args.addresses.now in
    let a : AddressParts = c.address-item.result in
    let more : addresses_bytes (take (c.loop-address.address-index + 1) c.args.addresses.now) ≡ addresses_bytes done ++ address_bytes a =
    ap addresses_bytes (take_more c.args.addresses.now c.loop-address.address-index a c.loop-address-test.true ∙ ap (λ (x : AddressParts). done ++ x ∷ []) (sym c.address-item.is)) ∙ bytes_more done a in
    record {
      bytes = c.put_address.ensures.put ∙ ap (λ (l : List ℕ). l ++ address_bytes a) c.loop-address.invariant.bytes ∙ ap (λ (l : List ℕ). 0 ∷ l) (sym more);
      addresses = subst AreAddresses (sym more) (are_more (addresses_bytes done) a (address_bytes a) c.loop-address.invariant.addresses c.put_address.ensures.spells);
      short = omega (arith, c.put_address.ensures.short, c.loop-address.invariant.short);
    }
