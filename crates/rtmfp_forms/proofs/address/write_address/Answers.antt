use Rattle.std.proofs.Common.{◌≡◌, ◌∙◌, ◌+◌, ℕ, cond, take, sym, ap, subst}
use Rattle.std.specs.Int.{w16, to_be_bytes}
use Rattle.rtmfp_forms.specs.Address.{AddressParts, host_len, IsAddress}
use Rattle.rtmfp_forms.proofs.Addresses.{address_written, spelled_in_front, length-address_bytes}
use Rattle.rtmfp_forms.proofs.address.write_address.Goals as goal

pub returns-clause-written : goal.returns-clause-written
returns-clause-written c =
    let a = c.args.address.now in
    let is : IsAddress a = subst IsAddress c.address.view_is c.address.invariant in
    let len : c.host_len-host_len.result ≡ host_len a.v6 = c.host_len-host_len.ensures ∙ ap (λ (b : AddressParts). host_len b.v6) c.address.view_is in
    let family : c.family_bit.result ≡ cond a.v6 128 0 = c.family_bit.ensures ∙ ap (λ (b : AddressParts). cond b.v6 128 0) c.address.view_is in
    let origin : c.address.inside.origin ≡ a.origin = ap (λ (b : AddressParts). b.origin) c.address.view_is in
    let host : c.copy_from_slice.new.self ≡ take c.host_len-host_len.result a.host = c.copy_from_slice.ensures.after ∙ ap (λ (b : AddressParts). take c.host_len-host_len.result b.host) c.address.view_is in
    let port : c.copy_from_slice-2.new.self ≡ to_be_bytes w16 a.port = c.copy_from_slice-2.ensures.after ∙ c.to_be_bytes.ensures ∙ ap (λ (b : AddressParts). to_be_bytes w16 b.port) c.address.view_is in
    rw origin (address_written a c.args.out.now c.copy_from_slice.new.self c.copy_from_slice-2.new.self c.host_len-host_len.result c.family_bit.result is c.told-out len family host port)

pub returns-clause-length : goal.returns-clause-length
returns-clause-length c =
    let a = c.args.address.now in
    let is : IsAddress a = subst IsAddress c.address.view_is c.address.invariant in
    let len : c.host_len-host_len.result ≡ host_len a.v6 = c.host_len-host_len.ensures ∙ ap (λ (b : AddressParts). host_len b.v6) c.address.view_is in
    ap (λ (n : ℕ). n + 3) len ∙ sym (length-address_bytes a is)

pub returns-clause-spells : goal.returns-clause-spells
returns-clause-spells c =
    let a = c.args.address.now in
    let is : IsAddress a = subst IsAddress c.address.view_is c.address.invariant in
    spelled_in_front a _ _ _ is (returns-clause-written c) (returns-clause-length c)
