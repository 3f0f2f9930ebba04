use Rattle.std.proofs.Common.{drop, ap, ◌∙◌}
use Rattle.std.specs.Prelude.{replicate}
use Rattle.rtmfp_forms.specs.Address.{AddressParts}
use Rattle.cookies.specs.Cookie.{cookie_of}
use Rattle.cookies.proofs.Making.{observed-IsAddress, made}
use Rattle.cookies.proofs.CookieMaker.make.Goals as goal

pub returns : goal.returns
returns c =
    let address : AddressParts = record { v6 = c.to.inside.v6; origin = c.to.inside.origin; host = c.to.inside.host; port = c.to.inside.port } in
    made c.self.inside.secret address c.args.moment c.write_address-address_len.result c.write_address-address_len.new.out
    (drop c.write_address-address_len.result (replicate 19 0)) c.copy_from_slice.new.self c.copy_from_slice-2.new.self c.hmac-tag.result c.copy_from_slice-3.new.self
    (observed-IsAddress address c.to.invariant)
    c.write_address-address_len.ensures.written c.write_address-address_len.ensures.length
    (c.copy_from_slice.ensures.after ∙ c.to_be_bytes.ensures) c.copy_from_slice-2.ensures.after c.hmac-tag.ensures c.copy_from_slice-3.ensures.after
    ∙ ap (λ secret. cookie_of secret address c.args.moment) c.self.view_is
    ∙ ap (λ (a : AddressParts). cookie_of c.args.self.now a c.args.moment) c.to.view_is
