use Rattle.std.proofs.Common.{◌≡◌, ◌+◌, ◌-◌, [], ◌∷◌, length, length-append, Some, None, sym, ap, ◌∙◌, arith}
use Rattle.rtmfp_script.specs.Fields.{addresses_from, addresses_of, address_of}
use Rattle.rtmfp_script.proofs.AddressSteps.{step_some, step_bad, last_some, last_bad, no_room}
use Rattle.rtmfp_script.proofs.address.addresses.Goals as goal

pub words-init : goal.words-init
unfolding addresses_of
words-init c = record {
  count = ap length c.new-addresses.ensures;
  same = ap (λ done. addresses_from 32 done c.args.text.now) c.new-addresses.ensures;
}

pub returns-in_err-address-in-Some : goal.returns-in_err-address-in-Some
returns-in_err-address-in-Some c =
    let bad : address_of c.in-Some.word.now ≡ None = sym c.address.ensures ∙ c.in_err-address-in-Some.was in
    c.from_residual.ensures ∙ sym (step_bad c.words.at c.words.addresses c.words.rest.now c.in-Some.word.now c.in-Some.behind.now c.words-test.true c.in-Some.ensures bad) ∙ c.words.invariant.same

pub returns-in_err-address-in-None : goal.returns-in_err-address-in-None
returns-in_err-address-in-None c =
    let bad : address_of c.words.rest.now ≡ None = sym c.address-in-None.ensures ∙ c.in_err-address-in-None.was in
    c.from_residual-in_err-address-in-None.ensures ∙ sym (last_bad c.words.at c.words.addresses c.words.rest.now c.words-test.true c.in-None.ensures bad) ∙ c.words.invariant.same

pub words-preserved : goal.words-preserved
words-preserved c =
    let good : address_of c.in-Some.word.now ≡ Some c.in_ok-address-in-Some.field-0 = sym c.address.ensures ∙ c.in_ok-address-in-Some.was in
    record {
      count = ap length c.push.ensures ∙ omega (arith, length-append c.words.addresses (c.in_ok-address-in-Some.field-0 ∷ []), c.words.invariant.count);
      same =
          ap (λ done. addresses_from (32 - (c.words.at + 1)) done c.in-Some.behind.now) c.push.ensures
          ∙ sym (step_some c.words.at c.words.addresses c.words.rest.now c.in-Some.word.now c.in-Some.behind.now c.in_ok-address-in-Some.field-0 c.words-test.true c.in-Some.ensures good)
          ∙ c.words.invariant.same;
    }

pub returns : goal.returns
returns c = sym (no_room c.words.at c.words.addresses c.words.rest.now c.words-test.false) ∙ c.words.invariant.same

pub returns-in-None : goal.returns-in-None
returns-in-None c =
    let good : address_of c.words.rest.now ≡ Some c.in_ok-address-in-None.field-0 = sym c.address-in-None.ensures ∙ c.in_ok-address-in-None.was in
    ap Some c.push-in-None.ensures ∙ sym (last_some c.words.at c.words.addresses c.words.rest.now c.in_ok-address-in-None.field-0 c.words-test.true c.in-None.ensures good) ∙ c.words.invariant.same
