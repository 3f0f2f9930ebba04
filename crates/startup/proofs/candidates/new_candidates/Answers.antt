use Rattle.std.proofs.Common.{◌≡◌, ◌<◌, ◌+◌, ◌∷◌, List, [], length, take, IfSome, IfNone, refl, ap, sym, subst, ◌∙◌}
use Rattle.rtmfp_forms.specs.Address.{AddressParts}
use Rattle.rtmfp_chunks.specs.FieldReading.{addresses_in}
use Rattle.startup.specs.Redirects.{or_source, new_candidates, told_addresses}
use Rattle.startup.proofs.candidates.new_candidates.Goals as goal

pub returns-in-None-clause-some : goal.returns-in-None-clause-some
returns-in-None-clause-some c =
    let from : AddressParts = c.args.from.now in
    let empty : addresses_in c.args.list.now ≡ [] = sym c.new-addresses.ensures.exact ∙ c.in-None.ensures.steps.0 in
    let told : from ∷ c.new.result ≡ told_addresses c.args.list.now from = ap (λ (l : List AddressParts). from ∷ l) (c.new.ensures.whole [] refl) ∙ ap (λ (l : List AddressParts). or_source l from) (sym empty) in
    subst (λ (l : List AddressParts). IfSome c.new_among-in-None.result (λ new. take new.count new.to ≡ new_candidates c.args.held.now l)) told c.new_among-in-None.ensures.some

pub returns-in-None-clause-none : goal.returns-in-None-clause-none
returns-in-None-clause-none c =
    let from : AddressParts = c.args.from.now in
    let empty : addresses_in c.args.list.now ≡ [] = sym c.new-addresses.ensures.exact ∙ c.in-None.ensures.steps.0 in
    let told : from ∷ c.new.result ≡ told_addresses c.args.list.now from = ap (λ (l : List AddressParts). from ∷ l) (c.new.ensures.whole [] refl) ∙ ap (λ (l : List AddressParts). or_source l from) (sym empty) in
    subst (λ (l : List AddressParts). IfNone c.new_among-in-None.result (16 < length c.args.held.now + length (new_candidates c.args.held.now l))) told c.new_among-in-None.ensures.none
