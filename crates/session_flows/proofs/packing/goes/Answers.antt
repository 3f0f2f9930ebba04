use Rattle.std.proofs.Common.{◌≡◌, ℕ, ◌+◌, ◌-◌, ◌^◌, nat_le, min, Option, Some, length, refl, sym, ap, ◌∙◌, subst, rules}
use Rattle.std.proofs.lemmas.Option.{slice_get_read}
use Rattle.flow_send.specs.Choice.{choice_bytes}
use Rattle.flow_send.specs.Flow.{Flow}
use Rattle.session_flows.specs.Packing.{chosen, first_to_send, session_flight, goes_by}
use Rattle.session_flows.proofs.Packs.{chosen_may, same_goes}
use Rattle.session_flows.proofs.packing.goes.Goals as goal

pub goes_of-requires : goal.goes_of-requires
goes_of-requires c =
    chosen_may c.args.pace c.args.sending.now c.index-sending-at.result
    (c.in-Some.ensures.0 ∙ slice_get_read c.args.sending.now (length c.args.sending.now) c.in-Some.at c.index-sending-at.result refl c.in-Some.ensures.1 c.index-sending-at.is)

pub returns-in-Some : goal.returns-in-Some
returns-in-Some c =
    let it : first_to_send c.args.pace c.args.sending.now ≡ Some c.index-sending-at.result =
    c.in-Some.ensures.0 ∙ slice_get_read c.args.sending.now (length c.args.sending.now) c.in-Some.at c.index-sending-at.result refl c.in-Some.ensures.1 c.index-sending-at.is in
    let told : c.goes_of.result ≡ nat_le (min (session_flight c.args.sending.now) (2 ^ 64 - 1) + choice_bytes (chosen c.args.pace c.index-sending-at.result)) c.args.pace.window =
    subst (λ (n : ℕ). c.goes_of.result ≡ nat_le (min n (2 ^ 64 - 1) + choice_bytes (chosen c.args.pace c.index-sending-at.result)) c.args.pace.window) c.requires.kept.flight (search rules) in
    told
    ∙ same_goes c.args.pace.window (session_flight c.args.sending.now) (choice_bytes (chosen c.args.pace c.index-sending-at.result)) c.requires.window
    ∙ sym (ap (λ (o : Option Flow). goes_by c.args.pace c.args.sending.now o) it)
