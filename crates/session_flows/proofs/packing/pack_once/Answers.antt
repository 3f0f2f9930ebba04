use Rattle.std.proofs.Common.{◌≡◌, ℕ, List, ◌+◌, ◌-◌, ◌^◌, ◌<◌, ◌≤◌, min, true, Some, length, refl, sym, ap, ◌∙◌, subst, arith}
use Rattle.std.specs.Prelude.{slice_get}
use Rattle.std.proofs.lemmas.Option.{slice_get_read}
use Rattle.flow_send.specs.declared.waiting.Waiting.{Waiting}
use Rattle.flow_send.specs.Flow.{Flow}
use Rattle.session_flows.specs.Bound.{AreMild}
use Rattle.flow_send.specs.Choice.{choice_bytes}
use Rattle.session_flows.specs.Packing.{flight_of, packed, flow_packed, Goes, first_to_send, may_send, chosen, session_flight}
use Rattle.session_flows.proofs.Sounds.{numbered_at, numbered_set}
use Rattle.session_flows.proofs.Packs.{once_goes, chosen_may}
use Rattle.session_flows.proofs.Falling.{due_within}
use Rattle.session_flows.proofs.Kin.{IsKin}
use Rattle.session_flows.proofs.Settled.{may_set, kept_set}
use Rattle.session_flows.proofs.packing.pack_once.Goals as goal

pub pack_flow-goes-requires : goal.pack_flow-goes-requires
pack_flow-goes-requires c =
    let there : slice_get c.args.sending.now c.in-Some.at ≡ Some c.index-sending-at.result =
    slice_get_read c.args.sending.now (length c.args.sending.now) c.in-Some.at c.index-sending-at.result refl c.in-Some.ensures.1 c.index-sending-at.is in
    let id : c.index-sending-at.result.id ≡ 0 + c.in-Some.at = numbered_at 0 c.in-Some.at c.args.sending.now c.index-sending-at.result c.requires.numbered there in
    let within : c.in-Some.at < length c.args.sending.now = c.in-Some.ensures.1 in
    let few : c.index-sending-at.result.id < 256 = omega arith in
    subst (λ (f : Flow). f.id < 256) c.index-sending-at.is few

pub returns-clause-goes : goal.returns-clause-goes
returns-clause-goes c =
    let there : slice_get c.args.sending.now c.in-Some.at ≡ Some c.index-sending-at.result =
    slice_get_read c.args.sending.now (length c.args.sending.now) c.in-Some.at c.index-sending-at.result refl c.in-Some.ensures.1 c.index-sending-at.is in
    let id : c.index-sending-at.result.id ≡ 0 + c.in-Some.at = numbered_at 0 c.in-Some.at c.args.sending.now c.index-sending-at.result c.requires.numbered there in
    let went = subst (λ (f : Flow). Goes (flow_packed c.args.pace c.flight-flight.result (packed f c.args.out.now c.args.marks.now)) c.pack_flow-goes.result
    (packed f c.args.out.now c.args.marks.now) (packed c.pack_flow-goes.new.sender c.pack_flow-goes.new.out c.pack_flow-goes.new.marks)) (sym c.index-sending-at.is) c.pack_flow-goes.ensures.goes in
    let same = subst (λ (f : Flow). c.pack_flow-goes.new.sender.id ≡ f.id) (sym c.index-sending-at.is) c.pack_flow-goes.ensures.id in
    once_goes c.args.pace c.args.sending.now c.args.out.now c.args.marks.now c.in-Some.at c.index-sending-at.result c.flight-flight.result c.pack_flow-goes.result
    c.pack_flow-goes.new.sender c.pack_flow-goes.new.out c.pack_flow-goes.new.marks (c.in-Some.ensures.0 ∙ there) id there (c.flight-flight.ensures ∙ ap (λ (n : ℕ). min n (2 ^ 64 - 1)) c.requires.kept.flight) c.requires.window same went

pub returns-clause-numbered : goal.returns-clause-numbered
returns-clause-numbered c =
    let there : slice_get c.args.sending.now c.in-Some.at ≡ Some c.index-sending-at.result =
    slice_get_read c.args.sending.now (length c.args.sending.now) c.in-Some.at c.index-sending-at.result refl c.in-Some.ensures.1 c.index-sending-at.is in
    let same = subst (λ (f : Flow). c.pack_flow-goes.new.sender.id ≡ f.id) (sym c.index-sending-at.is) c.pack_flow-goes.ensures.id in
    numbered_set 0 c.in-Some.at c.args.sending.now c.index-sending-at.result c.pack_flow-goes.new.sender there same c.requires.numbered

pub returns-clause-due : goal.returns-clause-due
returns-clause-due c is_due few =
    let there : slice_get c.args.sending.now c.in-Some.at ≡ Some c.index-sending-at.result =
    slice_get_read c.args.sending.now (length c.args.sending.now) c.in-Some.at c.index-sending-at.result refl c.in-Some.ensures.1 c.index-sending-at.is in
    let first : first_to_send c.args.pace c.args.sending.now ≡ Some c.index-sending-at.result = c.in-Some.ensures.0 ∙ there in
    let may : may_send c.args.pace c.index-sending-at.result ≡ true = chosen_may c.args.pace c.args.sending.now c.index-sending-at.result first in
    let within : session_flight c.args.sending.now + choice_bytes (chosen c.args.pace c.index-sending-at.result) ≤ c.args.pace.window = due_within c.args.pace c.args.sending.now c.index-sending-at.result first is_due in
    let due = subst (λ (f : Flow). may_send c.args.pace f ≡ true → length c.args.out.now ≤ 51 → c.flight-flight.result + choice_bytes (chosen c.args.pace f) ≤ c.args.pace.window → c.pack_flow-goes.result ≡ true) (sym c.index-sending-at.is) c.pack_flow-goes.ensures.due in
    due may few (omega (arith, within, c.flight-flight.ensures, c.requires.kept.flight))

pub settle-requires : goal.settle-requires
settle-requires c =
    let there : slice_get c.args.sending.now c.in-Some.at ≡ Some c.index-sending-at.result =
    slice_get_read c.args.sending.now (length c.args.sending.now) c.in-Some.at c.index-sending-at.result refl c.in-Some.ensures.1 c.index-sending-at.is in
    let was : c.flight-before.result ≡ flight_of c.index-sending-at.result = c.flight-before.ensures.bytes ∙ ap (λ (f : Flow). flight_of f) (sym c.index-sending-at.is) in
    let same : IsKin c.index-sending-at.result c.pack_flow-goes.new.sender =
    subst (λ (f : Flow). IsKin f c.pack_flow-goes.new.sender) (sym c.index-sending-at.is) (record { id = c.pack_flow-goes.ensures.id; priority = c.pack_flow-goes.ensures.priority }) in
    may_set c.args.sending.now c.args.kept.now c.in-Some.at c.flight-before.result c.index-sending-at.result c.pack_flow-goes.new.sender c.requires.numbered c.requires.few c.requires.kept there was same

pub returns-clause-kept : goal.returns-clause-kept
returns-clause-kept c =
    let there : slice_get c.args.sending.now c.in-Some.at ≡ Some c.index-sending-at.result =
    slice_get_read c.args.sending.now (length c.args.sending.now) c.in-Some.at c.index-sending-at.result refl c.in-Some.ensures.1 c.index-sending-at.is in
    let was : c.flight-before.result ≡ flight_of c.index-sending-at.result = c.flight-before.ensures.bytes ∙ ap (λ (f : Flow). flight_of f) (sym c.index-sending-at.is) in
    let same : IsKin c.index-sending-at.result c.pack_flow-goes.new.sender =
    subst (λ (f : Flow). IsKin f c.pack_flow-goes.new.sender) (sym c.index-sending-at.is) (record { id = c.pack_flow-goes.ensures.id; priority = c.pack_flow-goes.ensures.priority }) in
    let mild : AreMild c.args.kept.now.bound c.pack_flow-goes.new.sender.sender.waiting =
    subst (λ (ws : List Waiting). AreMild c.args.kept.now.bound ws) (ap (λ (f : Flow). f.sender.waiting) c.index-sending-at.is ∙ sym c.pack_flow-goes.ensures.waits) (c.requires.kept.within c.in-Some.at c.index-sending-at.result there).mild in
    kept_set c.args.sending.now c.args.kept.now c.settle.new.self c.in-Some.at c.flight-before.result c.index-sending-at.result c.pack_flow-goes.new.sender c.requires.numbered c.requires.few c.requires.kept there was same mild c.settle.ensures
