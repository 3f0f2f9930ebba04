-- In a world messages go over.
use Rattle.std.proofs.Common.{ℕ, sym, subst}
use Rattle.endpoint_model.specs.Event.{Setup}
use Rattle.endpoint_model.specs.Log.{StandsFor}
use Rattle.endpoint_laws.specs.Laws.{IsSetup}
use Rattle.endpoint_laws.specs.History.{log_of}
use Rattle.endpoint_handing.specs.Laws.{IsOfEnds}
use Rattle.endpoint_handing.proofs.AllFlows.{all_flows_hand}
use Rattle.endpoint_handing.proofs.HandsOver.{every_history_hands_over, every_history_hands_once}
use Rattle.endpoint_handing.proofs.HandsOver.{every_flow_has_an_order, every_message_is_told}
use Rattle.rendezvous_world.specs.Seen.{group_secrets, Seen, setup_at}
use Rattle.rendezvous_world.specs.History.{history_of}
use Rattle.rendezvous_world.specs.Sound.{IsSound}
use Rattle.rendezvous_world.specs.Kept.{IsWorld}
use Rattle.rendezvous_world.specs.Laws.{EveryWorldHandsOver}
use Rattle.rendezvous_world.proofs.Ends.{is_there, setup_is}
use Rattle.rendezvous_world.proofs.Sounds.{takes_part, sound, one_map}

of_ends : (w : Seen) → IsWorld w → IsOfEnds group_secrets (setup_at w.ends) (history_of w)
of_ends w is =
    let holds : IsSound w = sound w is in
    record {
      setup = λ who part.
          (let there = is_there w.ends who (takes_part w is who part) in
          subst IsSetup (sym (setup_is w.ends who there.0 there.1)) (is.given who there.0 there.1));
      calls = is.calls;
      group = one_map w is;
      stands = λ who part.
          (let there = is_there w.ends who (takes_part w is who part) in
          let stand = is.stand who there.0 there.1 in (
            stand.told,
            subst (λ (setup : Setup). StandsFor setup (log_of who (history_of w)) stand.told) (sym (setup_is w.ends who there.0 there.1)) stand.stands,
          ));
      honest = holds.honest;
      fresh = holds.fresh;
    }

pub hands_over : EveryWorldHandsOver
hands_over w is =
    let ends : ℕ → Setup = setup_at w.ends in
    let all : IsOfEnds group_secrets ends (history_of w) = of_ends w is in
    record {
      in_order = λ later early e n ordered. every_history_hands_over all_flows_hand group_secrets ends later early (subst (IsOfEnds group_secrets ends) e all) n ordered;
      as_they_arrive = λ later early e n ordered. every_history_hands_once all_flows_hand group_secrets ends later early (subst (IsOfEnds group_secrets ends) e all) n ordered;
      has_an_order = λ later early e n. every_flow_has_an_order all_flows_hand group_secrets ends later early (subst (IsOfEnds group_secrets ends) e all) n;
      each_is_told = λ later early e. every_message_is_told all_flows_hand group_secrets ends later early (subst (IsOfEnds group_secrets ends) e all);
    }
