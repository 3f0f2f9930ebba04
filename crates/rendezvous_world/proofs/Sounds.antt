-- A world is sound.
use Rattle.std.proofs.Common.{◌≡◌, ℕ, ◌<◌, List, [], length, inl, inr, sym, ap, subst, ◌∙◌, arith}
use Rattle.endpoint_model.specs.Event.{Setup, Event, own_of}
use Rattle.endpoint_laws.specs.Lawful.{IsLawful}
use Rattle.endpoint_laws.specs.Contexts.{Knows}
use Rattle.endpoint_laws.specs.Agreed.{HaveOneMap}
use Rattle.endpoint_laws.specs.History.{log_of, past_at, AreLawful, IsFresh, TakesPart}
use Rattle.endpoint_laws.proofs.DrawnOnce.{what_is_drawn_once}
use Rattle.endpoint_laws.proofs.Logged.{every_log_is_lawful}
use Rattle.rendezvous_world.specs.Seen.{group_secrets, Seen, setup_at}
use Rattle.rendezvous_world.specs.History.{history_of}
use Rattle.rendezvous_world.specs.Sound.{IsSound}
use Rattle.rendezvous_world.specs.Kept.{IsWorld}
use Rattle.rendezvous_world.specs.Laws.{EveryWorldIsSound}
use Rattle.rendezvous_world.proofs.Ends.{below_or_not, is_there, setup_is}
use Rattle.rendezvous_world.proofs.Told.{takes_part_below, log_absent}

module _ (w : Seen) (is : IsWorld w) where
  pub takes_part : (who : ℕ) → TakesPart who (history_of w) → who < length w.ends
  takes_part who h = takes_part_below (length w.ends) w.ends w.lines who is.lines h

  lawful : AreLawful group_secrets (setup_at w.ends) (history_of w)
  lawful who = elim (below_or_not who (length w.ends)) [
    | inl below ↦
        (let there = is_there w.ends who below in
        let of_end : IsLawful group_secrets there.0.setup (log_of who (history_of w)) =
        every_log_is_lawful group_secrets there.0.setup (log_of who (history_of w)) (is.stand who there.0 there.1).told (is.known who there.0 there.1) (is.given who there.0 there.1) (is.calls who) (is.stand who there.0 there.1).stands in
        subst (λ (setup : Setup). IsLawful group_secrets setup (log_of who (history_of w))) (sym (setup_is w.ends who there.0 there.1)) of_end)
    | inr past ↦
        (let none : log_of who (history_of w) ≡ [] = log_absent who (history_of w) (λ h. (let below : who < length w.ends = takes_part who h in omega arith)) in
        subst (λ (log : List Event). IsLawful group_secrets (setup_at w.ends who) log) (sym none) tt)
  ]

  fresh : IsFresh (setup_at w.ends) (history_of w)
  fresh = record {
    nonces = what_is_drawn_once group_secrets (setup_at w.ends) (history_of w) lawful is.nonces;
    prints = λ a b ha hb same.
        (let x = is_there w.ends a (takes_part a ha) in
        let y = is_there w.ends b (takes_part b hb) in
        is.prints a b x.0 y.0 x.1 y.1 (sym (ap own_of (setup_is w.ends a x.0 x.1)) ∙ same ∙ ap own_of (setup_is w.ends b y.0 y.1)));
  }

  pub sound : IsSound w
  sound = record { stand = is.stand; lawful = lawful; honest = is.honest; fresh = fresh; answers = is.answers }

  -- the map has what each end that takes part was given first, and all that it learnt
  pub one_map : HaveOneMap group_secrets (setup_at w.ends) (history_of w)
  one_map who part =
      let there = is_there w.ends who (takes_part who part) in
      subst (λ (setup : Setup). Knows group_secrets setup (past_at who (history_of w))) (sym (setup_is w.ends who there.0 there.1)) (is.known who there.0 there.1)

pub every_world_is_sound : EveryWorldIsSound
every_world_is_sound w is = sound w is
