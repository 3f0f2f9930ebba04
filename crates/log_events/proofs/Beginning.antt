-- An event begins, by what is found of its datagram.
use Rattle.std.proofs.Common.{ℕ, List, ◌≡◌, sym, ap, subst, Bool, true, false, if◌then◌else◌, Option, Some, None, ◌∙◌}
use Rattle.packet_scramble.specs.Datagram.{sid_of}
use Rattle.endpoint_model.specs.Event.{Setup, Call, Event, ReceiveCall, receive_in}
use Rattle.endpoint_laws.specs.Past.{Past, OfEvent, datagram_in, datagram_of, was_gone_through, with_begun}
use Rattle.endpoint_laws.specs.Contexts.{Secrets}
use Rattle.log_contexts.specs.Contexts.{HearsThere, OpensInNone, OpensThere}
use Rattle.log_arrivals.specs.declared.arrival.Arrival.{Arrival}
use Rattle.log_arrivals.specs.declared.arrival.Arrival.TheVariants.{Nowhere, Session as InSession}
use Rattle.log_arrivals.specs.declared.arrived.Arrived.{Arrived}
use Rattle.log_arrivals.specs.declared.given.Given.{Given}
use Rattle.log_arrivals.specs.Arrivals.{ArrivesIn}
use Rattle.log_arrivals.specs.Calls.{IsArrivedIn, IsGivenIn}
use Rattle.log_arrivals.proofs.Telling.{it_tells}
use Rattle.log_events.specs.declared.watch.EndWatch.{EndWatch}
use Rattle.log_events.specs.Watch.{HasBegun, IsWatchOf}
use Rattle.log_events.proofs.Underway.{they_go_on}
use Rattle.log_events.proofs.Telling.{takings_so}

nowhere_session : Nowhere ≡ InSession → ⊥
nowhere_session e = absurd cc

-- Where it opens in no session, it doesn't arrive in one.
outside : (secrets : Secrets) (setup : Setup) (past : Past) (plain : List ℕ) (arrival : Arrival) (o : Option ReceiveCall) → ArrivesIn secrets setup past o plain arrival → OpensInNone secrets setup past (datagram_of o) → arrival ≡ InSession → ⊥
outside secrets setup past plain arrival None a none at = nowhere_session (sym a ∙ at)
outside secrets setup past plain arrival (Some r) a none at = let found = a.session at in none (sid_of r.datagram) found.0 found.1.at

none_given : (secrets : Secrets) (setup : Setup) (past : Past) (gone : Bool) (o : Option (List ℕ)) → OpensInNone secrets setup past o → OpensInNone secrets setup past (if gone then o else None)
none_given secrets setup past true o none = none
none_given secrets setup past false o none = tt

module _ (secrets : Secrets) (setup : Setup) (last now : ℕ) (before : Past) (old new : EndWatch) (e : Event) (call : Call) (is : IsWatchOf secrets setup last before old) (at : e.call ≡ call) (plain : List ℕ) (a : Arrived)
    (found : IsArrivedIn secrets setup before (receive_in call) plain a) where
  arrives : ArrivesIn secrets setup before (receive_in e.call) plain a.arrival
  arrives = subst (λ (it : Call). ArrivesIn secrets setup before (receive_in it) plain a.arrival) (sym at) (it_tells.arrives secrets setup before (receive_in call) plain a found)

  -- it opens in no session
  pub none_in : OpensInNone secrets setup before (datagram_of (receive_in call)) → OpensInNone secrets setup before (datagram_in (OfEvent e))
  none_in none = none_given secrets setup before (was_gone_through e.answer) (datagram_of (receive_in e.call)) (subst (λ (it : Call). OpensInNone secrets setup before (datagram_of (receive_in it))) (sym at) none)

  pub begun_beside : OpensInNone secrets setup before (datagram_of (receive_in call)) → IsWatchOf secrets setup now (with_begun now e before) new → HasBegun secrets setup now e before new false
  begun_beside none watch = record {
    watch = watch;
    underway = they_go_on.begins secrets setup now e before last old.digest old.contexts is.digest is.contexts;
    takes = λ past u.
        takings_so.none secrets setup now e before past plain a.arrival u arrives
        (outside secrets setup before plain a.arrival (receive_in e.call) arrives (subst (λ (it : Call). OpensInNone secrets setup before (datagram_of (receive_in it))) (sym at) none));
  }

  -- it opens in one
  module _ (g : Given) (gone : was_gone_through e.answer ≡ true) (given : IsGivenIn secrets setup before (receive_in call) g) where
    pub record IsTold : Type 0 where
      pub datagram : List ℕ
      pub holds : datagram_in (OfEvent e) ≡ Some datagram
      pub there : OpensThere secrets setup before g.near g.thing g.generation datagram g.count g.fits

    pub told : IsTold
    told =
        let t = it_tells.given secrets setup before (receive_in call) g given in
        record {
          datagram = t.0;
          holds = ap (λ (b : Bool). if b then datagram_of (receive_in e.call) else None) gone ∙ ap (λ (it : Call). datagram_of (receive_in it)) at ∙ t.1;
          there = t.2;
        }

    pub begun_in : (took : Bool) → IsWatchOf secrets setup now (with_begun now e before) new → HearsThere secrets setup before now e g.near g.thing g.generation told.datagram new.contexts took → HasBegun secrets setup now e before new took
    begun_in took watch hears = record {
      watch = watch;
      underway = they_go_on.begins secrets setup now e before last old.digest old.contexts is.digest is.contexts;
      takes = λ past u. takings_so.heard secrets setup now e before past plain told.datagram a.arrival g.near g.generation g.count g.thing g.fits new.contexts took u arrives told.holds told.there hears;
    }
