-- What was taken of a datagram that confirms a session, and of one that confirms none.
use Rattle.std.proofs.Common.{if◌then◌else◌, ℕ, ◌≡◌, ◌≤◌, ◌+◌, length, List, Bool, true, false, arith, Option, None, Some, refl, sym, ap, subst, ◌∙◌}
use Rattle.std.specs.FinMap.{get}
use Rattle.rtmfp_packet.specs.declared.head.PacketHead.{PacketHead}
use Rattle.startup.specs.Attempts.{after_confirm, confirm_fact}
use Rattle.session_core.specs.Session.{confirmed}
use Rattle.endpoint_model.specs.declared.row.Row.{Row}
use Rattle.endpoint_model.specs.declared.place.Place.{Place}
use Rattle.endpoint_model.specs.declared.place.Place.TheVariants.{Startup, Attempt, Session}
use Rattle.endpoint_model.specs.Added.{Added}
use Rattle.endpoint_model.specs.State.{State, Did, Done, with_session, with_startup, fact_entries, nothing}
use Rattle.rtmfp_forms.specs.Address.{AddressParts}
use Rattle.rtmfp_packet.specs.Whole.{Whole}
use Rattle.endpoint_model.specs.declared.config.Draws.{Draws}
use Rattle.endpoint_model.specs.Effects.{WalkStep, AreQuiet, EndsQuietly, AddsDiscards, discards, discards_among, steps_did, walk_of}
use Rattle.endpoint_model.specs.Log.{StopsSo, not_taken}
use Rattle.endpoint_model.specs.Admission.{confirms, confirms_by, confirming, confirming_by, taken_packet, counted_at, timed_at}
use Rattle.end_loops.proofs.Confirms.{confirms_counted, confirms_timed}

-- where nothing is confirmed, nothing is done
unconfirmed_by : (s : State) (near : ℕ) (o : Option Row) → confirms_by o ≡ false → confirming_by s near o ≡ nothing s
unconfirmed_by s near None e = refl
unconfirmed_by s near (Some row) e =
    ap (λ (b : Bool).
    if b
    then record {
      state = with_session (with_startup s (after_confirm s.startup row.session.joined.peer)) near row (confirmed row.session);
      entries = fact_entries (confirm_fact s.startup row.session.joined.peer);
    }
    else nothing s) e

pub unconfirmed : (s : State) (place : Place) → confirms s place ≡ false → confirming s place ≡ nothing s
unconfirmed s (Startup generation) e = refl
unconfirmed s (Attempt near generation) e = refl
unconfirmed s (Session near) e = unconfirmed_by s near (get s.sessions near) e

-- counting and timing a datagram don't change whether it confirms a session
pub confirms_taken : (s : State) (place : Place) (part : List ℕ) (head : PacketHead) → confirms (timed_at (counted_at s place part) place head) place ≡ confirms s place
confirms_taken s place part head = confirms_timed (counted_at s place part) place head ∙ confirms_counted s place part

-- no memory was found before a datagram was taken that confirms a session
pub stopped_before : (Left : Did → Type 0) (s : State) (place : Place) (part : List ℕ) (from : AddressParts) (draws : Draws) (packet : Whole) → confirms s place ≡ true → Left (nothing s) →
    StopsSo Left s from draws (taken_packet s place part packet) not_taken
stopped_before Left s place part from draws packet confirming left = record {
  acks = 0;
  taken = λ clash. absurd (cc);
  not_taken = λ is. (confirms_taken s place part packet.head ∙ confirming, refl);
  left = left;
}

pub not_refused : (A : Type 0) (s : State) (place : Place) (part : List ℕ) (from : AddressParts) (draws : Draws) (packet : Whole) → confirms s place ≡ true → AddsDiscards from draws (taken_packet s place part packet) → A
not_refused A s place part from draws packet confirming refused =
    let both : false ≡ true = sym refused.0 ∙ confirms_taken s place part packet.head ∙ confirming in
    absurd (cc)

-- what the steps over a refused datagram meet, after it was taken
pub record AreRefused (entered : State) (place : Place) (from : AddressParts) (draws : Draws) (xs : List WalkStep) (free : ℕ) : Type 0 where
  pub quiet : AreQuiet place from draws entered xs
  pub ends : EndsQuietly from place (steps_did place from draws entered xs).state
  pub room : discards_among place from draws entered xs ≤ free

pub refused_steps : (s entered : State) (place : Place) (part : List ℕ) (from : AddressParts) (draws : Draws) (packet : Whole) (before after : Added) →
    Done (confirming (timed_at (counted_at s place part) place packet.head) place) entered before after → AddsDiscards from draws (taken_packet s place part packet) →
    discards from draws (taken_packet s place part packet) ≤ before.free → AreRefused entered place from draws (walk_of place from draws entered packet) after.free
refused_steps s entered place part from draws packet before after done refused room =
    let t = timed_at (counted_at s place part) place packet.head in
    let quiet : confirming t place ≡ nothing t = unconfirmed t place refused.0 in
    let same : entered ≡ t = done.state ∙ ap (λ (d : Did). d.state) quiet in
    let free : before.free ≤ after.free + length (confirming t place).entries = done.free in
    let none : length (confirming t place).entries ≡ 0 = ap (λ (d : Did). length d.entries) quiet in
    subst (λ (u : State). AreRefused u place from draws (walk_of place from draws u packet) after.free) (sym same) (record { quiet = refused.1; ends = refused.2; room = omega (arith, free, none, room) })
