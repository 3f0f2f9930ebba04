-- Whether a datagram confirms a session isn't changed by counting it.
use Rattle.std.proofs.Common.{ℕ, ◌≡◌, List, Option, None, Some, refl, ap}
use Rattle.std.specs.FinMap.{get}
use Rattle.rtmfp_base.proofs.Maps.{get_inserted}
use Rattle.rtmfp_packet.specs.declared.head.PacketHead.{PacketHead}
use Rattle.session_core.specs.Session.{with_stamps}
use Rattle.session_core.specs.Hearing.{counted}
use Rattle.endpoint_model.specs.declared.row.Row.{Row}
use Rattle.endpoint_model.specs.declared.place.Place.{Place}
use Rattle.endpoint_model.specs.declared.place.Place.TheVariants.{Startup, Attempt, Session}
use Rattle.endpoint_model.specs.State.{State}
use Rattle.endpoint_model.specs.Admission.{confirms, confirms_by, counted_at, counted_by, timed_at, timed_by}

counted_still : (s : State) (near : ℕ) (part : List ℕ) (o : Option Row) → get s.sessions near ≡ o → confirms_by (get (counted_by s near part o).sessions near) ≡ confirms_by o
counted_still s near part None e = ap confirms_by e
counted_still s near part (Some row) e = ap confirms_by (get_inserted s.sessions near (record row { session = counted row.session part }))

timed_still : (s : State) (near : ℕ) (head : PacketHead) (o : Option Row) → get s.sessions near ≡ o → confirms_by (get (timed_by s near head o).sessions near) ≡ confirms_by o
timed_still s near head None e = ap confirms_by e
timed_still s near head (Some row) e = ap confirms_by (get_inserted s.sessions near (record row { session = with_stamps head s.moment row.session }))

pub confirms_counted : (s : State) (place : Place) (part : List ℕ) → confirms (counted_at s place part) place ≡ confirms s place
confirms_counted s (Startup generation) part = refl
confirms_counted s (Attempt near generation) part = refl
confirms_counted s (Session near) part = counted_still s near part (get s.sessions near) refl

pub confirms_timed : (s : State) (place : Place) (head : PacketHead) → confirms (timed_at s place head) place ≡ confirms s place
confirms_timed s (Startup generation) head = refl
confirms_timed s (Attempt near generation) head = refl
confirms_timed s (Session near) head = timed_still s near head (get s.sessions near) refl
