-- What every thing that an end does keeps and adds. A thing after an orderly one is orderly, so the chunks of a datagram and the things of a tick are gone through once, for all that is said of them.
use Rattle.std.proofs.Common.{◌≡◌, ℕ, List, [], ◌∷◌, take, Bool, true, false, if◌then◌else◌, Some, None, refl, subst, ◌∙◌}
use Rattle.std.specs.FinMap.{get}
use Rattle.rtmfp_forms.specs.Address.{AddressParts}
use Rattle.rtmfp_packet.specs.Walk.{Placed}
use Rattle.rtmfp_packet.specs.Whole.{Whole}
use Rattle.endpoint_model.specs.declared.walk.Walk.{Walk}
use Rattle.endpoint_model.specs.declared.config.Draws.{Draws}
use Rattle.endpoint_model.specs.declared.place.Place.{Place}
use Rattle.endpoint_model.specs.declared.place.Place.TheVariants.{Startup, Attempt, Session}
use Rattle.endpoint_model.specs.declared.row.Row.{Row}
use Rattle.rtmfp_base.specs.declared.cause.Cause.{Cause}
use Rattle.endpoint_model.specs.declared.answers.Stopped.{Stopped as Stop}
use Rattle.endpoint_model.specs.Event.{Setup, Call, Receive}
use Rattle.endpoint_model.specs.State.{State, Did, nothing, then_do}
use Rattle.endpoint_model.specs.Admission.{Admission, Rejected, Admitted, confirming}
use Rattle.endpoint_model.specs.Effects.{tick_once, ticks, discarded, WalkStep, chunk_did, steps_did, walk_of, most_acks, walked_and_acked, received, part_received}
use Rattle.endpoint_model.specs.InSessions.{tested as tested_at}
use Rattle.endpoint_model.specs.FlowChunks.{acked_by, owes_by, acked, unowed_by, unowed}
use Rattle.endpoint_model.specs.FlowTimes.{late_marked, late_at, all_late}
use Rattle.endpoint_model.specs.Log.{stopped}
use Rattle.rtmfp_data_chunks.specs.Fitting.{AreSmall}
use Rattle.endpoint_laws.specs.Contexts.{Secrets}
use Rattle.endpoint_laws.specs.Past.{Past, onto}
use Rattle.endpoint_laws.specs.Lawful.{IsTick}
use Rattle.endpoint_laws.specs.Laws.{IsSetup, IsCall}
use Rattle.endpoint_laws.proofs.Lines.{FactPart, EntriesMeet}
use Rattle.endpoint_laws.proofs.Tied.{Tied}
use Rattle.endpoint_laws.proofs.Going.{Goes, goes_nothing, goes_then, goes_discarded}
use Rattle.endpoint_laws.proofs.OutSends.{Sent, Meets, meets_nothing, meets_then}
use Rattle.startup.specs.Attempts.{without_attempt_by}
use Rattle.endpoint_laws.proofs.OutItems.{short_left, meets_end, meets_unsought, meets_repeat, meets_confirming, meets_discarded}
use Rattle.endpoint_laws.proofs.Searching.{goes_expired}
use Rattle.endpoint_laws.proofs.OutSessions.{meets_tested}
use Rattle.endpoint_laws.proofs.Walks.{Steps, tick_walked, acked_walked, unowed_walked, tick_all_walked}
use Rattle.endpoint_laws.proofs.Ending.{tick_end, tick_repeat}
use Rattle.endpoint_laws.proofs.SessionChunks.{goes_tested}
use Rattle.endpoint_laws.proofs.Hearing.{follows_nothing, HeardWell, Heard, heard_then, heard_from, heard_follows}
use Rattle.endpoint_laws.proofs.FlowChunks.{goes_acked_by, meets_acked_by, goes_unowed_by, meets_unowed_by}
use Rattle.endpoint_laws.proofs.OnFlows.{goes_unseen, meets_unseen}
use Rattle.endpoint_laws.proofs.FlowTimes.{late_like, goes_row_due, meets_row_due}
use Rattle.endpoint_laws.proofs.Made.{confirming_made, tested_made, tick_made, chunk_made}
use Rattle.endpoint_laws.proofs.Following.{follows_quiet, follows_law}
use Rattle.endpoint_laws.proofs.HeardChunks.{heard_begins}
use Rattle.endpoint_laws.proofs.Passing.{PassedAt}
use Rattle.endpoint_laws.proofs.Taking.{passed_confirming, passed_chunk}
use Rattle.endpoint_laws.proofs.HeardEvents.{AdmissionHeard}
use Rattle.endpoint_laws.proofs.Confirming.{goes_confirming}
use Rattle.endpoint_laws.proofs.Admitting.{Came, AdmissionIs, IsTaken, IsRejected}
use Rattle.endpoint_laws.proofs.Staged.{stages_left, tags_left}
use Rattle.endpoint_laws.proofs.Outset.{IsOutset}
use Rattle.endpoint_laws.proofs.Coming.{came_on, came_confirming}
use Rattle.endpoint_laws.proofs.Chunked.{chunk_goes}
use Rattle.endpoint_laws.proofs.OutChunks.{meets_chunk}
use Rattle.endpoint_laws.proofs.Stepping.{AreStepsOf, walk_is, part_is}

-- The facts of the thing meet their lines, and the state after it agrees with what was done; its datagrams meet theirs, and what went out is counted; and what is known of the sessions stays true.
pub record Orderly (secrets : Secrets) (setup : Setup) (call : Call) (past : Past) (s : State) (d : Did) : Type 0 where
  pub goes : Goes secrets setup call past s d
  pub meets : Meets secrets setup s.moment call past d
  pub heard : Heard past s d

pub orderly_nothing : (secrets : Secrets) (setup : Setup) (call : Call) (past : Past) (s : State) → Tied secrets setup past s → Sent secrets setup past s → HeardWell past s → Orderly secrets setup call past s (nothing s)
orderly_nothing secrets setup call past s tied sent well = record { goes = goes_nothing secrets setup call s past tied; meets = meets_nothing secrets setup s.moment call past s sent; heard = heard_follows s (nothing s) (follows_nothing s) past well }

orderly_then : (secrets : Secrets) (setup : Setup) (call : Call) (past : Past) (s : State) (d : Did) (next : State → Did) → Orderly secrets setup call past s d →
    Orderly secrets setup call (onto s.moment d.entries past) d.state (next d.state) → Orderly secrets setup call past s (then_do d next)
orderly_then secrets setup call past s d next first later =
    let P : ℕ → Type 0 = λ m. Meets secrets setup m call (onto s.moment d.entries past) (next d.state) in
    record {
      goes = goes_then secrets setup call past s d next first.goes later.goes;
      meets = meets_then secrets setup s.moment call past d next first.meets (subst P first.goes.moment later.meets);
      heard = heard_then past s d next first.heard later.heard;
    }

-- in a state that was reached without entries
pub orderly_from : (secrets : Secrets) (setup : Setup) (call : Call) (past : Past) (s t : State) (d : Did) → t.moment ≡ s.moment → Orderly secrets setup call past t d → Orderly secrets setup call past s d
orderly_from secrets setup call past s t d same orderly =
    let P : ℕ → Type 0 = λ m. EntriesMeet FactPart secrets setup m call past d.entries in
    let Q : ℕ → Type 0 = λ m. Tied secrets setup (onto m d.entries past) d.state in
    let R : ℕ → Type 0 = λ m. Meets secrets setup m call past d in
    record {
      goes = record { meets = subst P same orderly.goes.meets; tied = subst Q same orderly.goes.tied; moment = orderly.goes.moment ∙ same };
      meets = subst R same orderly.meets;
      heard = heard_from past s t d same orderly.heard;
    }

-- whatever was done before
abbrev KeepsOrderly : Secrets → Setup → Call → State → Did → Type 0
KeepsOrderly secrets setup call s d = (past : Past) → Tied secrets setup past s → Sent secrets setup past s → HeardWell past s → Orderly secrets setup call past s d

orderly_steps : (secrets : Secrets) (setup : Setup) (call : Call) → Steps (KeepsOrderly secrets setup call)
orderly_steps secrets setup call = record {
  does_nothing = λ s past tied sent well. orderly_nothing secrets setup call past s tied sent well;
  and_then = λ s d e first later past tied sent well.
      let one = first past tied sent well in
      orderly_then secrets setup call past s d (λ t. e) one (later (onto s.moment d.entries past) one.goes.tied one.meets.sent one.heard.well);
}

-- ---- the things of a tick

tick_orderly : (secrets : Secrets) (setup : Setup) (call : Call) → IsSetup setup → IsTick call → (s : State) → KeepsOrderly secrets setup call s (tick_once s)
tick_orderly secrets setup call is is_tick s past tied sent well = record {
  goes = tick_walked (λ d. Goes secrets setup call past s d) s (record {
    none = goes_nothing secrets setup call s past tied;
    ends = λ near a peer n aims there over. tick_end secrets setup call is_tick s near a peer n aims there over past tied;
    unseeks = λ near a name aims there over. goes_expired secrets setup past s tied near a name aims there call is_tick over;
    repeats = λ e there. tick_repeat secrets setup call is_tick s e there past tied;
    row = λ near row due there due_is. goes_row_due secrets setup call is_tick past s tied near row there (well near row there) due due_is;
  });
  meets = tick_walked (λ d. Meets secrets setup s.moment call past d) s (record {
    none = meets_nothing secrets setup s.moment call past s sent;
    ends = λ near a peer n aims there over. meets_end secrets setup past s sent tied s.moment call is.cert.short_named near a peer n aims there;
    unseeks = λ near a name aims there over. meets_unsought secrets setup past s sent s.moment call near _ (without_attempt_by s.startup near None) (short_left s.startup.attempts near sent.short) (tags_left past s.startup.attempts sent.staged.tags near) (stages_left secrets past s.startup.attempts sent.staged.attempts near) refl;
    repeats = λ e there. meets_repeat secrets setup past s sent tied s.moment call is.cert.short_named e there;
    row = λ near row due there due_is. meets_row_due secrets setup call is_tick past s tied near row there (well near row there) sent due;
  });
  heard = heard_follows s (tick_once s) (tick_made follows_law.timed s) past well;
}

-- numbers that are lost by time
late_orderly : (secrets : Secrets) (setup : Setup) (call : Call) (s : State) (near : ℕ) (row : Row) → get s.sessions near ≡ Some row → KeepsOrderly secrets setup call s (nothing (late_at s near (Some row)))
late_orderly secrets setup call s near row is past tied sent well =
    let new : Row = late_marked s.moment row in
    let like = late_like s.moment row in
    record {
      goes = goes_unseen s near row new is like [] tt secrets setup call past tied;
      meets = meets_unseen s near row new is like [] tt secrets setup call past sent;
      heard = heard_follows s (nothing (late_at s near (Some row))) (follows_law.timed.loses s near row is) past well;
    }

-- they are marked, and then come the things of the tick
pub tick_all_orderly : (secrets : Secrets) (setup : Setup) (call : Call) → IsSetup setup → IsTick call → (count : ℕ) (s : State) → KeepsOrderly secrets setup call s (ticks count (all_late s))
tick_all_orderly secrets setup call is is_tick = tick_all_walked (orderly_steps secrets setup call) (late_orderly secrets setup call) (tick_orderly secrets setup call is is_tick)

-- ---- the chunks of a datagram

-- a session's datagram still passes after a chunk
passed_on : (place : Place) (from : AddressParts) (datagram : List ℕ) (draws : Draws) (packet : Whole) (walk : Walk) (past : Past) (s : State) (c : Placed) → AreSmall walk.cursor → PassedAt past place datagram packet s →
    PassedAt (onto s.moment (chunk_did place from draws walk s c).entries past) place datagram packet (chunk_did place from draws walk s c).state
passed_on (Startup generation) from datagram draws packet walk past s c small passed = tt
passed_on (Attempt near generation) from datagram draws packet walk past s c small passed = tt
passed_on (Session near) from datagram draws packet walk past s c small passed = passed_chunk past near datagram packet from draws walk s c small passed

-- and after it is confirmed
passed_in : (place : Place) (datagram : List ℕ) (packet : Whole) (past : Past) (s : State) → PassedAt past place datagram packet s →
    PassedAt (onto s.moment (confirming s place).entries past) place datagram packet (confirming s place).state
passed_in (Startup generation) datagram packet past s passed = tt
passed_in (Attempt near generation) datagram packet past s passed = tt
passed_in (Session near) datagram packet past s passed = passed_confirming past near datagram packet s passed

module _ (secrets : Secrets) (setup : Setup) (is : IsSetup setup) (from : AddressParts) (datagram : List ℕ) (draws : Draws) (fits : IsCall (Receive from datagram draws)) (packet : Whole) where
  abbrev call : Call
  call = Receive from datagram draws

  pub steps_orderly : (place : Place) (xs : List WalkStep) (s : State) (past : Past) → AreStepsOf packet xs → Came secrets setup past s datagram place packet →
      Tied secrets setup past s → Sent secrets setup past s → HeardWell past s → PassedAt past place datagram packet s → Orderly secrets setup call past s (steps_did place from draws s xs)
  steps_orderly place [] s past are came tied sent well passed = orderly_nothing secrets setup call past s tied sent well
  steps_orderly place (x ∷ xs) s past are came tied sent well passed =
      let d : Did = chunk_did place from draws x.walk s x.chunk in
      let one : Orderly secrets setup call past s d = record {
        goes = chunk_goes secrets setup from datagram draws is.sessions fits.2 packet s past place x.walk x.chunk tied came passed are.0.whence;
        meets = meets_chunk secrets setup from datagram draws packet past s sent tied is.cert.short_named place came passed fits.2 fits.1 x.walk x.chunk are.0.whence;
        heard = chunk_made follows_law heard_begins place from draws x.walk s x.chunk are.0.small past well;
      } in
      orderly_then secrets setup call past s d (λ t. steps_did place from draws t xs) one
      (steps_orderly place xs d.state (onto s.moment d.entries past) are.1 (came_on secrets setup past s datagram packet from draws x.walk x.chunk place are.0.small came) one.goes.tied one.meets.sent one.heard.well
      (passed_on place from datagram draws packet x.walk past s x.chunk are.0.small passed))

-- ---- the acks after them

module _ (secrets : Secrets) (setup : Setup) (call : Call) where
  one_acked_orderly : (s : State) (near : ℕ) (row : Row) → get s.sessions near ≡ Some row → owes_by (Some row) ≡ true → KeepsOrderly secrets setup call s (acked_by s near (Some row))
  one_acked_orderly s near row is owed past tied sent well = record {
    goes = goes_acked_by s near secrets setup call past tied (Some row) is;
    meets = meets_acked_by s near secrets setup call past tied sent (Some row) is;
    heard = heard_follows s (acked_by s near (Some row)) (follows_law.timed.acks s near row is owed) past well;
  }

  acked_orderly : (count : ℕ) (s : State) (place : Place) → KeepsOrderly secrets setup call s (acked count s place)
  acked_orderly = acked_walked (orderly_steps secrets setup call) one_acked_orderly

  -- and those that aren't sent any more
  one_unowed_orderly : (s : State) (near : ℕ) (row : Row) → get s.sessions near ≡ Some row → KeepsOrderly secrets setup call s (nothing (unowed_by s near (Some row)))
  one_unowed_orderly s near row is past tied sent well = record {
    goes = goes_unowed_by s near secrets setup call past tied (Some row) is;
    meets = meets_unowed_by s near secrets setup call past tied sent (Some row) is;
    heard = heard_follows s (nothing (unowed_by s near (Some row))) (follows_law.timed.owes_none s near row is) past well;
  }

  unowed_orderly : (s : State) (place : Place) → KeepsOrderly secrets setup call s (nothing (unowed s place))
  unowed_orderly = unowed_walked (orderly_steps secrets setup call) one_unowed_orderly

-- ---- a datagram

-- What is known before a datagram that was stopped: where it was taken, after its admission.
abbrev pub StopHeard : List ℕ → Past → State → Bool → Admission → Type 0
StopHeard datagram past s true a = AdmissionHeard past s.moment datagram a
StopHeard datagram past s false a = HeardWell past s

module _ (secrets : Secrets) (setup : Setup) (is : IsSetup setup) (from : AddressParts) (datagram : List ℕ) (draws : Draws) (fits : IsCall (Receive from datagram draws)) (past : Past) (outset_here : IsOutset past) (s : State) where
  abbrev this : Call
  this = Receive from datagram draws

  confirming_orderly : (t : State) (place : Place) (packet : Whole) → IsTaken secrets setup past s datagram t place packet → HeardWell past t → Orderly secrets setup this past t (confirming t place)
  confirming_orderly t place packet taken well = record {
    goes = goes_confirming secrets setup from datagram draws t place taken.leaves.heard past outset_here taken.leaves.tied;
    meets = meets_confirming secrets setup t.moment this past t place taken.leaves.sent;
    heard = heard_follows t (confirming t place) (confirming_made follows_quiet t place) past well;
  }

  -- these steps, and then so many packets of acks
  acked_after_orderly : (t : State) (place : Place) (packet : Whole) (xs : List WalkStep) (count : ℕ) (now : Past) → AreStepsOf packet xs → Came secrets setup now t datagram place packet →
      Tied secrets setup now t → Sent secrets setup now t → HeardWell now t → PassedAt now place datagram packet t → Orderly secrets setup this now t (walked_and_acked place from draws t xs count)
  acked_after_orderly t place packet xs count now are came tied sent well passed =
      let d : Did = steps_did place from draws t xs in
      let one : Orderly secrets setup this now t d = steps_orderly secrets setup is from datagram draws fits packet place xs t now are came tied sent well passed in
      orderly_then secrets setup this now t d (λ u. acked count u place) one (acked_orderly secrets setup this count d.state place (onto t.moment d.entries now) one.goes.tied one.meets.sent one.heard.well)

  -- the session is confirmed, then come these, and then something that needs nothing of them
  walked_orderly : (t : State) (place : Place) (packet : Whole) (xs : State → List WalkStep) (count : ℕ) (last : State → Did) → ((u : State) → AreStepsOf packet (xs u)) → ((u : State) → KeepsOrderly secrets setup this u (last u)) →
      IsTaken secrets setup past s datagram t place packet → HeardWell past t → PassedAt past place datagram packet t →
      Orderly secrets setup this past t (then_do (confirming t place) (λ u. then_do (walked_and_acked place from draws u (xs u) count) last))
  walked_orderly t place packet xs count last are ends taken well passed =
      let first : Did = confirming t place in
      let d : Did = walked_and_acked place from draws first.state (xs first.state) count in
      let one : Orderly secrets setup this past t first = confirming_orderly t place packet taken well in
      let now : Past = onto t.moment first.entries past in
      let two : Orderly secrets setup this now first.state d = acked_after_orderly first.state place packet (xs first.state) count now (are first.state) (came_confirming secrets setup past t datagram packet place taken.came) one.goes.tied one.meets.sent one.heard.well (passed_in place datagram packet past t passed) in
      orderly_then secrets setup this past t first (λ u. then_do (walked_and_acked place from draws u (xs u) count) last) one
      (orderly_then secrets setup this now first.state d last two (ends d.state (onto first.state.moment d.entries now) two.goes.tied two.meets.sent two.heard.well))

  -- the test of its address
  tested_orderly : (place : Place) (u : State) → KeepsOrderly secrets setup this u (tested_at u place from draws)
  tested_orderly place u now tied sent well = record {
    goes = goes_tested secrets setup this u from draws place now tied;
    meets = meets_tested secrets setup this now u sent tied from draws fits.3 place;
    heard = heard_follows u (tested_at u place from draws) (tested_made follows_quiet u place from draws tt) now well;
  }

  whole_orderly : (t : State) (place : Place) (packet : Whole) → IsTaken secrets setup past s datagram t place packet → HeardWell past t → PassedAt past place datagram packet t →
      Orderly secrets setup this past t (received from draws (Admitted t place packet))
  whole_orderly t place packet = walked_orderly t place packet (λ u. walk_of place from draws u packet) most_acks (λ u. tested_at u place from draws) (walk_is packet place from draws) (tested_orderly place)

  -- or the acks that are owed yet are given up
  given_up_orderly : (t : State) (place : Place) (packet : Whole) (count acks : ℕ) → IsTaken secrets setup past s datagram t place packet → HeardWell past t → PassedAt past place datagram packet t →
      Orderly secrets setup this past t (part_received from draws (Admitted t place packet) count acks)
  given_up_orderly t place packet count acks =
      walked_orderly t place packet (λ u. take count (walk_of place from draws u packet)) acks (λ u. nothing (unowed u place)) (λ u. part_is packet place from draws u count) (λ u. unowed_orderly secrets setup this u place)

  rejected_orderly : (t : State) (cause : Cause) → IsRejected secrets setup past s t → HeardWell past t → Orderly secrets setup this past t (discarded t 0 cause)
  rejected_orderly t cause so well = record { goes = goes_discarded secrets setup this t 0 cause past so.tied; meets = meets_discarded secrets setup t.moment this past t 0 cause so.sent; heard = heard_follows t (discarded t 0 cause) (follows_quiet.discards t 0 cause) past well }

  pub received_orderly : (a : Admission) → AdmissionIs secrets setup past s datagram a → AdmissionHeard past s.moment datagram a → Orderly secrets setup this past s (received from draws a)
  received_orderly (Rejected t cause) so heard = orderly_from secrets setup this past s t (discarded t 0 cause) so.same (rejected_orderly t cause so heard.well)
  received_orderly (Admitted t place packet) so heard = orderly_from secrets setup this past s t (received from draws (Admitted t place packet)) so.leaves.same (whole_orderly t place packet so heard.0.well heard.1)

  part_orderly : (count acks : ℕ) (a : Admission) → AdmissionIs secrets setup past s datagram a → AdmissionHeard past s.moment datagram a → Orderly secrets setup this past s (part_received from draws a count acks)
  part_orderly count acks (Rejected t cause) so heard = orderly_from secrets setup this past s t (nothing t) so.same (orderly_nothing secrets setup this past t so.tied so.sent heard.well)
  part_orderly count acks (Admitted t place packet) so heard =
      orderly_from secrets setup this past s t (part_received from draws (Admitted t place packet) count acks) so.leaves.same (given_up_orderly t place packet count acks so heard.0.well heard.1)

  pub stopped_orderly : (stop : Stop) (acks : ℕ) (a : Admission) → Tied secrets setup past s → Sent secrets setup past s → AdmissionIs secrets setup past s datagram a → StopHeard datagram past s stop.taken a → Orderly secrets setup this past s (stopped s from draws a stop acks)
  stopped_orderly stop acks a tied sent so heard = by stop.taken heard
    where
      by : (b : Bool) → StopHeard datagram past s b a → Orderly secrets setup this past s (if b then part_received from draws a stop.chunks acks else nothing s)
      by true known = part_orderly stop.chunks acks a so known
      by false known = orderly_nothing secrets setup this past s tied sent known
