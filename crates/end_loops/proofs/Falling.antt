-- Each thing that a tick does is due no more, so a tick ends, and what found no memory is still due.
use Rattle.std.proofs.Common.{ℕ, ◌≡◌, ◌<◌, ◌≤◌, ◌+◌, ◌*◌, ◌-◌, ◌&&◌, cond, List, [], ◌∷◌, length, map, Option, Some, None, is_some, refl, sym, ap, subst, ◌∙◌, if◌then◌else◌, Bool, true, false, nat_le, arith}
use Rattle.std.specs.Prelude.{◌==◌, IfSome}
use Rattle.std.specs.FinMap.{get, insert, remove}
use Rattle.std.proofs.lemmas.Bool.Decides.{nat_tests}
use Rattle.rtmfp_base.proofs.Maps.{get_inserted, insert_twice}
use Rattle.rtmfp_forms.specs.Address.{AddressParts}
use Rattle.startup.specs.State.{StartupState}
use Rattle.startup.specs.declared.answer.Due.{Due}
use Rattle.startup.specs.declared.answer.Due.TheVariants.{Ended as EndDue, Hello as HelloDue, Keying as KeyingDue, Unsought}
use Rattle.startup.specs.Attempts.{after_end, after_end_by, end_fact}
use Rattle.startup.specs.Due.{after_due, due_count}
use Rattle.glare_core.specs.declared.facts.Fact.{Fact}
use Rattle.glare_core.specs.declared.facts.Why.{Why}
use Rattle.glare_core.specs.declared.facts.Why.TheVariants.{Unconfirmed as NotConfirmed, Idle as WasIdle}
use Rattle.startup.proofs.Falling.{falls_when}
use Rattle.session_core.specs.declared.stage.SessionDue.{SessionDue}
use Rattle.session_core.specs.declared.stage.SessionDue.TheVariants.{Unconfirmed, Idle, Over, RepeatClose}
use Rattle.rtmfp_fragments.specs.Pieces.{PieceParts}
use Rattle.session_core.specs.Session.{SessionState, context_of}
use Rattle.session_core.specs.Sealed.{after_seal, is_spent}
use Rattle.session_core.specs.Closing.{first_due as first_due_in, after_due as after_due_in, needs_keepalive, kept_alive, is_past, is_over, is_open, is_near_close}
use Rattle.rtmfp_base.specs.Reasons.{where_true, first_that_stands}
use Rattle.flow_send.specs.Flow.{Flow}
use Rattle.session_flows.specs.Keeping.{FlowsState, with_sending}
use Rattle.session_flows.specs.Calling.{abandon_refused}
use Rattle.session_flows.specs.Timing.{overdue_in, overdue_done}
use Rattle.session_flows.specs.Packing.{pace_of, is_data_due}
use Rattle.session_flows.specs.Waiting.{left_to_do}
use Rattle.session_flows.proofs.Waits.{abandon_falls}
use Rattle.session_table.specs.FlowTimes.{DataFalls, OverdueWaits}
use Rattle.endpoint_model.specs.declared.row.Row.{Row}
use Rattle.endpoint_model.specs.declared.row_due.RowDue.{RowDue}
use Rattle.endpoint_model.specs.declared.row_due.RowDue.TheVariants.{Abandon, Data, Keepalive}
use Rattle.endpoint_model.specs.declared.row_due.RowDue.TheVariants as is_row
use Rattle.endpoint_model.specs.declared.entry.Entry.TheVariants.{Out}
use Rattle.endpoint_model.specs.State.{State, Did, Sessions, nothing, then_do, with_row, with_startup, with_session}
use Rattle.endpoint_model.specs.FlowTimes.{data_packed, row_due, row_due_done}
use Rattle.crypto_profile.specs.Keys.{Keys, startup_keys_of}
use Rattle.endpoint_model.specs.Sending.{has_counts, is_long, last_count, piece_body, pieces_for, sent_bodies, sent_by, sent_each, sent_in_pieces, sent_startup, sent_whole, session_datagram, session_packet}
use Rattle.endpoint_model.specs.InSessions.{sent_home, sent_home_by, session_due_done}
use Rattle.endpoint_model.specs.Effects.{due_done, tick_once}
use Rattle.end_loops.specs.declared.ticking.DueItem.{DueItem}
use Rattle.end_loops.specs.declared.ticking.DueItem.TheVariants.{Attempt, Session}
use Rattle.end_loops.specs.DueItems.{ItemFalls, RowFalls, due_item}
use Rattle.rtmfp_base.proofs.Weights.{sum_where, sum_removed, sum_changed}
use Rattle.end_loops.proofs.DueItems.{IsNext, next_is, is_due_of}

-- ---- attempts

-- what sending startup packets leaves as it is
pub record IsSame (s t : State) : Type 0 where
  pub startup : t.startup ≡ s.startup
  pub moment : t.moment ≡ s.moment
  pub sessions : t.sessions ≡ s.sessions

one_same : (s : State) (b : Bool) (d : Did) → IsSame s d.state → IsSame s (if b then record { state = s; entries = [] } else d).state
one_same s true d same = record { startup = refl; moment = refl; sessions = refl }
one_same s false d same = same

startup_same : (s : State) (generation : ℕ) (keys : Keys) (to : AddressParts) (sid : ℕ) (plain : List ℕ) → IsSame s (sent_startup s generation keys to sid plain).state
startup_same s generation keys to sid plain = one_same s (s.sealed == last_count) _ (record { startup = refl; moment = refl; sessions = refl })

each_same : (plain : List ℕ) (to : List AddressParts) (s : State) → IsSame s (sent_each s plain to).state
each_same plain [] s = record { startup = refl; moment = refl; sessions = refl }
each_same plain (first ∷ rest) s =
    let one = startup_same s s.group.generation (startup_keys_of s.group) first 0 plain in
    let more = each_same plain rest (sent_startup s s.group.generation (startup_keys_of s.group) first 0 plain).state in
    record { startup = more.startup ∙ one.startup; moment = more.moment ∙ one.moment; sessions = more.sessions ∙ one.sessions }

done_same : (s : State) (due : Due) → IsSame s (due_done s due).state
done_same s (EndDue fact) = record { startup = refl; moment = refl; sessions = refl }
done_same s (Unsought near) = record { startup = refl; moment = refl; sessions = refl }
done_same s (HelloDue spread) = each_same spread.plain spread.to s
done_same s (KeyingDue answer) = startup_same s answer.generation answer.keys answer.to answer.sid answer.plain

-- ---- sessions

abbrev one_if : Bool → ℕ
one_if b = cond b 1 0

-- what is left to do of a session and of its flows, at most
abbrev pub row_weight : ℕ → Row → ℕ
row_weight moment row = one_if (is_some (first_due_in row.session moment)) + (left_to_do (pace_of row.session moment) row.flows.sending + one_if (needs_keepalive row.session moment))

-- of how many attempts something is due, and what is left to do of the sessions
abbrev pub things_due : State → ℕ
things_due s = due_count s.moment s.startup + sum_where (row_weight s.moment) s.sessions

-- a session that sealed has as much left to do as before
sealed_weighs : (row : Row) (moment : ℕ) → row_weight moment (record row { session = after_seal row.session }) ≡ row_weight moment row
sealed_weighs row moment = by (is_spent row.session)
  where
    by : (b : Bool) → row_weight moment (record row { session = if b then row.session else record row.session { sealed = row.session.sealed + 1 } }) ≡ row_weight moment row
    by true = refl
    by false = refl

-- One row of this session ID is left, of which less is to be done.
pub record IsLighter (s t : State) (near moment weight : ℕ) : Type 0 where
  pub startup : t.startup ≡ s.startup
  pub moment_is : t.moment ≡ s.moment
  pub row : Row
  pub sessions : t.sessions ≡ insert s.sessions near row
  pub lighter : row_weight moment row < weight

module _ (s : State) (near moment weight : ℕ) where
  abbrev Lighter : State → Type 0
  Lighter t = IsLighter s t near moment weight

  -- a packet goes out in it
  whole_lighter : (t : State) (to : AddressParts) (body : List ℕ) (is : Lighter t) → Lighter (sent_whole t near to body (Some is.row)).state
  whole_lighter t to body is = by (is_spent is.row.session)
    where
      sealed : Row
      sealed = record is.row { session = after_seal is.row.session }

      by : (b : Bool) → Lighter (if b
          then nothing t
          else record { state = with_session t near is.row (after_seal is.row.session); entries = Out to (session_datagram is.row.session t.moment body) (context_of is.row.session true) ∷ [] }).state
      by true = is
      by false = record {
        startup = is.startup;
        moment_is = is.moment_is;
        row = sealed;
        sessions = ap (λ (m : Sessions). insert m near sealed) is.sessions ∙ insert_twice s.sessions near is.row sealed;
        lighter = subst (λ (n : ℕ). n < weight) (sym (sealed_weighs is.row moment)) is.lighter;
      }

  bodies_lighter : (to : AddressParts) (bodies : List (List ℕ)) (t : State) → Lighter t → Lighter (sent_bodies t near to bodies).state
  bodies_lighter to [] t is = is
  bodies_lighter to (body ∷ rest) t is =
      let found : get t.sessions near ≡ Some is.row = ap (λ (m : Sessions). get m near) is.sessions ∙ get_inserted s.sessions near is.row in
      let one : Lighter (sent_whole t near to body (get t.sessions near)).state = subst (λ (o : Option Row). Lighter (sent_whole t near to body o).state) (sym found) (whole_lighter t to body is) in
      bodies_lighter to rest (sent_whole t near to body (get t.sessions near)).state one

  -- one goes out in pieces
  pieces_lighter : (t : State) (to : AddressParts) (pieces : List PieceParts) (is : Lighter t) → Lighter (sent_in_pieces t near to is.row pieces).state
  pieces_lighter t to pieces is = by (has_counts is.row (length pieces))
    where
      counted : Row
      counted = record is.row { packets = is.row.packets + 1 }

      by : (b : Bool) → Lighter (if b then then_do (nothing (with_row t near counted)) (λ u. sent_bodies u near to (map (piece_body (is.row.packets + 1)) pieces)) else nothing t).state
      by true = bodies_lighter to (map (piece_body (is.row.packets + 1)) pieces) (with_row t near counted) (record {
        startup = is.startup;
        moment_is = is.moment_is;
        row = counted;
        sessions = ap (λ (m : Sessions). insert m near counted) is.sessions ∙ insert_twice s.sessions near is.row counted;
        lighter = is.lighter;
      })
      by false = is

  sent_lighter : (t : State) (to : AddressParts) (body : List ℕ) (is : Lighter t) → Lighter (sent_by t near to body (Some is.row)).state
  sent_lighter t to body is = by (is_long t is.row body)
    where
      pieces : List PieceParts
      pieces = pieces_for t (session_packet is.row.session t.moment body)

      by : (b : Bool) → Lighter (if b then sent_in_pieces t near to is.row pieces else sent_whole t near to body (Some is.row)).state
      by true = pieces_lighter t to pieces is
      by false = whole_lighter t to body is

-- what went out in a session after its row changed
home_lighter : (s : State) (near moment weight : ℕ) (new : Row) (body : List ℕ) → row_weight moment new < weight → IsLighter s (sent_home (with_row s near new) near body).state near moment weight
home_lighter s near moment weight new body less =
    subst (λ (o : Option Row). IsLighter s (sent_home_by (with_row s near new) near body o).state near moment weight) (sym (get_inserted s.sessions near new))
    (sent_lighter s near moment weight (with_row s near new) new.session.address body (record { startup = refl; moment_is = refl; row = new; sessions = refl; lighter = less }))

swapped : (k a b v w : ℕ) → a + v ≡ b + w → w < v → k + a < k + b
swapped k a b v w e less = omega arith

row_lighter : (s t : State) (near : ℕ) (row : Row) → get s.sessions near ≡ Some row → IsLighter s t near s.moment (row_weight s.moment row) → things_due t < things_due s
row_lighter s t near row there o =
    let counts : things_due t ≡ due_count s.moment s.startup + sum_where (row_weight s.moment) (insert s.sessions near o.row) =
    ap (λ (m : ℕ). due_count m t.startup + sum_where (row_weight m) t.sessions) o.moment_is
    ∙ ap (λ (x : StartupState). due_count s.moment x + sum_where (row_weight s.moment) t.sessions) o.startup
    ∙ ap (λ (m : Sessions). due_count s.moment s.startup + sum_where (row_weight s.moment) m) o.sessions in
    subst (λ (n : ℕ). n < things_due s) (sym counts)
    (swapped (due_count s.moment s.startup) _ _ (row_weight s.moment row) (row_weight s.moment o.row) (sum_changed (row_weight s.moment) s.sessions near row o.row there) o.lighter)

some_left : (a b : ℕ) → a ≡ 1 → 0 < a + b
some_left a b e = omega arith

gone_falls : (k a b v : ℕ) → a + v ≡ b → 0 < v → k + a < k + b
gone_falls k a b v e some = omega arith

-- a session of which an end is due is forgotten
row_gone : (s t : State) (near : ℕ) (row : Row) (d : SessionDue) → get s.sessions near ≡ Some row → first_due_in row.session s.moment ≡ Some d →
    due_count s.moment t.startup ≡ due_count s.moment s.startup → t.moment ≡ s.moment → t.sessions ≡ remove s.sessions near → things_due t < things_due s
row_gone s t near row d there e startup_is moment_is sessions_is =
    let counts : things_due t ≡ due_count s.moment s.startup + sum_where (row_weight s.moment) (remove s.sessions near) =
    ap (λ (m : ℕ). due_count m t.startup + sum_where (row_weight m) t.sessions) moment_is
    ∙ ap (λ (n : ℕ). n + sum_where (row_weight s.moment) t.sessions) startup_is
    ∙ ap (λ (m : Sessions). due_count s.moment s.startup + sum_where (row_weight s.moment) m) sessions_is in
    subst (λ (n : ℕ). n < things_due s) (sym counts)
    (gone_falls (due_count s.moment s.startup) _ _ (row_weight s.moment row) (sum_removed (row_weight s.moment) s.sessions near row there)
    (some_left _ _ (ap (λ (o : Option SessionDue). one_if (is_some o)) e)))

-- ---- what was sent again isn't due at once

later : (span moment : ℕ) → 1 ≤ span → nat_le span (moment - moment) ≡ false
later span moment least = grind (arith, nat_tests)

never_and : (a b : Bool) → b ≡ false → (a && b) ≡ false
never_and true b e = e
never_and false b e = refl

both_and : (a b c : Bool) → c ≡ false → (a && b && c) ≡ false
both_and true true c e = e
both_and true false c e = refl
both_and false b c e = refl

pub record IsRepeat (a b c d : Bool) : Type 0 where
  pub born : a ≡ false
  pub idle : b ≡ false
  pub over : c ≡ false
  pub again : d ≡ true

repeats : (a b c d : Bool) → first_that_stands (where_true a Unconfirmed ∷ where_true b Idle ∷ where_true c Over ∷ where_true d RepeatClose ∷ []) ≡ Some RepeatClose → IsRepeat a b c d
repeats true b c d e = absurd (cc)
repeats false true c d e = absurd (cc)
repeats false false true d e = absurd (cc)
repeats false false false true e = record { born = refl; idle = refl; over = refl; again = refl }
repeats false false false false e = absurd (cc)

none_of : (a b c d : Bool) → a ≡ false → b ≡ false → c ≡ false → d ≡ false → first_that_stands (where_true a Unconfirmed ∷ where_true b Idle ∷ where_true c Over ∷ where_true d RepeatClose ∷ []) ≡ None
none_of a b c d ea eb ec ed = (λ i. first_that_stands (where_true (ea i) Unconfirmed ∷ where_true (eb i) Idle ∷ where_true (ec i) Over ∷ where_true (ed i) RepeatClose ∷ []))

lighter_by : (a b rest : ℕ) → a ≡ 0 → b ≡ 1 → a + rest < b + rest
lighter_by a b rest none one = omega arith

repeated_lighter : (row : Row) (moment : ℕ) → first_due_in row.session moment ≡ Some RepeatClose → row_weight moment (record row { session = after_due_in (Some RepeatClose) moment row.session }) < row_weight moment row
repeated_lighter row moment e =
    let x : SessionState = row.session in
    let y : SessionState = record x { close_sent = Some moment } in
    let was = repeats _ _ (is_over x moment) _ e in
    let none : first_due_in y moment ≡ None = none_of _ _ (is_over y moment) _ was.born was.idle was.over (never_and (is_near_close x.stage) _ (later 5000 moment (omega arith))) in
    lighter_by _ _ (left_to_do (pace_of x moment) row.flows.sending + one_if (needs_keepalive x moment)) (ap (λ (o : Option SessionDue). one_if (is_some o)) none) (ap (λ (o : Option SessionDue). one_if (is_some o)) e)

last_lighter : (a b c d : ℕ) → c ≡ 0 → d ≡ 1 → a + (b + c) < a + (b + d)
last_lighter a b c d none one = omega arith

kept_lighter : (row : Row) (moment : ℕ) → needs_keepalive row.session moment ≡ true → row_weight moment (record row { session = kept_alive moment row.session }) < row_weight moment row
kept_lighter row moment needs =
    let x : SessionState = row.session in
    let y : SessionState = record x { keepalive = Some moment } in
    let none : needs_keepalive y moment ≡ false = both_and (is_open x.stage) (is_past 10000 x.taken moment) _ (later 10000 moment (omega arith)) in
    subst (λ (b : Bool). row_weight moment (record row { session = if b then y else x }) < row_weight moment row) (sym needs)
    (last_lighter (one_if (is_some (first_due_in x moment))) (left_to_do (pace_of x moment) row.flows.sending) (one_if (needs_keepalive y moment)) (one_if (needs_keepalive x moment))
    (ap one_if none) (ap one_if needs))

between_lighter : (a b c k : ℕ) → b < c → a + (b + k) < a + (c + k)
between_lighter a b c k e = omega arith

less_left : (w v a b : ℕ) → w ≡ v → a < b → 2 * w + a < 2 * v + b
less_left w v a b e less = omega arith

-- the flows change, and less is left to do of them
flows_lighter : (row : Row) (moment : ℕ) (sending : List Flow) (flows : FlowsState) → flows.sending ≡ sending → left_to_do (pace_of row.session moment) sending < left_to_do (pace_of row.session moment) row.flows.sending →
    row_weight moment (record row { flows = flows }) < row_weight moment row
flows_lighter row moment sending flows is less =
    between_lighter (one_if (is_some (first_due_in row.session moment))) _ _ (one_if (needs_keepalive row.session moment))
    (subst (λ (fs : List Flow). left_to_do (pace_of row.session moment) fs < left_to_do (pace_of row.session moment) row.flows.sending) (sym is) less)

data_lighter : (row : Row) (moment : ℕ) → is_data_due row.session row.flows moment ≡ true → DataFalls moment row →
    row_weight moment (record row { flows = with_sending row.flows (data_packed row moment).sending }) < row_weight moment row
data_lighter row moment due falls =
    flows_lighter row moment (data_packed row moment).sending (with_sending row.flows (data_packed row moment).sending) refl (less_left _ _ _ _ falls.waits (falls.less due))

abandon_lighter : (row : Row) (moment flow seq : ℕ) → overdue_in row.session row.flows moment ≡ Some (flow, seq) → OverdueWaits moment row →
    row_weight moment (record row { flows = (overdue_done row.flows (Some (flow, seq))).flows }) < row_weight moment row
abandon_lighter row moment flow seq is waits =
    let may : abandon_refused row.flows flow seq ≡ None = subst (λ (f : Option (ℕ × ℕ)). IfSome f (λ found. abandon_refused row.flows found.0 found.1 ≡ None)) is waits in
    flows_lighter row moment (overdue_done row.flows (Some (flow, seq))).flows.sending (overdue_done row.flows (Some (flow, seq))).flows refl (abandon_falls (pace_of row.session moment) row.flows flow seq may)

-- ---- each thing

-- the end of a session leaves the attempts
ended_count : (moment : ℕ) (s : StartupState) (peer : List ℕ) (why : Why) → due_count moment (after_end s peer why) ≡ due_count moment s
ended_count moment s peer why = by (end_fact s peer why)
  where
    by : (fact : Option Fact) → due_count moment (after_end_by s peer fact) ≡ due_count moment s
    by None = refl
    by (Some fact) = refl

end_falls : (s : State) (near : ℕ) (row : Row) (d : SessionDue) → get s.sessions near ≡ Some row → first_due_in row.session s.moment ≡ Some d → things_due (session_due_done s near row d).state < things_due s
end_falls s near row Unconfirmed there e = row_gone s (session_due_done s near row Unconfirmed).state near row Unconfirmed there e (ended_count s.moment s.startup row.session.joined.peer NotConfirmed) refl refl
end_falls s near row Idle there e = row_gone s (session_due_done s near row Idle).state near row Idle there e (ended_count s.moment s.startup row.session.joined.peer WasIdle) refl refl
end_falls s near row Over there e = row_gone s (session_due_done s near row Over).state near row Over there e refl refl refl
end_falls s near row RepeatClose there e =
    row_lighter s (session_due_done s near row RepeatClose).state near row there (home_lighter s near s.moment (row_weight s.moment row) (record row { session = after_due_in (Some RepeatClose) s.moment row.session }) _ (repeated_lighter row s.moment e))

row_falls : (s : State) (near : ℕ) (row : Row) (d : RowDue) → get s.sessions near ≡ Some row → row_due s.moment row ≡ Some d → RowFalls d s.moment (Some row) → things_due (row_due_done s near row d).state < things_due s
row_falls s near row (is_row.Session d) there e falls = end_falls s near row d there (is_due_of s.moment row (is_row.Session d) e)
row_falls s near row (Abandon flow seq) there e falls =
    row_lighter s (row_due_done s near row (Abandon flow seq)).state near row there (record {
      startup = refl;
      moment_is = refl;
      row = record row { flows = (overdue_done row.flows (Some (flow, seq))).flows };
      sessions = refl;
      lighter = abandon_lighter row s.moment flow seq (is_due_of s.moment row (Abandon flow seq) e) falls;
    })
row_falls s near row Data there e falls =
    row_lighter s (row_due_done s near row Data).state near row there (home_lighter s near s.moment (row_weight s.moment row) (record row { flows = with_sending row.flows (data_packed row s.moment).sending }) _ (data_lighter row s.moment (is_due_of s.moment row Data e) falls))
row_falls s near row Keepalive there e falls =
    row_lighter s (row_due_done s near row Keepalive).state near row there (home_lighter s near s.moment (row_weight s.moment row) (record row { session = kept_alive s.moment row.session }) _ (kept_lighter row s.moment (is_due_of s.moment row Keepalive e)))

less_more : (a b c : ℕ) → a < b → a + c < b + c
less_more a b c e = omega arith

attempt_falls : (s t : State) → due_count s.moment (after_due s.startup s.moment) < due_count s.moment s.startup → IsSame (with_startup s (after_due s.startup s.moment)) t → things_due t < things_due s
attempt_falls s t falls same =
    let counts : things_due t ≡ due_count s.moment (after_due s.startup s.moment) + sum_where (row_weight s.moment) s.sessions =
    ap (λ (m : ℕ). due_count m t.startup + sum_where (row_weight m) t.sessions) same.moment
    ∙ ap (λ (x : StartupState). due_count s.moment x + sum_where (row_weight s.moment) t.sessions) same.startup
    ∙ ap (λ (m : Sessions). due_count s.moment (after_due s.startup s.moment) + sum_where (row_weight s.moment) m) same.sessions in
    subst (λ (n : ℕ). n < things_due s) (sym counts) (less_more _ _ (sum_where (row_weight s.moment) s.sessions) falls)

once_falls : (s : State) (item : DueItem) → IsNext s item → ItemFalls item s → things_due (tick_once s).state < things_due s
once_falls s (Attempt sends) next falls =
    subst (λ (d : Did). things_due d.state < things_due s) next.once
    (attempt_falls s _ (falls_when s.startup s.moment next.due_is (sym next.is)) (done_same (with_startup s (after_due s.startup s.moment)) next.due_is))
once_falls s (Session near d) next falls =
    subst (λ (x : Did). things_due x.state < things_due s) next.once
    (row_falls s near next.row d next.there next.is (subst (λ (o : Option Row). RowFalls d s.moment o) next.there falls))

pub tick_falls : (s new : State) (item : DueItem) → due_item s ≡ Some item → ItemFalls item s → new ≡ (tick_once s).state → things_due new < things_due s
tick_falls s new item e falls is = subst (λ (t : State). things_due t < things_due s) (sym is) (once_falls s item (next_is s item e) falls)
