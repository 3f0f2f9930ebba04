-- A chunk that goes leaves the messages that wait, and one that is abandoned leaves less to do.
use Prim.Native.Nat.{zero, suc}
use Rattle.std.proofs.Common.{◌≡◌, ℕ, ◌+◌, ◌*◌, ◌<◌, ◌≤◌, ◌==◌, ◌&&◌, Bool, true, false, cond, nat_lt, List, [], ◌∷◌, length, drop, Option, Some, None, MatchOption, refl, sym, ap, ◌∙◌, subst, arith}
use Rattle.std.specs.Prelude.{slice_get, slice_set, is_some}
use Rattle.std.specs.List.{sum_by}
use Rattle.std.proofs.lemmas.List.Sums.{sum_by-cons}
use Rattle.rtmfp_data_chunks.specs.Runs.{Chunk}
use Rattle.flow_send.specs.declared.state.State.TheVariants.{Abandoned as AbandonedState}
use Rattle.flow_send.specs.declared.waiting.Waiting.{Waiting}
use Rattle.flow_send.specs.declared.outcome.NoChunk.{NoChunk}
use Rattle.flow_send.specs.Rows.{Row, is_acknowledged, let_go, map_rows, settled_front}
use Rattle.flow_send.specs.Sender.{Sender, abandoned, abandoned_with, give_up, give_up_row, has_number, message_at, waits, with_rows, without_message}
use Rattle.flow_send.specs.Choice.{Choice, Nothing, Send, Notify, chunk_for, notice_due, sent_after, is_quiet}
use Rattle.flow_send.specs.Flow.{Flow, with_sender}
use Rattle.session_flows.specs.declared.pace.Pace.{Pace}
use Rattle.session_flows.specs.Keeping.{FlowsState, Abandoned, sending_at}
use Rattle.session_flows.specs.Calling.{abandon_refused, abandon_refused_by, abandoning, abandoning_by}
use Rattle.session_flows.specs.declared.refusal.CallRefusal.TheVariants.{NotQueued}
use Rattle.session_flows.specs.Packing.{chosen, first_to_send, session_flight, packed, packed_by, refused_of, Packing, packing, put_back, packed_of, packed_once, packs, packs_on, filled, to_send_of, notices_in, left_of, left_to_send}
use Rattle.session_flows.specs.Waiting.{waiting_of, waiting_in, left_to_do}
use Rattle.session_flows.specs.Laws.{AreNumbered, IsNextOf, NoneMaySend}
use Rattle.session_flows.proofs.Next.{next_from}
use Rattle.session_flows.proofs.Sounds.{numbered_set}
use Rattle.session_flows.proofs.Within.{sum_set, in_place}

-- ---- what goes

pub sent_waits : (moment : ℕ) (o : Choice) (s : Sender) → (sent_after moment o s).waiting ≡ s.waiting
sent_waits moment Nothing s = refl
sent_waits moment Notify s = refl
sent_waits moment (Send n r) s = refl

record StillWaits (p q : Packing) : Type 0 where
  same : waiting_in q.sending ≡ waiting_in p.sending
  numbered : AreNumbered 0 q.sending

some_packing : {p q : Packing} → ◌≡◌ {A = Option Packing} (Some p) (Some q) → p ≡ q
some_packing e = cc

put_waits : (pace : Pace) (p q : Packing) (f : Flow) (k : ℕ) (x : Option NoChunk) (c : Option Chunk) → AreNumbered 0 p.sending → f.id ≡ k → slice_get p.sending k ≡ Some f →
    put_back p.sending (packed_by pace (packed f p.packet p.marks) x c) ≡ Some q → StillWaits p q
put_waits pace p q f k (Some refused) c numbered id there h = absurd cc
put_waits pace p q f k None None numbered id there h = absurd cc
put_waits pace p q f k None (Some c) numbered id there h =
    let g : Flow = with_sender f (sent_after pace.moment (chosen pace f) f.sender) in
    let set : waiting_in (slice_set p.sending k g) + waiting_of f ≡ waiting_in p.sending + waiting_of g = sum_set waiting_of p.sending k f g there in
    let one : waiting_of g ≡ waiting_of f = ap length (sent_waits pace.moment (chosen pace f) f.sender) in
    let after : waiting_in (slice_set p.sending k g) ≡ waiting_in p.sending = omega arith in
    let kept : AreNumbered 0 (slice_set p.sending k g) = numbered_set 0 k p.sending f g there refl numbered in
    subst (λ (y : Packing). StillWaits p y) (some_packing h) (record {
      same = subst (λ (i : ℕ). waiting_in (slice_set p.sending i g) ≡ waiting_in p.sending) (sym id) after;
      numbered = subst (λ (i : ℕ). AreNumbered 0 (slice_set p.sending i g)) (sym id) kept;
    })

once_by : (pace : Pace) (p q : Packing) (o : Option Flow) → AreNumbered 0 p.sending → MatchOption o (NoneMaySend pace p.sending) (λ f. IsNextOf pace p.sending f) → packed_of pace p o ≡ Some q → StillWaits p q
once_by pace p q None numbered next h = absurd cc
once_by pace p q (Some f) numbered next h =
    let r = in_place 0 p.sending f numbered next.is_in in
    let id : f.id ≡ 0 + r.0 = r.1 in
    put_waits pace p q f r.0 (refused_of pace (session_flight p.sending) (packed f p.packet p.marks)) (chunk_for f.sender (chosen pace f)) numbered (omega arith) r.2 h

once_waits : (pace : Pace) (p q : Packing) → AreNumbered 0 p.sending → packed_once pace p ≡ Some q → StillWaits p q
once_waits pace p q numbered h = once_by pace p q (first_to_send pace p.sending) numbered (next_from pace 0 p.sending numbered) h

on_waits : (p : Packing) (later : Packing → Packing) (o : Option Packing) → ((q : Packing) → o ≡ Some q → StillWaits p q) →
    ((q : Packing) → AreNumbered 0 q.sending → waiting_in (later q).sending ≡ waiting_in q.sending) → waiting_in (packs_on later p o).sending ≡ waiting_in p.sending
on_waits p later None one more = refl
on_waits p later (Some q) one more = more q (one q refl).numbered ∙ (one q refl).same

packs_wait : (pace : Pace) (count : ℕ) (p : Packing) → AreNumbered 0 p.sending → waiting_in (packs pace count p).sending ≡ waiting_in p.sending
unfolding packs
packs_wait pace zero p numbered = refl
packs_wait pace (suc count) p numbered = on_waits p (packs pace count) (packed_once pace p) (λ q e. once_waits pace p q numbered e) (λ q numbers. packs_wait pace count q numbers)

pub filled_waits : (pace : Pace) (sending : List Flow) (packet : List ℕ) → AreNumbered 0 sending → waiting_in (filled pace sending packet).sending ≡ waiting_in sending
filled_waits pace sending packet numbered = packs_wait pace 1165 (packing sending packet) numbered

-- ---- what is abandoned

abbrev rows_left : List Row → ℕ
rows_left rows = sum_by to_send_of rows

gone_row : (r : Row) (b : Bool) → to_send_of (cond b r (let_go AbandonedState r)) ≤ to_send_of r
gone_row r true = omega arith
gone_row r false = omega arith

gone_if : (r new : Row) (b : Bool) → to_send_of new ≤ to_send_of r → to_send_of (cond b new r) ≤ to_send_of r
gone_if r new true less = less
gone_if r new false less = omega arith

gone_rows : (w : Waiting) (n : ℕ) (rows : List Row) → rows_left (map_rows (give_up w) n rows) ≤ rows_left rows
gone_rows w n [] = omega arith
gone_rows w n (r ∷ later) =
    let a : rows_left (give_up w n r ∷ map_rows (give_up w) (n + 1) later) ≡ to_send_of (give_up w n r) + rows_left (map_rows (give_up w) (n + 1) later) = sum_by-cons to_send_of (give_up w n r) (map_rows (give_up w) (n + 1) later) in
    let b : rows_left (r ∷ later) ≡ to_send_of r + rows_left later = sum_by-cons to_send_of r later in
    let one : to_send_of (give_up w n r) ≤ to_send_of r = gone_if r (give_up_row r) (has_number w n) (gone_row r (is_acknowledged r.state)) in
    let rest : rows_left (map_rows (give_up w) (n + 1) later) ≤ rows_left later = gone_rows w (n + 1) later in
    omega arith

dropped_rows : (k : ℕ) (rows : List Row) → rows_left (drop k rows) ≤ rows_left rows
dropped_rows zero rows = omega arith
dropped_rows (suc k) [] = omega arith
dropped_rows (suc k) (r ∷ later) =
    let b : rows_left (r ∷ later) ≡ to_send_of r + rows_left later = sum_by-cons to_send_of r later in
    let rest : rows_left (drop k later) ≤ rows_left later = dropped_rows k later in
    omega arith

one_notice : (b : Bool) → notices_in (cond b Notify Nothing) ≤ 1
one_notice true = omega arith
one_notice false = omega arith

without_by : (seq : ℕ) (w : Waiting) (later : List Waiting) (b : Bool) → (is_some (message_at seq later) ≡ true → length (without_message seq later) + 1 ≡ length later) →
    is_some (cond b (Some w) (message_at seq later)) ≡ true → length (cond b later (w ∷ without_message seq later)) + 1 ≡ length (w ∷ later)
without_by seq w later true ih some = omega arith
without_by seq w later false ih some = let less : length (without_message seq later) + 1 ≡ length later = ih some in omega arith

without_one : (seq : ℕ) (ws : List Waiting) → is_some (message_at seq ws) ≡ true → length (without_message seq ws) + 1 ≡ length ws
without_one seq [] some = absurd cc
without_one seq (w ∷ later) some = without_by seq w later (w.number == seq) (without_one seq later) some

gone_by : (moment resend seq : ℕ) (s : Sender) (o : Option Waiting) → message_at seq s.waiting ≡ o → is_some o ≡ true →
    2 * length (abandoned_with o seq s).waiting + (rows_left (abandoned_with o seq s).rows + notices_in (notice_due moment resend (abandoned_with o seq s)))
    < 2 * length s.waiting + (rows_left s.rows + notices_in (notice_due moment resend s))
gone_by moment resend seq s None e some = absurd cc
gone_by moment resend seq s (Some w) e some =
    let rows : List Row = map_rows (give_up w) (s.forward + 1) s.rows in
    let t : Sender = with_rows rows (without_message seq s.waiting) s in
    let one : length (without_message seq s.waiting) + 1 ≡ length s.waiting = without_one seq s.waiting (ap (λ (o : Option Waiting). is_some o) e) in
    let marked : rows_left rows ≤ rows_left s.rows = gone_rows w (s.forward + 1) s.rows in
    let left : rows_left (drop (settled_front rows) rows) ≤ rows_left rows = dropped_rows (settled_front rows) rows in
    let notice : notices_in (notice_due moment resend t) ≤ 1 = one_notice (nat_lt t.upto t.forward && is_quiet t.notice moment resend) in
    omega arith

flow_falls : (pace : Pace) (f : Flow) (seq : ℕ) → waits f.sender seq ≡ true →
    2 * waiting_of (with_sender f (abandoned seq f.sender)) + left_of pace (with_sender f (abandoned seq f.sender)) < 2 * waiting_of f + left_of pace f
flow_falls pace f seq there = gone_by pace.moment pace.resend_after seq f.sender (message_at seq f.sender.waiting) refl there

-- what isn't refused is there
record IsThere (s : FlowsState) (id seq : ℕ) : Type 0 where
  flow : Flow
  found : sending_at s id ≡ Some flow
  there : waits flow.sender seq ≡ true

waits_if : (b : Bool) → cond b None (Some NotQueued) ≡ None → b ≡ true
waits_if true e = refl
waits_if false e = absurd cc

is_there : (s : FlowsState) (id seq : ℕ) (o : Option Flow) → sending_at s id ≡ o → abandon_refused_by o seq ≡ None → IsThere s id seq
is_there s id seq None is e = absurd cc
is_there s id seq (Some f) is e = record { flow = f; found = is; there = waits_if (waits f.sender seq) e }

pub abandon_states : (s : FlowsState) (id seq : ℕ) → abandon_refused s id seq ≡ None → (abandoning s id seq).stated ≡ Abandoned id seq ∷ []
abandon_states s id seq may =
    let is = is_there s id seq (sending_at s id) refl may in
    ap (λ (o : Option Flow). (abandoning_by s id seq o).stated) is.found

pub abandon_falls : (pace : Pace) (s : FlowsState) (id seq : ℕ) → abandon_refused s id seq ≡ None → left_to_do pace (abandoning s id seq).flows.sending < left_to_do pace s.sending
abandon_falls pace s id seq may =
    let is = is_there s id seq (sending_at s id) refl may in
    let f : Flow = is.flow in
    let g : Flow = with_sender f (abandoned seq f.sender) in
    let waiting : waiting_in (slice_set s.sending id g) + waiting_of f ≡ waiting_in s.sending + waiting_of g = sum_set waiting_of s.sending id f g is.found in
    let left : left_to_send pace (slice_set s.sending id g) + left_of pace f ≡ left_to_send pace s.sending + left_of pace g = sum_set (left_of pace) s.sending id f g is.found in
    let one : 2 * waiting_of g + left_of pace g < 2 * waiting_of f + left_of pace f = flow_falls pace f seq is.there in
    let falls : left_to_do pace (slice_set s.sending id g) < left_to_do pace s.sending = omega arith in
    subst (λ (o : Option Flow). left_to_do pace (abandoning_by s id seq o).flows.sending < left_to_do pace s.sending) (sym is.found) falls
