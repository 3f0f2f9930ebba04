-- A chunk that goes takes one from what is left to send, and where one is due, one goes.
use Prim.Native.Nat.{zero, suc}
use Rattle.std.proofs.Common.{◌≡◌, ℕ, ◌+◌, ◌<◌, ◌≤◌, ◌==◌, ◌&&◌, ◌||◌, Bool, true, false, cond, nat_lt, List, [], ◌∷◌, Option, Some, None, Result, Err, MatchOption, refl, sym, ap, ◌∙◌, subst, arith}
use Rattle.std.specs.Prelude.{slice_get, slice_set, is_some, IsOk}
use Rattle.std.specs.List.{sum_by}
use Rattle.std.proofs.lemmas.Bool.{eqb-true, eqb-false, lt-leb, le-ltb, leb-true}
use Rattle.std.proofs.lemmas.List.Sums.{sum_by-cons}
use Rattle.rtmfp_data_chunks.specs.Runs.{Chunk}
use Rattle.flow_send.specs.declared.state.State.{State}
use Rattle.flow_send.specs.declared.state.State.TheVariants.{Unsent, Flying, Lost, Acknowledged, Abandoned}
use Rattle.flow_send.specs.declared.outcome.NoChunk.{NoChunk}
use Rattle.flow_send.specs.declared.outcome.NoChunk.TheVariants as no_chunk
use Rattle.flow_send.specs.declared.pick.Pick.{Pick}
use Rattle.flow_send.specs.Rows.{Row, is_unsent, is_lost, map_rows}
use Rattle.flow_send.specs.Sender.{Sender}
use Rattle.flow_send.specs.Choice.{Choice, Nothing, Send, Notify, first_in, or_else, notice_due, next_choice, within_limit, choice_bytes, chunk_for, sent_row, put_at, sent_after, count_up}
use Rattle.flow_send.specs.Flow.{Flow, with_sender, chunk_refusal_of, if_room, data_length, chunk_options}
use Rattle.session_flows.specs.declared.pace.Pace.{Pace}
use Rattle.session_flows.specs.Packing.{chosen, first_to_send, session_flight, packed, packed_by, refused_of, Packing, put_back, packed_of, to_send_of, notices_in, left_of, left_to_send, goes_by, goes}
use Rattle.session_flows.specs.Laws.{AreNumbered, IsNextOf, NoneMaySend, TakesOne}
use Rattle.session_flows.proofs.Next.{next_from}
use Rattle.session_flows.proofs.Packs.{clash}
use Rattle.session_flows.proofs.Within.{sum_set, in_place}

-- ---- rows

abbrev rows_left : List Row → ℕ
rows_left rows = sum_by to_send_of rows

rows_cons : (r : Row) (later : List Row) → rows_left (r ∷ later) ≡ to_send_of r + rows_left later
rows_cons r later = sum_by-cons to_send_of r later

other_by : (n k : ℕ) (new r : Row) (b : Bool) → (k == n) ≡ b → (k ≡ n → ⊥) → to_send_of (cond b new r) ≡ to_send_of r
other_by n k new r true e not = absurd (not (eqb-true k n e))
other_by n k new r false e not = refl

itself_by : (n k : ℕ) (new r : Row) (b : Bool) → (k == n) ≡ b → k ≡ n → to_send_of (cond b new r) ≡ to_send_of new
itself_by n k new r true e same = refl
itself_by n k new r false e same = absurd (eqb-false k n e same)

-- no row has a number below theirs
put_below : (n k : ℕ) (new : Row) (rows : List Row) → n < k → rows_left (map_rows (put_at n new) k rows) ≡ rows_left rows
put_below n k new [] less = refl
put_below n k new (r ∷ later) less =
    let a : rows_left (put_at n new k r ∷ map_rows (put_at n new) (k + 1) later) ≡ to_send_of (put_at n new k r) + rows_left (map_rows (put_at n new) (k + 1) later) = rows_cons (put_at n new k r) (map_rows (put_at n new) (k + 1) later) in
    let b : rows_left (r ∷ later) ≡ to_send_of r + rows_left later = rows_cons r later in
    let c : to_send_of (put_at n new k r) ≡ to_send_of r = other_by n k new r (k == n) refl (λ same. omega (arith, less, same)) in
    let d : rows_left (map_rows (put_at n new) (k + 1) later) ≡ rows_left later = put_below n (k + 1) new later (omega arith) in
    omega arith

abbrev number_in : Choice → ℕ
number_in Nothing = 0
number_in (Send n r) = n
number_in Notify = 0

above_by : (test : State → Bool) (k : ℕ) (x : Row) (later : List Row) (n : ℕ) (r : Row) (b : Bool) → (first_in test (k + 1) later ≡ Send n r → k + 1 ≤ n) → cond b (Send k x) (first_in test (k + 1) later) ≡ Send n r → k ≤ n
above_by test k x later n r true ih h = let same : k ≡ n = ap number_in h in omega arith
above_by test k x later n r false ih h = let more : k + 1 ≤ n = ih h in omega arith

first_above : (test : State → Bool) (k : ℕ) (rows : List Row) (n : ℕ) (r : Row) → first_in test k rows ≡ Send n r → k ≤ n
first_above test k [] n r h = absurd cc
first_above test k (x ∷ later) n r h = above_by test k x later n r (test x.state) (first_above test (k + 1) later n r) h

one_to_send : (b : Bool) → b ≡ true → ◌≡◌ {A = ℕ} (cond b 1 0) 1
one_to_send true e = refl
one_to_send false e = absurd cc

abbrev OfThoseToSend : (State → Bool) → Type 0
OfThoseToSend test = (s : State) → test s ≡ true → (is_unsent s || is_lost s) ≡ true

takes_by : (test : State → Bool) (k : ℕ) (x : Row) (later : List Row) (n : ℕ) (r new : Row) (b : Bool) → test x.state ≡ b → OfThoseToSend test → to_send_of new ≡ 0 →
    (first_in test (k + 1) later ≡ Send n r → rows_left later ≡ rows_left (map_rows (put_at n new) (k + 1) later) + 1) → cond b (Send k x) (first_in test (k + 1) later) ≡ Send n r →
    rows_left (x ∷ later) ≡ rows_left (put_at n new k x ∷ map_rows (put_at n new) (k + 1) later) + 1
takes_by test k x later n r new true e of z ih h =
    let same : k ≡ n = ap number_in h in
    let a : rows_left (put_at n new k x ∷ map_rows (put_at n new) (k + 1) later) ≡ to_send_of (put_at n new k x) + rows_left (map_rows (put_at n new) (k + 1) later) = rows_cons (put_at n new k x) (map_rows (put_at n new) (k + 1) later) in
    let b : rows_left (x ∷ later) ≡ to_send_of x + rows_left later = rows_cons x later in
    let c : to_send_of (put_at n new k x) ≡ to_send_of new = itself_by n k new x (k == n) refl same in
    let d : rows_left (map_rows (put_at n new) (k + 1) later) ≡ rows_left later = put_below n (k + 1) new later (omega arith) in
    let one : to_send_of x ≡ 1 = one_to_send (is_unsent x.state || is_lost x.state) (of x.state e) in
    omega arith
takes_by test k x later n r new false e of z ih h =
    let less : k + 1 ≤ n = first_above test (k + 1) later n r h in
    let a : rows_left (put_at n new k x ∷ map_rows (put_at n new) (k + 1) later) ≡ to_send_of (put_at n new k x) + rows_left (map_rows (put_at n new) (k + 1) later) = rows_cons (put_at n new k x) (map_rows (put_at n new) (k + 1) later) in
    let b : rows_left (x ∷ later) ≡ to_send_of x + rows_left later = rows_cons x later in
    let c : to_send_of (put_at n new k x) ≡ to_send_of x = other_by n k new x (k == n) refl (λ same. omega (arith, less, same)) in
    let d : rows_left later ≡ rows_left (map_rows (put_at n new) (k + 1) later) + 1 = ih h in
    omega arith

takes_row : (test : State → Bool) (k : ℕ) (rows : List Row) (n : ℕ) (r new : Row) → OfThoseToSend test → to_send_of new ≡ 0 → first_in test k rows ≡ Send n r → rows_left rows ≡ rows_left (map_rows (put_at n new) k rows) + 1
takes_row test k [] n r new of z h = absurd cc
takes_row test k (x ∷ later) n r new of z h = takes_by test k x later n r new (test x.state) refl of z (takes_row test (k + 1) later n r new of z) h

lost_of_those : OfThoseToSend is_lost
lost_of_those Unsent e = absurd cc
lost_of_those Flying e = absurd cc
lost_of_those Lost e = refl
lost_of_those Acknowledged e = absurd cc
lost_of_those Abandoned e = absurd cc

unsent_of_those : OfThoseToSend is_unsent
unsent_of_those Unsent e = refl
unsent_of_those Flying e = absurd cc
unsent_of_those Lost e = absurd cc
unsent_of_those Acknowledged e = absurd cc
unsent_of_those Abandoned e = absurd cc

-- ---- the choice of a flow

no_notice_by : (test : State → Bool) (k : ℕ) (x : Row) (later : List Row) (b : Bool) → (first_in test (k + 1) later ≡ Notify → ⊥) → cond b (Send k x) (first_in test (k + 1) later) ≡ Notify → ⊥
no_notice_by test k x later true ih h = absurd cc
no_notice_by test k x later false ih h = ih h

no_notice : (test : State → Bool) (k : ℕ) (rows : List Row) → first_in test k rows ≡ Notify → ⊥
no_notice test k [] h = absurd cc
no_notice test k (x ∷ later) h = no_notice_by test k x later (test x.state) (no_notice test (k + 1) later) h

no_row : (b : Bool) (n : ℕ) (r : Row) → cond b Notify Nothing ≡ Send n r → ⊥
no_row true n r h = absurd cc
no_row false n r h = absurd cc

abbrev row_goes : ℕ → ℕ → Row → Sender → Row
row_goes moment n r s = sent_row moment (count_up 64 s.order) r

send_takes : (moment : ℕ) (s : Sender) (n : ℕ) (r : Row) (a b : Choice) (due : Bool) → first_in is_lost (s.forward + 1) s.rows ≡ a → first_in is_unsent (s.forward + 1) s.rows ≡ b → or_else a (or_else b (cond due Notify Nothing)) ≡ Send n r →
    rows_left s.rows ≡ rows_left (map_rows (put_at n (row_goes moment n r s)) (s.forward + 1) s.rows) + 1
send_takes moment s n r (Send m x) b due e f h = takes_row is_lost (s.forward + 1) s.rows n r (row_goes moment n r s) lost_of_those refl (e ∙ h)
send_takes moment s n r Notify b due e f h = absurd (no_notice is_lost (s.forward + 1) s.rows e)
send_takes moment s n r Nothing (Send m x) due e f h = takes_row is_unsent (s.forward + 1) s.rows n r (row_goes moment n r s) unsent_of_those refl (f ∙ h)
send_takes moment s n r Nothing Notify due e f h = absurd (no_notice is_unsent (s.forward + 1) s.rows f)
send_takes moment s n r Nothing Nothing due e f h = absurd (no_row due n r h)

notify_due : (s : Sender) (a b c : Choice) → first_in is_lost (s.forward + 1) s.rows ≡ a → first_in is_unsent (s.forward + 1) s.rows ≡ b → or_else a (or_else b c) ≡ Notify → c ≡ Notify
notify_due s (Send m x) b c e f h = absurd cc
notify_due s Notify b c e f h = absurd (no_notice is_lost (s.forward + 1) s.rows e)
notify_due s Nothing (Send m x) c e f h = absurd cc
notify_due s Nothing Notify c e f h = absurd (no_notice is_unsent (s.forward + 1) s.rows f)
notify_due s Nothing Nothing c e f h = h

none_after : (b : Bool) → notices_in (cond (b && false) Notify Nothing) ≡ 0
none_after true = refl
none_after false = refl

-- a notice was sent just now
noticed : (moment resend : ℕ) (s : Sender) → 0 < resend → notices_in (notice_due moment resend (sent_after moment Notify s)) ≡ 0
noticed moment resend s more =
    ap (λ (b : Bool). notices_in (cond (nat_lt s.upto s.forward && b) Notify Nothing)) (lt-leb (moment + resend) moment (omega arith)) ∙ none_after (nat_lt s.upto s.forward)

abbrev left_in : ℕ → ℕ → Sender → ℕ
left_in moment resend s = rows_left s.rows + notices_in (notice_due moment resend s)

left_by : (moment resend : ℕ) (s : Sender) (o : Choice) (c : Chunk) (b : Bool) → next_choice moment resend s ≡ o → chunk_for s (cond b o Nothing) ≡ Some c → 0 < resend →
    left_in moment resend s ≡ left_in moment resend (sent_after moment (cond b o Nothing) s) + 1
left_by moment resend s o c false e h more = absurd cc
left_by moment resend s Nothing c true e h more = absurd cc
left_by moment resend s (Send n r) c true e h more =
    let rows : rows_left s.rows ≡ rows_left (map_rows (put_at n (row_goes moment n r s)) (s.forward + 1) s.rows) + 1 = send_takes moment s n r _ _ _ refl refl e in
    omega arith
left_by moment resend s Notify c true e h more =
    let due : notice_due moment resend s ≡ Notify = notify_due s _ _ _ refl refl e in
    let one : notices_in (notice_due moment resend s) ≡ 1 = ap notices_in due in
    let none : notices_in (notice_due moment resend (sent_after moment Notify s)) ≡ 0 = noticed moment resend s more in
    omega arith

flow_left : (pace : Pace) (f : Flow) (c : Chunk) → chunk_for f.sender (chosen pace f) ≡ Some c → 0 < pace.resend_after → left_of pace f ≡ left_of pace (with_sender f (sent_after pace.moment (chosen pace f) f.sender)) + 1
flow_left pace f c h more =
    left_by pace.moment pace.resend_after f.sender (next_choice pace.moment pace.resend_after f.sender) c (within_limit f.sender (choice_bytes (next_choice pace.moment pace.resend_after f.sender))) refl h more

-- ---- a chunk that goes

some_packing : {p q : Packing} → ◌≡◌ {A = Option Packing} (Some p) (Some q) → p ≡ q
some_packing e = cc

put_takes : (pace : Pace) (p q : Packing) (f : Flow) (k : ℕ) (x : Option NoChunk) (c : Option Chunk) → f.id ≡ k → slice_get p.sending k ≡ Some f → 0 < pace.resend_after → chunk_for f.sender (chosen pace f) ≡ c →
    put_back p.sending (packed_by pace (packed f p.packet p.marks) x c) ≡ Some q → left_to_send pace p.sending ≡ left_to_send pace q.sending + 1
put_takes pace p q f k (Some refused) c id there more e h = absurd cc
put_takes pace p q f k None None id there more e h = absurd cc
put_takes pace p q f k None (Some c) id there more e h =
    let g : Flow = with_sender f (sent_after pace.moment (chosen pace f) f.sender) in
    let one : left_of pace f ≡ left_of pace g + 1 = flow_left pace f c e more in
    let set : left_to_send pace (slice_set p.sending k g) + left_of pace f ≡ left_to_send pace p.sending + left_of pace g = sum_set (left_of pace) p.sending k f g there in
    let after : left_to_send pace p.sending ≡ left_to_send pace (slice_set p.sending k g) + 1 = omega arith in
    let placed : left_to_send pace p.sending ≡ left_to_send pace (slice_set p.sending f.id g) + 1 = subst (λ (i : ℕ). left_to_send pace p.sending ≡ left_to_send pace (slice_set p.sending i g) + 1) (sym id) after in
    subst (λ (y : Packing). left_to_send pace p.sending ≡ left_to_send pace y.sending + 1) (some_packing h) placed

goes_takes : (pace : Pace) (p q : Packing) (o : Option Flow) → AreNumbered 0 p.sending → 0 < pace.resend_after → MatchOption o (NoneMaySend pace p.sending) (λ f. IsNextOf pace p.sending f) → packed_of pace p o ≡ Some q →
    left_to_send pace p.sending ≡ left_to_send pace q.sending + 1
goes_takes pace p q None numbered more next h = absurd cc
goes_takes pace p q (Some f) numbered more next h =
    let r = in_place 0 p.sending f numbered next.is_in in
    let id : f.id ≡ 0 + r.0 = r.1 in
    put_takes pace p q f r.0 (refused_of pace (session_flight p.sending) (packed f p.packet p.marks)) (chunk_for f.sender (chosen pace f)) (omega arith) r.2 more refl h

pub takes_one : TakesOne
takes_one pace p q numbered more h = goes_takes pace p q (first_to_send pace p.sending) numbered more (next_from pace 0 p.sending numbered) h

-- ---- where a chunk is due, one goes

refused_by : (result : Result Pick NoChunk) (x : NoChunk) (b : Bool) → result ≡ Err x → (result ≡ Err no_chunk.Room → ⊥) → MatchOption (cond b (Some no_chunk.Room) None) (IsOk result) (λ y. result ≡ Err y) → ⊥
refused_by result x true e not h = not h
refused_by result x false e not h = clash (subst (λ (r : Result Pick NoChunk). IsOk r) e h)

-- no chunk is refused that is there, within the window, and not for want of room
pub none_refuses : (result : Result Pick NoChunk) (x : NoChunk) (f : Flow) (first : Bool) (room flight window : ℕ) (o : Choice) (c : Option Chunk) → is_some c ≡ true → flight + choice_bytes o ≤ window → result ≡ Err x → (result ≡ Err no_chunk.Room → ⊥) →
    MatchOption (chunk_refusal_of f first room flight window o c) (IsOk result) (λ y. result ≡ Err y) → ⊥
none_refuses result x f first room flight window o None some within e not h = absurd cc
none_refuses result x f first room flight window o (Some c) some within e not h =
    let size : ℕ = data_length f.id (chunk_options f first) c in
    refused_by result x (nat_lt room size) e not
    (subst (λ (b : Bool). MatchOption (cond b (Some no_chunk.Window) (if_room room size)) (IsOk result) (λ y. result ≡ Err y)) (le-ltb window (flight + choice_bytes o) within) h)

pub none_due : (pace : Pace) (fs : List Flow) → first_to_send pace fs ≡ None → goes pace fs ≡ true → ⊥
none_due pace fs none h = let e : goes pace fs ≡ false = ap (λ (o : Option Flow). goes_by pace fs o) none in absurd cc

pub due_within : (pace : Pace) (fs : List Flow) (f : Flow) → first_to_send pace fs ≡ Some f → goes pace fs ≡ true → session_flight fs + choice_bytes (chosen pace f) ≤ pace.window
due_within pace fs f first h = leb-true (session_flight fs + choice_bytes (chosen pace f)) pace.window (sym (ap (λ (o : Option Flow). goes_by pace fs o) first) ∙ h)

pub fell_by : (count now before start : ℕ) → now ≡ before → before + count ≡ start → (count ≡ 0 → ⊥) → now < start
fell_by zero now before start same h one = absurd (one refl)
fell_by (suc count) now before start same h one = omega arith
