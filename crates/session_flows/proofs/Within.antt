-- A chunk that goes leaves no more bytes in flight than the window has.
use Prim.Native.Nat.{zero, suc}
use Rattle.std.proofs.Common.{◌≡◌, ℕ, ◌+◌, ◌<◌, ◌≤◌, ◌==◌, Bool, true, false, cond, nat_lt, List, [], ◌∷◌, Option, Some, None, MatchOption, refl, sym, ap, ◌∙◌, subst, arith, inl, inr}
use Rattle.std.specs.Prelude.{slice_get, slice_set}
use Rattle.std.specs.List.{sum_by}
use Rattle.std.proofs.lemmas.Bool.{ltb-false, eqb-true}
use Rattle.std.proofs.lemmas.List.Sums.{sum_by-cons}
use Rattle.rtmfp_data_chunks.specs.HandsOver.{IsIn}
use Rattle.rtmfp_data_chunks.specs.Runs.{Chunk}
use Rattle.flow_send.specs.declared.outcome.NoChunk.{NoChunk}
use Rattle.flow_send.specs.declared.outcome.NoChunk.TheVariants as no_chunk
use Rattle.flow_send.specs.Rows.{Row, map_rows, in_flight, flight_of as row_flight}
use Rattle.flow_send.specs.Sender.{Sender}
use Rattle.flow_send.specs.Choice.{Choice, Nothing, Send, Notify, choice_bytes, chunk_for, sent_row, put_at, sent_after, count_up}
use Rattle.flow_send.specs.Flow.{Flow, with_sender, chunk_refusal_of, if_room, data_length, chunk_options}
use Rattle.session_flows.specs.declared.pace.Pace.{Pace}
use Rattle.session_flows.specs.Packing.{chosen, first_to_send, flight_of, session_flight, is_first, packed, packed_by, refused_of, Packing, put_back, packed_of}
use Rattle.session_flows.specs.Laws.{AreNumbered, IsNextOf, NoneMaySend, StaysWithin}
use Rattle.session_flows.proofs.Next.{next_from}

-- ---- rows

rows_cons : (r : Row) (later : List Row) → in_flight (r ∷ later) ≡ row_flight r + in_flight later
rows_cons r later = sum_by-cons row_flight r later

same_by : (n k : ℕ) (new r : Row) (later : List Row) (b : Bool) → (k == n) ≡ b → n < k → in_flight (map_rows (put_at n new) (k + 1) later) ≡ in_flight later →
    row_flight (cond b new r) + in_flight (map_rows (put_at n new) (k + 1) later) ≡ row_flight r + in_flight later
same_by n k new r later true e less ih = absurd (let f : k ≡ n = eqb-true k n e in omega arith)
same_by n k new r later false e less ih = omega arith

-- no row has a number below theirs
put_below : (n k : ℕ) (new : Row) (rows : List Row) → n < k → in_flight (map_rows (put_at n new) k rows) ≡ in_flight rows
put_below n k new [] less = refl
put_below n k new (r ∷ later) less =
    rows_cons (put_at n new k r) (map_rows (put_at n new) (k + 1) later) ∙ same_by n k new r later (k == n) refl less (put_below n (k + 1) new later (omega arith)) ∙ sym (rows_cons r later)

most_by : (n k : ℕ) (new r : Row) (later : List Row) (b : Bool) → (k == n) ≡ b → in_flight (map_rows (put_at n new) (k + 1) later) ≤ in_flight later + row_flight new →
    row_flight (cond b new r) + in_flight (map_rows (put_at n new) (k + 1) later) ≤ (row_flight r + in_flight later) + row_flight new
most_by n k new r later true e ih =
    let f : k ≡ n = eqb-true k n e in
    let same : in_flight (map_rows (put_at n new) (k + 1) later) ≡ in_flight later = put_below n (k + 1) new later (omega arith) in
    omega arith
most_by n k new r later false e ih = omega arith

put_most : (n k : ℕ) (new : Row) (rows : List Row) → in_flight (map_rows (put_at n new) k rows) ≤ in_flight rows + row_flight new
put_most n k new [] = omega arith
put_most n k new (r ∷ later) =
    let a : in_flight (put_at n new k r ∷ map_rows (put_at n new) (k + 1) later) ≡ row_flight (put_at n new k r) + in_flight (map_rows (put_at n new) (k + 1) later) =
    rows_cons (put_at n new k r) (map_rows (put_at n new) (k + 1) later) in
    let b : in_flight (r ∷ later) ≡ row_flight r + in_flight later = rows_cons r later in
    let h : row_flight (put_at n new k r) + in_flight (map_rows (put_at n new) (k + 1) later) ≤ (row_flight r + in_flight later) + row_flight new = most_by n k new r later (k == n) refl (put_most n (k + 1) new later) in
    omega arith

sent_most : (moment : ℕ) (o : Choice) (s : Sender) → in_flight (sent_after moment o s).rows ≤ in_flight s.rows + choice_bytes o
sent_most moment Nothing s = omega arith
sent_most moment Notify s = omega arith
sent_most moment (Send n r) s = put_most n (s.forward + 1) (sent_row moment (count_up 64 s.order) r) s.rows

-- ---- flows

some_same : {x y : Flow} → ◌≡◌ {A = Option Flow} (Some x) (Some y) → x ≡ y
some_same e = cc

-- a sum over flows, of which one is changed
pub sum_set : (m : Flow → ℕ) (fs : List Flow) (k : ℕ) (f g : Flow) → slice_get fs k ≡ Some f → sum_by m (slice_set fs k g) + m f ≡ sum_by m fs + m g
sum_set m [] k f g h = absurd cc
sum_set m (x ∷ later) zero f g h = let same : x ≡ f = some_same h in let e : m x ≡ m f = ap m same in
    let a : sum_by m (g ∷ later) ≡ m g + sum_by m later = sum_by-cons m g later in
    let b : sum_by m (x ∷ later) ≡ m x + sum_by m later = sum_by-cons m x later in omega arith
sum_set m (x ∷ later) (suc k) f g h = let ih : sum_by m (slice_set later k g) + m f ≡ sum_by m later + m g = sum_set m later k f g h in
    let a : sum_by m (x ∷ slice_set later k g) ≡ m x + sum_by m (slice_set later k g) = sum_by-cons m x (slice_set later k g) in
    let b : sum_by m (x ∷ later) ≡ m x + sum_by m later = sum_by-cons m x later in omega arith

pub in_place : (n : ℕ) (fs : List Flow) (f : Flow) → AreNumbered n fs → IsIn f fs → (k : ℕ) × (f.id ≡ n + k) × (slice_get fs k ≡ Some f)
in_place n [] f h i = absurd i
in_place n (x ∷ later) f h (inl e) = (0, (let same : f.id ≡ x.id = ap (λ (y : Flow). y.id) e in omega (arith, h.0)), ap (λ (y : Flow). Some y) (sym e))
in_place n (x ∷ later) f h (inr there) =
    let r = in_place (n + 1) later f h.1 there in
    let k : f.id ≡ (n + 1) + r.0 = r.1 in
    (suc r.0, omega arith, r.2)

-- ---- a chunk that goes

room_of : (f : Flow) (first : Bool) (room flight window : ℕ) (o : Choice) (c : Chunk) (b : Bool) → nat_lt window (flight + choice_bytes o) ≡ b →
    cond b (Some no_chunk.Window) (if_room room (data_length f.id (chunk_options f first) c)) ≡ None → flight + choice_bytes o ≤ window
room_of f first room flight window o c true e h = absurd cc
room_of f first room flight window o c false e h = ltb-false window (flight + choice_bytes o) e

after_flow : (pace : Pace) (fs : List Flow) (f : Flow) (k : ℕ) → slice_get fs k ≡ Some f → session_flight fs + choice_bytes (chosen pace f) ≤ pace.window →
    session_flight (slice_set fs k (with_sender f (sent_after pace.moment (chosen pace f) f.sender))) ≤ pace.window
after_flow pace fs f k there within =
    let set : session_flight (slice_set fs k (with_sender f (sent_after pace.moment (chosen pace f) f.sender))) + flight_of f ≡ session_flight fs + flight_of (with_sender f (sent_after pace.moment (chosen pace f) f.sender)) =
    sum_set flight_of fs k f (with_sender f (sent_after pace.moment (chosen pace f) f.sender)) there in
    let most : flight_of (with_sender f (sent_after pace.moment (chosen pace f) f.sender)) ≤ flight_of f + choice_bytes (chosen pace f) = sent_most pace.moment (chosen pace f) f.sender in
    omega arith

some_packing : {p q : Packing} → ◌≡◌ {A = Option Packing} (Some p) (Some q) → p ≡ q
some_packing e = cc

put_within : (pace : Pace) (p q : Packing) (f : Flow) (k : ℕ) (c : Option Chunk) → f.id ≡ k → slice_get p.sending k ≡ Some f → (room : ℕ) (x : Option NoChunk) →
    x ≡ chunk_refusal_of f (is_first p.marks f.id) room (session_flight p.sending) pace.window (chosen pace f) c →
    put_back p.sending (packed_by pace (packed f p.packet p.marks) x c) ≡ Some q → session_flight q.sending ≤ pace.window
put_within pace p q f k c id there room (Some refused) e h = absurd cc
put_within pace p q f k None id there room None e h = absurd cc
put_within pace p q f k (Some c) id there room None e h =
    let within : session_flight p.sending + choice_bytes (chosen pace f) ≤ pace.window =
    room_of f (is_first p.marks f.id) room (session_flight p.sending) pace.window (chosen pace f) c _ refl (sym e) in
    let after : session_flight (slice_set p.sending f.id (with_sender f (sent_after pace.moment (chosen pace f) f.sender))) ≤ pace.window =
    subst (λ (i : ℕ). session_flight (slice_set p.sending i (with_sender f (sent_after pace.moment (chosen pace f) f.sender))) ≤ pace.window) (sym id) (after_flow pace p.sending f k there within) in
    subst (λ (x : Packing). session_flight x.sending ≤ pace.window) (some_packing h) after

goes_within : (pace : Pace) (p q : Packing) (o : Option Flow) → AreNumbered 0 p.sending → MatchOption o (NoneMaySend pace p.sending) (λ f. IsNextOf pace p.sending f) → packed_of pace p o ≡ Some q → session_flight q.sending ≤ pace.window
goes_within pace p q None numbered next h = absurd cc
goes_within pace p q (Some f) numbered next h =
    let r = in_place 0 p.sending f numbered next.is_in in
    let id : f.id ≡ 0 + r.0 = r.1 in
    put_within pace p q f r.0 (chunk_for f.sender (chosen pace f)) (omega arith) r.2 _ (refused_of pace (session_flight p.sending) (packed f p.packet p.marks)) refl h

pub stays_within : StaysWithin
stays_within pace p q numbered h = goes_within pace p q (first_to_send pace p.sending) numbered (next_from pace 0 p.sending numbered) h
