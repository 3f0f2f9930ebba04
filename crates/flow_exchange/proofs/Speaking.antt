-- Each chunk that a sender gives has its number's fragment, or is a notice or the end, and its forward number is settled.
use Rattle.std.proofs.Common.{◌≡◌, ℕ, zero, suc, ◌+◌, ◌<◌, ◌≤◌, ◌==◌, nat_le, nat_lt, cond, map, Bool, true, false, ◌&&◌, ◌||◌, List, [], ◌∷◌, ◌++◌, length, drop, Option, Some, None, refl, ap, sym, ◌∙◌, subst, arith, inl, inr, ◌⊎◌, length-append}
use Rattle.std.specs.List.{filter, list_any}
use Rattle.std.proofs.lemmas.Bool.{cases_eq, eqb-true, leb-true, ltb-true}
use Rattle.rtmfp_data_chunks.specs.declared.user_data.Part.TheVariants.{Whole}
use Rattle.rtmfp_data_chunks.specs.Fragments.{Message, Fragment, Spans, fragment_of, fragment_count, next_number}
use Rattle.rtmfp_data_chunks.specs.Runs.{Chunk}
use Rattle.flow_send.specs.declared.state.State.{State}
use Rattle.flow_send.specs.declared.state.State.TheVariants.{Unsent, Flying, Lost, Acknowledged, Abandoned}
use Rattle.flow_send.specs.declared.waiting.MessageOptions.{MessageOptions}
use Rattle.flow_send.specs.declared.waiting.Waiting.{Waiting}
use Rattle.flow_send.specs.Rows.{Row, end_row, is_acknowledged, is_settled, is_flying, is_lost, is_unsent, let_go, map_rows, settled_front}
use Rattle.flow_send.specs.Sender.{Sender, new_sender, next_of, with_rows, new_row, rows_of, waiting_of, queued, has_number, message_at, without_message, waits, give_up, give_up_row, first_number, overdue, abandoned_with, abandoned, finished, is_late, lost_if_late, lost_late}
use Rattle.flow_send.specs.Choice.{Choice, Nothing, Send, Notify, first_in, choice, chunk_for, count_up, sent_row, put_at, sent_after}
use Rattle.flow_send.specs.Acks.{Told, in_span, tells, acknowledge, acknowledge_row, is_third, count_ack, last_ordinal, rows_acknowledged, rows_told, still_waits, told_by}
use Rattle.rtmfp_data_chunks.specs.HandsOver.{IsIn}
use Rattle.flow_send.proofs.Steadies.{chosen}
use Rattle.flow_exchange.specs.Exchange.{Ack, InSpans, Acknowledges, World, start, Queued, Abandoned as Gave_up, Finished, Sent, Heard, after, IsAbandoned, IsAcknowledged, IsSettled, Tells, Fragment_of, Notice, End_of, MaySend}
use Rattle.flow_exchange.specs.Sending.{Act, Queues, Abandons, AbandonsFirst, AbandonsOverdue, Finishes, Loses, Sends, Hears, Sending, begun, queues, finishes, abandons, abandons_one, sends, ack_of, acts, all_acts, SpeaksTrue}
use Rattle.flow_exchange.proofs.Fragments.{Laid, found, found_still}

-- what a row stands for
pub record Stands (w : World) (n : ℕ) (r : Row) : Type 0 where
  pub fragment : r.ends ≡ false → is_settled r.state ≡ false → fragment_of w.queued n ≡ Some r.fragment
  pub end : r.ends ≡ true → w.finish ≡ Some n
  pub acked : r.state ≡ Acknowledged → IsAcknowledged w.heard n
  pub given_up : r.state ≡ Abandoned → IsAbandoned w.queued w.abandoned n

abbrev pub AllStand : World → ℕ → List Row → Type 0
AllStand w n [] = Unit {0}
AllStand w n (r ∷ rows) = Stands w n r × AllStand w (n + 1) rows

-- a message that waits was queued
pub record Awaits (w : World) (x : Waiting) : Type 0 where
  pub message : Message
  pub was_queued : IsIn message w.queued
  pub number : message.number ≡ x.number
  pub count : fragment_count message ≡ x.count

abbrev pub AllAwait : World → List Waiting → Type 0
AllAwait w [] = Unit {0}
AllAwait w (x ∷ xs) = Awaits w x × AllAwait w xs

pub record Speaks (s : Sender) (w : World) : Type 0 where
  pub laid : Laid w.first w.queued
  pub finish : s.finish ≡ w.finish
  pub awaits : w.finish ≡ None → next_of s ≡ next_number w.first w.queued
  pub settled : (n : ℕ) → n ≤ s.forward → IsSettled w n
  pub rows : AllStand w (s.forward + 1) s.rows
  pub waiting : AllAwait w s.waiting

-- a world in which nothing is forgotten
pub record Goes (w v : World) : Type 0 where
  pub first : v.first ≡ w.first
  pub fragments : (n : ℕ) (f : Fragment) → fragment_of w.queued n ≡ Some f → fragment_of v.queued n ≡ Some f
  pub queued : (m : Message) → IsIn m w.queued → IsIn m v.queued
  pub abandoned : (n : ℕ) → IsIn n w.abandoned → IsIn n v.abandoned
  pub heard : (a : Ack) → IsIn a w.heard → IsIn a v.heard
  pub finish : (n : ℕ) → w.finish ≡ Some n → v.finish ≡ Some n

abandoned_goes : (w v : World) (n : ℕ) → Goes w v → IsAbandoned w.queued w.abandoned n → IsAbandoned v.queued v.abandoned n
abandoned_goes w v n g a = record { message = a.message; was_queued = g.queued a.message a.was_queued; was_abandoned = g.abandoned a.message.number a.was_abandoned; spans = a.spans }

acked_goes : (w v : World) (n : ℕ) → Goes w v → IsAcknowledged w.heard n → IsAcknowledged v.heard n
acked_goes w v n g a = record { ack = a.ack; was_heard = g.heard a.ack a.was_heard; tells = a.tells }

settled_goes : (w v : World) (n : ℕ) → Goes w v → IsSettled w n → IsSettled v n
settled_goes w v n g h = elim h [
  | inl lt ↦ inl (omega (arith, lt, g.first))
  | inr k ↦ elim k [ inl a ↦ inr (inl (abandoned_goes w v n g a)) | inr a ↦ inr (inr (acked_goes w v n g a)) ]
]

stands_goes : (w v : World) (n : ℕ) (r : Row) → Goes w v → Stands w n r → Stands v n r
stands_goes w v n r g s = record {
  fragment = λ e f. g.fragments n r.fragment (s.fragment e f);
  end = λ e. g.finish n (s.end e);
  acked = λ e. acked_goes w v n g (s.acked e);
  given_up = λ e. abandoned_goes w v n g (s.given_up e);
}

all_go : (w v : World) (n : ℕ) (rows : List Row) → Goes w v → AllStand w n rows → AllStand v n rows
all_go w v n [] g h = tt
all_go w v n (r ∷ rows) g h = (stands_goes w v n r g h.0, all_go w v (n + 1) rows g h.1)

all_await : (w v : World) (xs : List Waiting) → Goes w v → AllAwait w xs → AllAwait v xs
all_await w v [] g h = tt
all_await w v (x ∷ xs) g h = (record { message = h.0.message; was_queued = g.queued h.0.message h.0.was_queued; number = h.0.number; count = h.0.count }, all_await w v xs g h.1)

all_map : (w : World) (f : ℕ → Row → Row) (n : ℕ) (rows : List Row) → ((k : ℕ) (r : Row) → Stands w k r → Stands w k (f k r)) → AllStand w n rows → AllStand w n (map_rows f n rows)
all_map w f n [] h s = tt
all_map w f n (r ∷ rows) h s = (h n r s.0, all_map w f (n + 1) rows h s.1)

all_plain : (w : World) (f : Row → Row) (n : ℕ) (rows : List Row) → ((k : ℕ) (r : Row) → Stands w k r → Stands w k (f r)) → AllStand w n rows → AllStand w n (map f rows)
all_plain w f n [] h s = tt
all_plain w f n (r ∷ rows) h s = (h n r s.0, all_plain w f (n + 1) rows h s.1)

all_append : (w : World) (n : ℕ) (xs ys : List Row) → AllStand w n xs → AllStand w (n + length xs) ys → AllStand w n (xs ++ ys)
all_append w n [] ys h k = let e : n + 0 ≡ n = omega arith in subst (λ (i : ℕ). AllStand w i ys) e k
all_append w n (x ∷ xs) ys h k = (h.0, let e : n + length (x ∷ xs) ≡ n + 1 + length xs = omega arith in all_append w (n + 1) xs ys h.1 (subst (λ (i : ℕ). AllStand w i ys) e k))

-- the forward number passes what is settled at the front
front_if : (w : World) (f : ℕ) (r : Row) (rows : List Row) (t : Bool) → is_settled r.state ≡ t → ((n : ℕ) → n ≤ f → IsSettled w n) → Stands w (f + 1) r → AllStand w (f + 1 + 1) rows
    → (((n : ℕ) → n ≤ f + 1 → IsSettled w n) → ((n : ℕ) → n ≤ f + 1 + settled_front rows → IsSettled w n) × AllStand w (f + 1 + settled_front rows + 1) (drop (settled_front rows) rows))
    → ((n : ℕ) → n ≤ f + cond t (settled_front rows + 1) 0 → IsSettled w n) × AllStand w (f + cond t (settled_front rows + 1) 0 + 1) (drop (cond t (settled_front rows + 1) 0) (r ∷ rows))
front_if w f r rows true e low s all ih =
    let here : IsSettled w (f + 1) = out r.state s.acked s.given_up e in
    let one : (n : ℕ) → n ≤ f + 1 → IsSettled w n = λ n le. elim (cases_eq n (f + 1)) [ inl x ↦ subst (λ (i : ℕ). IsSettled w i) (sym x) here | inr ne ↦ low n (omega (arith, ne)) ] in
    let r = ih one in
    let k : f + 1 + settled_front rows ≡ f + (settled_front rows + 1) = omega arith in
    let d : suc (settled_front rows) ≡ settled_front rows + 1 = omega arith in (
      λ n le. r.0 n (omega (arith, le)),
      let a : AllStand w (f + (settled_front rows + 1) + 1) (drop (settled_front rows) rows) = subst (λ (i : ℕ). AllStand w (i + 1) (drop (settled_front rows) rows)) k r.1 in
          dropped d a,
    )
  where
    out : (t : State) → (t ≡ Acknowledged → IsAcknowledged w.heard (f + 1)) → (t ≡ Abandoned → IsAbandoned w.queued w.abandoned (f + 1)) → is_settled t ≡ true → IsSettled w (f + 1)
    out Unsent a b e = absurd cc
    out Flying a b e = absurd cc
    out Lost a b e = absurd cc
    out Acknowledged a b e = inr (inr (a refl))
    out Abandoned a b e = inr (inl (b refl))

    dropped : suc (settled_front rows) ≡ settled_front rows + 1 → AllStand w (f + (settled_front rows + 1) + 1) (drop (settled_front rows) rows) → AllStand w (f + (settled_front rows + 1) + 1) (drop (settled_front rows + 1) (r ∷ rows))
    dropped d a = subst (λ (i : ℕ). AllStand w (f + (settled_front rows + 1) + 1) (drop i (r ∷ rows))) d a
front_if w f r rows false e low s all ih =
    let k : f + 0 ≡ f = omega arith in (
      λ n le. low n (omega (arith, le)),
      subst (λ (i : ℕ). AllStand w (i + 1) (r ∷ rows)) (sym k) (s, all),
    )

front : (w : World) (f : ℕ) (rows : List Row) → ((n : ℕ) → n ≤ f → IsSettled w n) → AllStand w (f + 1) rows
    → ((n : ℕ) → n ≤ f + settled_front rows → IsSettled w n) × AllStand w (f + settled_front rows + 1) (drop (settled_front rows) rows)
front w f [] low h = (λ n le. low n (omega (arith, le)), tt)
front w f (r ∷ rows) low h =
    front_if w f r rows (is_settled r.state) refl low h.0 h.1 (λ one. front w (f + 1) rows one h.1)

front_fits_if : (t : Bool) (k n : ℕ) → k ≤ n → cond t (k + 1) 0 ≤ suc n
front_fits_if true k n le = let e : k + 1 ≤ suc n = omega arith in e
front_fits_if false k n le = let e : 0 ≤ suc n = omega arith in e

front_fits : (rows : List Row) → settled_front rows ≤ length rows
front_fits [] = omega arith
front_fits (r ∷ rows) = front_fits_if (is_settled r.state) (settled_front rows) (length rows) (front_fits rows)

length_drop : (k : ℕ) (rows : List Row) → k ≤ length rows → k + length (drop k rows) ≡ length rows
length_drop zero rows le = omega arith
length_drop (suc k) [] le = absurd (omega arith)
length_drop (suc k) (r ∷ rows) le = omega (arith, length_drop k rows (omega arith))

-- the rows changed, and the forward number moved
moved : (s : Sender) (w : World) (rows : List Row) (waiting : List Waiting) → Speaks s w → length rows ≡ length s.rows → AllStand w (s.forward + 1) rows → AllAwait w waiting → Speaks (with_rows rows waiting s) w
moved s w rows waiting k e h a =
    let r = front w s.forward rows k.settled h in
    record {
      laid = k.laid;
      finish = k.finish;
      awaits = λ f. let n = length_drop (settled_front rows) rows (front_fits rows) in omega (arith, n, e, k.awaits f);
      settled = r.0;
      rows = r.1;
      waiting = a;
    }

-- a world that goes on under the same sender
pub goes_on : (s : Sender) (w v : World) → Speaks s w → Goes w v → Laid v.first v.queued → v.finish ≡ w.finish → next_number v.first v.queued ≡ next_number w.first w.queued → Speaks s v
goes_on s w v k g laid f n = record {
  laid = laid;
  finish = k.finish ∙ sym f;
  awaits = λ e. k.awaits (sym f ∙ e) ∙ sym n;
  settled = λ i le. settled_goes w v i g (k.settled i le);
  rows = all_go w v (s.forward + 1) s.rows g k.rows;
  waiting = all_await w v s.waiting g k.waiting;
}

-- queue
new_stands : (w : World) (m : Message) (n : ℕ) → Laid w.first w.queued → IsIn m w.queued → Spans m n → Stands w n (new_row m n)
new_stands w m n laid i sp = record {
  fragment = λ e f. found w.first w.queued m n laid i sp;
  end = λ e. absurd cc;
  acked = λ e. absurd cc;
  given_up = λ e. absurd cc;
}

news_stand : (w : World) (m : Message) (n count : ℕ) → Laid w.first w.queued → IsIn m w.queued → m.number ≤ n → n + count ≤ m.number + fragment_count m → AllStand w n (rows_of m n count)
news_stand w m n zero laid i low high = tt
news_stand w m n (suc count) laid i low high = (new_stands w m n laid i (low, omega (arith, high)), news_stand w m (n + 1) count laid i (omega (arith, low)) (omega (arith, high)))

rows_length : (m : Message) (n count : ℕ) → length (rows_of m n count) ≡ count
rows_length m n zero = refl
rows_length m n (suc count) = ap suc (rows_length m (n + 1) count)

await_append : (w : World) (xs : List Waiting) (x : Waiting) → AllAwait w xs → Awaits w x → AllAwait w (xs ++ x ∷ [])
await_append w [] x h a = (a, tt)
await_append w (y ∷ xs) x h a = (h.0, await_append w xs x h.1 a)

queued_speaks : (s : Sender) (w : World) (bytes : List ℕ) (options : MessageOptions) → Speaks s w → s.finish ≡ None
    → Speaks (queued (record { number = next_of s; bytes = bytes }) options s) (after w (Queued (record { number = next_of s; bytes = bytes })))
queued_speaks s w bytes options k none =
    let m : Message = record { number = next_of s; bytes = bytes } in
    let v = after w (Queued m) in
    let number : m.number ≡ next_number w.first w.queued = k.awaits (sym k.finish ∙ none) in
    let laid : Laid v.first v.queued = (number, k.laid) in
    let g : Goes w v = record {
      first = refl;
      fragments = λ n f e. found_still w.first m w.queued n f laid e;
      queued = λ x i. inr i;
      abandoned = λ n i. i;
      heard = λ a i. i;
      finish = λ n e. e;
    } in
    let news = news_stand v m m.number (fragment_count m) laid (inl refl) (omega arith) (omega arith) in
    record {
      laid = laid;
      finish = k.finish;
      awaits = λ e. omega (arith, length-append s.rows (rows_of m m.number (fragment_count m)), rows_length m m.number (fragment_count m));
      settled = λ i le. settled_goes w v i g (k.settled i le);
      rows = all_append v (s.forward + 1) s.rows (rows_of m m.number (fragment_count m)) (all_go w v (s.forward + 1) s.rows g k.rows) news;
      waiting = await_append v s.waiting (waiting_of m options) (all_await w v s.waiting g k.waiting) (record { message = m; was_queued = inl refl; number = refl; count = refl });
    }

-- abandon
and_cases : (a b : Bool) → (a && b) ≡ true → (a ≡ true) × (b ≡ true)
and_cases true b e = (refl, e)
and_cases false b e = absurd cc

let_go_stands : (w : World) (k : ℕ) (r : Row) (x : Waiting) → Awaits w x → IsIn x.number w.abandoned → has_number x k ≡ true → Stands w k r → Stands w k (let_go Abandoned r)
let_go_stands w k r x a i e s =
    let p = and_cases (nat_le x.number k) (nat_lt k (x.number + x.count)) e in
    let m = a.message in
    let low : m.number ≤ k = omega (arith, a.number, leb-true x.number k p.0) in
    let high : k < m.number + fragment_count m = omega (arith, a.number, a.count, ltb-true k (x.number + x.count) p.1) in
    record {
      fragment = λ e f. absurd cc;
      end = s.end;
      acked = λ e. absurd cc;
      given_up = λ e. record { message = m; was_queued = a.was_queued; was_abandoned = subst (λ (j : ℕ). IsIn j w.abandoned) (sym a.number) i; spans = (low, high) };
    }

give_row_if : (w : World) (k : ℕ) (r : Row) (x : Waiting) (t : Bool) → Awaits w x → IsIn x.number w.abandoned → has_number x k ≡ true → Stands w k r → Stands w k (cond t r (let_go Abandoned r))
give_row_if w k r x true a i e s = s
give_row_if w k r x false a i e s = let_go_stands w k r x a i e s

give_up_if : (w : World) (k : ℕ) (r : Row) (x : Waiting) (t : Bool) → Awaits w x → IsIn x.number w.abandoned → has_number x k ≡ t → Stands w k r → Stands w k (cond t (give_up_row r) r)
give_up_if w k r x true a i e s = give_row_if w k r x (is_acknowledged r.state) a i e s
give_up_if w k r x false a i e s = s

plain_length : (f : Row → Row) (rows : List Row) → length (map f rows) ≡ length rows
plain_length f [] = refl
plain_length f (r ∷ rows) = ap suc (plain_length f rows)

map_length : (f : ℕ → Row → Row) (n : ℕ) (rows : List Row) → length (map_rows f n rows) ≡ length rows
map_length f n [] = refl
map_length f n (r ∷ rows) = ap suc (map_length f (n + 1) rows)

await_at_if : (w : World) (n : ℕ) (x y : Waiting) (later : List Waiting) (t : Bool) → (y.number == n) ≡ t → Awaits w y → (message_at n later ≡ Some x → Awaits w x × (x.number ≡ n)) → cond t (Some y) (message_at n later) ≡ Some x → Awaits w x × (x.number ≡ n)
await_at_if w n x y later true e a ih f =
    let same : y ≡ x = cc in
    let both : Awaits w y × (y.number ≡ n) = (a, eqb-true y.number n e) in
    subst (λ (z : Waiting). Awaits w z × (z.number ≡ n)) same both
await_at_if w n x y later false e a ih f = ih f

await_at : (w : World) (n : ℕ) (x : Waiting) (xs : List Waiting) → AllAwait w xs → message_at n xs ≡ Some x → Awaits w x × (x.number ≡ n)
await_at w n x [] h e = absurd cc
await_at w n x (y ∷ xs) h e = await_at_if w n x y xs (y.number == n) refl h.0 (await_at w n x xs h.1) e

await_without_if : (w : World) (y : Waiting) (later less : List Waiting) (t : Bool) → Awaits w y → AllAwait w later → AllAwait w less → AllAwait w (cond t later (y ∷ less))
await_without_if w y later less true a h k = h
await_without_if w y later less false a h k = (a, k)

await_without : (w : World) (n : ℕ) (xs : List Waiting) → AllAwait w xs → AllAwait w (without_message n xs)
await_without w n [] h = tt
await_without w n (y ∷ xs) h = await_without_if w y xs (without_message n xs) (y.number == n) h.0 h.1 (await_without w n xs h.1)

abandoned_with_speaks : (s : Sender) (w : World) (n : ℕ) (o : Option Waiting) → message_at n s.waiting ≡ o → Speaks s w → Speaks (abandoned_with o n s) (after w (Gave_up n))
abandoned_with_speaks s w n o e k =
    let v = after w (Gave_up n) in
    let g : Goes w v = record { first = refl; fragments = λ i f e. e; queued = λ x i. i; abandoned = λ j i. inr i; heard = λ a i. i; finish = λ j e. e } in
    given s v n o e (goes_on s w v k g k.laid refl refl) (inl refl)
  where
    given : (s : Sender) (v : World) (n : ℕ) (o : Option Waiting) → message_at n s.waiting ≡ o → Speaks s v → IsIn n v.abandoned → Speaks (abandoned_with o n s) v
    given s v n None e k i = k
    given s v n (Some x) e k i =
        let a = await_at v n x s.waiting k.waiting e in
        let j : IsIn x.number v.abandoned = subst (λ (j : ℕ). IsIn j v.abandoned) (sym a.1) i in
        moved s v (map_rows (give_up x) (s.forward + 1) s.rows) (without_message n s.waiting) k (map_length (give_up x) (s.forward + 1) s.rows)
        (all_map v (give_up x) (s.forward + 1) s.rows (λ m r h. give_up_if v m r x (has_number x m) a.0 j refl h) k.rows)
        (await_without v n s.waiting k.waiting)

pub abandoned_speaks : (s : Sender) (w : World) (n : ℕ) → Speaks s w → Speaks (abandoned n s) (after w (Gave_up n))
abandoned_speaks s w n k = abandoned_with_speaks s w n (message_at n s.waiting) refl k

-- finish
finished_speaks : (s : Sender) (w : World) → Speaks s w → s.finish ≡ None → Speaks (finished s) (after w (Finished (next_of s)))
finished_speaks s w k none =
    let n = next_of s in
    let v = after w (Finished n) in
    let g : Goes w v = record {
      first = refl;
      fragments = λ i f e. e;
      queued = λ x i. i;
      abandoned = λ j i. i;
      heard = λ a i. i;
      finish = λ j e. absurd (cc (k.finish, none, e));
    } in
    let end : Stands v n end_row = record { fragment = λ e f. absurd cc; end = λ e. refl; acked = λ e. absurd cc; given_up = λ e. absurd cc } in
    record {
      laid = k.laid;
      finish = refl;
      awaits = λ e. absurd cc;
      settled = λ i le. settled_goes w v i g (k.settled i le);
      rows = all_append v (s.forward + 1) s.rows (end_row ∷ []) (all_go w v (s.forward + 1) s.rows g k.rows) (end, tt);
      waiting = all_await w v s.waiting g k.waiting;
    }

-- find_lost
open_stands : (w : World) (n : ℕ) (r : Row) (t : State) → is_settled t ≡ false → is_settled r.state ≡ false → Stands w n r → Stands w n (record r { state = t })
open_stands w n r t e f s = record {
  fragment = λ x y. s.fragment x f;
  end = s.end;
  acked = λ x. absurd (let y : is_settled t ≡ true = ap is_settled x in cc);
  given_up = λ x. absurd (let y : is_settled t ≡ true = ap is_settled x in cc);
}

flying_open : (t : State) → is_flying t ≡ true → is_settled t ≡ false
flying_open Unsent e = refl
flying_open Flying e = refl
flying_open Lost e = refl
flying_open Acknowledged e = absurd cc
flying_open Abandoned e = absurd cc

lost_if : (w : World) (moment resend n : ℕ) (r : Row) (t : Bool) → is_late moment resend r ≡ t → Stands w n r → Stands w n (cond t (record r { state = Lost }) r)
lost_if w moment resend n r true e s = open_stands w n r Lost refl (flying_open r.state ((and_cases (is_flying r.state) (nat_le (r.moment + resend) moment) e).0)) s
lost_if w moment resend n r false e s = s

same_rows : (s t : Sender) (w : World) → Speaks s w → t.forward ≡ s.forward → t.finish ≡ s.finish → t.waiting ≡ s.waiting → length t.rows ≡ length s.rows → AllStand w (s.forward + 1) t.rows → Speaks t w
same_rows s t w k f e x l h = record {
  laid = k.laid;
  finish = e ∙ k.finish;
  awaits = λ x. omega (arith, f, l, k.awaits x);
  settled = λ i le. k.settled i (omega (arith, le, f));
  rows = subst (λ (i : ℕ). AllStand w (i + 1) t.rows) (sym f) h;
  waiting = subst (λ (xs : List Waiting). AllAwait w xs) (sym x) k.waiting;
}

pub lost_speaks : (s : Sender) (w : World) (moment resend : ℕ) → Speaks s w → Speaks (lost_late moment resend s) w
lost_speaks s w moment resend k =
    let f = lost_if_late moment resend in
    same_rows s (lost_late moment resend s) w k refl refl refl (plain_length f s.rows) (all_plain w f (s.forward + 1) s.rows (λ n r h. lost_if w moment resend n r (is_late moment resend r) refl h) k.rows)

-- next_chunk
pub record Found (w : World) (at n : ℕ) (r : Row) : Type 0 where
  pub low : at ≤ n
  pub stands : Stands w n r
  pub opens : is_settled r.state ≡ false

send_eq : (a n : ℕ) (b r : Row) → Send a b ≡ Send n r → (a ≡ n) × (b ≡ r)
send_eq a n b r e = (cc, cc)

found_if : (w : World) (test : State → Bool) (at n : ℕ) (x r : Row) (rows : List Row) (t : Bool) → ((u : State) → test u ≡ true → is_settled u ≡ false) → test x.state ≡ t → Stands w at x → (first_in test (at + 1) rows ≡ Send n r → Found w (at + 1) n r)
    → cond t (Send at x) (first_in test (at + 1) rows) ≡ Send n r → Found w at n r
found_if w test at n x r rows true o q s ih e =
    let p = send_eq at n x r e in
    let a : Found w at at x = record { low = omega arith; stands = s; opens = o x.state q } in
    subst (λ (y : Row). Found w at n y) p.1 (subst (λ (i : ℕ). Found w at i x) p.0 a)
found_if w test at n x r rows false o q s ih e = let f = ih e in record { low = omega (arith, f.low); stands = f.stands; opens = f.opens }

found_in : (w : World) (test : State → Bool) (at n : ℕ) (r : Row) (rows : List Row) → ((u : State) → test u ≡ true → is_settled u ≡ false) → AllStand w at rows → first_in test at rows ≡ Send n r → Found w at n r
found_in w test at n r [] o h e = absurd cc
found_in w test at n r (x ∷ rows) o h e = found_if w test at n x r rows (test x.state) o refl h.0 (found_in w test (at + 1) n r rows o h.1) e

lost_open : (t : State) → is_lost t ≡ true → is_settled t ≡ false
lost_open Unsent e = absurd cc
lost_open Flying e = absurd cc
lost_open Lost e = refl
lost_open Acknowledged e = absurd cc
lost_open Abandoned e = absurd cc

unsent_open : (t : State) → is_unsent t ≡ true → is_settled t ≡ false
unsent_open Unsent e = refl
unsent_open Flying e = absurd cc
unsent_open Lost e = absurd cc
unsent_open Acknowledged e = absurd cc
unsent_open Abandoned e = absurd cc

send_found : (s : Sender) (w : World) (moment resend n : ℕ) (r : Row) → Speaks s w → choice moment resend s ≡ Send n r → Found w (s.forward + 1) n r
send_found s w moment resend n r k e =
    let at = s.forward + 1 in
    elim (chosen s moment resend n r e) [
      | inl f ↦ found_in w is_lost at n r s.rows lost_open k.rows f
      | inr f ↦ found_in w is_unsent at n r s.rows unsent_open k.rows f
    ]

tells_if : (w : World) (forward n : ℕ) (r : Row) (t : Bool) → r.ends ≡ t → forward < n → is_settled r.state ≡ false → Stands w n r → Tells w.queued w.finish (record { part = r.fragment.part; abandon = r.ends; last = r.ends; seq = n; forward = forward; bytes = r.fragment.bytes })
tells_if w forward n r true e lt o s = End_of e e lt (s.end e)
tells_if w forward n r false e lt o s = Fragment_of e lt (s.fragment e o)

may_with : (s : Sender) (w : World) (moment resend : ℕ) (o : Choice) (c : Chunk) → Speaks s w → choice moment resend s ≡ o → chunk_for s o ≡ Some c → MaySend w c
may_with s w moment resend Nothing c k e f = absurd cc
may_with s w moment resend (Send n r) c k e f =
    let d : Chunk = record { part = r.fragment.part; abandon = r.ends; last = r.ends; seq = n; forward = s.forward; bytes = r.fragment.bytes } in
    let same : d ≡ c = cc in
    let x = send_found s w moment resend n r k e in
    let may : MaySend w d = record { tells = tells_if w s.forward n r r.ends refl (omega (arith, x.low)) x.opens x.stands; forward = k.settled } in
    subst (λ (z : Chunk). MaySend w z) same may
may_with s w moment resend Notify c k e f =
    let d : Chunk = record { part = Whole; abandon = true; last = false; seq = s.forward; forward = s.forward; bytes = [] } in
    let same : d ≡ c = cc in
    let may : MaySend w d = record { tells = Notice refl refl; forward = k.settled } in
    subst (λ (z : Chunk). MaySend w z) same may

pub speaks_true : (s : Sender) (w : World) → Speaks s w → (moment resend : ℕ) (c : Chunk) → chunk_for s (choice moment resend s) ≡ Some c → MaySend w c
speaks_true s w k moment resend c e = may_with s w moment resend (choice moment resend s) c k refl e

put_if : (w : World) (n k : ℕ) (new x : Row) (t : Bool) → (k == n) ≡ t → Stands w n new → Stands w k x → Stands w k (cond t new x)
put_if w n k new x true e s h = subst (λ (i : ℕ). Stands w i new) (sym (eqb-true k n e)) s
put_if w n k new x false e s h = h

sent_stands : (w : World) (n moment ordinal : ℕ) (r : Row) → is_settled r.state ≡ false → Stands w n r → Stands w n (sent_row moment ordinal r)
sent_stands w n moment ordinal r o s = record { fragment = λ e f. s.fragment e o; end = s.end; acked = λ e. absurd cc; given_up = λ e. absurd cc }

sent_with : (s : Sender) (w : World) (moment resend : ℕ) (o : Choice) → Speaks s w → choice moment resend s ≡ o → Speaks (sent_after moment o s) w
sent_with s w moment resend Nothing k e = k
sent_with s w moment resend Notify k e = same_rows s (sent_after moment Notify s) w k refl refl refl refl k.rows
sent_with s w moment resend (Send n r) k e =
    let new = sent_row moment (count_up 64 s.order) r in
    let x = send_found s w moment resend n r k e in
    let y = sent_stands w n moment (count_up 64 s.order) r x.opens x.stands in
    same_rows s (sent_after moment (Send n r) s) w k refl refl refl (map_length (put_at n new) (s.forward + 1) s.rows)
    (all_map w (put_at n new) (s.forward + 1) s.rows (λ i z h. put_if w n i new z (i == n) refl y h) k.rows)

-- take_ack
or_cases : (a b : Bool) → (a || b) ≡ true → (a ≡ true) ⊎ (b ≡ true)
or_cases true b e = inl refl
or_cases false b e = inr e

in_spans : (n : ℕ) (spans : List (ℕ × ℕ)) → list_any (in_span n) spans ≡ true → InSpans n spans
in_spans n [] e = absurd cc
in_spans n (p ∷ spans) e = elim (or_cases (nat_le p.0 n && nat_le n p.1) (list_any (in_span n) spans) e) [
  | inl a ↦ let b = and_cases (nat_le p.0 n) (nat_le n p.1) a in inl (leb-true p.0 n b.0, leb-true n p.1 b.1)
  | inr a ↦ inr (in_spans n spans a)
]

tells_true : (a : Told) (n : ℕ) → tells a n ≡ true → Acknowledges (ack_of a) n
tells_true a n e = elim (or_cases (nat_le n a.upto) (list_any (in_span n) a.spans) e) [ inl x ↦ inl (leb-true n a.upto x) | inr x ↦ inr (in_spans n a.spans x) ]

acked_row_if : (w : World) (a : Told) (n : ℕ) (r : Row) (t : Bool) → IsIn (ack_of a) w.heard → tells a n ≡ true → Stands w n r → Stands w n (cond t r (let_go Acknowledged r))
acked_row_if w a n r true i e s = s
acked_row_if w a n r false i e s = record {
  fragment = λ x y. absurd cc;
  end = s.end;
  acked = λ x. record { ack = ack_of a; was_heard = i; tells = tells_true a n e };
  given_up = λ x. absurd cc;
}

acked_if : (w : World) (a : Told) (n : ℕ) (r : Row) (t : Bool) → IsIn (ack_of a) w.heard → tells a n ≡ t → Stands w n r → Stands w n (cond t (acknowledge_row r) r)
acked_if w a n r true i e s = acked_row_if w a n r (is_acknowledged r.state) i e s
acked_if w a n r false i e s = s

counted_stands : (w : World) (n acks : ℕ) (r : Row) → Stands w n r → Stands w n (record r { acks = acks })
counted_stands w n acks r s = record { fragment = s.fragment; end = s.end; acked = s.acked; given_up = s.given_up }

count_if : (w : World) (n ordinal : ℕ) (r : Row) (t u : Bool) → is_third ordinal r ≡ t → Stands w n r → Stands w n (cond t (record r { state = Lost }) (cond u (record r { acks = r.acks + 1 }) r))
count_if w n ordinal r true u e s = open_stands w n r Lost refl (flying_open r.state ((and_cases (is_flying r.state) (nat_lt r.ordinal ordinal) ((and_cases (is_flying r.state && nat_lt r.ordinal ordinal) (nat_le 2 r.acks) e).0)).0)) s
count_if w n ordinal r false true e s = counted_stands w n (r.acks + 1) r s
count_if w n ordinal r false false e s = s

await_filter_if : (w : World) (y : Waiting) (less : List Waiting) (t : Bool) → Awaits w y → AllAwait w less → AllAwait w (cond t (y ∷ less) less)
await_filter_if w y less true a h = (a, h)
await_filter_if w y less false a h = h

await_filter : (w : World) (test : Waiting → Bool) (xs : List Waiting) → AllAwait w xs → AllAwait w (filter test xs)
await_filter w test [] h = tt
await_filter w test (y ∷ xs) h = await_filter_if w y (filter test xs) (test y) h.0 (await_filter w test xs h.1)

pub heard_speaks : (s : Sender) (w : World) (a : Told) → Speaks s w → Speaks (told_by a s) (after w (Heard (ack_of a)))
heard_speaks s w a k =
    let v = after w (Heard (ack_of a)) in
    let g : Goes w v = record { first = refl; fragments = λ i f e. e; queued = λ x i. i; abandoned = λ j i. i; heard = λ b i. inr i; finish = λ j e. e } in
    let kv = goes_on s w v k g k.laid refl refl in
    let at = s.forward + 1 in
    let ordinal = last_ordinal a at s.rows in
    let first = rows_acknowledged a s in
    let acked = all_map v (acknowledge a) at s.rows (λ n r h. acked_if v a n r (tells a n) (inl refl) refl h) kv.rows in
    let rows = rows_told a s in
    let all = all_plain v (count_ack ordinal) at first (λ n r h. count_if v n ordinal r (is_third ordinal r) (is_flying r.state && nat_lt r.ordinal ordinal) refl h) acked in
    let length_is = plain_length (count_ack ordinal) first ∙ map_length (acknowledge a) at s.rows in
    let m = moved s v rows (filter (still_waits at rows) s.waiting) kv length_is all (await_filter v (still_waits at rows) s.waiting kv.waiting) in
    record { laid = m.laid; finish = m.finish; awaits = m.awaits; settled = m.settled; rows = m.rows; waiting = m.waiting }

-- all acts
pub begun_speaks : (first : ℕ) → 1 ≤ first → Speaks (new_sender first) (start first)
begun_speaks first one = record {
  laid = tt;
  finish = refl;
  awaits = λ e. omega (arith, one);
  settled = λ n le. inl (omega (arith, le, one));
  rows = tt;
  waiting = tt;
}

pub queues_speaks : (w : Sending) (bytes : List ℕ) (options : MessageOptions) (o : Option ℕ) → w.sender.finish ≡ o → Speaks w.sender w.world → Speaks (queues w bytes options o).sender (queues w bytes options o).world
queues_speaks w bytes options None e k = queued_speaks w.sender w.world bytes options k e
queues_speaks w bytes options (Some n) e k = k

pub finishes_speaks : (w : Sending) (o : Option ℕ) → w.sender.finish ≡ o → Speaks w.sender w.world → Speaks (finishes w o).sender (finishes w o).world
finishes_speaks w None e k = finished_speaks w.sender w.world k e
finishes_speaks w (Some n) e k = k

abandons_speaks : (w : Sending) (n : ℕ) (t : Bool) → Speaks w.sender w.world → Speaks (abandons w n t).sender (abandons w n t).world
abandons_speaks w n true k = abandoned_speaks w.sender w.world n k
abandons_speaks w n false k = k

pub abandons_one_speaks : (w : Sending) (o : Option ℕ) → Speaks w.sender w.world → Speaks (abandons_one w o).sender (abandons_one w o).world
abandons_one_speaks w None k = k
abandons_one_speaks w (Some n) k = abandons_speaks w n (waits w.sender n) k

pub sends_speaks : (w : Sending) (moment resend : ℕ) (o : Option Chunk) → Speaks w.sender w.world → Speaks (sends w moment (choice moment resend w.sender) o).sender (sends w moment (choice moment resend w.sender) o).world
sends_speaks w moment resend None k = k
sends_speaks w moment resend (Some c) k =
    let v = after w.world (Sent c) in
    let g : Goes w.world v = record { first = refl; fragments = λ i f e. e; queued = λ x i. i; abandoned = λ j i. i; heard = λ b i. i; finish = λ j e. e } in
    goes_on (sent_after moment (choice moment resend w.sender) w.sender) w.world v (sent_with w.sender w.world moment resend (choice moment resend w.sender) k refl) g k.laid refl refl

act_speaks : (w : Sending) (e : Act) → Speaks w.sender w.world → Speaks (acts w e).sender (acts w e).world
act_speaks w (Queues bytes options) k = queues_speaks w bytes options w.sender.finish refl k
act_speaks w (Abandons n) k = abandons_one_speaks w (Some n) k
act_speaks w AbandonsFirst k = abandons_one_speaks w (first_number w.sender.waiting) k
act_speaks w (AbandonsOverdue moment) k = abandons_one_speaks w (overdue moment w.sender) k
act_speaks w Finishes k = finishes_speaks w w.sender.finish refl k
act_speaks w (Loses moment resend) k = lost_speaks w.sender w.world moment resend k
act_speaks w (Sends moment resend) k = sends_speaks w moment resend (chunk_for w.sender (choice moment resend w.sender)) k
act_speaks w (Hears a) k = heard_speaks w.sender w.world a k

acts_speak : (w : Sending) (es : List Act) → Speaks w.sender w.world → Speaks (all_acts w es).sender (all_acts w es).world
acts_speak w [] k = k
acts_speak w (e ∷ es) k = acts_speak (acts w e) es (act_speaks w e k)

pub speaks : (first : ℕ) (es : List Act) → 1 ≤ first → SpeaksTrue (all_acts (begun first) es)
speaks first es one moment resend c e =
    let w = all_acts (begun first) es in
    speaks_true w.sender w.world (acts_speak (begun first) es (begun_speaks first one)) moment resend c e
