-- A sender stands for what its calls did.
use Rattle.std.proofs.Common.{◌≡◌, ℕ, ◌+◌, ◌-◌, ◌^◌, ◌<◌, ◌≤◌, ◌==◌, nat_lt, min, max, cond, map, Bool, true, false, ◌&&◌, ◌||◌, List, [], ◌∷◌, length, drop, Option, Some, None, refl, ap, sym, ◌∙◌, subst, arith, inl, inr, ◌⊎◌, length-append}
use Rattle.std.specs.List.{filter}
use Rattle.std.proofs.lemmas.Bool.{cases_lt, eqb-true, ltb-true, ltb-false, lt-ltb}
use Rattle.rtmfp_data_chunks.specs.Fragments.{Message, fragment_count}
use Rattle.flow_send.specs.declared.waiting.MessageOptions.{MessageOptions}
use Rattle.flow_send.specs.declared.waiting.Waiting.{Waiting}
use Rattle.flow_send.specs.declared.outcome.QueueRefusal.{QueueRefusal}
use Rattle.flow_send.specs.Rows.{Row, end_row, is_lost, is_unsent, map_rows, settled_front}
use Rattle.flow_send.specs.Sender.{Sender, next_of, rows_of, message_at, without_message, has_number, give_up, abandoned_with, abandoned}
use Rattle.flow_send.specs.Choice.{Choice, Nothing, Send, Notify, choice, sent_after, put_at, sent_row, count_up}
use Rattle.flow_send.specs.Acks.{Told, tells, greatest, beyond, rows_told, still_waits}
use Rattle.flow_send.specs.Flow.{queue_refusal, next_message}
use Rattle.flow_send.specs.Steady.{Steady}
use Rattle.flow_send.specs.Calls.{Call, Queue, Abandon, Finish, Lose, Next, Hear, Done, Queued, Abandoned, Finished, Sent, Noticed, Looked, Heard, Sending, begun, queues, abandons, finishes, sends, hears, calls, all_calls, is_told, is_given_up, is_over, sendings, times_sent, TellsLast, AllStand, AllSent, StandsFor}
use Rattle.flow_send.proofs.Numbered.{map_length}
use Rattle.flow_send.proofs.Keeping.{line_inside_at}
use Rattle.flow_send.proofs.Ends.{inside_rows, next_unfinished}
use Rattle.flow_send.proofs.Queuings.{allowed}
use Rattle.flow_send.proofs.Steadies.{next_with, steady_new, steady_queued, steady_finished, steady_lost, steady_abandoned, steady_sent, steady_told, chosen, found_low, told_below, told_length}
use Rattle.flow_send.proofs.Resends.{all_sent_same, sent_append, sent_drop, sent_map, sent_plain, news_sent, end_sent, late_keeps, give_keeps, ack_keeps, count_keeps, put_sent}
use Rattle.flow_send.proofs.Standings.{Same, all_same, all_append, Unsaid, news_stand, end_stands, late_stands, lost_open, unsent_open, put_stands, given_stands, told_stands, passed, over_more, next_open}

-- what is kept true from call to call
pub record Goes (first : ℕ) (w : Sending) : Type 0 where
  pub steady : Steady w.sender
  pub low : first ≤ w.sender.forward + 1
  pub told : (n : ℕ) → is_told w.done n ≡ true → n < next_of w.sender
  pub given : (n : ℕ) → is_given_up w.done n ≡ true → n < next_of w.sender
  pub last : TellsLast first w
  pub over : (n : ℕ) → n ≤ w.sender.forward → is_over first w.done n ≡ true
  pub rows : AllStand w.done (w.sender.forward + 1) w.sender.rows
  pub few : (n : ℕ) → 1 ≤ times_sent w.done n → n < next_of w.sender
  pub sent : AllSent w.done (w.sender.forward + 1) w.sender.rows

unsaid : (first : ℕ) (w : Sending) (n : ℕ) → Goes first w → next_of w.sender ≤ n → Unsaid w.done n
unsaid first w n g le = record { told = none (is_told w.done n) (λ e. omega (arith, g.told n e, le)); given = none (is_given_up w.done n) (λ e. omega (arith, g.given n e, le)) }
  where
    none : (b : Bool) → (b ≡ true → ⊥) → b ≡ false
    none true h = absurd (h refl)
    none false h = refl

-- a sender that goes stands for what was done
pub stands_for : (first : ℕ) (w : Sending) → Goes first w → StandsFor first w
stands_for first w g = record {
  last = g.last;
  rows = g.rows;
  sent = g.sent;
  forward = record { over = g.over; next = λ lt. next_open first w.done (w.sender.forward + 1) w.sender.rows g.low g.steady.front lt g.rows };
}

pub never : (first : ℕ) (w : Sending) (n : ℕ) → Goes first w → next_of w.sender ≤ n → times_sent w.done n ≡ 0
never first w n g le = elim (cases_lt 0 (times_sent w.done n)) [ inl lt ↦ absurd (let h = g.few n (omega (arith, lt)) in omega (arith, h, le)) | inr z ↦ omega (arith, z) ]

counts : (order sendings most : ℕ) → order ≡ min sendings most → min (order + 1) most ≡ min (sendings + 1) most
counts order sendings most e = omega (arith, e)

-- what was done is more, but tells the same of each number
kept : (first : ℕ) (before after : List Done) → Same before after → ((n : ℕ) → is_over first before n ≡ true → is_over first after n ≡ true)
kept first before after s n e = over_more first before after n (λ x. s.told n ∙ x) (λ x. s.given n ∙ x) e

pub begun_goes : (first : ℕ) → 1 ≤ first → first < 2 ^ 64 → Goes first (begun first)
begun_goes first one fits = record {
  steady = steady_new first one fits;
  low = omega (arith, one);
  told = λ n e. absurd cc;
  given = λ n e. absurd cc;
  last = record { upto = refl; blocks = refl; sent = refl; notice = refl; finish = refl; order = refl };
  over = λ n le. ap (λ x. (x || false) || false) (lt-ltb n first (omega (arith, one, le)));
  rows = tt;
  few = λ n le. absurd (omega (arith, le));
  sent = tt;
}

queues_goes : (first : ℕ) (w : Sending) (bytes : List ℕ) (options : MessageOptions) (o : Option QueueRefusal) → queue_refusal w.sender (length bytes) ≡ o → Goes first w → Goes first (queues w bytes options o)
queues_goes first w bytes options (Some e) is g = g
queues_goes first w bytes options None is g =
    let s = w.sender in
    let m : Message = next_message s bytes in
    let a = allowed s (length bytes) is in
    let done : List Done = Queued m options ∷ w.done in
    let same : Same w.done done = record { told = λ n. refl; given = λ n. refl } in
    let more = rows_of m m.number (fragment_count m) in
    let at : s.forward + 1 + length s.rows ≡ m.number = omega arith in
    let len = length-append s.rows more in
    let news : AllStand done (s.forward + 1 + length s.rows) more = subst (λ (i : ℕ). AllStand done i more) (sym at) (news_stand done m m.number (fragment_count m) (λ k le. let u = unsaid first w k g le in record { told = u.told; given = u.given })) in
    record {
      steady = steady_queued s bytes options g.steady a.unfinished a.bytes a.fragments a.numbers;
      low = g.low;
      told = λ n e. omega (arith, g.told n e, len);
      given = λ n e. omega (arith, g.given n e, len);
      last = record { upto = g.last.upto; blocks = g.last.blocks; sent = g.last.sent; notice = g.last.notice; finish = g.last.finish; order = g.last.order };
      over = λ n le. kept first w.done done same n (g.over n le);
      rows = all_append done (s.forward + 1) s.rows more (all_same w.done done (s.forward + 1) s.rows same g.rows) news;
      few = λ n le. let h = g.few n le in omega (arith, h, len);
      sent = sent_append done (s.forward + 1) s.rows more (all_sent_same w.done done (s.forward + 1) s.rows (record { times = λ n. refl; last = λ n. refl }) g.sent)
          (subst (λ (i : ℕ). AllSent done i more) (sym at) (news_sent done m m.number (fragment_count m) (λ k le. never first w k g le)));
    }

finishes_goes : (first : ℕ) (w : Sending) (o : Option ℕ) → w.sender.finish ≡ o → Goes first w → Goes first (finishes w o)
finishes_goes first w (Some n) is g = g
finishes_goes first w None is g =
    let s = w.sender in
    let done : List Done = Finished (next_of s) ∷ w.done in
    let same : Same w.done done = record { told = λ n. refl; given = λ n. refl } in
    let at : s.forward + 1 + length s.rows ≡ next_of s = omega arith in
    let len = length-append s.rows (end_row ∷ []) in
    let u = unsaid first w (s.forward + 1 + length s.rows) g (omega (arith, at)) in
    record {
      steady = steady_finished s g.steady is (next_unfinished s g.steady is);
      low = g.low;
      told = λ n e. omega (arith, g.told n e, len);
      given = λ n e. omega (arith, g.given n e, len);
      last = record { upto = g.last.upto; blocks = g.last.blocks; sent = g.last.sent; notice = g.last.notice; finish = refl; order = g.last.order };
      over = λ n le. kept first w.done done same n (g.over n le);
      rows = all_append done (s.forward + 1) s.rows (end_row ∷ []) (all_same w.done done (s.forward + 1) s.rows same g.rows)
          (end_stands done (s.forward + 1 + length s.rows) (record { told = u.told; given = u.given }), tt);
      few = λ n le. let h = g.few n le in omega (arith, h, len);
      sent = sent_append done (s.forward + 1) s.rows (end_row ∷ []) (all_sent_same w.done done (s.forward + 1) s.rows (record { times = λ n. refl; last = λ n. refl }) g.sent)
          (end_sent done (s.forward + 1 + length s.rows) (never first w (s.forward + 1 + length s.rows) g (omega (arith, at))), tt);
    }

plain_length : (f : Row → Row) (rows : List Row) → length (Rattle.std.specs.Prelude.map f rows) ≡ length rows
plain_length f [] = refl
plain_length f (r ∷ rows) = ap Prim.Native.Nat.suc (plain_length f rows)

loses_goes : (first : ℕ) (w : Sending) (moment resend : ℕ) → Goes first w → Goes first (calls w (Lose moment resend))
loses_goes first w moment resend g =
    let s = w.sender in
    let done : List Done = Looked moment resend ∷ w.done in
    let same : Same w.done done = record { told = λ n. refl; given = λ n. refl } in
    let len = plain_length (Rattle.flow_send.specs.Sender.lost_if_late moment resend) s.rows in
    record {
      steady = steady_lost s moment resend g.steady;
      low = g.low;
      told = λ n e. omega (arith, g.told n e, len);
      given = λ n e. omega (arith, g.given n e, len);
      last = record { upto = g.last.upto; blocks = g.last.blocks; sent = g.last.sent; notice = g.last.notice; finish = g.last.finish; order = g.last.order };
      over = λ n le. kept first w.done done same n (g.over n le);
      rows = all_same w.done done (s.forward + 1) (map (Rattle.flow_send.specs.Sender.lost_if_late moment resend) s.rows) same (late_stands w.done moment resend (s.forward + 1) s.rows g.rows);
      few = λ n le. let h = g.few n le in omega (arith, h, len);
      sent = all_sent_same w.done done (s.forward + 1) (map (Rattle.flow_send.specs.Sender.lost_if_late moment resend) s.rows) (record { times = λ n. refl; last = λ n. refl })
          (sent_plain w.done (Rattle.flow_send.specs.Sender.lost_if_late moment resend) (s.forward + 1) s.rows (late_keeps moment resend) g.sent);
    }

sends_goes : (first : ℕ) (w : Sending) (moment resend : ℕ) (o : Choice) → choice moment resend w.sender ≡ o → Goes first w → Goes first (sends w moment o)
sends_goes first w moment resend Nothing is g = g
sends_goes first w moment resend Notify is g =
    let s = w.sender in
    let done : List Done = Noticed s.forward moment ∷ w.done in
    let same : Same w.done done = record { told = λ n. refl; given = λ n. refl } in
    record {
      steady = steady_sent s moment resend Notify is g.steady;
      low = g.low;
      told = g.told;
      given = g.given;
      last = record { upto = g.last.upto; blocks = g.last.blocks; sent = ap (λ x. max x s.forward) g.last.sent; notice = refl; finish = g.last.finish; order = counts s.order (sendings w.done) (2 ^ 64 - 1) g.last.order };
      over = λ n le. kept first w.done done same n (g.over n le);
      rows = all_same w.done done (s.forward + 1) s.rows same g.rows;
      few = g.few;
      sent = all_sent_same w.done done (s.forward + 1) s.rows (record { times = λ n. refl; last = λ n. refl }) g.sent;
    }
sends_goes first w moment resend (Send n r) is g =
    let s = w.sender in
    let done : List Done = Sent n moment ∷ w.done in
    let same : Same w.done done = record { told = λ k. refl; given = λ k. refl } in
    let ordinal = count_up 64 s.order in
    let len = map_length (put_at n (sent_row moment ordinal r)) (s.forward + 1) s.rows in
    let old = all_same w.done done (s.forward + 1) s.rows same g.rows in
    record {
      steady = steady_sent s moment resend (Send n r) is g.steady;
      low = g.low;
      told = λ k e. omega (arith, g.told k e, len);
      given = λ k e. omega (arith, g.given k e, len);
      last = record { upto = g.last.upto; blocks = g.last.blocks; sent = ap (λ x. max x n) g.last.sent; notice = g.last.notice; finish = g.last.finish; order = counts s.order (sendings w.done) (2 ^ 64 - 1) g.last.order };
      over = λ k le. kept first w.done done same k (g.over k le);
      rows = elim (chosen s moment resend n r is) [
        | inl f ↦ put_stands done is_lost (s.forward + 1) n moment ordinal r s.rows lost_open old f
        | inr f ↦ put_stands done is_unsent (s.forward + 1) n moment ordinal r s.rows unsent_open old f
      ];
      few = λ k le. few_if (n == k) k refl le;
      sent = elim (chosen s moment resend n r is) [
        | inl f ↦ put_sent w.done is_lost (s.forward + 1) n moment ordinal r s.rows (λ u e d. absurd (let x : true ≡ false = sym e ∙ d in cc)) counted g.sent f
        | inr f ↦ put_sent w.done is_unsent (s.forward + 1) n moment ordinal r s.rows (λ u e d. e) counted g.sent f
      ];
    }
  where
    counted : count_up 64 w.sender.order ≡ min (sendings w.done + 1) (2 ^ 64 - 1)
    counted = counts w.sender.order (sendings w.done) (2 ^ 64 - 1) g.last.order

    below : n < next_of w.sender
    below = elim (chosen w.sender moment resend n r is) [
      | inl f ↦ (found_low is_lost (w.sender.forward + 1) n r w.sender.rows f).1
      | inr f ↦ (found_low is_unsent (w.sender.forward + 1) n r w.sender.rows f).1
    ]

    few_if : (t : Bool) (k : ℕ) → (n == k) ≡ t → 1 ≤ cond t (times_sent w.done k + 1) (times_sent w.done k) → k < next_of (sent_after moment (Send n r) w.sender)
    few_if true k e le = let q = eqb-true n k e in omega (arith, q, below, map_length (put_at n (sent_row moment (count_up 64 w.sender.order) r)) (w.sender.forward + 1) w.sender.rows)
    few_if false k e le = let h = g.few k le in omega (arith, h, map_length (put_at n (sent_row moment (count_up 64 w.sender.order) r)) (w.sender.forward + 1) w.sender.rows)

or_left : (a b : Bool) → a ≡ true → (a || b) ≡ true
or_left true b e = refl
or_left false b e = absurd cc

or_right : (a b : Bool) → b ≡ true → (a || b) ≡ true
or_right true b e = refl
or_right false b e = e

or_cases : (a b : Bool) → (a || b) ≡ true → (a ≡ true) ⊎ (b ≡ true)
or_cases true b e = inl refl
or_cases false b e = inr e

and_right : (a b : Bool) → (a && b) ≡ true → b ≡ true
and_right true b e = e
and_right false b e = absurd cc

dropped : (done : List Done) (f d : ℕ) (rows : List Row) → AllSent done (f + 1) rows → AllSent done (f + d + 1) (drop d rows)
dropped done f d rows a = let e : f + 1 + d ≡ f + d + 1 = omega arith in subst (λ (i : ℕ). AllSent done i (drop d rows)) e (sent_drop done (f + 1) d rows a)

abandons_goes : (first : ℕ) (w : Sending) (n : ℕ) (o : Option Waiting) → message_at n w.sender.waiting ≡ o → Goes first w → Goes first (abandons w n o)
abandons_goes first w n None is g = g
abandons_goes first w n (Some x) is g =
    let same : abandoned n w.sender ≡ abandoned_with (Some x) n w.sender = ap (λ (o : Option Waiting). abandoned_with o n w.sender) is in
    subst (λ (t : Sender). Goes first (record { sender = t; done = Abandoned x ∷ w.done })) (sym same) given_goes
  where
    given_goes : Goes first (record { sender = abandoned_with (Some x) n w.sender; done = Abandoned x ∷ w.done })
    given_goes =
        let s = w.sender in
        let done : List Done = Abandoned x ∷ w.done in
        let rows = map_rows (give_up x) (s.forward + 1) s.rows in
        let len = map_length (give_up x) (s.forward + 1) s.rows in
        let next = next_with rows (without_message n s.waiting) s len in
        let over : (k : ℕ) → k ≤ s.forward → is_over first done k ≡ true = λ k le. over_more first w.done done k (λ e. e) (λ e. or_right (has_number x k) (is_given_up w.done k) e) (g.over k le) in
        let p = passed first done s.forward rows over (given_stands w.done x (s.forward + 1) s.rows g.rows) in
        let inside = line_inside_at 0 (Rattle.flow_send.specs.Steady.end_of s) n x s.waiting g.steady.line is in
        let end = inside_rows s g.steady in
        record {
          steady = steady_abandoned s n (Some x) is g.steady;
          low = omega (arith, g.low);
          told = λ k e. omega (arith, g.told k e, next);
          given = λ k e. elim (or_cases (has_number x k) (is_given_up w.done k) e) [
            | inl h ↦ let lt = ltb-true k (x.number + x.count) (and_right (Rattle.std.specs.Prelude.nat_le x.number k) (nat_lt k (x.number + x.count)) h) in omega (arith, lt, inside.2, end, next)
            | inr h ↦ omega (arith, g.given k h, next)
          ];
          last = record { upto = g.last.upto; blocks = g.last.blocks; sent = g.last.sent; notice = g.last.notice; finish = g.last.finish; order = g.last.order };
          over = p.over;
          rows = p.left;
          few = λ k le. let h = g.few k le in omega (arith, h, next);
          sent = dropped done s.forward (Rattle.flow_send.specs.Rows.settled_front rows) rows
              (all_sent_same w.done done (s.forward + 1) rows (record { times = λ k. refl; last = λ k. refl }) (sent_map w.done (give_up x) (s.forward + 1) s.rows (give_keeps x) g.sent));
        }

none_beyond : (t : Bool) (n : ℕ) → cond t (Some n) None ≡ None → t ≡ false
none_beyond true n e = absurd cc
none_beyond false n e = refl

hears_goes : (first : ℕ) (w : Sending) (a : Told) (o : Option ℕ) → beyond w.sender a ≡ o → Goes first w → Goes first (hears w a o)
hears_goes first w a (Some n) is g = g
hears_goes first w a None is g =
    let s = w.sender in
    let done : List Done = Heard a ∷ w.done in
    let most = greatest a.upto a.spans in
    let le : most ≤ s.sent = ltb-false s.sent most (none_beyond (nat_lt s.sent most) most is) in
    let rows = rows_told a s in
    let waiting = filter (still_waits (s.forward + 1) rows) s.waiting in
    let next = next_with rows waiting s (told_length a s) in
    let over : (k : ℕ) → k ≤ s.forward → is_over first done k ≡ true = λ k l. over_more first w.done done k (λ e. or_right (tells a k) (is_told w.done k) e) (λ e. e) (g.over k l) in
    let p = passed first done s.forward rows over (told_stands w.done a (Rattle.flow_send.specs.Acks.last_ordinal a (s.forward + 1) s.rows) (s.forward + 1) s.rows g.rows) in
    record {
      steady = steady_told s a g.steady le;
      low = omega (arith, g.low);
      told = λ k e. elim (or_cases (tells a k) (is_told w.done k) e) [
        | inl h ↦ omega (arith, told_below a k h, le, g.steady.below, next)
        | inr h ↦ omega (arith, g.told k h, next)
      ];
      given = λ k e. omega (arith, g.given k e, next);
      last = record { upto = refl; blocks = refl; sent = g.last.sent; notice = g.last.notice; finish = g.last.finish; order = g.last.order };
      over = p.over;
      rows = p.left;
      few = λ k l. let h = g.few k l in omega (arith, h, next);
      sent = dropped done s.forward (settled_front rows) rows
          (all_sent_same w.done done (s.forward + 1) rows (record { times = λ k. refl; last = λ k. refl })
          (sent_plain w.done (Rattle.flow_send.specs.Acks.count_ack (Rattle.flow_send.specs.Acks.last_ordinal a (s.forward + 1) s.rows)) (s.forward + 1) (Rattle.flow_send.specs.Acks.rows_acknowledged a s) (count_keeps (Rattle.flow_send.specs.Acks.last_ordinal a (s.forward + 1) s.rows))
          (sent_map w.done (Rattle.flow_send.specs.Acks.acknowledge a) (s.forward + 1) s.rows (ack_keeps a) g.sent)));
    }

pub call_goes : (first : ℕ) (w : Sending) (c : Call) → Goes first w → Goes first (calls w c)
call_goes first w (Queue bytes options) g = queues_goes first w bytes options (queue_refusal w.sender (length bytes)) refl g
call_goes first w (Abandon n) g = abandons_goes first w n (message_at n w.sender.waiting) refl g
call_goes first w Finish g = finishes_goes first w w.sender.finish refl g
call_goes first w (Lose moment resend) g = loses_goes first w moment resend g
call_goes first w (Next moment resend) g = sends_goes first w moment resend (choice moment resend w.sender) refl g
call_goes first w (Hear a) g = hears_goes first w a (beyond w.sender a) refl g

calls_go : (first : ℕ) (w : Sending) (cs : List Call) → Goes first w → Goes first (all_calls w cs)
calls_go first w [] g = g
calls_go first w (c ∷ cs) g = calls_go first (calls w c) cs (call_goes first w c g)

pub stands : (first : ℕ) (cs : List Call) → 1 ≤ first → first < 2 ^ 64 → StandsFor first (all_calls (begun first) cs)
stands first cs one fits = stands_for first (all_calls (begun first) cs) (calls_go first (begun first) cs (begun_goes first one fits))
