-- Which acks count against a number, and which numbers are lost, against what was done.
use Rattle.std.proofs.Common.{◌≡◌, ◌⊎◌, ℕ, zero, suc, ◌+◌, ◌-◌, ◌^◌, ◌<◌, ◌≤◌, ◌==◌, nat_le, nat_lt, min, max, not, cond, map, Bool, true, false, ◌&&◌, ◌||◌, List, [], ◌∷◌, ◌++◌, length, drop, Option, Some, None, refl, ap, sym, ◌∙◌, subst, arith, inl, inr, eq-eqb}
use Rattle.std.proofs.lemmas.Bool.{cases_lt, cases_eq, eqb-true, ne_eqb, leb-true, ltb-true, lt-ltb}
use Rattle.std.proofs.lemmas.Bool.Decides.{nat_tests}
use Rattle.rtmfp_data_chunks.specs.Fragments.{Message, fragment_count}
use Rattle.flow_send.specs.declared.state.State.{State}
use Rattle.flow_send.specs.declared.state.State.TheVariants.{Unsent, Flying, Lost, Acknowledged, Abandoned as Given_up}
use Rattle.flow_send.specs.declared.waiting.MessageOptions.{MessageOptions}
use Rattle.flow_send.specs.declared.waiting.Waiting.{Waiting}
use Rattle.flow_send.specs.declared.outcome.QueueRefusal.{QueueRefusal}
use Rattle.flow_send.specs.Rows.{Row, end_row, is_flying, is_lost, is_acknowledged, let_go, map_rows, settled_front}
use Rattle.flow_send.specs.Sender.{Sender, next_of, rows_of, message_at, has_number, give_up, abandoned_with, abandoned, is_late, lost_if_late}
use Rattle.flow_send.specs.Choice.{Choice, Nothing, Send, Notify, choice, put_at, sent_row, count_up}
use Rattle.flow_send.specs.Acks.{Told, tells, beyond, new_ordinal, last_ordinal, acknowledge, count_ack, rows_acknowledged}
use Rattle.flow_send.specs.Flow.{queue_refusal, next_message}
use Rattle.flow_send.specs.Calls.{Call, Queue, Abandon, Finish, Lose, Next, Hear, Done, Queued, Abandoned, Finished, Sent, Noticed, Looked, Heard, Sending, begun, queues, abandons, finishes, sends, hears, calls, is_told, is_over, sendings, times_sent, last_sending, is_out, Stands, AllStand, SentAs, AllSent}
use Rattle.flow_send.specs.Counted.{is_passed, newly_tells, tells_later, acks_since, is_long_before, was_late, CountsAs, AllCount}
use Rattle.flow_send.proofs.Standings.{next_open}
use Rattle.flow_send.proofs.Calling.{Goes, never}

-- the ordinal of the last sending of a number, 0 where there was none
abbrev pub ordinal_of : List Done → ℕ → ℕ
ordinal_of [] n = 0
ordinal_of (Sent k moment ∷ earlier) n = cond (k == n) (sendings earlier + 1) (ordinal_of earlier n)
ordinal_of (_ ∷ earlier) n = ordinal_of earlier n

cond_le : (t : Bool) (a b c : ℕ) → a ≤ c → b ≤ c → cond t a b ≤ c
cond_le true a b c h k = h
cond_le false a b c h k = k

ordinal_most : (done : List Done) (n : ℕ) → ordinal_of done n ≤ sendings done
ordinal_most [] n = omega arith
ordinal_most (Sent k moment ∷ earlier) n = let h = ordinal_most earlier n in cond_le (k == n) (sendings earlier + 1) (ordinal_of earlier n) (sendings earlier + 1) (omega arith) (omega (arith, h))
ordinal_most (Noticed k moment ∷ earlier) n = let h = ordinal_most earlier n in let e : ordinal_of earlier n ≤ sendings earlier + 1 = omega (arith, h) in e
ordinal_most (Queued m options ∷ earlier) n = ordinal_most earlier n
ordinal_most (Abandoned w ∷ earlier) n = ordinal_most earlier n
ordinal_most (Finished k ∷ earlier) n = ordinal_most earlier n
ordinal_most (Looked moment resend ∷ earlier) n = ordinal_most earlier n
ordinal_most (Heard a ∷ earlier) n = ordinal_most earlier n

never_ordinal : (done : List Done) (n : ℕ) → times_sent done n ≡ 0 → ordinal_of done n ≡ 0
never_ordinal [] n e = refl
never_ordinal (Sent k moment ∷ earlier) n e = never_if (k == n) (never_ordinal earlier n) e
  where
    never_if : (t : Bool) → (times_sent earlier n ≡ 0 → ordinal_of earlier n ≡ 0) → cond t (times_sent earlier n + 1) (times_sent earlier n) ≡ 0 → cond t (sendings earlier + 1) (ordinal_of earlier n) ≡ 0
    never_if true h e = absurd (omega (arith, e))
    never_if false h e = h e
never_ordinal (Noticed k moment ∷ earlier) n e = never_ordinal earlier n e
never_ordinal (Queued m options ∷ earlier) n e = never_ordinal earlier n e
never_ordinal (Abandoned w ∷ earlier) n e = never_ordinal earlier n e
never_ordinal (Finished k ∷ earlier) n e = never_ordinal earlier n e
never_ordinal (Looked moment resend ∷ earlier) n e = never_ordinal earlier n e
never_ordinal (Heard a ∷ earlier) n e = never_ordinal earlier n e

-- ---- what an ack tells later

or_left : (a b : Bool) → a ≡ true → (a || b) ≡ true
or_left true b e = refl
or_left false b e = absurd cc

or_right : (a b : Bool) → b ≡ true → (a || b) ≡ true
or_right true b e = refl
or_right false b e = e

-- a number that is newly told and was sent after number n is found from the newest doing on
found_later : (first : ℕ) (heard : List Done) (a : Told) (done : List Done) (n k : ℕ) → newly_tells first heard a k ≡ true → ordinal_of done n < ordinal_of done k → tells_later first heard a done n ≡ true
found_later first heard a [] n k e lt = absurd (omega (arith, lt))
found_later first heard a (Sent j moment ∷ earlier) n k e lt =
    found_if (j == n) (j == k) refl refl (found_later first heard a earlier n k e) lt
  where
    found_if : (t u : Bool) → (j == n) ≡ t → (j == k) ≡ u → (ordinal_of earlier n < ordinal_of earlier k → tells_later first heard a earlier n ≡ true)
        → cond t (sendings earlier + 1) (ordinal_of earlier n) < cond u (sendings earlier + 1) (ordinal_of earlier k) → cond t false (newly_tells first heard a j || tells_later first heard a earlier n) ≡ true
    found_if true true f g h lt = absurd (omega (arith, lt))
    found_if true false f g h lt = absurd (let m = ordinal_most earlier k in omega (arith, lt, m))
    found_if false true f g h lt = or_left (newly_tells first heard a j) (tells_later first heard a earlier n) (subst (λ (i : ℕ). newly_tells first heard a i ≡ true) (sym (eqb-true j k g)) e)
    found_if false false f g h lt = or_right (newly_tells first heard a j) (tells_later first heard a earlier n) (h lt)
found_later first heard a (Noticed j moment ∷ earlier) n k e lt = found_later first heard a earlier n k e lt
found_later first heard a (Queued m options ∷ earlier) n k e lt = found_later first heard a earlier n k e lt
found_later first heard a (Abandoned w ∷ earlier) n k e lt = found_later first heard a earlier n k e lt
found_later first heard a (Finished j ∷ earlier) n k e lt = found_later first heard a earlier n k e lt
found_later first heard a (Looked moment resend ∷ earlier) n k e lt = found_later first heard a earlier n k e lt
found_later first heard a (Heard b ∷ earlier) n k e lt = found_later first heard a earlier n k e lt

-- a number that is newly told and was sent after another one
pub record Later (first : ℕ) (heard : List Done) (a : Told) (done : List Done) (n : ℕ) : Type 0 where
  pub number : ℕ
  pub new : newly_tells first heard a number ≡ true
  pub after : ordinal_of done n < ordinal_of done number

or_cases : (a b : Bool) → (a || b) ≡ true → (a ≡ true) ⊎ (b ≡ true)
or_cases true b e = inl refl
or_cases false b e = inr e

later : (first : ℕ) (heard : List Done) (a : Told) (done : List Done) (n : ℕ) → tells_later first heard a done n ≡ true → Later first heard a done n
later first heard a [] n e = absurd cc
later first heard a (Sent j moment ∷ earlier) n e = later_if (j == n) refl (λ h. later first heard a earlier n h) e
  where
    here : (j == n) ≡ false → newly_tells first heard a j ≡ true → Later first heard a (Sent j moment ∷ earlier) n
    here f g =
        let one = ap (λ b. cond b (sendings earlier + 1) (ordinal_of earlier j)) (eq-eqb j j refl) in
        let two = ap (λ b. cond b (sendings earlier + 1) (ordinal_of earlier n)) f in
        let m = ordinal_most earlier n in
        record { number = j; new = g; after = omega (arith, one, two, m) }

    further : (j == n) ≡ false → Later first heard a earlier n → Later first heard a (Sent j moment ∷ earlier) n
    further f l =
        let two = ap (λ b. cond b (sendings earlier + 1) (ordinal_of earlier n)) f in
        record { number = l.number; new = l.new; after = further_if (j == l.number) two l.after }
      where
        further_if : (u : Bool) → cond (j == n) (sendings earlier + 1) (ordinal_of earlier n) ≡ ordinal_of earlier n → ordinal_of earlier n < ordinal_of earlier l.number
            → cond (j == n) (sendings earlier + 1) (ordinal_of earlier n) < cond u (sendings earlier + 1) (ordinal_of earlier l.number)
        further_if true two lt = let m = ordinal_most earlier n in omega (arith, two, m)
        further_if false two lt = omega (arith, two, lt)

    later_if : (t : Bool) → (j == n) ≡ t → (tells_later first heard a earlier n ≡ true → Later first heard a earlier n) → cond t false (newly_tells first heard a j || tells_later first heard a earlier n) ≡ true → Later first heard a (Sent j moment ∷ earlier) n
    later_if true f ih e = absurd cc
    later_if false f ih e = elim (or_cases (newly_tells first heard a j) (tells_later first heard a earlier n) e) [
      | inl g ↦ here f g
      | inr h ↦ further f (ih h)
    ]
later first heard a (Noticed j moment ∷ earlier) n e = let l = later first heard a earlier n e in record { number = l.number; new = l.new; after = l.after }
later first heard a (Queued m options ∷ earlier) n e = let l = later first heard a earlier n e in record { number = l.number; new = l.new; after = l.after }
later first heard a (Abandoned w ∷ earlier) n e = let l = later first heard a earlier n e in record { number = l.number; new = l.new; after = l.after }
later first heard a (Finished j ∷ earlier) n e = let l = later first heard a earlier n e in record { number = l.number; new = l.new; after = l.after }
later first heard a (Looked moment resend ∷ earlier) n e = let l = later first heard a earlier n e in record { number = l.number; new = l.new; after = l.after }
later first heard a (Heard b ∷ earlier) n e = let l = later first heard a earlier n e in record { number = l.number; new = l.new; after = l.after }

-- ---- the forward number has passed

and_true : (a b : Bool) → (a && b) ≡ true → (a ≡ true) × (b ≡ true)
and_true true b e = (refl, e)
and_true false b e = absurd cc

both : (a b : Bool) → a ≡ true → b ≡ true → (a && b) ≡ true
both true b e f = f
both false b e f = absurd cc

passed_up : (first : ℕ) (done : List Done) (n : ℕ) → ((k : ℕ) → k ≤ n → is_over first done k ≡ true) → is_passed first done n ≡ true
passed_up first done zero h = h 0 (omega arith)
passed_up first done (suc n) h = both (is_over first done (suc n)) (is_passed first done n) (h (suc n) (omega arith)) (passed_up first done n (λ k le. h k (omega (arith, le))))

passed_down : (first : ℕ) (done : List Done) (n k : ℕ) → is_passed first done n ≡ true → k ≤ n → is_over first done k ≡ true
passed_down first done zero k e le = let z : k ≡ 0 = omega (arith, le) in subst (λ (i : ℕ). is_over first done i ≡ true) (sym z) e
passed_down first done (suc n) k e le =
    let p = and_true (is_over first done (suc n)) (is_passed first done n) e in
    elim (cases_eq k (suc n)) [
      | inl q ↦ subst (λ (i : ℕ). is_over first done i ≡ true) (sym q) p.0
      | inr ne ↦ passed_down first done n k p.1 (omega (arith, le, ne))
    ]

none_true : (b : Bool) → (b ≡ true → ⊥) → b ≡ false
none_true true h = absurd (h refl)
none_true false h = refl

-- ---- a row against what was done

pub record Counts (first : ℕ) (done : List Done) (n : ℕ) (r : Row) : Type 0 where
  pub ordinal : r.ordinal ≡ ordinal_of done n
  pub counts : CountsAs first done n r

abbrev pub AllCounts : ℕ → List Done → ℕ → List Row → Type 0
AllCounts first done n [] = Unit {0}
AllCounts first done n (r ∷ rows) = Counts first done n r × AllCounts first done (n + 1) rows

pub all_count : (first : ℕ) (done : List Done) (n : ℕ) (rows : List Row) → AllCounts first done n rows → AllCount first done n rows
all_count first done n [] a = tt
all_count first done n (r ∷ rows) a = (a.0.counts, all_count first done (n + 1) rows a.1)

counts_append : (first : ℕ) (done : List Done) (n : ℕ) (xs ys : List Row) → AllCounts first done n xs → AllCounts first done (n + length xs) ys → AllCounts first done n (xs ++ ys)
counts_append first done n [] ys h k = let e : n + 0 ≡ n = omega arith in subst (λ (i : ℕ). AllCounts first done i ys) e k
counts_append first done n (x ∷ xs) ys h k = (h.0, let e : n + length (x ∷ xs) ≡ n + 1 + length xs = omega arith in counts_append first done (n + 1) xs ys h.1 (subst (λ (i : ℕ). AllCounts first done i ys) e k))

counts_drop : (first : ℕ) (done : List Done) (n d : ℕ) (rows : List Row) → AllCounts first done n rows → AllCounts first done (n + d) (drop d rows)
counts_drop first done n zero rows a = let e : n ≡ n + 0 = omega arith in subst (λ (i : ℕ). AllCounts first done i rows) e a
counts_drop first done n (suc d) [] a = tt
counts_drop first done n (suc d) (r ∷ rows) a = let e : n + 1 + d ≡ n + suc d = omega arith in subst (λ (i : ℕ). AllCounts first done i (drop d rows)) e (counts_drop first done (n + 1) d rows a.1)

dropped : (first : ℕ) (done : List Done) (f d : ℕ) (rows : List Row) → AllCounts first done (f + 1) rows → AllCounts first done (f + d + 1) (drop d rows)
dropped first done f d rows a = let e : f + 1 + d ≡ f + d + 1 = omega arith in subst (λ (i : ℕ). AllCounts first done i (drop d rows)) e (counts_drop first done (f + 1) d rows a)

-- rows that are changed one by one, of which what was known may be used
counts_map : (first : ℕ) (before after : List Done) (f : ℕ → Row → Row) (n : ℕ) (rows : List Row) → ((k : ℕ) (r : Row) → Stands before k r → SentAs before k r → Counts first before k r → Counts first after k (f k r))
    → AllStand before n rows → AllSent before n rows → AllCounts first before n rows → AllCounts first after n (map_rows f n rows)
counts_map first before after f n [] h st se a = tt
counts_map first before after f n (r ∷ rows) h st se a = (h n r st.0 se.0 a.0, counts_map first before after f (n + 1) rows h st.1 se.1 a.1)

-- doings that tell the same of each number
pub record SameCount (first : ℕ) (before after : List Done) : Type 0 where
  pub ordinal : (n : ℕ) → ordinal_of after n ≡ ordinal_of before n
  pub acks : (n : ℕ) → acks_since first after n ≡ acks_since first before n
  pub late : (n : ℕ) → was_late after n ≡ was_late before n

counts_same : (first : ℕ) (before after : List Done) (n : ℕ) (r : Row) → SameCount first before after → Counts first before n r → Counts first after n r
counts_same first before after n r s c = record {
  ordinal = c.ordinal ∙ sym (s.ordinal n);
  counts = record {
    acks = λ e. c.counts.acks e ∙ sym (s.acks n);
    lost = λ e. c.counts.lost e ∙ (ap (λ i. nat_le 3 i || was_late before n) (sym (s.acks n)) ∙ ap (λ b. nat_le 3 (acks_since first after n) || b) (sym (s.late n)));
  };
}

all_counts_same : (first : ℕ) (before after : List Done) (n : ℕ) (rows : List Row) → SameCount first before after → AllCounts first before n rows → AllCounts first after n rows
all_counts_same first before after n [] s a = tt
all_counts_same first before after n (r ∷ rows) s a = (counts_same first before after n r s a.0, all_counts_same first before after (n + 1) rows s a.1)

-- new rows
fresh_counts : (first : ℕ) (done : List Done) (n : ℕ) (r : Row) → r.ordinal ≡ 0 → r.state ≡ Unsent → times_sent done n ≡ 0 → Counts first done n r
fresh_counts first done n r o s t = record {
  ordinal = o ∙ sym (never_ordinal done n t);
  counts = record {
    acks = λ e. absurd (let x : false ≡ true = sym (ap is_flying s) ∙ e in cc);
    lost = λ e. absurd (let x : false ≡ true = sym (ap is_out s) ∙ e in cc);
  };
}

news_count : (first : ℕ) (done : List Done) (m : Message) (n count : ℕ) → ((k : ℕ) → n ≤ k → times_sent done k ≡ 0) → AllCounts first done n (rows_of m n count)
news_count first done m n zero u = tt
news_count first done m n (suc count) u = (fresh_counts first done n (Rattle.flow_send.specs.Sender.new_row m n) refl refl (u n (omega arith)), news_count first done m (n + 1) count (λ k le. u k (omega (arith, le))))

-- a row that is settled
settled_counts : (first : ℕ) (before after : List Done) (n : ℕ) (r x : Row) → x.ordinal ≡ r.ordinal → is_flying x.state ≡ false → is_out x.state ≡ false → ordinal_of after n ≡ ordinal_of before n → Counts first before n r → Counts first after n x
settled_counts first before after n r x o f u s c = record {
  ordinal = o ∙ (c.ordinal ∙ sym s);
  counts = record {
    acks = λ e. absurd (let x : false ≡ true = sym f ∙ e in cc);
    lost = λ e. absurd (let x : false ≡ true = sym u ∙ e in cc);
  };
}

-- abandon
give_if : (first : ℕ) (done : List Done) (w : Waiting) (n : ℕ) (r : Row) (t u : Bool) → Counts first done n r → Counts first (Abandoned w ∷ done) n (cond t (cond u r (let_go Given_up r)) r)
give_if first done w n r true true c = counts_same first done (Abandoned w ∷ done) n r (record { ordinal = λ k. refl; acks = λ k. refl; late = λ k. refl }) c
give_if first done w n r true false c = settled_counts first done (Abandoned w ∷ done) n r (let_go Given_up r) refl refl refl refl c
give_if first done w n r false u c = counts_same first done (Abandoned w ∷ done) n r (record { ordinal = λ k. refl; acks = λ k. refl; late = λ k. refl }) c

-- find_lost
flying_out : (t : State) → is_flying t ≡ true → is_out t ≡ true
flying_out Unsent e = absurd cc
flying_out Flying e = refl
flying_out Lost e = absurd cc
flying_out Acknowledged e = absurd cc
flying_out Given_up e = absurd cc

flying_kept : (t : State) → is_flying t ≡ true → is_lost t ≡ false
flying_kept Unsent e = absurd cc
flying_kept Flying e = refl
flying_kept Lost e = absurd cc
flying_kept Acknowledged e = absurd cc
flying_kept Given_up e = absurd cc

out_cases : (t : State) → is_out t ≡ true → (is_flying t ≡ true) ⊎ (is_lost t ≡ true)
out_cases Unsent e = absurd cc
out_cases Flying e = inl refl
out_cases Lost e = inr refl
out_cases Acknowledged e = absurd cc
out_cases Given_up e = absurd cc

late_middle : (a b c : Bool) → b ≡ true → true ≡ (a || (b || c))
late_middle true b c e = refl
late_middle false true c e = refl
late_middle false false c e = absurd cc

late_more : (l a b c : Bool) → l ≡ true → l ≡ (a || c) → l ≡ (a || (b || c))
late_more l true b c e h = e
late_more l false true c e h = e
late_more l false false c e h = h

late_not : (l a b c : Bool) → b ≡ false → l ≡ (a || c) → l ≡ (a || (b || c))
late_not l a true c e h = absurd cc
late_not l a false c e h = h

long_before : (r : Row) (o : Option (ℕ × ℕ)) (resend moment : ℕ) → o ≡ Some (r.moment, r.ordinal) → is_long_before o resend moment ≡ nat_le (r.moment + resend) moment
long_before r o resend moment e = ap (λ (x : Option (ℕ × ℕ)). is_long_before x resend moment) e

and_second : (a b : Bool) → (a && b) ≡ false → a ≡ true → b ≡ false
and_second true b e f = e
and_second false b e f = absurd cc

late_if : (first : ℕ) (done : List Done) (moment resend n : ℕ) (r : Row) (t : Bool) → is_late moment resend r ≡ t → SentAs done n r → Counts first done n r → Counts first (Looked moment resend ∷ done) n (cond t (record r { state = Lost }) r)
late_if first done moment resend n r true e s c =
    let p = and_true (is_flying r.state) (nat_le (r.moment + resend) moment) e in
    record {
      ordinal = c.ordinal;
      counts = record {
        acks = λ f. absurd cc;
        lost = λ f. late_middle (nat_le 3 (acks_since first done n)) (is_long_before (last_sending done n) resend moment) (was_late done n) (long_before r (last_sending done n) resend moment (s.last (flying_out r.state p.0)) ∙ p.1);
      };
    }
late_if first done moment resend n r false e s c = record {
  ordinal = c.ordinal;
  counts = record {
    acks = λ f. c.counts.acks f;
    lost = λ f. lost_if f (out_cases r.state f);
  };
}
  where
    lost_if : is_out r.state ≡ true → (is_flying r.state ≡ true) ⊎ (is_lost r.state ≡ true) → is_lost r.state ≡ (nat_le 3 (acks_since first done n) || (is_long_before (last_sending done n) resend moment || was_late done n))
    lost_if f (inl g) = late_not (is_lost r.state) (nat_le 3 (acks_since first done n)) (is_long_before (last_sending done n) resend moment) (was_late done n)
        (long_before r (last_sending done n) resend moment (s.last f) ∙ and_second (is_flying r.state) (nat_le (r.moment + resend) moment) e g) (c.counts.lost f)
    lost_if f (inr g) = late_more (is_lost r.state) (nat_le 3 (acks_since first done n)) (is_long_before (last_sending done n) resend moment) (was_late done n) g (c.counts.lost f)

-- next_chunk
put_if : (first : ℕ) (done : List Done) (n moment ordinal k : ℕ) (x r : Row) (t : Bool) → (k == n) ≡ t → ordinal ≡ sendings done + 1 → Counts first done k r → Counts first (Sent n moment ∷ done) k (cond t (sent_row moment ordinal x) r)
put_if first done n moment ordinal k x r true e o c =
    let q : (n == k) ≡ true = eq-eqb n k (sym (eqb-true k n e)) in
    record {
      ordinal = o ∙ sym (ap (λ b. cond b (sendings done + 1) (ordinal_of done k)) q);
      counts = record {
        acks = λ f. sym (ap (λ b. cond b 0 (acks_since first done k)) q);
        lost = λ f. sym (ap (λ b. nat_le 3 (cond b 0 (acks_since first done k)) || cond b false (was_late done k)) q);
      };
    }
put_if first done n moment ordinal k x r false e o c =
    let ne : n ≡ k → ⊥ = λ q. let b : true ≡ false = sym (eq-eqb k n (sym q)) ∙ e in absurd cc in
    let q : (n == k) ≡ false = ne_eqb n k ne in
    record {
      ordinal = c.ordinal ∙ sym (ap (λ b. cond b (sendings done + 1) (ordinal_of done k)) q);
      counts = record {
        acks = λ f. c.counts.acks f ∙ sym (ap (λ b. cond b 0 (acks_since first done k)) q);
        lost = λ f. c.counts.lost f ∙ sym (ap (λ b. nat_le 3 (cond b 0 (acks_since first done k)) || cond b false (was_late done k)) q);
      };
    }

-- ---- take_ack

-- the last ordinal that is newly told is above another one exactly where a number is newly told
-- that was sent later
pub record NewAt (first : ℕ) (done : List Done) (a : Told) (n o : ℕ) : Type 0 where
  pub number : ℕ
  pub from : n ≤ number
  pub told : tells a number ≡ true
  pub untold : is_told done number ≡ false
  pub after : o < ordinal_of done number

max_cases : (o x y : ℕ) → o < max x y → (o < x) ⊎ (o < y)
max_cases o x y lt = elim (cases_lt o x) [
  | inl l ↦ inl l
  | inr le ↦ inr (omega (arith, lt, le))
]

new_at : (first : ℕ) (done : List Done) (a : Told) (o n : ℕ) (rows : List Row) → AllStand done n rows → AllCounts first done n rows → o < last_ordinal a n rows → NewAt first done a n o
new_at first done a o n [] st c lt = absurd (omega (arith, lt))
new_at first done a o n (r ∷ rows) st c lt = elim (max_cases o (cond (tells a n) (new_ordinal r) 0) (last_ordinal a (n + 1) rows) lt) [
  | inl l ↦ here_if (tells a n) (is_acknowledged r.state) refl refl l
  | inr l ↦ let w = new_at first done a o (n + 1) rows st.1 c.1 l in record { number = w.number; from = let le = w.from in omega (arith, le); told = w.told; untold = w.untold; after = w.after }
]
  where
    here_if : (t u : Bool) → tells a n ≡ t → is_acknowledged r.state ≡ u → o < cond t (cond u 0 r.ordinal) 0 → NewAt first done a n o
    here_if true true e f l = absurd (omega (arith, l))
    here_if true false e f l = record { number = n; from = omega arith; told = e; untold = sym st.0.acknowledged ∙ f; after = let q = c.0.ordinal in omega (arith, l, q) }
    here_if false u e f l = absurd (omega (arith, l))

at_most : (first : ℕ) (done : List Done) (a : Told) (k n : ℕ) (rows : List Row) → AllStand done n rows → AllCounts first done n rows → n ≤ k → k < n + length rows → tells a k ≡ true → is_told done k ≡ false → ordinal_of done k ≤ last_ordinal a n rows
at_most first done a k n [] st c lo hi e f = absurd (omega (arith, lo, hi))
at_most first done a k n (r ∷ rows) st c lo hi e f = elim (cases_eq k n) [
  | inl q ↦
      let one = ap (λ b. cond b (new_ordinal r) 0) (subst (λ (i : ℕ). tells a i ≡ true) q e) in
      let two = ap (λ b. cond b 0 r.ordinal) (st.0.acknowledged ∙ subst (λ (i : ℕ). is_told done i ≡ false) q f) in
      let three = c.0.ordinal in
      let four = ap (ordinal_of done) q in
      omega (arith, one, two, three, four)
  | inr ne ↦ let h = at_most first done a k (n + 1) rows st.1 c.1 (omega (arith, lo, ne)) (omega (arith, hi)) e f in omega (arith, h)
]

iff : (a b : Bool) → (a ≡ true → b ≡ true) → (b ≡ true → a ≡ true) → a ≡ b
iff true b f g = sym (f refl)
iff false true f g = g refl
iff false false f g = refl

newly : (a b c : Bool) → a ≡ true → b ≡ false → c ≡ false → (a && (not b && not c)) ≡ true
newly true false false e f g = refl
newly true false true e f g = absurd cc
newly true true c e f g = absurd cc
newly false b c e f g = absurd cc

parts : (a b c : Bool) → (a && (not b && not c)) ≡ true → (a ≡ true) × (b ≡ false) × (c ≡ false)
parts true false false e = (refl, refl, refl)
parts true false true e = absurd cc
parts true true c e = absurd cc
parts false b c e = absurd cc

-- of a sender that goes
pub later_is : (first : ℕ) (w : Sending) (a : Told) (n o : ℕ) → Goes first w → AllCounts first w.done (w.sender.forward + 1) w.sender.rows → o ≡ ordinal_of w.done n
    → nat_lt o (last_ordinal a (w.sender.forward + 1) w.sender.rows) ≡ tells_later first w.done a w.done n
later_is first w a n o g c e = iff (nat_lt o (last_ordinal a (w.sender.forward + 1) w.sender.rows)) (tells_later first w.done a w.done n)
    (λ f. up (new_at first w.done a o (w.sender.forward + 1) w.sender.rows g.rows c (ltb-true o (last_ordinal a (w.sender.forward + 1) w.sender.rows) f)))
    (λ f. down (later first w.done a w.done n f))
  where
    sent : (k : ℕ) → 0 < ordinal_of w.done k → k < next_of w.sender
    sent k lt = elim (cases_lt 0 (times_sent w.done k)) [
      | inl some ↦ g.few k (omega (arith, some))
      | inr none ↦ absurd (let z = never_ordinal w.done k (omega (arith, none)) in omega (arith, lt, z))
    ]

    up : NewAt first w.done a (w.sender.forward + 1) o → tells_later first w.done a w.done n ≡ true
    up x =
        let lt = x.after in
        let le = x.from in
        let below = sent x.number (omega (arith, lt)) in
        let still = next_open first w.done (w.sender.forward + 1) w.sender.rows g.low g.steady.front (omega (arith, le, below)) g.rows in
        let p : is_passed first w.done x.number ≡ false = none_true (is_passed first w.done x.number) (λ f. let b : false ≡ true = sym still ∙ passed_down first w.done x.number (w.sender.forward + 1) f le in absurd cc) in
        found_later first w.done a w.done n x.number (newly (tells a x.number) (is_told w.done x.number) (is_passed first w.done x.number) x.told x.untold p) (omega (arith, lt, e))

    down : Later first w.done a w.done n → nat_lt o (last_ordinal a (w.sender.forward + 1) w.sender.rows) ≡ true
    down x =
        let lt = x.after in
        let p = parts (tells a x.number) (is_told w.done x.number) (is_passed first w.done x.number) x.new in
        let below = sent x.number (omega (arith, lt)) in
        let above : w.sender.forward < x.number = elim (cases_lt w.sender.forward x.number) [
          | inl l ↦ l
          | inr le ↦ absurd (let b : false ≡ true = sym p.2 ∙ passed_up first w.done x.number (λ k l. g.over k (omega (arith, l, le))) in cc)
        ] in
        let m = at_most first w.done a x.number (w.sender.forward + 1) w.sender.rows g.rows c (omega (arith, above)) (omega (arith, below)) p.0 p.1 in
        lt-ltb o (last_ordinal a (w.sender.forward + 1) w.sender.rows) (omega (arith, lt, e, m))

-- one row, by whether a number sent later is newly told
three_more : (c : ℕ) (t : Bool) → nat_le 3 c ≡ true → nat_le 3 (cond t (c + 1) c) ≡ true
three_more c true e = let le = leb-true 3 c e in three (c + 1) (omega (arith, le))
  where
    three : (i : ℕ) → 3 ≤ i → nat_le 3 i ≡ true
    three i le = grind (arith, nat_tests)
three_more c false e = e

lost_more : (l a b c : Bool) → l ≡ true → l ≡ (a || c) → (a ≡ true → b ≡ true) → l ≡ (b || c)
lost_more l a true c e h m = e
lost_more l true false c e h m = absurd (let x : false ≡ true = m refl in cc)
lost_more l false false c e h m = h

neither : (a b : Bool) → false ≡ (a || b) → (a ≡ false) × (b ≡ false)
neither true b e = absurd cc
neither false b e = (refl, sym e)

still_few : (acks c : ℕ) → acks ≡ c → nat_le 2 acks ≡ false → nat_le 3 (c + 1) ≡ false
still_few acks c e f = grind (arith, nat_tests, e, f)

now_three : (acks c : ℕ) → acks ≡ c → nat_le 2 acks ≡ true → nat_le 3 (c + 1) ≡ true
now_three acks c e f = grind (arith, nat_tests, e, f)

-- count_ack, of a row whose tests are known
count_if : (first : ℕ) (done : List Done) (a : Told) (n most : ℕ) (r : Row) (fly lt two : Bool) → is_flying r.state ≡ fly → nat_lt r.ordinal most ≡ lt → nat_le 2 r.acks ≡ two
    → (is_out r.state ≡ true → lt ≡ tells_later first done a done n) → Counts first done n r
    → Counts first (Heard a ∷ done) n (cond ((fly && lt) && two) (record r { state = Lost }) (cond (fly && lt) (record r { acks = r.acks + 1 }) r))
count_if first done a n most r true true true f g h l c =
    let t = l (flying_out r.state f) in
    record {
      ordinal = c.ordinal;
      counts = record {
        acks = λ e. absurd cc;
        lost = λ e. sym (or_left (nat_le 3 (cond (tells_later first done a done n) (acks_since first done n + 1) (acks_since first done n))) (was_late done n)
            (ap (λ b. nat_le 3 (cond b (acks_since first done n + 1) (acks_since first done n))) (sym t) ∙ now_three r.acks (acks_since first done n) (c.counts.acks f) h));
      };
    }
count_if first done a n most r true true false f g h l c =
    let t = l (flying_out r.state f) in
    let k = flying_kept r.state f in
    let p = neither (nat_le 3 (acks_since first done n)) (was_late done n) (sym k ∙ c.counts.lost (flying_out r.state f)) in
    record {
      ordinal = c.ordinal;
      counts = record {
        acks = λ e. ap (λ i. i + 1) (c.counts.acks f) ∙ ap (λ b. cond b (acks_since first done n + 1) (acks_since first done n)) t;
        lost = λ e. k ∙ sym (ap (λ b. nat_le 3 (cond b (acks_since first done n + 1) (acks_since first done n)) || was_late done n) (sym t)
            ∙ (ap (λ b. b || was_late done n) (still_few r.acks (acks_since first done n) (c.counts.acks f) h) ∙ p.1));
      };
    }
count_if first done a n most r true false two f g h l c =
    let t = l (flying_out r.state f) in
    record {
      ordinal = c.ordinal;
      counts = record {
        acks = λ e. c.counts.acks e ∙ ap (λ b. cond b (acks_since first done n + 1) (acks_since first done n)) t;
        lost = λ e. c.counts.lost e ∙ ap (λ b. nat_le 3 (cond b (acks_since first done n + 1) (acks_since first done n)) || was_late done n) t;
      };
    }
count_if first done a n most r false lt two f g h l c = record {
  ordinal = c.ordinal;
  counts = record {
    acks = λ e. absurd (let x : false ≡ true = sym f ∙ e in cc);
    lost = λ e. lost_if e (out_cases r.state e);
  };
}
  where
    lost_if : is_out r.state ≡ true → (is_flying r.state ≡ true) ⊎ (is_lost r.state ≡ true) → is_lost r.state ≡ (nat_le 3 (cond (tells_later first done a done n) (acks_since first done n + 1) (acks_since first done n)) || was_late done n)
    lost_if e (inl q) = absurd (let x : false ≡ true = sym f ∙ q in cc)
    lost_if e (inr q) = lost_more (is_lost r.state) (nat_le 3 (acks_since first done n)) (nat_le 3 (cond (tells_later first done a done n) (acks_since first done n + 1) (acks_since first done n))) (was_late done n) q (c.counts.lost e)
        (three_more (acks_since first done n) (tells_later first done a done n))

acked_flying : (t : State) → is_acknowledged t ≡ true → (is_flying t ≡ false) × (is_out t ≡ false)
acked_flying Unsent e = absurd cc
acked_flying Flying e = absurd cc
acked_flying Lost e = absurd cc
acked_flying Acknowledged e = (refl, refl)
acked_flying Given_up e = absurd cc

-- a row that an ack tells is acknowledged, and no ack counts against it
gone_if : (first : ℕ) (done : List Done) (a : Told) (n most : ℕ) (r x : Row) → x.ordinal ≡ r.ordinal → is_acknowledged x.state ≡ true → Counts first done n r → Counts first (Heard a ∷ done) n (count_ack most x)
gone_if first done a n most r x o e c =
    let s = acked_flying x.state e in
    let same : count_ack most x ≡ x = ap (λ b. cond ((b && nat_lt x.ordinal most) && nat_le 2 x.acks) (record x { state = Lost }) (cond (b && nat_lt x.ordinal most) (record x { acks = x.acks + 1 }) x)) s.0 in
    subst (Counts first (Heard a ∷ done) n) (sym same) (settled_counts first done (Heard a ∷ done) n r x o s.0 s.1 refl c)

hear_if : (first : ℕ) (done : List Done) (a : Told) (n most : ℕ) (r : Row) (t u : Bool) → tells a n ≡ t → is_acknowledged r.state ≡ u → (is_out r.state ≡ true → nat_lt r.ordinal most ≡ tells_later first done a done n) → Counts first done n r
    → Counts first (Heard a ∷ done) n (count_ack most (cond t (cond u r (let_go Acknowledged r)) r))
hear_if first done a n most r true true e f l c = gone_if first done a n most r r refl f c
hear_if first done a n most r true false e f l c = gone_if first done a n most r (let_go Acknowledged r) refl refl c
hear_if first done a n most r false u e f l c = count_if first done a n most r (is_flying r.state) (nat_lt r.ordinal most) (nat_le 2 r.acks) refl refl refl l c

map_twice : (f : Row → Row) (g : ℕ → Row → Row) (n : ℕ) (rows : List Row) → map_rows (λ k r. f (g k r)) n rows ≡ map f (map_rows g n rows)
map_twice f g n [] = refl
map_twice f g n (r ∷ rows) = ap (λ (xs : List Row). f (g n r) ∷ xs) (map_twice f g (n + 1) rows)

map_plain : (f : Row → Row) (n : ℕ) (rows : List Row) → map_rows (λ k r. f r) n rows ≡ map f rows
map_plain f n [] = refl
map_plain f n (r ∷ rows) = ap (λ (xs : List Row). f r ∷ xs) (map_plain f (n + 1) rows)

-- ---- from call to call

-- ordinals stand still where there were too many sendings
abbrev pub Numbers : ℕ → Sending → Type 0
Numbers first w = sendings w.done < 2 ^ 64 → AllCounts first w.done (w.sender.forward + 1) w.sender.rows

pub begun_numbers : (first : ℕ) → Numbers first (begun first)
begun_numbers first = λ lt. tt

plain : (first : ℕ) (before after : List Done) (n : ℕ) (rows : List Row) → SameCount first before after → AllCounts first before n rows → AllCounts first after n rows
plain first before after n rows s a = all_counts_same first before after n rows s a

queues_numbers : (first : ℕ) (w : Sending) (bytes : List ℕ) (options : MessageOptions) (o : Option QueueRefusal) → Goes first w → Numbers first w → Numbers first (queues w bytes options o)
queues_numbers first w bytes options (Some e) g q = q
queues_numbers first w bytes options None g q = λ lt.
    let s = w.sender in
    let m : Message = next_message s bytes in
    let done : List Done = Queued m options ∷ w.done in
    let at : s.forward + 1 + length s.rows ≡ m.number = omega arith in
    counts_append first done (s.forward + 1) s.rows (rows_of m m.number (fragment_count m))
    (plain first w.done done (s.forward + 1) s.rows (record { ordinal = λ n. refl; acks = λ n. refl; late = λ n. refl }) (q lt))
    (subst (λ (i : ℕ). AllCounts first done i (rows_of m m.number (fragment_count m))) (sym at) (news_count first done m m.number (fragment_count m) (λ k le. never first w k g le)))

finishes_numbers : (first : ℕ) (w : Sending) (o : Option ℕ) → Goes first w → Numbers first w → Numbers first (finishes w o)
finishes_numbers first w (Some n) g q = q
finishes_numbers first w None g q = λ lt.
    let s = w.sender in
    let done : List Done = Finished (next_of s) ∷ w.done in
    let at : s.forward + 1 + length s.rows ≡ next_of s = omega arith in
    counts_append first done (s.forward + 1) s.rows (end_row ∷ [])
    (plain first w.done done (s.forward + 1) s.rows (record { ordinal = λ n. refl; acks = λ n. refl; late = λ n. refl }) (q lt))
    (fresh_counts first done (s.forward + 1 + length s.rows) end_row refl refl (never first w (s.forward + 1 + length s.rows) g (omega (arith, at))), tt)

loses_numbers : (first : ℕ) (w : Sending) (moment resend : ℕ) → Goes first w → Numbers first w → Numbers first (calls w (Lose moment resend))
loses_numbers first w moment resend g q = λ lt.
    let s = w.sender in
    let done : List Done = Looked moment resend ∷ w.done in
    subst (AllCounts first done (s.forward + 1)) (map_plain (lost_if_late moment resend) (s.forward + 1) s.rows)
    (counts_map first w.done done (λ k r. lost_if_late moment resend r) (s.forward + 1) s.rows (λ k r st se c. late_if first w.done moment resend k r (is_late moment resend r) refl se c) g.rows g.sent (q lt))

up_small : (order sent : ℕ) → order ≡ min sent (2 ^ 64 - 1) → sent + 1 < 2 ^ 64 → min (order + 1) (2 ^ 64 - 1) ≡ sent + 1
up_small order sent e lt = omega (arith, e, lt)

sends_numbers : (first : ℕ) (w : Sending) (moment : ℕ) (o : Choice) → Goes first w → Numbers first w → Numbers first (sends w moment o)
sends_numbers first w moment Nothing g q = q
sends_numbers first w moment Notify g q = λ lt.
    plain first w.done (Noticed w.sender.forward moment ∷ w.done) (w.sender.forward + 1) w.sender.rows (record { ordinal = λ n. refl; acks = λ n. refl; late = λ n. refl })
    (q (let e : sendings w.done + 1 < 2 ^ 64 = lt in omega (arith, e)))
sends_numbers first w moment (Send n x) g q = λ lt.
    let s = w.sender in
    let more : sendings w.done + 1 < 2 ^ 64 = lt in
    let ordinal = count_up 64 s.order in
    let o : ordinal ≡ sendings w.done + 1 = up_small s.order (sendings w.done) g.last.order more in
    counts_map first w.done (Sent n moment ∷ w.done) (put_at n (sent_row moment ordinal x)) (s.forward + 1) s.rows
    (λ k r st se c. put_if first w.done n moment ordinal k x r (k == n) refl o c) g.rows g.sent (q (omega (arith, more)))

abandons_numbers : (first : ℕ) (w : Sending) (n : ℕ) (o : Option Waiting) → message_at n w.sender.waiting ≡ o → Goes first w → Numbers first w → Numbers first (abandons w n o)
abandons_numbers first w n None is g q = q
abandons_numbers first w n (Some x) is g q =
    let same : abandoned n w.sender ≡ abandoned_with (Some x) n w.sender = ap (λ (o : Option Waiting). abandoned_with o n w.sender) is in
    subst (λ (t : Sender). Numbers first (record { sender = t; done = Abandoned x ∷ w.done })) (sym same) given
  where
    given : Numbers first (record { sender = abandoned_with (Some x) n w.sender; done = Abandoned x ∷ w.done })
    given = λ lt.
        let s = w.sender in
        let rows = map_rows (give_up x) (s.forward + 1) s.rows in
        dropped first (Abandoned x ∷ w.done) s.forward (settled_front rows) rows
        (counts_map first w.done (Abandoned x ∷ w.done) (give_up x) (s.forward + 1) s.rows (λ k r st se c. give_if first w.done x k r (has_number x k) (is_acknowledged r.state) c) g.rows g.sent (q lt))

hears_numbers : (first : ℕ) (w : Sending) (a : Told) (o : Option ℕ) → Goes first w → Numbers first w → Numbers first (hears w a o)
hears_numbers first w a (Some n) g q = q
hears_numbers first w a None g q = λ lt.
    let s = w.sender in
    let done : List Done = Heard a ∷ w.done in
    let last = last_ordinal a (s.forward + 1) s.rows in
    let rows = map (count_ack last) (rows_acknowledged a s) in
    dropped first done s.forward (settled_front rows) rows
    (subst (AllCounts first done (s.forward + 1)) (map_twice (count_ack last) (acknowledge a) (s.forward + 1) s.rows)
    (counts_map first w.done done (λ k r. count_ack last (acknowledge a k r)) (s.forward + 1) s.rows
    (λ k r st se c. hear_if first w.done a k last r (tells a k) (is_acknowledged r.state) refl refl (λ e. later_is first w a k r.ordinal g (q lt) c.ordinal) c) g.rows g.sent (q lt)))

pub call_numbers : (first : ℕ) (w : Sending) (c : Call) → Goes first w → Numbers first w → Numbers first (calls w c)
call_numbers first w (Queue bytes options) g q = queues_numbers first w bytes options (queue_refusal w.sender (length bytes)) g q
call_numbers first w (Abandon n) g q = abandons_numbers first w n (message_at n w.sender.waiting) refl g q
call_numbers first w Finish g q = finishes_numbers first w w.sender.finish g q
call_numbers first w (Lose moment resend) g q = loses_numbers first w moment resend g q
call_numbers first w (Next moment resend) g q = sends_numbers first w moment (choice moment resend w.sender) g q
call_numbers first w (Hear a) g q = hears_numbers first w a (beyond w.sender a) g q
