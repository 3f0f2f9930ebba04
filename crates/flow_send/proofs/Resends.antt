-- How often and when each number was sent, against what was done.
use Rattle.std.proofs.Common.{◌≡◌, ℕ, zero, suc, ◌+◌, ◌-◌, ◌^◌, ◌<◌, ◌≤◌, nat_le, nat_lt, min, cond, map, Bool, true, false, ◌&&◌, List, [], ◌∷◌, ◌++◌, length, drop, Option, Some, refl, ap, sym, ◌∙◌, subst, arith, eq-eqb}
use Rattle.std.proofs.lemmas.Bool.{ne_eqb}
use Rattle.rtmfp_data_chunks.specs.Fragments.{Message}
use Rattle.flow_send.specs.declared.state.State.{State}
use Rattle.flow_send.specs.declared.state.State.TheVariants.{Unsent, Flying, Lost, Acknowledged, Abandoned as Given_up}
use Rattle.flow_send.specs.declared.waiting.Waiting.{Waiting}
use Rattle.flow_send.specs.Rows.{Row, end_row, is_unsent, is_flying, is_lost, is_acknowledged, let_go, map_rows}
use Rattle.flow_send.specs.Sender.{has_number, rows_of, give_up, is_late, lost_if_late}
use Rattle.flow_send.specs.Choice.{Send, first_in, put_at, sent_row, count_up}
use Rattle.flow_send.specs.Acks.{Told, tells, acknowledge, is_third, count_ack}
use Rattle.flow_send.specs.Calls.{Done, Sent, times_sent, last_sending, sendings, is_out, SentAs, AllSent}
use Rattle.flow_send.proofs.Steadies.{put_here, put_before, found_low}

-- a list of what was done that tells the same sendings of each number
pub record SameSent (before after : List Done) : Type 0 where
  pub times : (n : ℕ) → times_sent after n ≡ times_sent before n
  pub last : (n : ℕ) → last_sending after n ≡ last_sending before n

sent_same : (before after : List Done) (n : ℕ) (r : Row) → SameSent before after → SentAs before n r → SentAs after n r
sent_same before after n r e s = record {
  unsent = λ u. e.times n ∙ s.unsent u;
  some = λ o. subst (λ (i : ℕ). 1 ≤ i) (sym (e.times n)) (s.some o);
  resends = s.resends ∙ ap (λ (i : ℕ). min (i - 1) (2 ^ 32 - 1)) (sym (e.times n));
  last = λ o. e.last n ∙ s.last o;
}

pub all_sent_same : (before after : List Done) (n : ℕ) (rows : List Row) → SameSent before after → AllSent before n rows → AllSent after n rows
all_sent_same before after n [] e a = tt
all_sent_same before after n (r ∷ rows) e a = (sent_same before after n r e a.0, all_sent_same before after (n + 1) rows e a.1)

pub sent_append : (done : List Done) (n : ℕ) (xs ys : List Row) → AllSent done n xs → AllSent done (n + length xs) ys → AllSent done n (xs ++ ys)
sent_append done n [] ys h k = let e : n + 0 ≡ n = omega arith in subst (λ (i : ℕ). AllSent done i ys) e k
sent_append done n (x ∷ xs) ys h k = (h.0, let e : n + length (x ∷ xs) ≡ n + 1 + length xs = omega arith in sent_append done (n + 1) xs ys h.1 (subst (λ (i : ℕ). AllSent done i ys) e k))

pub sent_drop : (done : List Done) (n d : ℕ) (rows : List Row) → AllSent done n rows → AllSent done (n + d) (drop d rows)
sent_drop done n zero rows a = let e : n ≡ n + 0 = omega arith in subst (λ (i : ℕ). AllSent done i rows) e a
sent_drop done n (suc d) [] a = tt
sent_drop done n (suc d) (r ∷ rows) a = let e : n + 1 + d ≡ n + suc d = omega arith in subst (λ (i : ℕ). AllSent done i (drop d rows)) e (sent_drop done (n + 1) d rows a.1)

-- a row that keeps its sendings, and comes out of no state in which it wasn't
pub record Keeps (r x : Row) : Type 0 where
  pub moment : x.moment ≡ r.moment
  pub ordinal : x.ordinal ≡ r.ordinal
  pub resends : x.resends ≡ r.resends
  pub unsent : is_unsent x.state ≡ true → is_unsent r.state ≡ true
  pub out : is_out x.state ≡ true → is_out r.state ≡ true

pair_same : (a b c d : ℕ) (o : Option (ℕ × ℕ)) → a ≡ b → c ≡ d → o ≡ Some (b, d) → o ≡ Some (a, c)
pair_same a b c d o e f g = g ∙ (ap (λ (i : ℕ). Some (i, d)) (sym e) ∙ ap (λ (i : ℕ). Some (a, i)) (sym f))

kept : (done : List Done) (n : ℕ) (r x : Row) → Keeps r x → SentAs done n r → SentAs done n x
kept done n r x k s = record {
  unsent = λ u. s.unsent (k.unsent u);
  some = λ o. s.some (k.out o);
  resends = k.resends ∙ s.resends;
  last = λ o. pair_same x.moment r.moment x.ordinal r.ordinal (last_sending done n) k.moment k.ordinal (s.last (k.out o));
}

pub sent_map : (done : List Done) (f : ℕ → Row → Row) (n : ℕ) (rows : List Row) → ((k : ℕ) (r : Row) → Keeps r (f k r)) → AllSent done n rows → AllSent done n (map_rows f n rows)
sent_map done f n [] h a = tt
sent_map done f n (r ∷ rows) h a = (kept done n r (f n r) (h n r) a.0, sent_map done f (n + 1) rows h a.1)

pub sent_plain : (done : List Done) (f : Row → Row) (n : ℕ) (rows : List Row) → ((r : Row) → Keeps r (f r)) → AllSent done n rows → AllSent done n (map f rows)
sent_plain done f n [] h a = tt
sent_plain done f n (r ∷ rows) h a = (kept done n r (f r) (h r) a.0, sent_plain done f (n + 1) rows h a.1)

-- new rows
pub news_sent : (done : List Done) (m : Message) (n count : ℕ) → ((k : ℕ) → n ≤ k → times_sent done k ≡ 0) → AllSent done n (rows_of m n count)
news_sent done m n zero u = tt
news_sent done m n (suc count) u = (
  record { unsent = λ e. u n (omega arith); some = λ o. absurd cc; resends = let e = u n (omega arith) in omega (arith, e); last = λ o. absurd cc },
  news_sent done m (n + 1) count (λ k le. u k (omega (arith, le))),
)

pub end_sent : (done : List Done) (n : ℕ) → times_sent done n ≡ 0 → SentAs done n end_row
end_sent done n e = record { unsent = λ x. e; some = λ o. absurd cc; resends = omega (arith, e); last = λ o. absurd cc }

-- the changes of rows that keep their sendings
same : (r : Row) → Keeps r r
same r = record { moment = refl; ordinal = refl; resends = refl; unsent = λ e. e; out = λ e. e }

gone : (r : Row) → Keeps r (let_go Given_up r)
gone r = record { moment = refl; ordinal = refl; resends = refl; unsent = λ e. absurd cc; out = λ e. absurd cc }

acked : (r : Row) → Keeps r (let_go Acknowledged r)
acked r = record { moment = refl; ordinal = refl; resends = refl; unsent = λ e. absurd cc; out = λ e. absurd cc }

flying_out : (t : State) → is_flying t ≡ true → is_out t ≡ true
flying_out Unsent e = absurd cc
flying_out Flying e = refl
flying_out Lost e = absurd cc
flying_out Acknowledged e = absurd cc
flying_out Given_up e = absurd cc

lost : (r : Row) → is_flying r.state ≡ true → Keeps r (record r { state = Lost })
lost r e = record { moment = refl; ordinal = refl; resends = refl; unsent = λ u. absurd cc; out = λ o. flying_out r.state e }

counted : (acks : ℕ) (r : Row) → Keeps r (record r { acks = acks })
counted acks r = record { moment = refl; ordinal = refl; resends = refl; unsent = λ u. u; out = λ o. o }

and_true : (a b : Bool) → (a && b) ≡ true → (a ≡ true) × (b ≡ true)
and_true true b e = (refl, e)
and_true false b e = absurd cc

late_if : (moment resend : ℕ) (r : Row) (t : Bool) → is_late moment resend r ≡ t → Keeps r (cond t (record r { state = Lost }) r)
late_if moment resend r true e = lost r ((and_true (is_flying r.state) (nat_le (r.moment + resend) moment) e).0)
late_if moment resend r false e = same r

pub late_keeps : (moment resend : ℕ) (r : Row) → Keeps r (lost_if_late moment resend r)
late_keeps moment resend r = late_if moment resend r (is_late moment resend r) refl

give_if : (r : Row) (t u : Bool) → Keeps r (cond t (cond u r (let_go Given_up r)) r)
give_if r true true = same r
give_if r true false = gone r
give_if r false u = same r

pub give_keeps : (x : Waiting) (k : ℕ) (r : Row) → Keeps r (give_up x k r)
give_keeps x k r = give_if r (has_number x k) (is_acknowledged r.state)

ack_if : (r : Row) (t u : Bool) → Keeps r (cond t (cond u r (let_go Acknowledged r)) r)
ack_if r true true = same r
ack_if r true false = acked r
ack_if r false u = same r

pub ack_keeps : (a : Told) (k : ℕ) (r : Row) → Keeps r (acknowledge a k r)
ack_keeps a k r = ack_if r (tells a k) (is_acknowledged r.state)

count_if : (ordinal : ℕ) (r : Row) (t u : Bool) → is_third ordinal r ≡ t → Keeps r (cond t (record r { state = Lost }) (cond u (record r { acks = r.acks + 1 }) r))
count_if ordinal r true u e = lost r ((and_true (is_flying r.state) (nat_lt r.ordinal ordinal) ((and_true (is_flying r.state && nat_lt r.ordinal ordinal) (nat_le 2 r.acks) e).0)).0)
count_if ordinal r false true e = counted (r.acks + 1) r
count_if ordinal r false false e = same r

pub count_keeps : (ordinal : ℕ) (r : Row) → Keeps r (count_ack ordinal r)
count_keeps ordinal r = count_if ordinal r (is_third ordinal r) (is_flying r.state && nat_lt r.ordinal ordinal) refl

-- a sending
other_times : (done : List Done) (n moment k : ℕ) → (n ≡ k → ⊥) → times_sent (Sent n moment ∷ done) k ≡ times_sent done k
other_times done n moment k ne = ap (λ b. cond b (times_sent done k + 1) (times_sent done k)) (ne_eqb n k ne)

other_last : (done : List Done) (n moment k : ℕ) → (n ≡ k → ⊥) → last_sending (Sent n moment ∷ done) k ≡ last_sending done k
other_last done n moment k ne = ap (λ b. cond b (Some (moment, min (sendings done + 1) (2 ^ 64 - 1))) (last_sending done k)) (ne_eqb n k ne)

other_sent : (done : List Done) (n moment k : ℕ) (r : Row) → (n ≡ k → ⊥) → SentAs done k r → SentAs (Sent n moment ∷ done) k r
other_sent done n moment k r ne s =
    let t = other_times done n moment k ne in
    record {
      unsent = λ u. t ∙ s.unsent u;
      some = λ o. subst (λ (i : ℕ). 1 ≤ i) (sym t) (s.some o);
      resends = s.resends ∙ ap (λ (i : ℕ). min (i - 1) (2 ^ 32 - 1)) (sym t);
      last = λ o. other_last done n moment k ne ∙ s.last o;
    }

others_sent : (done : List Done) (n moment at : ℕ) (rows : List Row) → n < at → AllSent done at rows → AllSent (Sent n moment ∷ done) at rows
others_sent done n moment at [] lt a = tt
others_sent done n moment at (r ∷ rows) lt a = (other_sent done n moment at r (λ e. omega (arith, e, lt)) a.0, others_sent done n moment (at + 1) rows (omega (arith, lt)) a.1)

-- of a number that is sent now
up_lost : (resends times most : ℕ) → resends ≡ min (times - 1) most → 1 ≤ times → min (resends + 1) most ≡ min (times + 1 - 1) most
up_lost resends times most e le = omega (arith, e, le)

up_first : (resends times most : ℕ) → resends ≡ min (times - 1) most → times ≡ 0 → resends ≡ min (times + 1 - 1) most
up_first resends times most e f = omega (arith, e, f)

resends_if : (done : List Done) (n : ℕ) (r : Row) (t : Bool) → is_lost r.state ≡ t → SentAs done n r → (is_lost r.state ≡ false → is_unsent r.state ≡ true)
    → cond t (count_up 32 r.resends) r.resends ≡ min (times_sent done n + 1 - 1) (2 ^ 32 - 1)
resends_if done n r true e s h = up_lost r.resends (times_sent done n) (2 ^ 32 - 1) s.resends (s.some (lost_out r.state e))
  where
    lost_out : (t : State) → is_lost t ≡ true → is_out t ≡ true
    lost_out Unsent e = absurd cc
    lost_out Flying e = absurd cc
    lost_out Lost e = refl
    lost_out Acknowledged e = absurd cc
    lost_out Given_up e = absurd cc
resends_if done n r false e s h = up_first r.resends (times_sent done n) (2 ^ 32 - 1) s.resends (s.unsent (h e))

sent_here : (done : List Done) (n moment ordinal : ℕ) (r : Row) → ordinal ≡ min (sendings done + 1) (2 ^ 64 - 1) → (is_lost r.state ≡ false → is_unsent r.state ≡ true) → SentAs done n r → SentAs (Sent n moment ∷ done) n (sent_row moment ordinal r)
sent_here done n moment ordinal r p h s =
    let one = eq-eqb n n refl in
    let t : times_sent (Sent n moment ∷ done) n ≡ times_sent done n + 1 = ap (λ b. cond b (times_sent done n + 1) (times_sent done n)) one in
    record {
      unsent = λ u. absurd cc;
      some = λ o. omega (arith, t);
      resends = resends_if done n r (is_lost r.state) refl s h ∙ ap (λ (i : ℕ). min (i - 1) (2 ^ 32 - 1)) (sym t);
      last = λ o. ap (λ b. cond b (Some (moment, min (sendings done + 1) (2 ^ 64 - 1))) (last_sending done n)) one ∙ ap (λ (i : ℕ). Some (moment, i)) (sym p);
    }

send_eq : (a n : ℕ) (b r : Row) → Send a b ≡ Send n r → (a ≡ n) × (b ≡ r)
send_eq a n b r e = (cc, cc)

pub put_sent : (done : List Done) (test : State → Bool) (at n moment ordinal : ℕ) (r : Row) (rows : List Row) → ((u : State) → test u ≡ true → is_lost u ≡ false → is_unsent u ≡ true) → ordinal ≡ min (sendings done + 1) (2 ^ 64 - 1) → AllSent done at rows
    → first_in test at rows ≡ Send n r → AllSent (Sent n moment ∷ done) at (map_rows (put_at n (sent_row moment ordinal r)) at rows)
put_sent done test at n moment ordinal r [] o p a e = absurd cc
put_sent done test at n moment ordinal r (x ∷ rows) o p a e = put_if done test at n moment ordinal r x rows (test x.state) refl o p a (put_sent done test (at + 1) n moment ordinal r rows o p a.1) (found_low test (at + 1) n r rows) e
  where
    put_if : (done : List Done) (test : State → Bool) (at n moment ordinal : ℕ) (r x : Row) (rows : List Row) (t : Bool) → test x.state ≡ t → ((u : State) → test u ≡ true → is_lost u ≡ false → is_unsent u ≡ true) → ordinal ≡ min (sendings done + 1) (2 ^ 64 - 1)
        → AllSent done at (x ∷ rows)
        → (first_in test (at + 1) rows ≡ Send n r → AllSent (Sent n moment ∷ done) (at + 1) (map_rows (put_at n (sent_row moment ordinal r)) (at + 1) rows))
        → (first_in test (at + 1) rows ≡ Send n r → (at + 1 ≤ n) × (n < at + 1 + length rows) × (test r.state ≡ true))
        → cond t (Send at x) (first_in test (at + 1) rows) ≡ Send n r → AllSent (Sent n moment ∷ done) at (map_rows (put_at n (sent_row moment ordinal r)) at (x ∷ rows))
    put_if done test at n moment ordinal r x rows true f o p a ih low e =
        let q = send_eq at n x r e in
        let one : SentAs (Sent at moment ∷ done) at (sent_row moment ordinal x) = sent_here done at moment ordinal x p (o x.state f) a.0 in
        let two : SentAs (Sent n moment ∷ done) at (sent_row moment ordinal x) = subst (λ (i : ℕ). SentAs (Sent i moment ∷ done) at (sent_row moment ordinal x)) q.0 one in
        let three : SentAs (Sent n moment ∷ done) at (sent_row moment ordinal r) = subst (λ (y : Row). SentAs (Sent n moment ∷ done) at (sent_row moment ordinal y)) q.1 two in
        subst (λ (xs : List Row). AllSent (Sent n moment ∷ done) at xs) (sym (put_here n at (sent_row moment ordinal r) x rows q.0)) (three, others_sent done n moment (at + 1) rows (omega (arith, q.0)) a.1)
    put_if done test at n moment ordinal r x rows false f o p a ih low e =
        let l = low e in
        subst (λ (xs : List Row). AllSent (Sent n moment ∷ done) at xs) (sym (put_before n at (sent_row moment ordinal r) x rows (omega (arith, l.0)))) (other_sent done n moment at x (λ q. omega (arith, q, l.0)) a.0, ih e)
