-- What each call makes of the rows, against what was done.
use Rattle.std.proofs.Common.{◌≡◌, ℕ, zero, suc, ◌+◌, ◌<◌, ◌≤◌, nat_le, nat_lt, not, cond, map, Bool, true, false, ◌&&◌, ◌||◌, List, [], ◌∷◌, ◌++◌, length, drop, refl, ap, sym, ◌∙◌, subst, arith, inl, inr}
use Rattle.rtmfp_data_chunks.specs.Fragments.{Message}
use Rattle.flow_send.specs.declared.state.State.{State}
use Rattle.flow_send.specs.declared.state.State.TheVariants.{Unsent, Flying, Lost, Acknowledged, Abandoned as Given_up}
use Rattle.flow_send.specs.declared.waiting.Waiting.{Waiting}
use Rattle.flow_send.specs.Rows.{Row, end_row, is_unsent, is_flying, is_lost, is_acknowledged, is_abandoned, is_settled, let_go, map_rows, settled_front}
use Rattle.flow_send.specs.Sender.{has_number, rows_of, new_row, give_up, is_late, lost_if_late}
use Rattle.flow_send.specs.Choice.{Send, first_in, put_at, sent_row}
use Rattle.flow_send.specs.Acks.{Told, tells, acknowledge, is_third, count_ack}
use Rattle.flow_send.specs.Calls.{Done, Abandoned, Heard, is_told, is_given_up, is_over, Stands, AllStand}
use Rattle.flow_send.proofs.Steadies.{put_here, put_before, found_low}

-- a list of what was done that tells the same of each number
pub record Same (before after : List Done) : Type 0 where
  pub told : (n : ℕ) → is_told after n ≡ is_told before n
  pub given : (n : ℕ) → is_given_up after n ≡ is_given_up before n

stands_same : (before after : List Done) (n : ℕ) (r : Row) → Same before after → Stands before n r → Stands after n r
stands_same before after n r e s = record {
  acknowledged = s.acknowledged ∙ sym (e.told n);
  abandoned = s.abandoned ∙ (ap (λ x. x && not (is_told before n)) (sym (e.given n)) ∙ ap (λ x. is_given_up after n && not x) (sym (e.told n)));
}

pub all_same : (before after : List Done) (n : ℕ) (rows : List Row) → Same before after → AllStand before n rows → AllStand after n rows
all_same before after n [] e a = tt
all_same before after n (r ∷ rows) e a = (stands_same before after n r e a.0, all_same before after (n + 1) rows e a.1)

pub all_append : (done : List Done) (n : ℕ) (xs ys : List Row) → AllStand done n xs → AllStand done (n + length xs) ys → AllStand done n (xs ++ ys)
all_append done n [] ys h k = let e : n + 0 ≡ n = omega arith in subst (λ (i : ℕ). AllStand done i ys) e k
all_append done n (x ∷ xs) ys h k = (h.0, let e : n + length (x ∷ xs) ≡ n + 1 + length xs = omega arith in all_append done (n + 1) xs ys h.1 (subst (λ (i : ℕ). AllStand done i ys) e k))

-- rows that are changed one by one
pub all_map : (before after : List Done) (f : ℕ → Row → Row) (n : ℕ) (rows : List Row) → ((k : ℕ) (r : Row) → Stands before k r → Stands after k (f k r)) → AllStand before n rows → AllStand after n (map_rows f n rows)
all_map before after f n [] h a = tt
all_map before after f n (r ∷ rows) h a = (h n r a.0, all_map before after f (n + 1) rows h a.1)

pub all_plain : (done : List Done) (f : Row → Row) (n : ℕ) (rows : List Row) → ((k : ℕ) (r : Row) → Stands done k r → Stands done k (f r)) → AllStand done n rows → AllStand done n (map f rows)
all_plain done f n [] h a = tt
all_plain done f n (r ∷ rows) h a = (h n r a.0, all_plain done f (n + 1) rows h a.1)

-- a number that nothing was said of
pub record Unsaid (done : List Done) (n : ℕ) : Type 0 where
  pub told : is_told done n ≡ false
  pub given : is_given_up done n ≡ false

open_stands : (done : List Done) (n : ℕ) (r : Row) → is_acknowledged r.state ≡ false → is_abandoned r.state ≡ false → Unsaid done n → Stands done n r
open_stands done n r a b u = record { acknowledged = a ∙ sym u.told; abandoned = b ∙ sym (ap (λ x. x && not (is_told done n)) u.given) }

pub news_stand : (done : List Done) (m : Message) (n count : ℕ) → ((k : ℕ) → n ≤ k → Unsaid done k) → AllStand done n (rows_of m n count)
news_stand done m n zero u = tt
news_stand done m n (suc count) u = (open_stands done n (new_row m n) refl refl (u n (omega arith)), news_stand done m (n + 1) count (λ k le. u k (omega (arith, le))))

pub end_stands : (done : List Done) (n : ℕ) → Unsaid done n → Stands done n end_row
end_stands done n u = open_stands done n end_row refl refl u

-- a state that is neither acknowledged nor abandoned
abbrev pub IsOpen : State → Type 0
IsOpen t = (is_acknowledged t ≡ false) × (is_abandoned t ≡ false)

pub flying_open : (t : State) → is_flying t ≡ true → IsOpen t
flying_open Unsent e = absurd cc
flying_open Flying e = (refl, refl)
flying_open Lost e = absurd cc
flying_open Acknowledged e = absurd cc
flying_open Given_up e = absurd cc

pub lost_open : (t : State) → is_lost t ≡ true → IsOpen t
lost_open Unsent e = absurd cc
lost_open Flying e = absurd cc
lost_open Lost e = (refl, refl)
lost_open Acknowledged e = absurd cc
lost_open Given_up e = absurd cc

pub unsent_open : (t : State) → is_unsent t ≡ true → IsOpen t
unsent_open Unsent e = (refl, refl)
unsent_open Flying e = absurd cc
unsent_open Lost e = absurd cc
unsent_open Acknowledged e = absurd cc
unsent_open Given_up e = absurd cc

-- a row in an open state that comes into another one
changed : (done : List Done) (n : ℕ) (r x : Row) → IsOpen r.state → IsOpen x.state → Stands done n r → Stands done n x
changed done n r x o p s = record { acknowledged = p.0 ∙ (sym o.0 ∙ s.acknowledged); abandoned = p.1 ∙ (sym o.1 ∙ s.abandoned) }

and_true : (a b : Bool) → (a && b) ≡ true → (a ≡ true) × (b ≡ true)
and_true true b e = (refl, e)
and_true false b e = absurd cc

-- find_lost
late_if : (done : List Done) (moment resend n : ℕ) (r : Row) (t : Bool) → is_late moment resend r ≡ t → Stands done n r → Stands done n (cond t (record r { state = Lost }) r)
late_if done moment resend n r true e s = changed done n r (record r { state = Lost }) (flying_open r.state ((and_true (is_flying r.state) (nat_le (r.moment + resend) moment) e).0)) (refl, refl) s
late_if done moment resend n r false e s = s

pub late_stands : (done : List Done) (moment resend n : ℕ) (rows : List Row) → AllStand done n rows → AllStand done n (map (lost_if_late moment resend) rows)
late_stands done moment resend n rows a = all_plain done (lost_if_late moment resend) n rows (λ k r s. late_if done moment resend k r (is_late moment resend r) refl s) a

-- next_chunk
send_eq : (a n : ℕ) (b r : Row) → Send a b ≡ Send n r → (a ≡ n) × (b ≡ r)
send_eq a n b r e = (cc, cc)

pub put_stands : (done : List Done) (test : State → Bool) (at n moment ordinal : ℕ) (r : Row) (rows : List Row) → ((u : State) → test u ≡ true → IsOpen u) → AllStand done at rows → first_in test at rows ≡ Send n r
    → AllStand done at (map_rows (put_at n (sent_row moment ordinal r)) at rows)
put_stands done test at n moment ordinal r [] o a e = absurd cc
put_stands done test at n moment ordinal r (x ∷ rows) o a e = put_if done test at n moment ordinal r x rows (test x.state) refl o a (put_stands done test (at + 1) n moment ordinal r rows o a.1) (found_low test (at + 1) n r rows) e
  where
    put_if : (done : List Done) (test : State → Bool) (at n moment ordinal : ℕ) (r x : Row) (rows : List Row) (t : Bool) → test x.state ≡ t → ((u : State) → test u ≡ true → IsOpen u) → AllStand done at (x ∷ rows)
        → (first_in test (at + 1) rows ≡ Send n r → AllStand done (at + 1) (map_rows (put_at n (sent_row moment ordinal r)) (at + 1) rows))
        → (first_in test (at + 1) rows ≡ Send n r → (at + 1 ≤ n) × (n < at + 1 + length rows) × (test r.state ≡ true))
        → cond t (Send at x) (first_in test (at + 1) rows) ≡ Send n r → AllStand done at (map_rows (put_at n (sent_row moment ordinal r)) at (x ∷ rows))
    put_if done test at n moment ordinal r x rows true f o a ih low e =
        let p = send_eq at n x r e in
        let one : Stands done at (sent_row moment ordinal r) = changed done at x (sent_row moment ordinal r) (o x.state f) (refl, refl) a.0 in
        subst (λ (xs : List Row). AllStand done at xs) (sym (put_here n at (sent_row moment ordinal r) x rows p.0)) (one, a.1)
    put_if done test at n moment ordinal r x rows false f o a ih low e =
        let l = low e in
        subst (λ (xs : List Row). AllStand done at xs) (sym (put_before n at (sent_row moment ordinal r) x rows (omega (arith, l.0)))) (a.0, ih e)

-- abandon
give_if : (done : List Done) (x : Waiting) (n : ℕ) (r : Row) (t u : Bool) → has_number x n ≡ t → is_acknowledged r.state ≡ u → Stands done n r
    → Stands (Abandoned x ∷ done) n (cond t (cond u r (let_go Given_up r)) r)
give_if done x n r true true e f s = record {
  acknowledged = s.acknowledged;
  abandoned = s.abandoned ∙ (told_given (is_given_up done n) (is_told done n) (sym s.acknowledged ∙ f) ∙ ap (λ b. (b || is_given_up done n) && not (is_told done n)) (sym e));
}
  where
    told_given : (g t : Bool) → t ≡ true → (g && not t) ≡ ((true || g) && not t)
    told_given true t h = refl
    told_given false t h = sym (ap not h)
give_if done x n r true false e f s = record {
  acknowledged = sym f ∙ s.acknowledged;
  abandoned = sym (ap (λ b. (b || is_given_up done n) && not (is_told done n)) e ∙ ap not (sym s.acknowledged ∙ f));
}
give_if done x n r false u e f s = record { acknowledged = s.acknowledged; abandoned = s.abandoned ∙ ap (λ b. (b || is_given_up done n) && not (is_told done n)) (sym e) }

pub given_stands : (done : List Done) (x : Waiting) (n : ℕ) (rows : List Row) → AllStand done n rows → AllStand (Abandoned x ∷ done) n (map_rows (give_up x) n rows)
given_stands done x n rows a = all_map done (Abandoned x ∷ done) (give_up x) n rows (λ k r s. give_if done x k r (has_number x k) (is_acknowledged r.state) refl refl s) a

-- take_ack
ack_if : (done : List Done) (a : Told) (n : ℕ) (r : Row) (t u : Bool) → tells a n ≡ t → is_acknowledged r.state ≡ u → Stands done n r → Stands (Heard a ∷ done) n (cond t (cond u r (let_go Acknowledged r)) r)
ack_if done a n r true true e f s = record {
  acknowledged = f ∙ sym (ap (λ b. b || is_told done n) e);
  abandoned = s.abandoned ∙ (told_none (is_given_up done n) (is_told done n) (sym s.acknowledged ∙ f) ∙ ap (λ b. is_given_up done n && not (b || is_told done n)) (sym e));
}
  where
    told_none : (g t : Bool) → t ≡ true → (g && not t) ≡ (g && not (true || t))
    told_none true t h = ap not h
    told_none false t h = refl
ack_if done a n r true false e f s = record {
  acknowledged = sym (ap (λ b. b || is_told done n) e);
  abandoned = sym (ap (λ b. is_given_up done n && not (b || is_told done n)) e ∙ and_false (is_given_up done n));
}
  where
    and_false : (g : Bool) → (g && false) ≡ false
    and_false true = refl
    and_false false = refl
ack_if done a n r false u e f s = record {
  acknowledged = s.acknowledged ∙ ap (λ b. b || is_told done n) (sym e);
  abandoned = s.abandoned ∙ ap (λ b. is_given_up done n && not (b || is_told done n)) (sym e);
}

count_if : (done : List Done) (n ordinal : ℕ) (r : Row) (t u : Bool) → is_third ordinal r ≡ t → Stands done n r → Stands done n (cond t (record r { state = Lost }) (cond u (record r { acks = r.acks + 1 }) r))
count_if done n ordinal r true u e s = changed done n r (record r { state = Lost }) (flying_open r.state ((and_true (is_flying r.state) (nat_lt r.ordinal ordinal) ((and_true (is_flying r.state && nat_lt r.ordinal ordinal) (nat_le 2 r.acks) e).0)).0)) (refl, refl) s
count_if done n ordinal r false true e s = record { acknowledged = s.acknowledged; abandoned = s.abandoned }
count_if done n ordinal r false false e s = s

pub told_stands : (done : List Done) (a : Told) (ordinal n : ℕ) (rows : List Row) → AllStand done n rows → AllStand (Heard a ∷ done) n (map (count_ack ordinal) (map_rows (acknowledge a) n rows))
told_stands done a ordinal n rows h =
    all_plain (Heard a ∷ done) (count_ack ordinal) n (map_rows (acknowledge a) n rows) (λ k r s. count_if (Heard a ∷ done) k ordinal r (is_third ordinal r) (is_flying r.state && nat_lt r.ordinal ordinal) refl s)
    (all_map done (Heard a ∷ done) (acknowledge a) n rows (λ k r s. ack_if done a k r (tells a k) (is_acknowledged r.state) refl refl s) h)

-- the front is over
over_row : (first : ℕ) (done : List Done) (n : ℕ) (r : Row) → is_settled r.state ≡ true → Stands done n r → is_over first done n ≡ true
over_row first done n r e s = over_if (nat_lt n first) (is_told done n) (is_given_up done n) (is_acknowledged r.state) (is_abandoned r.state) e s.acknowledged s.abandoned
  where
    over_if : (l t g a b : Bool) → (a || b) ≡ true → a ≡ t → b ≡ (g && not t) → (l || t || g) ≡ true
    over_if true t g a b e f h = refl
    over_if false true g a b e f h = refl
    over_if false false true a b e f h = refl
    over_if false false false true b e f h = absurd cc
    over_if false false false false b e f h = absurd (let x : true ≡ false = sym e ∙ h in cc)

open_row : (first : ℕ) (done : List Done) (n : ℕ) (r : Row) → first ≤ n → is_settled r.state ≡ false → Stands done n r → is_over first done n ≡ false
open_row first done n r le e s = ap (λ x. x || is_told done n || is_given_up done n) (Rattle.std.proofs.lemmas.Bool.le-ltb n first le) ∙ open_if (is_told done n) (is_given_up done n) (is_acknowledged r.state) (is_abandoned r.state) e s.acknowledged s.abandoned
  where
    open_if : (t g a b : Bool) → (a || b) ≡ false → a ≡ t → b ≡ (g && not t) → (false || t || g) ≡ false
    open_if true g a b e f h = absurd (let x : (true || b) ≡ false = ap (λ y. y || b) (sym f) ∙ e in cc)
    open_if false true true b e f h = absurd cc
    open_if false true false b e f h = absurd (let x : true ≡ false = sym h ∙ e in cc)
    open_if false false a b e f h = refl

-- the forward number passes what is settled at the front
pub record Passed (first : ℕ) (done : List Done) (f d : ℕ) (rows : List Row) : Type 0 where
  pub over : (n : ℕ) → n ≤ f + d → is_over first done n ≡ true
  pub left : AllStand done (f + d + 1) (drop d rows)

passed_if : (first : ℕ) (done : List Done) (f : ℕ) (r : Row) (rows : List Row) (t : Bool) → is_settled r.state ≡ t → ((n : ℕ) → n ≤ f → is_over first done n ≡ true) → Stands done (f + 1) r → AllStand done (f + 1 + 1) rows
    → (((n : ℕ) → n ≤ f + 1 → is_over first done n ≡ true) → Passed first done (f + 1) (settled_front rows) rows)
    → Passed first done f (cond t (settled_front rows + 1) 0) (r ∷ rows)
passed_if first done f r rows true e low s all ih =
    let one : (n : ℕ) → n ≤ f + 1 → is_over first done n ≡ true = λ n le. elim (Rattle.std.proofs.lemmas.Bool.cases_eq n (f + 1)) [
      | inl x ↦ subst (λ (i : ℕ). is_over first done i ≡ true) (sym x) (over_row first done (f + 1) r e s)
      | inr ne ↦ low n (omega (arith, ne))
    ] in
    let p = ih one in
    let k : f + 1 + settled_front rows ≡ f + (settled_front rows + 1) = omega arith in
    let d : suc (settled_front rows) ≡ settled_front rows + 1 = omega arith in
    let a : AllStand done (f + (settled_front rows + 1) + 1) (drop (settled_front rows) rows) = subst (λ (i : ℕ). AllStand done (i + 1) (drop (settled_front rows) rows)) k p.left in
    record { over = λ n le. p.over n (omega (arith, le)); left = dropped d a }
  where
    dropped : suc (settled_front rows) ≡ settled_front rows + 1 → AllStand done (f + (settled_front rows + 1) + 1) (drop (settled_front rows) rows) → AllStand done (f + (settled_front rows + 1) + 1) (drop (settled_front rows + 1) (r ∷ rows))
    dropped d a = subst (λ (i : ℕ). AllStand done (f + (settled_front rows + 1) + 1) (drop i (r ∷ rows))) d a
passed_if first done f r rows false e low s all ih =
    let k : f + 0 ≡ f = omega arith in
    record { over = λ n le. low n (omega (arith, le)); left = subst (λ (i : ℕ). AllStand done (i + 1) (r ∷ rows)) (sym k) (s, all) }

pub passed : (first : ℕ) (done : List Done) (f : ℕ) (rows : List Row) → ((n : ℕ) → n ≤ f → is_over first done n ≡ true) → AllStand done (f + 1) rows → Passed first done f (settled_front rows) rows
passed first done f [] low h = let k : f + 0 ≡ f = omega arith in record { over = λ n le. low n (omega (arith, le)); left = tt }
passed first done f (r ∷ rows) low h = passed_if first done f r rows (is_settled r.state) refl low h.0 h.1 (λ one. passed first done (f + 1) rows one h.1)

-- what was over is over still
pub over_more : (first : ℕ) (before after : List Done) (n : ℕ) → (is_told before n ≡ true → is_told after n ≡ true) → (is_given_up before n ≡ true → is_given_up after n ≡ true) → is_over first before n ≡ true → is_over first after n ≡ true
over_more first before after n t g e = more (nat_lt n first) (is_told before n) (is_told after n) (is_given_up before n) (is_given_up after n) t g e
  where
    more : (l a b c d : Bool) → (a ≡ true → b ≡ true) → (c ≡ true → d ≡ true) → (l || a || c) ≡ true → (l || b || d) ≡ true
    more true a b c d t g e = refl
    more false true b c d t g e = ap (λ x. x || d) (t refl)
    more false false b true d t g e = ap (λ x. b || x) (g refl) ∙ or_true b
      where
        or_true : (b : Bool) → (b || true) ≡ true
        or_true true = refl
        or_true false = refl
    more false false b false d t g e = absurd cc

-- the number after the forward number isn't over
pub next_open : (first : ℕ) (done : List Done) (n : ℕ) (rows : List Row) → first ≤ n → Rattle.flow_send.specs.Rows.front_settled rows ≡ false → n < n + length rows → AllStand done n rows → is_over first done n ≡ false
next_open first done n [] le e lt a = absurd (omega (arith, lt))
next_open first done n (r ∷ rows) le e lt a = open_row first done n r le e a.0
