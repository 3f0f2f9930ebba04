-- Which messages wait, against what was done.
use Rattle.std.proofs.Common.{◌≡◌, ◌⊎◌, ℕ, zero, suc, ◌+◌, ◌-◌, ◌<◌, ◌≤◌, ◌==◌, nat_le, nat_lt, not, cond, map, Bool, true, false, ◌&&◌, ◌||◌, List, [], ◌∷◌, ◌++◌, length, Option, Some, None, refl, ap, sym, ◌∙◌, subst, arith, inl, inr, length-append, eq-eqb}
use Rattle.std.specs.List.{filter}
use Rattle.std.proofs.lemmas.Bool.{cases_lt, cases_eq, eqb-true, ne_eqb, leb-true, ltb-true, le-ltb}
use Rattle.std.proofs.lemmas.Bool.Decides.{nat_tests}
use Rattle.rtmfp_data_chunks.specs.Fragments.{Message, fragment_count}
use Rattle.rtmfp_data_chunks.specs.HandsOver.{IsIn}
use Rattle.flow_send.specs.declared.waiting.MessageOptions.{MessageOptions}
use Rattle.flow_send.specs.declared.waiting.Waiting.{Waiting}
use Rattle.flow_send.specs.declared.outcome.QueueRefusal.{QueueRefusal}
use Rattle.flow_send.specs.Rows.{Row, end_row, is_abandoned, is_settled, map_rows}
use Rattle.flow_send.specs.Sender.{Sender, next_of, rows_of, queued, waiting_of, message_at, without_message, has_number, give_up, abandoned_with, abandoned, lost_if_late}
use Rattle.flow_send.specs.Choice.{Choice, Nothing, Send, Notify, choice, put_at, sent_row, count_up}
use Rattle.flow_send.specs.Acks.{Told, tells, beyond, last_ordinal, rows_told, still_waits}
use Rattle.flow_send.specs.Flow.{queue_refusal, next_message}
use Rattle.flow_send.specs.Steady.{Line, end_of}
use Rattle.flow_send.specs.Calls.{Call, Queue, Abandon, Finish, Lose, Next, Hear, Done, Queued, Abandoned, Heard, Sending, begun, queues, abandons, finishes, sends, hears, calls, is_told, is_given_up, is_over, Stands, AllStand}
use Rattle.flow_send.specs.Counted.{all_queued, was_abandoned, all_told, is_open, all_open}
use Rattle.flow_send.proofs.Numbered.{map_length}
use Rattle.flow_send.proofs.Keeping.{line_push, line_higher, line_order}
use Rattle.flow_send.proofs.Steadies.{next_with, rows_length, some_fragments, told_length}
use Rattle.flow_send.proofs.Standings.{told_stands}
use Rattle.flow_send.proofs.Calling.{Goes}

-- ---- lists

filter_same : (p q : Waiting → Bool) (ws : List Waiting) → ((w : Waiting) → IsIn w ws → p w ≡ q w) → filter p ws ≡ filter q ws
filter_same p q [] h = refl
filter_same p q (w ∷ ws) h = ap (λ b. cond b (w ∷ filter p ws) (filter p ws)) (h w (inl refl)) ∙ ap (λ (xs : List Waiting). cond (q w) (w ∷ xs) xs) (filter_same p q ws (λ x i. h x (inr i)))

filter_twice : (p q : Waiting → Bool) (ws : List Waiting) → filter q (filter p ws) ≡ filter (λ w. p w && q w) ws
filter_twice p q [] = refl
filter_twice p q (w ∷ ws) = twice_if (p w) (filter_twice p q ws)
  where
    twice_if : (t : Bool) → filter q (filter p ws) ≡ filter (λ x. p x && q x) ws → filter q (cond t (w ∷ filter p ws) (filter p ws)) ≡ cond (t && q w) (w ∷ filter (λ x. p x && q x) ws) (filter (λ x. p x && q x) ws)
    twice_if true h = ap (λ (xs : List Waiting). cond (q w) (w ∷ xs) xs) h
    twice_if false h = h

filter_push : (p : Waiting → Bool) (ws : List Waiting) (w : Waiting) → p w ≡ true → filter p (ws ++ w ∷ []) ≡ filter p ws ++ w ∷ []
filter_push p [] w e = ap (λ b. cond b (w ∷ []) []) e
filter_push p (x ∷ ws) w e = push_if (p x) (filter_push p ws w e)
  where
    push_if : (t : Bool) → filter p (ws ++ w ∷ []) ≡ filter p ws ++ w ∷ [] → cond t (x ∷ filter p (ws ++ w ∷ [])) (filter p (ws ++ w ∷ [])) ≡ cond t (x ∷ filter p ws) (filter p ws) ++ w ∷ []
    push_if true h = ap (λ (xs : List Waiting). x ∷ xs) h
    push_if false h = h

in_filter : (p : Waiting → Bool) (x : Waiting) (ws : List Waiting) → IsIn x (filter p ws) → IsIn x ws
in_filter p x [] i = i
in_filter p x (w ∷ ws) i = in_if (p w) (in_filter p x ws) i
  where
    in_if : (t : Bool) → (IsIn x (filter p ws) → IsIn x ws) → IsIn x (cond t (w ∷ filter p ws) (filter p ws)) → IsIn x (w ∷ ws)
    in_if true h (inl e) = inl e
    in_if true h (inr j) = inr (h j)
    in_if false h i = inr (h i)

in_push : (x w : Waiting) (ws : List Waiting) → IsIn x (ws ++ w ∷ []) → IsIn x ws ⊎ (x ≡ w)
in_push x w [] (inl e) = inr e
in_push x w [] (inr i) = absurd i
in_push x w (y ∷ ws) (inl e) = inl (inl e)
in_push x w (y ∷ ws) (inr i) = later (in_push x w ws i)
  where
    later : IsIn x ws ⊎ (x ≡ w) → IsIn x (y ∷ ws) ⊎ (x ≡ w)
    later (inl j) = inl (inr j)
    later (inr e) = inr e

some_eq : (x w : Waiting) → Some w ≡ Some x → x ≡ w
some_eq x w e = cc

found_in : (n : ℕ) (x : Waiting) (ws : List Waiting) → message_at n ws ≡ Some x → IsIn x ws
found_in n x [] e = absurd cc
found_in n x (w ∷ ws) e = found_if (w.number == n) (found_in n x ws) e
  where
    found_if : (t : Bool) → (message_at n ws ≡ Some x → IsIn x ws) → cond t (Some w) (message_at n ws) ≡ Some x → IsIn x (w ∷ ws)
    found_if true h e = inl (some_eq x w e)
    found_if false h e = inr (h e)

found_number : (n : ℕ) (x : Waiting) (ws : List Waiting) → message_at n ws ≡ Some x → x.number ≡ n
found_number n x [] e = absurd cc
found_number n x (w ∷ ws) e = found_if (w.number == n) refl (found_number n x ws) e
  where
    found_if : (t : Bool) → (w.number == n) ≡ t → (message_at n ws ≡ Some x → x.number ≡ n) → cond t (Some w) (message_at n ws) ≡ Some x → x.number ≡ n
    found_if true f h e = ap (λ (y : Waiting). y.number) (some_eq x w e) ∙ eqb-true w.number n f
    found_if false f h e = h e

-- ---- messages in a line

pub record Lies (lo hi : ℕ) (x : Waiting) : Type 0 where
  pub low : lo ≤ x.number
  pub some : 0 < x.count
  pub high : x.number + x.count ≤ hi

lies : (low high : ℕ) (x : Waiting) (ws : List Waiting) → Line low high ws → IsIn x ws → Lies low high x
lies low high x [] h i = absurd i
lies low high x (w ∷ ws) h (inl e) = let o = line_order (w.number + w.count) high ws h.2 in subst (Lies low high) (sym e) (record { low = h.0; some = h.1; high = o })
lies low high x (w ∷ ws) h (inr i) = let l = lies (w.number + w.count) high x ws h.2 i in record { low = let a = l.low in omega (arith, a, h.0); some = l.some; high = l.high }

and_true : (a b : Bool) → (a && b) ≡ true → (a ≡ true) × (b ≡ true)
and_true true b e = (refl, e)
and_true false b e = absurd cc

pub record Inside (x : Waiting) (n : ℕ) : Type 0 where
  pub from : x.number ≤ n
  pub to : n < x.number + x.count

inside : (x : Waiting) (n : ℕ) → has_number x n ≡ true → Inside x n
inside x n e = let p = and_true (nat_le x.number n) (nat_lt n (x.number + x.count)) e in record { from = leb-true x.number n p.0; to = ltb-true n (x.number + x.count) p.1 }

has_it : (x : Waiting) (n : ℕ) → x.number ≤ n → n < x.number + x.count → has_number x n ≡ true
has_it x n a b = test x.number (x.number + x.count) a b
  where
    test : (lo hi : ℕ) → lo ≤ n → n < hi → (nat_le lo n && nat_lt n hi) ≡ true
    test lo hi a b = grind (arith, nat_tests)

apart_low : (low high : ℕ) (w x : Waiting) (n : ℕ) → Inside w n → Lies (w.number + w.count) high x → Inside x n → ⊥
apart_low low high w x n i l j = omega (arith, i.to, l.low, j.from)

same_number : (low high : ℕ) (x y : Waiting) (n : ℕ) (ws : List Waiting) → Line low high ws → IsIn x ws → IsIn y ws → Inside x n → Inside y n → x.number ≡ y.number
same_number low high x y n [] h i j a b = absurd i
same_number low high x y n (w ∷ ws) h (inl e) (inl f) a b = ap (λ (z : Waiting). z.number) (e ∙ sym f)
same_number low high x y n (w ∷ ws) h (inl e) (inr j) a b = absurd (apart_low low high w y n (subst (λ (z : Waiting). Inside z n) e a) (lies (w.number + w.count) high y ws h.2 j) b)
same_number low high x y n (w ∷ ws) h (inr i) (inl f) a b = absurd (apart_low low high w x n (subst (λ (z : Waiting). Inside z n) f b) (lies (w.number + w.count) high x ws h.2 i) a)
same_number low high x y n (w ∷ ws) h (inr i) (inr j) a b = same_number (w.number + w.count) high x y n ws h.2 i j a b

-- without a message: the others
keep_all : (low high n : ℕ) (ws : List Waiting) → Line low high ws → n < low → filter (λ w. not (w.number == n)) ws ≡ ws
keep_all low high n [] h lt = refl
keep_all low high n (w ∷ ws) h lt =
    let ne : w.number ≡ n → ⊥ = λ e. omega (arith, e, lt, h.0) in
    ap (λ b. cond (not b) (w ∷ filter (λ x. not (x.number == n)) ws) (filter (λ x. not (x.number == n)) ws)) (ne_eqb w.number n ne)
    ∙ ap (λ (xs : List Waiting). w ∷ xs) (keep_all (w.number + w.count) high n ws h.2 (omega (arith, lt, h.0)))

others : (low high n : ℕ) (ws : List Waiting) → Line low high ws → without_message n ws ≡ filter (λ w. not (w.number == n)) ws
others low high n [] h = refl
others low high n (w ∷ ws) h = others_if (w.number == n) refl (others (w.number + w.count) high n ws h.2)
  where
    others_if : (t : Bool) → (w.number == n) ≡ t → without_message n ws ≡ filter (λ x. not (x.number == n)) ws
        → cond t ws (w ∷ without_message n ws) ≡ cond (not t) (w ∷ filter (λ x. not (x.number == n)) ws) (filter (λ x. not (x.number == n)) ws)
    others_if true e ih = let q = eqb-true w.number n e in sym (keep_all (w.number + w.count) high n ws h.2 (omega (arith, q, h.1)))
    others_if false e ih = ap (λ (xs : List Waiting). w ∷ xs) ih

-- ---- numbers of a message

told_first : (done : List Done) (n count : ℕ) → 0 < count → is_told done n ≡ false → all_told done n count ≡ false
told_first done n zero lt e = absurd (omega (arith, lt))
told_first done n (suc count) lt e = ap (λ b. b && all_told done (n + 1) count) e

told_same : (before after : List Done) (n count : ℕ) → ((k : ℕ) → is_told after k ≡ is_told before k) → all_told after n count ≡ all_told before n count
told_same before after n zero h = refl
told_same before after n (suc count) h = ap (λ b. b && all_told after (n + 1) count) (h n) ∙ ap (λ b. is_told before n && b) (told_same before after (n + 1) count h)

both : (a b : Bool) → a ≡ true → b ≡ true → (a && b) ≡ true
both true b e f = f
both false b e f = absurd cc

told_more : (before after : List Done) (n count : ℕ) → ((k : ℕ) → is_told before k ≡ true → is_told after k ≡ true) → all_told before n count ≡ true → all_told after n count ≡ true
told_more before after n zero h e = refl
told_more before after n (suc count) h e =
    let p = and_true (is_told before n) (all_told before (n + 1) count) e in
    both (is_told after n) (all_told after (n + 1) count) (h n p.0) (told_more before after (n + 1) count h p.1)

told_at : (done : List Done) (n count k : ℕ) → all_told done n count ≡ true → n ≤ k → k < n + count → is_told done k ≡ true
told_at done n zero k e a b = absurd (omega (arith, a, b))
told_at done n (suc count) k e a b =
    let p = and_true (is_told done n) (all_told done (n + 1) count) e in
    elim (cases_eq k n) [
      | inl q ↦ subst (λ (i : ℕ). is_told done i ≡ true) (sym q) p.0
      | inr ne ↦ told_at done (n + 1) count k p.1 (omega (arith, a, ne)) (omega (arith, b))
    ]

-- a number that isn't told
pub record Untold (done : List Done) (n count : ℕ) : Type 0 where
  pub number : ℕ
  pub from : n ≤ number
  pub to : number < n + count
  pub untold : is_told done number ≡ false

untold : (done : List Done) (n count : ℕ) → all_told done n count ≡ false → Untold done n count
untold done n zero e = absurd cc
untold done n (suc count) e = untold_if (is_told done n) refl (λ f. untold done (n + 1) count f) e
  where
    untold_if : (t : Bool) → is_told done n ≡ t → (all_told done (n + 1) count ≡ false → Untold done (n + 1) count) → (t && all_told done (n + 1) count) ≡ false → Untold done n (suc count)
    untold_if true f ih e = let u = ih e in record { number = u.number; from = let a = u.from in omega (arith, a); to = let b = u.to in omega (arith, b); untold = u.untold }
    untold_if false f ih e = record { number = n; from = omega arith; to = omega arith; untold = f }

-- ---- a message waits by its rows exactly where it is not wholly told

no_row : (a s rest : Bool) → (a ≡ true → s ≡ true) → rest ≡ false → ((a && not s) || rest) ≡ false
no_row true true rest h e = e
no_row true false rest h e = absurd (let x : false ≡ true = h refl in cc)
no_row false s rest h e = e

settled_by : (done : List Done) (n : ℕ) (r : Row) → Stands done n r → is_told done n ≡ true → is_settled r.state ≡ true
settled_by done n r s e = ap (λ b. b || is_abandoned r.state) (s.acknowledged ∙ e)

unsettled_by : (done : List Done) (n : ℕ) (r : Row) → Stands done n r → is_told done n ≡ false → is_given_up done n ≡ false → is_settled r.state ≡ false
unsettled_by done n r s e f = ap (λ b. b || is_abandoned r.state) (s.acknowledged ∙ e) ∙ (s.abandoned ∙ ap (λ b. b && not (is_told done n)) f)

none_waits : (done : List Done) (w : Waiting) (n : ℕ) (rows : List Row) → AllStand done n rows → ((k : ℕ) → has_number w k ≡ true → is_told done k ≡ true) → still_waits n rows w ≡ false
none_waits done w n [] a h = refl
none_waits done w n (r ∷ rows) a h = no_row (has_number w n) (is_settled r.state) (still_waits (n + 1) rows w) (λ e. settled_by done n r a.0 (h n e)) (none_waits done w (n + 1) rows a.1 h)

a_row : (a s rest : Bool) → a ≡ true → s ≡ false → ((a && not s) || rest) ≡ true
a_row true false rest e f = refl
a_row true true rest e f = absurd cc
a_row false s rest e f = absurd cc

or_true : (a b : Bool) → b ≡ true → (a || b) ≡ true
or_true true b e = refl
or_true false b e = e

one_waits : (done : List Done) (w : Waiting) (k n : ℕ) (rows : List Row) → AllStand done n rows → n ≤ k → k < n + length rows → has_number w k ≡ true → is_told done k ≡ false → is_given_up done k ≡ false → still_waits n rows w ≡ true
one_waits done w k n [] a lo hi e f g = absurd (omega (arith, lo, hi))
one_waits done w k n (r ∷ rows) a lo hi e f g = elim (cases_eq k n) [
  | inl q ↦ a_row (has_number w n) (is_settled r.state) (still_waits (n + 1) rows w) (subst (λ (i : ℕ). has_number w i ≡ true) q e)
      (unsettled_by done n r a.0 (subst (λ (i : ℕ). is_told done i ≡ false) q f) (subst (λ (i : ℕ). is_given_up done i ≡ false) q g))
  | inr ne ↦ or_true (has_number w n && not (is_settled r.state)) (still_waits (n + 1) rows w) (one_waits done w k (n + 1) rows a.1 (omega (arith, lo, ne)) (omega (arith, hi)) e f g)
]

open_number : (first : ℕ) (done : List Done) (k : ℕ) → first ≤ k → is_told done k ≡ false → is_given_up done k ≡ false → is_over first done k ≡ false
open_number first done k le e f = ap (λ b. (b || is_told done k) || is_given_up done k) (le-ltb k first le) ∙ (ap (λ b. b || is_given_up done k) e ∙ f)

waits_is : (first : ℕ) (done : List Done) (w : Waiting) (forward : ℕ) (rows : List Row) → AllStand done (forward + 1) rows → ((k : ℕ) → k ≤ forward → is_over first done k ≡ true)
    → Lies first (forward + 1 + length rows) w → ((k : ℕ) → has_number w k ≡ true → is_given_up done k ≡ false) → still_waits (forward + 1) rows w ≡ not (all_told done w.number w.count)
waits_is first done w forward rows a over l given = waits_if (all_told done w.number w.count) refl
  where
    waits_if : (t : Bool) → all_told done w.number w.count ≡ t → still_waits (forward + 1) rows w ≡ not t
    waits_if true e = none_waits done w (forward + 1) rows a (λ k h. let i = inside w k h in told_at done w.number w.count k e i.from i.to)
    waits_if false e =
        let u = untold done w.number w.count e in
        let h = has_it w u.number u.from u.to in
        let g = given u.number h in
        let n = open_number first done u.number (let a = l.low in let b = u.from in omega (arith, a, b)) u.untold g in
        let above : forward < u.number = elim (cases_lt forward u.number) [
          | inl lt ↦ lt
          | inr le ↦ absurd (let x : false ≡ true = sym n ∙ over u.number le in cc)
        ] in
        one_waits done w u.number (forward + 1) rows a (omega (arith, above)) (let b = u.to in let c = l.high in omega (arith, b, c)) h u.untold g

-- ---- what is kept true from call to call

pub record Queues (first : ℕ) (w : Sending) : Type 0 where
  pub line : Line first (next_of w.sender) (all_queued w.done)
  pub apart : (x : Waiting) → IsIn x (all_queued w.done) → (n : ℕ) → has_number x n ≡ true → is_given_up w.done n ≡ true → was_abandoned w.done x.number ≡ true
  pub gone : (n : ℕ) → was_abandoned w.done n ≡ true → n < next_of w.sender
  pub waits : w.sender.waiting ≡ all_open w.done

pub begun_queues : (first : ℕ) → 1 ≤ first → Queues first (begun first)
begun_queues first one = record {
  line = let e : first ≤ first - 1 + 1 + 0 = omega (arith, one) in e;
  apart = λ x i n h e. absurd i;
  gone = λ n e. absurd cc;
  waits = refl;
}

open_same : (before after : List Done) (w : Waiting) → ((n : ℕ) → was_abandoned after n ≡ was_abandoned before n) → ((n : ℕ) → is_told after n ≡ is_told before n) → is_open after w ≡ is_open before w
open_same before after w a t = ap (λ b. not b && not (all_told after w.number w.count)) (a w.number) ∙ ap (λ b. not (was_abandoned before w.number) && not b) (told_same before after w.number w.count t)

-- doings that tell the same of messages
pub record SameQueue (before after : List Done) : Type 0 where
  pub queued : all_queued after ≡ all_queued before
  pub abandoned : (n : ℕ) → was_abandoned after n ≡ was_abandoned before n
  pub told : (n : ℕ) → is_told after n ≡ is_told before n
  pub given : (n : ℕ) → is_given_up after n ≡ is_given_up before n

kept_queues : (first : ℕ) (w v : Sending) → SameQueue w.done v.done → v.sender.waiting ≡ w.sender.waiting → next_of w.sender ≤ next_of v.sender → Queues first w → Queues first v
kept_queues first w v s e le q = record {
  line = subst (Line first (next_of v.sender)) (sym s.queued) (line_higher first (next_of w.sender) (next_of v.sender) (all_queued w.done) le q.line);
  apart = λ x i n h g. s.abandoned x.number ∙ q.apart x (subst (IsIn x) s.queued i) n h (sym (s.given n) ∙ g);
  gone = λ n g. let lt = q.gone n (sym (s.abandoned n) ∙ g) in omega (arith, lt, le);
  waits = e ∙ (q.waits ∙ (filter_same (is_open w.done) (is_open v.done) (all_queued w.done) (λ x i. sym (open_same w.done v.done x s.abandoned s.told)) ∙ ap (filter (is_open v.done)) (sym s.queued)));
}

none_true : (b : Bool) → (b ≡ true → ⊥) → b ≡ false
none_true true h = absurd (h refl)
none_true false h = refl

new_open : (a t : Bool) → a ≡ false → t ≡ false → (not a && not t) ≡ true
new_open true t e f = absurd cc
new_open false true e f = absurd cc
new_open false false e f = refl

pub queues_queues : (first : ℕ) (w : Sending) (bytes : List ℕ) (options : MessageOptions) (o : Option QueueRefusal) → Goes first w → Queues first w → Queues first (queues w bytes options o)
queues_queues first w bytes options (Some e) g q = q
queues_queues first w bytes options None g q =
    let s = w.sender in
    let m : Message = next_message s bytes in
    let x = waiting_of m options in
    let done : List Done = Queued m options ∷ w.done in
    let len = length-append s.rows (rows_of m m.number (fragment_count m)) in
    let rl = rows_length m m.number (fragment_count m) in
    let some = some_fragments (length bytes) in
    let a : was_abandoned w.done m.number ≡ false = none_true (was_abandoned w.done m.number) (λ e. let lt = q.gone m.number e in omega (arith, lt)) in
    let t : is_told w.done m.number ≡ false = none_true (is_told w.done m.number) (λ e. let lt = g.told m.number e in omega (arith, lt)) in
    record {
      line = line_push first (next_of s) (next_of (queued m options s)) (all_queued w.done) x q.line (omega arith) some (omega (arith, len, rl));
      apart = λ y i n h e. apart y n h e (in_push y x (all_queued w.done) i);
      gone = λ n e. let lt = q.gone n e in omega (arith, lt, len);
      waits = ap (λ (ws : List Waiting). ws ++ x ∷ []) (q.waits ∙ filter_same (is_open w.done) (is_open done) (all_queued w.done) (λ y i. sym (open_same w.done done y (λ n. refl) (λ n. refl))))
          ∙ sym (filter_push (is_open done) (all_queued w.done) x (new_open (was_abandoned done m.number) (all_told done m.number x.count) a (told_first done m.number x.count some t)));
    }
  where
    apart : (y : Waiting) (n : ℕ) → has_number y n ≡ true → is_given_up w.done n ≡ true → IsIn y (all_queued w.done) ⊎ (y ≡ waiting_of (next_message w.sender bytes) options) → was_abandoned w.done y.number ≡ true
    apart y n h e (inl i) = q.apart y i n h e
    apart y n h e (inr f) = absurd (let i = inside y n h in let lt = g.given n e in let k = ap (λ (z : Waiting). z.number) f in omega (arith, i.from, lt, k))

pub finishes_queues : (first : ℕ) (w : Sending) (o : Option ℕ) → Queues first w → Queues first (finishes w o)
finishes_queues first w (Some n) q = q
finishes_queues first w None q =
    let len = length-append w.sender.rows (end_row ∷ []) in
    kept_queues first w (finishes w None) (record { queued = refl; abandoned = λ n. refl; told = λ n. refl; given = λ n. refl }) refl (omega (arith, len)) q

plain_length : (f : Row → Row) (rows : List Row) → length (map f rows) ≡ length rows
plain_length f [] = refl
plain_length f (r ∷ rows) = ap suc (plain_length f rows)

pub loses_queues : (first : ℕ) (w : Sending) (moment resend : ℕ) → Queues first w → Queues first (calls w (Lose moment resend))
loses_queues first w moment resend q =
    let len = plain_length (lost_if_late moment resend) w.sender.rows in
    kept_queues first w (calls w (Lose moment resend)) (record { queued = refl; abandoned = λ n. refl; told = λ n. refl; given = λ n. refl }) refl (omega (arith, len)) q

pub sends_queues : (first : ℕ) (w : Sending) (moment : ℕ) (o : Choice) → Queues first w → Queues first (sends w moment o)
sends_queues first w moment Nothing q = q
sends_queues first w moment Notify q = kept_queues first w (sends w moment Notify) (record { queued = refl; abandoned = λ n. refl; told = λ n. refl; given = λ n. refl }) refl (omega arith) q
sends_queues first w moment (Send n r) q =
    let len = map_length (put_at n (sent_row moment (count_up 64 w.sender.order) r)) (w.sender.forward + 1) w.sender.rows in
    kept_queues first w (sends w moment (Send n r)) (record { queued = refl; abandoned = λ n. refl; told = λ n. refl; given = λ n. refl }) refl (omega (arith, len)) q

eqb_swap : (a b c : ℕ) → a ≡ c → (b == c) ≡ (a == b)
eqb_swap a b c e = elim (cases_eq b c) [
  | inl f ↦ eq-eqb b c f ∙ sym (eq-eqb a b (e ∙ sym f))
  | inr ne ↦ ne_eqb b c ne ∙ sym (ne_eqb a b (λ f. ne (sym f ∙ e)))
]

without_if : (a t e f : Bool) → e ≡ f → ((not a && not t) && not e) ≡ (not (f || a) && not t)
without_if true true true f h = ap (λ b. not (b || true) && false) h
without_if true true false f h = ap (λ b. not (b || true) && false) h
without_if true false true f h = ap (λ b. not (b || true) && true) h
without_if true false false f h = ap (λ b. not (b || true) && true) h
without_if false true true f h = ap (λ b. not (b || false) && false) h
without_if false true false f h = ap (λ b. not (b || false) && false) h
without_if false false true f h = ap (λ b. not (b || false) && true) h
without_if false false false f h = ap (λ b. not (b || false) && true) h

or_cases : (a b : Bool) → (a || b) ≡ true → (a ≡ true) ⊎ (b ≡ true)
or_cases true b e = inl refl
or_cases false b e = inr e

or_left : (a b : Bool) → a ≡ true → (a || b) ≡ true
or_left true b e = refl
or_left false b e = absurd cc

pub abandons_queues : (first : ℕ) (w : Sending) (n : ℕ) (o : Option Waiting) → message_at n w.sender.waiting ≡ o → Goes first w → Queues first w → Queues first (abandons w n o)
abandons_queues first w n None is g q = q
abandons_queues first w n (Some x) is g q =
    let same : abandoned n w.sender ≡ abandoned_with (Some x) n w.sender = ap (λ (o : Option Waiting). abandoned_with o n w.sender) is in
    subst (λ (t : Sender). Queues first (record { sender = t; done = Abandoned x ∷ w.done })) (sym same) given_queues
  where
    there : IsIn x (all_queued w.done)
    there = in_filter (is_open w.done) x (all_queued w.done) (subst (IsIn x) q.waits (found_in n x w.sender.waiting is))

    number : x.number ≡ n
    number = found_number n x w.sender.waiting is

    after : List Done
    after = Abandoned x ∷ w.done

    apart : (y : Waiting) → IsIn y (all_queued w.done) → (k : ℕ) → has_number y k ≡ true → (has_number x k ≡ true) ⊎ (is_given_up w.done k ≡ true) → was_abandoned after y.number ≡ true
    apart y i k h (inl e) = or_left (x.number == y.number) (was_abandoned w.done y.number) (eq-eqb x.number y.number (same_number first (next_of w.sender) x y k (all_queued w.done) q.line there i (inside x k e) (inside y k h)))
    apart y i k h (inr e) = or_true (x.number == y.number) (was_abandoned w.done y.number) (q.apart y i k h e)

    gone : (k : ℕ) → (x.number == k) ≡ true ⊎ (was_abandoned w.done k ≡ true) → k < next_of w.sender
    gone k (inl e) = let l = lies first (next_of w.sender) x (all_queued w.done) q.line there in let f = eqb-true x.number k e in let a = l.high in let b = l.some in omega (arith, a, b, f)
    gone k (inr e) = q.gone k e

    left : without_message n w.sender.waiting ≡ all_open after
    left = others 0 (end_of w.sender) n w.sender.waiting g.steady.line
        ∙ (ap (filter (λ y. not (y.number == n))) q.waits
        ∙ (filter_twice (is_open w.done) (λ y. not (y.number == n)) (all_queued w.done)
        ∙ filter_same (λ y. is_open w.done y && not (y.number == n)) (is_open after) (all_queued w.done) (λ y i.
        without_if (was_abandoned w.done y.number) (all_told w.done y.number y.count) (y.number == n) (x.number == y.number) (eqb_swap x.number y.number n number)
        ∙ ap (λ b. not (was_abandoned after y.number) && not b) (sym (told_same w.done after y.number y.count (λ k. refl))))))

    given_queues : Queues first (record { sender = abandoned_with (Some x) n w.sender; done = after })
    given_queues =
        let s = w.sender in
        let rows = map_rows (give_up x) (s.forward + 1) s.rows in
        let len = map_length (give_up x) (s.forward + 1) s.rows in
        let next = next_with rows (without_message n s.waiting) s len in
        record {
          line = subst (λ (i : ℕ). Line first i (all_queued w.done)) (sym next) q.line;
          apart = λ y i k h e. apart y i k h (or_cases (has_number x k) (is_given_up w.done k) e);
          gone = λ k e. let lt = gone k (or_cases (x.number == k) (was_abandoned w.done k) e) in omega (arith, lt, next);
          waits = left;
        }

keep_if : (a t u sw : Bool) → (a ≡ false → sw ≡ not u) → (t ≡ true → u ≡ true) → ((not a && not t) && sw) ≡ (not a && not u)
keep_if true true u sw h m = refl
keep_if true false u sw h m = refl
keep_if false true u sw h m = sym (ap not (m refl))
keep_if false false u sw h m = h refl

pub hears_queues : (first : ℕ) (w : Sending) (a : Told) (o : Option ℕ) → Goes first w → Queues first w → Queues first (hears w a o)
hears_queues first w a (Some n) g q = q
hears_queues first w a None g q =
    let s = w.sender in
    let done : List Done = Heard a ∷ w.done in
    let rows = rows_told a s in
    let len = told_length a s in
    let next = next_with rows (filter (still_waits (s.forward + 1) rows) s.waiting) s len in
    let over : (k : ℕ) → k ≤ s.forward → is_over first done k ≡ true = λ k l. over_heard (nat_lt k first) (tells a k) (is_told w.done k) (is_given_up w.done k) (g.over k l) in
    let stand = told_stands w.done a (last_ordinal a (s.forward + 1) s.rows) (s.forward + 1) s.rows g.rows in
    record {
      line = subst (λ (i : ℕ). Line first i (all_queued w.done)) (sym next) q.line;
      apart = q.apart;
      gone = λ n e. let lt = q.gone n e in omega (arith, lt, next);
      waits = ap (filter (still_waits (s.forward + 1) rows)) q.waits
          ∙ (filter_twice (is_open w.done) (still_waits (s.forward + 1) rows) (all_queued w.done)
          ∙ filter_same (λ y. is_open w.done y && still_waits (s.forward + 1) rows y) (is_open done) (all_queued w.done) (λ y i.
          keep_if (was_abandoned w.done y.number) (all_told w.done y.number y.count) (all_told done y.number y.count) (still_waits (s.forward + 1) rows y)
          (λ e. waits_is first done y s.forward rows stand over
          (let l = lies first (next_of s) y (all_queued w.done) q.line i in record { low = l.low; some = l.some; high = let h = l.high in omega (arith, h, len) })
          (λ k h. none_true (is_given_up w.done k) (λ f. let x : false ≡ true = sym e ∙ q.apart y i k h f in cc)))
          (told_more w.done done y.number y.count (λ k f. or_true (tells a k) (is_told w.done k) f))));
    }
  where
    over_heard : (l t u v : Bool) → ((l || u) || v) ≡ true → ((l || (t || u)) || v) ≡ true
    over_heard true t u v e = refl
    over_heard false true u v e = refl
    over_heard false false u v e = e

pub call_queues : (first : ℕ) (w : Sending) (c : Call) → Goes first w → Queues first w → Queues first (calls w c)
call_queues first w (Queue bytes options) g q = queues_queues first w bytes options (queue_refusal w.sender (length bytes)) g q
call_queues first w (Abandon n) g q = abandons_queues first w n (message_at n w.sender.waiting) refl g q
call_queues first w Finish g q = finishes_queues first w w.sender.finish q
call_queues first w (Lose moment resend) g q = loses_queues first w moment resend q
call_queues first w (Next moment resend) g q = sends_queues first w moment (choice moment resend w.sender) q
call_queues first w (Hear a) g q = hears_queues first w a (beyond w.sender a) g q
