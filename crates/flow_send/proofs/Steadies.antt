-- Each call leaves a sender steady.
use Rattle.std.proofs.Common.{◌≡◌, ℕ, zero, suc, ◌+◌, ◌-◌, ◌*◌, ◌/◌, ◌^◌, ◌<◌, ◌≤◌, nat_le, nat_lt, max, cond, not, ◌==◌, Bool, true, false, ◌&&◌, ◌||◌, List, [], ◌∷◌, ◌++◌, length, drop, Option, Some, None, refl, ap, sym, ◌∙◌, subst, arith, inl, inr, ◌⊎◌, length-append, length-drop, eq-eqb}
use Rattle.std.specs.List.{filter, sum_by, list_any}
use Rattle.std.proofs.lemmas.Bool.{cases_eq, cases_lt, ne_eqb, le-leb, lt-ltb, leb-true, ltb-true}
use Rattle.std.proofs.lemmas.Bool.Decides.{nat_tests}
use Rattle.std.proofs.lemmas.List.{length-take}
use Rattle.std.proofs.lemmas.List.Sums.{sum_by_push}
use Rattle.rtmfp_data_chunks.specs.Fragments.{Message, fragment_count, fragments_of_length}
use Rattle.flow_send.specs.declared.state.State.{State}
use Rattle.flow_send.specs.declared.state.State.TheVariants.{Unsent, Flying, Lost, Acknowledged, Abandoned}
use Rattle.flow_send.specs.declared.waiting.MessageOptions.{MessageOptions}
use Rattle.flow_send.specs.declared.waiting.Waiting.{Waiting}
use Rattle.flow_send.specs.Rows.{Row, end_row, is_unsent, is_flying, is_lost, is_acknowledged, is_settled, let_go, map_rows, settled_front}
use Rattle.flow_send.specs.Sender.{Sender, new_sender, next_of, with_rows, bytes_held, fragments_held, new_row, rows_of, waiting_of, queued, has_number, message_at, without_message, give_up, give_up_row, abandoned_with, finished, is_late, lost_if_late, lost_late}
use Rattle.flow_send.specs.Choice.{Choice, Nothing, Send, Notify, first_in, or_else, is_quiet, next_choice, within_limit, choice_bytes, choice, count_up, sent_row, put_at, sent_after}
use Rattle.flow_send.specs.Acks.{Told, in_span, tells, greatest, acknowledge, acknowledge_row, is_third, count_ack, last_ordinal, rows_acknowledged, rows_told, still_waits, told_by}
use Rattle.flow_send.specs.Steady.{is_fresh, RowOk, AllOk, Line, AllWait, line_end, end_of, IsLast, AllShort, IsBounded, Steady}
use Rattle.flow_send.proofs.Fronts.{front_dropped, front_append, news_front, front_map, front_put}
use Rattle.flow_send.proofs.Numbered.{map_length, map_is}
use Rattle.flow_send.proofs.Keeping.{ok_map, ok_append, ok_drop, waits_map, waits_settle, all_wait_by, all_wait_filter, all_wait_append, all_wait_push, waits_later, line_push, line_filter, line_without, line_inside_at, sum_filter, sum_without, front_fits}

-- the next number doesn't change with what is settled
pub next_with : (rows : List Row) (waiting : List Waiting) (s : Sender) → length rows ≡ length s.rows → next_of (with_rows rows waiting s) ≡ next_of s
next_with rows waiting s e = omega (arith, front_fits rows, length-drop (settled_front rows) rows, e)

pub end_with : (rows : List Row) (waiting : List Waiting) (s : Sender) → length rows ≡ length s.rows → end_of (with_rows rows waiting s) ≡ end_of s
end_with rows waiting s e = ap (λ n. line_end s.finish n) (next_with rows waiting s e)

-- rows settled and messages taken away
settled_steady : (s : Sender) (rows : List Row) (waiting : List Waiting) → Steady s → length rows ≡ length s.rows → AllOk s.sent (s.forward + 1) rows → Line 0 (end_of s) waiting → AllWait (s.forward + 1) rows waiting
    → sum_by (λ w. w.size) waiting ≤ bytes_held s → sum_by (λ w. w.count) waiting ≤ fragments_held s → Steady (with_rows rows waiting s)
settled_steady s rows waiting k e ok line waits bytes fragments =
    let d = settled_front rows in
    let n : s.forward + 1 + d ≡ s.forward + d + 1 = omega arith in
    record {
      bytes = omega (arith, bytes, k.bytes);
      fragments = omega (arith, fragments, k.fragments);
      numbers = let f = end_with rows waiting s e in omega (arith, f, k.numbers);
      last = subst (λ (i : ℕ). IsLast s.finish i) (sym (next_with rows waiting s e)) k.last;
      below = omega (arith, next_with rows waiting s e, k.below);
      rows = subst (λ (i : ℕ). AllOk s.sent i (drop d rows)) n (ok_drop s.sent (s.forward + 1) d rows ok);
      front = front_dropped rows;
      line = subst (λ (i : ℕ). Line 0 i waiting) (sym (end_with rows waiting s e)) line;
      waits = subst (λ (i : ℕ). AllWait i (drop d rows) waiting) n (all_wait_by (s.forward + 1) (s.forward + 1 + d) rows (drop d rows) waiting (λ w. sym (waits_settle (s.forward + 1) rows w)) waits);
    }

-- new
pub steady_new : (first : ℕ) → 1 ≤ first → first < 2 ^ 64 → Steady (new_sender first)
steady_new first one fits = record {
  bytes = omega arith;
  fragments = omega arith;
  numbers = omega (arith, one, fits);
  last = tt;
  below = omega arith;
  rows = tt;
  front = refl;
  line = let e : 0 ≤ first - 1 + 1 + 0 = omega arith in e;
  waits = tt;
}

-- queue
fresh_ok : (sent n : ℕ) (m : Message) → sent < n → RowOk sent n (new_row m n)
fresh_ok sent n m lt = record { old = λ le. absurd (omega (arith, le, lt)); fresh = λ l. refl; empty = λ e. absurd cc; short = omega (arith, length-take 1000 (drop (1000 * (n - m.number)) m.bytes)) }

news_ok : (sent : ℕ) (m : Message) (n count : ℕ) → sent < n → AllOk sent n (rows_of m n count)
news_ok sent m n zero lt = tt
news_ok sent m n (suc count) lt = (fresh_ok sent n m lt, news_ok sent m (n + 1) count (omega (arith, lt)))

pub rows_length : (m : Message) (n count : ℕ) → length (rows_of m n count) ≡ count
rows_length m n zero = refl
rows_length m n (suc count) = ap suc (rows_length m (n + 1) count)

pub some_fragments : (n : ℕ) → 0 < fragments_of_length n
some_fragments n = elim (cases_eq n 0) [
  | inl e ↦ rw e (omega arith)
  | inr ne ↦
      let e : (n + 999) / 1000 ≡ fragments_of_length n = grind (arith, nat_tests) in
      subst (λ (c : ℕ). 0 < c) e (omega arith)
]

waits_new_if : (n count : ℕ) (m : Message) (w : Waiting) → w.number ≡ n → 0 < w.count → 0 < count → still_waits n (rows_of m n count) w ≡ true
waits_new_if n zero m w e c lt = absurd (omega arith)
waits_new_if n (suc count) m w e c lt = rw (le-leb w.number n (omega (arith, e)), lt-ltb n (w.number + w.count) (omega (arith, e, c))) refl

pub steady_queued : (s : Sender) (bytes : List ℕ) (options : MessageOptions) → Steady s → s.finish ≡ None
    → bytes_held s + length bytes ≤ 2097152 → fragments_held s + fragments_of_length (length bytes) ≤ 65536 → next_of s + fragments_of_length (length bytes) < 2 ^ 64
    → Steady (queued (record { number = next_of s; bytes = bytes }) options s)
steady_queued s bytes options k none few short room =
    let m : Message = record { number = next_of s; bytes = bytes } in
    let w = waiting_of m options in
    let count = fragment_count m in
    let more = rows_of m m.number count in
    let len = rows_length m m.number count in
    let at : s.forward + 1 + length s.rows ≡ next_of s = omega arith in
    let next : next_of (queued m options s) ≡ next_of s + count = omega (arith, length-append s.rows more, len) in
    let end : end_of (queued m options s) ≡ next_of s + count = ap (λ (o : Option ℕ). line_end o (next_of (queued m options s))) none ∙ next in
    let old : end_of s ≡ next_of s = ap (λ (o : Option ℕ). line_end o (next_of s)) none in
    let line : Line 0 (next_of s) s.waiting = subst (λ (i : ℕ). Line 0 i s.waiting) old k.line in
    record {
      bytes = omega (arith, sum_by_push (λ (x : Waiting). x.size) s.waiting w, few);
      fragments = omega (arith, sum_by_push (λ (x : Waiting). x.count) s.waiting w, short);
      numbers = omega (arith, end, room);
      last = subst (λ (o : Option ℕ). IsLast o (next_of (queued m options s))) (sym none) tt;
      below = omega (arith, next, k.below);
      rows = ok_append s.sent (s.forward + 1) s.rows more k.rows (news_ok s.sent m (next_of s) count k.below);
      front = front_append s.rows more k.front (news_front m m.number count);
      line = subst (λ (i : ℕ). Line 0 i (s.waiting ++ w ∷ [])) (sym end) (line_push 0 (next_of s) (next_of s + count) s.waiting w line refl (some_fragments (length bytes)) refl);
      waits = all_wait_push (s.forward + 1) (s.rows ++ more) s.waiting w (all_wait_append (s.forward + 1) s.rows more s.waiting k.waits)
          (waits_later (s.forward + 1) s.rows more w (waits_new_if (next_of s) count m w refl (some_fragments (length bytes)) (some_fragments (length bytes))));
    }

-- finish
pub steady_finished : (s : Sender) → Steady s → s.finish ≡ None → next_of s < 2 ^ 64 → Steady (finished s)
steady_finished s k none room =
    let one : Row = end_row in
    let old : end_of s ≡ next_of s = ap (λ (o : Option ℕ). line_end o (next_of s)) none in
    let next : next_of (finished s) ≡ next_of s + 1 = omega (arith, length-append s.rows (one ∷ [])) in
    record {
      bytes = k.bytes;
      fragments = k.fragments;
      numbers = room;
      last = next;
      below = omega (arith, next, k.below);
      rows = ok_append s.sent (s.forward + 1) s.rows (one ∷ []) k.rows (record { old = λ le. absurd (omega (arith, le, k.below)); fresh = λ l. refl; empty = λ e. absurd cc; short = omega arith }, tt);
      front = front_append s.rows (one ∷ []) k.front refl;
      line = subst (λ (i : ℕ). Line 0 i s.waiting) old k.line;
      waits = all_wait_append (s.forward + 1) s.rows (one ∷ []) s.waiting k.waits;
    }

-- rows that change without being settled or unsettled
kept_steady : (s : Sender) (g : ℕ → Row → Row) → Steady s → ((k : ℕ) (r : Row) → RowOk s.sent k r → RowOk s.sent k (g k r)) → ((k : ℕ) (r : Row) → is_settled (g k r).state ≡ is_settled r.state) → Steady (record s { rows = map_rows g (s.forward + 1) s.rows })
kept_steady s g k ok same =
    let len = map_length g (s.forward + 1) s.rows in
    let next : next_of (record s { rows = map_rows g (s.forward + 1) s.rows }) ≡ next_of s = omega (arith, len) in
    let end : line_end s.finish (s.forward + 1 + length (map_rows g (s.forward + 1) s.rows)) ≡ end_of s = ap (λ n. line_end s.finish n) next in
    record {
      bytes = k.bytes;
      fragments = k.fragments;
      numbers = omega (arith, end, k.numbers);
      last = subst (λ (i : ℕ). IsLast s.finish i) (sym next) k.last;
      below = omega (arith, next, k.below);
      rows = ok_map s.sent (s.forward + 1) g s.rows ok k.rows;
      front = front_map g (s.forward + 1) s.rows same k.front;
      line = subst (λ (i : ℕ). Line 0 i s.waiting) (sym end) k.line;
      waits = all_wait_by (s.forward + 1) (s.forward + 1) s.rows (map_rows g (s.forward + 1) s.rows) s.waiting (λ w. waits_map g (s.forward + 1) s.rows w (λ i r le e. same i r)) k.waits;
    }

-- find_lost
and_true : (a b : Bool) → (a && b) ≡ true → (a ≡ true) × (b ≡ true)
and_true true b e = (refl, e)
and_true false b e = absurd cc

flying_old : (t : State) → is_flying t ≡ true → (is_fresh t ≡ false) × (is_settled t ≡ false)
flying_old Unsent e = absurd cc
flying_old Flying e = (refl, refl)
flying_old Lost e = absurd cc
flying_old Acknowledged e = absurd cc
flying_old Abandoned e = absurd cc

lose_ok : (sent k : ℕ) (r : Row) → is_flying r.state ≡ true → RowOk sent k r → RowOk sent k (record r { state = Lost })
lose_ok sent k r f o = record {
  old = λ le. refl;
  fresh = λ lt. absurd (let a = o.fresh lt in let b = (flying_old r.state f).0 in let c : false ≡ true = sym b ∙ a in cc);
  empty = λ e. absurd cc;
  short = o.short;
}

late_ok : (moment resend sent k : ℕ) (r : Row) (t : Bool) → is_late moment resend r ≡ t → RowOk sent k r → RowOk sent k (cond t (record r { state = Lost }) r)
late_ok moment resend sent k r true e o = lose_ok sent k r ((and_true (is_flying r.state) (nat_le (r.moment + resend) moment) e).0) o
late_ok moment resend sent k r false e o = o

late_same : (moment resend : ℕ) (r : Row) (t : Bool) → is_late moment resend r ≡ t → is_settled (cond t (record r { state = Lost }) r).state ≡ is_settled r.state
late_same moment resend r true e = sym ((flying_old r.state ((and_true (is_flying r.state) (nat_le (r.moment + resend) moment) e).0)).1)
late_same moment resend r false e = refl

pub steady_lost : (s : Sender) (moment resend : ℕ) → Steady s → Steady (lost_late moment resend s)
steady_lost s moment resend k =
    let g : ℕ → Row → Row = λ i r. lost_if_late moment resend r in
    subst (λ (rows : List Row). Steady (record s { rows = rows })) (sym (map_is (lost_if_late moment resend) (s.forward + 1) s.rows))
    (kept_steady s g k (λ i r o. late_ok moment resend s.sent i r (is_late moment resend r) refl o) (λ i r. late_same moment resend r (is_late moment resend r) refl))

-- abandon
give_ok_if : (sent k : ℕ) (r : Row) (t : Bool) → is_acknowledged r.state ≡ t → RowOk sent k r → RowOk sent k (cond t r (let_go Abandoned r))
give_ok_if sent k r true e o = o
give_ok_if sent k r false e o = record { old = λ le. refl; fresh = λ lt. refl; empty = λ e. refl; short = omega arith }

give_up_ok : (x : Waiting) (sent k : ℕ) (r : Row) (t : Bool) → RowOk sent k r → RowOk sent k (cond t (give_up_row r) r)
give_up_ok x sent k r true o = give_ok_if sent k r (is_acknowledged r.state) refl o
give_up_ok x sent k r false o = o

-- a number is of one message in a line
apart_if : (x w : Waiting) (k : ℕ) → has_number w k ≡ true → (x.number + x.count ≤ w.number) ⊎ (w.number + w.count ≤ x.number) → has_number x k ≡ false
apart_if x w k e (inl le) =
    let p = and_true (nat_le w.number k) (nat_lt k (w.number + w.count)) e in
    rw (Rattle.std.proofs.lemmas.Bool.le-ltb k (x.number + x.count) (omega (arith, leb-true w.number k p.0, le))) (and_false (nat_le x.number k))
  where
    and_false : (b : Bool) → (b && false) ≡ false
    and_false true = refl
    and_false false = refl
apart_if x w k e (inr le) =
    let p = and_true (nat_le w.number k) (nat_lt k (w.number + w.count)) e in
    rw (Rattle.std.proofs.lemmas.Bool.lt-leb x.number k (omega (arith, ltb-true k (w.number + w.count) p.1, le))) refl

still_given : (x w : Waiting) (n : ℕ) (rows : List Row) → (x.number + x.count ≤ w.number) ⊎ (w.number + w.count ≤ x.number) → still_waits n (map_rows (give_up x) n rows) w ≡ still_waits n rows w
still_given x w n rows h = waits_map (give_up x) n rows w (λ k r le e. ap (λ b. is_settled (cond b (give_up_row r) r).state) (apart_if x w k e h))

-- those that stay lie beside the one that is abandoned
given_after : (x : Waiting) (n low high : ℕ) (rows : List Row) (ws : List Waiting) → x.number + x.count ≤ low → Line low high ws → AllWait n rows ws → AllWait n (map_rows (give_up x) n rows) ws
given_after x n low high rows [] le h a = tt
given_after x n low high rows (w ∷ ws) le h a =
    (still_given x w n rows (inl (omega (arith, le, h.0))) ∙ a.0, given_after x n (w.number + w.count) high rows ws (omega (arith, le, h.0)) h.2 a.1)

given_if : (x w : Waiting) (m n low high : ℕ) (rows : List Row) (ws : List Waiting) (t : Bool) → (w.number == m) ≡ t → Line low high (w ∷ ws) → AllWait n rows (w ∷ ws)
    → (message_at m ws ≡ Some x → AllWait n (map_rows (give_up x) n rows) (without_message m ws))
    → cond t (Some w) (message_at m ws) ≡ Some x → AllWait n (map_rows (give_up x) n rows) (cond t ws (w ∷ without_message m ws))
given_if x w m n low high rows ws true e h a ih f =
    let same : w ≡ x = cc in
    subst (λ (z : Waiting). AllWait n (map_rows (give_up z) n rows) ws) same (given_after w n (w.number + w.count) high rows ws (omega arith) h.2 a.1)
given_if x w m n low high rows ws false e h a ih f =
    let i = line_inside_at (w.number + w.count) high m x ws h.2 f in
    (still_given x w n rows (inr i.0) ∙ a.0, ih f)

given_waits : (x : Waiting) (m n low high : ℕ) (rows : List Row) (ws : List Waiting) → Line low high ws → AllWait n rows ws → message_at m ws ≡ Some x → AllWait n (map_rows (give_up x) n rows) (without_message m ws)
given_waits x m n low high rows [] h a e = absurd cc
given_waits x m n low high rows (w ∷ ws) h a e = given_if x w m n low high rows ws (w.number == m) refl h a (given_waits x m n (w.number + w.count) high rows ws h.2 a.1) e

pub steady_abandoned : (s : Sender) (n : ℕ) (o : Option Waiting) → message_at n s.waiting ≡ o → Steady s → Steady (abandoned_with o n s)
steady_abandoned s n None e k = k
steady_abandoned s n (Some x) e k =
    let at = s.forward + 1 in
    settled_steady s (map_rows (give_up x) at s.rows) (without_message n s.waiting) k (map_length (give_up x) at s.rows)
    (ok_map s.sent at (give_up x) s.rows (λ i r o. give_up_ok x s.sent i r (has_number x i) o) k.rows)
    (line_without 0 (end_of s) n s.waiting k.line)
    (given_waits x n at 0 (end_of s) s.rows s.waiting k.line k.waits e)
    (sum_without (λ (w : Waiting). w.size) n s.waiting) (sum_without (λ (w : Waiting). w.count) n s.waiting)

-- next_chunk
raise_ok : (sent more n : ℕ) (r : Row) → sent ≤ more → (sent < n → n ≤ more → is_unsent r.state ≡ false) → RowOk sent n r → RowOk more n r
raise_ok sent more n r le h o = record {
  old = λ l. elim (cases_lt sent n) [ inl lt ↦ h lt l | inr ge ↦ o.old ge ];
  fresh = λ lt. o.fresh (omega (arith, le, lt));
  empty = o.empty;
  short = o.short;
}

raise_all : (sent n at : ℕ) (rows : List Row) → n < at → AllOk sent at rows → AllOk (max sent n) at rows
raise_all sent n at [] lt a = tt
raise_all sent n at (x ∷ rows) lt a = (raise_ok sent (max sent n) at x (omega arith) (λ g l. absurd (omega (arith, g, l, lt))) a.0, raise_all sent n (at + 1) rows (omega (arith, lt)) a.1)

-- rows above the one that is sent stay
pub put_after : (n at : ℕ) (new : Row) (rows : List Row) → n < at → map_rows (put_at n new) at rows ≡ rows
put_after n at new [] lt = refl
put_after n at new (x ∷ rows) lt =
    ap (λ b. cond b new x ∷ map_rows (put_at n new) (at + 1) rows) (ne_eqb at n (λ e. omega (arith, e, lt))) ∙ ap (λ xs. x ∷ xs) (put_after n (at + 1) new rows (omega (arith, lt)))

pub put_here : (n at : ℕ) (new x : Row) (rows : List Row) → at ≡ n → map_rows (put_at n new) at (x ∷ rows) ≡ new ∷ rows
put_here n at new x rows e =
    ap (λ b. cond b new x ∷ map_rows (put_at n new) (at + 1) rows) (eq-eqb at n e) ∙ ap (λ xs. new ∷ xs) (put_after n (at + 1) new rows (omega (arith, e)))

pub put_before : (n at : ℕ) (new x : Row) (rows : List Row) → at < n → map_rows (put_at n new) at (x ∷ rows) ≡ x ∷ map_rows (put_at n new) (at + 1) rows
put_before n at new x rows lt = ap (λ b. cond b new x ∷ map_rows (put_at n new) (at + 1) rows) (ne_eqb at n (λ e. omega (arith, e, lt)))

send_eq : (a n : ℕ) (b r : Row) → Send a b ≡ Send n r → (a ≡ n) × (b ≡ r)
send_eq a n b r e = (cc, cc)

-- the row that is found, number by number
pub found_low : (test : State → Bool) (at n : ℕ) (r : Row) (rows : List Row) → first_in test at rows ≡ Send n r → (at ≤ n) × (n < at + length rows) × (test r.state ≡ true)
found_low test at n r [] e = absurd cc
found_low test at n r (x ∷ rows) e = low_if test at n r x rows (test x.state) refl (found_low test (at + 1) n r rows) e
  where
    low_if : (test : State → Bool) (at n : ℕ) (r x : Row) (rows : List Row) (t : Bool) → test x.state ≡ t → (first_in test (at + 1) rows ≡ Send n r → (at + 1 ≤ n) × (n < at + 1 + length rows) × (test r.state ≡ true))
        → cond t (Send at x) (first_in test (at + 1) rows) ≡ Send n r → (at ≤ n) × (n < at + length (x ∷ rows)) × (test r.state ≡ true)
    low_if test at n r x rows true f ih e =
        let p = send_eq at n x r e in
        (omega (arith, p.0), omega (arith, p.0), ap (λ (y : Row). test y.state) (sym p.1) ∙ f)
    low_if test at n r x rows false f ih e = let l = ih e in (omega (arith, l.0), omega (arith, l.1), l.2)

sent_here : (more n moment ordinal : ℕ) (r : Row) → n ≤ more → length r.fragment.bytes ≤ 1000 → RowOk more n (sent_row moment ordinal r)
sent_here more n moment ordinal r le few = record { old = λ l. refl; fresh = λ lt. absurd (omega (arith, le, lt)); empty = λ e. absurd cc; short = few }

sent_all : (test : State → Bool) (sent at n moment ordinal : ℕ) (r : Row) (rows : List Row) → ((y : Row) → test y.state ≡ false → (n ≤ sent) ⊎ (is_unsent y.state ≡ false)) → AllOk sent at rows → first_in test at rows ≡ Send n r
    → AllOk (max sent n) at (map_rows (put_at n (sent_row moment ordinal r)) at rows)
sent_all test sent at n moment ordinal r [] h a e = absurd cc
sent_all test sent at n moment ordinal r (x ∷ rows) h a e = all_if test sent at n moment ordinal r x rows (test x.state) refl h a (sent_all test sent (at + 1) n moment ordinal r rows h a.1) (found_low test (at + 1) n r rows) e
  where
    all_if : (test : State → Bool) (sent at n moment ordinal : ℕ) (r x : Row) (rows : List Row) (t : Bool) → test x.state ≡ t → ((y : Row) → test y.state ≡ false → (n ≤ sent) ⊎ (is_unsent y.state ≡ false)) → AllOk sent at (x ∷ rows)
        → (first_in test (at + 1) rows ≡ Send n r → AllOk (max sent n) (at + 1) (map_rows (put_at n (sent_row moment ordinal r)) (at + 1) rows))
        → (first_in test (at + 1) rows ≡ Send n r → (at + 1 ≤ n) × (n < at + 1 + length rows) × (test r.state ≡ true))
        → cond t (Send at x) (first_in test (at + 1) rows) ≡ Send n r → AllOk (max sent n) at (map_rows (put_at n (sent_row moment ordinal r)) at (x ∷ rows))
    all_if test sent at n moment ordinal r x rows true f h a ih low e =
        let p = send_eq at n x r e in
        let one : RowOk (max sent n) at (sent_row moment ordinal r) = sent_here (max sent n) at moment ordinal r (omega (arith, p.0)) (subst (λ (y : Row). length y.fragment.bytes ≤ 1000) p.1 a.0.short) in
        subst (λ (xs : List Row). AllOk (max sent n) at xs) (sym (put_here n at (sent_row moment ordinal r) x rows p.0)) (one, raise_all sent n (at + 1) rows (omega (arith, p.0)) a.1)
    all_if test sent at n moment ordinal r x rows false f h a ih low e =
        let l = low e in
        let one : RowOk (max sent n) at x = raise_ok sent (max sent n) at x (omega arith) (λ g k. elim (h x f) [ inl le ↦ absurd (omega (arith, le, g, k, l.0)) | inr u ↦ u ]) a.0 in
        subst (λ (xs : List Row). AllOk (max sent n) at xs) (sym (put_before n at (sent_row moment ordinal r) x rows (omega (arith, l.0)))) (one, ih e)

-- the row that is sent isn't settled before or after
waits_sent : (test : State → Bool) (at n : ℕ) (new r : Row) (rows : List Row) (w : Waiting) → is_settled new.state ≡ is_settled r.state → first_in test at rows ≡ Send n r → still_waits at (map_rows (put_at n new) at rows) w ≡ still_waits at rows w
waits_sent test at n new r [] w h e = absurd cc
waits_sent test at n new r (x ∷ rows) w h e = waits_if test at n new r x rows w (test x.state) h (waits_sent test (at + 1) n new r rows w h) (found_low test (at + 1) n r rows) e
  where
    waits_if : (test : State → Bool) (at n : ℕ) (new r x : Row) (rows : List Row) (w : Waiting) (t : Bool) → is_settled new.state ≡ is_settled r.state
        → (first_in test (at + 1) rows ≡ Send n r → still_waits (at + 1) (map_rows (put_at n new) (at + 1) rows) w ≡ still_waits (at + 1) rows w)
        → (first_in test (at + 1) rows ≡ Send n r → (at + 1 ≤ n) × (n < at + 1 + length rows) × (test r.state ≡ true))
        → cond t (Send at x) (first_in test (at + 1) rows) ≡ Send n r → still_waits at (map_rows (put_at n new) at (x ∷ rows)) w ≡ still_waits at (x ∷ rows) w
    waits_if test at n new r x rows w true h ih low e =
        let p = send_eq at n x r e in
        let same : is_settled new.state ≡ is_settled x.state = h ∙ ap (λ (y : Row). is_settled y.state) (sym p.1) in
        ap (λ (xs : List Row). still_waits at xs w) (put_here n at new x rows p.0) ∙ ap (λ b. (has_number w at && not b) || still_waits (at + 1) rows w) same
    waits_if test at n new r x rows w false h ih low e =
        let l = low e in
        ap (λ (xs : List Row). still_waits at xs w) (put_before n at new x rows (omega (arith, l.0))) ∙ ap (λ b. (has_number w at && not (is_settled x.state)) || b) (ih e)

lost_open : (t : State) → is_lost t ≡ true → (is_settled t ≡ false) × (is_fresh t ≡ false)
lost_open Unsent e = absurd cc
lost_open Flying e = absurd cc
lost_open Lost e = (refl, refl)
lost_open Acknowledged e = absurd cc
lost_open Abandoned e = absurd cc

unsent_open : (t : State) → is_unsent t ≡ true → is_settled t ≡ false
unsent_open Unsent e = refl
unsent_open Flying e = absurd cc
unsent_open Lost e = absurd cc
unsent_open Acknowledged e = absurd cc
unsent_open Abandoned e = absurd cc

-- a lost number was sent
lost_sent : (sent at n : ℕ) (r : Row) (rows : List Row) → AllOk sent at rows → first_in is_lost at rows ≡ Send n r → n ≤ sent
lost_sent sent at n r [] a e = absurd cc
lost_sent sent at n r (x ∷ rows) a e = lost_if sent at n r x rows (is_lost x.state) refl a.0 (lost_sent sent (at + 1) n r rows a.1) e
  where
    lost_if : (sent at n : ℕ) (r x : Row) (rows : List Row) (t : Bool) → is_lost x.state ≡ t → RowOk sent at x → (first_in is_lost (at + 1) rows ≡ Send n r → n ≤ sent) → cond t (Send at x) (first_in is_lost (at + 1) rows) ≡ Send n r → n ≤ sent
    lost_if sent at n r x rows true f o ih e =
        let p = send_eq at n x r e in
        elim (cases_lt sent at) [
          | inl lt ↦ absurd (let a = o.fresh lt in let b = (lost_open x.state f).1 in let c : false ≡ true = sym b ∙ a in cc)
          | inr le ↦ omega (arith, le, p.0)
        ]
    lost_if sent at n r x rows false f o ih e = ih e

sent_steady_by : (test : State → Bool) (s : Sender) (n moment : ℕ) (r : Row) → Steady s → ((y : Row) → test y.state ≡ false → (n ≤ s.sent) ⊎ (is_unsent y.state ≡ false)) → is_settled r.state ≡ false
    → first_in test (s.forward + 1) s.rows ≡ Send n r → Steady (sent_after moment (Send n r) s)
sent_steady_by test s n moment r k h o e =
    let at = s.forward + 1 in
    let new = sent_row moment (count_up 64 s.order) r in
    let rows = map_rows (put_at n new) at s.rows in
    let len = map_length (put_at n new) at s.rows in
    let low = found_low test at n r s.rows e in
    let next : next_of (sent_after moment (Send n r) s) ≡ next_of s = omega (arith, len) in
    let end : line_end s.finish (at + length rows) ≡ end_of s = ap (λ i. line_end s.finish i) next in
    record {
      bytes = k.bytes;
      fragments = k.fragments;
      numbers = omega (arith, end, k.numbers);
      last = subst (λ (i : ℕ). IsLast s.finish i) (sym next) k.last;
      below = omega (arith, next, k.below, low.1);
      rows = sent_all test s.sent at n moment (count_up 64 s.order) r s.rows h k.rows e;
      front = front_put n at new s.rows refl k.front;
      line = subst (λ (i : ℕ). Line 0 i s.waiting) (sym end) k.line;
      waits = all_wait_by at at s.rows rows s.waiting (λ w. waits_sent test at n new r s.rows w (sym o) e) k.waits;
    }

pub notify_steady : (s : Sender) (moment : ℕ) → Steady s → Steady (sent_after moment Notify s)
notify_steady s moment k = record {
  bytes = k.bytes;
  fragments = k.fragments;
  numbers = k.numbers;
  last = k.last;
  below = omega (arith, k.below);
  rows = raise_all s.sent s.forward (s.forward + 1) s.rows (omega arith) k.rows;
  front = k.front;
  line = k.line;
  waits = k.waits;
}

-- which number is sent
or_send : (a b : Choice) (n : ℕ) (r : Row) → or_else a b ≡ Send n r → (a ≡ Send n r) ⊎ (b ≡ Send n r)
or_send Nothing b n r e = inr e
or_send (Send k x) b n r e = inl e
or_send Notify b n r e = inl e

allowed_if : (o : Choice) (n : ℕ) (r : Row) (t : Bool) → cond t o Nothing ≡ Send n r → o ≡ Send n r
allowed_if o n r true e = e
allowed_if o n r false e = absurd cc

notify_if : (t : Bool) (n : ℕ) (r : Row) → cond t Notify Nothing ≡ Send n r → ⊥
notify_if true n r e = cc
notify_if false n r e = cc

pub chosen : (s : Sender) (moment resend n : ℕ) (r : Row) → choice moment resend s ≡ Send n r → (first_in is_lost (s.forward + 1) s.rows ≡ Send n r) ⊎ (first_in is_unsent (s.forward + 1) s.rows ≡ Send n r)
chosen s moment resend n r e =
    let a = first_in is_lost (s.forward + 1) s.rows in
    let b = first_in is_unsent (s.forward + 1) s.rows in
    let quiet = nat_lt s.upto s.forward && is_quiet s.notice moment resend in
    let next = next_choice moment resend s in
    elim (or_send a (or_else b (cond quiet Notify Nothing)) n r (allowed_if next n r (within_limit s (choice_bytes next)) e)) [
      | inl f ↦ inl f
      | inr f ↦ elim (or_send b (cond quiet Notify Nothing) n r f) [ inl g ↦ inr g | inr g ↦ absurd (notify_if quiet n r g) ]
    ]

pub steady_sent_at : (s : Sender) (moment then resend : ℕ) (o : Choice) → choice then resend s ≡ o → Steady s → Steady (sent_after moment o s)
steady_sent_at s moment then resend Nothing e k = k
steady_sent_at s moment then resend Notify e k = notify_steady s moment k
steady_sent_at s moment then resend (Send n r) e k = elim (chosen s then resend n r e) [
  | inl f ↦ sent_steady_by is_lost s n moment r k (λ y g. inl (lost_sent s.sent (s.forward + 1) n r s.rows k.rows f)) ((lost_open r.state ((found_low is_lost (s.forward + 1) n r s.rows f).2)).0) f
  | inr f ↦ sent_steady_by is_unsent s n moment r k (λ y g. inr g) (unsent_open r.state ((found_low is_unsent (s.forward + 1) n r s.rows f).2)) f
]

pub steady_sent : (s : Sender) (moment resend : ℕ) (o : Choice) → choice moment resend s ≡ o → Steady s → Steady (sent_after moment o s)
steady_sent s moment resend o e k = steady_sent_at s moment moment resend o e k

-- what is sent isn't acknowledged
lost_unacked : (t : State) → is_lost t ≡ true → is_acknowledged t ≡ false
lost_unacked Unsent e = absurd cc
lost_unacked Flying e = absurd cc
lost_unacked Lost e = refl
lost_unacked Acknowledged e = absurd cc
lost_unacked Abandoned e = absurd cc

unsent_unacked : (t : State) → is_unsent t ≡ true → is_acknowledged t ≡ false
unsent_unacked Unsent e = refl
unsent_unacked Flying e = absurd cc
unsent_unacked Lost e = absurd cc
unsent_unacked Acknowledged e = absurd cc
unsent_unacked Abandoned e = absurd cc

pub chosen_open : (s : Sender) (moment resend n : ℕ) (r : Row) → choice moment resend s ≡ Send n r → is_acknowledged r.state ≡ false
chosen_open s moment resend n r e = elim (chosen s moment resend n r e) [
  | inl f ↦ lost_unacked r.state ((found_low is_lost (s.forward + 1) n r s.rows f).2)
  | inr f ↦ unsent_unacked r.state ((found_low is_unsent (s.forward + 1) n r s.rows f).2)
]

-- take_ack
new_told : (upto n : ℕ) (spans : List (ℕ × ℕ)) → upto ≤ greatest upto spans
new_told upto n [] = omega arith
new_told upto n (p ∷ spans) = omega (arith, new_told (max upto p.1) n spans)

greatest_rises : (a b : ℕ) (spans : List (ℕ × ℕ)) → a ≤ b → greatest a spans ≤ greatest b spans
greatest_rises a b [] le = le
greatest_rises a b (p ∷ spans) le = greatest_rises (max a p.1) (max b p.1) spans (omega (arith, le))

ranges_below : (upto n : ℕ) (spans : List (ℕ × ℕ)) → list_any (in_span n) spans ≡ true → n ≤ greatest upto spans
ranges_below upto n [] e = absurd cc
ranges_below upto n (p ∷ spans) e = below_if upto n p spans (in_span n p) refl e (ranges_below (max upto p.1) n spans)
  where
    below_if : (upto n : ℕ) (p : ℕ × ℕ) (spans : List (ℕ × ℕ)) (t : Bool) → in_span n p ≡ t → (t || list_any (in_span n) spans) ≡ true → (list_any (in_span n) spans ≡ true → n ≤ greatest (max upto p.1) spans) → n ≤ greatest (max upto p.1) spans
    below_if upto n p spans true f e ih =
        let q = and_true (nat_le p.0 n) (nat_le n p.1) f in
        omega (arith, leb-true n p.1 q.1, new_told (max upto p.1) n spans)
    below_if upto n p spans false f e ih = ih e

-- what an ack tells isn't above the greatest number that it tells
pub told_below : (a : Told) (n : ℕ) → tells a n ≡ true → n ≤ greatest a.upto a.spans
told_below a n e = below_if (nat_le n a.upto) refl e
  where
    below_if : (t : Bool) → nat_le n a.upto ≡ t → (t || list_any (in_span n) a.spans) ≡ true → n ≤ greatest a.upto a.spans
    below_if true f e = omega (arith, leb-true n a.upto f, new_told a.upto n a.spans)
    below_if false f e = ranges_below a.upto n a.spans e

ack_ok_if : (sent k : ℕ) (r : Row) (t : Bool) → is_acknowledged r.state ≡ t → k ≤ sent → RowOk sent k r → RowOk sent k (cond t r (let_go Acknowledged r))
ack_ok_if sent k r true e le o = o
ack_ok_if sent k r false e le o = record { old = λ l. refl; fresh = λ lt. absurd (omega (arith, le, lt)); empty = λ x. absurd cc; short = omega arith }

ack_ok : (a : Told) (sent k : ℕ) (r : Row) (t : Bool) → tells a k ≡ t → greatest a.upto a.spans ≤ sent → RowOk sent k r → RowOk sent k (cond t (acknowledge_row r) r)
ack_ok a sent k r true e le o = let b = told_below a k e in ack_ok_if sent k r (is_acknowledged r.state) refl (omega (arith, b, le)) o
ack_ok a sent k r false e le o = o

counted_ok : (sent k acks : ℕ) (r : Row) → RowOk sent k r → RowOk sent k (record r { acks = acks })
counted_ok sent k acks r o = record { old = o.old; fresh = o.fresh; empty = o.empty; short = o.short }

count_ok : (ordinal sent k : ℕ) (r : Row) (t u : Bool) → is_third ordinal r ≡ t → RowOk sent k r → RowOk sent k (cond t (record r { state = Lost }) (cond u (record r { acks = r.acks + 1 }) r))
count_ok ordinal sent k r true u e o = lose_ok sent k r ((and_true (is_flying r.state) (nat_lt r.ordinal ordinal) ((and_true (is_flying r.state && nat_lt r.ordinal ordinal) (nat_le 2 r.acks) e).0)).0) o
count_ok ordinal sent k r false true e o = counted_ok sent k (r.acks + 1) r o
count_ok ordinal sent k r false false e o = o

pub told_length : (a : Told) (s : Sender) → length (rows_told a s) ≡ length s.rows
told_length a s =
    let ordinal = last_ordinal a (s.forward + 1) s.rows in
    ap (λ (xs : List Row). length xs) (map_is (count_ack ordinal) (s.forward + 1) (rows_acknowledged a s)) ∙ (map_length (λ k r. count_ack ordinal r) (s.forward + 1) (rows_acknowledged a s) ∙ map_length (acknowledge a) (s.forward + 1) s.rows)

pub acked_ok : (a : Told) (s : Sender) → Steady s → greatest a.upto a.spans ≤ s.sent → AllOk s.sent (s.forward + 1) (rows_acknowledged a s)
acked_ok a s k le = ok_map s.sent (s.forward + 1) (acknowledge a) s.rows (λ i r o. ack_ok a s.sent i r (tells a i) refl le o) k.rows

pub count_settled : (ordinal : ℕ) (r : Row) → is_settled (count_ack ordinal r).state ≡ is_settled r.state
count_settled ordinal r = count_if ordinal r (is_third ordinal r) (is_flying r.state && nat_lt r.ordinal ordinal) refl
  where
    count_if : (ordinal : ℕ) (r : Row) (t u : Bool) → is_third ordinal r ≡ t → is_settled (cond t (record r { state = Lost }) (cond u (record r { acks = r.acks + 1 }) r)).state ≡ is_settled r.state
    count_if ordinal r true u e = sym ((flying_old r.state ((and_true (is_flying r.state) (nat_lt r.ordinal ordinal) ((and_true (is_flying r.state && nat_lt r.ordinal ordinal) (nat_le 2 r.acks) e).0)).0)).1)
    count_if ordinal r false true e = refl
    count_if ordinal r false false e = refl

pub told_ok : (a : Told) (s : Sender) → Steady s → greatest a.upto a.spans ≤ s.sent → AllOk s.sent (s.forward + 1) (rows_told a s)
told_ok a s k le =
    let at = s.forward + 1 in
    let ordinal = last_ordinal a at s.rows in
    let acked = ok_map s.sent at (acknowledge a) s.rows (λ i r o. ack_ok a s.sent i r (tells a i) refl le o) k.rows in
    subst (λ (xs : List Row). AllOk s.sent at xs) (sym (map_is (count_ack ordinal) at (rows_acknowledged a s)))
    (ok_map s.sent at (λ i r. count_ack ordinal r) (rows_acknowledged a s) (λ i r o. count_ok ordinal s.sent i r (is_third ordinal r) (is_flying r.state && nat_lt r.ordinal ordinal) refl o) acked)

pub steady_told : (s : Sender) (a : Told) → Steady s → greatest a.upto a.spans ≤ s.sent → Steady (told_by a s)
steady_told s a k le =
    let at = s.forward + 1 in
    let rows = rows_told a s in
    let keep = still_waits at rows in
    let t = settled_steady s rows (filter keep s.waiting) k (told_length a s) (told_ok a s k le) (line_filter 0 (end_of s) keep s.waiting k.line) (all_wait_filter at rows s.waiting)
    (sum_filter (λ (w : Waiting). w.size) keep s.waiting) (sum_filter (λ (w : Waiting). w.count) keep s.waiting) in
    record { bytes = t.bytes; fragments = t.fragments; numbers = t.numbers; last = t.last; below = t.below; rows = t.rows; front = t.front; line = t.line; waits = t.waits }

-- its bounds
all_short : (sent n : ℕ) (rows : List Row) → AllOk sent n rows → AllShort rows
all_short sent n [] a = tt
all_short sent n (r ∷ rows) a = (a.0.short, all_short sent (n + 1) rows a.1)

pub bounded : (s : Sender) → Steady s → IsBounded s
bounded s k = record { bytes = k.bytes; fragments = k.fragments; each = all_short s.sent (s.forward + 1) s.rows k.rows }
