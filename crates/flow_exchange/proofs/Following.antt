-- Which message follows, in queueing order; and all calls of a receiver.
use Rattle.std.proofs.Common.{◌≡◌, ℕ, zero, suc, ◌+◌, ◌-◌, ◌==◌, nat_le, not, cond, Bool, true, false, ◌&&◌, ◌||◌, List, [], ◌∷◌, ◌++◌, map, length, drop, slice_get, Option, Some, None, refl, ap, sym, ◌∙◌, subst, arith, inl, inr}
use Rattle.std.specs.List.{filter}
use Rattle.std.specs.Option.{option_map}
use Rattle.std.proofs.lemmas.Bool.{eq-eqb, ne_eqb}
use Rattle.std.proofs.lemmas.Bool.Decides.{nat_tests}
use Rattle.rtmfp_data_chunks.specs.Fragments.{Message}
use Rattle.rtmfp_data_chunks.specs.Runs.{Chunk, Missing, GivenUp, is_missing, number_of, missing_of, highest, Run, runs_to, runs_of, is_dead, is_whole, is_ready, is_kept, has_number, message_of, through_of, handed_in_order}
use Rattle.flow_recv.specs.Receiver.{Receiver, fresh, lacks, span, hands, may_hand, through_in, first_of, next_run}
use Rattle.rtmfp_data_chunks.specs.HandsOver.{IsIn}
use Rattle.flow_exchange.specs.Stands.{StandsFor}
use Rattle.flow_recv.specs.Reached.{Call, Takes, Hands, Receiving, at_first, hands_over, calls, all_calls, IsProper, AllProper}
use Rattle.flow_exchange.specs.Receiving.{HandsInOrder, AllHanded}
use Rattle.flow_exchange.proofs.Handing.{Begins, begins_trans, begins_push, handed_grows}
use Rattle.flow_exchange.proofs.Spreading.{end_is_through}
use Rattle.flow_exchange.proofs.Dropping.{Sorted}
use Rattle.flow_exchange.proofs.Standing.{Proper, Stood, sorted_runs, stands_taken}
use Rattle.flow_exchange.proofs.Handed.{Upward, sorted_filter, filter_both, filter_all, runs_upward, stands_handed}

first_if : (test : Run → Bool) (y : Run) (ys : List Run) (t : Bool) → first_of test ys ≡ slice_get (filter test ys) 0 → cond t (Some y) (first_of test ys) ≡ slice_get (cond t (y ∷ filter test ys) (filter test ys)) 0
first_if test y ys true h = refl
first_if test y ys false h = h

first_is : (test : Run → Bool) (ys : List Run) → first_of test ys ≡ slice_get (filter test ys) 0
first_is test [] = refl
first_is test (y ∷ ys) = first_if test y ys (test y) (first_is test ys)

abbrev not_yet : List Message → Run → Bool
not_yet handed y = not (has_number y.first handed)

abbrev ready_yet : ℕ → List Message → Run → Bool
ready_yet t handed y = cond (is_ready t y) (not_yet handed y) false

pub dead_whole : (f r b a : Bool) → cond f r false ≡ true → cond f (cond r false (not a)) (cond b (cond r false (not a)) true) ≡ false
dead_whole true true b a e = refl
dead_whole true false b a e = absurd cc
dead_whole false r b a e = absurd cc

ready_if : (w l : Bool) → cond w l false ≡ true → w ≡ true
ready_if true l e = refl
ready_if false l e = absurd cc

yet_true : (r d h : Bool) → cond d false (not h) ≡ true → cond r (not h) false ≡ r
yet_true true true h e = absurd cc
yet_true true false true e = absurd cc
yet_true true false false e = refl
yet_true false d h e = refl

yet_false : (r d h : Bool) → (r ≡ true → d ≡ false) → cond d false (not h) ≡ false → cond r (not h) false ≡ false
yet_false true true h w e = absurd (cc (w refl))
yet_false true false h w e = e
yet_false false d h w e = refl

ready_kept : (chunks : List Chunk) (handed : List Message) (t : ℕ) (ys : List Run) → filter (is_ready t) (filter (is_kept chunks handed) ys) ≡ filter (not_yet handed) (filter (is_ready t) ys)
ready_kept chunks handed t ys =
    let d : Run → Bool = λ y. is_dead (missing_of chunks) y in
    let alive : (y : Run) → is_ready t y ≡ true → d y ≡ false = λ y e.
    dead_whole y.front y.rear (missing_of chunks (y.first - 1)) (missing_of chunks (y.last + 1)) (ready_if (is_whole y) (nat_le y.first t) e) in
    filter_both (is_ready t) (is_kept chunks handed) (ready_yet t handed) ys (λ y e. yet_true (is_ready t y) (d y) (has_number y.first handed) e) (λ y e. yet_false (is_ready t y) (d y) (has_number y.first handed) (alive y) e)
    ∙ sym (filter_both (not_yet handed) (is_ready t) (ready_yet t handed) ys (λ y e. ap (λ b. cond b (not_yet handed y) false) e) (λ y e. ap (λ b. cond b (not_yet handed y) false) e))

filter_alike : (p q : Run → Bool) (ys : List Run) → ((y : Run) → IsIn y ys → p y ≡ q y) → filter p ys ≡ filter q ys
filter_alike p q [] e = refl
filter_alike p q (y ∷ ys) e = ap (λ b. cond b (y ∷ filter p ys) (filter p ys)) (e y (inl refl)) ∙ ap (λ zs. cond (q y) (y ∷ zs) zs) (filter_alike p q ys (λ z k. e z (inr k)))

-- what isn't handed over yet is what follows
following : (ys : List Run) (handed rest : List Message) → Sorted ys → Upward ys → handed ++ rest ≡ map message_of ys → filter (not_yet handed) ys ≡ drop (length handed) ys
following ys [] rest s up e = filter_all (not_yet []) ys (λ y h. refl)
following [] (m ∷ ms) rest s up e = absurd cc
following (y ∷ ys) (m ∷ ms) rest s up e =
    let first : m ≡ message_of y = cc in
    let tail : ms ++ rest ≡ map message_of ys = cc in
    let number : m.number ≡ y.first = ap (λ (z : Message). z.number) first in
    let here : has_number y.first (m ∷ ms) ≡ true = ap (λ b. cond b true (has_number y.first ms)) (eq-eqb m.number y.first number) in
    let others : (z : Run) → IsIn z ys → not_yet (m ∷ ms) z ≡ not_yet ms z = λ z k.
    ap (λ b. not (cond b true (has_number z.first ms))) (ne_eqb m.number z.first (λ x. omega (arith, x, number, s.0 z k, up y (inl refl)))) in
    ap (λ b. cond (not b) (y ∷ filter (not_yet (m ∷ ms)) ys) (filter (not_yet (m ∷ ms)) ys)) here
    ∙ (filter_alike (not_yet (m ∷ ms)) (not_yet ms) ys others ∙ following ys ms rest s.1 (λ z k. up z (inr k)) tail)

get_drop : (ys : List Run) (k : ℕ) → option_map message_of (slice_get (drop k ys) 0) ≡ slice_get (map message_of ys) k
get_drop [] zero = refl
get_drop [] (suc k) = refl
get_drop (y ∷ ys) zero = refl
get_drop (y ∷ ys) (suc k) = get_drop ys k

-- the next message is the one that follows
pub next_follows : (r : Receiver) (chunks : List Chunk) (handed rest : List Message) → r.arriving ≡ false → Stood r chunks handed → Proper chunks → handed ++ rest ≡ handed_in_order chunks
    → option_map message_of (next_run r) ≡ slice_get (handed_in_order chunks) (length handed)
next_follows r chunks handed rest order st proper e =
    let s = st.stands in
    let t = through_of chunks in
    let all = runs_of chunks in
    let ready = filter (is_ready t) all in
    let through : through_in r ≡ t = end_is_through r.spans chunks proper s.apart s.from_zero s.spans in
    let test : (xs : List Run) → first_of (may_hand r) xs ≡ first_of (is_ready t) xs = λ xs.
    ap (λ a. first_of (hands a (through_in r)) xs) order ∙ ap (λ n. first_of (is_ready n) xs) through in
    let sorted = sorted_filter (is_ready t) all (sorted_runs (number_of chunks) (highest chunks)) in
    let up : Upward ready = λ y h. runs_upward chunks y (Rattle.flow_exchange.proofs.Dropping.filter_among (is_ready t) y all h) in
    let next : next_run r ≡ slice_get (drop (length handed) ready) 0 =
    test r.runs
    ∙ (ap (first_of (is_ready t)) s.runs
    ∙ (first_is (is_ready t) (filter (is_kept chunks handed) all)
    ∙ ap (λ xs. slice_get xs 0) (ready_kept chunks handed t all ∙ following ready handed rest sorted up e))) in
    ap (option_map message_of) next ∙ get_drop ready (length handed)

at_zero : (n : ℕ) → (nat_le 0 n && nat_le n 0) ≡ (n == 0)
at_zero n = grind (arith, nat_tests)

zero_if : (b : Bool) → not (b || false) ≡ is_missing (cond b GivenUp Missing)
zero_if true = refl
zero_if false = refl

first_lacks : (n : ℕ) → lacks (span 0 0 ∷ []) n ≡ missing_of [] n
unfolding number_of
first_lacks n = ap (λ b. not (b || false)) (at_zero n) ∙ zero_if (n == 0)

-- a new receiver stands for nothing
pub stood_first : (arriving : Bool) → Stood (fresh arriving) [] []
unfolding runs_to number_of
stood_first arriving = record {
  stands = record {
    spans = λ n. first_lacks n;
    apart = (omega arith, λ t h. absurd h, tt);
    from_zero = refl;
    runs = refl;
    last = refl;
    highest = refl;
  };
  handings = record { known = λ n h. absurd cc; whole = λ y h n. absurd h };
}

abbrev pub Sound : Bool → Receiving → Type 0
Sound arriving w = (w.receiver.arriving ≡ arriving) × Stood w.receiver w.chunks w.handed × Proper w.chunks

taken_sound : (arriving : Bool) (w : Receiving) (c : Chunk) → Sound arriving w → IsProper (Takes c) → Sound arriving (calls w (Takes c))
taken_sound arriving w c s p = (
  s.0,
  stands_taken w.receiver c w.chunks w.handed s.1 s.2 p.1,
  λ d h. elim h [ inl e ↦ (rw e p.0) | inr k ↦ s.2 d k ],
)

handed_sound : (arriving : Bool) (w : Receiving) (o : Option Run) → next_run w.receiver ≡ o → Sound arriving w → Sound arriving (hands_over w o)
handed_sound arriving w None e s = s
handed_sound arriving w (Some y) e s = (s.0, stands_handed w.receiver w.chunks w.handed y s.1 e, s.2)

call_sound : (arriving : Bool) (w : Receiving) (e : Call) → Sound arriving w → IsProper e → Sound arriving (calls w e)
call_sound arriving w (Takes c) s p = taken_sound arriving w c s p
call_sound arriving w Hands s p = handed_sound arriving w (next_run w.receiver) refl s

pub calls_sound : (arriving : Bool) (w : Receiving) (es : List Call) → Sound arriving w → AllProper es → Sound arriving (all_calls w es)
calls_sound arriving w [] s p = s
calls_sound arriving w (e ∷ es) s p = calls_sound arriving (calls w e) es (call_sound arriving w e s p.0) p.1

pub stands : (arriving : Bool) (es : List Call) → AllProper es → StandsFor (all_calls (at_first arriving) es).receiver (all_calls (at_first arriving) es).chunks (all_calls (at_first arriving) es).handed
stands arriving es p = (calls_sound arriving (at_first arriving) es (refl, stood_first arriving, λ c h. absurd h) p).1.stands

-- in queueing order
abbrev Ordered : Receiving → Type 0
Ordered w = Sound false w × Begins w.handed (handed_in_order w.chunks)

next_of : (w : Receiving) → Ordered w → option_map message_of (next_run w.receiver) ≡ slice_get (handed_in_order w.chunks) (length w.handed)
next_of w o = next_follows w.receiver w.chunks w.handed o.1.0 o.0.0 o.0.1 o.0.2 o.1.1

handed_ordered : (w : Receiving) (o : Option Run) → next_run w.receiver ≡ o → Ordered w → Begins (hands_over w o).handed (handed_in_order w.chunks)
handed_ordered w None e o = o.1
handed_ordered w (Some y) e o = begins_push w.handed (handed_in_order w.chunks) (message_of y) o.1 (sym (next_of w o) ∙ ap (option_map message_of) e)

same_chunks : (w : Receiving) (o : Option Run) → (hands_over w o).chunks ≡ w.chunks
same_chunks w None = refl
same_chunks w (Some y) = refl

call_ordered : (w : Receiving) (e : Call) → Ordered w → IsProper e → Ordered (calls w e)
call_ordered w (Takes c) o p = (taken_sound false w c o.0 p, begins_trans w.handed (handed_in_order w.chunks) (handed_in_order (c ∷ w.chunks)) o.1 (handed_grows c w.chunks))
call_ordered w Hands o p = (
  handed_sound false w (next_run w.receiver) refl o.0,
  subst (λ (xs : List Chunk). Begins (hands_over w (next_run w.receiver)).handed (handed_in_order xs)) (sym (same_chunks w (next_run w.receiver))) (handed_ordered w (next_run w.receiver) refl o),
)

calls_ordered : (w : Receiving) (es : List Call) → Ordered w → AllProper es → Ordered (all_calls w es)
calls_ordered w [] o p = o
calls_ordered w (e ∷ es) o p = calls_ordered (calls w e) es (call_ordered w e o p.0) p.1

pub in_order : (es : List Call) → AllProper es → HandsInOrder (all_calls (at_first false) es)
in_order es p =
    let w = all_calls (at_first false) es in
    let o = calls_ordered (at_first false) es ((refl, stood_first false, λ c h. absurd h), (handed_in_order [], refl)) p in
    record { rest = o.1.0; begins = o.1.1; next = next_of w o }

none_if : (test : Run → Bool) (y z : Run) (ys : List Run) (t : Bool) → test z ≡ t → (first_of test ys ≡ None → IsIn y ys → test y ≡ true → ⊥) → cond t (Some z) (first_of test ys) ≡ None → IsIn y (z ∷ ys) → test y ≡ true → ⊥
none_if test y z ys true e ih f h k = cc
none_if test y z ys false e ih f (inl g) k = let x : false ≡ true = sym e ∙ (ap test (sym g) ∙ k) in cc
none_if test y z ys false e ih f (inr h) k = ih f h k

none_first : (test : Run → Bool) (y : Run) (ys : List Run) → first_of test ys ≡ None → IsIn y ys → test y ≡ true → ⊥
none_first test y [] f h k = h
none_first test y (z ∷ ys) f h k = none_if test y z ys (test z) refl (none_first test y ys) f h k

in_filter_if : (keep : Run → Bool) (y z : Run) (ys : List Run) (t : Bool) → keep z ≡ t → (IsIn y ys → IsIn y (filter keep ys)) → keep y ≡ true → IsIn y (z ∷ ys) → IsIn y (cond t (z ∷ filter keep ys) (filter keep ys))
in_filter_if keep y z ys true e ih k (inl f) = inl f
in_filter_if keep y z ys true e ih k (inr h) = inr (ih h)
in_filter_if keep y z ys false e ih k (inl f) = absurd (let x : false ≡ true = sym e ∙ (ap keep (sym f) ∙ k) in cc)
in_filter_if keep y z ys false e ih k (inr h) = ih h

in_filter : (keep : Run → Bool) (y : Run) (ys : List Run) → keep y ≡ true → IsIn y ys → IsIn y (filter keep ys)
in_filter keep y [] k h = h
in_filter keep y (z ∷ ys) k h = in_filter_if keep y z ys (keep z) refl (in_filter keep y ys k) k h

handed_or : (w : Receiving) (y : Run) (t : Bool) → Sound true w → next_run w.receiver ≡ None → IsIn y (runs_of w.chunks) → is_whole y ≡ true → has_number y.first w.handed ≡ t → has_number y.first w.handed ≡ true
handed_or w y true s none h whole e = e
handed_or w y false s none h whole e =
    let keep = is_kept w.chunks w.handed in
    let dead = dead_whole y.front y.rear (missing_of w.chunks (y.first - 1)) (missing_of w.chunks (y.last + 1)) whole in
    let kept : keep y ≡ true = ap (λ d. cond d false (not (has_number y.first w.handed))) dead ∙ ap not e in
    let f : first_of (may_hand w.receiver) (filter keep (runs_of w.chunks)) ≡ None = ap (first_of (may_hand w.receiver)) (sym s.1.stands.runs) ∙ none in
    let ready : may_hand w.receiver y ≡ true = ap (λ a. hands a (through_in w.receiver) y) s.0 ∙ whole in
    absurd (none_first (may_hand w.receiver) y (filter keep (runs_of w.chunks)) f (in_filter keep y (runs_of w.chunks) kept h) ready)

pub all_handed : (es : List Call) → AllProper es → AllHanded (all_calls (at_first true) es)
all_handed es p none y h whole =
    let w = all_calls (at_first true) es in
    handed_or w y (has_number y.first w.handed) (calls_sound true (at_first true) es (refl, stood_first true, λ c i. absurd i) p) none h whole refl
