-- A message handed over: what is kept still stands; and which message is next.
use Rattle.std.proofs.Common.{◌≡◌, ◌≢◌, ℕ, ◌<◌, ◌≤◌, ◌==◌, nat_le, not, cond, Bool, true, false, ◌||◌, List, [], ◌∷◌, ◌++◌, Some, refl, ap, sym, ◌∙◌, subst, arith, inl, inr, ◌⊎◌}
use Rattle.std.specs.List.{filter}
use Rattle.std.proofs.lemmas.Bool.{eq-eqb, ne_eqb, eqb-true}
use Rattle.rtmfp_data_chunks.specs.Fragments.{Message}
use Rattle.rtmfp_data_chunks.specs.Runs.{Chunk, Number, Missing, number_of, missing_of, highest, Run, runs_of, is_dead, is_whole, is_kept, has_number, message_of}
use Rattle.flow_recv.specs.Receiver.{Receiver, hands, may_hand, through_in, first_of, without_first, next_run, handed_next}
use Rattle.rtmfp_data_chunks.specs.HandsOver.{IsIn}
use Rattle.flow_exchange.proofs.Wholes.{IsHeld}
use Rattle.flow_exchange.proofs.Ready.{run_of}
use Rattle.flow_exchange.proofs.Dropping.{Sorted, filter_among}
use Rattle.flow_exchange.proofs.Standing.{Stood, sorted_runs}

-- one filter after another
filter_both_if : (p q r : Run → Bool) (y : Run) (ys : List Run) (t : Bool) → q y ≡ t → (t ≡ true → r y ≡ p y) → (t ≡ false → r y ≡ false) → filter p (filter q ys) ≡ filter r ys → filter p (cond t (y ∷ filter q ys) (filter q ys)) ≡ filter r (y ∷ ys)
filter_both_if p q r y ys true e f g h = ap (λ b. cond b (y ∷ filter p (filter q ys)) (filter p (filter q ys))) (sym (f refl)) ∙ ap (λ zs. cond (r y) (y ∷ zs) zs) h
filter_both_if p q r y ys false e f g h = h ∙ ap (λ b. cond b (y ∷ filter r ys) (filter r ys)) (sym (g refl))

pub filter_both : (p q r : Run → Bool) (ys : List Run) → ((y : Run) → q y ≡ true → r y ≡ p y) → ((y : Run) → q y ≡ false → r y ≡ false) → filter p (filter q ys) ≡ filter r ys
filter_both p q r [] f g = refl
filter_both p q r (y ∷ ys) f g =
    filter_both_if p q r y ys (q y) refl (f y) (g y) (filter_both p q r ys f g)

pub filter_all : (p : Run → Bool) (ys : List Run) → ((y : Run) → IsIn y ys → p y ≡ true) → filter p ys ≡ ys
filter_all p [] h = refl
filter_all p (y ∷ ys) h = ap (λ b. cond b (y ∷ filter p ys) (filter p ys)) (h y (inl refl)) ∙ ap (λ zs. y ∷ zs) (filter_all p ys (λ z k. h z (inr k)))

sorted_if : (p : Run → Bool) (y : Run) (ys : List Run) (t : Bool) → ((z : Run) → IsIn z ys → y.last < z.first) → Sorted (filter p ys) → Sorted (cond t (y ∷ filter p ys) (filter p ys))
sorted_if p y ys true h s = (λ z k. h z (filter_among p z ys k), s)
sorted_if p y ys false h s = s

pub sorted_filter : (p : Run → Bool) (ys : List Run) → Sorted ys → Sorted (filter p ys)
sorted_filter p [] s = tt
sorted_filter p (y ∷ ys) s = sorted_if p y ys (p y) s.0 (sorted_filter p ys s.1)

abbrev pub Upward : List Run → Type 0
Upward ys = (y : Run) → IsIn y ys → y.first ≤ y.last

first_in_if : (test : Run → Bool) (y z : Run) (ys : List Run) (t : Bool) → test z ≡ t → (first_of test ys ≡ Some y → IsIn y ys × (test y ≡ true)) → cond t (Some z) (first_of test ys) ≡ Some y → IsIn y (z ∷ ys) × (test y ≡ true)
first_in_if test y z ys true e ih f = let g : z ≡ y = cc in (inl (sym g), ap test (sym g) ∙ e)
first_in_if test y z ys false e ih f = let r = ih f in (inr r.0, r.1)

pub first_in : (test : Run → Bool) (y : Run) (ys : List Run) → first_of test ys ≡ Some y → IsIn y ys × (test y ≡ true)
first_in test y [] e = absurd cc
first_in test y (z ∷ ys) e = first_in_if test y z ys (test z) refl (first_in test y ys) e

abbrev pub other_than : ℕ → Run → Bool
other_than n z = not (n == z.first)

without_if : (test : Run → Bool) (y z : Run) (ys : List Run) (t : Bool) → test z ≡ t → z.first ≤ z.last → ((w : Run) → IsIn w ys → z.last < w.first) → (first_of test ys ≡ Some y → without_first test ys ≡ filter (other_than y.first) ys)
    → cond t (Some z) (first_of test ys) ≡ Some y → cond t ys (z ∷ without_first test ys) ≡ filter (other_than y.first) (z ∷ ys)
without_if test y z ys true e up sorted ih f =
    let g : z ≡ y = cc in
    let same : (y.first == z.first) ≡ true = eq-eqb y.first z.first (sym (ap (λ (w : Run). w.first) g)) in
    let all = filter_all (other_than y.first) ys (λ w k. ap not (ne_eqb y.first w.first (λ x. omega (arith, x, up, sorted w k, ap (λ (v : Run). v.first) g)))) in
    sym all ∙ ap (λ b. cond (not b) (z ∷ filter (other_than y.first) ys) (filter (other_than y.first) ys)) (sym same)
without_if test y z ys false e up sorted ih f =
    let k = (first_in test y ys f).0 in
    let other : (y.first == z.first) ≡ false = ne_eqb y.first z.first (λ x. omega (arith, x, up, sorted y k)) in
    ap (λ xs. z ∷ xs) (ih f) ∙ ap (λ b. cond (not b) (z ∷ filter (other_than y.first) ys) (filter (other_than y.first) ys)) (sym other)

-- taking out the first that passes is leaving out its number
pub without_is : (test : Run → Bool) (y : Run) (ys : List Run) → Sorted ys → Upward ys → first_of test ys ≡ Some y → without_first test ys ≡ filter (other_than y.first) ys
without_is test y [] s up e = absurd cc
without_is test y (z ∷ ys) s up e =
    without_if test y z ys (test z) refl (up z (inl refl)) s.0 (without_is test y ys s.1 (λ w k. up w (inr k))) e

number_more : (n : ℕ) (ms : List Message) (m : Message) → has_number n (ms ++ m ∷ []) ≡ (has_number n ms || (m.number == n))
number_more n [] m = last_if (m.number == n)
  where
    last_if : (t : Bool) → cond t true false ≡ t
    last_if true = refl
    last_if false = refl
number_more n (x ∷ ms) m = more_if (x.number == n) (number_more n ms m)
  where
    more_if : (t : Bool) → has_number n (ms ++ m ∷ []) ≡ (has_number n ms || (m.number == n)) → cond t true (has_number n (ms ++ m ∷ [])) ≡ (cond t true (has_number n ms) || (m.number == n))
    more_if true e = refl
    more_if false e = e

kept_more : (d a b : Bool) → (cond d false (not a) ≡ true → cond d false (not (a || b)) ≡ not b) × (cond d false (not a) ≡ false → cond d false (not (a || b)) ≡ false)
kept_more true a b = (λ e. absurd cc, λ e. refl)
kept_more false true b = (λ e. absurd cc, λ e. refl)
kept_more false false b = (λ e. refl, λ e. absurd cc)

pub runs_upward : (chunks : List Chunk) → Upward (runs_of chunks)
runs_upward chunks y h = (run_of (number_of chunks) (highest chunks) y h).of.low

kept_next : (chunks : List Chunk) (handed : List Message) (y : Run) (ys : List Run) → filter (other_than y.first) (filter (is_kept chunks handed) ys) ≡ filter (is_kept chunks (handed ++ message_of y ∷ [])) ys
kept_next chunks handed y ys =
    let p = other_than y.first in
    let q = is_kept chunks handed in
    let r = is_kept chunks (handed ++ message_of y ∷ []) in
    let step : (z : Run) → (q z ≡ true → r z ≡ p z) × (q z ≡ false → r z ≡ false) = λ z.
    let d = is_dead (missing_of chunks) z in
    let n = number_more z.first handed (message_of y) in
    let k = kept_more d (has_number z.first handed) (y.first == z.first) in (
      λ e. ap (λ b. cond d false (not b)) n ∙ k.0 e,
      λ e. ap (λ b. cond d false (not b)) n ∙ k.1 e,
    ) in
    filter_both p q r ys (λ z. (step z).0) (λ z. (step z).1)

-- two runs that begin at one number are one
same_run : (ys : List Run) (y z : Run) → Sorted ys → Upward ys → IsIn y ys → IsIn z ys → y.first ≡ z.first → y ≡ z
same_run [] y z s up h k e = absurd h
same_run (x ∷ ys) y z s up (inl f) (inl g) e = f ∙ sym g
same_run (x ∷ ys) y z s up (inl f) (inr k) e = absurd (omega (arith, s.0 z k, up x (inl refl), e, ap (λ (r : Run). r.first) f))
same_run (x ∷ ys) y z s up (inr h) (inl g) e = absurd (omega (arith, s.0 y h, up x (inl refl), e, ap (λ (r : Run). r.first) g))
same_run (x ∷ ys) y z s up (inr h) (inr k) e = same_run ys y z s.1 (λ w i. up w (inr i)) h k e

whole_parts : (f r : Bool) → cond f r false ≡ true → (f ≡ true) × (r ≡ true)
whole_parts true r e = (refl, e)
whole_parts false r e = absurd cc

ready_whole : (w l : Bool) → cond w l false ≡ true → w ≡ true
ready_whole true l e = refl
ready_whole false l e = absurd cc

pub hands_whole : (arriving : Bool) (t : ℕ) (y : Run) → hands arriving t y ≡ true → is_whole y ≡ true
hands_whole true t y e = e
hands_whole false t y e = ready_whole (is_whole y) (nat_le y.first t) e

or_cases : (a b : Bool) → (a || b) ≡ true → (a ≡ true) ⊎ (b ≡ true)
or_cases true b e = inl refl
or_cases false b e = inr e

held_not_missing : (v : Number) → IsHeld v → v ≡ Missing → ⊥
held_not_missing v h e = gone (subst IsHeld e h)
  where
    gone : IsHeld Missing → ⊥
    gone x = x

-- a message is handed over
pub stands_handed : (r : Receiver) (chunks : List Chunk) (handed : List Message) (y : Run) → Stood r chunks handed → next_run r ≡ Some y → Stood (handed_next r) chunks (handed ++ message_of y ∷ [])
stands_handed r chunks handed y st e =
    let s = st.stands in
    let all = runs_of chunks in
    let up = runs_upward chunks in
    let sorted = sorted_runs (number_of chunks) (highest chunks) in
    let keep = is_kept chunks handed in
    let f : first_of (may_hand r) (filter keep all) ≡ Some y = ap (first_of (may_hand r)) (sym s.runs) ∙ e in
    let i = first_in (may_hand r) y (filter keep all) f in
    let inside = filter_among keep y all i.0 in
    let whole = whole_parts y.front y.rear (hands_whole r.arriving (through_in r) y i.1) in
    let w = without_is (may_hand r) y (filter keep all) (sorted_filter keep all sorted) (λ z k. up z (filter_among keep z all k)) f in
    record {
      stands = record {
        spans = s.spans;
        apart = s.apart;
        from_zero = s.from_zero;
        runs = ap (without_first (may_hand r)) s.runs ∙ (w ∙ kept_next chunks handed y all);
        last = s.last;
        highest = s.highest;
      };
      handings = record {
        known =
            λ n h. elim (or_cases (has_number n handed) (y.first == n) (sym (number_more n handed (message_of y)) ∙ h)) [
              | inl a ↦ st.handings.known n a
              | inr a ↦
                  let q = run_of (number_of chunks) (highest chunks) y inside in
                  subst (λ (k : ℕ). number_of chunks k ≢ Missing) (eqb-true y.first n a) (held_not_missing (number_of chunks y.first) (q.of.held y.first (omega arith) q.of.low))
            ];
        whole =
            λ z k h. elim (or_cases (has_number z.first handed) (y.first == z.first) (sym (number_more z.first handed (message_of y)) ∙ h)) [
              | inl a ↦ st.handings.whole z k a
              | inr a ↦ let same = same_run all y z sorted up inside k (eqb-true y.first z.first a) in subst (λ (x : Run). (x.front ≡ true) × (x.rear ≡ true)) same whole
            ];
      };
    }
