-- What a receiver counts and refuses is what the chunks tell that it took.
use Rattle.std.proofs.Common.{◌≡◌, ℕ, ◌+◌, ◌-◌, ◌==◌, nat_le, nat_lt, not, cond, Bool, true, false, ◌&&◌, ◌||◌, List, [], ◌∷◌, Option, Some, None, refl, ap, sym, ◌∙◌, arith, inl, inr}
use Rattle.std.specs.List.{filter}
use Rattle.std.proofs.lemmas.Bool.{cases_lt, cases_eq, lt-ltb, le-ltb, le-leb, eq-eqb, ne_eqb}
use Rattle.rtmfp_data_chunks.specs.Fragments.{Message}
use Rattle.rtmfp_data_chunks.specs.Runs.{Chunk, Run, missing_of, highest, is_dead, is_whole, is_kept, has_number, runs_of, through_of, bytes_held}
use Rattle.flow_recv.specs.declared.spans.Span.{Span}
use Rattle.flow_recv.specs.Receiver.{Receiver, knows, lacks, taken, add_span, spans_forward, runs_forward, living, held_in, end_of_first, through_in, after_last, passes_buffer, beyond_buffer, counted, hands, first_of}
use Rattle.flow_recv.specs.Outcome.{beyond, after_or}
use Rattle.flow_recv.proofs.Knowing.{knows_add, apart_formed, apart_add, add_known}
use Rattle.flow_exchange.specs.Stands.{last_of}
use Rattle.flow_recv.specs.Reached.{Call, Receiving, at_first, all_calls, AllProper}
use Rattle.flow_exchange.specs.Receiving.{lowest_whole, HandsLowest, Counts, passes_last, forward_alone, is_full, full_by, refusal_with, RefusesBy}
use Rattle.flow_exchange.proofs.Spreading.{end_is_through}
use Rattle.flow_exchange.proofs.Standing.{Proper, Stood, stands_taken}
use Rattle.flow_exchange.proofs.Following.{Sound, calls_sound, stood_first, dead_whole}

-- the lowest whole run
step : (test : Run → Bool) (y : Run) (less : List Run) (rest : Option Run) (d h u : Bool) → test y ≡ u → (u ≡ true → d ≡ false) → first_of test less ≡ rest
    → first_of test (cond (cond d false (not h)) (y ∷ less) less) ≡ cond (u && not h) (Some y) rest
step test y less rest true h true q w e = absurd (cc (w refl))
step test y less rest true h false q w e = e
step test y less rest false true true q w e = e
step test y less rest false true false q w e = e
step test y less rest false false true q w e = ap (λ b. cond b (Some y) (first_of test less)) q
step test y less rest false false false q w e = ap (λ b. cond b (Some y) (first_of test less)) q ∙ e

lowest_kept : (chunks : List Chunk) (handed : List Message) (ys : List Run) → first_of is_whole (filter (is_kept chunks handed) ys) ≡ lowest_whole handed ys
lowest_kept chunks handed [] = refl
lowest_kept chunks handed (y ∷ ys) =
    step is_whole y (filter (is_kept chunks handed) ys) (lowest_whole handed ys) (is_dead (missing_of chunks) y) (has_number y.first handed) (is_whole y) refl
    (dead_whole y.front y.rear (missing_of chunks (y.first - 1)) (missing_of chunks (y.last + 1))) (lowest_kept chunks handed ys)

lowest_next : (w : Receiving) → Sound true w → HandsLowest w
lowest_next w s =
    ap (λ a. first_of (hands a (through_in w.receiver)) w.receiver.runs) s.0
    ∙ (ap (first_of is_whole) s.1.stands.runs ∙ lowest_kept w.chunks w.handed (runs_of w.chunks))

sound : (arriving : Bool) (es : List Call) → AllProper es → Sound arriving (all_calls (at_first arriving) es)
sound arriving es p = calls_sound arriving (at_first arriving) es (refl, stood_first arriving, λ c i. absurd i) p

pub lowest : (es : List Call) → AllProper es → HandsLowest (all_calls (at_first true) es)
lowest es p = lowest_next (all_calls (at_first true) es) (sound true es p)

-- what it counts
counts_of : (arriving : Bool) (w : Receiving) → Sound arriving w → Counts w
counts_of arriving w s =
    let t = s.1.stands in
    record { bytes = ap held_in t.runs; through = end_is_through w.receiver.spans w.chunks s.2 t.apart t.from_zero t.spans }

pub counts : (arriving : Bool) (es : List Call) → AllProper es → Counts (all_calls (at_first arriving) es)
counts arriving es p = counts_of arriving (all_calls (at_first arriving) es) (sound arriving es p)

-- a forward number, taken alone
forward_known : (f : ℕ) (ss : List Span) → Rattle.flow_recv.specs.Receiver.Apart ss → knows (add_span 0 f ss) f ≡ true
forward_known f ss a = knows_add 0 f ss f (omega arith) (apart_formed ss a) ∙ (ap (λ b. (b && nat_le f f) || knows ss f) (le-leb 0 f (omega arith)) ∙ ap (λ b. b || knows ss f) (le-leb f f (omega arith)))

record Given (r : Receiver) (chunks : List Chunk) (handed : List Message) (c : Chunk) : Type 0 where
  pub through : end_of_first (spans_forward r c) ≡ through_of (forward_alone c ∷ chunks)
  pub bytes : held_in (runs_forward r c) ≡ bytes_held (forward_alone c ∷ chunks) handed

given : (r : Receiver) (chunks : List Chunk) (handed : List Message) (c : Chunk) → Stood r chunks handed → Proper chunks → Given r chunks handed c
given r chunks handed c st proper =
    let f = forward_alone c in
    let t = (stands_taken r f chunks handed st proper (λ e. absurd cc)).stands in
    let s = spans_forward r c in
    let a = apart_add 0 c.forward r.spans (omega arith) st.stands.apart in
    let same : add_span c.forward c.forward s ≡ s = add_known c.forward s a (forward_known c.forward r.spans st.stands.apart) in
    let all : Proper (f ∷ chunks) = λ d h. elim h [ inl e ↦ (rw e (omega arith)) | inr k ↦ proper d k ] in
    record {
      through = ap end_of_first (sym same) ∙ end_is_through (taken r f).spans (f ∷ chunks) all t.apart t.from_zero t.spans;
      bytes = ap (λ (x : List Span). held_in (living x r.runs)) (sym same) ∙ ap held_in t.runs;
    }

-- the refusals
after_some : (n : ℕ) (c : Chunk) (t : Bool) → nat_lt n c.seq ≡ t → cond t (Some n) (cond (c.last && nat_lt c.seq n) (Some n) None) ≡ cond (t || (c.last && not (c.seq == n))) (Some n) None
after_some n c true e = refl
after_some n c false e = ap (λ b. cond (c.last && b) (Some n) None) (other n c.seq e)
  where
    other : (n k : ℕ) → nat_lt n k ≡ false → nat_lt k n ≡ not (k == n)
    other n k e = elim (cases_lt n k) [
      | inl lt ↦ absurd (let x : false ≡ true = sym e ∙ lt-ltb n k lt in cc)
      | inr le ↦ elim (cases_eq k n) [
        | inl q ↦ le-ltb k n (omega (arith, q)) ∙ sym (ap not (eq-eqb k n q))
        | inr q ↦ lt-ltb k n (omega (arith, q, le)) ∙ sym (ap not (ne_eqb k n q))
      ]
    ]

after_is : (o : Option ℕ) (top : ℕ) (c : Chunk) → after_last o top c ≡ passes_last o top c
after_is None top c = refl
after_is (Some n) top c = after_some n c (nat_lt n c.seq) refl

full_if : (a b d e : Bool) → cond a b (cond d true e) ≡ cond a b (d || e)
full_if true b d e = refl
full_if false b true e = refl
full_if false b false e = refl

full_is : (t held : ℕ) (c : Chunk) → passes_buffer (t + 1) held c ≡ is_full t held c
full_is t held c = full_if (c.seq == t + 1) (nat_lt 3145728 (held + counted c)) (nat_lt 2097152 (held + counted c)) (nat_lt (t + 1 + 65536) c.seq)

beyond_is : (m missing n : Bool) (end t h g : ℕ) (c : Chunk) → m ≡ missing → end ≡ t → h ≡ g → cond (m && n && passes_buffer (end + 1) h c) (Some h) None ≡ cond (missing && n && is_full t g c) (Some g) None
beyond_is m missing n end t h g c e f i =
    ap (λ (x : Bool). cond (x && n && passes_buffer (end + 1) h c) (Some h) None) e
    ∙ (ap (λ (x : ℕ). cond (missing && n && passes_buffer (x + 1) h c) (Some h) None) f
    ∙ (ap (λ (x : ℕ). cond (missing && n && passes_buffer (t + 1) x c) (Some x) None) i
    ∙ ap (λ (x : Bool). cond (missing && n && x) (Some g) None) (full_is t g c)))

with_is : (a b : Option ℕ) → after_or a (beyond b) ≡ refusal_with a b
with_is (Some n) b = refl
with_is None (Some n) = refl
with_is None None = refl

refuses_of : (arriving : Bool) (w : Receiving) → Sound arriving w → RefusesBy w
refuses_of arriving w s c le low =
    let r = w.receiver in
    let t = s.1.stands in
    let g = given r w.chunks w.handed c s.1 s.2 in
    let after : after_last r.last r.highest c ≡ passes_last (last_of w.chunks) (highest w.chunks) c =
    ap (λ (x : Option ℕ). after_last x r.highest c) t.last ∙ (ap (λ (x : ℕ). after_last (last_of w.chunks) x c) t.highest ∙ after_is (last_of w.chunks) (highest w.chunks) c) in
    let full : beyond_buffer r c ≡ full_by w.chunks w.handed c =
    beyond_is (lacks r.spans c.seq) (missing_of w.chunks c.seq) (nat_lt c.forward c.seq) (end_of_first (spans_forward r c)) (through_of (forward_alone c ∷ w.chunks))
    (held_in (runs_forward r c)) (bytes_held (forward_alone c ∷ w.chunks) w.handed) c (t.spans c.seq) g.through g.bytes in
    ap (λ (x : Option ℕ). after_or x (beyond (beyond_buffer r c))) after
    ∙ (ap (λ (x : Option ℕ). after_or (passes_last (last_of w.chunks) (highest w.chunks) c) (beyond x)) full ∙ with_is (passes_last (last_of w.chunks) (highest w.chunks) c) (full_by w.chunks w.handed c))

pub refuses : (arriving : Bool) (es : List Call) → AllProper es → RefusesBy (all_calls (at_first arriving) es)
refuses arriving es p = refuses_of arriving (all_calls (at_first arriving) es) (sound arriving es p)
