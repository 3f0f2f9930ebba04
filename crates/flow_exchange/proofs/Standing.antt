-- A chunk taken: what is kept still stands for what was taken and handed over.
use Rattle.std.proofs.Common.{◌≡◌, ◌≢◌, ℕ, zero, suc, ◌+◌, ◌-◌, ◌<◌, ◌≤◌, ◌==◌, max, nat_le, nat_lt, not, cond, Bool, true, false, ◌&&◌, ◌||◌, List, [], ◌∷◌, ◌++◌, Option, Some, None, refl, ap, sym, ◌∙◌, subst, arith, inl, inr, ◌⊎◌}
use Rattle.std.specs.List.{filter}
use Rattle.std.proofs.lemmas.Bool.{cases_eq, cases_lt, eq-eqb}
use Rattle.std.proofs.lemmas.List.{append-nil}
use Rattle.flow_recv.specs.declared.spans.Span.{Span}
use Rattle.rtmfp_data_chunks.specs.Fragments.{Message}
use Rattle.rtmfp_data_chunks.specs.Runs.{Chunk, Number, Missing, Held, GivenUp, number_of, is_missing, missing_of, highest, Run, single, fits, joined, run_up_to, goes_on, run_ending, runs_to, runs_of, is_dead, is_kept, has_number}
use Rattle.flow_recv.specs.Receiver.{Receiver, lacks, is_alive, living, add_run, join_next, join_before, holds, spans_after, taken, add_span}
use Rattle.rtmfp_data_chunks.specs.HandsOver.{IsIn}
use Rattle.flow_exchange.specs.Stands.{StandsFor}
use Rattle.flow_exchange.proofs.Wholes.{IsHeld, in_either}
use Rattle.flow_exchange.proofs.Ready.{run_of, zero_known, missing_or, filter_same}
use Rattle.flow_exchange.proofs.Kept.{Unchanged, Holds, GivesUp, Passes, change, stays, still_known}
use Rattle.flow_exchange.proofs.Growing.{SameHeld, Alike, Neither, runs_same, none_with, Grown, runs_grow, inner}
use Rattle.flow_recv.proofs.Knowing.{apart_formed, apart_add, from_zero_add, lacks_after}
use Rattle.flow_exchange.proofs.Spreading.{missing_after, high_missing}
use Rattle.flow_exchange.proofs.Dropping.{Setting, AllOld, Sorted, alive, kept, add_kept, twice_mono}

abbrev pub Proper : List Chunk → Type 0
Proper chunks = (c : Chunk) → IsIn c chunks → c.forward ≤ c.seq

-- the numbers of no message that was handed over
abbrev pub unhanded : List Message → ℕ → Bool
unhanded handed n = not (has_number n handed)

-- what else holds of the messages handed over: their numbers are known, and their runs are whole
pub record Handings (chunks : List Chunk) (handed : List Message) : Type 0 where
  pub known : (n : ℕ) → has_number n handed ≡ true → number_of chunks n ≢ Missing
  pub whole : (y : Run) → IsIn y (runs_of chunks) → has_number y.first handed ≡ true → (y.front ≡ true) × (y.rear ≡ true)

not_held_missing : (v : Number) → v ≡ Missing → IsHeld v → ⊥
not_held_missing Missing e h = h
not_held_missing (Held p b) e h = cc
not_held_missing GivenUp e h = h

held_known : (v : Number) → IsHeld v → is_missing v ≡ false
held_known Missing h = absurd h
held_known (Held p b) h = refl
held_known GivenUp h = absurd h

end_none : (o : Option Run) (v : Number) → o ≡ None → run_ending o v ≡ []
end_none None v e = refl
end_none (Some y) v e = absurd cc

-- above the highest number there are no runs
runs_above : (s : ℕ → Number) (top d : ℕ) → ((k : ℕ) → top < k → IsHeld (s k) → ⊥) → runs_to s (top + d) ≡ runs_to s top
unfolding runs_to run_up_to
runs_above s top zero h = let e : top + 0 ≡ top = omega arith in ap (runs_to s) e
runs_above s top (suc d) h =
    let e : top + suc d ≡ suc (top + d) = omega arith in
    let n = suc (top + d) in
    let none : run_up_to s n ≡ None = none_with (s n) n (run_up_to s (top + d)) (h n (omega arith)) in
    ap (runs_to s) e ∙ (ap (λ x. runs_to s (top + d) ++ x) (end_none (run_up_to s n) (s (suc n)) none) ∙ (append-nil (runs_to s (top + d)) ∙ runs_above s top d h))

runs_to_top : (s : ℕ → Number) (top n : ℕ) → top ≤ n → ((k : ℕ) → top < k → IsHeld (s k) → ⊥) → runs_to s n ≡ runs_to s top
runs_to_top s top n le h = let e : n ≡ top + (n - top) = omega arith in ap (runs_to s) e ∙ runs_above s top (n - top) h

-- runs lie one after another
sorted_push : (xs : List Run) (o : List Run) → Sorted xs → Sorted o → ((y z : Run) → IsIn y xs → IsIn z o → y.last < z.first) → Sorted (xs ++ o)
sorted_push [] o s t h = t
sorted_push (x ∷ xs) o s t h = (
  λ z k. elim (in_either z xs o k) [ inl a ↦ s.0 z a | inr b ↦ h x z (inl refl) b ],
  sorted_push xs o s.1 t (λ y z k m. h y z (inr k) m),
)

ending_one : (y z : Run) (t : Bool) → IsIn z (cond t [] (y ∷ [])) → z ≡ y
ending_one y z true h = absurd h
ending_one y z false (inl e) = e
ending_one y z false (inr h) = absurd h

ending_is : (o : Option Run) (v : Number) (z : Run) → IsIn z (run_ending o v) → o ≡ Some z
ending_is None v z h = absurd h
ending_is (Some y) v z h = ap (λ x. Some x) (sym (ending_one y z (goes_on y v) h))

sorted_if : (y : Run) (t : Bool) → Sorted (cond t [] (y ∷ []))
sorted_if y true = tt
sorted_if y false = (λ z h. absurd h, tt)

sorted_end : (o : Option Run) (v : Number) → Sorted (run_ending o v)
sorted_end None v = tt
sorted_end (Some y) v = sorted_if y (goes_on y v)

pub sorted_runs : (s : ℕ → Number) (n : ℕ) → Sorted (runs_to s n)
unfolding runs_to
sorted_runs s zero = tt
sorted_runs s (suc n) = sorted_push (runs_to s n) (run_ending (run_up_to s (suc n)) (s (suc (suc n)))) (sorted_runs s n) (sorted_end (run_up_to s (suc n)) (s (suc (suc n)))) (
    λ y z h k.
    let ry = run_of s n y h in
    let e = ending_is (run_up_to s (suc n)) (s (suc (suc n))) z k in
    elim (cases_lt y.last z.first) [
      | inl l ↦ l
      | inr l ↦
          let i = inner s (suc n) y.last z e l (omega (arith, ry.low)) in
          let same : y ≡ i.run = let p : Some y ≡ Some i.run = sym ry.longest ∙ i.is in cc in
          absurd (let x : false ≡ true = sym ry.stops ∙ (ap (λ w. goes_on w (s (suc y.last))) same ∙ i.on) in cc)
    ]
    )

-- the runs before a chunk whose number is missing
old_runs : (chunks : List Chunk) (handed : List Message) (q : ℕ) → Handings chunks handed → number_of chunks q ≡ Missing → AllOld (missing_of chunks) (unhanded handed) q (runs_of chunks)
old_runs chunks handed q hs miss y h =
    let s = number_of chunks in
    let r = run_of s (highest chunks) y h in
    record {
      up = r.of.low;
      known_first = held_known (s y.first) (r.of.held y.first (omega arith) r.of.low);
      known_last = held_known (s y.last) (r.of.held y.last r.of.low (omega arith));
      whole = λ e. hs.whole y h (not_not (has_number y.first handed) e);
      apart = elim (cases_lt y.last q) [
        | inl l ↦ inl l
        | inr l ↦ elim (cases_lt q y.first) [
          | inl m ↦ inr m
          | inr m ↦ absurd (not_held_missing (s q) miss (r.of.held q m l))
        ]
      ];
    }
  where
    not_not : (b : Bool) → not b ≡ false → b ≡ true
    not_not true e = refl
    not_not false e = absurd cc

missing_before : (c : Chunk) (earlier : List Chunk) (n : ℕ) → missing_of (c ∷ earlier) n ≡ true → missing_of earlier n ≡ true
missing_before c earlier n e = before_if (missing_of earlier n) (not ((n == c.seq) || nat_le n c.forward)) (sym (missing_after c earlier n) ∙ e)
  where
    before_if : (a b : Bool) → (a && b) ≡ true → a ≡ true
    before_if true b e = refl
    before_if false b e = absurd cc

number_taken : (c : Chunk) (earlier : List Chunk) → missing_of (c ∷ earlier) c.seq ≡ false
number_taken c earlier =
    missing_after c earlier c.seq
    ∙ (ap (λ x. missing_of earlier c.seq && not (x || nat_le c.seq c.forward)) (eq-eqb c.seq c.seq refl) ∙ and_false (missing_of earlier c.seq))
  where
    and_false : (a : Bool) → (a && false) ≡ false
    and_false true = refl
    and_false false = refl

missing_true : (v : Number) → v ≡ Missing → is_missing v ≡ true
missing_true v e = ap is_missing e

unhanded_new : (b : Bool) → (b ≡ true → ⊥) → not b ≡ true
unhanded_new true h = absurd (h refl)
unhanded_new false h = refl

setting : (c : Chunk) (earlier : List Chunk) (handed : List Message) → Handings earlier handed → number_of earlier c.seq ≡ Missing → Setting (missing_of earlier) (missing_of (c ∷ earlier)) (unhanded handed) c.seq
setting c earlier handed hs miss = record {
  mono = missing_before c earlier;
  was = missing_true (number_of earlier c.seq) miss;
  now = number_taken c earlier;
  new = unhanded_new (has_number c.seq handed) (λ e. hs.known c.seq e miss);
}

dead_same : (l m : ℕ → Bool) (y : Run) → ((n : ℕ) → l n ≡ m n) → is_dead l y ≡ is_dead m y
dead_same l m y e =
    let F : Bool → Bool → Bool = λ b a. cond y.front (cond y.rear false (not a)) (cond b (cond y.rear false (not a)) true) in
    ap (λ a. F (l (y.first - 1)) a) (e (y.last + 1)) ∙ ap (λ b. F b (m (y.last + 1))) (e (y.first - 1))

living_is : (spans : List Span) (l : ℕ → Bool) (runs : List Run) → ((n : ℕ) → lacks spans n ≡ l n) → living spans runs ≡ filter (alive l) runs
living_is spans l runs e = filter_same (is_alive spans) (alive l) runs (λ y h. ap not (dead_same (lacks spans) l y e))

-- a chunk that holds its number
not_held_given : (v : Number) → v ≡ GivenUp → IsHeld v → ⊥
not_held_given Missing e h = h
not_held_given (Held p b) e h = cc
not_held_given GivenUp e h = h

grown : (c : Chunk) (earlier : List Chunk) → number_of earlier c.seq ≡ Missing → c.abandon ≡ false → c.forward < c.seq → Grown (number_of earlier) (number_of (c ∷ earlier)) c.seq c.part c.bytes
grown c earlier miss keep low = record {
  above = elim (cases_eq c.seq 0) [
    | inl z ↦ absurd (zero_known earlier (ap (number_of earlier) (sym z) ∙ miss))
    | inr ne ↦ omega (arith, ne)
  ];
  was = not_held_missing (number_of earlier c.seq) miss;
  is = elim (change c earlier c.seq) [
    | Unchanged e ↦ absurd (let x : true ≡ false = sym (ap is_missing (e ∙ miss)) ∙ number_taken c earlier in cc)
    | Holds e a is ↦ is
    | GivesUp e a m is ↦ absurd (cc (keep, a))
    | Passes le m is ↦ absurd (omega (arith, le, low))
  ];
  others = λ k ne. elim (change c earlier k) [
    | Unchanged e ↦ Alike (sym e)
    | Holds e a is ↦ absurd (ne e)
    | GivesUp e a m is ↦ absurd (ne e)
    | Passes le m is ↦ Neither (not_held_missing (number_of earlier k) m) (not_held_given (number_of (c ∷ earlier) k) is)
  ];
}

-- which runs there are with a fragment more
pub data Member (x : Run) (runs : List Run) (y : Run) : Type 0 where
  In_old : IsIn y runs → Member x runs y
  At_new : y.first ≡ x.first → Member x runs y
  Longer : (z : Run) → IsIn z runs → z.rear ≡ false → y.first ≡ z.first → Member x runs y

next_if : (w y z : Run) (ys : List Run) (t : Bool) → IsIn y (cond t (joined w z ∷ ys) (w ∷ z ∷ ys)) → (y.first ≡ w.first) ⊎ IsIn y (z ∷ ys)
next_if w y z ys true (inl e) = inl (ap (λ (r : Run). r.first) e)
next_if w y z ys true (inr k) = inr (inr k)
next_if w y z ys false (inl e) = inl (ap (λ (r : Run). r.first) e)
next_if w y z ys false (inr k) = inr k

next_members : (w y : Run) (ys : List Run) → IsIn y (join_next w ys) → (y.first ≡ w.first) ⊎ IsIn y ys
next_members w y [] (inl e) = inl (ap (λ (r : Run). r.first) e)
next_members w y [] (inr n) = absurd n
next_members w y (z ∷ ys) h = next_if w y z ys (fits w z) h

fits_lacks : (t r f : Bool) → cond t (cond r false (cond f false true)) false ≡ true → r ≡ false
fits_lacks true true f e = absurd cc
fits_lacks true false f e = refl
fits_lacks false r f e = absurd cc

before_members : (x y z : Run) (ys : List Run) (t : Bool) → fits z x ≡ t → IsIn y (cond t (join_next (joined z x) ys) (join_next x (z ∷ ys))) → Member x (z ∷ ys) y
before_members x y z ys true e h = elim (next_members (joined z x) y ys h) [
  | inl f ↦ Longer z (inl refl) (fits_lacks (z.last + 1 == x.first) z.rear x.front e) f
  | inr k ↦ In_old (inr k)
]
before_members x y z ys false e h = elim (next_members x y (z ∷ ys) h) [ inl f ↦ At_new f | inr k ↦ In_old k ]

more_members : (x y z : Run) (ys : List Run) → Member x ys y → Member x (z ∷ ys) y
more_members x y z ys (In_old h) = In_old (inr h)
more_members x y z ys (At_new e) = At_new e
more_members x y z ys (Longer w h r e) = Longer w (inr h) r e

members_if : (x y z : Run) (ys : List Run) (t : Bool) → (IsIn y (add_run x ys) → Member x ys y) → IsIn y (cond t (z ∷ add_run x ys) (join_before x (z ∷ ys))) → Member x (z ∷ ys) y
members_if x y z ys true ih (inl e) = In_old (inl e)
members_if x y z ys true ih (inr k) = more_members x y z ys (ih k)
members_if x y z ys false ih h = before_members x y z ys (fits z x) refl h

pub members : (x y : Run) (ys : List Run) → IsIn y (add_run x ys) → Member x ys y
members x y [] (inl e) = At_new (ap (λ (r : Run). r.first) e)
members x y [] (inr n) = absurd n
members x y (z ∷ ys) h = members_if x y z ys (not (fits z x) && nat_lt z.last x.first) (members x y ys) h

-- a chunk that holds no number
same_held : (c : Chunk) (earlier : List Chunk) → (c.abandon ≡ false → number_of earlier c.seq ≡ Missing → ⊥) → (k : ℕ) → SameHeld (number_of earlier k) (number_of (c ∷ earlier) k)
same_held c earlier not_new k = elim (missing_or (number_of earlier k)) [
  | inr known ↦ Alike (sym (stays c earlier k known))
  | inl miss ↦ elim (change c earlier k) [
    | Unchanged e ↦ Alike (sym e)
    | Holds e a is ↦ absurd (not_new a (ap (number_of earlier) (sym e) ∙ miss))
    | GivesUp e a m is ↦ Neither (not_held_missing (number_of earlier k) miss) (not_held_given (number_of (c ∷ earlier) k) is)
    | Passes le m is ↦ Neither (not_held_missing (number_of earlier k) miss) (not_held_given (number_of (c ∷ earlier) k) is)
  ]
]

above_top : (chunks : List Chunk) → Proper chunks → (k : ℕ) → highest chunks < k → IsHeld (number_of chunks k) → ⊥
above_top chunks proper k lt = not_held_missing (number_of chunks k) (high_missing chunks k proper lt)

runs_unchanged : (c : Chunk) (earlier : List Chunk) → Proper earlier → (c.abandon ≡ false → number_of earlier c.seq ≡ Missing → ⊥) → runs_of (c ∷ earlier) ≡ runs_of earlier
runs_unchanged c earlier proper not_new =
    let n = max c.seq (highest earlier) in
    runs_same (number_of earlier) (number_of (c ∷ earlier)) n (same_held c earlier not_new)
    ∙ runs_to_top (number_of earlier) (highest earlier) n (omega arith) (above_top earlier proper)

runs_changed : (c : Chunk) (earlier : List Chunk) → Proper earlier → number_of earlier c.seq ≡ Missing → c.abandon ≡ false → c.forward < c.seq
    → runs_of (c ∷ earlier) ≡ add_run (single c.seq c.part c.bytes) (runs_of earlier)
runs_changed c earlier proper miss keep low =
    let s = number_of earlier in
    let r = number_of (c ∷ earlier) in
    let g = grown c earlier miss keep low in
    let m = c.seq - 1 in
    let e : c.seq ≡ suc m = omega (arith, low) in
    let n = max c.seq (highest earlier) in
    let d = n - c.seq in
    let top : suc m + d ≡ n = omega (arith, e) in
    let g2 : Grown s r (suc m) c.part c.bytes = subst (λ (q : ℕ). Grown s r q c.part c.bytes) e g in
    let stop : IsHeld (s (suc (suc m + d))) → ⊥ = above_top earlier proper (suc (suc m + d)) (omega (arith, top)) in
    ap (runs_to r) (sym top)
    ∙ (runs_grow s r m d c.part c.bytes g2 stop
    ∙ (ap (λ q. add_run (single q c.part c.bytes) (runs_to s (suc m + d))) (sym e)
    ∙ ap (add_run (single c.seq c.part c.bytes)) (ap (runs_to s) top ∙ runs_to_top s (highest earlier) n (omega arith) (above_top earlier proper))))

holds_true : (a l : Bool) → (not a && l) ≡ true → (a ≡ false) × (l ≡ true)
holds_true true l e = absurd cc
holds_true false l e = (refl, e)

holds_false : (a l : Bool) → (not a && l) ≡ false → a ≡ false → l ≡ true → ⊥
holds_false a l e f g = let x : (not a && l) ≡ true = (rw (f, g) refl) in let y : true ≡ false = sym x ∙ e in cc

is_missing_of : (v : Number) → is_missing v ≡ true → v ≡ Missing
is_missing_of Missing e = refl
is_missing_of (Held p b) e = absurd cc
is_missing_of GivenUp e = absurd cc

handings_unchanged : (c : Chunk) (earlier : List Chunk) (handed : List Message) → Handings earlier handed → runs_of (c ∷ earlier) ≡ runs_of earlier → Handings (c ∷ earlier) handed
handings_unchanged c earlier handed hs e = record {
  known = λ n h. still_known c earlier n (hs.known n h);
  whole = λ y h n. hs.whole y (subst (λ (xs : List Run). IsIn y xs) e h) n;
}

handings_changed : (c : Chunk) (earlier : List Chunk) (handed : List Message) → Handings earlier handed → number_of earlier c.seq ≡ Missing → runs_of (c ∷ earlier) ≡ add_run (single c.seq c.part c.bytes) (runs_of earlier) → Handings (c ∷ earlier) handed
handings_changed c earlier handed hs miss e = record {
  known = λ n h. still_known c earlier n (hs.known n h);
  whole =
      λ y h n. elim (members (single c.seq c.part c.bytes) y (runs_of earlier) (subst (λ (xs : List Run). IsIn y xs) e h)) [
        | In_old k ↦ hs.whole y k n
        | At_new f ↦ absurd (hs.known c.seq (subst (λ (i : ℕ). has_number i handed ≡ true) f n) miss)
        | Longer z k r f ↦ absurd (let w = hs.whole z k (subst (λ (i : ℕ). has_number i handed ≡ true) f n) in let x : false ≡ true = sym r ∙ w.1 in cc)
      ];
}

pub record Stood (r : Receiver) (chunks : List Chunk) (handed : List Message) : Type 0 where
  pub stands : StandsFor r chunks handed
  pub handings : Handings chunks handed

taken_if : (r : Receiver) (c : Chunk) (chunks : List Chunk) (handed : List Message) (t : Bool) → StandsFor r chunks handed → Handings chunks handed → Proper chunks → (c.abandon ≡ false → c.forward < c.seq)
    → ((n : ℕ) → lacks (spans_after r c) n ≡ missing_of (c ∷ chunks) n) → holds r c ≡ t
    → (living (spans_after r c) (cond t (add_run (single c.seq c.part c.bytes) r.runs) r.runs) ≡ filter (is_kept (c ∷ chunks) handed) (runs_of (c ∷ chunks))) × Handings (c ∷ chunks) handed
taken_if r c chunks handed true s hs proper low lk e =
    let p = holds_true c.abandon (lacks r.spans c.seq) e in
    let miss = is_missing_of (number_of chunks c.seq) (sym (s.spans c.seq) ∙ p.1) in
    let runs = runs_changed c chunks proper miss p.0 (low p.0) in
    let x = single c.seq c.part c.bytes in
    let l2 = missing_of (c ∷ chunks) in
    let kept_runs = add_kept (missing_of chunks) l2 (unhanded handed) c.seq x (runs_of chunks) (setting c chunks handed hs miss) (old_runs chunks handed c.seq hs miss) (sorted_runs (number_of chunks) (highest chunks)) refl refl in (
      living_is (spans_after r c) l2 (add_run x r.runs) lk
          ∙ (ap (λ xs. filter (alive l2) (add_run x xs)) s.runs ∙ (sym kept_runs ∙ ap (filter (is_kept (c ∷ chunks) handed)) (sym runs))),
      handings_changed c chunks handed hs miss runs,
    )
taken_if r c chunks handed false s hs proper low lk e =
    let not_new : c.abandon ≡ false → number_of chunks c.seq ≡ Missing → ⊥ = λ a m. holds_false c.abandon (lacks r.spans c.seq) e a (s.spans c.seq ∙ missing_true (number_of chunks c.seq) m) in
    let runs = runs_unchanged c chunks proper not_new in
    let l1 = missing_of chunks in
    let l2 = missing_of (c ∷ chunks) in
    let twice : filter (kept l2 (unhanded handed)) (runs_of chunks) ≡ filter (alive l2) (filter (kept l1 (unhanded handed)) (runs_of chunks)) = twice_mono l1 l2 (unhanded handed) (runs_of chunks) (missing_before c chunks) in (
      living_is (spans_after r c) l2 r.runs lk ∙ (ap (filter (alive l2)) s.runs ∙ (sym twice ∙ ap (filter (is_kept (c ∷ chunks) handed)) (sym runs))),
      handings_unchanged c chunks handed hs runs,
    )

-- a chunk is taken
pub stands_taken : (r : Receiver) (c : Chunk) (chunks : List Chunk) (handed : List Message) → Stood r chunks handed → Proper chunks → (c.abandon ≡ false → c.forward < c.seq) → Stood (taken r c) (c ∷ chunks) handed
stands_taken r c chunks handed st proper low =
    let s = st.stands in
    let formed = apart_formed r.spans s.apart in
    let lk : (n : ℕ) → lacks (spans_after r c) n ≡ missing_of (c ∷ chunks) n =
    λ n. lacks_after r c n formed ∙ (ap (λ x. x && not ((n == c.seq) || nat_le n c.forward)) (s.spans n) ∙ sym (missing_after c chunks n)) in
    let both = taken_if r c chunks handed (holds r c) s st.handings proper low lk refl in
    record {
      stands = record {
        spans = lk;
        apart = apart_add c.seq c.seq (add_span 0 c.forward r.spans) (omega arith) (apart_add 0 c.forward r.spans (omega arith) s.apart);
        from_zero = from_zero_add c.seq c.seq (add_span 0 c.forward r.spans) (from_zero_add 0 c.forward r.spans s.from_zero);
        runs = both.0;
        last = ap (λ x. cond c.last (Some c.seq) x) s.last;
        highest = ap (max c.seq) s.highest;
      };
      handings = both.1;
    }
