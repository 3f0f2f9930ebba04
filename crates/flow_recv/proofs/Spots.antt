-- Where a number belongs among the spans, and what stands there when it has joined them.
use Rattle.std.proofs.Common.{◌≡◌, ℕ, ◌+◌, ◌^◌, ◌<◌, ◌≤◌, min, max, nat_le, ◌==◌, cond, not, Bool, true, false, ◌||◌, List, [], ◌∷◌, slice_get, Option, Some, None, refl, ap, sym, ◌∙◌, subst, arith, inl, inr, ◌⊎◌}
use Rattle.std.proofs.lemmas.Bool.{cases_lt, cases_eq, lt-ltb, le-ltb, le-leb, lt-leb, leb-true, ne_eqb, eq-eqb}
use Rattle.std.specs.Option.{unwrap_or}
use Rattle.flow_recv.specs.declared.spans.Span.{Span}
use Rattle.rtmfp_data_chunks.specs.HandsOver.{IsIn}
use Rattle.flow_recv.specs.Receiver.{Apart, span, covers, knows, lacks, add_span, end_of_first}
use Rattle.flow_recv.specs.declared.spans.Spot.TheVariants.{Behind, Alone}
use Rattle.flow_recv.specs.Above.{AllBegin, IsSpot, last_from, end_of, without, with_end, with_number, closed}
use Rattle.flow_recv.proofs.Knowing.{Formed, apart_formed}
use Rattle.flow_recv.proofs.Adding.{add_over, add_stop, add_join}
use Rattle.flow_recv.proofs.Sameness.{unknown_below, not_covered, add_swap}

-- ---- the last span that begins at or below a number

not_le : (a b : ℕ) → nat_le a b ≡ false → b < a
not_le a b f = elim (cases_lt b a) [ inl lt ↦ lt | inr le ↦ absurd (let g : true ≡ false = sym (le-leb a b le) ∙ f in cc) ]

none_if : (n : ℕ) (s : Span) (later : List Span) (t : Span) (b : Bool) → nat_le s.first n ≡ b → cond b (Some (unwrap_or (last_from n later) s)) (last_from n later) ≡ None
    → IsIn t (s ∷ later) → (last_from n later ≡ None → IsIn t later → n < t.first) → n < t.first
none_if n s later t true f e i ih = absurd cc
none_if n s later t false f e (inl same) ih = rw same (not_le s.first n f)
none_if n s later t false f e (inr j) ih = ih e j

-- all begin above it
pub none_begins : (n : ℕ) (ss : List Span) → last_from n ss ≡ None → (t : Span) → IsIn t ss → n < t.first
none_begins n [] e t i = absurd i
none_begins n (s ∷ later) e t i = none_if n s later t (nat_le s.first n) refl e i (λ f j. none_begins n later f t j)

-- what the search finds where the first span is passed
pub record Step (n : ℕ) (s : Span) (later : List Span) (h : Span) : Type 0 where
  pub here : (last_from n later ≡ None) ⊎ (last_from n later ≡ Some h)
  pub first : last_from n later ≡ None → (h ≡ s) × (s.first ≤ n)

some_same : (x y : Span) → Some x ≡ Some y → y ≡ x
some_same x y f = cc

step_if : (n : ℕ) (s : Span) (later : List Span) (h : Span) (o : Option Span) (b : Bool) → last_from n later ≡ o → nat_le s.first n ≡ b → cond b (Some (unwrap_or o s)) o ≡ Some h → Step n s later h
step_if n s later h None true f g k = record { here = inl f; first = λ _. (some_same s h k, leb-true s.first n g) }
step_if n s later h None false f g k = absurd cc
step_if n s later h (Some t) true f g k = record { here = inr (f ∙ k); first = λ u. absurd (let w : Some t ≡ None = sym f ∙ u in cc) }
step_if n s later h (Some t) false f g k = record { here = inr (f ∙ k); first = λ u. absurd (let w : Some t ≡ None = sym f ∙ u in cc) }

pub found_step : (n : ℕ) (s : Span) (later : List Span) (h : Span) → last_from n (s ∷ later) ≡ Some h → Step n s later h
found_step n s later h e = step_if n s later h (last_from n later) (nat_le s.first n) refl refl e

pub found_in : (n : ℕ) (ss : List Span) (h : Span) → last_from n ss ≡ Some h → IsIn h ss × (h.first ≤ n)
found_in n [] h e = absurd cc
found_in n (s ∷ later) h e =
    let step = found_step n s later h e in
    elim step.here [
      | inl none ↦ let f = step.first none in (inl f.0, subst (λ (x : Span). x.first ≤ n) (sym f.0) f.1)
      | inr there ↦ let r = found_in n later h there in (inr r.0, r.1)
    ]

pub in_formed : (ss : List Span) → Apart ss → (t : Span) → IsIn t ss → t.first ≤ t.last
in_formed [] a t i = absurd i
in_formed (s ∷ later) a t (inl e) = rw e a.0
in_formed (s ∷ later) a t (inr i) = in_formed later a.2 t i

-- only which spans begin at or below counts
pub last_from_same : (n m : ℕ) (ss : List Span) → ((t : Span) → IsIn t ss → nat_le t.first n ≡ nat_le t.first m) → last_from n ss ≡ last_from m ss
last_from_same n m [] h = refl
last_from_same n m (s ∷ later) h =
    ap (λ (b : Bool). cond b (Some (unwrap_or (last_from n later) s)) (last_from n later)) (h s (inl refl))
    ∙ ap (λ (o : Option Span). cond (nat_le s.first m) (Some (unwrap_or o s)) o) (last_from_same n m later (λ t i. h t (inr i)))

begins_in : (ss : List Span) → AllBegin ss → (t : Span) → IsIn t ss → t.first < 2 ^ 64
begins_in [] a t i = absurd i
begins_in (s ∷ later) a t (inl e) = rw e a.0
begins_in (s ∷ later) a t (inr i) = begins_in later a.1 t i

le_same : (a n m : ℕ) → (a ≤ n → a ≤ m) → (a ≤ m → a ≤ n) → nat_le a n ≡ nat_le a m
le_same a n m f g = elim (cases_lt n a) [
  | inl lt ↦ elim (cases_lt m a) [
    | inl lt' ↦ lt-leb a n lt ∙ sym (lt-leb a m lt')
    | inr le ↦ absurd (let k = g le in omega (arith, k, lt))
  ]
  | inr le ↦ le-leb a n le ∙ sym (le-leb a m (f le))
]

-- no span begins beyond 64 bits
pub searched : (n key : ℕ) (ss : List Span) → AllBegin ss → key ≡ min n 18446744073709551615 → last_from key ss ≡ last_from n ss
searched n key ss a e = last_from_same key n ss (λ t i. let f = begins_in ss a t i in le_same t.first key n (λ le. omega (arith, le, e)) (λ le. omega (arith, le, e, f)))

-- ---- a number that is known

or_none : (a : Bool) → (a || false) ≡ a
or_none true = refl
or_none false = refl

covers_from : (n : ℕ) (s : Span) → s.first ≤ n → covers n s ≡ nat_le n s.last
covers_from n s le = rw (le-leb s.first n le) refl

pub unknown_from : (n : ℕ) (ss : List Span) → last_from n ss ≡ None → knows ss n ≡ false
unknown_from n ss e = unknown_below n n ss (none_begins n ss e) (omega arith)

pub known_from : (n : ℕ) (ss : List Span) (h : Span) → Apart ss → last_from n ss ≡ Some h → knows ss n ≡ nat_le n h.last
known_from n [] h a e = absurd cc
known_from n (s ∷ later) h a e =
    let step = found_step n s later h e in
    elim step.here [
      | inl none ↦
          let f = step.first none in
          ap (λ x. covers n s || x) (unknown_from n later none) ∙ (or_none (covers n s) ∙ (covers_from n s f.1 ∙ ap (λ (t : Span). nat_le n t.last) (sym f.0)))
      | inr there ↦
          let i = found_in n later h there in
          let up = a.1 h i.0 in
          ap (λ x. x || knows later n) (not_covered n s (omega (arith, up, i.1))) ∙ known_from n later h a.2 there
    ]

-- a number that is missing begins no span
pub begins_none : (n : ℕ) (ss : List Span) → Formed ss → knows ss n ≡ false → end_of n ss ≡ None
begins_none n [] f e = refl
begins_none n (s ∷ later) f e =
    let both = or_false (covers n s) (knows later n) e in
    elim (cases_eq n s.first) [
      | inl same ↦ absurd (let c : covers n s ≡ true = rw (le-leb s.first n (omega (arith, same)), le-leb n s.last (omega (arith, same, f.0))) refl in let g : true ≡ false = sym c ∙ both.0 in cc)
      | inr other ↦ rw (ne_eqb n s.first other) (begins_none n later f.1 both.1)
    ]
  where
    or_false : (a b : Bool) → (a || b) ≡ false → (a ≡ false) × (b ≡ false)
    or_false true b g = absurd cc
    or_false false b g = (refl, g)

-- ---- the end of the first span after a forward number

pub raised_none : (end : ℕ) (ss : List Span) → last_from (end + 1) ss ≡ None → end_of_first (add_span 0 end ss) ≡ end
raised_none end [] e = refl
raised_none end (s ∷ later) e =
    let lt = none_begins (end + 1) (s ∷ later) e s (inl refl) in
    ap end_of_first (add_stop 0 end s later (omega arith) lt)

raised_more : (end : ℕ) (s : Span) (later : List Span) → Apart (s ∷ later) → last_from (max end s.last + 1) later ≡ last_from (end + 1) later
raised_more end s later a = last_from_same (max end s.last + 1) (end + 1) later (λ t i. let f = a.1 t i in le_same t.first (max end s.last + 1) (end + 1) (λ le. omega (arith, le, f)) (λ le. omega (arith, le)))

joined_end : (end : ℕ) (s : Span) (later : List Span) → s.first ≤ end + 1 → end_of_first (add_span 0 end (s ∷ later)) ≡ end_of_first (add_span 0 (max end s.last) later)
joined_end end s later le =
    let z : min 0 s.first ≡ 0 = omega arith in
    ap end_of_first (add_join 0 end s later (omega arith) le) ∙ ap (λ m. end_of_first (add_span m (max end s.last) later)) z

pub raised_some : (end : ℕ) (ss : List Span) (h : Span) → Apart ss → last_from (end + 1) ss ≡ Some h → end_of_first (add_span 0 end ss) ≡ max end h.last
raised_some end [] h a e = absurd cc
raised_some end (s ∷ later) h a e =
    let step = found_step (end + 1) s later h e in
    elim step.here [
      | inl none ↦
          let f = step.first none in
          joined_end end s later f.1 ∙ (raised_none (max end s.last) later (raised_more end s later a ∙ none) ∙ ap (λ (t : Span). max end t.last) (sym f.0))
      | inr there ↦
          let i = found_in (end + 1) later h there in
          let up = a.1 h i.0 in
          let form = in_formed later a.2 h i.0 in
          let last : max (max end s.last) h.last ≡ max end h.last = omega (arith, up, form) in
          joined_end end s later (omega (arith, up, i.1, a.0)) ∙ (raised_some (max end s.last) later h a.2 (raised_more end s later a ∙ there) ∙ last)
    ]

-- the same, where the first span is from 0
pub from_first : (t to : ℕ) (above : List Span) → add_span 0 to (span 0 t ∷ above) ≡ add_span 0 (max t to) above
from_first t to above =
    let m : max to t ≡ max t to = omega arith in
    add_join 0 to (span 0 t) above (omega arith) (omega arith) ∙ ap (λ e. add_span 0 e above) m

-- ---- a number that joins the span before it and the span after it

end_above : (k : ℕ) (ss : List Span) → ((t : Span) → IsIn t ss → k < t.first) → end_of k ss ≡ None
end_above k [] h = refl
end_above k (s ∷ later) h =
    let lt = h s (inl refl) in
    rw (ne_eqb k s.first (λ e. omega (arith, e, lt))) (end_above k later (λ t i. h t (inr i)))

without_above : (k : ℕ) (ss : List Span) → ((t : Span) → IsIn t ss → k < t.first) → without k ss ≡ ss
without_above k [] h = refl
without_above k (s ∷ later) h =
    let lt = h s (inl refl) in
    rw (ne_eqb k s.first (λ e. omega (arith, e, lt))) (ap (λ zs. s ∷ zs) (without_above k later (λ t i. h t (inr i))))

add_before : (a b : ℕ) (ss : List Span) → a ≤ b → Apart ss → ((t : Span) → IsIn t ss → b + 1 < t.first) → add_span a b ss ≡ span a b ∷ ss
add_before a b [] le p h = refl
add_before a b (s ∷ later) le p h =
    let lt = h s (inl refl) in
    add_stop a b s later (omega (arith, le, lt, p.0)) lt

tail_closed : (a n : ℕ) (later : List Span) → a ≤ n → Apart later → ((t : Span) → IsIn t later → n < t.first)
    → span a (unwrap_or (end_of (n + 1) later) n) ∷ without (n + 1) later ≡ add_span a n later
tail_closed a n [] le p h = refl
tail_closed a n (t ∷ rest) le p h =
    let lt = h t (inl refl) in
    elim (cases_eq (n + 1) t.first) [
      | inl same ↦
          let mi : min a t.first ≡ a = omega (arith, le, lt) in
          let ma : max n t.last ≡ t.last = omega (arith, lt, p.0) in
          rw (eq-eqb (n + 1) t.first same) (
          sym (
          add_join a n t rest (omega (arith, le, lt, p.0)) (omega (arith, same))
          ∙ (ap (λ x. add_span x (max n t.last) rest) mi ∙ (ap (λ x. add_span a x rest) ma ∙ add_before a t.last rest (omega (arith, le, lt, p.0)) p.2 p.1))
          )
          )
      | inr other ↦
          let far : (u : Span) → IsIn u (t ∷ rest) → n + 1 < u.first =
          λ u i. elim i [ inl e ↦ (rw e (omega (arith, lt, other))) | inr j ↦ let g = p.1 u j in omega (arith, g, lt, p.0) ] in
          ap (λ o. span a (unwrap_or o n) ∷ without (n + 1) (t ∷ rest)) (end_above (n + 1) (t ∷ rest) far)
          ∙ (ap (λ (zs : List Span). span a n ∷ zs) (without_above (n + 1) (t ∷ rest) far) ∙ sym (add_before a n (t ∷ rest) le p far))
    ]

-- a span that lies before stays
closed_step : (first n : ℕ) (s : Span) (later : List Span) → s.first < first → s.first ≤ n → closed first n (s ∷ later) ≡ s ∷ closed first n later
closed_step first n s later lt le =
    rw (ne_eqb (n + 1) s.first (λ e. omega (arith, e, le)), ne_eqb first s.first (λ e. omega (arith, e, lt))) refl

-- the span that is reached
closed_here : (n : ℕ) (s : Span) (later : List Span) → s.first ≤ n → closed s.first n (s ∷ later) ≡ span s.first (unwrap_or (end_of (n + 1) later) n) ∷ without (n + 1) later
closed_here n s later le =
    rw (ne_eqb (n + 1) s.first (λ e. omega (arith, e, le)), eq-eqb s.first s.first refl) refl

pub closed_behind : (n : ℕ) (ss : List Span) (h : Span) → Apart ss → last_from n ss ≡ Some h → h.last + 1 ≡ n → closed h.first n ss ≡ add_span n n ss
closed_behind n [] h a e l = absurd cc
closed_behind n (s ∷ later) h a e l =
    let step = found_step n s later h e in
    elim step.here [
      | inl none ↦
          let f = step.first none in
          let l' : s.last + 1 ≡ n = subst (λ (t : Span). t.last + 1 ≡ n) f.0 l in
          let mi : min n s.first ≡ s.first = omega (arith, f.1) in
          let ma : max n s.last ≡ n = omega (arith, l') in
          ap (λ (t : Span). closed t.first n (s ∷ later)) f.0
          ∙ (closed_here n s later f.1
          ∙ (tail_closed s.first n later f.1 a.2 (none_begins n later none)
          ∙ sym (add_join n n s later (omega (arith, l')) (omega (arith, f.1)) ∙ (ap (λ x. add_span x (max n s.last) later) mi ∙ ap (λ x. add_span s.first x later) ma))))
      | inr there ↦
          let i = found_in n later h there in
          let up = a.1 h i.0 in
          closed_step h.first n s later (omega (arith, up, a.0)) (omega (arith, up, a.0, i.1))
          ∙ (ap (λ zs. s ∷ zs) (closed_behind n later h a.2 there l) ∙ sym (add_over n n s later (omega (arith, up, i.1))))
    ]

both_some : (b : Bool) (x s : Span) → cond b (Some (unwrap_or (Some x) s)) (Some x) ≡ Some x
both_some true x s = refl
both_some false x s = refl

found_later : (n : ℕ) (s : Span) (later : List Span) (h : Span) → last_from n later ≡ Some h → last_from n (s ∷ later) ≡ Some h
found_later n s later h e = ap (λ (o : Option Span). cond (nat_le s.first n) (Some (unwrap_or o s)) o) e ∙ both_some (nat_le s.first n) h s

found_here : (n : ℕ) (s : Span) (later : List Span) → last_from n later ≡ None → s.first ≤ n → last_from n (s ∷ later) ≡ Some s
found_here n s later e le =
    ap (λ (b : Bool). cond b (Some (unwrap_or (last_from n later) s)) (last_from n later)) (le-leb s.first n le) ∙ ap (λ (o : Option Span). Some (unwrap_or o s)) e

before_if : (n : ℕ) (s : Span) (later : List Span) (o : Option Span) → last_from n later ≡ o → Apart (s ∷ later) → ((h : Span) → last_from n (s ∷ later) ≡ Some h → h.last + 1 < n) → s.first ≤ n → s.last + 1 < n
before_if n s later None e a f le = f s (found_here n s later e le)
before_if n s later (Some g) e a f le = let j = found_in n later g e in let up = a.1 g j.0 in omega (arith, up, j.1)

-- a number that touches no span before it lies behind all that begin at or below it
pub all_before : (n : ℕ) (ss : List Span) → Apart ss → ((h : Span) → last_from n ss ≡ Some h → h.last + 1 < n) → (t : Span) → IsIn t ss → t.first ≤ n → t.last + 1 < n
all_before n [] a f t i le = absurd i
all_before n (s ∷ later) a f t (inl same) le =
    subst (λ (u : Span). u.last + 1 < n) (sym same) (before_if n s later (last_from n later) refl a f (subst (λ (u : Span). u.first ≤ n) same le))
all_before n (s ∷ later) a f t (inr j) le = all_before n later a.2 (λ h k. f h (found_later n s later h k)) t j le

closed_number : (n : ℕ) (ss : List Span) → Apart ss → ((t : Span) → IsIn t ss → t.first ≤ n → t.last + 1 < n) → closed n n (with_number n ss) ≡ add_span n n ss
closed_number n [] a f = closed_here n (span n n) [] (omega arith) ∙ tail_closed n n [] (omega arith) a (λ t i. absurd i)
closed_number n (s ∷ later) a f = elim (cases_lt n s.first) [
  | inl lt ↦
      rw (lt-ltb n s.first lt) (
      closed_here n (span n n) (s ∷ later) (omega arith)
      ∙ tail_closed n n (s ∷ later) (omega arith) a (λ t i. elim i [ inl e ↦ (rw e lt) | inr j ↦ let g = a.1 t j in omega (arith, g, lt, a.0) ])
      )
  | inr le ↦
      let up = f s (inl refl) le in
      rw (le-ltb n s.first le, ne_eqb n s.first (λ e. omega (arith, e, up, a.0))) (
      closed_step n n s (with_number n later) (omega (arith, up, a.0)) le
      ∙ (ap (λ zs. s ∷ zs) (closed_number n later a.2 (λ t i. f t (inr i))) ∙ sym (add_over n n s later up))
      )
]

pub closed_alone : (n : ℕ) (ss : List Span) → Apart ss → ((h : Span) → last_from n ss ≡ Some h → h.last + 1 < n) → closed n n (with_number n ss) ≡ add_span n n ss
closed_alone n ss a f = closed_number n ss a (all_before n ss a f)

-- a number that was put in and is taken out again
pub without_number : (n : ℕ) (ss : List Span) → end_of n ss ≡ None → without n (with_number n ss) ≡ ss
without_number n [] e = rw (eq-eqb n n refl) refl
without_number n (s ∷ later) e = elim (cases_lt n s.first) [
  | inl lt ↦ rw (lt-ltb n s.first lt, eq-eqb n n refl) refl
  | inr le ↦ elim (cases_eq n s.first) [
    | inl same ↦ absurd (let g : Some s.last ≡ None = subst (λ (b : Bool). cond b (Some s.last) (end_of n later) ≡ None) (eq-eqb n s.first same) e in cc)
    | inr other ↦
        let no = ne_eqb n s.first other in
        let e' : end_of n later ≡ None = subst (λ (b : Bool). cond b (Some s.last) (end_of n later) ≡ None) no e in
        rw (le-ltb n s.first le, no) (rw no (ap (λ zs. s ∷ zs) (without_number n later e')))
  ]
]

pub end_none : (n last : ℕ) (ss : List Span) → end_of n ss ≡ None → with_end n last ss ≡ ss
end_none n last [] e = refl
end_none n last (s ∷ later) e = none_end_if n last s later (n == s.first) e (end_none n last later)
  where
    none_end_if : (k m : ℕ) (t : Span) (more : List Span) (b : Bool) → cond b (Some t.last) (end_of k more) ≡ None → (end_of k more ≡ None → with_end k m more ≡ more) → cond b (span t.first m ∷ more) (t ∷ with_end k m more) ≡ t ∷ more
    none_end_if k m t more true f ih = absurd cc
    none_end_if k m t more false f ih = ap (λ zs. t ∷ zs) (ih f)

-- ---- spans that begin with numbers of 64 bits

pub begins_number : (n : ℕ) (ss : List Span) → n < 2 ^ 64 → AllBegin ss → AllBegin (with_number n ss)
begins_number n [] lt a = (lt, tt)
begins_number n (s ∷ later) lt a = elim (cases_lt n s.first) [
  | inl l ↦ rw (lt-ltb n s.first l) (lt, a)
  | inr l ↦ elim (cases_eq n s.first) [
    | inl same ↦ rw (le-ltb n s.first l, eq-eqb n s.first same) a
    | inr other ↦ rw (le-ltb n s.first l, ne_eqb n s.first other) (a.0, begins_number n later lt a.1)
  ]
]

pub begins_without : (n : ℕ) (ss : List Span) → AllBegin ss → AllBegin (without n ss)
begins_without n [] a = tt
begins_without n (s ∷ later) a = elim (cases_eq n s.first) [
  | inl same ↦ rw (eq-eqb n s.first same) a.1
  | inr other ↦ rw (ne_eqb n s.first other) (a.0, begins_without n later a.1)
]

pub begins_end : (n last : ℕ) (ss : List Span) → AllBegin ss → AllBegin (with_end n last ss)
begins_end n last [] a = tt
begins_end n last (s ∷ later) a = elim (cases_eq n s.first) [
  | inl same ↦ rw (eq-eqb n s.first same) a
  | inr other ↦ rw (ne_eqb n s.first other) (a.0, begins_end n last later a.1)
]

-- none begins with a number that has more
pub end_beyond : (n : ℕ) (ss : List Span) → AllBegin ss → 2 ^ 64 ≤ n → end_of n ss ≡ None
end_beyond n [] a le = refl
end_beyond n (s ∷ later) a le = rw (ne_eqb n s.first (λ e. omega (arith, e, le, a.0))) (end_beyond n later a.1 le)

pub without_beyond : (n : ℕ) (ss : List Span) → AllBegin ss → 2 ^ 64 ≤ n → without n ss ≡ ss
without_beyond n [] a le = refl
without_beyond n (s ∷ later) a le = rw (ne_eqb n s.first (λ e. omega (arith, e, le, a.0))) (ap (λ zs. s ∷ zs) (without_beyond n later a.1 le))

-- ---- a number and a forward number

or_false_parts : (a b : Bool) → not (a || b) ≡ true → (a ≡ false) × (b ≡ false)
or_false_parts true b e = absurd cc
or_false_parts false true e = absurd cc
or_false_parts false false e = (refl, refl)

-- a number that is missing lies behind the span before it
missing_behind : (t n : ℕ) (ss : List Span) (h : Span) → Apart ss → lacks (span 0 t ∷ ss) n ≡ true → last_from n ss ≡ Some h → h.last < n
missing_behind t n ss h a lack e =
    let no = or_false_parts (covers n (span 0 t)) (knows ss n) lack in
    not_le n h.last (sym (known_from n ss h a e) ∙ no.1)

-- and begins no span
pub missing_begins : (t n : ℕ) (ss : List Span) → Apart (span 0 t ∷ ss) → lacks (span 0 t ∷ ss) n ≡ true → end_of n ss ≡ None
missing_begins t n ss a lack = let no = or_false_parts (covers n (span 0 t)) (knows ss n) lack in begins_none n ss (apart_formed ss a.2) no.1

-- what is joined above the first span stands there before a forward number is taken, too
above_first : (t f n : ℕ) (ss more : List Span) → Apart (span 0 t ∷ ss) → t + 1 < n → more ≡ add_span n n ss → add_span 0 f (span 0 t ∷ more) ≡ add_span n n (add_span 0 f (span 0 t ∷ ss))
above_first t f n ss more a lt e =
    ap (λ zs. add_span 0 f (span 0 t ∷ zs)) e
    ∙ (ap (λ zs. add_span 0 f zs) (sym (add_over n n (span 0 t) ss lt)) ∙ add_swap 0 f n n (span 0 t ∷ ss) (omega arith) (omega arith) a)

pub marked_behind : (t f n first : ℕ) (ss : List Span) → Apart (span 0 t ∷ ss) → lacks (span 0 t ∷ ss) n ≡ true → IsSpot (max t f) n ss (Behind first)
    → add_span 0 f (span 0 t ∷ closed first n ss) ≡ add_span n n (add_span 0 f (span 0 t ∷ ss))
marked_behind t f n first ss a lack spot =
    let lt = spot.0 in
    let h = spot.1 in
    let found = spot.2 in
    let behind = missing_behind t n ss h a.2 lack found in
    let near = spot.4 in
    above_first t f n ss (closed first n ss) a (omega (arith, lt)) (ap (λ m. closed m n ss) (sym spot.3) ∙ closed_behind n ss h a.2 found (omega (arith, behind, near)))

pub marked_alone : (t f n : ℕ) (ss : List Span) → Apart (span 0 t ∷ ss) → IsSpot (max t f) n ss Alone
    → add_span 0 f (span 0 t ∷ closed n n (with_number n ss)) ≡ add_span n n (add_span 0 f (span 0 t ∷ ss))
marked_alone t f n ss a spot = let lt = spot.0 in above_first t f n ss (closed n n (with_number n ss)) a (omega (arith, lt)) (closed_alone n ss a.2 spot.1)

-- ---- where a forward number stops

pub stops_before : (end : ℕ) (ss : List Span) (h : Span) → slice_get ss 0 ≡ Some h → end + 1 < h.first → span 0 end ∷ ss ≡ add_span 0 end ss
stops_before end [] h e lt = absurd cc
stops_before end (s ∷ later) h e lt =
    let same = some_same s h e in
    sym (add_stop 0 end s later (omega arith) (subst (λ (t : Span). end + 1 < t.first) same lt))

pub stops_at_end : (end : ℕ) (ss : List Span) → slice_get ss 0 ≡ None → span 0 end ∷ ss ≡ add_span 0 end ss
stops_at_end end [] e = refl
stops_at_end end (s ∷ later) e = absurd cc
