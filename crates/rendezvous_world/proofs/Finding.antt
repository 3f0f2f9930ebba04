-- The datagram with a number, by the line that sent it.
use Rattle.std.proofs.Common.{◌≡◌, ◌≢◌, ℕ, zero, suc, ◌+◌, ◌-◌, ◌<◌, ◌≤◌, ◌==◌, nat_lt, true, false, if◌then◌else◌, Bool, List, [], ◌∷◌, ◌++◌, length, get_or, Option, Some, None, IfSome, refl, sym, ap, ◌∙◌, subst, arith, append-nil}
use Rattle.std.specs.List.{AllWithin}
use Rattle.std.specs.List.Sorted.{IsPartitionedBy}
use Rattle.std.proofs.lemmas.Bool.Decides.{nat_tests}
use Rattle.std.proofs.lemmas.Bool.{ltb-true, ltb-false, lt-ltb}
use Rattle.std.proofs.lemmas.List.{get_or_default}
use Rattle.endpoint_model.specs.declared.entry.Entry.{Entry}
use Rattle.endpoint_model.specs.Views.{Sending, out_in}
use Rattle.endpoint_model.specs.Added.{AreShort}
use Rattle.rendezvous_world.specs.declared.journal.JournalLine.{JournalLine}
use Rattle.rendezvous_world.specs.declared.sent.Letter.{Letter}
use Rattle.rendezvous_world.specs.Datagrams.{nth}
use Rattle.rendezvous_world.specs.Inside.{IsCut, count_in, sent_found, sent_of, starts_after}
use Rattle.rendezvous_world.specs.Sent.{Sent, sent_among, sent_from, sent_in, with_sent}

-- ---- the nth of a list

pub nth_none : {A : Type 0} (xs : List A) → nth xs 0 ≡ None
nth_none [] = refl
nth_none (x ∷ xs) = refl

pub test_other : {A : Type 0} (n m : ℕ) (x y : A) → n ≢ m → (if n == m then x else y) ≡ y
test_other n m x y h = grind (arith, nat_tests)

pub test_same : {A : Type 0} (n m : ℕ) (x y : A) → n ≡ m → (if n == m then x else y) ≡ x
test_same n m x y h = grind (arith, nat_tests)

pub nth_first : {A : Type 0} (x : A) (xs : List A) (n : ℕ) → n ≡ 1 → nth (x ∷ xs) n ≡ Some x
nth_first x xs n h = test_other n 0 None _ (λ e. omega arith) ∙ test_same n 1 (Some x) _ h

pub nth_later : {A : Type 0} (x : A) (xs : List A) (n : ℕ) → 1 < n → nth (x ∷ xs) n ≡ nth xs (n - 1)
nth_later x xs n h = test_other n 0 None _ (λ e. omega arith) ∙ test_other n 1 (Some x) _ (λ e. omega arith)

pub nth_front : {A : Type 0} (xs ys : List A) (n : ℕ) → n ≤ length xs → nth (xs ++ ys) n ≡ nth xs n
nth_front [] ys n h = ap (nth ys) (let z : n ≡ 0 = omega arith in z) ∙ nth_none ys
nth_front (x ∷ xs) ys n h = ap (λ o. if n == 0 then None else if n == 1 then Some x else o) (nth_front xs ys (n - 1) (omega arith))

pub nth_back : {A : Type 0} (xs ys : List A) (n : ℕ) → length xs < n → nth (xs ++ ys) n ≡ nth ys (n - length xs)
nth_back [] ys n h = ap (nth ys) (let z : n ≡ n - 0 = omega arith in z)
nth_back (x ∷ xs) ys n h =
    nth_later x (xs ++ ys) n (omega arith) ∙ nth_back xs ys (n - 1) (omega arith) ∙ ap (nth ys) (let z : n - 1 - length xs ≡ n - suc (length xs) = omega arith in z)

-- ---- starts

above : (lines : List JournalLine) (before j d : ℕ) → j < length (starts_after before lines) → before ≤ get_or (starts_after before lines) j d
above [] before j d lt = absurd (omega arith)
above (x ∷ lines) before zero d lt = omega arith
above (x ∷ lines) before (suc j) d lt = let g = above lines (before + count_in x) j d (omega (arith, lt)) in omega (arith, g)

rising : (lines : List JournalLine) (before i j d : ℕ) → i ≤ j → j < length (starts_after before lines) → get_or (starts_after before lines) i d ≤ get_or (starts_after before lines) j d
rising [] before i j d le lt = absurd (omega arith)
rising (x ∷ lines) before zero zero d le lt = omega arith
rising (x ∷ lines) before zero (suc j) d le lt = let g = above lines (before + count_in x) j d (omega (arith, lt)) in omega (arith, g)
rising (x ∷ lines) before (suc i) zero d le lt = absurd (omega (arith, le))
rising (x ∷ lines) before (suc i) (suc j) d le lt = rising lines (before + count_in x) i j d (omega (arith, le)) (omega (arith, lt))

pub starts_parted : (n : ℕ) (lines : List JournalLine) → IsPartitionedBy (λ (s : ℕ). nat_lt s n) (starts_after 0 lines)
starts_parted n lines i j d le lt e = let g = rising lines 0 i j d le lt in let h = ltb-true _ n e in lt-ltb _ n (omega (arith, g, h))

pub length-starts : (lines : List JournalLine) (before : ℕ) → length (starts_after before lines) ≡ length lines
length-starts [] before = refl
length-starts (x ∷ lines) before = ap suc (length-starts lines (before + count_in x))

-- ---- a guess that is right

pub below_cut : (n : ℕ) (starts : List ℕ) (count : ℕ) → IsPartitionedBy (λ (s : ℕ). nat_lt s n) starts → IsCut starts n count → AllWithin (λ (s : ℕ). nat_lt s n ≡ true) starts 0 count
below_cut n starts count parted cut k d low high =
    let some = cut.some in
    let inside = cut.inside in
    let last : get_or starts (count - 1) d ≡ get_or starts (count - 1) 0 = get_or_default starts (count - 1) d 0 (omega arith) in
    let below = cut.below in
    parted k (count - 1) d (omega arith) (omega arith) (lt-ltb (get_or starts (count - 1) d) n (omega (arith, last, below)))

pub above_cut : (n : ℕ) (starts : List ℕ) (count : ℕ) → IsPartitionedBy (λ (s : ℕ). nat_lt s n) starts → IsCut starts n count → AllWithin (λ (s : ℕ). nat_lt s n ≡ false) starts count (length starts)
above_cut n starts count parted cut k d low high = by (nat_lt (get_or starts k d) n) refl
  where
    by : (t : Bool) → nat_lt (get_or starts k d) n ≡ t → nat_lt (get_or starts k d) n ≡ false
    by false e = e
    by true e =
        let inside : count < length starts = omega arith in
        let first : get_or starts count d ≡ get_or starts count 0 = get_or_default starts count d 0 inside in
        let above = cut.above inside in
        let below = ltb-true (get_or starts count d) n (parted count k d low high e) in
        absurd (omega (arith, first, above, below))

-- the datagrams of a line
abbrev pub sent_by : JournalLine → List Sent
sent_by line = sent_among line.end line.out.entries

-- ---- the line of a number

pub before_all : (lines : List JournalLine) (before n : ℕ) → AllWithin (λ s. nat_lt s n ≡ false) (starts_after before lines) 0 (length (starts_after before lines)) → nth (sent_in lines) (n - before) ≡ None
before_all [] before n h = refl
before_all (x ∷ lines) before n h =
    let f : n ≤ before = ltb-false before n (h 0 0 (omega arith) (omega arith)) in
    let z : n - before ≡ 0 = omega arith in
    ap (nth (sent_in (x ∷ lines))) z ∙ nth_none (sent_in (x ∷ lines))

pub at_line : (lines : List JournalLine) (before n at : ℕ) (line : JournalLine) → AllWithin (λ s. nat_lt s n ≡ true) (starts_after before lines) 0 (suc at) →
    AllWithin (λ s. nat_lt s n ≡ false) (starts_after before lines) (suc at) (length (starts_after before lines)) → at < length lines → line ≡ get_or lines at line →
    nth (sent_in lines) (n - before) ≡ nth (sent_by line) (n - get_or (starts_after before lines) at 0)
at_line [] before n at line low high lt is = absurd (omega arith)
at_line (x ∷ []) before n zero line low high lt is = ap (λ xs. nth xs (n - before)) (append-nil (sent_by x)) ∙ ap (λ (r : JournalLine). nth (sent_by r) (n - before)) (sym is)
at_line (x ∷ y ∷ lines) before n zero line low high lt is =
    let f : n ≤ before + count_in x = ltb-false _ n (high 1 0 (omega arith) (omega arith)) in
    nth_front (sent_by x) (sent_in (y ∷ lines)) (n - before) (omega arith) ∙ ap (λ (r : JournalLine). nth (sent_by r) (n - before)) (sym is)
at_line (x ∷ []) before n (suc at) line low high lt is = absurd (omega (arith, lt))
at_line (x ∷ y ∷ lines) before n (suc at) line low high lt is =
    let here : before + count_in x < n = ltb-true _ n (low 1 0 (omega arith) (omega arith)) in
    nth_back (sent_by x) (sent_in (y ∷ lines)) (n - before) (omega (arith, here))
    ∙ ap (nth (sent_in (y ∷ lines))) (let z : n - before - count_in x ≡ n - (before + count_in x) = omega arith in z)
    ∙ at_line (y ∷ lines) (before + count_in x) n at line (λ k d a b. low (suc k) d (omega arith) (omega (arith, b))) (λ k d a b. high (suc k) d (omega (arith, a)) (omega (arith, b))) (omega (arith, lt)) is

pub before_first : (lines : List JournalLine) (starts : List ℕ) (n : ℕ) → starts ≡ starts_after 0 lines → AllWithin (λ (s : ℕ). nat_lt s n ≡ false) starts 0 (length starts) → None ≡ nth (sent_in lines) n
before_first lines starts n is none =
    sym (before_all lines 0 n (subst (λ (ss : List ℕ). AllWithin (λ (s : ℕ). nat_lt s n ≡ false) ss 0 (length ss)) is none))
    ∙ ap (nth (sent_in lines)) (let z : n - 0 ≡ n = omega arith in z)

pub behind_within : (lines : List JournalLine) (starts : List ℕ) (behind : ℕ) → starts ≡ starts_after 0 lines → behind ≤ length starts → behind ≤ length lines
behind_within lines starts behind is le = omega (arith, ap (λ (ss : List ℕ). length ss) is, length-starts lines 0)

pub found_at : (lines : List JournalLine) (starts : List ℕ) (n behind : ℕ) (line : JournalLine) → starts ≡ starts_after 0 lines → behind ≤ length starts → (behind ≡ 0 → ⊥) →
    AllWithin (λ (s : ℕ). nat_lt s n ≡ true) starts 0 behind → AllWithin (λ (s : ℕ). nat_lt s n ≡ false) starts behind (length starts) →
    line ≡ get_or lines (behind - 1) line → nth (sent_by line) (n - get_or starts (behind - 1) 0) ≡ nth (sent_in lines) n
found_at lines starts n zero line is le some before after at = absurd (some refl)
found_at lines starts n (suc last) line is le some before after at =
    let z : suc last - 1 ≡ last = omega arith in
    let lt : last < length lines = omega (arith, ap (λ (ss : List ℕ). length ss) is, length-starts lines 0) in
    ap (λ (k : ℕ). nth (sent_by line) (n - get_or starts k 0)) z
    ∙ ap (λ (ss : List ℕ). nth (sent_by line) (n - get_or ss last 0)) is
    ∙ sym (at_line lines 0 n last line (subst (λ (ss : List ℕ). AllWithin (λ (s : ℕ). nat_lt s n ≡ true) ss 0 (suc last)) is before)
    (subst (λ (ss : List ℕ). AllWithin (λ (s : ℕ). nat_lt s n ≡ false) ss (suc last) (length ss)) is after) lt (at ∙ ap (λ (k : ℕ). get_or lines k line) z))
    ∙ ap (nth (sent_in lines)) (let y : n - 0 ≡ n = omega arith in y)

-- ---- what is found is short

short_step : (a b : Bool) (x sent : Sent) (o : Option Sent) → (if a then None else if b then Some x else o) ≡ Some sent → length x.datagram ≤ 1200 → (o ≡ Some sent → length sent.datagram ≤ 1200) → length sent.datagram ≤ 1200
short_step true b x sent o e h more = absurd (cc)
short_step false true x sent o e h more = let same : x ≡ sent = cc in subst (λ (s : Sent). length s.datagram ≤ 1200) same h
short_step false false x sent o e h more = more e

others_short : (entry : Entry) (entries : List Entry) → AreShort (entry ∷ entries) → AreShort entries
others_short entry entries h k d lt = h (suc k) d (omega arith)

nth_with : (by : ℕ) (o : Option Sending) (later : List Sent) (n : ℕ) (sent : Sent) → IfSome o (λ out. length out.datagram ≤ 1200) → nth (with_sent by o later) n ≡ Some sent →
    ((k : ℕ) → nth later k ≡ Some sent → length sent.datagram ≤ 1200) → length sent.datagram ≤ 1200
nth_with by None later n sent h e more = more n e
nth_with by (Some out) later n sent h e more =
    short_step (n == 0) (n == 1) (sent_from by out) sent (nth later (n - 1)) e h (more (n - 1))

nth_short : (by : ℕ) (entries : List Entry) (n : ℕ) (sent : Sent) → AreShort entries → nth (sent_among by entries) n ≡ Some sent → length sent.datagram ≤ 1200
nth_short by [] n sent h e = absurd (cc)
nth_short by (entry ∷ rest) n sent h e =
    nth_with by (out_in entry) (sent_among by rest) n sent (h 0 entry (omega arith)) e (λ k f. nth_short by rest k sent (others_short entry rest h) f)

pub found_short : (by : ℕ) (entries : List Entry) (n : ℕ) (found : Option Letter) → AreShort entries → sent_found found ≡ nth (sent_among by entries) n → IfSome found (λ letter. length letter.datagram.now ≤ 1200)
found_short by entries n None h e = tt
found_short by entries n (Some letter) h e = nth_short by entries n (sent_of letter) h (sym e)
