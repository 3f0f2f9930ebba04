-- What a session took, with one more datagram.
use Rattle.std.proofs.Common.{ℕ, List, [], ◌∷◌, ◌≡◌, ◌≢◌, ◌≤◌, ◌<◌, ◌+◌, ◌==◌, ◌⊎◌, inl, inr, refl, sym, ap, subst, max, Bool, true, false, ◌||◌, nat_le, Option, Some, None, Result, Ok, Err, is_ok, if◌then◌else◌, ◌∙◌, arith}
use Rattle.std.proofs.lemmas.Bool.{cases_Bool}
use Rattle.std.proofs.lemmas.Bool.Decides.{nat_tests}
use Rattle.rtmfp_forms.proofs.Places.{first_true, second_true, both_true}
use Rattle.crypto_profile.specs.declared.keys.Context.{Context}
use Rattle.crypto_profile.specs.declared.window.Seen.{Seen}
use Rattle.crypto_profile.specs.declared.window.Seen.TheVariants.{Old, Repeated}
use Rattle.crypto_profile.specs.Taken.{highest_of, was_taken, answer, taken_by, taken_after}
use Rattle.crypto_profile.specs.Window.{window_answer, window_after}
use Rattle.crypto_profile.proofs.WindowLaws.{window_stands}
use Rattle.endpoint_laws.specs.Past.{Taken}
use Rattle.rtmfp_packet.specs.declared.head.Mode.{Mode}
use Rattle.endpoint_laws.specs.Contexts.{Secrets, OpensUnder}
use Rattle.endpoint_laws.specs.Taken.{IsNewAfter, PassesIn, TookIn}
use Rattle.log_digest.specs.Hearing.{Heard, nothing_heard, latest, takes, heard_with, IsHearingOf, OpensAs, Hears, OthersArentHeard}

-- ---- which numbers are answered with Ok

answered : (old seen : Bool) → ◌≡◌ {A = Result (Unit {0}) Seen} (if old then Err Old else if seen then Err Repeated else Ok tt) (Ok tt) → (old ≡ false) × (seen ≡ false)
answered true seen e = absurd cc
answered false true e = absurd cc
answered false false e = (refl, refl)

is_answered : (old seen : Bool) → old ≡ false → seen ≡ false → ◌≡◌ {A = Result (Unit {0}) Seen} (if old then Err Old else if seen then Err Repeated else Ok tt) (Ok tt)
is_answered true seen e f = absurd cc
is_answered false true e f = absurd cc
is_answered false false e f = refl

-- A number is taken where it is above the highest less 1,024, and wasn't taken.
record IsOpen (counts : List ℕ) (n : ℕ) : Type 0 where
  high : highest_of counts < n + 1024
  fresh : was_taken counts n ≡ false

open_of : (counts : List ℕ) (n : ℕ) → answer counts n ≡ Ok tt → IsOpen counts n
open_of counts n e =
    let both = answered (nat_le (n + 1024) (highest_of counts)) (was_taken counts n) e in
    let below : nat_le (n + 1024) (highest_of counts) ≡ false = both.0 in
    record { high = grind (arith, nat_tests); fresh = both.1 }

ok_of : (counts : List ℕ) (n : ℕ) → IsOpen counts n → answer counts n ≡ Ok tt
ok_of counts n o =
    let high : highest_of counts < n + 1024 = o.high in
    is_answered (nat_le (n + 1024) (highest_of counts)) (was_taken counts n) (grind (arith, nat_tests)) o.fresh

was_high : (counts : List ℕ) (c : ℕ) → was_taken counts c ≡ true → c ≤ highest_of counts
was_high [] c e = grind (arith, nat_tests)
was_high (m ∷ counts) c e = elim (cases_Bool (c == m)) [
  | inl here ↦ (let h : (c == m) ≡ true = here in grind (arith, nat_tests))
  | inr other ↦ omega (arith, was_high counts c (ap (λ (b : Bool). b || was_taken counts c) (sym other) ∙ e))
]

-- the same with one more: it isn't this one, and not 1,024 or more below it
record IsOpenBeside (counts : List ℕ) (c n : ℕ) : Type 0 where
  before : IsOpen counts n
  other : c ≢ n
  near : c < n + 1024

either_false : (a b : Bool) → (a || b) ≡ false → (a ≡ false) × (b ≡ false)
either_false true b e = absurd cc
either_false false b e = (refl, e)

both_false : (a b : Bool) → a ≡ false → b ≡ false → (a || b) ≡ false
both_false true b e f = absurd cc
both_false false b e f = f

split : (counts : List ℕ) (c n : ℕ) → IsOpen (c ∷ counts) n → IsOpenBeside counts c n
split counts c n o =
    let both = either_false (n == c) (was_taken counts n) o.fresh in
    let apart : (n == c) ≡ false = both.0 in
    record {
      before = record { high = omega (arith, o.high); fresh = both.1 };
      other = λ same. (let is : c ≡ n = same in grind (arith, nat_tests));
      near = omega (arith, o.high);
    }

join : (counts : List ℕ) (c n : ℕ) → IsOpenBeside counts c n → IsOpen (c ∷ counts) n
join counts c n o = record {
  high = omega (arith, o.before.high, o.near);
  fresh = both_false (n == c) (was_taken counts n) (let other : c ≢ n = o.other in grind (arith, nat_tests)) o.before.fresh;
}

refused : (counts : List ℕ) (c : ℕ) → (answer counts c ≡ Ok tt → ⊥) → (c + 1024 ≤ highest_of counts) ⊎ (was_taken counts c ≡ true)
refused counts c never = elim (cases_Bool (nat_le (c + 1024) (highest_of counts))) [
  | inl old ↦ inl (let e : nat_le (c + 1024) (highest_of counts) ≡ true = old in grind (arith, nat_tests))
  | inr young ↦ elim (cases_Bool (was_taken counts c)) [
    | inl seen ↦ inr seen
    | inr fresh ↦ absurd (never (is_answered (nat_le (c + 1024) (highest_of counts)) (was_taken counts c) young fresh))
  ]
]

-- where the one more wasn't taken, nothing changes
beside_refused : (counts : List ℕ) (c n : ℕ) → (answer counts c ≡ Ok tt → ⊥) → IsOpen counts n → IsOpenBeside counts c n
beside_refused counts c n never o = elim (refused counts c never) [
  | inl old ↦ record { before = o; other = λ same. absurd (omega (arith, same, old, o.high)); near = omega (arith, old, o.high) }
  | inr seen ↦ record {
    before = o;
    other = λ same. (let clash : true ≡ false = sym seen ∙ ap (was_taken counts) same ∙ o.fresh in absurd cc);
    near = omega (arith, was_high counts c seen, o.high);
  }
]

opened_after : (counts : List ℕ) (c n : ℕ) (a : Result (Unit {0}) Seen) → answer counts c ≡ a → IsOpen (taken_by counts a c) n → IsOpenBeside counts c n
opened_after counts c n (Ok done) e o = split counts c n o
opened_after counts c n (Err why) e o = beside_refused counts c n (λ ok. let clash = sym e ∙ ok in absurd cc) o

opens_after : (counts : List ℕ) (c n : ℕ) (a : Result (Unit {0}) Seen) → IsOpenBeside counts c n → IsOpen (taken_by counts a c) n
opens_after counts c n (Ok done) o = join counts c n o
opens_after counts c n (Err why) o = o.before

-- ---- one more datagram

pub first_hearing : (secrets : Secrets) (context : Context) (mode : Mode) (near : ℕ) → IsHearingOf secrets context mode near [] nothing_heard
first_hearing secrets context mode near = record {
  counts = [];
  window_is = refl;
  is_new = λ count e. let o : was_taken [] count ≡ false = (open_of [] count e).fresh in (λ zero. (let is : count ≡ 0 = zero in grind (arith, nat_tests)));
  answers = λ count some. ok_of [] count (record { high = omega arith; fresh = (let other : count ≢ 0 = some in grind (arith, nat_tests)) });
  took = λ moment e. absurd cc;
  within = λ moment t. absurd t;
}

ok_is : (a : Result (Unit {0}) Seen) → is_ok a ≡ true → a ≡ Ok tt
ok_is (Ok done) e = refl
ok_is (Err why) e = absurd cc

module _ (secrets : Secrets) (context : Context) (mode : Mode) (near : ℕ) (taken : List Taken) (h : Heard) (is : IsHearingOf secrets context mode near taken h) where
  -- a datagram that doesn't open there
  pub not_heard : (t : Taken) → ((plain : List ℕ) → OpensUnder secrets context near t.datagram plain → ⊥) → IsHearingOf secrets context mode near (t ∷ taken) h
  not_heard t never = record {
    counts = is.counts;
    window_is = is.window_is;
    is_new = λ count e. ((λ plain opens. absurd (never plain opens)), is.is_new count e);
    answers = λ count new_one. is.answers count new_one.1;
    took = λ moment e. inr (is.took moment e);
    within = λ moment t. elim t [ inl here ↦ absurd (never here.0.reads.plain here.0.reads.opens) | inr before ↦ is.within moment before ];
  }

  module _ (datagram : List ℕ) (count moment : ℕ) (fits : Bool) (opens : OpensAs secrets context mode near datagram count fits) where
    answer_is : window_answer h.window count ≡ answer is.counts count
    answer_is = ap (λ w. window_answer w count) is.window_is ∙ (window_stands is.counts count).0

    -- It is taken exactly where it passes.
    pub passes : takes count fits h ≡ true → PassesIn secrets context mode near taken datagram
    passes e =
        let new_one : answer is.counts count ≡ Ok tt = sym answer_is ∙ ok_is (window_answer h.window count) (first_true (is_ok (window_answer h.window count)) fits e) in
        let packet = opens.reads (second_true (is_ok (window_answer h.window count)) fits e) in
        record {
          packet = packet.0;
          reads = packet.1;
          number = subst (λ (c : ℕ). IsNewAfter secrets context near c taken) (sym opens.count_is) (is.is_new count new_one);
          mode_is = packet.2;
        }

    pub passed : PassesIn secrets context mode near taken datagram → takes count fits h ≡ true
    passed p =
        let new_one : answer is.counts count ≡ Ok tt = is.answers count (subst (λ (c : ℕ). IsNewAfter secrets context near c taken) opens.count_is p.number) in
        both_true (is_ok (window_answer h.window count)) fits (ap is_ok (answer_is ∙ new_one)) (opens.fits_where p.packet p.reads p.mode_is)

    last_of : (b : Bool) → takes count fits h ≡ b → (m : ℕ) → (if b then Some (latest h.last moment) else h.last) ≡ Some m → TookIn secrets context mode near m (record { moment = moment; datagram = datagram } ∷ taken)
    last_of false refused_it m e = inr (is.took m e)
    last_of true takes_it m e = go h.last refl e
      where
        go : (o : Option ℕ) → h.last ≡ o → Some (latest o moment) ≡ Some m → TookIn secrets context mode near m (record { moment = moment; datagram = datagram } ∷ taken)
        go None last e = inl (passes takes_it, let same : moment ≡ m = cc in same)
        go (Some before) last e = elim (cases_Bool (nat_le before moment)) [
          | inl low ↦ inl (passes takes_it, let t : nat_le before moment ≡ true = low in let same : max before moment ≡ m = cc in grind (arith, nat_tests))
          | inr high ↦ inr (is.took m (last ∙ ap Some (let t : nat_le before moment ≡ false = high in let same : max before moment ≡ m = cc in grind (arith, nat_tests))))
        ]

    later : (o : Option ℕ) (m : ℕ) → (last : ℕ) × (o ≡ Some last) × (m ≤ last) → m ≤ latest o moment
    later None m w = absurd (let clash = w.1 in cc)
    later (Some before) m w = let same : before ≡ w.0 = (let e = w.1 in cc) in omega (arith, same, w.2)

    newest : (o : Option ℕ) → moment ≤ latest o moment
    newest None = omega arith
    newest (Some before) = omega arith

    within_of : (b : Bool) → takes count fits h ≡ b → (m : ℕ) → TookIn secrets context mode near m (record { moment = moment; datagram = datagram } ∷ taken) →
        (last : ℕ) × ((if b then Some (latest h.last moment) else h.last) ≡ Some last) × (m ≤ last)
    within_of true e m (inl here) = (latest h.last moment, refl, omega (arith, here.1, newest h.last))
    within_of true e m (inr before) = (latest h.last moment, refl, later h.last m (is.within m before))
    within_of false e m (inl here) = absurd (let clash : true ≡ false = sym (passed here.0) ∙ e in cc)
    within_of false e m (inr before) = is.within m before

    pub heard_more : IsHearingOf secrets context mode near (record { moment = moment; datagram = datagram } ∷ taken) (heard_with count moment fits h)
    heard_more = record {
      counts = taken_after is.counts count;
      window_is = ap (λ w. window_after w count) is.window_is ∙ (window_stands is.counts count).1;
      is_new = λ n e.
          let o = opened_after is.counts count n (answer is.counts count) refl (open_of (taken_after is.counts count) n e) in
          ((λ plain opened. ((λ same. o.other (sym opens.count_is ∙ same)), subst (λ (c : ℕ). c < n + 1024) (sym opens.count_is) o.near)), is.is_new n (ok_of is.counts n o.before));
      answers = λ n new_one.
          let apart = new_one.0 opens.plain opens.opens in
          ok_of (taken_after is.counts count) n (opens_after is.counts count n (answer is.counts count) (record {
            before = open_of is.counts n (is.answers n new_one.1);
            other = λ same. apart.0 (opens.count_is ∙ same);
            near = subst (λ (c : ℕ). c < n + 1024) opens.count_is apart.1;
          }));
      took = λ m e. last_of (takes count fits h) refl m e;
      within = λ m t. within_of (takes count fits h) refl m t;
    }

    pub hears : Hears secrets context mode near taken (heard_with count moment fits h) (record { moment = moment; datagram = datagram }) (takes count fits h)
    hears = record { log = heard_more; passes = passes; passed = passed }

pub others_arent_heard : OthersArentHeard
others_arent_heard secrets context mode near taken h t is never = not_heard secrets context mode near taken h is t never
