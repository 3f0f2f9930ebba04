-- Where no bound is passed no message is overdue, and what becomes of those that wait keeps it.
use Prim.Native.Nat.{zero, suc}
use Rattle.std.proofs.Common.{◌≡◌, ℕ, ◌+◌, ◌<◌, ◌≤◌, ◌==◌, nat_lt, ◌||◌, Bool, true, false, cond, List, [], ◌∷◌, ◌++◌, Option, Some, None, length, get_or, refl, sym, ap, ◌∙◌, arith}
use Rattle.std.specs.Prelude.{slice_get, is_some}
use Rattle.std.specs.List.{filter, find, list_any, position, position_or_len}
use Rattle.std.proofs.lemmas.Bool.{le-ltb, ltb-false, ltb-true}
use Rattle.std.proofs.lemmas.Bool.Decides.{nat_tests}
use Rattle.std.proofs.lemmas.Option.{slice_get-get_or}
use Rattle.std.proofs.lemmas.List.Sums.{position_or_len_is}
use Rattle.flow_send.specs.declared.waiting.MessageOptions.{MessageOptions}
use Rattle.flow_send.specs.declared.waiting.Waiting.{Waiting}
use Rattle.flow_send.specs.Rows.{Row}
use Rattle.flow_send.specs.Sender.{Sender, is_past, is_spent, first_overdue, message_at, without_message, abandoned, abandoned_with, abandoned_if, finish_by}
use Rattle.flow_send.specs.Flow.{Flow}
use Rattle.session_flows.specs.declared.bound.Bound.{Bound}
use Rattle.session_flows.specs.Timing.{has_overdue}
use Rattle.session_flows.proofs.Times.{none_found}
use Rattle.session_flows.specs.Bound.{sooner, bound_at, bound_with, no_bound, any_waits, may_pass, IsMild, AreMild}

clash : false ≡ true → ⊥
clash e = absurd cc

or_left : (a b : Bool) → (a || b) ≡ false → a ≡ false
or_left true b e = absurd cc
or_left false b e = refl

or_right : (a b : Bool) → (a || b) ≡ false → b ≡ false
or_right true b e = absurd cc
or_right false b e = e

not_true : (b : Bool) → (b ≡ true → ⊥) → b ≡ false
not_true true never = absurd (never refl)
not_true false never = refl

-- ---- one message more

sooner_low : (n : ℕ) (o : Option ℕ) → sooner n o ≤ n
sooner_low n None = omega arith
sooner_low n (Some deadline) = omega arith

own_deadline : (n : ℕ) (o : Option ℕ) (moment : ℕ) → is_past o moment ≡ true → sooner n o < moment
own_deadline n None moment e = absurd (clash e)
own_deadline n (Some deadline) moment e = let past : deadline < moment = grind (arith, nat_tests, e) in omega (arith, past)

none_of : (o : Option ℕ) → is_some o ≡ false → o ≡ None
none_of None e = refl
none_of (Some n) e = absurd (clash (sym e))

pub own_mild : (b : Bound) (options : MessageOptions) → IsMild (bound_with b options) options
own_mild b options = record {
  deadline = λ moment e. own_deadline b.soonest options.deadline moment e;
  limit = λ e. none_of options.resends (or_right b.limited (is_some options.resends) e);
}

pub mild_with : (b : Bound) (more : MessageOptions) (ws : List Waiting) → AreMild b ws → AreMild (bound_with b more) ws
mild_with b more [] h = tt
mild_with b more (w ∷ later) h = (
  record {
    deadline = λ moment e. let low : sooner b.soonest more.deadline ≤ b.soonest = sooner_low b.soonest more.deadline in omega (arith, low, h.0.deadline moment e);
    limit = λ e. h.0.limit (or_left b.limited (is_some more.resends) e);
  },
  mild_with b more later h.1,
)

pub mild_push : (b : Bound) (ws : List Waiting) (w : Waiting) → AreMild b ws → IsMild b w.options → AreMild b (ws ++ w ∷ [])
mild_push b [] w h own = (own, tt)
mild_push b (x ∷ later) w h own = (h.0, mild_push b later w h.1 own)

-- ---- fewer messages

mild_drop : (b : Bound) (w : Waiting) (later rest : List Waiting) (t : Bool) → AreMild b (w ∷ later) → AreMild b rest → AreMild b (cond t later (w ∷ rest))
mild_drop b w later rest true h r = h.1
mild_drop b w later rest false h r = (h.0, r)

mild_without : (b : Bound) (seq : ℕ) (ws : List Waiting) → AreMild b ws → AreMild b (without_message seq ws)
mild_without b seq [] h = tt
mild_without b seq (w ∷ later) h = mild_drop b w later (without_message seq later) (w.number == seq) h (mild_without b seq later h.1)

mild_keep : (b : Bound) (w : Waiting) (rest : List Waiting) (t : Bool) → IsMild b w.options → AreMild b rest → AreMild b (cond t (w ∷ rest) rest)
mild_keep b w rest true own r = (own, r)
mild_keep b w rest false own r = r

pub mild_filter : (b : Bound) (p : Waiting → Bool) (ws : List Waiting) → AreMild b ws → AreMild b (filter p ws)
mild_filter b p [] h = tt
mild_filter b p (w ∷ later) h = mild_keep b w (filter p later) (p w) h.0 (mild_filter b p later h.1)

abandoned_by : (b : Bound) (o : Option Waiting) (seq : ℕ) (s : Sender) → AreMild b s.waiting → AreMild b (abandoned_with o seq s).waiting
abandoned_by b None seq s h = h
abandoned_by b (Some w) seq s h = mild_without b seq s.waiting h

pub mild_abandoned : (b : Bound) (seq : ℕ) (s : Sender) → AreMild b s.waiting → AreMild b (abandoned seq s).waiting
mild_abandoned b seq s h = abandoned_by b (message_at seq s.waiting) seq s h

pub mild_abandoned_if : (b : Bound) (o : Option ℕ) (s : Sender) → AreMild b s.waiting → AreMild b (abandoned_if o s).waiting
mild_abandoned_if b None s h = h
mild_abandoned_if b (Some n) s h = mild_abandoned b n s h

pub mild_finish : (b : Bound) (v : Option ℕ) (s : Sender) → AreMild b s.waiting → AreMild b (finish_by s v).waiting
mild_finish b None s h = h
mild_finish b (Some n) s h = h

-- ---- none is overdue

not_overdue : (past spent : Bool) (w : Waiting) (rest : Option ℕ) → past ≡ false → spent ≡ false → cond (past || spent) (Some w.number) rest ≡ rest
not_overdue past spent w rest p s = ap (λ (b : Bool). cond (b || spent) (Some w.number) rest) p ∙ ap (λ (b : Bool). cond b (Some w.number) rest) s

none_past : (b : Bound) (moment : ℕ) (w : Waiting) → may_pass b moment ≡ false → IsMild b w.options → is_past w.options.deadline moment ≡ false
none_past b moment w e own = not_true (is_past w.options.deadline moment)
    (λ past. let le : moment ≤ b.soonest = ltb-false b.soonest moment (or_right b.limited (nat_lt b.soonest moment) e) in let less : b.soonest < moment = own.deadline moment past in absurd (omega (arith, le, less)))

none_spent : (b : Bound) (moment n : ℕ) (rows : List Row) (w : Waiting) → may_pass b moment ≡ false → IsMild b w.options → is_spent w.options.resends w n rows ≡ false
none_spent b moment n rows w e own = ap (λ (o : Option ℕ). is_spent o w n rows) (own.limit (or_left b.limited (nat_lt b.soonest moment) e))

pub mild_none : (b : Bound) (moment n : ℕ) (rows : List Row) (ws : List Waiting) → may_pass b moment ≡ false → AreMild b ws → first_overdue moment n rows ws ≡ None
mild_none b moment n rows [] e h = refl
mild_none b moment n rows (w ∷ later) e h =
    not_overdue (is_past w.options.deadline moment) (is_spent w.options.resends w n rows) w (first_overdue moment n rows later) (none_past b moment w e h.0) (none_spent b moment n rows w e h.0)
    ∙ mild_none b moment n rows later e h.1

none_at : (n : ℕ) (p : ℕ) → p ≡ n → ◌≡◌ {A = Option ℕ} (cond (nat_lt p n) (Some p) None) None
none_at n p e = ap (λ (b : Bool). cond b (Some p) None) (le-ltb p n (omega (arith, e)))

pub no_flow_overdue : (moment : ℕ) (fs : List Flow) → ((at : ℕ) (f : Flow) → slice_get fs at ≡ Some f → has_overdue moment f ≡ false) → position (has_overdue moment) fs ≡ None
no_flow_overdue moment [] h = refl
no_flow_overdue moment (x ∷ later) h =
    none_at (length (x ∷ later)) (position_or_len (has_overdue moment) (x ∷ later))
    (position_or_len_is (has_overdue moment) (x ∷ later) (length (x ∷ later)) x (omega arith)
    (λ k less. h k (get_or (x ∷ later) k x) (slice_get-get_or (x ∷ later) k x less)) (λ less. absurd (omega (arith, less))))

-- ---- found anew

some_none : (n : ℕ) → ◌≡◌ {A = Option ℕ} (Some n) None → ⊥
some_none n e = absurd cc

passed_over : (past spent : Bool) (n : ℕ) (rest : Option ℕ) → cond (past || spent) (Some n) rest ≡ None → (past ≡ false) × (rest ≡ None)
passed_over true spent n rest e = absurd (some_none n e)
passed_over false true n rest e = absurd (some_none n e)
passed_over false false n rest e = (refl, e)

not_before : (o : Option ℕ) (moment later : ℕ) → is_past o moment ≡ false → is_past o later ≡ true → moment < later
not_before None moment later e past = absurd (clash past)
not_before (Some deadline) moment later e past =
    let low : moment ≤ deadline = ltb-false deadline moment e in
    let less : deadline < later = ltb-true deadline later past in
    omega (arith, low, less)

-- Where no message is overdue at a moment, no deadline is before it.
pub mild_at : (b : Bound) (moment n : ℕ) (rows : List Row) (ws : List Waiting) → b.limited ≡ false → first_overdue moment n rows ws ≡ None → AreMild b ws → AreMild (bound_at moment) ws
mild_at b moment n rows [] l e h = tt
mild_at b moment n rows (w ∷ later) l e h =
    let both = passed_over (is_past w.options.deadline moment) (is_spent w.options.resends w n rows) w.number (first_overdue moment n rows later) e in (
      record { deadline = λ m past. not_before w.options.deadline moment m both.0 past; limit = λ x. h.0.limit l },
      mild_at b moment n rows later l both.1 h.1,
    )

-- ---- one flow of all

none_waits : (b : Bound) (ws : List Waiting) → nat_lt 0 (length ws) ≡ false → AreMild b ws
none_waits b [] e = tt
none_waits b (w ∷ later) e = absurd (let low : length (w ∷ later) ≤ 0 = ltb-false 0 (length (w ∷ later)) e in omega (arith, low))

some_same : {x y : Flow} → ◌≡◌ {A = Option Flow} (Some x) (Some y) → x ≡ y
some_same e = cc

any_at : (p : Flow → Bool) (fs : List Flow) (at : ℕ) (f : Flow) → list_any p fs ≡ false → slice_get fs at ≡ Some f → p f ≡ false
any_at p [] at f e there = absurd cc
any_at p (x ∷ later) zero f e there = ap p (sym (some_same there)) ∙ or_left (p x) (list_any p later) e
any_at p (x ∷ later) (suc at) f e there = any_at p later at f (or_right (p x) (list_any p later) e) there

pub mild_no_bound : (fs : List Flow) (at : ℕ) (f : Flow) → list_any any_waits fs ≡ false → slice_get fs at ≡ Some f → AreMild no_bound f.sender.waiting
mild_no_bound fs at f e there = none_waits no_bound f.sender.waiting (any_at any_waits fs at f e there)

found_by : (x : Flow) (rest : Option Flow) (t : Bool) → cond t (Some x) rest ≡ None → (t ≡ false) × (rest ≡ None)
found_by x rest true e = absurd cc
found_by x rest false e = (refl, e)

find_at : (p : Flow → Bool) (fs : List Flow) (at : ℕ) (f : Flow) → find p fs ≡ None → slice_get fs at ≡ Some f → p f ≡ false
find_at p [] at f e there = absurd cc
find_at p (x ∷ later) zero f e there = ap p (sym (some_same there)) ∙ (found_by x (find p later) (p x) e).0
find_at p (x ∷ later) (suc at) f e there = find_at p later at f (found_by x (find p later) (p x) e).1 there

none_is : (o : Option ℕ) → is_some o ≡ false → o ≡ None
none_is None e = refl
none_is (Some n) e = absurd (clash (sym e))

pub mild_bound_at : (b : Bound) (moment : ℕ) (fs : List Flow) (at : ℕ) (f : Flow) → b.limited ≡ false → position (has_overdue moment) fs ≡ None → slice_get fs at ≡ Some f → AreMild b f.sender.waiting → AreMild (bound_at moment) f.sender.waiting
mild_bound_at b moment fs at f l none there h =
    mild_at b moment (f.sender.forward + 1) f.sender.rows f.sender.waiting l
    (none_is (first_overdue moment (f.sender.forward + 1) f.sender.rows f.sender.waiting) (find_at (has_overdue moment) fs at f (none_found (has_overdue moment) fs none) there)) h
