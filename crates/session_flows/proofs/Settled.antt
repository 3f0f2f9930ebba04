-- What is kept of flows stays true of them, where one changes or is added.
use Prim.Native.Nat.{zero, suc}
use Rattle.std.proofs.Common.{◌≡◌, ◌≢◌, ℕ, ◌+◌, ◌-◌, ◌*◌, ◌^◌, ◌%◌, ◌<◌, ◌≤◌, ◌==◌, ◌&&◌, not, Bool, true, false, List, [], ◌∷◌, ◌++◌, Option, Some, Result, Ok, Err, length, refl, sym, ap, ◌∙◌, subst, arith, inl, inr}
use Rattle.std.specs.Prelude.{slice_get, slice_set, is_some, OnOk, OnErr}
use Rattle.std.proofs.lemmas.Bool.{cases_eq, eq-eqb}
use Rattle.std.proofs.lemmas.Bool.Decides.{nat_tests}
use Rattle.std.proofs.lemmas.Option.{slice_get_within}
use Rattle.std.proofs.lemmas.List.Sums.{sum_by-cons}
use Rattle.flow_send.specs.Rows.{in_flight}
use Rattle.flow_send.specs.declared.waiting.MessageOptions.{MessageOptions}
use Rattle.flow_send.specs.Sender.{Sender, new_sender, is_idle, queued, waiting_of}
use Rattle.flow_send.specs.Choice.{choice, chunk_for}
use Rattle.flow_send.specs.Flow.{Flow, with_sender}
use Rattle.rtmfp_data_chunks.specs.Fragments.{Message}
use Rattle.session_flows.specs.declared.bound.Bound.{Bound}
use Rattle.session_flows.specs.Bound.{bound_with, AreMild}
use Rattle.session_flows.specs.declared.kept.Kept.{Kept}
use Rattle.flow_turns.specs.Busy.{has_flow}
use Rattle.session_flows.specs.Keeping.{FlowsState, is_busy, with_sending}
use Rattle.session_flows.specs.Packing.{flight_of, session_flight}
use Rattle.flow_turns.specs.Turns.{has_turn}
use Rattle.session_flows.specs.Laws.{AreNumbered}
use Rattle.session_flows.specs.Kept.{is_busy_of, may_later, turn_of, is_turn, is_turn_of, IsWithin, IsKept, IsWhole, MayChange, IsChanged, noted}
use Rattle.session_flows.proofs.Sounds.{numbered_at, sound_set, sound_push}
use Rattle.session_flows.proofs.Within.{sum_set}
use Rattle.session_flows.proofs.Kin.{IsKin, Milder, either}
use Rattle.session_flows.proofs.Milds.{mild_with, mild_push, own_mild}

-- ---- lists

pub some_same : {x y : Flow} → ◌≡◌ {A = Option Flow} (Some x) (Some y) → x ≡ y
some_same e = cc

set_same : (fs : List Flow) (at : ℕ) (f g : Flow) → slice_get fs at ≡ Some f → slice_get (slice_set fs at g) at ≡ Some g
set_same [] at f g e = absurd cc
set_same (x ∷ later) zero f g e = refl
set_same (x ∷ later) (suc at) f g e = set_same later at f g e

set_other : (fs : List Flow) (at i : ℕ) (g : Flow) → i ≢ at → slice_get (slice_set fs at g) i ≡ slice_get fs i
set_other [] at i g ne = refl
set_other (x ∷ later) zero zero g ne = absurd (ne refl)
set_other (x ∷ later) zero (suc i) g ne = refl
set_other (x ∷ later) (suc at) zero g ne = refl
set_other (x ∷ later) (suc at) (suc i) g ne = set_other later at i g (λ e. ne (omega (arith, e)))

-- ---- sums

part_of : (fs : List Flow) (at : ℕ) (f : Flow) → slice_get fs at ≡ Some f → flight_of f ≤ session_flight fs
part_of [] at f e = absurd cc
part_of (x ∷ later) zero f e =
    let same : flight_of x ≡ flight_of f = ap (λ (y : Flow). flight_of y) (some_same e) in
    let sum : session_flight (x ∷ later) ≡ flight_of x + session_flight later = sum_by-cons flight_of x later in
    omega arith
part_of (x ∷ later) (suc at) f e =
    let rest : flight_of f ≤ session_flight later = part_of later at f e in
    let sum : session_flight (x ∷ later) ≡ flight_of x + session_flight later = sum_by-cons flight_of x later in
    omega arith

bounded : (b : Bound) (fs : List Flow) → ((at : ℕ) (f : Flow) → slice_get fs at ≡ Some f → IsWithin b f) → session_flight fs ≤ length fs * 2 ^ 64
bounded b [] h = omega arith
bounded b (x ∷ later) h =
    let one : flight_of x < 2 ^ 64 = (h 0 x refl).flight in
    let rest : session_flight later ≤ length later * 2 ^ 64 = bounded b later (λ at f e. h (suc at) f e) in
    let sum : session_flight (x ∷ later) ≡ flight_of x + session_flight later = sum_by-cons flight_of x later in
    omega arith

-- ---- turns

same_turn : (f g : Flow) → IsKin f g → turn_of g ≡ turn_of f
same_turn f g k = ap (λ (n : ℕ). (7 - n) * 256 + g.id) k.priority ∙ ap (λ (n : ℕ). (7 - f.priority) * 256 + n) k.id

not_equal : (a b : ℕ) → a ≢ b → (a == b) ≡ false
not_equal a b ne = grind (arith, nat_tests, ne)

pub own_turn : (f : Flow) (turn : ℕ) → turn ≡ turn_of f → is_turn_of turn (Some f) ≡ may_later f
own_turn f turn e = ap (λ (b : Bool). b && may_later f) (eq-eqb (turn_of f) turn (sym e))

no_turn : (f : Flow) (turn : ℕ) → turn ≢ turn_of f → is_turn_of turn (Some f) ≡ false
no_turn f turn ne = ap (λ (b : Bool). b && may_later f) (not_equal (turn_of f) turn (λ e. ne (sym e)))

-- the turn of the flow at an index
turn_at : (f : Flow) (at : ℕ) → f.id ≡ 0 + at → at < 256 → turn_of f % 256 ≡ at
turn_at f at id few = omega (arith, id, few)

-- ---- one flow changes

pub may_set : (fs : List Flow) (k : Kept) (at before : ℕ) (f g : Flow) → AreNumbered 0 fs → length fs ≤ 256 → IsKept fs k → slice_get fs at ≡ Some f → before ≡ flight_of f → IsKin f g → MayChange k before g
may_set fs k at before f g ids few h there was kin =
    let part : flight_of f ≤ session_flight fs = part_of fs at f there in
    let most : session_flight fs ≤ length fs * 2 ^ 64 = bounded k.bound fs h.within in
    let inside : at < length fs = slice_get_within fs at f there in
    let id : f.id ≡ 0 + at = numbered_at 0 at fs f ids there in
    let own : f.priority ≤ 7 = (h.within at f there).priority in
    record {
      held = omega (arith, h.flight, was);
      few = omega (arith, h.flight, few);
      id = omega (arith, kin.id, few);
      priority = omega (arith, kin.priority);
    }

pub may_change : (s : FlowsState) (k : Kept) (at before : ℕ) (f g : Flow) → IsWhole s k → slice_get s.sending at ≡ Some f → before ≡ flight_of f → IsKin f g → MayChange k before g
may_change s k at before f g h there was kin = may_set s.sending k at before f g h.sound.numbered h.sound.few h.kept there was kin

turns_set : (fs : List Flow) (k new : Kept) (at before : ℕ) (f g : Flow) → AreNumbered 0 fs → length fs ≤ 256 → IsKept fs k → slice_get fs at ≡ Some f → IsKin f g → IsChanged k before g new →
    (turn : ℕ) → has_turn new.turns turn ≡ is_turn (slice_set fs at g) turn
turns_set fs k new at before f g ids few h there kin d turn =
    let inside : at < length fs = slice_get_within fs at f there in
    let id : f.id ≡ 0 + at = numbered_at 0 at fs f ids there in
    let own : turn_of g % 256 ≡ at = turn_at g at (kin.id ∙ id) (omega arith) in
    elim (cases_eq (turn % 256) at) [
      | inl here ↦
          let now : slice_get (slice_set fs at g) (turn % 256) ≡ Some g = ap (λ i. slice_get (slice_set fs at g) i) here ∙ set_same fs at f g there in
          let was : slice_get fs (turn % 256) ≡ Some f = ap (λ i. slice_get fs i) here ∙ there in
          elim (cases_eq turn (turn_of g)) [
            | inl same ↦ ap (λ t. has_turn new.turns t) same ∙ d.own ∙ sym (ap (λ (o : Option Flow). is_turn_of turn o) now ∙ own_turn g turn same)
            | inr other ↦
                d.others turn other ∙ h.turns turn ∙ ap (λ (o : Option Flow). is_turn_of turn o) was ∙ no_turn f turn (λ e. other (e ∙ sym (same_turn f g kin)))
                ∙ sym (ap (λ (o : Option Flow). is_turn_of turn o) now ∙ no_turn g turn other)
          ]
      | inr away ↦
          let other : turn ≢ turn_of g = λ e. away (ap (λ t. t % 256) e ∙ own) in
          d.others turn other ∙ h.turns turn ∙ sym (ap (λ (o : Option Flow). is_turn_of turn o) (set_other fs at (turn % 256) g away))
    ]

busy_set : (fs : List Flow) (k new : Kept) (at before : ℕ) (f g : Flow) → AreNumbered 0 fs → IsKept fs k → slice_get fs at ≡ Some f → IsKin f g → IsChanged k before g new →
    (id : ℕ) → has_flow new.busy id ≡ is_busy_of (slice_get (slice_set fs at g) id)
busy_set fs k new at before f g ids h there kin d id =
    let own : f.id ≡ 0 + at = numbered_at 0 at fs f ids there in
    let same : g.id ≡ at = omega (arith, kin.id, own) in
    elim (cases_eq id at) [
      | inl here ↦
          let now : slice_get (slice_set fs at g) id ≡ Some g = ap (λ i. slice_get (slice_set fs at g) i) here ∙ set_same fs at f g there in
          ap (λ i. has_flow new.busy i) (here ∙ sym same) ∙ d.busy ∙ sym (ap is_busy_of now)
      | inr away ↦ d.rest id (λ e. away (e ∙ same)) ∙ h.busy id ∙ sym (ap is_busy_of (set_other fs at id g away))
    ]

pub kept_set : (fs : List Flow) (k new : Kept) (at before : ℕ) (f g : Flow) → AreNumbered 0 fs → length fs ≤ 256 → IsKept fs k → slice_get fs at ≡ Some f → before ≡ flight_of f → IsKin f g → AreMild k.bound g.sender.waiting → IsChanged k before g new →
    IsKept (slice_set fs at g) new
kept_set fs k new at before f g ids few h there was kin mild d =
    let part : flight_of f ≤ session_flight fs = part_of fs at f there in
    let set : session_flight (slice_set fs at g) + flight_of f ≡ session_flight fs + flight_of g = sum_set flight_of fs at f g there in
    record {
      flight = omega (arith, d.flight, h.flight, was);
      turns = turns_set fs k new at before f g ids few h there kin d;
      busy = busy_set fs k new at before f g ids h there kin d;
      within = λ i x e. elim (cases_eq i at) [
        | inl here ↦
            let is : g ≡ x = some_same (sym (ap (λ i. slice_get (slice_set fs at g) i) here ∙ set_same fs at f g there) ∙ e) in
            subst (λ (y : Flow). IsWithin new.bound y) is
            (record { priority = omega (arith, kin.priority, (h.within at f there).priority); flight = d.fits; mild = subst (λ (b : Bound). AreMild b g.sender.waiting) (sym d.bound) mild })
        | inr away ↦ subst (λ (b : Bound). IsWithin b x) (sym d.bound) (h.within i x (sym (set_other fs at i g away) ∙ e))
      ];
    }

pub whole_set : (s : FlowsState) (k new : Kept) (at before : ℕ) (f g : Flow) → IsWhole s k → slice_get s.sending at ≡ Some f → before ≡ flight_of f → IsKin f g → Milder f g → IsChanged k before g new →
    IsWhole (with_sending s (slice_set s.sending at g)) new
whole_set s k new at before f g h there was kin milder d = record {
  sound = sound_set s at f g there kin.id h.sound;
  kept = kept_set s.sending k new at before f g h.sound.numbered h.sound.few h.kept there was kin (milder k.bound (h.kept.within at f there).mild) d;
}

-- ---- a message is queued

within_noted : (options : MessageOptions) (b : Bound) (f : Flow) → IsWithin b f → IsWithin (bound_with b options) f
within_noted options b f h = record { priority = h.priority; flight = h.flight; mild = mild_with b options f.sender.waiting h.mild }

pub whole_noted : (s : FlowsState) (options : MessageOptions) (k : Kept) → IsWhole s k → IsWhole s (noted options k)
whole_noted s options k h = record {
  sound = h.sound;
  kept = record {
    flight = h.kept.flight;
    turns = h.kept.turns;
    busy = h.kept.busy;
    within = λ at f there. within_noted options k.bound f (h.kept.within at f there);
  };
}

mild_queued : {A E : Type 0} (r : Result A E) (b : Bound) (m : Message) (options : MessageOptions) (f g : Flow) → OnOk r (g ≡ with_sender f (queued m options f.sender)) → OnErr r (g ≡ f) → AreMild b f.sender.waiting →
    AreMild (bound_with b options) g.sender.waiting
mild_queued (Ok x) b m options f g ok err h =
    subst (λ (y : Flow). AreMild (bound_with b options) y.sender.waiting) (sym ok)
    (mild_push (bound_with b options) f.sender.waiting (waiting_of m options) (mild_with b options f.sender.waiting h) (own_mild b options))
mild_queued (Err e) b m options f g ok err h = subst (λ (y : Flow). AreMild (bound_with b options) y.sender.waiting) (sym err) (mild_with b options f.sender.waiting h)

pub whole_queued : {A E : Type 0} (r : Result A E) (s : FlowsState) (k new : Kept) (at before : ℕ) (m : Message) (options : MessageOptions) (f g : Flow) → IsWhole s k → slice_get s.sending at ≡ Some f → before ≡ flight_of f →
    OnOk r (g ≡ with_sender f (queued m options f.sender)) → OnErr r (g ≡ f) → IsChanged (noted options k) before g new → IsWhole (with_sending s (slice_set s.sending at g)) new
whole_queued r s k new at before m options f g h there was ok err d =
    let kin : IsKin f g = either r f g (queued m options f.sender) ok err in
    let noted_so : IsWhole s (noted options k) = whole_noted s options k h in
    let mild : AreMild (bound_with k.bound options) g.sender.waiting = mild_queued r k.bound m options f g ok err (h.kept.within at f there).mild in
    record {
      sound = sound_set s at f g there kin.id h.sound;
      kept = kept_set s.sending (noted options k) new at before f g h.sound.numbered h.sound.few noted_so.kept there was kin mild d;
    }

-- ---- the bound alone changes

pub rebound : (fs : List Flow) (k : Kept) (b : Bound) → IsKept fs k → ((at : ℕ) (f : Flow) → slice_get fs at ≡ Some f → AreMild b f.sender.waiting) → IsKept fs (record k { bound = b })
rebound fs k b h mild = record {
  flight = h.flight;
  turns = h.turns;
  busy = h.busy;
  within = λ at f there. record { priority = (h.within at f there).priority; flight = (h.within at f there).flight; mild = mild at f there };
}

-- ---- one is added

-- a flow that was opened has nothing to send, and nothing in flight
new_quiet : (f : Flow) → f.sender ≡ new_sender 1 → may_later f ≡ false
new_quiet f e = ap (λ (s : Sender). is_some (chunk_for s (choice (2 ^ 64 - 1) 0 s))) e

new_light : (f : Flow) → f.sender ≡ new_sender 1 → flight_of f ≡ 0
new_light f e = ap (λ (s : Sender). in_flight s.rows) e

no_turn_of : (f : Flow) (b : Bool) → may_later f ≡ false → (b && may_later f) ≡ false
no_turn_of f true e = e
no_turn_of f false e = refl

turn_push : (fs : List Flow) (f : Flow) (turn i : ℕ) → may_later f ≡ false → is_turn_of turn (slice_get (fs ++ f ∷ []) i) ≡ is_turn_of turn (slice_get fs i)
turn_push [] f turn zero e = no_turn_of f (turn_of f == turn) e
turn_push [] f turn (suc i) e = refl
turn_push (x ∷ later) f turn zero e = refl
turn_push (x ∷ later) f turn (suc i) e = turn_push later f turn i e

-- nor is it busy
new_idle : (f : Flow) → f.sender ≡ new_sender 1 → is_busy f ≡ false
new_idle f e = ap (λ (s : Sender). not (is_idle s)) e

busy_push : (fs : List Flow) (f : Flow) (i : ℕ) → is_busy f ≡ false → is_busy_of (slice_get (fs ++ f ∷ []) i) ≡ is_busy_of (slice_get fs i)
busy_push [] f zero e = e
busy_push [] f (suc i) e = refl
busy_push (x ∷ later) f zero e = refl
busy_push (x ∷ later) f (suc i) e = busy_push later f i e

within_push : (b : Bound) (fs : List Flow) (f : Flow) → IsWithin b f → ((at : ℕ) (x : Flow) → slice_get fs at ≡ Some x → IsWithin b x) → (at : ℕ) (x : Flow) → slice_get (fs ++ f ∷ []) at ≡ Some x → IsWithin b x
within_push b [] f own h zero x e = subst (λ (y : Flow). IsWithin b y) (some_same e) own
within_push b [] f own h (suc at) x e = absurd cc
within_push b (y ∷ later) f own h zero x e = h 0 x e
within_push b (y ∷ later) f own h (suc at) x e = within_push b later f own (λ i z there. h (suc i) z there) at x e

flight_push : (fs : List Flow) (f : Flow) → flight_of f ≡ 0 → session_flight (fs ++ f ∷ []) ≡ session_flight fs
flight_push [] f e = let sum : session_flight (f ∷ []) ≡ flight_of f + session_flight [] = sum_by-cons flight_of f [] in omega (arith, e)
flight_push (x ∷ later) f e =
    let rest : session_flight (later ++ f ∷ []) ≡ session_flight later = flight_push later f e in
    let now : session_flight (x ∷ (later ++ f ∷ [])) ≡ flight_of x + session_flight (later ++ f ∷ []) = sum_by-cons flight_of x (later ++ f ∷ []) in
    let was : session_flight (x ∷ later) ≡ flight_of x + session_flight later = sum_by-cons flight_of x later in
    omega arith

pub whole_push : (s : FlowsState) (k : Kept) (f : Flow) → length s.sending < 256 → f.id ≡ length s.sending → f.priority ≤ 7 → f.sender ≡ new_sender 1 → IsWhole s k → IsWhole (with_sending s (s.sending ++ f ∷ [])) k
whole_push s k f few id low new h =
    let light : flight_of f ≡ 0 = new_light f new in
    record {
      sound = sound_push s f few id h.sound;
      kept = record {
        flight = h.kept.flight ∙ sym (flight_push s.sending f light);
        turns = λ turn. h.kept.turns turn ∙ sym (turn_push s.sending f turn (turn % 256) (new_quiet f new));
        busy = λ id. h.kept.busy id ∙ sym (busy_push s.sending f id (new_idle f new));
        within = within_push k.bound s.sending f (record { priority = low; flight = omega (arith, light); mild = subst (λ (s : Sender). AreMild k.bound s.waiting) (sym new) tt }) h.kept.within;
      };
    }
