-- A flow is opened once at most, so it has one order.
use Rattle.std.proofs.Common.{◌≡◌, ℕ, ◌==◌, ◌⊎◌, Bool, true, false, ◌∷◌, [], Option, Some, None}
use Rattle.std.proofs.Common.{refl, ap, inl, inr}
use Rattle.flow_send.specs.Sender.{new_sender}
use Rattle.flow_exchange.specs.Sending.{Act}
use Rattle.flow_history.specs.Flow.{Opened, SendingBegins, SendingEnds, Opens, Acts, Touch, BySender}
use Rattle.flow_history.specs.Flow.{ByReceiver, Goes, Beside, Steps, step, opened_in, acted_in}
use Rattle.flow_history.specs.Flow.{sending_after, sending_at}
use Rattle.flow_history.specs.Run.{HasBegunSending, May, IsRun, IsOrdered}
use Rattle.flow_history.specs.Deeds.{Name, History, steps_of}
use Rattle.flow_history.specs.Lawful.{IsLawful, IsHonest}
use Rattle.flow_history.specs.Log.{HasOrder}
use Rattle.flow_history.proofs.Keeps.{step_less, step_only}
use Rattle.flow_history.proofs.Tied.{Tied, tied}
use Rattle.flow_history.proofs.Projected.{is_run}

-- No end holds a session in which it could be opened.
abbrev NoneUnopened : Steps → Type 0
NoneUnopened h = (who : ℕ) → sending_at h who ≡ Some None → ⊥

-- It was never opened, or it was and never will be again.
data OneOrder (h : Steps) : Type 0 where
  Unopened : IsOrdered false h → IsOrdered true h → OneOrder h
  OpenedAs : (b : Bool) → IsOrdered b h → HasBegunSending h → NoneUnopened h → OneOrder h

none_still : (h : Steps) (who : ℕ) (t : Touch) →
    ((k : Option (Option Opened)) → sending_after k t ≡ Some None → k ≡ Some None) →
    NoneUnopened h → NoneUnopened (step who t ∷ h)
none_still h who t less none a e = none a
    (step_less (who == a) (sending_after (sending_at h a) t) (sending_at h a) None
    (less (sending_at h a)) e)

acted_less : (k : Option (Option Opened)) (act : Act) → acted_in k act ≡ Some None → k ≡ Some None
acted_less None act e = e
acted_less (Some None) act e = refl
acted_less (Some (Some k)) act e = absurd cc

opened_on : (h : Steps) (who : ℕ) (t : Touch) (b : Bool) → May h who t → IsOrdered b h →
    HasBegunSending h → NoneUnopened h → OneOrder (step who t ∷ h)
opened_on h who (BySender SendingBegins) b may order begun none = absurd (may begun)
opened_on h who (BySender SendingEnds) b may order begun none =
    OpenedAs b (tt, order) (inr begun)
    (none_still h who (BySender SendingEnds) (λ k e. absurd cc) none)
opened_on h who (BySender (Opens a)) b may order begun none = absurd (none who may)
opened_on h who (BySender (Acts act)) b may order begun none =
    OpenedAs b (tt, order) (inr begun)
    (none_still h who (BySender (Acts act)) (λ k e. acted_less k act e) none)
opened_on h who (ByReceiver t) b may order begun none =
    OpenedAs b (tt, order) (inr begun) (none_still h who (ByReceiver t) (λ k e. e) none)
opened_on h who (Goes chunks acks) b may order begun none =
    OpenedAs b (tt, order) (inr begun) (none_still h who (Goes chunks acks) (λ k e. e) none)
opened_on h who Beside b may order begun none =
    OpenedAs b (tt, order) (inr begun) (none_still h who Beside (λ k e. e) none)

either : (h : Steps) (b : Bool) → IsOrdered false h → IsOrdered true h → IsOrdered b h
either h false f t = f
either h true f t = t

opens_now : (h : Steps) (who : ℕ) (a : Bool) → IsRun h → sending_at h who ≡ Some None →
    IsOrdered false h → IsOrdered true h → OneOrder (step who (BySender (Opens a)) ∷ h)
opens_now h who a run at f t =
    let k : Tied false h = tied false h run f in
    let touch : Touch = BySender (Opens a) in
    let new : Opened = record { arriving = a; sender = new_sender 1 } in
    OpenedAs a (refl, either h a f t) (inr (k.1.sender.begins who None at))
    (λ c e. (
    let only = step_only (sending_at h) (λ d. sending_after (sending_at h d) touch) who c
    (Some new) None (λ d x g. k.1.sender.one who d None x at g) (ap (λ x. opened_in x a) at) e in
    absurd (let none : Some new ≡ None = only.1 in cc)
    ))

unopened_on : (h : Steps) (who : ℕ) (t : Touch) → IsRun h → May h who t → IsOrdered false h →
    IsOrdered true h → OneOrder (step who t ∷ h)
unopened_on h who (BySender SendingBegins) run may f t = Unopened (tt, f) (tt, t)
unopened_on h who (BySender SendingEnds) run may f t = Unopened (tt, f) (tt, t)
unopened_on h who (BySender (Opens a)) run may f t = opens_now h who a run may f t
unopened_on h who (BySender (Acts act)) run may f t = Unopened (tt, f) (tt, t)
unopened_on h who (ByReceiver x) run may f t = Unopened (tt, f) (tt, t)
unopened_on h who (Goes chunks acks) run may f t = Unopened (tt, f) (tt, t)
unopened_on h who Beside run may f t = Unopened (tt, f) (tt, t)

one_order : (h : Steps) → IsRun h → OneOrder h
one_order [] run = Unopened tt tt
one_order (s ∷ h) run = elim (one_order h run.1) [
  | Unopened f t ↦ unopened_on h s.who s.touch run.1 run.0 f t
  | OpenedAs b order begun none ↦ opened_on h s.who s.touch b run.0 order begun none
]

of_bool : (h : Steps) (b : Bool) → IsOrdered b h → IsOrdered false h ⊎ IsOrdered true h
of_bool h false order = inl order
of_bool h true order = inr order

pub has_an_order : (h : History) → IsLawful h → IsHonest h → (n : Name) →
    HasOrder false n h ⊎ HasOrder true n h
has_an_order h lawful honest n = elim (one_order (steps_of n h) (is_run n h lawful honest)) [
  | Unopened f t ↦ inl f
  | OpenedAs b order begun none ↦ of_bool (steps_of n h) b order
]
