-- A flow that changes keeps its ID and its priority.
use Rattle.std.proofs.Common.{◌≡◌, Result, Ok, Err, sym, ap, subst}
use Rattle.std.specs.Prelude.{OnOk, OnErr}
use Rattle.flow_send.specs.Sender.{Sender}
use Rattle.flow_send.specs.Flow.{Flow, with_sender}
use Rattle.session_flows.specs.declared.bound.Bound.{Bound}
use Rattle.session_flows.specs.Bound.{AreMild}

pub record IsKin (f g : Flow) : Type 0 where
  pub id : g.id ≡ f.id
  pub priority : g.priority ≡ f.priority

pub kin : {f g : Flow} {s : Sender} → g ≡ with_sender f s → IsKin f g
kin e = record { id = ap (λ (x : Flow). x.id) e; priority = ap (λ (x : Flow). x.priority) e }

pub same : {f g : Flow} → g ≡ f → IsKin f g
same e = record { id = ap (λ (x : Flow). x.id) e; priority = ap (λ (x : Flow). x.priority) e }

pub either : {A E : Type 0} (r : Result A E) (f g : Flow) (s : Sender) → OnOk r (g ≡ with_sender f s) → OnErr r (g ≡ f) → IsKin f g
either (Ok x) f g s ok err = kin ok
either (Err e) f g s ok err = same err

-- Whatever bound the messages of the one keep, those of the other do.
abbrev pub Milder : Flow → Flow → Type 0
Milder f g = (b : Bound) → AreMild b f.sender.waiting → AreMild b g.sender.waiting

pub milder : (f g : Flow) (s : Sender) → g ≡ with_sender f s → ((b : Bound) → AreMild b f.sender.waiting → AreMild b s.waiting) → Milder f g
milder f g s e m b h = subst (λ (y : Flow). AreMild b y.sender.waiting) (sym e) (m b h)
