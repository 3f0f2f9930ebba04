-- Whole lines, of their parts.
use Rattle.std.proofs.Common.{ℕ, ◌≡◌, ◌⊎◌, Bool, true, false, List, Option, Some, inl, inr, refl, sym, ap, subst, ◌∙◌}
use Rattle.glare_core.specs.declared.facts.Why.{Why}
use Rattle.glare_core.specs.declared.facts.Why.TheVariants.{Cancelled, Expired, Glare, Override, Unconfirmed, Near, Far, Idle}
use Rattle.glare_core.specs.declared.facts.Fact.{Fact}
use Rattle.glare_core.specs.declared.facts.Held.{Held}
use Rattle.glare_core.specs.Standing.{count, held}
use Rattle.glare_core.specs.Stands.{EndedStands, Stands}
use Rattle.glare_core.specs.Things.{IsSession, near_of}
use Rattle.endpoint_model.specs.declared.entry.Entry.{Entry}
use Rattle.endpoint_model.specs.Event.{Setup, Call, own_of}
use Rattle.endpoint_laws.specs.Past.{Past, facts_of}
use Rattle.endpoint_laws.specs.Contexts.{Secrets}
use Rattle.endpoint_laws.specs.Lawful.{ClosedLine, FactLine, IsCounted}
use Rattle.log_lines.specs.Lines.{hangs_on_datagrams, IsClosedByTime, IsLastTaken, IsLastWith}
use Rattle.log_packets.specs.Asked.{Tells}
use Rattle.log_facts.specs.Coming.{IsClosedByAnswer}
use Rattle.log_facts.specs.Lines.{IsFoundFor, WholeLine, is_far, is_idle}
use Rattle.log_arrivals.specs.declared.arrival.Arrival.{Arrival}
use Rattle.log_facts.proofs.Arriving.{one_of}
use Rattle.log_facts.proofs.Answering.{not_both, tells_like}

pub by_first : (P : Type 0) → P → Tells P true
by_first P p = record { yes = λ e. p; no = λ q. refl }

pub by_second : (P Q : Type 0) (a b : Bool) → (P → a ≡ true) → a ≡ false → Tells Q b → Tells (P ⊎ Q) b
by_second P Q a b first none t = record {
  yes = λ e. inr (t.yes e);
  no = λ s. elim s [
    | inl p ↦ absurd (not_both a none (first p))
    | inr q ↦ t.no q
  ];
}

pub both_ways : (P : Type 0) (it : Bool) → (it ≡ true → P) → (P → it ≡ true) → Tells P it
both_ways P it there back = record { yes = there; no = back }

module _ (secrets : Secrets) (setup : Setup) (now : ℕ) (call : Call) (past : Past) (near : ℕ) where
  pub in_time : IsClosedByTime now call past near → ClosedLine secrets setup now call past near
  in_time t = record { thing = t.thing; at = t.at; closing = t.closing; by = inr t.by }

  in_either : IsClosedByTime now call past near ⊎ IsClosedByAnswer secrets setup call past near → ClosedLine secrets setup now call past near
  in_either (inl t) = in_time t
  in_either (inr a) = record { thing = a.thing; at = a.at; closing = a.closing; by = inl a.by }

  of_either : ClosedLine secrets setup now call past near → IsClosedByTime now call past near ⊎ IsClosedByAnswer secrets setup call past near
  of_either l = elim l.by [
    | inl by ↦ inr (record { thing = l.thing; at = l.at; closing = l.closing; by = by })
    | inr by ↦ inl (record { thing = l.thing; at = l.at; closing = l.closing; by = by })
  ]

  pub closed_tells : (a b : Bool) → (IsClosedByTime now call past near → a ≡ true) → a ≡ false → Tells (IsClosedByAnswer secrets setup call past near) b → Tells (ClosedLine secrets setup now call past near) b
  closed_tells a b first none t = tells_like _ _ b in_either of_either (by_second _ _ a b first none t)

pub far_why : (why : Why) → is_far why ≡ true → why ≡ Far
far_why Far e = refl
far_why Cancelled e = absurd cc
far_why Expired e = absurd cc
far_why Glare e = absurd cc
far_why Override e = absurd cc
far_why Unconfirmed e = absurd cc
far_why Near e = absurd cc
far_why Idle e = absurd cc

pub idle_why : (why : Why) → is_idle why ≡ true → why ≡ Idle
idle_why Idle e = refl
idle_why Cancelled e = absurd cc
idle_why Expired e = absurd cc
idle_why Glare e = absurd cc
idle_why Override e = absurd cc
idle_why Unconfirmed e = absurd cc
idle_why Near e = absurd cc
idle_why Far e = absurd cc

pub other_why : (why : Why) → is_far why ≡ false → is_idle why ≡ false → hangs_on_datagrams why ≡ false
other_why Far e f = absurd cc
other_why Idle e f = absurd cc
other_why Cancelled e f = refl
other_why Expired e f = refl
other_why Glare e f = refl
other_why Override e f = refl
other_why Unconfirmed e f = refl
other_why Near e f = refl

-- ---- facts

module _ (secrets : Secrets) (setup : Setup) (now : ℕ) (call : Call) (past : Past) (rest : List Entry) (fact : Fact) where
  pub on_fact : (arrival : Arrival) (born : Bool) (last : Option ℕ) (own : List ℕ) (that : Fact) → fact ≡ that → (it : Bool) →
      (IsFoundFor secrets setup now call past arrival born last that → Stands own (count (facts_of past)) (facts_of past) that → IsCounted that → Tells (FactLine secrets setup now call past rest that) it) →
      IsFoundFor secrets setup now call past arrival born last fact → Stands own (count (facts_of past)) (facts_of past) fact → IsCounted fact → Tells (FactLine secrets setup now call past rest fact) it
  on_fact arrival born last own that e it given =
      subst (λ (f : Fact). IsFoundFor secrets setup now call past arrival born last f → Stands own (count (facts_of past)) (facts_of past) f → IsCounted f → Tells (FactLine secrets setup now call past rest f) it) (sym e) given

  pub whole_line : (own : List ℕ) → own ≡ own_of setup → Stands own (count (facts_of past)) (facts_of past) fact → IsCounted fact → (it : Bool) → Tells (FactLine secrets setup now call past rest fact) it → Tells (WholeLine secrets setup now call past rest fact) it
  whole_line own is stands counted it t =
      tells_like _ _ it
      (λ line. (subst (λ (o : List ℕ). Stands o (count (facts_of past)) (facts_of past) fact) is stands, line, counted))
      (λ (w : WholeLine secrets setup now call past rest fact). w.1) t

-- when the session that is held with the peer under this session ID took the last datagram
pub last_with : (secrets : Secrets) (setup : Setup) (past : Past) (own peer : List ℕ) (near : ℕ) (why : Why) (last : Option ℕ) → EndedStands own (facts_of past) peer near why →
    ((thing : Held) → held peer (facts_of past) ≡ Some thing → near_of thing ≡ near → IsSession thing → IsLastTaken secrets setup past thing near last) → IsLastWith secrets setup past peer near last
last_with secrets setup past own peer near why last s given = record {
  session = λ thing is_held session. given thing is_held (ap near_of (one_of thing s.h (sym is_held ∙ s.thing)) ∙ sym s.id) session;
}
