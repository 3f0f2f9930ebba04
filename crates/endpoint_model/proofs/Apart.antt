-- An entry is a fact, a datagram, or neither, and a call that has an open is one, as one that has a
-- receive. Each lemma has one clause for all that are neither.
use Rattle.std.proofs.Common.{◌≡◌, ◌⊎◌, inl, inr, Some, None, refl, ap}
use Rattle.glare_core.specs.declared.facts.Fact.{Fact}
use Rattle.endpoint_model.specs.declared.entry.Entry.{Entry}
use Rattle.endpoint_model.specs.declared.entry.Entry.TheVariants.{Fact as FactEntry, Out}
use Rattle.endpoint_model.specs.Event.{Call, Open, Receive, OpenCall, ReceiveCall, open_in, receive_in}
use Rattle.endpoint_model.specs.Views.{Sending, fact_in, out_in}

same_inside : {A : Type 0} (x y : A) → Some x ≡ Some y → x ≡ y
same_inside x y e = cc

-- ---- entries

-- neither a fact nor a datagram
pub record IsOther (entry : Entry) : Type 0 where
  pub no_fact : fact_in entry ≡ None
  pub no_out : out_in entry ≡ None

pub kind_of : (entry : Entry) → ((fact : Fact) × (entry ≡ FactEntry fact)) ⊎ (((sent : Sending) × (entry ≡ Out sent.to sent.datagram sent.context)) ⊎ IsOther entry)
kind_of (FactEntry fact) = inl (fact, refl)
kind_of (Out to datagram context) = inr (inl (record { to = to; datagram = datagram; context = context }, refl))
kind_of entry = inr (inr (record { no_fact = refl; no_out = refl }))

-- ---- calls

pub opens_alone : (call : Call) (o : OpenCall) → open_in call ≡ Some o → call ≡ Open o.peer o.candidates o.draws
opens_alone (Open peer candidates draws) o e = ap (λ (x : OpenCall). Open x.peer x.candidates x.draws) (same_inside (record { peer = peer; candidates = candidates; draws = draws }) o e)
opens_alone call o e = absurd (cc)

pub receives_alone : (call : Call) (r : ReceiveCall) → receive_in call ≡ Some r → call ≡ Receive r.from r.datagram r.draws
receives_alone (Receive from datagram draws) r e = ap (λ (x : ReceiveCall). Receive x.from x.datagram x.draws) (same_inside (record { from = from; datagram = datagram; draws = draws }) r e)
receives_alone call r e = absurd (cc)
