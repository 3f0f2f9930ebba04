-- A call that takes a datagram is a receive: it neither learns nor advances, and begins no search.
use Rattle.std.proofs.Common.{ℕ, List, ◌≡◌, Option, Some, None, refl, sym, ap, subst, true}
use Rattle.endpoint_model.specs.Event.{Call, Open, Seek, Unseek, Cancel, Close, AddRow, Introduce, Narrow, Learn, Advance, OnFlows, Receive, Tick, ReceiveCall, learn_in, is_advance, receive_in}
use Rattle.endpoint_laws.specs.Lawful.{LearnsIn}
use Rattle.endpoint_laws.specs.Past.{datagram_of}

abbrev pub as_call : ReceiveCall → Call
as_call r = Receive r.from r.datagram r.draws

pub call_is : (call : Call) (r : ReceiveCall) → receive_in call ≡ Some r → call ≡ as_call r
call_is (Open peer candidates draws) r e = absurd cc
call_is (Seek name candidates draws) r e = absurd cc
call_is (Unseek near) r e = absurd cc
call_is (Cancel n) r e = absurd cc
call_is (Close near) r e = absurd cc
call_is (AddRow print addresses) r e = absurd cc
call_is Introduce r e = absurd cc
call_is (Narrow limit) r e = absurd cc
call_is (Learn secret) r e = absurd cc
call_is Advance r e = absurd cc
call_is (OnFlows near call) r e = absurd cc
call_is (Receive from datagram draws) r e = let same : record { from = from; datagram = datagram; draws = draws } ≡ r = cc in ap as_call same
call_is (Tick draws) r e = absurd cc

-- and one with a datagram is one
pub call_with : (call : Call) (datagram : List ℕ) → datagram_of (receive_in call) ≡ Some datagram → (r : ReceiveCall) × (call ≡ as_call r)
call_with call datagram given = by (receive_in call) refl given
  where
    by : (o : Option ReceiveCall) → receive_in call ≡ o → datagram_of o ≡ Some datagram → (r : ReceiveCall) × (call ≡ as_call r)
    by None is e = absurd cc
    by (Some r) is e = (r, call_is call r is)

pub no_learn : (call : Call) (r : ReceiveCall) → receive_in call ≡ Some r → LearnsIn (learn_in call) → ⊥
no_learn call r e learns = subst (λ (c : Call). LearnsIn (learn_in c)) (call_is call r e) learns

pub no_advance : (call : Call) (r : ReceiveCall) → receive_in call ≡ Some r → is_advance call ≡ true → ⊥
no_advance call r e advances = let none = subst (λ (c : Call). is_advance c ≡ true) (call_is call r e) advances in absurd cc
