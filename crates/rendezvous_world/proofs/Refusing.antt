-- What a step answers, by what refuses it.
use Rattle.std.proofs.Common.{◌≡◌, ℕ, ◌<◌, ◌^◌, ◌||◌, Bool, true, false, List, [], ◌∷◌, map, length, Option, Some, None, IfSome, IfNone, OnOk, IfErr, Result, Ok, Err, is_some, nat_le, refl, sym, ap, ◌∙◌, subst, inl, arith}
use Rattle.std.specs.List.{list_any}
use Rattle.std.proofs.lemmas.Bool.{or_parts}
use Rattle.std.proofs.lemmas.Bool.Decides.{nat_tests}
use Rattle.sha2.specs.Sha256.{sha256}
use Rattle.rtmfp_base.specs.Reasons.{first_that_stands, where_true}
use Rattle.endpoint_laws.specs.Laws.{AreBytes}
use Rattle.rendezvous_world.specs.declared.step.Step.{Step}
use Rattle.rendezvous_world.specs.declared.step.Step.TheVariants.{End}
use Rattle.rendezvous_world.specs.declared.step.StepFault.{StepFault}
use Rattle.rendezvous_world.specs.declared.step.StepFault.TheVariants.{NoEnd, NoDatagram, BadStep, Forged, Memory}
use Rattle.rendezvous_world.specs.declared.journal.JournalLine.{JournalLine}
use Rattle.rendezvous_world.specs.Deed.{Deed, Calls, Brings, deed_of, end_of, narrows_beyond, IsCalling}
use Rattle.rendezvous_world.specs.Calls.{peer_in}
use Rattle.rendezvous_world.specs.Seen.{EndSeen, Seen}
use Rattle.rendezvous_world.specs.Faults.{is_missing, lacks_peer, lacks_end_in, lacks_end, lacks_datagram_in, lacks_datagram, is_like, is_outside, is_bad_in, is_bad, is_forged_in, is_forged, is_forged_by, step_fault}
use Rattle.rendezvous_world.specs.Datagrams.{datagram_in}
use Rattle.rendezvous_world.specs.History.{peer_or, peer_of}
use Rattle.rendezvous_world.specs.Stepping.{Called, SteppedAs, Stepped}
use Rattle.rendezvous_world.specs.Sound.{AreBelow}
use Rattle.rendezvous_world.specs.Inside.{named_of}
use Rattle.rtmfp_text.specs.Names.{is_like as is_like_named}
use Rattle.rendezvous_world.specs.Entering.{CallsAnEnd, IsCallOf, IsSizedDeed, IsEntering, IsEntered, IsBringing, IsDone}

-- ---- the first reason

first_fault : (a b c d : Bool) → a ≡ true → first_that_stands (where_true a NoEnd ∷ where_true b NoDatagram ∷ where_true c BadStep ∷ where_true d Forged ∷ []) ≡ Some NoEnd
first_fault true b c d e = refl
first_fault false b c d e = absurd (cc)

third_fault : (a b c d : Bool) → a ≡ false → b ≡ false → c ≡ true → first_that_stands (where_true a NoEnd ∷ where_true b NoDatagram ∷ where_true c BadStep ∷ where_true d Forged ∷ []) ≡ Some BadStep
third_fault true b c d e f g = absurd (cc)
third_fault false true c d e f g = absurd (cc)
third_fault false false true d e f g = refl
third_fault false false false d e f g = absurd (cc)

last_fault : (a b c d : Bool) → a ≡ false → b ≡ false → c ≡ false → first_that_stands (where_true a NoEnd ∷ where_true b NoDatagram ∷ where_true c BadStep ∷ where_true d Forged ∷ []) ≡ where_true d Forged
last_fault true b c d e f g = absurd (cc)
last_fault false true c d e f g = absurd (cc)
last_fault false false true d e f g = absurd (cc)
last_fault false false false true e f g = refl
last_fault false false false false e f g = refl

module _ (w : Seen) (number : ℕ) (step : Step) where
  fault_done : (fault : StepFault) → step_fault w step ≡ Some fault → IsDone w number step (Err fault) w
  fault_done fault e = record {
    ok = tt;
    refused = subst (λ (o : Option StepFault). IfSome o (λ x. (◌≡◌ {A = Result (Unit {0}) StepFault} (Err fault) (Err x)) × (w ≡ w))) (sym e) (refl, refl);
    memory = subst (λ (o : Option StepFault). IfNone o (fault ≡ Memory)) (sym e) tt;
    err = inl refl;
  }

  pub lacking_done : lacks_end w step ≡ true → IsDone w number step (Err NoEnd) w
  lacking_done e = fault_done NoEnd (first_fault (lacks_end w step) (lacks_datagram w step) (is_bad w step) (is_forged w step) e)

  pub bad_done : lacks_end w step ≡ false → lacks_datagram w step ≡ false → is_bad w step ≡ true → IsDone w number step (Err BadStep) w
  bad_done e f g = fault_done BadStep (third_fault (lacks_end w step) (lacks_datagram w step) (is_bad w step) (is_forged w step) e f g)

  pub forged_done : step_fault w step ≡ Some Forged → IsDone w number step (Err Forged) w
  forged_done e = fault_done Forged e

  pub fault_left : lacks_end w step ≡ false → lacks_datagram w step ≡ false → is_bad w step ≡ false → step_fault w step ≡ where_true (is_forged w step) Forged
  fault_left e f g = last_fault (lacks_end w step) (lacks_datagram w step) (is_bad w step) (is_forged w step) e f g

  pub memory_done : (t : Seen) → t ≡ w → step_fault w step ≡ None → IsDone w number step (Err Memory) t
  memory_done t same e = record {
    ok = tt;
    refused = subst (λ (o : Option StepFault). IfSome o (λ x. (◌≡◌ {A = Result (Unit {0}) StepFault} (Err Memory) (Err x)) × (t ≡ w))) (sym e) tt;
    memory = subst (λ (o : Option StepFault). IfNone o (◌≡◌ {A = StepFault} Memory Memory)) (sym e) refl;
    err = inl same;
  }

  pub done_done : (t : Seen) → step_fault w step ≡ None → Stepped w number step t → IsDone w number step (Ok tt) t
  done_done t e stepped = record {
    ok = stepped;
    refused = subst (λ (o : Option StepFault). IfSome o (λ x. (◌≡◌ {A = Result (Unit {0}) StepFault} (Ok tt) (Err x)) × (t ≡ w))) (sym e) tt;
    memory = subst (λ (o : Option StepFault). IfNone o (Unit {0})) (sym e) tt;
    err = tt;
  }

-- ---- a step that calls an end

stepped : (w : Seen) (number : ℕ) (step : Step) (deed : Deed) (r : Result (Unit {0}) StepFault) (t : Seen) → IsCalling deed →
    OnOk r ((line : JournalLine) × (is_some line.stopped ≡ false) × Called w number step line t) → OnOk r (SteppedAs w number step deed t)
stepped w number step (Calls end call) r t calls h = h
stepped w number step (Brings end from source) r t calls h = h
stepped w number step deed r t calls h = absurd calls

pub entered_done : (w : Seen) (number : ℕ) (step : Step) (r : Result (Unit {0}) StepFault) (t : Seen) → CallsAnEnd step → step_fault w step ≡ None → IsEntered w number step r t → IsDone w number step r t
entered_done w number step r t calls e h = record {
  ok = stepped w number step (deed_of step) r t calls h.ok;
  refused = subst (λ (o : Option StepFault). IfSome o (λ x. (r ≡ Err x) × (t ≡ w))) (sym e) tt;
  memory = subst (λ (o : Option StepFault). IfNone o (IfErr r (λ fault. fault ≡ Memory))) (sym e) h.memory;
  err = h.err;
}

pub there_is : (w : Seen) (end : ℕ) → is_missing w end ≡ false → end < length w.ends
there_is w end e = grind (arith, nat_tests)

pub no_bytes : AreBytes []
no_bytes k d lt = absurd (omega arith)

-- what is so of a call of this end, which names this other, if any
record IsPlain (w : Seen) (end : ℕ) (peer : Option ℕ) (deed : Deed) : Type 0 where
  calls : IsCalling deed
  called : end_of deed ≡ end
  named : peer_of deed ≡ peer_or end peer
  sized : IsSizedDeed deed
  datagram : None ≡ datagram_in w deed
  lacks : lacks_end_in w deed ≡ (lacks_peer w peer || is_missing w end)
  full : lacks_datagram_in w deed ≡ false
  fine : is_bad_in w deed ≡ narrows_beyond deed
  unforged : is_forged_in w deed ≡ false

plain : (w : Seen) (end : ℕ) (peer : Option ℕ) (deed : Deed) → IsCallOf end peer deed → IsPlain w end peer deed
plain w end peer (Calls who call) is = record {
  calls = tt;
  called = is.0;
  named = ap (λ (k : ℕ). peer_or k (peer_in call)) is.0 ∙ ap (λ (o : Option ℕ). peer_or end o) is.1;
  sized = is.2;
  datagram = refl;
  lacks = ap (λ (k : ℕ). lacks_peer w (peer_in call) || is_missing w k) is.0 ∙ ap (λ (o : Option ℕ). lacks_peer w o || is_missing w end) is.1;
  full = refl;
  fine = refl;
  unforged = refl;
}
plain w end peer deed is = absurd is

pub call_named : (w : Seen) (end : ℕ) (peer : Option ℕ) (deed : Deed) → IsCallOf end peer deed → peer_of deed ≡ peer_or end peer
call_named w end peer deed is = (plain w end peer deed is).named

pub call_lacks : (w : Seen) (end : ℕ) (peer : Option ℕ) (step : Step) → IsCallOf end peer (deed_of step) → lacks_end w step ≡ (lacks_peer w peer || is_missing w end)
call_lacks w end peer step is = (plain w end peer (deed_of step) is).lacks

-- an end is to be narrowed beyond the limits
pub call_beyond : (w : Seen) (number end : ℕ) (peer : Option ℕ) (step : Step) → IsCallOf end peer (deed_of step) → (lacks_peer w peer || is_missing w end) ≡ false → narrows_beyond (deed_of step) ≡ true →
    IsDone w number step (Err BadStep) w
call_beyond w number end peer step is there beyond =
    let p : IsPlain w end peer (deed_of step) = plain w end peer (deed_of step) is in
    bad_done w number step (p.lacks ∙ there) p.full (p.fine ∙ beyond)

peer_there : (w : Seen) (end : ℕ) (peer : Option ℕ) → lacks_peer w peer ≡ false → is_missing w end ≡ false → peer_or end peer < length w.ends
peer_there w end None e there = there_is w end there
peer_there w end (Some peer) e there = there_is w peer e

pub entering_call : (w : Seen) (number end : ℕ) (peer : Option ℕ) (step : Step) → AreBelow w.lines number → number < 2 ^ 32 → IsCallOf end peer (deed_of step) → (lacks_peer w peer || is_missing w end) ≡ false → narrows_beyond (deed_of step) ≡ false →
    IsEntering w number end step None []
entering_call w number end peer step above fits is there within =
    let p : IsPlain w end peer (deed_of step) = plain w end peer (deed_of step) is in
    let both = or_parts (lacks_peer w peer) (is_missing w end) there in
    record {
      above = above;
      fits = fits;
      there = there_is w end both.1;
      calls = p.calls;
      called = p.called;
      peer = subst (λ (k : ℕ). k < length w.ends) (sym p.named) (peer_there w end peer both.0 both.1);
      datagram = p.datagram;
      bytes = refl;
      short = omega arith;
      are_bytes = no_bytes;
      sized = p.sized;
      fine = fault_left w number step (p.lacks ∙ there) p.full (p.fine ∙ within) ∙ ap (λ (x : Bool). where_true x Forged) p.unforged;
    }

-- ---- a step that brings a datagram

pub entering_bringing : (w : Seen) (number end : ℕ) (step : Step) (bytes copy : List ℕ) → IsBringing w number end step bytes → is_forged_by w end (Some bytes) ≡ false → AreBytes bytes → copy ≡ bytes →
    IsEntering w number end step (Some copy) bytes
entering_bringing w number end step bytes copy b fine are same =
    subst (λ (x : List ℕ). IsEntering w number end step (Some x) bytes) (sym same) (record {
      above = b.above;
      fits = b.fits;
      there = b.there;
      calls = b.calls;
      called = b.called;
      peer = (let p : peer_of (deed_of step) ≡ end = b.peer in let t : end < length w.ends = b.there in subst (λ (k : ℕ). k < length w.ends) (sym p) t);
      datagram = sym b.datagram;
      bytes = refl;
      short = b.short;
      are_bytes = are;
      sized = b.sized;
      fine = b.fault ∙ ap (λ (x : Bool). where_true x Forged) fine;
    })

-- ---- a new end

pub like_named : (name cert : List ℕ) (ends : List EndSeen) → list_any (is_like_named name (sha256 cert)) (map named_of ends) ≡ list_any (is_like name cert) ends
like_named name cert [] = refl
like_named name cert (e ∷ ends) = ap (λ (b : Bool). is_like name cert e || b) (like_named name cert ends)

pub bad_end_is : (w : Seen) (name cert print : List ℕ) (max_peers max_sessions : ℕ) (answer : Bool) → print ≡ sha256 cert →
    answer ≡ (list_any (is_like_named name print) (map named_of w.ends) || nat_le 1024 (length w.ends) || is_outside 1048576 max_peers || is_outside 65536 max_sessions) →
    answer ≡ is_bad w (End name max_peers max_sessions cert)
bad_end_is w name cert print max_peers max_sessions answer is e =
    e ∙ ap (λ (p : List ℕ). list_any (is_like_named name p) (map named_of w.ends) || nat_le 1024 (length w.ends) || is_outside 1048576 max_peers || is_outside 65536 max_sessions) is
    ∙ ap (λ (b : Bool). b || nat_le 1024 (length w.ends) || is_outside 1048576 max_peers || is_outside 65536 max_sessions) (like_named name cert w.ends)
