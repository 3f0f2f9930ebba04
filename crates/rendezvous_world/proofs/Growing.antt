-- Each step leaves a world.
use Rattle.std.proofs.Common.{◌≡◌, ℕ, ◌<◌, ◌≤◌, ◌^◌, nat_lt, false, List, Option, None, inl, inr, ◌⊎◌, sym, subst, arith}
use Rattle.std.proofs.lemmas.Bool.Decides.{nat_tests}
use Rattle.endpoint_laws.specs.Laws.{AreBytes}
use Rattle.rendezvous_world.specs.declared.journal.JournalLine.{JournalLine}
use Rattle.rendezvous_world.specs.declared.step.Step.{Step}
use Rattle.rendezvous_world.specs.declared.journal.Refused.{Refused}
use Rattle.endpoint_model.specs.declared.answers.Stopped.{Stopped as Stop}
use Rattle.rendezvous_world.specs.Deed.{Deed, NewEnd, NewMoment, Calls, Brings, deed_of}
use Rattle.rendezvous_world.specs.Seen.{Seen}
use Rattle.rendezvous_world.specs.Datagrams.{datagram_in, datagram_of}
use Rattle.rendezvous_world.specs.History.{bytes_or_none}
use Rattle.rendezvous_world.specs.Faults.{is_bad_in, step_fault}
use Rattle.rendezvous_world.specs.Sound.{AreBelow}
use Rattle.endpoint_model.specs.State.{at_moment}
use Rattle.rendezvous_world.specs.Stepping.{with_state, called_by, HasAnswer, Called, SteppedAs, Stepped, StoppedIn, Noted}
use Rattle.rendezvous_world.specs.Entering.{IsSizedDeed}
use Rattle.rendezvous_world.specs.Kept.{IsWorld}
use Rattle.rendezvous_world.specs.Laws.{IsSizedIn, IsSized, EveryStepKeepsAWorld}
use Rattle.rendezvous_world.proofs.Keeping.{with_moment_is_world, with_end_is_world}
use Rattle.rendezvous_world.proofs.Refusing.{no_bytes}
use Rattle.rendezvous_world.proofs.Told.{all_more, below_more}
use Rattle.rendezvous_world.proofs.Noting.{noted_is_world}
use Rattle.rendezvous_world.proofs.Calling.{may_step, seen_is, called_is_world}

not_back : (last moment : ℕ) → nat_lt moment last ≡ false → last ≤ moment
not_back last moment e = grind (arith, nat_tests)

module _ (w : Seen) (number : ℕ) (t : Seen) (is : IsWorld w) (below : AreBelow w.lines number) (small : number < 2 ^ 32) where
  by_line : (step : Step) (line : JournalLine) → step_fault w step ≡ None → AreBytes (bytes_or_none (datagram_of w step)) → IsSizedDeed (deed_of step) → Called w number step line t → IsWorld t
  by_line step line none bytes sized called =
      called_is_world w number step line t is below small none called (subst (λ (o : Option (List ℕ)). AreBytes (bytes_or_none o)) (sym called.is_line.datagram) bytes) sized

  -- the step was done
  done_as : (step : Step) (deed : Deed) → IsSizedIn w deed → is_bad_in w deed ≡ false →
      ((line : JournalLine) → AreBytes (bytes_or_none (datagram_in w deed)) → IsSizedDeed deed → Called w number step line t → IsWorld t) → SteppedAs w number step deed t → IsWorld t
  done_as step (NewEnd name max_peers max_sessions cert) sized fine by h = subst (λ (x : Seen). IsWorld x) (sym h) (with_end_is_world w name cert max_peers max_sessions is sized fine)
  done_as step (NewMoment moment) sized fine by h = subst (λ (x : Seen). IsWorld x) (sym h) (with_moment_is_world w moment (not_back w.moment moment fine) is)
  done_as step (Calls end call) sized fine by h = by h.0 no_bytes sized h.2
  done_as step (Brings end from source) sized fine by h = by h.0 sized tt h.2

  done : (step : Step) → IsSized w step → step_fault w step ≡ None → Stepped w number step t → IsWorld t
  done step sized none h = done_as step (deed_of step) sized (may_step w step none).fine (λ line bytes named called. by_line step line none bytes named called) h

  -- it found no memory, and its line is there
  sized_bytes : (deed : Deed) (refused : Option Refused) (stopped : Option Stop) → HasAnswer deed refused stopped → IsSizedIn w deed → AreBytes (bytes_or_none (datagram_in w deed))
  sized_bytes (NewEnd name max_peers max_sessions cert) refused stopped answer sized = absurd answer
  sized_bytes (Calls end call) refused stopped answer sized = no_bytes
  sized_bytes deed refused stopped answer sized = sized

  sized_call : (deed : Deed) → IsSizedIn w deed → IsSizedDeed deed
  sized_call (Calls end call) sized = sized
  sized_call deed sized = tt

  halted : (step : Step) → IsSized w step → step_fault w step ≡ None → StoppedIn w number step t → IsWorld t
  halted step sized none h = by_line step h.line none (sized_bytes (deed_of step) h.line.refused h.line.stopped h.called.is_line.answer sized) (sized_call (deed_of step) sized) h.called

-- it was an open, a seek or a close that found no memory
pub noted_keeps : (w : Seen) (step : Step) (t : Seen) → IsWorld w → Noted w step t → IsWorld t
noted_keeps w step t is h =
    subst (λ (x : Seen). IsWorld x) (sym (seen_is t w.moment (with_state w.ends (called_by step) (at_moment h.end.state w.moment)) w.lines h.moment h.ends h.lines)) (noted_is_world w (called_by step) h.end is h.is_end)

pub step_keeps : EveryStepKeepsAWorld
step_keeps w number step t is below small sized none (inl h) = done w number t is below small step sized none h
step_keeps w number step t is below small sized none (inr (inl h)) = halted w number t is below small step sized none h
step_keeps w number step t is below small sized none (inr (inr h)) = noted_keeps w step t is h

-- ---- the numbers of lines after a step

called_below : (w : Seen) (number : ℕ) (step : Step) (line : JournalLine) (t : Seen) (more : ℕ) → AreBelow w.lines number → number < more → Called w number step line t → AreBelow t.lines more
called_below w number step line t more below lt called =
    let is : line.line ≡ number = called.is_line.line in
    let here : line.line < more = omega arith in
    subst (λ (lines : List JournalLine). AreBelow lines more) (sym called.lines)
    (all_more (λ (l : JournalLine). l.line < more) w.lines line (below_more w.lines number more below (omega arith)) here)

done_below : (w : Seen) (number : ℕ) (step : Step) (deed : Deed) (t : Seen) (more : ℕ) → AreBelow w.lines number → number < more → SteppedAs w number step deed t → AreBelow t.lines more
done_below w number step (Calls end call) t more below lt h = called_below w number step h.0 t more below lt h.2
done_below w number step (Brings end from source) t more below lt h = called_below w number step h.0 t more below lt h.2
done_below w number step deed t more below lt h = subst (λ (x : Seen). AreBelow x.lines more) (sym h) (below_more w.lines number more below (omega arith))

-- the lines are below any number above that of the step
pub step_below : (w : Seen) (number : ℕ) (step : Step) (t : Seen) (more : ℕ) → AreBelow w.lines number → number < more → Stepped w number step t ⊎ (StoppedIn w number step t ⊎ Noted w step t) → AreBelow t.lines more
step_below w number step t more below lt (inl h) = done_below w number step (deed_of step) t more below lt h
step_below w number step t more below lt (inr (inl h)) = called_below w number step h.line t more below lt h.called
step_below w number step t more below lt (inr (inr h)) = subst (λ (lines : List JournalLine). AreBelow lines more) (sym h.lines) (below_more w.lines number more below (omega arith))
