-- What is told of a line whose text is that of the logs.
use Rattle.std.proofs.Common.{◌≡◌, ◌≢◌, ℕ, Bool, true, false, List, [], ◌∷◌, ◌++◌, length, slice_get, Option, Some, None, Result, Ok, Err, IfOk, IfErr, IfSome, IfNone, inl, inr, refl, sym, ap, ◌∙◌, subst, append-nil}
use Rattle.std.specs.declared.alloc.AllocError.{AllocError}
use Rattle.endpoint_laws.specs.History.{History}
use Rattle.rtmfp_script.specs.declared.line.ScriptLine.{ScriptLine}
use Rattle.rtmfp_script.specs.declared.line.ScriptLine.TheVariants as says
use Rattle.rtmfp_script.specs.declared.line.CallLine.{CallLine}
use Rattle.rtmfp_script.specs.declared.line.CallLine.TheVariants as call
use Rattle.rtmfp_script.specs.declared.line.AimLine.{AimLine}
use Rattle.rtmfp_script.specs.declared.line.AimLine.TheVariants as aim
use Rattle.rtmfp_script.specs.declared.line.BringLine.{BringLine}
use Rattle.rtmfp_script.specs.declared.line.BringLine.TheVariants as bring
use Rattle.rtmfp_script.specs.declared.line.Said.{Said as LineSaid}
use Rattle.rtmfp_script.specs.declared.line.Said.TheVariants.{Step as SaidStep}
use Rattle.rtmfp_script.specs.Grammar.{IsLineOf}
use Rattle.rtmfp_script.specs.Lines.{Says}
use Rattle.rtmfp_forms.specs.Address.{AddressParts}
use Rattle.rendezvous_world.specs.declared.step.Step.{Step}
use Rattle.rendezvous_world.specs.declared.step.StepFault.{StepFault}
use Rattle.rendezvous_world.specs.declared.step.StepFault.TheVariants.{NoEnd, NoDatagram, BadStep, Forged as ForgedStep, Memory}
use Rattle.rendezvous_world.specs.Deed.{deed_of}
use Rattle.rendezvous_world.specs.History.{history_of}
use Rattle.rendezvous_world.specs.Seen.{Seen}
use Rattle.placed_world.specs.declared.step.LostLine.{LostLine}
use Rattle.placed_world.specs.declared.step.PlacedStep.{PlacedStep}
use Rattle.placed_world.specs.Seen.{PlacedSeen}
use Rattle.placed_world.specs.Stepping.{Placed, RefusedFor, comes_to, flat, placed_fault}
use Rattle.rtmfp_play.specs.declared.said.Said.{Said}
use Rattle.rtmfp_play.specs.declared.said.Said.TheVariants.{Text, Bad, Forged}
use Rattle.rtmfp_play.specs.Journaled.{IsInTime, IsRefusedStep, IsTimely, JournaledSaid, JournaledStep, has_begun, is_late, next_text, refused_as}
use Rattle.rtmfp_play.specs.Journaling.{IsLateEnd, JournaledAs}
use Rattle.rtmfp_play.specs.Laws.{EachJournaledLineIsPlayed, EachLineAddsItsText}
use Rattle.rtmfp_play.specs.Journaling.{written_so_far}
use Rattle.rtmfp_play.specs.Moments.{AreMomentsOf, moment_of}
use Rattle.rtmfp_play.specs.Play.{HistoryHolds, IsBadStep, aim_step, behind_said, bring_step, call_step, names_of, number_of, place_by, placed_said, step_by, step_by_both, told_since}
use Rattle.rtmfp_play.specs.Playing.{StaysAs}
use Rattle.rtmfp_play.proofs.Happening.{flat_goes, step_fits}
use Rattle.rtmfp_play.proofs.LogsTold.{written_more}
use Rattle.rtmfp_play.proofs.Placing.{flat_as, refused_placed}
use Rattle.rtmfp_play.proofs.Played.{not_nothing, said_is}

-- ---- ends in time

not_begun : (history : History) → has_begun history ≡ false → history ≡ []
not_begun [] e = refl
not_begun (h ∷ earlier) e = absurd (cc)

call_in_time : (history : History) (end : ℕ) (does : CallLine) → IsTimely history (deed_of (call_step end does))
call_in_time history end call.Introduce = tt
call_in_time history end (call.Narrow limit) = tt
call_in_time history end (call.Seek service addresses) = tt
call_in_time history end (call.Unseek near) = tt
call_in_time history end (call.Cancel number) = tt
call_in_time history end (call.Close near) = tt
call_in_time history end (call.Flow near priority metadata answers) = tt
call_in_time history end (call.Queue near flow deadline resends content) = tt
call_in_time history end (call.Abandon near flow seq) = tt
call_in_time history end (call.Finish near flow) = tt
call_in_time history end call.Learn = tt
call_in_time history end call.Advance = tt
call_in_time history end call.Tick = tt

aim_in_time : (history : History) (end peer : ℕ) (addresses : List AddressParts) (does : AimLine) → IsTimely history (deed_of (aim_step end peer addresses does))
aim_in_time history end peer addresses aim.Redirect = tt
aim_in_time history end peer addresses aim.Open = tt

bring_in_time : (history : History) (end : ℕ) (from : AddressParts) (what : BringLine) → IsTimely history (deed_of (bring_step end from what))
bring_in_time history end from (bring.Deliver number) = tt
bring_in_time history end from (bring.Bent number place) = tt
bring_in_time history end from (bring.Inject bytes) = tt
bring_in_time history end from (bring.Forge bytes) = tt

by_one : (w : PlacedSeen) (o : Option ℕ) (step : ℕ → Step) → ((end : ℕ) → IsTimely (history_of w.world) (deed_of (step end))) → IfSome (step_by o step) (IsInTime w)
by_one w None step timely = tt
by_one w (Some end) step timely = timely end

by_both : (w : PlacedSeen) (o p : Option ℕ) (step : ℕ → ℕ → Step) → ((end peer : ℕ) → IsTimely (history_of w.world) (deed_of (step end peer))) → IfSome (step_by_both o p step) (IsInTime w)
by_both w None p step timely = tt
by_both w (Some end) None step timely = tt
by_both w (Some end) (Some peer) step timely = timely end peer

by_place : (w : PlacedSeen) (o : Option ℕ) (at : AddressParts) (behind : Option (Option ℕ)) → IfSome (place_by o at behind) (IsInTime w)
by_place w None at behind = tt
by_place w (Some end) at None = tt
by_place w (Some end) at (Some behind) = tt

said_in_time : (w : PlacedSeen) (said : ScriptLine) → is_late (history_of w.world) said ≡ false → IfSome (placed_said w said) (IsInTime w)
said_in_time w (says.End name peers sessions cert) e = not_begun (history_of w.world) e
said_in_time w (says.At moment) e = tt
said_in_time w (says.Call name does) e = by_one w (number_of (names_of w.world) name) (λ end. call_step end does) (λ end. call_in_time (history_of w.world) end does)
said_in_time w (says.Towards name peer addresses does) e =
    by_both w (number_of (names_of w.world) name) (number_of (names_of w.world) peer) (λ end other. aim_step end other addresses does) (λ end other. aim_in_time (history_of w.world) end other addresses does)
said_in_time w (says.Bring name from what) e = by_one w (number_of (names_of w.world) name) (λ end. bring_step end from what) (λ end. bring_in_time (history_of w.world) end from what)
said_in_time w (says.Translator name mapping filter host first) e = tt
said_in_time w (says.Place name at behind) e = by_place w (number_of (names_of w.world) name) at (behind_said w.places.translators behind)
said_in_time w (says.Carry number) e = tt

-- what is said in time comes to a step in time
pub step_in_time : (w : PlacedSeen) (said : ScriptLine) (step : PlacedStep) → is_late (history_of w.world) said ≡ false → placed_said w said ≡ Some step → IsInTime w step
step_in_time w said step e is = subst (λ (o : Option PlacedStep). IfSome o (IsInTime w)) is (said_in_time w said e)

-- ---- a step that is done

pub step_journaled : (w : PlacedSeen) (n : ℕ) (step : PlacedStep) (lost : Option LostLine) (t : PlacedSeen) (before after : Seen) (at : ℕ) (begun : Bool) (moments kept old new : List ℕ) → IsInTime w step → Placed w n step lost t → HistoryHolds t.world →
    before ≡ w.world → begun ≡ has_begun (history_of before) → at ≡ length before.lines → after ≡ t.world → kept ≡ moments → AreMomentsOf moments t.world → new ≡ old ++ next_text begun after.ends kept (slice_get after.lines at) →
    JournaledStep Text w n step t old new
step_journaled w n step lost t before after at begun moments kept old new timely done holds before_is begun_is at_is after_is kept_is are is =
    let given : ℕ = moment_of w.world.moment step in
    let goes = flat_goes w.world n (flat w step) given t.world (step_fits w step timely) (flat_as w.world n (comes_to w step) lost t done) in
    let more = written_more w.world t.world after given at begun kept old new (subst (λ (xs : List ℕ). AreMomentsOf xs t.world) (sym kept_is) are) goes after_is
    (begun_is ∙ ap (λ (x : Seen). has_begun (history_of x)) before_is) (at_is ∙ ap (λ (x : Seen). length x.lines) before_is) is in
    (lost, done, holds, more.0, more.1, more.2)

-- ---- a step that is refused

pub refused_step : (w : PlacedSeen) (step : PlacedStep) (r : Result (Option LostLine) StepFault) (t : PlacedSeen) → IfSome (placed_fault w step) (λ f. RefusedFor (comes_to w step) f r × (t ≡ w)) → IfNone (placed_fault w step) (IfErr r (λ f. f ≡ Memory)) →
    IfErr r (λ fault. IsRefusedStep w step fault t)
refused_step w step (Ok lost) t some none = tt
refused_step w step (Err NoEnd) t some none = let h = refused_placed (placed_fault w step) (comes_to w step) (Err NoEnd) NoEnd w t refl (λ x. cc) some none in (h.is, h.same)
refused_step w step (Err NoDatagram) t some none = let h = refused_placed (placed_fault w step) (comes_to w step) (Err NoDatagram) NoDatagram w t refl (λ x. cc) some none in (h.is, h.same)
refused_step w step (Err BadStep) t some none = let h = refused_placed (placed_fault w step) (comes_to w step) (Err BadStep) BadStep w t refl (λ x. cc) some none in (h.is, h.same)
refused_step w step (Err ForgedStep) t some none = let h = refused_placed (placed_fault w step) (comes_to w step) (Err ForgedStep) ForgedStep w t refl (λ x. cc) some none in (h.is, h.same)
refused_step w step (Err Memory) t some none = tt

-- ---- what the line says

late_end : (w : PlacedSeen) (line : List ℕ) (said : ScriptLine) → IsLineOf line said → is_late (history_of w.world) said ≡ true → IsLateEnd w line
late_end w line (says.End name peers sessions cert) is late = record {
  began = λ none. (let both : true ≡ false = sym late ∙ ap has_begun none in cc);
  name = name;
  max_peers = peers;
  max_sessions = sessions;
  cert = cert;
  is_line = is;
}
late_end w line (says.At moment) is late = absurd (cc)
late_end w line (says.Call name does) is late = absurd (cc)
late_end w line (says.Towards name peer addresses does) is late = absurd (cc)
late_end w line (says.Bring name from what) is late = absurd (cc)
late_end w line (says.Translator name mapping filter host first) is late = absurd (cc)
late_end w line (says.Place name at behind) is late = absurd (cc)
late_end w line (says.Carry number) is late = absurd (cc)

in_time : (w : PlacedSeen) (line : List ℕ) (said : ScriptLine) → ((o : LineSaid) → Says line o → SaidStep said ≡ o) → is_late (history_of w.world) said ≡ false → IsLateEnd w line → ⊥
in_time w line said only timely late =
    let same : said ≡ says.End late.name late.max_peers late.max_sessions late.cert = said_is line said (says.End late.name late.max_peers late.max_sessions late.cert) only late.is_line in
    late.began (not_begun (history_of w.world) (sym (ap (λ (x : ScriptLine). is_late (history_of w.world) x) same) ∙ timely))

-- what is said tells, the line tells
pub line_journaled : (w : PlacedSeen) (n : ℕ) (line : List ℕ) (t : PlacedSeen) (old text : List ℕ) (said : ScriptLine) (r : Result Said AllocError) → ((o : LineSaid) → Says line o → SaidStep said ≡ o) → IsLineOf line said → old ≡ [] →
    IfOk r (λ told. JournaledSaid told w n said t old text) → IfOk r (λ told. JournaledAs told w n line t text)
line_journaled w n line t old text said (Ok Text) only is none done =
    let more = done.3 in
    inr (record {
      said = said;
      step = done.0;
      lost = more.0;
      is_line = is;
      in_time = in_time w line said only done.2;
      is_step = done.1;
      stepped = more.1;
      is_text = more.5 ∙ ap (λ (x : List ℕ). written_so_far w.world ++ x) (sym (more.4 ∙ ap (λ (x : List ℕ). x ++ more.3) none));
      holds = more.2;
    })
line_journaled w n line t old text said (Ok Bad) only is none (inl late) = inr (late_end w line said is late)
line_journaled w n line t old text said (Ok Bad) only is none (inr bad) = inl (record {
  not_skipped = λ skipped fits. not_nothing line said only skipped;
  bad = λ other step is_line is_step. bad step (ap (λ (x : ScriptLine). placed_said w x) (said_is line said other only is_line) ∙ is_step);
})
line_journaled w n line t old text said (Ok Forged) only is none done = record { said = said; step = done.0; is_line = is; is_step = done.1; forged = done.2 }
line_journaled w n line t old text said (Err error) only is none done = tt

-- ---- laws

pub each_line_adds_its_text : EachLineAddsItsText
each_line_adds_its_text w n line t text (inl nothing) =
    ap (λ (p : PlacedSeen). written_so_far p.world) nothing.same
    ∙ sym (append-nil (written_so_far w.world))
    ∙ ap (λ (x : List ℕ). written_so_far w.world ++ x) (sym nothing.no_text)
each_line_adds_its_text w n line t text (inr done) = done.is_text

pub each_journaled_line_is_played : EachJournaledLineIsPlayed
each_journaled_line_is_played w n line t text (inl nothing) = ([], inl (record { skipped = nothing.skipped; fits = nothing.fits; same = nothing.same; no_text = refl }))
each_journaled_line_is_played w n line t text (inr done) = (
  told_since w n t done.lost,
  inr (record {
    said = done.said;
    step = done.step;
    lost = done.lost;
    is_line = done.is_line;
    is_step = done.is_step;
    stepped = done.stepped;
    is_text = refl;
    holds = done.holds;
  }),
)
