-- A moment that an end has noted, of which its log tells nothing.
use Rattle.std.proofs.Common.{◌≡◌, ℕ, ◌≤◌, max, List, [], ◌∷◌, ◌++◌, length, slice_get, Option, None, Some, inl, inr, refl, sym, ap, subst, ◌∙◌, arith}
use Rattle.std.specs.List.{AllByRecursion}
use Rattle.glare_core.specs.Steps.{Among}
use Rattle.glare_core.specs.Told.{AllDifferent}
use Rattle.startup.specs.Attempts.{after_cancel, after_unseek}
use Rattle.endpoint_model.specs.declared.entry.Entry.{Entry}
use Rattle.endpoint_model.specs.Event.{Setup, own_of, Call, Open, Seek, Unseek, Cancel, Close, AddRow, Introduce, Narrow, Learn, Advance, OnFlows, Receive, Tick, Answer, Done, Succeeds, Refused, NotAdded, Event}
use Rattle.endpoint_model.specs.declared.row.Row.{Row}
use Rattle.crypto_profile.specs.declared.group.GroupSecret.{GroupSecret}
use Rattle.endpoint_model.specs.State.{State, Did, Does, at_moment, narrowing, with_startup}
use Rattle.endpoint_model.specs.Succession.{learning, no_next, advance_refusal, advancing_to, advancing}
use Rattle.endpoint_model.specs.InSessions.{held_row}
use Rattle.endpoint_model.specs.FlowCall.{FlowCall}
use Rattle.endpoint_model.specs.OnFlows.{flow_called, flow_called_by}
use Rattle.endpoint_model.specs.Introducing.{with_redirect, introducing}
use Rattle.endpoint_laws.specs.OpensIn.{opens_in}
use Rattle.endpoint_model.specs.Log.{StandsFor, Answers, Step as StepOf}
use Rattle.endpoint_laws.specs.Contexts.{Knows}
use Rattle.endpoint_laws.specs.Laws.{IsSetup, AreCalls}
use Rattle.endpoint_laws.specs.Draws.{drawn_in}
use Rattle.endpoint_laws.specs.History.{History, log_of, past_at, IsHonest}
use Rattle.endpoint.proofs.Extending.{extends}
use Rattle.rendezvous_world.specs.Seen.{group_secrets, EndSeen, Seen, setup_at}
use Rattle.rendezvous_world.specs.History.{history_of}
use Rattle.rendezvous_world.specs.Sound.{StandsUpTo}
use Rattle.rendezvous_world.specs.Kept.{name_of, print_of, IsLineIn, IsOfLine, IsWorld}
use Rattle.rendezvous_world.specs.Stepping.{in_state, with_state}
use Rattle.rendezvous_world.proofs.Ends.{tested, setups_stay, length-with_state, changed_end, other_end, was_there, apart_with_state}
use Rattle.rendezvous_world.proofs.Told.{SameSetups, same_lines, honest_same}

-- ---- states

in_moment : State → ℕ → State
in_moment s moment = record s { moment = moment }

-- a moment that isn't after the next one is forgotten with it
pub noted_before : (s : State) (noted moment : ℕ) → noted ≤ moment → at_moment (at_moment s noted) moment ≡ at_moment s moment
unfolding in_moment
noted_before s noted moment le = let same : max (max s.moment noted) moment ≡ max s.moment moment = omega arith in ap (in_moment s) same

-- two moments are noted in either order
noted_both : (s : State) (noted moment : ℕ) → at_moment (at_moment s noted) moment ≡ at_moment (at_moment s moment) noted
unfolding in_moment
noted_both s noted moment = let same : max (max s.moment noted) moment ≡ max (max s.moment moment) noted = omega arith in ap (in_moment s) same

-- none is noted
none_noted : (s : State) → s ≡ at_moment s 0
unfolding in_moment
none_noted s = let same : s.moment ≡ max s.moment 0 = omega arith in ap (in_moment s) same

-- the context in which a datagram opens doesn't depend on it
pub opens_noted : (s told : State) (noted : ℕ) (bytes : List ℕ) → s ≡ at_moment told noted → opens_in s bytes ≡ opens_in told bytes
opens_noted s told noted bytes is = ap (λ (x : State). opens_in x bytes) is

-- ---- an end that stands for its log but for such a moment

pub stands_whole : (last : ℕ) (setup : Setup) (log : List Event) (s : State) → StandsFor setup log s → StandsUpTo last setup log s
stands_whole last setup log s stands = record { told = s; stands = stands; noted = 0; passed = omega arith; state = none_noted s }

pub stands_later : (last later : ℕ) (setup : Setup) (log : List Event) (s : State) → last ≤ later → StandsUpTo last setup log s → StandsUpTo later setup log s
stands_later last later setup log s le h = record { told = h.told; stands = h.stands; noted = h.noted; passed = (let p : h.noted ≤ last = h.passed in omega arith); state = h.state }

-- it notes the last moment
pub stands_noted : (last : ℕ) (setup : Setup) (log : List Event) (s : State) → StandsUpTo last setup log s → StandsUpTo last setup log (at_moment s last)
stands_noted last setup log s h = record {
  told = h.told;
  stands = h.stands;
  noted = last;
  passed = omega arith;
  state = ap (λ (x : State). at_moment x last) h.state ∙ noted_before h.told h.noted last h.passed;
}

-- the same done, and a moment noted
abbrev noted_did : Did → ℕ → Did
noted_did did noted = record { state = at_moment did.state noted; entries = did.entries }

-- what a call on flows does stays, whatever moment was noted
flow_noted : (s : State) (noted near : ℕ) (call : FlowCall) (row : Option Row) → flow_called_by (at_moment s noted) near call row ≡ noted_did (flow_called_by s near call row) noted
flow_noted s noted near call None = refl
flow_noted s noted near call (Some row) = refl

-- The call is given a moment that isn't before this one, or none.
abbrev pub IsGivenFrom : ℕ → ℕ → Call → Type 0
IsGivenFrom last moment (Open peer candidates draws) = last ≤ moment
IsGivenFrom last moment (Seek name candidates draws) = last ≤ moment
IsGivenFrom last moment (Close near) = last ≤ moment
IsGivenFrom last moment (Receive from datagram draws) = last ≤ moment
IsGivenFrom last moment (Tick draws) = last ≤ moment
IsGivenFrom last moment call = Unit {0}

-- it is given none
abbrev IsUntimed : Call → Type 0
IsUntimed (Open peer candidates draws) = ⊥
IsUntimed (Seek name candidates draws) = ⊥
IsUntimed (Close near) = ⊥
IsUntimed (Receive from datagram draws) = ⊥
IsUntimed (Tick draws) = ⊥
IsUntimed call = Unit {0}

-- what a call leaves at an end that has noted a moment, by what it leaves at one that hasn't
record IsLeft (s : State) (noted : ℕ) (call : Call) (answer : Answer) (entries : List Entry) (t : State) : Type 0 where
  after : State
  answers : Answers s call answer entries after
  state : t ≡ at_moment after noted

-- an advance leaves the moment that was noted
advanced_noted : (s : State) (noted : ℕ) (next : Option GroupSecret) (generation : ℕ) (entries : List Entry) (t : State) → s.next ≡ next → advance_refusal s ≡ None → generation ≡ t.group.generation →
    Does (advancing_to (at_moment s noted) s.next) t [] entries → IsLeft s noted Advance (Succeeds generation) entries t
advanced_noted s noted None generation entries t is known number did = absurd (let none : no_next None ≡ None = ap no_next (sym is) ∙ known in cc)
advanced_noted s noted (Some next) generation entries t is known number did =
    let same : advancing_to (at_moment s noted) s.next ≡ noted_did (advancing s) noted = ap (λ (o : Option GroupSecret). advancing_to (at_moment s noted) o) is ∙ sym (ap (λ (o : Option GroupSecret). noted_did (advancing_to s o) noted) is) in
    let left : t ≡ at_moment (advancing s).state noted = did.state ∙ ap (λ (d : Did). d.state) same in
    record {
      after = (advancing s).state;
      answers = (known, number ∙ ap (λ (x : State). x.group.generation) left, record { state = refl; entries = did.entries ∙ ap (λ (d : Did). d.entries) same });
      state = left;
    }

unmoved : (s : State) (noted : ℕ) (call : Call) (answer : Answer) (entries : List Entry) (t : State) → IsUntimed call → Answers (at_moment s noted) call answer entries t → IsLeft s noted call answer entries t
unmoved s noted (Open peer candidates draws) answer entries t untimed h = absurd untimed
unmoved s noted (Seek name candidates draws) answer entries t untimed h = absurd untimed
unmoved s noted (Close near) answer entries t untimed h = absurd untimed
unmoved s noted (Receive from datagram draws) answer entries t untimed h = absurd untimed
unmoved s noted (Tick draws) answer entries t untimed h = absurd untimed
unmoved s noted (Unseek near) Done entries t untimed h =
    record { after = with_startup s (after_unseek s.startup near); answers = (h.0, record { state = refl; entries = h.1.entries }); state = h.1.state }
unmoved s noted (Unseek near) (Refused refusal) entries t untimed h = record { after = s; answers = (h.0, record { state = refl; entries = h.1.entries }); state = h.1.state }
unmoved s noted (Cancel n) Done entries t untimed h =
    record { after = with_startup s (after_cancel s.startup n); answers = (h.0, record { state = refl; entries = h.1.entries }); state = h.1.state }
unmoved s noted (Cancel n) (Refused refusal) entries t untimed h = record { after = s; answers = (h.0, h.1, record { state = refl; entries = h.2.entries }); state = h.2.state }
unmoved s noted (AddRow print addresses) Done entries t untimed h =
    record { after = with_redirect s print addresses; answers = (h.0, record { state = refl; entries = h.1.entries }); state = h.1.state }
unmoved s noted (AddRow print addresses) (NotAdded refusal) entries t untimed h = record { after = s; answers = (h.0, record { state = refl; entries = h.1.entries }); state = h.1.state }
unmoved s noted (Learn secret) (Succeeds generation) entries t untimed h =
    record { after = (learning s secret).state; answers = (h.0, h.1, record { state = refl; entries = h.2.entries }); state = h.2.state }
unmoved s noted (Learn secret) (Refused refusal) entries t untimed h = record { after = s; answers = (h.0, record { state = refl; entries = h.1.entries }); state = h.1.state }
unmoved s noted Advance (Succeeds generation) entries t untimed h = advanced_noted s noted s.next generation entries t refl h.0 h.1 h.2
unmoved s noted Advance (Refused refusal) entries t untimed h = record { after = s; answers = (h.0, record { state = refl; entries = h.1.entries }); state = h.1.state }
unmoved s noted Introduce Done entries t untimed h = record { after = introducing s; answers = record { state = refl; entries = h.entries }; state = h.state }
unmoved s noted (Narrow limit) Done entries t untimed h = record { after = narrowing s limit; answers = record { state = refl; entries = h.entries }; state = h.state }
unmoved s noted (OnFlows near call) Done entries t untimed h =
    let did : Did = flow_called s near call in
    let same : flow_called (at_moment s noted) near call ≡ noted_did did noted = flow_noted s noted near call (held_row s near) in
    record { after = did.state; answers = (h.0, record { state = refl; entries = h.1.entries ∙ ap (λ (d : Did). d.entries) same }); state = h.1.state ∙ ap (λ (d : Did). d.state) same }
unmoved s noted (OnFlows near call) (Refused refusal) entries t untimed h = record { after = s; answers = (h.0, record { state = refl; entries = h.1.entries }); state = h.1.state }
unmoved s noted call answer entries t untimed h = absurd h

module _ (last : ℕ) (setup : Setup) (log : List Event) (s t : State) (moment : ℕ) (entries : List Entry) (h : StandsUpTo last setup log s) where
  abbrev event_with : Call → Answer → Event
  event_with call answer = record { moment = moment; call = call; answer = answer; entries = entries }

  from_told : (call : Call) (answer : Answer) → Answers (at_moment s moment) call answer entries t → Answers (at_moment (at_moment h.told h.noted) moment) call answer entries t
  from_told call answer step = subst (λ (x : State). Answers (at_moment x moment) call answer entries t) h.state step

  -- the call is given a moment, and the log tells all
  timed : (call : Call) (answer : Answer) → last ≤ moment → Answers (at_moment s moment) call answer entries t → StandsUpTo last setup (log ++ event_with call answer ∷ []) t
  timed call answer le step =
      let earlier : h.noted ≤ last = h.passed in
      let told : StepOf h.told (event_with call answer) t =
      subst (λ (x : State). Answers x call answer entries t) (noted_before h.told h.noted moment (omega arith)) (from_told call answer step) in
      stands_whole last setup (log ++ event_with call answer ∷ []) t (extends h.told t (event_with call answer) told setup log h.stands)

  -- it is given none, and what was noted stays
  untimed : (call : Call) (answer : Answer) → IsUntimed call → Answers (at_moment s moment) call answer entries t → StandsUpTo last setup (log ++ event_with call answer ∷ []) t
  untimed call answer none step =
      let left : IsLeft (at_moment h.told moment) h.noted call answer entries t =
      unmoved (at_moment h.told moment) h.noted call answer entries t none (subst (λ (x : State). Answers x call answer entries t) (noted_both h.told h.noted moment) (from_told call answer step)) in
      record { told = left.after; stands = extends h.told left.after (event_with call answer) left.answers setup log h.stands; noted = h.noted; passed = h.passed; state = left.state }

  stands_by : (call : Call) (answer : Answer) → IsGivenFrom last moment call → Answers (at_moment s moment) call answer entries t → StandsUpTo last setup (log ++ event_with call answer ∷ []) t
  stands_by (Open peer candidates draws) answer from step = timed (Open peer candidates draws) answer from step
  stands_by (Seek name candidates draws) answer from step = timed (Seek name candidates draws) answer from step
  stands_by (Close near) answer from step = timed (Close near) answer from step
  stands_by (Receive address datagram draws) answer from step = timed (Receive address datagram draws) answer from step
  stands_by (Tick draws) answer from step = timed (Tick draws) answer from step
  stands_by call answer from step = untimed call answer tt step

-- A call brings an end from each log that it stands for so to that log with its event.
pub stands_more : (last : ℕ) (setup : Setup) (log : List Event) (s t : State) (e : Event) → IsGivenFrom last e.moment e.call → StandsUpTo last setup log s → StepOf s e t → StandsUpTo last setup (log ++ e ∷ []) t
stands_more last setup log s t e given h step = stands_by last setup log s t e.moment e.entries h e.call e.answer given step

-- ---- a world in which an end has noted the moment

module _ (w : Seen) (who_noted : ℕ) (end : EndSeen) (is : IsWorld w) (there : slice_get w.ends who_noted ≡ Some end) where
  abbrev noting : State
  noting = at_moment end.state w.moment

  abbrev later : List EndSeen
  later = with_state w.ends who_noted noting

  abbrev noted : Seen
  noted = record { moment = w.moment; ends = later; lines = w.lines }

  stay : SameSetups (length w.ends) w.ends later
  stay who below = setups_stay w.ends who_noted noting who

  same_history : history_of noted ≡ history_of w
  same_history = same_lines (length w.ends) w.ends later stay w.lines [] is.lines

  stand_now : (who : ℕ) (x : EndSeen) → slice_get later who ≡ Some x → StandsUpTo w.moment x.setup (log_of who (history_of w)) x.state
  stand_now who x at = elim (tested who_noted who) [
    | inl hit ↦ here hit.0
    | inr miss ↦ is.stand who x (sym (other_end w.ends who_noted who noting (λ same. miss.0 (sym same))) ∙ at)
  ]
    where
      here : who_noted ≡ who → StandsUpTo w.moment x.setup (log_of who (history_of w)) x.state
      here same =
          let changed : slice_get later who ≡ Some (in_state end noting) =
          subst (λ (k : ℕ). slice_get later k ≡ Some (in_state end noting)) same (changed_end w.ends who_noted noting end there) in
          let is_x : in_state end noting ≡ x = (let both : ◌≡◌ {A = Option EndSeen} (Some (in_state end noting)) (Some x) = sym changed ∙ at in cc) in
          let before : StandsUpTo w.moment end.setup (log_of who (history_of w)) end.state =
          is.stand who end (subst (λ (k : ℕ). slice_get w.ends k ≡ Some end) same there) in
          subst (λ (y : EndSeen). StandsUpTo w.moment y.setup (log_of who (history_of w)) y.state) is_x (stands_noted w.moment end.setup (log_of who (history_of w)) end.state before)

  given_now : (who : ℕ) (x : EndSeen) → slice_get later who ≡ Some x → IsSetup x.setup
  given_now who x at =
      let was = was_there w.ends who_noted noting who x at in
      subst IsSetup was.setup (is.given who was.before was.there)

  known_now : (who : ℕ) (x : EndSeen) → slice_get later who ≡ Some x → Knows group_secrets x.setup (past_at who (history_of w))
  known_now who x at =
      let was = was_there w.ends who_noted noting who x at in
      subst (λ (setup : Setup). Knows group_secrets setup (past_at who (history_of w))) was.setup (is.known who was.before was.there)

  pub noted_is_world : IsWorld noted
  noted_is_world = record {
    stand = subst (λ (h : History). (who : ℕ) (x : EndSeen) → slice_get later who ≡ Some x → StandsUpTo w.moment x.setup (log_of who h) x.state) (sym same_history) stand_now;
    given = given_now;
    known = subst (λ (h : History). (who : ℕ) (x : EndSeen) → slice_get later who ≡ Some x → Knows group_secrets x.setup (past_at who h)) (sym same_history) known_now;
    names = apart_with_state name_of w.ends who_noted noting (λ x y name setup. name) is.names;
    prints = apart_with_state print_of w.ends who_noted noting (λ x y name setup. ap own_of setup) is.prints;
    calls = subst (λ (h : History). (who : ℕ) → AreCalls (log_of who h)) (sym same_history) is.calls;
    lines = subst (λ (count : ℕ). AllByRecursion (IsLineIn count) w.lines) (sym (length-with_state w.ends who_noted noting)) is.lines;
    rise = is.rise;
    answers = is.answers;
    honest = subst (λ (h : History). IsHonest group_secrets (setup_at later) h) (sym same_history)
        (honest_same group_secrets (setup_at w.ends) (setup_at later) (history_of w) (λ who part. setups_stay w.ends who_noted noting who) is.honest);
    nonces = subst (λ (h : History). AllDifferent (drawn_in h)) (sym same_history) is.nonces;
    drawn = subst (λ (h : History). (nonce : List ℕ) → Among nonce (drawn_in h) → IsOfLine nonce w.lines) (sym same_history) is.drawn;
  }
