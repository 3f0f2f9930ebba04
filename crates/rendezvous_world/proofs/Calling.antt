-- A step that calls an end leaves a world.
use Rattle.std.proofs.Common.{◌≡◌, ℕ, ◌<◌, ◌≤◌, ◌^◌, List, [], ◌∷◌, ◌++◌, length, drop, slice_get, Bool, true, false, Option, Some, None, inl, inr, refl, sym, ap, subst, ◌∙◌, arith}
use Rattle.std.specs.Int.{w64, to_be_bytes, from_be_bytes}
use Rattle.std.specs.List.{AllByRecursion}
use Rattle.std.proofs.lemmas.Bool.{or_parts}
use Rattle.std.proofs.lemmas.Bool.Decides.{nat_tests}
use Rattle.std.proofs.lemmas.Nat.{from_be_bytes-to_be_bytes_8}
use Rattle.sha2.proofs.Facts256.{length-sha256}
use Rattle.crypto_profile.specs.declared.keys.Context.{Context}
use Rattle.rtmfp_forms.specs.Address.{AddressParts}
use Rattle.rtmfp_base.specs.Reasons.{where_true, first_that_stands}
use Rattle.glare_core.specs.Steps.{Among}
use Rattle.glare_core.specs.Told.{AllDifferent}
use Rattle.endpoint_model.specs.declared.config.Draws.{Draws}
use Rattle.endpoint_model.specs.Event.{Setup, own_of, Receive, Event}
use Rattle.endpoint_laws.specs.Past.{past_of_log}
use Rattle.endpoint_model.specs.State.{State}
use Rattle.endpoint_laws.specs.OpensIn.{opens_in}
use Rattle.endpoint_laws.specs.Draws.{draws_of as draws_of_past, drawn_in}
use Rattle.endpoint_model.specs.Log.{Step as StepOf}
use Rattle.endpoint_laws.specs.Contexts.{Knows}
use Rattle.endpoint_laws.specs.Laws.{AreBytes, IsCall, IsSetup, AreCalls}
use Rattle.endpoint_laws.specs.History.{Happened, History, log_of, past_at, IsHonestCall, IsHonest, WasSent}
use Rattle.endpoint_laws.proofs.Opened.{opens_in_found}
use Rattle.endpoint.proofs.Reaching.{calls_more}
use Rattle.counted_secrets.specs.Secrets.{secret_after}
use Rattle.rendezvous_world.specs.declared.journal.JournalLine.{JournalLine}
use Rattle.rendezvous_world.specs.declared.step.Step.{Step}
use Rattle.rendezvous_world.specs.declared.step.StepFault.{StepFault}
use Rattle.rendezvous_world.specs.declared.step.StepFault.TheVariants.{NoEnd, NoDatagram, BadStep, Forged}
use Rattle.rendezvous_world.specs.Deed.{Opens, Seeks, Closes, Narrows, Learns, Ticks, Deed, Calls, Brings, deed_of, end_of, narrows_beyond}
use Rattle.rendezvous_world.specs.Calls.{peer_in}
use Rattle.rendezvous_world.specs.Entering.{IsSizedDeed}
use Rattle.rendezvous_world.specs.Seen.{group_secrets, EndSeen, Seen, print_at, setup_at}
use Rattle.rendezvous_world.specs.Draws.{two_numbers, draws_of}
use Rattle.rendezvous_world.specs.Datagrams.{datagram_for, datagram_in}
use Rattle.rendezvous_world.specs.History.{bytes_or_none, peer_of, call_by, call_of, moment_given, event_of, happened, after_lines, history_of, given_by}
use Rattle.rendezvous_world.specs.Sound.{AreBelow, StandsUpTo}
use Rattle.rendezvous_world.specs.Stepping.{in_state, with_state, called_by, HasItsAnswer, IsAnswered, IsLineOf, Called}
use Rattle.rendezvous_world.specs.Faults.{is_missing, lacks_peer, lacks_end_in, lacks_end, lacks_datagram, is_bad_in, is_bad, is_forged_by, is_forged_in, is_forged, step_fault}
use Rattle.rendezvous_world.specs.Kept.{name_of, print_of, IsNamed, HasPeerIn, HasPeer, IsLineIn, IsOfLine, IsWorld}
use Rattle.endpoint_laws.proofs.Drawn.{OneDraw, MayDraw, event_draws}
use Rattle.rendezvous_world.proofs.Answered.{limits_hold}
use Rattle.rendezvous_world.proofs.Ends.{tested, setup_is, generation_is, below_length, setups_stay, length-with_state, changed_end, other_end, was_there, apart_with_state}
use Rattle.rendezvous_world.proofs.Told.{SameSetups, same_happened, same_lines, one_more_line, all_more, rise_more, of_line_stays, of_line_new, number_below, log_same, log_other, honest_same}
use Rattle.rendezvous_world.proofs.Forging.{was_sent}
use Rattle.rendezvous_world.proofs.Noting.{IsGivenFrom, opens_noted, stands_more}
use Rattle.rendezvous_world.proofs.Learning.{knows_more, given_learnt}

-- ---- what a step that isn't refused says

-- what a step needs of a world
pub record MayStep (w : Seen) (step : Step) : Type 0 where
  pub ends : lacks_end w step ≡ false
  pub datagram : lacks_datagram w step ≡ false
  pub fine : is_bad w step ≡ false
  pub unforged : is_forged w step ≡ false

first_none : {A : Type 0} (o : Option A) (rest : List (Option A)) → first_that_stands (o ∷ rest) ≡ None → (o ≡ None) × (first_that_stands rest ≡ None)
first_none None rest e = (refl, e)
first_none (Some x) rest e = absurd (cc)

test_fails : {A : Type 0} (b : Bool) (x : A) → where_true b x ≡ None → b ≡ false
test_fails true x e = absurd (cc)
test_fails false x e = refl

pub may_step : (w : Seen) (step : Step) → step_fault w step ≡ None → MayStep w step
may_step w step none =
    let fourth : List (Option StepFault) = where_true (is_forged w step) Forged ∷ [] in
    let third : List (Option StepFault) = where_true (is_bad w step) BadStep ∷ fourth in
    let second : List (Option StepFault) = where_true (lacks_datagram w step) NoDatagram ∷ third in
    let a = first_none (where_true (lacks_end w step) NoEnd) second none in
    let b = first_none (where_true (lacks_datagram w step) NoDatagram) third a.1 in
    let c = first_none (where_true (is_bad w step) BadStep) fourth b.1 in
    let d = first_none (where_true (is_forged w step) Forged) [] c.1 in
    record {
      ends = test_fails (lacks_end w step) NoEnd a.0;
      datagram = test_fails (lacks_datagram w step) NoDatagram b.0;
      fine = test_fails (is_bad w step) BadStep c.0;
      unforged = test_fails (is_forged w step) Forged d.0;
    }

not_beyond : (w : Seen) (deed : Deed) → is_bad_in w deed ≡ false → narrows_beyond deed ≡ false
not_beyond w (Calls end call) e = e
not_beyond w deed e = refl

-- nor is an end narrowed beyond the limits
pub may_limits : (w : Seen) (step : Step) → step_fault w step ≡ None → narrows_beyond (deed_of step) ≡ false
may_limits w step none = not_beyond w (deed_of step) (may_step w step none).fine

not_missing : (w : Seen) (end : ℕ) → is_missing w end ≡ false → end < length w.ends
not_missing w end e = grind (arith, nat_tests)

named_there : (w : Seen) (peer : Option ℕ) → lacks_peer w peer ≡ false → IsNamed (length w.ends) peer
named_there w None e = tt
named_there w (Some peer) e = not_missing w peer e

has_peer : (w : Seen) (deed : Deed) → lacks_end_in w deed ≡ false → HasPeerIn (length w.ends) deed
has_peer w (Calls end call) e = named_there w (peer_in call) (or_parts (lacks_peer w (peer_in call)) (is_missing w end) e).0
has_peer w deed e = tt

-- ---- the draws of a line

length-two : (a b : ℕ) → length (two_numbers a b) ≡ 16
length-two a b = refl

two_apart : (a b : ℕ) → a < 2 ^ 32 → b < 2 ^ 32 → two_numbers 0 a ≡ two_numbers 0 b → a ≡ b
two_apart a b small_a small_b same =
    let wide_a : a < 2 ^ 64 = omega arith in
    let wide_b : b < 2 ^ 64 = omega arith in
    let bytes : to_be_bytes w64 a ≡ to_be_bytes w64 b = ap (drop 8) same in
    sym (from_be_bytes-to_be_bytes_8 a wide_a) ∙ ap (from_be_bytes w64) bytes ∙ from_be_bytes-to_be_bytes_8 b wide_b

-- a fingerprint and a secret have 32 bytes
given_wide : (print : List ℕ) (generation : ℕ) (deed : Deed) → length print ≡ 32 → length (given_by print generation deed) ≡ 32
given_wide print generation (Calls end Learns) wide = refl
given_wide print generation deed wide = wide

-- what a call is given has its sizes
is_call : (print : List ℕ) (number : ℕ) (bytes : List ℕ) (deed : Deed) → length print ≡ 32 → number < 2 ^ 32 → AreBytes bytes → IsSizedDeed deed → narrows_beyond deed ≡ false → IsCall (call_by print number bytes deed)
is_call print number bytes (Calls end (Opens peer list)) wide small are sized within = (wide, length-two 0 number, small, length-two 2 number)
is_call print number bytes (Calls end (Seeks name list)) wide small are sized within = (sized, length-two 0 number, small, length-two 2 number)
is_call print number bytes (Calls end (Narrows limit)) wide small are sized within = limits_hold limit within
is_call print number bytes (Calls end Learns) wide small are sized within = wide
is_call print number bytes (Brings end from source) wide small are sized within = (are, length-two 0 number, small, length-two 1 number)
is_call print number bytes deed wide small are sized within = tt

-- it is given the moment of its line, or none
given_from : (print : List ℕ) (number : ℕ) (bytes : List ℕ) (last moment : ℕ) (deed : Deed) → last ≤ moment → IsGivenFrom last (moment_given moment deed) (call_by print number bytes deed)
given_from print number bytes last moment (Calls end (Opens peer list)) le = le
given_from print number bytes last moment (Calls end (Seeks name list)) le = le
given_from print number bytes last moment (Calls end (Closes near)) le = le
given_from print number bytes last moment (Calls end Ticks) le = le
given_from print number bytes last moment (Calls end call) le = tt
given_from print number bytes last moment deed le = le

-- what it draws is the nonce of its line
draws_line : (print : List ℕ) (number : ℕ) (bytes : List ℕ) (deed : Deed) (nonces : List (List ℕ)) → MayDraw (call_by print number bytes deed) nonces → OneDraw (two_numbers 0 number) nonces
draws_line print number bytes (Calls end (Opens peer list)) nonces h = h
draws_line print number bytes (Calls end (Seeks name list)) nonces h = h
draws_line print number bytes (Brings end from source) nonces h = h
draws_line print number bytes deed nonces h = inl h

-- ---- honest

module _ (w : Seen) (is : IsWorld w) where
  honest_datagram : (who : ℕ) (end : EndSeen) (o : Option (List ℕ)) (from : AddressParts) (draws : Draws) → slice_get w.ends who ≡ Some end → is_forged_by w who o ≡ false →
      IsHonestCall group_secrets (setup_at w.ends who) (past_at who (history_of w)) (history_of w) (Receive from (bytes_or_none o) draws)
  honest_datagram who end o from draws there unforged =
      subst (λ (setup : Setup). IsHonestCall group_secrets setup (past_at who (history_of w)) (history_of w) (Receive from (bytes_or_none o) draws)) (sym (setup_is w.ends who end there))
      (λ contexts context plain named opens. sent o unforged context
      (opens_noted end.state stands.told stands.noted (bytes_or_none o) stands.state
      ∙ opens_in_found group_secrets end.setup (log_of who (history_of w)) stands.told (bytes_or_none o) (is.known who end there) (is.given who end there) (is.calls who) stands.stands contexts context plain named opens))
    where
      stands : StandsUpTo w.moment end.setup (log_of who (history_of w)) end.state
      stands = is.stand who end there

      sent : (o : Option (List ℕ)) → is_forged_by w who o ≡ false → (context : Context) → opens_in end.state (bytes_or_none o) ≡ Some context → WasSent (bytes_or_none o) context (history_of w)
      sent None unforged context opens = absurd (cc)
      sent (Some bytes) unforged context opens = was_sent w.ends w.ends who end bytes w.lines context there unforged opens

  honest_deed : (print : List ℕ) (number : ℕ) (end : EndSeen) (deed : Deed) → slice_get w.ends (end_of deed) ≡ Some end → is_forged_in w deed ≡ false →
      IsHonestCall group_secrets (setup_at w.ends (end_of deed)) (past_at (end_of deed) (history_of w)) (history_of w) (call_by print number (bytes_or_none (datagram_in w deed)) deed)
  honest_deed print number end (Brings who from source) there unforged = honest_datagram who end (datagram_for w who source) from (draws_of number) there unforged
  honest_deed print number end (Calls who (Opens peer list)) there unforged = tt
  honest_deed print number end (Calls who (Seeks name list)) there unforged = tt
  honest_deed print number end deed there unforged = tt

-- ---- the world after a line

-- the world in which an end has come to a state by a line
abbrev pub grown : Seen → JournalLine → State → Seen
grown w line state = record { moment = w.moment; ends = with_state w.ends line.end state; lines = w.lines ++ line ∷ [] }

-- what is known of the line
pub record IsNext (w : Seen) (line : JournalLine) (end : EndSeen) (state : State) : Type 0 where
  pub below : AreBelow w.lines line.line
  pub small : line.line < 2 ^ 32
  pub bytes : AreBytes (bytes_or_none line.datagram)
  pub sized : IsSizedDeed (deed_of line.step)
  pub limits : narrows_beyond (deed_of line.step) ≡ false
  pub peer : HasPeer (length w.ends) line.step
  pub moment : line.moment ≡ w.moment
  pub generation : line.generation ≡ end.state.group.generation
  pub answer : IsAnswered line
  pub there : slice_get w.ends line.end ≡ Some end
  pub event : StepOf end.state (event_of w.ends line) state
  pub honest : IsHonestCall group_secrets (setup_at w.ends line.end) (past_at line.end (history_of w)) (history_of w) (event_of w.ends line).call

module _ (w : Seen) (line : JournalLine) (end : EndSeen) (state : State) (is : IsWorld w) (next : IsNext w line end state) where
  abbrev later : List EndSeen
  later = with_state w.ends line.end state

  abbrev h : Happened
  h = happened w.ends line

  abbrev who_named : ℕ
  who_named = peer_of (deed_of line.step)

  -- the fingerprint or the secret that the call is given
  abbrev the_given : List ℕ
  the_given = given_by (print_at w.ends who_named) line.generation (deed_of line.step)

  stay : SameSetups (length w.ends) w.ends later
  stay who below = setups_stay w.ends line.end state who

  line_in : IsLineIn (length w.ends) line
  line_in = record { end = below_length w.ends line.end end next.there; peer = next.peer; small = next.small }

  is_grown : history_of (grown w line state) ≡ h ∷ history_of w
  is_grown =
      one_more_line later w.lines line []
      ∙ ap (λ (x : Happened). x ∷ after_lines later w.lines []) (same_happened (length w.ends) w.ends later stay line line_in)
      ∙ ap (λ (x : History). h ∷ x) (same_lines (length w.ends) w.ends later stay w.lines [] is.lines)

  -- ---- each part of it, over the history with one more event

  stand_now : (who : ℕ) (x : EndSeen) → slice_get later who ≡ Some x → StandsUpTo w.moment x.setup (log_of who (h ∷ history_of w)) x.state
  stand_now who x at = elim (tested line.end who) [
    | inl hit ↦ here hit.0
    | inr miss ↦ elsewhere miss.0
  ]
    where
      given : IsGivenFrom w.moment h.event.moment h.event.call
      given = given_from the_given line.line (bytes_or_none line.datagram) w.moment line.moment (deed_of line.step) (let same : line.moment ≡ w.moment = next.moment in omega arith)

      here : line.end ≡ who → StandsUpTo w.moment x.setup (log_of who (h ∷ history_of w)) x.state
      here same =
          let changed : slice_get later who ≡ Some (in_state end state) =
          subst (λ (k : ℕ). slice_get later k ≡ Some (in_state end state)) same (changed_end w.ends line.end state end next.there) in
          let is_x : in_state end state ≡ x = (let both : ◌≡◌ {A = Option EndSeen} (Some (in_state end state)) (Some x) = sym changed ∙ at in cc) in
          let before : StandsUpTo w.moment end.setup (log_of who (history_of w)) end.state =
          is.stand who end (subst (λ (k : ℕ). slice_get w.ends k ≡ Some end) same next.there) in
          let after : StandsUpTo w.moment end.setup (log_of who (history_of w) ++ h.event ∷ []) state =
          stands_more w.moment end.setup (log_of who (history_of w)) end.state state h.event given before next.event in
          subst (λ (y : EndSeen). StandsUpTo w.moment y.setup (log_of who (h ∷ history_of w)) y.state) is_x
          (subst (λ (log : List Event). StandsUpTo w.moment end.setup log state) (sym (log_same who h (history_of w) same)) after)

      elsewhere : (line.end ≡ who → ⊥) → StandsUpTo w.moment x.setup (log_of who (h ∷ history_of w)) x.state
      elsewhere other =
          let before : StandsUpTo w.moment x.setup (log_of who (history_of w)) x.state =
          is.stand who x (sym (other_end w.ends line.end who state (λ same. other (sym same))) ∙ at) in
          subst (λ (log : List Event). StandsUpTo w.moment x.setup log x.state) (sym (log_other who h (history_of w) other)) before

  given_now : (who : ℕ) (x : EndSeen) → slice_get later who ≡ Some x → IsSetup x.setup
  given_now who x at =
      let was = was_there w.ends line.end state who x at in
      subst IsSetup was.setup (is.given who was.before was.there)

  known_now : (who : ℕ) (x : EndSeen) → slice_get later who ≡ Some x → Knows group_secrets x.setup (past_at who (h ∷ history_of w))
  known_now who x at = elim (tested line.end who) [
    | inl hit ↦ knows_here hit.0
    | inr miss ↦
        subst (λ (log : List Event). Knows group_secrets x.setup (past_of_log log)) (sym (log_other who h (history_of w) miss.0))
        (is.known who x (sym (other_end w.ends line.end who state (λ same. miss.0 (sym same))) ∙ at))
  ]
    where
      knows_here : line.end ≡ who → Knows group_secrets x.setup (past_at who (h ∷ history_of w))
      knows_here same =
          let there : slice_get w.ends who ≡ Some end = subst (λ (k : ℕ). slice_get w.ends k ≡ Some end) same next.there in
          let before : StandsUpTo w.moment end.setup (log_of who (history_of w)) end.state = is.stand who end there in
          let after : Knows group_secrets end.setup (past_of_log (log_of who (history_of w) ++ h.event ∷ [])) =
          knows_more end.setup (log_of who (history_of w)) before.told end.state state before.noted h.event (is.given who end there) (is.calls who) before.stands (is.known who end there) before.state next.event
          (λ secret learns. given_learnt (print_at w.ends who_named) line.generation line.line (bytes_or_none line.datagram) (deed_of line.step) secret learns ∙ ap secret_after next.generation) in
          let was = was_there w.ends line.end state who x at in
          let setup : end.setup ≡ x.setup = (let both : ◌≡◌ {A = Option EndSeen} (Some end) (Some was.before) = sym there ∙ was.there in let is_end : end ≡ was.before = cc in ap (λ (y : EndSeen). y.setup) is_end ∙ was.setup) in
          subst (λ (z : Setup). Knows group_secrets z (past_at who (h ∷ history_of w))) setup
          (subst (λ (log : List Event). Knows group_secrets end.setup (past_of_log log)) (sym (log_same who h (history_of w) same)) after)

  calls_now : (who : ℕ) → AreCalls (log_of who (h ∷ history_of w))
  calls_now who = elim (tested line.end who) [
    | inl hit ↦
        subst (λ (log : List Event). AreCalls log) (sym (log_same who h (history_of w) hit.0))
        (calls_more (log_of who (history_of w)) h.event (is.calls who) (is_call the_given line.line (bytes_or_none line.datagram) (deed_of line.step) (given_wide (print_at w.ends who_named) line.generation (deed_of line.step) (length-sha256 (setup_at w.ends who_named).cert)) next.small next.bytes next.sized next.limits))
    | inr miss ↦ subst (λ (log : List Event). AreCalls log) (sym (log_other who h (history_of w) miss.0)) (is.calls who)
  ]

  lines_now : AllByRecursion (IsLineIn (length later)) (w.lines ++ line ∷ [])
  lines_now =
      subst (λ (count : ℕ). AllByRecursion (IsLineIn count) (w.lines ++ line ∷ [])) (sym (length-with_state w.ends line.end state))
      (all_more (IsLineIn (length w.ends)) w.lines line is.lines line_in)

  honest_now : IsHonest group_secrets (setup_at later) (h ∷ history_of w)
  honest_now = honest_same group_secrets (setup_at w.ends) (setup_at later) (h ∷ history_of w) (λ who part. setups_stay w.ends line.end state who) (next.honest, is.honest)

  abbrev nonce : List ℕ
  nonce = two_numbers 0 line.line

  -- ---- the nonces

  abbrev Fresh : List (List ℕ) → Type 0
  Fresh nonces = AllDifferent nonces × ((x : List ℕ) → Among x nonces → IsOfLine x (w.lines ++ line ∷ []))

  fresh_before : Fresh (drawn_in (history_of w))
  fresh_before = (is.nonces, λ x among. of_line_stays x w.lines line (is.drawn x among))

  not_before : Among nonce (drawn_in (history_of w)) → ⊥
  not_before among =
      let of_line : IsOfLine nonce w.lines = is.drawn nonce among in
      let lt : of_line.number < line.line = number_below w.lines of_line.number line.line next.below of_line.there in
      let small : line.line < 2 ^ 32 = next.small in
      let same : line.line ≡ of_line.number = two_apart line.line of_line.number small (omega arith) of_line.is in
      omega arith

  fresh_after : (nonces : List (List ℕ)) → OneDraw nonce nonces → Fresh (nonces ++ drawn_in (history_of w))
  fresh_after nonces (inl none) = subst (λ (l : List (List ℕ)). Fresh (l ++ drawn_in (history_of w))) (sym none) fresh_before
  fresh_after nonces (inr one) = subst (λ (l : List (List ℕ)). Fresh (l ++ drawn_in (history_of w))) (sym one) ((not_before, fresh_before.0), all)
    where
      all : (x : List ℕ) → Among x (nonce ∷ drawn_in (history_of w)) → IsOfLine x (w.lines ++ line ∷ [])
      all x (inl same) = of_line_new x w.lines line same
      all x (inr before) = fresh_before.1 x before

  fresh_now : Fresh (drawn_in (h ∷ history_of w))
  fresh_now =
      fresh_after (draws_of_past (past_of_log (h.event ∷ [])))
      (draws_line the_given line.line (bytes_or_none line.datagram) (deed_of line.step) (draws_of_past (past_of_log (h.event ∷ []))) (event_draws end.state state h.event next.event))

  pub grown_is_world : IsWorld (grown w line state)
  grown_is_world = record {
    stand = subst (λ (x : History). (who : ℕ) (y : EndSeen) → slice_get later who ≡ Some y → StandsUpTo w.moment y.setup (log_of who x) y.state) (sym is_grown) stand_now;
    given = given_now;
    known = subst (λ (x : History). (who : ℕ) (y : EndSeen) → slice_get later who ≡ Some y → Knows group_secrets y.setup (past_at who x)) (sym is_grown) known_now;
    names = apart_with_state name_of w.ends line.end state (λ x y name setup. name) is.names;
    prints = apart_with_state print_of w.ends line.end state (λ x y name setup. ap own_of setup) is.prints;
    calls = subst (λ (x : History). (who : ℕ) → AreCalls (log_of who x)) (sym is_grown) calls_now;
    lines = lines_now;
    rise = rise_more w.lines line is.rise next.below;
    answers = all_more IsAnswered w.lines line is.answers next.answer;
    honest = subst (λ (x : History). IsHonest group_secrets (setup_at later) x) (sym is_grown) honest_now;
    nonces = subst (λ (x : History). AllDifferent (drawn_in x)) (sym is_grown) fresh_now.0;
    drawn = subst (λ (x : History). (y : List ℕ) → Among y (drawn_in x) → IsOfLine y (w.lines ++ line ∷ [])) (sym is_grown) fresh_now.1;
  }

-- ---- steps

pub seen_is : (t : Seen) (moment : ℕ) (ends : List EndSeen) (lines : List JournalLine) → t.moment ≡ moment → t.ends ≡ ends → t.lines ≡ lines → t ≡ record { moment = moment; ends = ends; lines = lines }
seen_is t moment ends lines em ee el =
    let a : t ≡ record { moment = moment; ends = t.ends; lines = t.lines } = ap (λ (m : ℕ). let x : Seen = record { moment = m; ends = t.ends; lines = t.lines } in x) em in
    let b : record { moment = moment; ends = t.ends; lines = t.lines } ≡ record { moment = moment; ends = ends; lines = t.lines } = ap (λ (e : List EndSeen). let x : Seen = record { moment = moment; ends = e; lines = t.lines } in x) ee in
    a ∙ b ∙ ap (λ (l : List JournalLine). let x : Seen = record { moment = moment; ends = ends; lines = l } in x) el

-- a step that isn't refused and calls an end
pub called_may : (w : Seen) (number : ℕ) (step : Step) (line : JournalLine) (t : Seen) → IsWorld w → AreBelow w.lines number → number < 2 ^ 32 → MayStep w step → Called w number step line t →
    AreBytes (bytes_or_none line.datagram) → IsSizedDeed (deed_of step) → IsWorld t
called_may w number step line t is below small may called bytes sized =
    let of_step : IsLineOf w number step line = called.is_line in
    let next : IsNext w line called.end called.state = record {
      below = subst (λ (n : ℕ). AreBelow w.lines n) (sym of_step.line) below;
      small = subst (λ (n : ℕ). n < 2 ^ 32) (sym of_step.line) small;
      bytes = bytes;
      sized = subst (λ (s : Step). IsSizedDeed (deed_of s)) (sym of_step.step) sized;
      limits = subst (λ (s : Step). narrows_beyond (deed_of s) ≡ false) (sym of_step.step) (not_beyond w (deed_of step) may.fine);
      peer = subst (λ (s : Step). HasPeer (length w.ends) s) (sym of_step.step) (has_peer w (deed_of step) may.ends);
      moment = of_step.moment;
      generation = of_step.generation ∙ generation_is w.ends (called_by step) called.end (at_step of_step);
      answer = subst (λ (s : Step). HasItsAnswer s line.refused line.stopped) (sym of_step.step) of_step.answer;
      there = called.is_end;
      event = called.event;
      honest = honest_line of_step;
    } in
    subst (λ (x : Seen). IsWorld x) (sym (seen_is t w.moment (with_state w.ends line.end called.state) (w.lines ++ line ∷ []) called.moment called.ends called.lines))
    (grown_is_world w line called.end called.state is next)
  where
    at_step : IsLineOf w number step line → slice_get w.ends (called_by step) ≡ Some called.end
    at_step of_step = subst (λ (k : ℕ). slice_get w.ends k ≡ Some called.end) of_step.end called.is_end

    honest_line : IsLineOf w number step line → IsHonestCall group_secrets (setup_at w.ends line.end) (past_at line.end (history_of w)) (history_of w) (event_of w.ends line).call
    honest_line of_step =
        subst (λ (k : ℕ). IsHonestCall group_secrets (setup_at w.ends k) (past_at k (history_of w)) (history_of w) (event_of w.ends line).call) (sym of_step.end)
        (subst (λ (s : Step). IsHonestCall group_secrets (setup_at w.ends (called_by step)) (past_at (called_by step) (history_of w)) (history_of w) (call_of w.ends line.line line.generation line.datagram s)) (sym of_step.step)
        (subst (λ (o : Option (List ℕ)). IsHonestCall group_secrets (setup_at w.ends (called_by step)) (past_at (called_by step) (history_of w)) (history_of w) (call_of w.ends line.line line.generation o step)) (sym of_step.datagram)
        (honest_deed w is (given_by (print_at w.ends (peer_of (deed_of step))) line.generation (deed_of step)) line.line called.end (deed_of step) (at_step of_step) may.unforged)))

pub called_is_world : (w : Seen) (number : ℕ) (step : Step) (line : JournalLine) (t : Seen) → IsWorld w → AreBelow w.lines number → number < 2 ^ 32 → step_fault w step ≡ None → Called w number step line t →
    AreBytes (bytes_or_none line.datagram) → IsSizedDeed (deed_of step) → IsWorld t
called_is_world w number step line t is below small none called bytes sized = called_may w number step line t is below small (may_step w step none) called bytes sized
