-- One more line in the journal.
use Rattle.std.proofs.Common.{◌≡◌, ℕ, zero, suc, ◌+◌, ◌-◌, ◌<◌, ◌^◌, List, [], ◌∷◌, ◌++◌, map, set, length, get_or, Option, Some, None, is_some, Err, slice_get, refl, sym, ap, ◌∙◌, subst, arith, length-append, append_assoc, inl, inr, ◌⊎◌, true, false, Bool, option_map}
use Rattle.std.proofs.lemmas.List.{length-map, set-get_or}
use Rattle.std.proofs.lemmas.Option.{slice_get-map, slice_get_read}
use Rattle.endpoint_laws.specs.Laws.{AreBytes}
use Rattle.endpoint_model.specs.Event.{Call}
use Rattle.endpoint_model.specs.Added.{Added}
use Rattle.endpoint_model.specs.declared.answers.Stopped.{Stopped as Stop}
use Rattle.endpoint_model.specs.State.{State, at_moment}
use Rattle.endpoint_model.specs.Effects.{open_refusal}
use Rattle.endpoint_model.specs.Log.{Answers, Step as StepOf}
use Rattle.rtmfp_text.specs.declared.names.Named.{Named}
use Rattle.rendezvous_world.specs.declared.end.End.{End as EndKept}
use Rattle.rendezvous_world.specs.declared.journal.JournalLine.{JournalLine}
use Rattle.rendezvous_world.specs.declared.journal.Refused.{Refused}
use Rattle.rendezvous_world.specs.declared.step.StepFault.TheVariants.{Memory}
use Rattle.rendezvous_world.specs.declared.step.Step.{Step}
use Rattle.rendezvous_world.specs.declared.step.Step.TheVariants.{Inject}
use Rattle.rendezvous_world.specs.Deed.{StepCall, Opens, Seeks, Closes, Introduces, Narrows, Learns, Ticks, Deed, Calls, deed_of}
use Rattle.rendezvous_world.specs.Calls.{peer_in, IsAllowed, LeavesUndone}
use Rattle.rendezvous_world.specs.Seen.{EndSeen, Seen, generation_at, print_at}
use Rattle.rendezvous_world.specs.Line.{IsWith}
use Rattle.rendezvous_world.specs.Sent.{Sent, sent_among, sent_in}
use Rattle.rendezvous_world.specs.Datagrams.{datagram_of}
use Rattle.rendezvous_world.specs.Keyed.{AreKeys}
use Rattle.rendezvous_world.specs.History.{given_by, bytes_or_none, peer_or, peer_of, call_by, call_of, moment_given, answer_of}
use Rattle.rendezvous_world.specs.Stepping.{in_state, with_state, HasItsAnswer, Called, AllowsIn, Allows, Noted}
use Rattle.rendezvous_world.specs.Entering.{event_by, IsUndoneIn, IsUndone, IsEntering, IsEntered, answered}
use Rattle.rendezvous_world.specs.Kept.{IsWorld}
use Rattle.rendezvous_world.specs.Inside.{end_seen, world_seen, named_of, count_in, starts_after, IsKept}
use Rattle.rendezvous_world.proofs.Ends.{generation_is}
use Rattle.rendezvous_world.proofs.Calling.{called_is_world}
use Rattle.rendezvous_world.proofs.Growing.{noted_keeps}
use Rattle.rendezvous_world.proofs.Finding.{test_other}
use Rattle.rendezvous_world.proofs.Keying.{keys_grow}

-- ---- one end in another state

with_state_later : (e : EndSeen) (ends : List EndSeen) (k : ℕ) (s : State) → with_state (e ∷ ends) (suc k) s ≡ e ∷ with_state ends k s
with_state_later e ends k s = test_other (suc k) 0 _ _ (λ z. omega arith) ∙ ap (λ n. e ∷ with_state ends n s) (let z : suc k - 1 ≡ k = omega arith in z)

-- an end with another endpoint
abbrev pub now_in : EndKept → State → EndKept
now_in old state = record { name = old.name; config = old.config; cert = old.cert; endpoint = state }

seen_of : (old e : EndKept) (s : State) → old ≡ e → end_seen (now_in old s) ≡ in_state (end_seen e) s
seen_of old e s is = ap (λ (x : EndKept). in_state (end_seen x) s) is

pub seen_set : (k : ℕ) (ends : List EndKept) (old : EndKept) (s : State) → old ≡ get_or ends k old → map end_seen (set ends k (now_in old s)) ≡ with_state (map end_seen ends) k s
seen_set k [] old s is = refl
seen_set zero (e ∷ ends) old s is = ap (λ (x : EndSeen). x ∷ map end_seen ends) (seen_of old e s is)
seen_set (suc k) (e ∷ ends) old s is = ap (λ (xs : List EndSeen). end_seen e ∷ xs) (seen_set k ends old s is) ∙ sym (with_state_later (end_seen e) (map end_seen ends) k s)

pub named_set : (ends : List EndSeen) (k : ℕ) (s : State) → map named_of (with_state ends k s) ≡ map named_of ends
named_set [] k s = refl
named_set (e ∷ ends) zero s = refl
named_set (e ∷ ends) (suc k) s = ap (map named_of) (with_state_later e ends k s) ∙ ap (λ (xs : List Named). named_of e ∷ xs) (named_set ends k s)

pub same_set : (k : ℕ) (ends : List EndKept) (old : EndKept) (s : State) → old ≡ get_or ends k old → s ≡ old.endpoint → set ends k (now_in old s) ≡ ends
same_set k ends old s is same =
    ap (λ (x : State). set ends k (now_in old x)) same ∙ ap (λ (x : EndKept). set ends k x) is ∙ set-get_or ends k old

pub seen_there : (ends : List EndKept) (k : ℕ) (old : EndKept) → k < length ends → old ≡ get_or ends k old → slice_get (map end_seen ends) k ≡ Some (end_seen old)
seen_there ends k old lt is = slice_get-map end_seen ends k ∙ ap (option_map end_seen) (slice_get_read ends (length ends) k old refl lt is)

-- ---- the call

print_in : (ends : List EndSeen) (k : ℕ) (x : Named) → k < length ends → x ≡ get_or (map named_of ends) k x → x.print ≡ print_at ends k
print_in [] k x lt is = absurd (omega arith)
print_in (e ∷ ends) zero x lt is = ap (λ (n : Named). n.print) is
print_in (e ∷ ends) (suc k) x lt is = print_in ends k x (omega (arith, lt)) is

pub print_named : (ends : List EndSeen) (named : List Named) (k : ℕ) (x : Named) → named ≡ map named_of ends → k < length ends → x ≡ get_or named k x → x.print ≡ print_at ends k
print_named ends named k x same lt is = print_in ends k x lt (is ∙ ap (λ (ns : List Named). get_or ns k x) same)

pub named_is : (x : Named) (named seen : List Named) (peer k : ℕ) → k ≡ peer → seen ≡ named → x ≡ get_or seen k x → x ≡ get_or named peer x
named_is x named seen peer k at same is = is ∙ ap (λ (n : ℕ). get_or seen n x) at ∙ ap (λ (ns : List Named). get_or ns peer x) same

call_same : (ends : List EndSeen) (print : List ℕ) (line generation : ℕ) (bytes : List ℕ) (datagram : Option (List ℕ)) (step : Step) → print ≡ print_at ends (peer_of (deed_of step)) → bytes ≡ bytes_or_none datagram →
    call_by (given_by print generation (deed_of step)) line bytes (deed_of step) ≡ call_of ends line generation datagram step
call_same ends print line generation bytes datagram step p b =
    ap (λ (x : List ℕ). call_by (given_by x generation (deed_of step)) line bytes (deed_of step)) p
    ∙ ap (λ (x : List ℕ). call_by (given_by (print_at ends (peer_of (deed_of step))) generation (deed_of step)) line x (deed_of step)) b

-- what a step injects is its datagram
is_with : (w : Seen) (datagram : Option (List ℕ)) (step : Step) → datagram ≡ datagram_of w step → IsWith datagram step
is_with w datagram (Inject end from bytes) is = is
is_with w datagram _ is = tt

-- what a call leaves that found no memory
undone_call : (print named : List ℕ) (moment : ℕ) (call : StepCall) (old new : State) → print ≡ named → LeavesUndone print moment call old new →
    (new ≡ old) ⊎ (IsAllowed named old call × (new ≡ at_moment old moment))
undone_call print named moment (Opens peer list) old new p h = inr (subst (λ (x : List ℕ). open_refusal old x list ≡ None) p h.0, h.1)
undone_call print named moment (Seeks name list) old new p h = inr h
undone_call print named moment (Closes near) old new p h = inr h
undone_call print named moment Introduces old new p h = absurd h
undone_call print named moment (Narrows limit) old new p h = absurd h
undone_call print named moment Ticks old new p h = absurd h
undone_call print named moment call old new p h = inl h

undone_is : (ends : List EndSeen) (print : List ℕ) (moment : ℕ) (deed : Deed) (old new : State) → print ≡ print_at ends (peer_of deed) → IsUndoneIn print moment deed old new →
    (new ≡ old) ⊎ (AllowsIn ends old deed × (new ≡ at_moment old moment))
undone_is ends print moment (Calls end call) old new p h = undone_call print (print_at ends (peer_or end (peer_in call))) moment call old new p h
undone_is ends print moment deed old new p h = absurd h

-- a learn leaves all as before, whatever its secret
undone_given : (print : List ℕ) (generation moment : ℕ) (deed : Deed) (old new : State) → IsUndoneIn (given_by print generation deed) moment deed old new → IsUndoneIn print moment deed old new
undone_given print generation moment (Calls end Learns) old new h = h
undone_given print generation moment deed old new h = h

-- ---- sent datagrams

sent_in-both : (xs ys : List JournalLine) → sent_in (xs ++ ys) ≡ sent_in xs ++ sent_in ys
sent_in-both [] ys = refl
sent_in-both (x ∷ xs) ys =
    ap (λ (sent : List Sent). sent_among x.end x.out.entries ++ sent) (sent_in-both xs ys) ∙ sym (append_assoc (sent_among x.end x.out.entries) (sent_in xs) (sent_in ys))

sent_in-append : (xs ys : List JournalLine) → length (sent_in (xs ++ ys)) ≡ length (sent_in xs) + length (sent_in ys)
sent_in-append xs ys = ap (λ (sent : List Sent). length sent) (sent_in-both xs ys) ∙ length-append (sent_in xs) (sent_in ys)

one_sent : (line : JournalLine) → length (sent_in (line ∷ [])) ≡ count_in line
one_sent line = length-append (sent_among line.end line.out.entries) [] ∙ (let z : count_in line + 0 ≡ count_in line = omega arith in z)

pub sent_more : (lines : List JournalLine) (line : JournalLine) → length (sent_in (lines ++ line ∷ [])) ≡ length (sent_in lines) + count_in line
sent_more lines line = sent_in-append lines (line ∷ []) ∙ ap (λ n. length (sent_in lines) + n) (one_sent line)

pub starts_more : (lines : List JournalLine) (line : JournalLine) (before : ℕ) → starts_after before (lines ++ line ∷ []) ≡ starts_after before lines ++ (before + length (sent_in lines)) ∷ []
starts_more [] line before = ap (λ (n : ℕ). n ∷ []) (let z : before ≡ before + 0 = omega arith in z)
starts_more (x ∷ lines) line before =
    ap (λ (ns : List ℕ). before ∷ ns) (starts_more lines line (before + count_in x))
    ∙ ap (λ (n : ℕ). before ∷ (starts_after (before + count_in x) lines ++ n ∷ []))
    ((let regroup : before + count_in x + length (sent_in lines) ≡ before + (count_in x + length (sent_in lines)) = omega arith in regroup)
    ∙ ap (λ n. before + n) (sym (length-append (sent_among x.end x.out.entries) (sent_in lines))))

-- ---- the line

-- what the call of a step did
pub record IsCalled (moment : ℕ) (ends : List EndKept) (named : List Named) (number end : ℕ) (step : Step) (bytes : List ℕ) (refused : Option Refused) (stopped : Option Stop) (out : Added) (there : EndKept) (state : State) : Type 0 where
  pub there_is : there ≡ get_or ends end there
  pub peer : Named
  pub peer_is : peer ≡ get_or named (peer_of (deed_of step)) peer
  pub event : StepOf there.endpoint (event_by (given_by peer.print there.endpoint.group.generation (deed_of step)) number moment step bytes refused stopped out.entries) state
  pub answer : HasItsAnswer step refused stopped

abbrev pub line_of : ℕ → ℕ → ℕ → ℕ → Step → Option (List ℕ) → Option Refused → Option Stop → Added → JournalLine
line_of number end moment generation step datagram refused stopped out = record {
  line = number;
  end = end;
  moment = moment;
  generation = generation;
  step = step;
  datagram = datagram;
  refused = refused;
  stopped = stopped;
  out = out;
}

module _ (moment : ℕ) (ends : List EndKept) (named : List Named) (lines : List JournalLine) (starts : List ℕ) (sent : ℕ) (keyed : List ℕ) (kept : IsKept moment ends named lines starts sent keyed)
    (number end : ℕ) (step : Step) (datagram : Option (List ℕ)) (bytes : List ℕ) (entering : IsEntering (world_seen moment ends lines) number end step datagram bytes) where
  pub with_datagram : IsWith datagram step
  with_datagram = is_with (world_seen moment ends lines) datagram step entering.datagram

  there_is : end < length ends
  there_is = omega (arith, entering.there, length-map {B = EndSeen} ends end_seen)

  module _ (refused : Option Refused) (stopped : Option Stop) (out : Added) (there : EndKept) (state : State) (did : IsCalled moment ends named number end step bytes refused stopped out there state) where
    abbrev the_line : JournalLine
    the_line = line_of number end moment there.endpoint.group.generation step datagram refused stopped out

    abbrev after : List EndKept
    after = set ends end (now_in there state)

    same_call : call_by (given_by did.peer.print there.endpoint.group.generation (deed_of step)) number bytes (deed_of step) ≡ call_of (map end_seen ends) number there.endpoint.group.generation datagram step
    same_call = call_same (map end_seen ends) did.peer.print number there.endpoint.group.generation bytes datagram step (print_named (map end_seen ends) named (peer_of (deed_of step)) did.peer kept.names entering.peer did.peer_is) entering.bytes

    pub called : Called (world_seen moment ends lines) number step the_line (world_seen moment after (lines ++ the_line ∷ []))
    called = record {
      is_line = record {
        line = refl;
        end = sym entering.called;
        moment = refl;
        generation = sym (ap (generation_at (map end_seen ends)) entering.called ∙ generation_is (map end_seen ends) end (end_seen there) (seen_there ends end there there_is did.there_is));
        step = refl;
        datagram = entering.datagram;
        answer = did.answer;
      };
      end = end_seen there;
      is_end = seen_there ends end there there_is did.there_is;
      state = state;
      event =
          subst (λ (call : Call). Answers (at_moment there.endpoint (moment_given moment (deed_of step))) call (answer_of step refused stopped out.entries) out.entries state) same_call did.event;
      moment = refl;
      ends = seen_set end ends there state did.there_is;
      lines = refl;
    }

    pub entered_kept : (count : ℕ) → count ≡ count_in the_line → count < 2 ^ 64 → IsKept moment after named (lines ++ the_line ∷ []) (starts ++ sent ∷ []) (sent + count) keyed
    entered_kept count is fits = record {
      names = kept.names ∙ sym (named_set (map end_seen ends) end state) ∙ ap (map named_of) (sym (seen_set end ends there state did.there_is));
      begins = ap (λ (ns : List ℕ). ns ++ sent ∷ []) kept.begins ∙ ap (λ (n : ℕ). starts_after 0 lines ++ n ∷ []) (kept.total ∙ (let z : length (sent_in lines) ≡ 0 + length (sent_in lines) = omega arith in z)) ∙ sym (starts_more lines the_line 0);
      total = ap (λ (n : ℕ). n + count) kept.total ∙ ap (λ (n : ℕ). length (sent_in lines) + n) is ∙ sym (sent_more lines the_line);
      fits = omega (arith, kept.fits, fits, length-append lines (the_line ∷ []));
      keys = subst (λ (sent : List Sent). AreKeys keyed sent) (sym (sent_in-both lines (the_line ∷ []))) (keys_grow keyed (sent_in lines) (sent_in (the_line ∷ [])) kept.keys);
      world = called_is_world (world_seen moment ends lines) number step the_line (world_seen moment after (lines ++ the_line ∷ [])) kept.world entering.above entering.fits entering.fine called
          (subst (λ (bs : List ℕ). AreBytes bs) entering.bytes entering.are_bytes) entering.sized;
    }

    pub entered_as : (is_stopped : Bool) → is_stopped ≡ is_some stopped → IsEntered (world_seen moment ends lines) number step (answered is_stopped) (world_seen moment after (lines ++ the_line ∷ []))
    entered_as true is = record { ok = tt; memory = refl; err = inr (inl (record { line = the_line; stopped = sym is; called = called })) }
    entered_as false is = record { ok = (the_line, sym is, called); memory = tt; err = tt }

  -- ---- a call that has no line

  module _ (there : EndKept) (state : State) (peer : Named) (there_is_there : there ≡ get_or ends end there) (peer_is : peer ≡ get_or named (peer_of (deed_of step)) peer) (undone : IsUndone (given_by peer.print there.endpoint.group.generation (deed_of step)) moment step there.endpoint state) where
    abbrev without : List EndKept
    without = set ends end (now_in there state)

    abbrev before : Seen
    before = world_seen moment ends lines

    left : (state ≡ there.endpoint) ⊎ (Allows (map end_seen ends) there.endpoint step × (state ≡ at_moment there.endpoint moment))
    left = undone_is (map end_seen ends) peer.print moment (deed_of step) there.endpoint state (print_named (map end_seen ends) named (peer_of (deed_of step)) peer kept.names entering.peer peer_is) (undone_given peer.print there.endpoint.group.generation moment (deed_of step) there.endpoint state undone)

    as_before : state ≡ there.endpoint → world_seen moment without lines ≡ before
    as_before same = ap (λ (es : List EndKept). world_seen moment es lines) (same_set end ends there state there_is_there same)

    noted : Allows (map end_seen ends) there.endpoint step → state ≡ at_moment there.endpoint moment → Noted before step (world_seen moment without lines)
    noted allows is = record {
      end = end_seen there;
      is_end = subst (λ (k : ℕ). slice_get (map end_seen ends) k ≡ Some (end_seen there)) (sym entering.called) (seen_there ends end there there_is there_is_there);
      allows = allows;
      moment = refl;
      ends =
          seen_set end ends there state there_is_there ∙ ap (λ (s : State). with_state (map end_seen ends) end s) is
          ∙ ap (λ (k : ℕ). with_state (map end_seen ends) k (at_moment there.endpoint moment)) (sym entering.called);
      lines = refl;
    }

    world_left : IsWorld (world_seen moment without lines)
    world_left = elim left [
      | inl same ↦ subst (λ (w : Seen). IsWorld w) (sym (as_before same)) kept.world
      | inr both ↦ noted_keeps before step (world_seen moment without lines) kept.world (noted both.0 both.1)
    ]

    pub undone_kept : IsKept moment without named lines starts sent keyed
    undone_kept = record {
      names = kept.names ∙ sym (named_set (map end_seen ends) end state) ∙ ap (map named_of) (sym (seen_set end ends there state there_is_there));
      begins = kept.begins;
      total = kept.total;
      fits = kept.fits;
      keys = kept.keys;
      world = world_left;
    }

    pub undone_entered : IsEntered before number step (Err Memory) (world_seen moment without lines)
    undone_entered = record {
      ok = tt;
      memory = refl;
      err = (elim left [ inl same ↦ inl (as_before same) | inr both ↦ inr (inr (noted both.0 both.1)) ]);
    }
