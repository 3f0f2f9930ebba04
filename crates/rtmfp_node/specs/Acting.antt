-- What the parts of a turn do.
use Rattle.std.specs.Prelude.{◌≡◌, ◌⊎◌, refl, ℕ, ◌+◌, ◌<◌, List, [], ◌∷◌, ◌++◌, drop, length, take, Option, Some, None}
use Rattle.std.specs.Coded.{Coded, code_by, coded×, coded_list, coded_option, coded_ℕ}
use Rattle.std.specs.FinMap.{code}
use Rattle.rtmfp_forms.specs.Address.{AddressParts}
use Rattle.rtmfp_host.specs.Faults.{Rose}
use Rattle.rtmfp_host.specs.Linking.{Line}
use Rattle.rtmfp_host.specs.Writing.{Appends}
use Rattle.rtmfp_host.specs.Drawing.{next_block}
use Rattle.rtmfp_host.specs.Seen.{SinkSeen}
use Rattle.rtmfp_host.specs.declared.link.Given.{Given}
use Rattle.rtmfp_host.specs.declared.link.LinkCall.{LinkCall}
use Rattle.endpoint_model.specs.declared.config.Config.{Config}
use Rattle.endpoint_model.specs.declared.config.Draws.{Draws}
use Rattle.endpoint_model.specs.declared.entry.Entry.{Entry}
use Rattle.endpoint_model.specs.Event.{Call, Event, Setup}
use Rattle.endpoint_model.specs.FlowCall.{FlowCall}
use Rattle.endpoint_model.specs.State.{State}
use Rattle.endpoint_laws.specs.Laws.{AreCalls}
use Rattle.endpoint_laws.specs.Contexts.{Secrets}
use Rattle.audit_text.specs.declared.line.LogCall.{LogCall}
use Rattle.log_writing.specs.Written.{written_call, written_nonce}
use Rattle.rtmfp_words.specs.Node.{Serving}
use Rattle.rtmfp_words.specs.declared.opening_words.OpeningWords.{OpeningWords}
use Rattle.rtmfp_words.specs.declared.opening_words.Whom.{Whom}
use Rattle.rtmfp_node.specs.declared.served.Served.{Served}
use Rattle.rtmfp_node.specs.declared.served.Served.TheVariants.{Done, Memory, LinkFault, SinkFault, EntropyFault}
use Rattle.rtmfp_node.specs.Outside.{Outside, Told, Leaves, Stays}
use Rattle.rtmfp_node.specs.declared.sending.Front.{Front}
use Rattle.rtmfp_node.specs.Reached.{Reached, at_first, reached_after, reached_by}
use Rattle.rtmfp_node.specs.Report.{added_text, events_text, unsent_text}
use Rattle.rtmfp_node.specs.Events.{AreMessages, AreSendCalls, AreSuccessions, AreTurnEvents, ExtendsBy, IsCalled, IsFlowCall, IsOpened, draws_of, entries_of}
use Rattle.rtmfp_node.specs.Turn.{AreSends, Turn, TurnZero, Turns, outs_in, secrets_of}
use Rattle.rtmfp_node.specs.Cut.{AreFirstSends, CutAtZero, CutBy, IsPart, LinesSoFar}

-- the entries that were added
abbrev pub added : List Entry → List Entry → List Entry
added before after = drop (length before) after

-- ---- what is written of a turn

-- the group's secrets, what a journal calls the end, where one is written, how far the run has
-- come, and the text that is made
pub record Noted : Type 0 where
  pub secrets : Secrets
  pub label : Option (List ℕ)
  pub far : Reached
  pub text : List ℕ

-- it is stored as the tuple of its fields
abbrev pub noted_code : Coded Noted
noted_code =
    code_by (Secrets × (Option (List ℕ) × (ℕ × (ℕ × List ℕ))))
    (coded× (code coded_ℕ (coded_list coded_ℕ)) (coded× (coded_option (coded_list coded_ℕ))
    (coded× coded_ℕ (coded× coded_ℕ (coded_list coded_ℕ)))))
    (λ n. (n.secrets, (n.label, (n.far.sent, (n.far.moment, n.text)))))
    (λ p. record {
      secrets = p.0;
      label = p.1.0;
      far = record { sent = p.1.1.0; moment = p.1.1.1.0 };
      text = p.1.1.1.1;
    })
    (λ _. refl)

-- what is noted at first, by the words
abbrev pub noted_first : Serving → Reached → List ℕ → Noted
noted_first v far text =
    record { secrets = secrets_of v; label = v.journal; far = far; text = text }

-- An end was given these.
pub record IsHead (limits : Config) (group cookies bytes : List ℕ) (setup : Setup) : Type 0 where
  pub config : setup.config ≡ limits
  pub cert : setup.cert ≡ bytes
  pub generation : setup.generation ≡ 0
  pub secret : setup.secret ≡ group
  pub cookie_secret : setup.cookie_secret ≡ cookies

-- It is what the words say that is noted.
pub record IsFor (v : Serving) (m : Noted) : Type 0 where
  pub secrets : m.secrets ≡ secrets_of v
  pub label : m.label ≡ v.journal

-- a text is begun
abbrev pub begun : Noted → Noted
begun m = record { secrets = m.secrets; label = m.label; far = m.far; text = [] }

-- with more text
abbrev pub with_text : Noted → List ℕ → Noted
with_text m more =
    record { secrets = m.secrets; label = m.label; far = m.far; text = m.text ++ more }

-- with the lines of what this event added, and then more
abbrev pub noted_more : ℕ → Noted → Event → List ℕ → Noted
noted_more turn m e more = record {
  secrets = m.secrets;
  label = m.label;
  far = reached_by m.far e;
  text = m.text ++ (added_text m.label m.secrets turn m.far e ++ more);
}

-- This is what is written of the event: its moment, what its call drew, the call, and what it
-- added.
pub record IsSaid (given : ℕ) (drawn : List ℕ) (asked : LogCall) (new : List Entry) (e : Event)
    : Type 0 where
  pub moment : e.moment ≡ given
  pub nonce : written_nonce e.call ≡ drawn
  pub call : written_call e.call ≡ asked
  pub entries : e.entries ≡ new

-- ---- the calls of the end

-- the end did these events, and they were noted
pub record Acts (turn : ℕ) (s t : State) (m n : Noted) (log : List Event) : Type 0 where
  pub stands : ExtendsBy s t log
  pub sized : AreCalls log
  pub noted : n ≡ record {
    secrets = m.secrets;
    label = m.label;
    far = reached_after m.far log;
    text = m.text ++ events_text m.label m.secrets turn m.far log;
  }

-- and their entries were added to these
pub record ActsIn (turn : ℕ) (s t : State) (before after : List Entry) (m n : Noted)
    (log : List Event) : Type 0 where
  pub acts : Acts turn s t m n log
  pub entries : after ≡ before ++ entries_of log

-- the end did the events of a turn; these are their entries
pub record Acted (message : Option (List ℕ)) (given : Given) (moment : ℕ) (draws : Draws) (turn : ℕ)
    (s t : State) (entries : List Entry) (m n : Noted) : Type 0 where
  pub log : List Event
  pub events : AreTurnEvents message given moment draws log
  pub acts : Acts turn s t m n log
  pub whole : entries ≡ entries_of log

-- what was given was acted upon; nothing is, where the receive failed
abbrev pub ActedOn : Option (List ℕ) → Option Given → ℕ → Draws → ℕ → State → State → List Entry →
    Noted → Noted → Type 0
ActedOn message None moment draws turn s t entries m n = ⊥
ActedOn message (Some given) moment draws turn s t entries m n =
    Acted message given moment draws turn s t entries m n

-- a call on the group's secrets that was done or refused, where there was one to make
pub record Succeeded (call : Option Call) (turn : ℕ) (s t : State) (before after : List Entry)
    (m n : Noted) : Type 0 where
  pub log : List Event
  pub calls : AreSuccessions call log
  pub acts : ActsIn turn s t before after m n log
  -- none of its entries is a datagram
  pub silent : outs_in (entries_of log) ≡ []

-- ---- draws

-- one draw that was done
abbrev pub Drew : Option (List (List ℕ)) → Option (List (List ℕ)) → List ℕ → Type 0
Drew before None block = Unit {0}
Drew None (Some now) block = ⊥
Drew (Some before) (Some now) block = (block ≡ next_block before) × (now ≡ drop 1 before)

-- so many draws that were done, and no more; one that fails takes no block
abbrev pub DrewSome : ℕ → Option (List (List ℕ)) → Option (List (List ℕ)) → Type 0
DrewSome drawn before None = Unit {0}
DrewSome drawn None (Some now) = ⊥
DrewSome drawn (Some before) (Some now) = now ≡ drop drawn before

-- ---- openings

-- openings in their order, each with a block that was drawn
abbrev pub AreOpenedBy : List OpeningWords → ℕ → Option (List (List ℕ)) → Option (List (List ℕ)) →
    List Event → Type 0
AreOpenedBy [] moment before after log = (log ≡ []) × (after ≡ before)
AreOpenedBy (opening ∷ openings) moment before after log =
    (middle : Option (List (List ℕ))) × (block : List ℕ) × (e : Event) × (later : List Event) ×
    Drew before middle block × IsOpened opening moment (draws_of block) e × (log ≡ e ∷ later) ×
    AreOpenedBy openings moment middle after later

-- an opening that was begun or refused, by whom it calls and where
pub record DidOpen (whom : Whom) (at : AddressParts) (moment : ℕ) (draws : Draws) (s t : State)
    (before after : List Entry) (m n : Noted) : Type 0 where
  pub event : Event
  pub opened : IsCalled whom at moment draws event
  pub acts : ActsIn 0 s t before after m n (event ∷ [])

-- all of them
pub record OpensAll (openings : List OpeningWords) (moment : ℕ)
    (blocks now : Option (List (List ℕ))) (s t : State) (before after : List Entry) (m n : Noted)
    : Type 0 where
  pub log : List Event
  pub opened : AreOpenedBy openings moment blocks now log
  pub acts : ActsIn 0 s t before after m n log

-- Where they aren't all made, so many blocks were drawn as were made, and one more where there was no
-- memory.
abbrev pub OpensEnd : Served → List OpeningWords → ℕ → Option (List (List ℕ)) →
    Option (List (List ℕ)) → State → State → List Entry → List Entry → Noted → Noted → Type 0
OpensEnd Done openings moment blocks now s t before after m n =
    OpensAll openings moment blocks now s t before after m n
OpensEnd Memory openings moment blocks now s t before after m n =
    (made : ℕ) × (made < length openings) × DrewSome (made + 1) blocks now
OpensEnd EntropyFault openings moment blocks now s t before after m n =
    (made : ℕ) × (made < length openings) × DrewSome made blocks now
OpensEnd LinkFault openings moment blocks now s t before after m n = ⊥
OpensEnd SinkFault openings moment blocks now s t before after m n = ⊥

-- the random source's count rose where it failed, and else it stays
abbrev pub DrawnAt : Served → ℕ → ℕ → Type 0
DrawnAt Done before now = Stays before now
DrawnAt Memory before now = Stays before now
DrawnAt SinkFault before now = Stays before now
DrawnAt LinkFault before now = Stays before now
DrawnAt EntropyFault before now = Rose before now

-- ---- messages

-- a call on the flows of a session that was done or refused
pub record DidCall (near : ℕ) (call : FlowCall) (turn : ℕ) (s t : State) (before after : List Entry)
    (m n : Noted) : Type 0 where
  pub event : Event
  pub called : IsFlowCall near call event
  pub acts : ActsIn turn s t before after m n (event ∷ [])

-- the calls for these sessions
pub record Messages (message nears_of : List ℕ) (turn : ℕ) (s t : State)
    (before after : List Entry) (m n : Noted) : Type 0 where
  pub log : List Event
  pub calls : AreMessages message nears_of log
  pub acts : ActsIn turn s t before after m n log

-- the calls for what these entries tell as opened, where there is a message
pub record SendCalls (message : Option (List ℕ)) (heard : List Entry) (turn : ℕ) (s t : State)
    (before after : List Entry) (m n : Noted) : Type 0 where
  pub log : List Event
  pub calls : AreSendCalls message heard log
  pub acts : ActsIn turn s t before after m n log

-- ---- sends

-- the link was called so
abbrev pub CallsAll : Option Line → Option Line → List LinkCall → Type 0
CallsAll before None calls = Unit {0}
CallsAll None (Some now) calls = ⊥
CallsAll (Some before) (Some now) calls =
    now ≡ record { left = before.left; calls = before.calls ++ calls }

-- all datagrams among the entries were sent, each once, and a line was written for each that is
-- lost
pub record SentAll (front : Front) (count : ℕ) (entries : List Entry) (l m : Option Line)
    (t u : Option (List ℕ)) : Type 0 where
  pub sends : List LinkCall
  pub sent : AreSends (outs_in entries) sends
  pub calls : CallsAll l m sends
  pub text : Appends t u (unsent_text front count sends)

-- some of the first were sent, and the lines so far were written
pub record SentSome (front : Front) (count : ℕ) (entries : List Entry) (l m : Option Line)
    (t u : Option (List ℕ)) : Type 0 where
  pub sends : List LinkCall
  pub sent : AreFirstSends (outs_in entries) sends
  pub calls : CallsAll l m sends
  pub lines : List ℕ
  pub so_far : LinesSoFar front count sends lines
  pub text : Appends t u lines

abbrev pub SendEnds : Served → Front → ℕ → List Entry → Option Line → Option Line →
    Option (List ℕ) → Option (List ℕ) → Type 0
SendEnds Done front count entries l m t u = SentAll front count entries l m t u
SendEnds Memory front count entries l m t u = SentSome front count entries l m t u
SendEnds SinkFault front count entries l m t u = SentSome front count entries l m t u
SendEnds LinkFault front count entries l m t u = ⊥
SendEnds EntropyFault front count entries l m t u = ⊥

-- the report was written, and all was sent
pub record EmittedAll (front : Front) (count : ℕ) (report : List ℕ) (entries : List Entry)
    (l m : Option Line) (t u : Option (List ℕ)) : Type 0 where
  pub sends : List LinkCall
  pub sent : AreSends (outs_in entries) sends
  pub calls : CallsAll l m sends
  pub text : Appends t u (report ++ unsent_text front count sends)

-- a part of it
pub record EmittedSome (front : Front) (count : ℕ) (report : List ℕ) (entries : List Entry)
    (l m : Option Line) (t u : Option (List ℕ)) : Type 0 where
  pub sends : List LinkCall
  pub sent : AreFirstSends (outs_in entries) sends
  pub calls : CallsAll l m sends
  pub part : List ℕ
  pub is_part : IsPart front count report sends part
  pub text : Appends t u part

abbrev pub EmitEnds : Served → Front → ℕ → List ℕ → List Entry → Option Line → Option Line →
    Option (List ℕ) → Option (List ℕ) → Type 0
EmitEnds Done front count report entries l m t u = EmittedAll front count report entries l m t u
EmitEnds Memory front count report entries l m t u = EmittedSome front count report entries l m t u
EmitEnds SinkFault front count report entries l m t u =
    EmittedSome front count report entries l m t u
EmitEnds LinkFault front count report entries l m t u = ⊥
EmitEnds EntropyFault front count report entries l m t u = ⊥

-- the sink's count rose where it failed, and else it stays
abbrev pub CountedAt : Served → ℕ → ℕ → Type 0
CountedAt Done before now = Stays before now
CountedAt Memory before now = Stays before now
CountedAt SinkFault before now = Rose before now
CountedAt LinkFault before now = Stays before now
CountedAt EntropyFault before now = Stays before now

-- how the writing of a line ends
abbrev pub LostEnds : Served → List ℕ → Option (List ℕ) → Option (List ℕ) → Type 0
LostEnds Done line t u = Appends t u line
LostEnds Memory line t u = Appends t u []
LostEnds SinkFault line t u = (k : ℕ) × Appends t u (take k line)
LostEnds LinkFault line t u = ⊥
LostEnds EntropyFault line t u = ⊥

-- all is passed on, but where the sink failed
abbrev pub PassedAt : Served → SinkSeen → Type 0
PassedAt Done sink = sink.passed ≡ sink.written
PassedAt Memory sink = sink.passed ≡ sink.written
PassedAt SinkFault sink = Unit {0}
PassedAt LinkFault sink = sink.passed ≡ sink.written
PassedAt EntropyFault sink = sink.passed ≡ sink.written

-- a flush after an end that was reached so: it stays, or the sink fails
abbrev pub PassOn : Served → Served → SinkSeen → SinkSeen → Type 0
PassOn served result before after =
    ((result ≡ served) × Stays before.faults after.faults × PassedAt served after) ⊎
    ((result ≡ SinkFault) × Rose before.faults after.faults)

-- ---- turns

-- turn 0 was taken whole: its log is there, whatever the objects tell
pub record ZeroDone (v : Serving) (head : List ℕ) (s t : State) (far : Reached)
    (before after : Outside) : Type 0 where
  pub log : List Event
  pub stands : ExtendsBy s t log
  pub sized : AreCalls log
  pub reached : far ≡ reached_after at_first log
  pub leaves : Leaves (λ x y. TurnZero v head x y log) before after

abbrev pub ZeroEnds : Served → Serving → List ℕ → State → State → Reached → Outside → Outside →
    Type 0
ZeroEnds Done v head s t far before after = ZeroDone v head s t far before after
ZeroEnds Memory v head s t far before after = Leaves (CutAtZero Memory v head s) before after
ZeroEnds LinkFault v head s t far before after = Leaves (CutAtZero LinkFault v head s) before after
ZeroEnds EntropyFault v head s t far before after =
    Leaves (CutAtZero EntropyFault v head s) before after
ZeroEnds SinkFault v head s t far before after = Leaves (CutAtZero SinkFault v head s) before after

-- a turn
pub record TurnDone (v : Serving) (turn : ℕ) (far : Reached) (s t : State) (later : Reached)
    (before after : Outside) : Type 0 where
  pub log : List Event
  pub stands : ExtendsBy s t log
  pub sized : AreCalls log
  pub reached : later ≡ reached_after far log
  pub leaves : Leaves (λ x y. Turn v turn far x y log) before after

abbrev pub TurnEnds : Served → Serving → ℕ → Reached → State → State → Reached → Outside →
    Outside → Type 0
TurnEnds Done v turn far s t later before after = TurnDone v turn far s t later before after
TurnEnds Memory v turn far s t later before after =
    Leaves (CutBy Memory v turn far s) before after
TurnEnds LinkFault v turn far s t later before after =
    Leaves (CutBy LinkFault v turn far s) before after
TurnEnds EntropyFault v turn far s t later before after =
    Leaves (CutBy EntropyFault v turn far s) before after
TurnEnds SinkFault v turn far s t later before after =
    Leaves (CutBy SinkFault v turn far s) before after

-- so many turns
pub record TurnsDone (v : Serving) (turns : ℕ) (far : Reached) (s t : State) (later : Reached)
    (before after : Outside) : Type 0 where
  pub log : List Event
  pub stands : ExtendsBy s t log
  pub sized : AreCalls log
  pub reached : later ≡ reached_after far log
  pub leaves : Leaves (λ x y. Turns v turns far x y log) before after

-- fewer than so many turns, and then one that was cut
pub record TurnsCut (result : Served) (v : Serving) (far : Reached) (s : State) (x y : Told)
    : Type 0 where
  pub turns : ℕ
  pub fewer : turns < v.turns
  pub middle : Told
  pub log : List Event
  pub left : State
  pub whole : Turns v turns far x middle log
  pub stands : ExtendsBy s left log
  pub sized : AreCalls log
  pub cut : CutBy result v (turns + 1) (reached_after far log) left middle y

abbrev pub TurnsEnd : Served → Serving → Reached → State → State → Reached → Outside → Outside →
    Type 0
TurnsEnd Done v far s t later before after = TurnsDone v v.turns far s t later before after
TurnsEnd Memory v far s t later before after = Leaves (TurnsCut Memory v far s) before after
TurnsEnd LinkFault v far s t later before after =
    Leaves (TurnsCut LinkFault v far s) before after
TurnsEnd EntropyFault v far s t later before after =
    Leaves (TurnsCut EntropyFault v far s) before after
TurnsEnd SinkFault v far s t later before after =
    Leaves (TurnsCut SinkFault v far s) before after
