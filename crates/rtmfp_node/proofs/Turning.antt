-- Turns, from what their parts did.
use Rattle.std.proofs.Common.{◌≡◌, ◌≢◌, inl, inr, ℕ, ◌+◌, List, [], ◌∷◌, ◌++◌, drop, length, refl, sym, ap, ◌∙◌, append_assoc, subst, Option, Some, None, IsSome}
use Rattle.rtmfp_host.specs.Linking.{LinkSeen, next_given, Receives}
use Rattle.rtmfp_host.specs.Ticking.{Clock, next_moment, after_moment, Ticks}
use Rattle.rtmfp_host.specs.Drawing.{EntropySeen, next_block}
use Rattle.rtmfp_host.specs.Seen.{SinkSeen}
use Rattle.rtmfp_host.specs.declared.link.Given.{Given}
use Rattle.rtmfp_host.specs.declared.link.LinkCall.{LinkCall}
use Rattle.rtmfp_host.specs.declared.link.LinkCall.TheVariants.{Receive}
use Rattle.endpoint_model.specs.declared.entry.Entry.{Entry}
use Rattle.endpoint_model.specs.Event.{Event}
use Rattle.endpoint_model.specs.State.{State}
use Rattle.endpoint_model.specs.Views.{Sending, out_in}
use Rattle.endpoint_laws.specs.Contexts.{Secrets}
use Rattle.rtmfp_words.specs.Node.{Serving}
use Rattle.rtmfp_words.specs.declared.opening_words.OpeningWords.{OpeningWords}
use Rattle.rtmfp_node.specs.declared.served.Served.{Served}
use Rattle.rtmfp_node.specs.declared.served.Served.TheVariants.{Done, Memory, LinkFault, SinkFault, EntropyFault}
use Rattle.rtmfp_node.specs.Outside.{Outside, outside, Told, Leaves}
use Rattle.rtmfp_node.specs.declared.sending.Front.{Front}
use Rattle.rtmfp_node.specs.Reached.{Reached, at_first, reached_after}
use Rattle.rtmfp_node.specs.Report.{events_text, front_of, unsent_text}
use Rattle.rtmfp_node.specs.Events.{AreOpened, AreTurnEvents, AreWholeEvents, AreZeroEvents, advance_call, draws_of, entries_of, learn_call}
use Rattle.rtmfp_node.specs.Turn.{AreSends, after_draws, after_wait, outs_by, outs_in, secrets_of, until_of}
use Rattle.rtmfp_node.specs.Cut.{Advances, AreFirstSends, Broken, BrokenAtZero, CutAtZero, CutBy, IsPart, after_fault}
use Rattle.rtmfp_node.specs.Acting.{Acted, ActedOn, Acts, Drew, DrewSome, EmitEnds, EmittedAll, EmittedSome, IsFor, Noted, OpensAll, OpensEnd, Succeeded, TurnDone, TurnEnds, ZeroDone, ZeroEnds, begun, noted_first}
use Rattle.rtmfp_node.proofs.Acts.{acts_then, entries_of_more, in_then}
use Rattle.rtmfp_node.proofs.Openings.{by_opens}
use Rattle.rtmfp_node.proofs.Sends.{appends_as}
use Rattle.rtmfp_node.proofs.Told.{Emitted, by_after, by_draw, by_drew, by_emit, by_heard, by_leaves, by_moment, by_none, by_receive, by_then, drew_none, leaves_map}

-- ---- what was noted

-- The text of a turn is what was noted before and that of its events, and the run has come as far as
-- they bring it.
text_is : (v : Serving) (turn : ℕ) (far : Reached) (text : List ℕ) (s t : State) (m n : Noted) (log : List Event) → m ≡ noted_first v far text → Acts turn s t m n log →
    n.text ≡ text ++ events_text v.journal (secrets_of v) turn far log
text_is v turn far text s t m n log is acts =
    ap (λ (k : Noted). k.text) acts.noted ∙ ap (λ (k : Noted). k.text ++ events_text k.label k.secrets turn k.far log) is

far_is : (v : Serving) (turn : ℕ) (far : Reached) (text : List ℕ) (s t : State) (m n : Noted) (log : List Event) → m ≡ noted_first v far text → Acts turn s t m n log → n.far ≡ reached_after far log
far_is v turn far text s t m n log is acts =
    ap (λ (k : Noted). k.far) acts.noted ∙ ap (λ (k : Noted). reached_after k.far log) is

pub begun_for : (v : Serving) (m : Noted) → IsFor v m → begun m ≡ noted_first v m.far []
begun_for v m is =
    ap (λ (x : Secrets). record { secrets = x; label = m.label; far = m.far; text = [] }) is.secrets
    ∙ ap (λ (x : Option (List ℕ)). record { secrets = secrets_of v; label = x; far = m.far; text = [] }) is.label

pub zero_for : (v : Serving) (m : Noted) → IsFor v m → m.far ≡ at_first → m ≡ noted_first v at_first m.text
zero_for v m is none =
    ap (λ (x : Secrets). record { secrets = x; label = m.label; far = m.far; text = m.text }) is.secrets
    ∙ ap (λ (x : Option (List ℕ)). record { secrets = secrets_of v; label = x; far = m.far; text = m.text }) is.label
    ∙ ap (λ (x : Reached). noted_first v x m.text) none

-- ---- what goes out

outs_more : (es fs : List Entry) → outs_in (es ++ fs) ≡ outs_in es ++ outs_in fs
outs_more [] fs = refl
outs_more (e ∷ es) fs = ap (λ (xs : List Sending). outs_by (out_in e) ++ xs) (outs_more es fs) ∙ sym (append_assoc (outs_by (out_in e)) (outs_in es) (outs_in fs))

-- Of events the first of which send nothing, the others' datagrams go out.
outs_later : (first others : List Event) → outs_in (entries_of first) ≡ [] → outs_in (entries_of others) ≡ outs_in (entries_of (first ++ others))
outs_later first others silent =
    sym (ap outs_in (entries_of_more first others) ∙ outs_more (entries_of first) (entries_of others) ∙ ap (λ (xs : List Sending). xs ++ outs_in (entries_of others)) silent)

-- ---- the calls of the outside in a turn

record Asked (block : List ℕ) (first : ℕ) (given : Given) (moment : ℕ) (x : Told) : Type 0 where
  block_is : block ≡ next_block x.blocks
  first_is : first ≡ next_moment x.clock
  given_is : given ≡ next_given x.line.left
  moment_is : moment ≡ next_moment (after_moment x.clock)

events_as : (message : Option (List ℕ)) (block : List ℕ) (first moment : ℕ) (given : Given) (x : Told) (log : List Event) → Asked block first given moment x → AreTurnEvents message given moment (draws_of block) log →
    AreTurnEvents message (next_given x.line.left) (next_moment (after_moment x.clock)) (draws_of (next_block x.blocks)) log
events_as message block first moment given x log asked events =
    subst (λ (k : Given). AreTurnEvents message k (next_moment (after_moment x.clock)) (draws_of (next_block x.blocks)) log) asked.given_is
    (subst (λ k. AreTurnEvents message given k (draws_of (next_block x.blocks)) log) asked.moment_is
    (subst (λ k. AreTurnEvents message given moment (draws_of k) log) asked.block_is events))

abbrev waited_from : ℕ → Told → Told
waited_from first x = record {
  line = record { left = drop 1 x.line.left; calls = x.line.calls ++ Receive (until_of first) ∷ [] };
  clock = after_moment (after_moment x.clock);
  blocks = drop 1 x.blocks;
  text = x.text;
}

module _ (v : Serving) (turn : ℕ) (far : Reached) (block : List ℕ) (first moment : ℕ) (given : Given) (s u t : State) (now entries : List Entry) (m o n : Noted)
    (l l1 l2 : LinkSeen) (c c1 c2 : Option Clock) (b b1 : EntropySeen) (k k1 : SinkSeen) (early : Succeeded (advance_call v.advance turn) turn s u [] now m o)
    (drew : Drew b.blocks b1.blocks block) (ticks : Ticks c c1 first) (receives : Receives l.line l1.line (until_of first) (Some given)) (again : Ticks c1 c2 moment)
    (acted : Acted v.send given moment (draws_of block) turn u t entries o n) (is : m ≡ noted_first v far []) where
  abbrev log_of : List Event
  log_of = early.log ++ acted.log

  acts_of : Acts turn s t m n log_of
  acts_of = acts_then early.acts.acts acted.acts

  outs_of : outs_in entries ≡ outs_in (entries_of log_of)
  outs_of = ap outs_in acted.whole ∙ outs_later early.log acted.log early.silent

  events_of : (x : Told) → Asked block first given moment x →
      AreWholeEvents v.advance turn v.send (next_given x.line.left) (next_moment (after_moment x.clock)) (draws_of (next_block x.blocks)) log_of
  events_of x asked = (early.log, acted.log, early.calls, events_as v.send block first moment given x acted.log asked acted.events, refl)

  chain : (sends : List LinkCall) (text : List ℕ) → Leaves (Emitted sends text) (outside l1 c2 b1 k) (outside l2 c2 b1 k1) →
      Leaves (λ x y. Asked block first given moment x × Emitted sends text (waited_from first x) y) (outside l c b k) (outside l2 c2 b1 k1)
  chain sends text last =
      leaves_map
      (by_after
      (by_then (by_draw block l c b b1 k drew)
      (by_then (by_moment first l c c1 b1 k ticks)
      (by_then (by_receive given (until_of first) l l1 c1 b1 k receives) (by_moment moment l1 c1 c2 b1 k again))))
      last)
      (λ x y f. (record { block_is = f.0.0; first_is = f.0.1.0; given_is = f.0.1.1.0; moment_is = f.0.1.1.1 }, f.1))

  calls_are : (sends : List LinkCall) (x : Told) → Asked block first given moment x →
      ((x.line.calls ++ Receive (until_of first) ∷ []) ++ sends) ≡ x.line.calls ++ (Receive (until_of (next_moment x.clock)) ∷ sends)
  calls_are sends x asked =
      append_assoc x.line.calls (Receive (until_of first) ∷ []) sends
      ∙ ap (λ f. x.line.calls ++ (Receive (until_of f) ∷ sends)) asked.first_is

  abbrev front : Front
  front = front_of v.journal turn

  pub turned : EmittedAll front far.sent n.text entries l1.line l2.line k.written k1.written → TurnDone v turn far s t n.far (outside l c b k) (outside l2 c2 b1 k1)
  turned all = record {
    log = log_of;
    stands = acts_of.stands;
    sized = acts_of.sized;
    reached = far_is v turn far [] s t m n log_of is acts_of;
    leaves =
        leaves_map (chain all.sends (n.text ++ unsent_text front far.sent all.sends) (by_emit all.sends (n.text ++ unsent_text front far.sent all.sends) l1 l2 c2 b1 k k1 all.calls all.text))
        (λ x y f. record {
          events = events_of x f.0;
          sends = all.sends;
          sent = subst (λ (outs : List Sending). AreSends outs all.sends) outs_of all.sent;
          left = f.1.left;
          calls = f.1.calls ∙ calls_are all.sends x f.0;
          clock = f.1.clock;
          blocks = f.1.blocks;
          text =
              appends_as x.text y.text (n.text ++ unsent_text front far.sent all.sends) (events_text v.journal (secrets_of v) turn far log_of ++ unsent_text front far.sent all.sends)
              (ap (λ xs. xs ++ unsent_text front far.sent all.sends) (text_is v turn far [] s t m n log_of is acts_of)) f.1.text;
        });
  }

  pub broken : EmittedSome front far.sent n.text entries l1.line l2.line k.written k1.written → Leaves (Broken v turn far s) (outside l c b k) (outside l2 c2 b1 k1)
  broken some =
      leaves_map (chain some.sends some.part (by_emit some.sends some.part l1 l2 c2 b1 k k1 some.calls some.text))
      (λ x y f. record {
        log = log_of;
        left = t;
        events = events_of x f.0;
        stands = acts_of.stands;
        breaks = record {
          sends = some.sends;
          sent = subst (λ (outs : List Sending). AreFirstSends outs some.sends) outs_of some.sent;
          left = f.1.left;
          calls = f.1.calls ∙ ap (λ j. (x.line.calls ++ Receive (until_of j) ∷ []) ++ some.sends) f.0.first_is;
          clock = f.1.clock;
          blocks = f.1.blocks;
          part = some.part;
          text = f.1.text;
          is_part = subst (λ xs. IsPart front far.sent xs some.sends some.part) (text_is v turn far [] s t m n log_of is acts_of) some.is_part;
        };
      })

  pub turn_ends : (result : Served) → EmitEnds result front far.sent n.text entries l1.line l2.line k.written k1.written → TurnEnds result v turn far s t n.far (outside l c b k) (outside l2 c2 b1 k1)
  turn_ends Done all = turned all
  turn_ends Memory some = leaves_map (broken some) (λ x y h. inr (inr h))
  turn_ends SinkFault some = broken some
  turn_ends LinkFault none = absurd none
  turn_ends EntropyFault none = absurd none

-- the same, whether or not the link gave something
pub turn_ends_on : (result : Served) (v : Serving) (turn : ℕ) (far : Reached) (block : List ℕ) (first moment : ℕ) (given : Option Given) (s u t : State) (now entries : List Entry) (m o n : Noted)
    (l l1 l2 : LinkSeen) (c c1 c2 : Option Clock) (b b1 : EntropySeen) (k k1 : SinkSeen) → Succeeded (advance_call v.advance turn) turn s u [] now m o →
    Drew b.blocks b1.blocks block → Ticks c c1 first → Receives l.line l1.line (until_of first) given → Ticks c1 c2 moment →
    ActedOn v.send given moment (draws_of block) turn u t entries o n → m ≡ noted_first v far [] →
    EmitEnds result (front_of v.journal turn) far.sent n.text entries l1.line l2.line k.written k1.written → TurnEnds result v turn far s t n.far (outside l c b k) (outside l2 c2 b1 k1)
turn_ends_on result v turn far block first moment None s u t now entries m o n l l1 l2 c c1 c2 b b1 k k1 early drew ticks receives again acted is ends = absurd acted
turn_ends_on result v turn far block first moment (Some given) s u t now entries m o n l l1 l2 c c1 c2 b b1 k k1 early drew ticks receives again acted is ends =
    turn_ends v turn far block first moment given s u t now entries m o n l l1 l2 c c1 c2 b b1 k k1 early drew ticks receives again acted is result ends

abbrev failed_from : ℕ → Told → Told
failed_from first x = record {
  line = record { left = x.line.left; calls = x.line.calls ++ Receive (until_of first) ∷ [] };
  clock = after_moment x.clock;
  blocks = drop 1 x.blocks;
  text = x.text;
}

-- a turn whose receive failed
pub wait_failed : (block : List ℕ) (first : ℕ) (given : Option Given) (l l1 : LinkSeen) (c c1 : Option Clock) (b b1 : EntropySeen) (k : SinkSeen) → given ≡ None →
    Drew b.blocks b1.blocks block → Ticks c c1 first → Receives l.line l1.line (until_of first) given → Leaves (λ x y. y ≡ after_fault x) (outside l c b k) (outside l1 c1 b1 k)
wait_failed block first (Some given) l l1 c c1 b b1 k none drew ticks receives = absurd (cc (none))
wait_failed block first None l l1 c c1 b b1 k none drew ticks receives =
    by_leaves (λ x y. y ≡ after_fault x)
    (by_then (by_then (by_draw block l c b b1 k drew) (by_moment first l c c1 b1 k ticks)) (by_heard None (until_of first) l l1 c1 b1 k receives))
    (λ x f. ap (λ j. failed_from j x) f.0.1)

-- a turn that waited, and did nothing more
pub waited : (block : List ℕ) (first moment : ℕ) (given : Option Given) (l l1 : LinkSeen) (c c1 c2 : Option Clock) (b b1 : EntropySeen) (k : SinkSeen) → IsSome given →
    Drew b.blocks b1.blocks block → Ticks c c1 first → Receives l.line l1.line (until_of first) given → Ticks c1 c2 moment → Leaves (λ x y. y ≡ after_wait x) (outside l c b k) (outside l1 c2 b1 k)
waited block first moment None l l1 c c1 c2 b b1 k some drew ticks receives again = absurd (cc (some))
waited block first moment (Some given) l l1 c c1 c2 b b1 k some drew ticks receives again =
    by_leaves (λ x y. y ≡ after_wait x)
    (by_then (by_then (by_then (by_draw block l c b b1 k drew) (by_moment first l c c1 b1 k ticks)) (by_heard (Some given) (until_of first) l l1 c1 b1 k receives))
    (by_moment moment l1 c1 c2 b1 k again))
    (λ x f. ap (λ j. waited_from j x) f.0.0.1)

-- a turn that found no memory for its advance
pub unbegun : (v : Serving) (turn : ℕ) (far : Reached) (s : State) (o : Outside) → Advances v turn → Leaves (CutBy Memory v turn far s) o o
unbegun v turn far s o advances = by_leaves (CutBy Memory v turn far s) by_none (λ x h. inl (advances, refl))

-- a draw that failed
pub undrawn : (l : LinkSeen) (c : Option Clock) (b a : EntropySeen) (t : SinkSeen) → DrewSome 0 b.blocks a.blocks → Leaves (λ x y. y ≡ x) (outside l c b t) (outside l c a t)
undrawn l c b a t none = by_leaves (λ x y. y ≡ x) (by_drew 0 l c b a t none) (λ x f. refl)

-- ---- turn 0

module _ (v : Serving) (head : List ℕ) (moment : ℕ) (s u t : State) (heard out before learnt : List Entry) (m o n : Noted)
    (l l2 : LinkSeen) (c c1 : Option Clock) (b b1 : EntropySeen) (k k1 : SinkSeen)
    (ticks : Ticks c c1 moment) (early : Succeeded (learn_call v.next) 0 s u before learnt m o) (opens : OpensAll v.openings moment b.blocks b1.blocks u t learnt out o n)
    (empty : before ≡ []) (unheard : heard ≡ []) (is : m ≡ noted_first v at_first head) where
  abbrev zero_log : List Event
  zero_log = early.log ++ opens.log

  zero_acts : Acts 0 s t m n zero_log
  zero_acts = acts_then early.acts.acts opens.acts.acts

  zero_events : (x : Told) → moment ≡ next_moment x.clock → AreOpened v.openings moment x.blocks opens.log → AreZeroEvents v.next v.openings (next_moment x.clock) x.blocks zero_log
  zero_events x at opened = (early.log, opens.log, early.calls, subst (λ j. AreOpened v.openings j x.blocks opens.log) at opened, refl)

  zero_chain : (sends : List LinkCall) (text : List ℕ) → Leaves (Emitted sends text) (outside l c1 b1 k) (outside l2 c1 b1 k1) →
      Leaves (λ x y. (moment ≡ next_moment x.clock) × AreOpened v.openings moment x.blocks opens.log × Emitted sends text (after_draws (length v.openings) x) y) (outside l c b k) (outside l2 c1 b1 k1)
  zero_chain sends text last =
      leaves_map
      (by_after (by_then (by_moment moment l c c1 b k ticks) (by_opens v.openings moment opens.log l c1 b b1 k opens.opened)) last)
      (λ x y f. (f.0.0, f.0.1, f.1))

  zero_whole : heard ++ out ≡ entries_of zero_log
  zero_whole = ap (λ xs. xs ++ out) unheard ∙ (in_then early.acts opens.acts).entries ∙ ap (λ xs. xs ++ entries_of zero_log) empty

  abbrev front_zero : Front
  front_zero = front_of v.journal 0

  abbrev report_zero : List ℕ
  report_zero = head ++ events_text v.journal (secrets_of v) 0 at_first zero_log

  zero_done : EmittedAll front_zero 0 n.text (heard ++ out) l.line l2.line k.written k1.written → ZeroDone v head s t n.far (outside l c b k) (outside l2 c1 b1 k1)
  zero_done all = record {
    log = zero_log;
    stands = zero_acts.stands;
    sized = zero_acts.sized;
    reached = far_is v 0 at_first head s t m n zero_log is zero_acts;
    leaves =
        leaves_map (zero_chain all.sends (n.text ++ unsent_text front_zero 0 all.sends) (by_emit all.sends (n.text ++ unsent_text front_zero 0 all.sends) l l2 c1 b1 k k1 all.calls all.text))
        (λ x y f. record {
          events = zero_events x f.0 f.1;
          sends = all.sends;
          sent = subst (λ es. AreSends (outs_in es) all.sends) zero_whole all.sent;
          left = f.2.left;
          calls = f.2.calls;
          clock = f.2.clock;
          blocks = f.2.blocks;
          text =
              appends_as x.text y.text (n.text ++ unsent_text front_zero 0 all.sends) (report_zero ++ unsent_text front_zero 0 all.sends)
              (ap (λ xs. xs ++ unsent_text front_zero 0 all.sends) (text_is v 0 at_first head s t m n zero_log is zero_acts)) f.2.text;
        });
  }

  zero_broken : EmittedSome front_zero 0 n.text (heard ++ out) l.line l2.line k.written k1.written → Leaves (BrokenAtZero v head s) (outside l c b k) (outside l2 c1 b1 k1)
  zero_broken some =
      leaves_map (zero_chain some.sends some.part (by_emit some.sends some.part l l2 c1 b1 k k1 some.calls some.text))
      (λ x y f. record {
        log = zero_log;
        left = t;
        events = zero_events x f.0 f.1;
        stands = zero_acts.stands;
        breaks = record {
          sends = some.sends;
          sent = subst (λ es. AreFirstSends (outs_in es) some.sends) zero_whole some.sent;
          left = f.2.left;
          calls = f.2.calls;
          clock = f.2.clock;
          blocks = f.2.blocks;
          part = some.part;
          text = f.2.text;
          is_part = subst (λ xs. IsPart front_zero 0 xs some.sends some.part) (text_is v 0 at_first head s t m n zero_log is zero_acts) some.is_part;
        };
      })

  pub zero_ends : (result : Served) → EmitEnds result front_zero 0 n.text (heard ++ out) l.line l2.line k.written k1.written → ZeroEnds result v head s t n.far (outside l c b k) (outside l2 c1 b1 k1)
  zero_ends Done all = zero_done all
  zero_ends Memory some = leaves_map (zero_broken some) (λ x y h. inr (inr h))
  zero_ends SinkFault some = zero_broken some
  zero_ends LinkFault none = absurd none
  zero_ends EntropyFault none = absurd none

-- turn 0 isn't gone beyond its openings
zero_drawn : (moment drawn : ℕ) (l : LinkSeen) (c c1 : Option Clock) (b b1 : EntropySeen) (k : SinkSeen) → Ticks c c1 moment → DrewSome drawn b.blocks b1.blocks →
    Leaves (λ x y. y ≡ after_draws drawn x) (outside l c b k) (outside l c1 b1 k)
zero_drawn moment drawn l c c1 b b1 k ticks drew =
    by_leaves (λ x y. y ≡ after_draws drawn x) (by_then (by_moment moment l c c1 b k ticks) (by_drew drawn l c1 b b1 k drew)) (λ x f. refl)

-- turn 0 found no memory for its learn
pub unlearnt : (v : Serving) (head : List ℕ) (moment : ℕ) (s : State) (l : LinkSeen) (c c1 : Option Clock) (b : EntropySeen) (k : SinkSeen) → IsSome v.next → Ticks c c1 moment →
    Leaves (CutAtZero Memory v head s) (outside l c b k) (outside l c1 b k)
unlearnt v head moment s l c c1 b k some ticks = leaves_map (zero_drawn moment 0 l c c1 b b k ticks (drew_none b.blocks)) (λ x y h. inl (some, h))

pub zero_cut : (result : Served) (v : Serving) (head : List ℕ) (moment : ℕ) (later : Reached) (w s t u : State) (before out : List Entry) (m n : Noted) (l : LinkSeen) (c c1 : Option Clock) (b b1 : EntropySeen) (k : SinkSeen) → result ≢ Done →
    Ticks c c1 moment → OpensEnd result v.openings moment b.blocks b1.blocks s t before out m n → ZeroEnds result v head w u later (outside l c b k) (outside l c1 b1 k)
zero_cut Done v head moment later w s t u before out m n l c c1 b b1 k other ticks opens = absurd (other refl)
zero_cut Memory v head moment later w s t u before out m n l c c1 b b1 k other ticks opens =
    leaves_map (zero_drawn moment (opens.0 + 1) l c c1 b b1 k ticks opens.2) (λ x y h. inr (inl (opens.0, opens.1, h)))
zero_cut EntropyFault v head moment later w s t u before out m n l c c1 b b1 k other ticks opens =
    leaves_map (zero_drawn moment opens.0 l c c1 b b1 k ticks opens.2) (λ x y h. (opens.0, opens.1, h))
zero_cut LinkFault v head moment later w s t u before out m n l c c1 b b1 k other ticks opens = absurd opens
zero_cut SinkFault v head moment later w s t u before out m n l c c1 b b1 k other ticks opens = absurd opens

pub all_opened : (result : Served) (openings os : List OpeningWords) (moment : ℕ) (b a : Option (List (List ℕ))) (s t : State) (x y : List Entry) (m n : Noted) → result ≡ Done → openings ≡ os →
    OpensEnd result openings moment b a s t x y m n → OpensAll os moment b a s t x y m n
all_opened result openings os moment b a s t x y m n is same opens =
    subst (λ (k : List OpeningWords). OpensAll k moment b a s t x y m n) same (subst (λ (r : Served). OpensEnd r openings moment b a s t x y m n) is opens)

pub opens_as : (result : Served) (openings os : List OpeningWords) (moment : ℕ) (b a : Option (List (List ℕ))) (s t : State) (x y : List Entry) (m n : Noted) → openings ≡ os →
    OpensEnd result openings moment b a s t x y m n → OpensEnd result os moment b a s t x y m n
opens_as result openings os moment b a s t x y m n same opens = subst (λ (k : List OpeningWords). OpensEnd result k moment b a s t x y m n) same opens
