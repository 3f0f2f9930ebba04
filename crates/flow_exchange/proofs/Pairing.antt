-- The exchange of one sender and one receiver, event by event.
use Rattle.std.proofs.Common.{◌≡◌, ◌≢◌, ℕ, zero, suc, ◌<◌, ◌≤◌, nat_le, nat_lt, not, cond, map, take, Bool, true, false, ◌||◌, List, [], ◌∷◌, slice_get, Option, Some, None, refl, ap, sym, ◌∙◌, subst, arith, inl, inr, ◌⊎◌}
use Rattle.std.specs.List.{filter}
use Rattle.std.specs.Option.{option_map}
use Rattle.std.proofs.lemmas.Bool.{le-leb}
use Rattle.flow_recv.specs.declared.spans.Span.{Span}
use Rattle.rtmfp_data_chunks.specs.Fragments.{Message}
use Rattle.rtmfp_data_chunks.specs.Runs.{Chunk, Missing, number_of, is_missing, missing_of, Run, runs_of, is_whole, is_kept, has_number, message_of}
use Rattle.flow_recv.specs.Receiver.{FromZero, covers, knows, taken, end_of_first, may_hand, through_in, first_of, next_run}
use Rattle.flow_send.specs.declared.waiting.MessageOptions.{MessageOptions}
use Rattle.flow_send.specs.Sender.{Sender, next_of, waits, first_number, overdue}
use Rattle.flow_send.specs.Choice.{choice, chunk_for}
use Rattle.flow_send.specs.Acks.{told_by, greatest}
use Rattle.rtmfp_data_chunks.specs.HandsOver.{IsIn, HandsOver, HandsOnce}
use Rattle.flow_exchange.specs.Exchange.{Ack, InSpans, Acknowledges, World, start, Event, Queued, Abandoned, Finished, Sent, Taken, Told as Ack_sent, Heard, Handed, after, Fragment_of, Notice, End_of, MaySend, May, IsNext}
use Rattle.flow_exchange.specs.Sending.{queues, finishes, abandons, abandons_one, sends}
use Rattle.flow_recv.specs.Acking.{later_spans}
use Rattle.flow_exchange.specs.Pair.{Happening, Queues, Abandons, AbandonsFirst, AbandonsOverdue, Finishes, Loses, Sends, Takes, Hands, Acks, Hears, Pair, pair, sender_of, with_sender, refuses, takes, hands_next, span_pair, ack_by, hears, happens, exchanged}
use Rattle.flow_exchange.proofs.Handing.{InOrder, in_order_step, in_order_start, in_order_owes, Arriving, arriving_step, arriving_start}
use Rattle.flow_exchange.proofs.Dropping.{filter_among}
use Rattle.flow_exchange.proofs.Standing.{Proper, Stood, stands_taken}
use Rattle.flow_exchange.proofs.Handed.{first_in, stands_handed, hands_whole}
use Rattle.flow_exchange.proofs.Following.{next_follows, stood_first}
use Rattle.flow_exchange.proofs.Speaking.{Speaks, Goes, goes_on, begun_speaks, queues_speaks, finishes_speaks, abandoned_speaks, lost_speaks, sends_speaks, heard_speaks, speaks_true}

-- what the two orders have in common: whatever may come keeps it
abbrev pub Owed : Bool → World → Type 0
Owed false w = InOrder w
Owed true w = Arriving w

owed_step : (arriving : Bool) (w : World) (e : Event) → Owed arriving w → May arriving w e → Owed arriving (after w e)
owed_step false w e k may = in_order_step w e k may
owed_step true w e k may = arriving_step w e k may

-- each chunk sent has its forward number at most its number, and equal only with abandon
abbrev pub AllSentProper : World → Type 0
AllSentProper w = (c : Chunk) → IsIn c w.sent → (c.forward ≤ c.seq) × (c.abandon ≡ false → c.forward < c.seq)

pub record Linked (arriving : Bool) (p : Pair) : Type 0 where
  pub order : p.receiver.arriving ≡ arriving
  pub speaks : Speaks p.sender p.world
  pub stood : Stood p.receiver p.world.taken p.world.handed
  pub proper : Proper p.world.taken
  pub sent : AllSentProper p.world
  pub owed : Owed arriving p.world

told_proper : (w : World) (c : Chunk) → MaySend w c → (c.forward ≤ c.seq) × (c.abandon ≡ false → c.forward < c.seq)
told_proper w c m = elim m.tells [
  | Fragment_of a lt e ↦ (omega (arith, lt), λ x. lt)
  | Notice a e ↦ (omega (arith, e), λ x. absurd (cc (a, x)))
  | End_of a l lt e ↦ (omega (arith, lt), λ x. lt)
]

get_in : {X : Type 0} (xs : List X) (k : ℕ) (x : X) → slice_get xs k ≡ Some x → IsIn x xs
get_in [] k x e = absurd cc
get_in (y ∷ xs) zero x e = let f : y ≡ x = cc in inl (sym f)
get_in (y ∷ xs) (suc k) x e = inr (get_in xs k x e)

-- the sender's events
pub queues_linked : (arriving : Bool) (p : Pair) (bytes : List ℕ) (options : MessageOptions) (o : Option ℕ) → p.sender.finish ≡ o → Linked arriving p → Linked arriving (with_sender p (queues (sender_of p) bytes options o))
queues_linked arriving p bytes options (Some n) e l = l
queues_linked arriving p bytes options None e l =
    let m : Message = record { number = next_of p.sender; bytes = bytes } in
    let none = sym l.speaks.finish ∙ e in
    record {
      order = l.order;
      speaks = queues_speaks (sender_of p) bytes options None e l.speaks;
      stood = l.stood;
      proper = l.proper;
      sent = l.sent;
      owed = owed_step arriving p.world (Queued m) l.owed (none, l.speaks.awaits none);
    }

pub finishes_linked : (arriving : Bool) (p : Pair) (o : Option ℕ) → p.sender.finish ≡ o → Linked arriving p → Linked arriving (with_sender p (finishes (sender_of p) o))
finishes_linked arriving p (Some n) e l = l
finishes_linked arriving p None e l =
    let none = sym l.speaks.finish ∙ e in
    record {
      order = l.order;
      speaks = finishes_speaks (sender_of p) None e l.speaks;
      stood = l.stood;
      proper = l.proper;
      sent = l.sent;
      owed = owed_step arriving p.world (Finished (next_of p.sender)) l.owed (none, l.speaks.awaits none);
    }

abandons_linked : (arriving : Bool) (p : Pair) (n : ℕ) (t : Bool) → Linked arriving p → Linked arriving (with_sender p (abandons (sender_of p) n t))
abandons_linked arriving p n false l = l
abandons_linked arriving p n true l = record {
  order = l.order;
  speaks = abandoned_speaks p.sender p.world n l.speaks;
  stood = l.stood;
  proper = l.proper;
  sent = l.sent;
  owed = owed_step arriving p.world (Abandoned n) l.owed tt;
}

pub abandons_one_linked : (arriving : Bool) (p : Pair) (o : Option ℕ) → Linked arriving p → Linked arriving (with_sender p (abandons_one (sender_of p) o))
abandons_one_linked arriving p None l = l
abandons_one_linked arriving p (Some n) l = abandons_linked arriving p n (waits p.sender n) l

pub sends_linked : (arriving : Bool) (p : Pair) (moment resend : ℕ) (o : Option Chunk) → chunk_for p.sender (choice moment resend p.sender) ≡ o → Linked arriving p
    → Linked arriving (with_sender p (sends (sender_of p) moment (choice moment resend p.sender) o))
sends_linked arriving p moment resend None e l = l
sends_linked arriving p moment resend (Some c) e l =
    let may = speaks_true p.sender p.world l.speaks moment resend c e in
    record {
      order = l.order;
      speaks = sends_speaks (sender_of p) moment resend (Some c) l.speaks;
      stood = l.stood;
      proper = l.proper;
      sent = λ d h. elim h [ inl x ↦ (rw x (told_proper p.world c may)) | inr k ↦ l.sent d k ];
      owed = owed_step arriving p.world (Sent c) l.owed may;
    }

pub loses_linked : (arriving : Bool) (p : Pair) (moment resend : ℕ) → Linked arriving p → Linked arriving (happens p (Loses moment resend))
loses_linked arriving p moment resend l = record {
  order = l.order;
  speaks = lost_speaks p.sender p.world moment resend l.speaks;
  stood = l.stood;
  proper = l.proper;
  sent = l.sent;
  owed = l.owed;
}

-- a sender's part doesn't speak of what the receiver does
other_side : (s : Sender) (w : World) (v : World) → Speaks s w → v.first ≡ w.first → v.queued ≡ w.queued → v.abandoned ≡ w.abandoned → v.heard ≡ w.heard → v.finish ≡ w.finish → Goes w v
other_side s w v k a b c d e = record {
  first = a;
  fragments = λ n f x. ap (λ qs. Rattle.rtmfp_data_chunks.specs.Fragments.fragment_of qs n) b ∙ x;
  queued = λ m i. subst (λ (xs : List Message). IsIn m xs) (sym b) i;
  abandoned = λ n i. subst (λ (xs : List ℕ). IsIn n xs) (sym c) i;
  heard = λ x i. subst (λ (xs : List Ack). IsIn x xs) (sym d) i;
  finish = λ n x. e ∙ x;
}

-- a chunk comes
pub takes_if : (arriving : Bool) (p : Pair) (c : Chunk) (t : Bool) → IsIn c p.world.sent → Linked arriving p → Linked arriving (cond t p (record { sender = p.sender; receiver = taken p.receiver c; world = after p.world (Taken c) }))
takes_if arriving p c true i l = l
takes_if arriving p c false i l =
    let v = after p.world (Taken c) in
    let ok = l.sent c i in
    record {
      order = l.order;
      speaks = goes_on p.sender p.world v l.speaks (other_side p.sender p.world v l.speaks refl refl refl refl refl) l.speaks.laid refl refl;
      stood = stands_taken p.receiver c p.world.taken p.world.handed l.stood l.proper ok.1;
      proper = λ d h. elim h [ inl x ↦ (rw x ok.0) | inr k ↦ l.proper d k ];
      sent = l.sent;
      owed = owed_step arriving p.world (Taken c) l.owed i;
    }

takes_linked : (arriving : Bool) (p : Pair) (k : ℕ) (o : Option Chunk) → slice_get p.world.sent k ≡ o → Linked arriving p → Linked arriving (takes p o)
takes_linked arriving p k None e l = l
takes_linked arriving p k (Some c) e l = takes_if arriving p c (refuses p.receiver c) (get_in p.world.sent k c e) l

-- a message is handed over
in_filter_if : (test : Run → Bool) (y z : Run) (ys : List Run) (t : Bool) → test z ≡ t → (IsIn y ys → IsIn y (filter test ys)) → test y ≡ true → IsIn y (z ∷ ys) → IsIn y (cond t (z ∷ filter test ys) (filter test ys))
in_filter_if test y z ys true e ih k (inl f) = inl f
in_filter_if test y z ys true e ih k (inr h) = inr (ih h)
in_filter_if test y z ys false e ih k (inl f) = absurd (let x : false ≡ true = sym e ∙ (ap test (sym f) ∙ k) in cc)
in_filter_if test y z ys false e ih k (inr h) = ih h

in_filter : (test : Run → Bool) (y : Run) (ys : List Run) → test y ≡ true → IsIn y ys → IsIn y (filter test ys)
in_filter test y [] k h = h
in_filter test y (z ∷ ys) k h = in_filter_if test y z ys (test z) refl (in_filter test y ys k) k h

in_map : (y : Run) (ys : List Run) → IsIn y ys → IsIn (message_of y) (map message_of ys)
in_map y [] h = h
in_map y (z ∷ ys) (inl e) = inl (ap message_of e)
in_map y (z ∷ ys) (inr h) = inr (in_map y ys h)

kept_not : (d h : Bool) → cond d false (not h) ≡ true → h ≡ false
kept_not true h e = absurd cc
kept_not false true e = absurd cc
kept_not false false e = refl

kept_of_if : (keep : Run → Bool) (y z : Run) (ys : List Run) (t : Bool) → keep z ≡ t → (IsIn y (filter keep ys) → keep y ≡ true) → IsIn y (cond t (z ∷ filter keep ys) (filter keep ys)) → keep y ≡ true
kept_of_if keep y z ys true e ih (inl f) = ap keep f ∙ e
kept_of_if keep y z ys true e ih (inr k) = ih k
kept_of_if keep y z ys false e ih k = ih k

kept_of : (keep : Run → Bool) (y : Run) (ys : List Run) → IsIn y (filter keep ys) → keep y ≡ true
kept_of keep y [] h = absurd h
kept_of keep y (z ∷ ys) h = kept_of_if keep y z ys (keep z) refl (kept_of keep y ys) h

next_allowed : (arriving : Bool) (p : Pair) (y : Run) → next_run p.receiver ≡ Some y → Linked arriving p → IsNext arriving p.world (message_of y)
next_allowed false p y e l =
    let o : InOrder p.world = l.owed in
    sym (next_follows p.receiver p.world.taken p.world.handed o.1.0 l.order l.stood l.proper o.1.1) ∙ ap (option_map message_of) e
next_allowed true p y e l =
    let r = p.receiver in
    let keep = is_kept p.world.taken p.world.handed in
    let all = runs_of p.world.taken in
    let f : first_of (may_hand r) (filter keep all) ≡ Some y = ap (first_of (may_hand r)) (sym l.stood.stands.runs) ∙ e in
    let i = first_in (may_hand r) y (filter keep all) f in
    let whole = hands_whole r.arriving (through_in r) y i.1 in
    let kept = kept_of keep y all i.0 in (
      in_map y (filter is_whole all) (in_filter is_whole y all whole (filter_among keep y all i.0)),
      kept_not (Rattle.rtmfp_data_chunks.specs.Runs.is_dead (missing_of p.world.taken) y) (has_number y.first p.world.handed) kept,
    )

pub hands_linked : (arriving : Bool) (p : Pair) (o : Option Run) → next_run p.receiver ≡ o → Linked arriving p → Linked arriving (hands_next p o)
hands_linked arriving p None e l = l
hands_linked arriving p (Some y) e l =
    let v = after p.world (Handed (message_of y)) in
    record {
      order = l.order;
      speaks = goes_on p.sender p.world v l.speaks (other_side p.sender p.world v l.speaks refl refl refl refl refl) l.speaks.laid refl refl;
      stood = stands_handed p.receiver p.world.taken p.world.handed y l.stood e;
      proper = l.proper;
      sent = l.sent;
      owed = owed_step arriving p.world (Handed (message_of y)) l.owed (next_allowed arriving p y e l);
    }

-- an ack tells what is known
known_first : (s : Span) (later : List Span) (n : ℕ) → s.first ≡ 0 → n ≤ s.last → knows (s ∷ later) n ≡ true
known_first s later n z le =
    let a : nat_le s.first n ≡ true = le-leb s.first n (omega (arith, z)) in
    let b : nat_le n s.last ≡ true = le-leb n s.last le in
    (rw (a, b) refl)

or_true : (a b : Bool) → b ≡ true → (a || b) ≡ true
or_true true b e = refl
or_true false b e = e

known_range : (spans : List Span) (k n : ℕ) → InSpans n (map span_pair (take k spans)) → knows spans n ≡ true
known_range spans zero n h = absurd h
known_range [] (suc k) n h = absurd h
known_range (s ∷ spans) (suc k) n (inl e) =
    let a : nat_le s.first n ≡ true = le-leb s.first n e.0 in
    let b : nat_le n s.last ≡ true = le-leb n s.last e.1 in
    (rw (a, b) refl)
known_range (s ∷ spans) (suc k) n (inr h) = or_true (covers n s) (knows spans n) (known_range spans k n h)

known_told : (spans : List Span) (k n : ℕ) → FromZero spans → (n ≤ end_of_first spans) ⊎ InSpans n (map span_pair (take k (later_spans spans))) → knows spans n ≡ true
known_told [] k n z h = absurd z
known_told (s ∷ later) k n z (inl le) = known_first s later n z le
known_told (s ∷ later) k n z (inr h) = or_true (covers n s) (knows later n) (known_range later k n h)

pub acks_linked : (arriving : Bool) (p : Pair) (pairs : ℕ) → Linked arriving p → Linked arriving (happens p (Acks pairs))
acks_linked arriving p pairs l =
    let a = ack_by p.receiver pairs in
    let v = after p.world (Ack_sent a) in
    let s = l.stood.stands in
    let may : (n : ℕ) → Acknowledges a n → number_of p.world.taken n ≢ Missing = λ n t miss.
    let known = known_told p.receiver.spans pairs n s.from_zero t in
    let x : true ≡ false = sym (ap is_missing miss) ∙ (sym (s.spans n) ∙ ap not known) in cc in
    record {
      order = l.order;
      speaks = goes_on p.sender p.world v l.speaks (other_side p.sender p.world v l.speaks refl refl refl refl refl) l.speaks.laid refl refl;
      stood = l.stood;
      proper = l.proper;
      sent = l.sent;
      owed = owed_step arriving p.world (Ack_sent a) l.owed may;
    }

pub hears_if : (arriving : Bool) (p : Pair) (blocks : ℕ) (a : Ack) (t : Bool) → IsIn a p.world.told → Linked arriving p
    → Linked arriving (cond t p (record { sender = told_by (record { blocks = blocks; upto = a.upto; spans = a.spans }) p.sender; receiver = p.receiver; world = after p.world (Heard a) }))
hears_if arriving p blocks a true i l = l
hears_if arriving p blocks a false i l = record {
  order = l.order;
  speaks = heard_speaks p.sender p.world (record { blocks = blocks; upto = a.upto; spans = a.spans }) l.speaks;
  stood = l.stood;
  proper = l.proper;
  sent = l.sent;
  owed = owed_step arriving p.world (Heard a) l.owed i;
}

hears_linked : (arriving : Bool) (p : Pair) (k blocks : ℕ) (o : Option Ack) → slice_get p.world.told k ≡ o → Linked arriving p → Linked arriving (hears p blocks o)
hears_linked arriving p k blocks None e l = l
hears_linked arriving p k blocks (Some a) e l = hears_if arriving p blocks a (nat_lt p.sender.sent (greatest a.upto a.spans)) (get_in p.world.told k a e) l

linked_step : (arriving : Bool) (p : Pair) (e : Happening) → Linked arriving p → Linked arriving (happens p e)
linked_step arriving p (Queues bytes options) l = queues_linked arriving p bytes options p.sender.finish refl l
linked_step arriving p (Abandons n) l = abandons_one_linked arriving p (Some n) l
linked_step arriving p AbandonsFirst l = abandons_one_linked arriving p (first_number p.sender.waiting) l
linked_step arriving p (AbandonsOverdue moment) l = abandons_one_linked arriving p (overdue moment p.sender) l
linked_step arriving p Finishes l = finishes_linked arriving p p.sender.finish refl l
linked_step arriving p (Loses moment resend) l = loses_linked arriving p moment resend l
linked_step arriving p (Sends moment resend) l = sends_linked arriving p moment resend (chunk_for p.sender (choice moment resend p.sender)) refl l
linked_step arriving p (Takes which) l = takes_linked arriving p which (slice_get p.world.sent which) refl l
linked_step arriving p Hands l = hands_linked arriving p (next_run p.receiver) refl l
linked_step arriving p (Acks pairs) l = acks_linked arriving p pairs l
linked_step arriving p (Hears which blocks) l = hears_linked arriving p which blocks (slice_get p.world.told which) refl l

linked_run : (arriving : Bool) (p : Pair) (es : List Happening) → Linked arriving p → Linked arriving (exchanged p es)
linked_run arriving p [] l = l
linked_run arriving p (e ∷ es) l = linked_run arriving (happens p e) es (linked_step arriving p e l)

owed_start : (arriving : Bool) (first : ℕ) → 1 ≤ first → Owed arriving (start first)
owed_start false first one = in_order_start first one
owed_start true first one = arriving_start first one

pub linked_start : (arriving : Bool) (first : ℕ) → 1 ≤ first → Linked arriving (pair first arriving)
linked_start arriving first one = record {
  order = refl;
  speaks = begun_speaks first one;
  stood = stood_first arriving;
  proper = λ c h. absurd h;
  sent = λ c h. absurd h;
  owed = owed_start arriving first one;
}

pub exchanged_in_order : (first : ℕ) (es : List Happening) → 1 ≤ first → let w : World = (exchanged (pair first false) es).world in HandsOver w.queued w.abandoned w.handed
exchanged_in_order first es one = in_order_owes (exchanged (pair first false) es).world (linked_run false (pair first false) es (linked_start false first one)).owed

pub exchanged_arriving : (first : ℕ) (es : List Happening) → 1 ≤ first → let w : World = (exchanged (pair first true) es).world in HandsOnce w.queued w.handed
exchanged_arriving first es one =
    let k : Arriving (exchanged (pair first true) es).world = (linked_run true (pair first true) es (linked_start true first one)).owed in
    record { differ = k.differ; were_queued = k.handed }
