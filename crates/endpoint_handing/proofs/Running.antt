-- Deeds of one session's flows, as deeds of a history of many ends: in the context in which the
-- session sends.
use Rattle.std.proofs.Common.{◌≡◌, ℕ, ◌==◌, ◌&&◌, cond, List, [], ◌∷◌, ◌++◌, map, Bool, true, false}
use Rattle.std.proofs.Common.{Option, Some, None, inl, inr, refl, sym, ap, subst, ◌∙◌}
use Rattle.rtmfp_data_chunks.specs.Fragments.{Message}
use Rattle.rtmfp_data_chunks.specs.Runs.{Chunk, Run}
use Rattle.rtmfp_data_chunks.specs.HandsOver.{IsIn}
use Rattle.flow_recv.specs.Receiver.{Receiver, next_run}
use Rattle.flow_send.specs.Sender.{Sender, new_sender, waits}
use Rattle.flow_send.specs.Choice.{choice}
use Rattle.flow_send.specs.Acks.{Told}
use Rattle.flow_exchange.specs.Sending.{Act, Queues, Abandons, AbandonsFirst, AbandonsOverdue}
use Rattle.flow_exchange.specs.Sending.{Finishes}
use Rattle.flow_exchange.specs.Sending.{Loses, Sends, Hears, queues, finishes, abandons}
use Rattle.flow_exchange.specs.Sending.{abandons_one, sends}
use Rattle.flow_history.specs.Flow.{Opened, Carried, BySender, ByReceiver, Beside, Touch, alone}
use Rattle.flow_history.specs.Flow.{Opens as OpensStep, Acts, Makes as MakesStep}
use Rattle.flow_history.specs.Flow.{Takes as TakesStep}
use Rattle.flow_history.specs.Flow.{Hands as HandsStep, Acks as AcksStep}
use Rattle.flow_history.specs.Flow.{sending_after, sending_at, taking_after, taking_at}
use Rattle.flow_history.specs.Said.{WasGiven, WasTold, IsGiven, IsTold, Gives, Tells}
use Rattle.flow_history.specs.Run.{OpensAs, queued_act, abandoned_act, message_in, handed_next_by}
use Rattle.flow_history.specs.Deeds.{Context, back, same, Name, name, same_name, Piece, Data, Ack, Part}
use Rattle.flow_history.specs.Deeds.{Deed as Done_in, OpensFlow, ActsOn as ActsOn_flow, MakesFlow}
use Rattle.flow_history.specs.Deeds.{TakesFrom}
use Rattle.flow_history.specs.Deeds.{HandsOn, AcksOn, done, History, by_name, touch_of, steps_of}
use Rattle.flow_history.specs.Lawful.{HasBegun, CameIn, MayActOn, MayDo, IsLawful, IsHonestDeed}
use Rattle.flow_history.specs.Lawful.{IsHonest, WasSplit, WasSplitBy, HasPart}
use Rattle.flow_history.proofs.Splitting.{IsNoSplit, split_before, split_by_before}
use Rattle.flow_history.specs.Log.{Entry as Tell, Queued, Abandoned, Handed, log_of, HasOrder}
use Rattle.flow_history.specs.Keeping.{Flows}
use Rattle.flow_history.proofs.Names.{same_self, name_is, number_self}
use Rattle.session_flows.specs.Keeping.{FlowsState, Stated, Opened as OpenedOf, Queued as QueuedOf}
use Rattle.session_flows.specs.Keeping.{Abandoned as AbandonedOf, Finished as FinishedOf}
use Rattle.session_flows.specs.Keeping.{Handed as HandedOf}
use Rattle.session_deeds.specs.Deeds.{Deed, Opens, ActsOn, Makes, Takes, Hands, Acks, opened_by}
use Rattle.session_deeds.specs.Deeds.{acted_by, made_by, taken_by, handed_by, did, did_all}
use Rattle.session_deeds.specs.Deeds.{as_queued, as_handed}
use Rattle.session_deeds.specs.Deeds.{told, told_all, MayAct, May, MayAll}
use Rattle.session_deeds.specs.Goes.{of_messages, Says, IsSaid}
use Rattle.endpoint_handing.proofs.Kept.{FlowsKept, Grows, grows_not, grows_then}
use Rattle.endpoint_handing.proofs.Deeding.{grows_by, sends_now, takes_now, Leaves_be, kept_by}
use Rattle.endpoint_handing.proofs.Deeding.{not_same, backs_apart}

-- ---- a deed in a context

-- flows are opened and acted on in the context in which the session sends, and made in the one back
abbrev pub in_context : Context → Deed → Done_in
in_context c (Opens flow arriving) = OpensFlow (name c flow) arriving
in_context c (ActsOn flow act) = ActsOn_flow (name c flow) act
in_context c (Makes flow arriving) = MakesFlow (name (back c) flow) arriving
in_context c (Takes flow chunk) = TakesFrom (name (back c) flow) chunk
in_context c (Hands flow) = HandsOn (name (back c) flow)
in_context c (Acks flow pairs) = AcksOn (name (back c) flow) pairs

-- ---- which flow it touches

named : (b s : Bool) (t : Touch) → s ≡ true → cond (b && s) t Beside ≡ cond b t Beside
named true true t e = refl
named true false t e = absurd cc
named false s t e = refl

unnamed : (b s : Bool) (t : Touch) → s ≡ false → cond (b && s) t Beside ≡ Beside
unnamed true true t e = absurd cc
unnamed true false t e = refl
unnamed false s t e = refl

-- in the context of the session
abbrev here : (f g : ℕ) (c : Context) (t : Touch) → by_name (name c f) (name c g) t ≡ cond (f == g) t Beside
here f g c t = named (f == g) (same c c) t (same_self c)

abbrev elsewhere : (f g : ℕ) (c d : Context) (t : Touch) → (c ≡ d → ⊥) → by_name (name c f) (name d g) t ≡ Beside
elsewhere f g c d t ne = unnamed (f == g) (same c d) t (not_same c d ne)

-- ---- what it leaves, of the flow that it touches and of the others

sends_if : (b : Bool) (t : Touch) (k : Option Opened) (change : Option Opened → Option Opened) → sending_after (Some k) t ≡ Some (change k) → sending_after (Some k) (cond b t Beside) ≡ Some (cond b (change k) k)
sends_if true t k change e = e
sends_if false t k change e = refl

takes_if : (b : Bool) (t : Touch) (k : Option Receiver) (change : Option Receiver → Option Receiver) → taking_after (Some k) t ≡ Some (change k) → taking_after (Some k) (cond b t Beside) ≡ Some (cond b (change k) k)
takes_if true t k change e = e
takes_if false t k change e = refl

-- whatever flow it is, the other side stays
sends_past : (b : Bool) (t : _) (k : Option (Option Opened)) → sending_after k (cond b (ByReceiver t) Beside) ≡ k
sends_past true t k = refl
sends_past false t k = refl

takes_past : (b : Bool) (t : _) (k : Option (Option Receiver)) → taking_after k (cond b (BySender t) Beside) ≡ k
takes_past true t k = refl
takes_past false t k = refl

opens_it : (k : Option Opened) (b : Bool) → sending_after (Some k) (BySender (OpensStep b)) ≡ Some (opened_by b k)
opens_it None b = refl
opens_it (Some x) b = refl

acts_it : (k : Option Opened) (act : Act) → sending_after (Some k) (BySender (Acts act)) ≡ Some (acted_by act k)
acts_it None act = refl
acts_it (Some x) act = refl

makes_it : (k : Option Receiver) (b : Bool) → taking_after (Some k) (ByReceiver (MakesStep b)) ≡ Some (made_by b k)
makes_it None b = refl
makes_it (Some r) b = refl

takes_it : (k : Option Receiver) (chunk : Chunk) → taking_after (Some k) (ByReceiver (TakesStep chunk)) ≡ Some (taken_by chunk k)
takes_it None chunk = refl
takes_it (Some r) chunk = refl

hands_it : (k : Option Receiver) → taking_after (Some k) (ByReceiver HandsStep) ≡ Some (handed_by k)
hands_it None = refl
hands_it (Some r) = refl

acks_it : (b : Bool) (k : Option (Option Receiver)) (pairs : ℕ) → taking_after k (cond b (ByReceiver (AcksStep pairs)) Beside) ≡ k
acks_it true k pairs = refl
acks_it false k pairs = refl

sends_after : (c : Context) (d : Deed) (fl : Flows) (g : ℕ) → sending_after (Some (fl.opened g)) (touch_of (name c g) (in_context c d)) ≡ Some ((did fl d).opened g)
sends_after c (Opens f a) fl g = ap (sending_after (Some (fl.opened g))) (here f g c (BySender (OpensStep a))) ∙ sends_if (f == g) (BySender (OpensStep a)) (fl.opened g) (opened_by a) (opens_it (fl.opened g) a)
sends_after c (ActsOn f act) fl g = ap (sending_after (Some (fl.opened g))) (here f g c (BySender (Acts act))) ∙ sends_if (f == g) (BySender (Acts act)) (fl.opened g) (acted_by act) (acts_it (fl.opened g) act)
sends_after c (Makes f a) fl g = sends_past (same_name (name (back c) f) (name c g)) (MakesStep a) (Some (fl.opened g))
sends_after c (Takes f x) fl g = sends_past (same_name (name (back c) f) (name c g)) (TakesStep x) (Some (fl.opened g))
sends_after c (Hands f) fl g = sends_past (same_name (name (back c) f) (name c g)) HandsStep (Some (fl.opened g))
sends_after c (Acks f pairs) fl g = sends_past (same_name (name (back c) f) (name c g)) (AcksStep pairs) (Some (fl.opened g))

takes_after : (c : Context) (d : Deed) (fl : Flows) (g : ℕ) → taking_after (Some (fl.made g)) (touch_of (name (back c) g) (in_context c d)) ≡ Some ((did fl d).made g)
takes_after c (Opens f a) fl g = takes_past (same_name (name c f) (name (back c) g)) (OpensStep a) (Some (fl.made g))
takes_after c (ActsOn f act) fl g = takes_past (same_name (name c f) (name (back c) g)) (Acts act) (Some (fl.made g))
takes_after c (Makes f a) fl g = ap (taking_after (Some (fl.made g))) (here f g (back c) (ByReceiver (MakesStep a))) ∙ takes_if (f == g) (ByReceiver (MakesStep a)) (fl.made g) (made_by a) (makes_it (fl.made g) a)
takes_after c (Takes f x) fl g = ap (taking_after (Some (fl.made g))) (here f g (back c) (ByReceiver (TakesStep x))) ∙ takes_if (f == g) (ByReceiver (TakesStep x)) (fl.made g) (taken_by x) (takes_it (fl.made g) x)
takes_after c (Hands f) fl g = ap (taking_after (Some (fl.made g))) (here f g (back c) (ByReceiver HandsStep)) ∙ takes_if (f == g) (ByReceiver HandsStep) (fl.made g) handed_by (hands_it (fl.made g))
takes_after c (Acks f pairs) fl g = acks_it (same_name (name (back c) f) (name (back c) g)) (Some (fl.made g)) pairs

-- flows of other contexts stay
sends_beside : (c d : Context) (x : Deed) (g : ℕ) (k : Option (Option Opened)) → (c ≡ d → ⊥) → sending_after k (touch_of (name d g) (in_context c x)) ≡ k
sends_beside c d (Opens f a) g k ne = ap (sending_after k) (elsewhere f g c d (BySender (OpensStep a)) ne)
sends_beside c d (ActsOn f act) g k ne = ap (sending_after k) (elsewhere f g c d (BySender (Acts act)) ne)
sends_beside c d (Makes f a) g k ne = sends_past (same_name (name (back c) f) (name d g)) (MakesStep a) k
sends_beside c d (Takes f x) g k ne = sends_past (same_name (name (back c) f) (name d g)) (TakesStep x) k
sends_beside c d (Hands f) g k ne = sends_past (same_name (name (back c) f) (name d g)) HandsStep k
sends_beside c d (Acks f pairs) g k ne = sends_past (same_name (name (back c) f) (name d g)) (AcksStep pairs) k

takes_beside : (c d : Context) (x : Deed) (g : ℕ) (k : Option (Option Receiver)) → (c ≡ d → ⊥) → taking_after k (touch_of (name (back d) g) (in_context c x)) ≡ k
takes_beside c d (Opens f a) g k ne = takes_past (same_name (name c f) (name (back d) g)) (OpensStep a) k
takes_beside c d (ActsOn f act) g k ne = takes_past (same_name (name c f) (name (back d) g)) (Acts act) k
takes_beside c d (Makes f a) g k ne = ap (taking_after k) (elsewhere f g (back c) (back d) (ByReceiver (MakesStep a)) (backs_apart c d ne))
takes_beside c d (Takes f x) g k ne = ap (taking_after k) (elsewhere f g (back c) (back d) (ByReceiver (TakesStep x)) (backs_apart c d ne))
takes_beside c d (Hands f) g k ne = ap (taking_after k) (elsewhere f g (back c) (back d) (ByReceiver HandsStep) (backs_apart c d ne))
takes_beside c d (Acks f pairs) g k ne = acks_it (same_name (name (back c) f) (name (back d) g)) k pairs

pub deed_leaves_be : (c d : Context) (x : Deed) → (c ≡ d → ⊥) → Leaves_be (in_context c x) d
deed_leaves_be c d x ne = record { sends = λ g k. sends_beside c d x g k ne; takes = λ g k. takes_beside c d x g k ne }

-- ---- the flows of a session, beside a history

pub record AreKept (who : ℕ) (c : Context) (fl : Flows) (h : History) : Type 0 where
  pub sends : (f : ℕ) → sending_at (steps_of (name c f) h) who ≡ Some (fl.opened f)
  pub takes : (f : ℕ) → taking_at (steps_of (name (back c) f) h) who ≡ Some (fl.made f)

pub kept_after : (who : ℕ) (c : Context) (fl : Flows) (d : Deed) (h : History) → AreKept who c fl h → AreKept who c (did fl d) (done who (in_context c d) ∷ h)
kept_after who c fl d h k = record {
  sends = λ f. sends_now who (in_context c d) h (name c f) ∙ ap (λ x. sending_after x (touch_of (name c f) (in_context c d))) (k.sends f) ∙ sends_after c d fl f;
  takes = λ f. takes_now who (in_context c d) h (name (back c) f) ∙ ap (λ x. taking_after x (touch_of (name (back c) f) (in_context c d))) (k.takes f) ∙ takes_after c d fl f;
}

-- ---- it may be done

-- these pieces came
abbrev pub HaveCome : ℕ → Context → List Piece → History → Type 0
HaveCome who c came h = (p : Piece) → IsIn p came → CameIn who (back c) p h

may_act : (who : ℕ) (c : Context) (came : List Piece) (f : ℕ) (act : Act) (h : History) → HaveCome who c came h → MayAct came f act → MayActOn h who (name c f) act
may_act who c came f (Hears a) h all may = all (Ack f a) may
may_act who c came f (Queues bytes options) h all may = tt
may_act who c came f (Abandons n) h all may = tt
may_act who c came f AbandonsFirst h all may = tt
may_act who c came f (AbandonsOverdue moment) h all may = tt
may_act who c came f Finishes h all may = tt
may_act who c came f (Loses moment resend) h all may = tt
may_act who c came f (Sends moment resend) h all may = tt

some : {X : Type 0} {a b : X} → a ≡ b → Some a ≡ Some b
some e = ap (λ x. Some x) e

pub may_do : (who : ℕ) (c : Context) (came : List Piece) (fl : Flows) (d : Deed) (h : History) → AreKept who c fl h → HaveCome who c came h → May came fl d → MayDo h who (in_context c d)
may_do who c came fl (Opens f a) h k all may = k.sends f ∙ some may
may_do who c came fl (ActsOn f act) h k all may = ((may.0.0, k.sends f ∙ some may.0.1), may_act who c came f act h all may.1)
may_do who c came fl (Makes f a) h k all may = (k.takes f ∙ some may.0, may.1, all _ may.2)
may_do who c came fl (Takes f x) h k all may = ((may.0.0, k.takes f ∙ some may.0.1), may.1, all _ may.2)
may_do who c came fl (Hands f) h k all may = (may.0, may.1, k.takes f ∙ some may.2, may.3)
may_do who c came fl (Acks f pairs) h k all may = (may.0, k.takes f ∙ some may.1)

honest_deed : (c : Context) (d : Deed) (h : History) → IsHonestDeed h (in_context c d)
honest_deed c (Opens f a) h = tt
honest_deed c (ActsOn f act) h = tt
honest_deed c (Makes f a) h = tt
honest_deed c (Takes f x) h = tt
honest_deed c (Hands f) h = tt
honest_deed c (Acks f pairs) h = tt

begins_none : (who : ℕ) (c : Context) (d : Deed) (h : History) (at : Context) → HasBegun at (done who (in_context c d) ∷ h) → HasBegun at h
begins_none who c (Opens f a) h at (inl is) = absurd is
begins_none who c (ActsOn f act) h at (inl is) = absurd is
begins_none who c (Makes f a) h at (inl is) = absurd is
begins_none who c (Takes f x) h at (inl is) = absurd is
begins_none who c (Hands f) h at (inl is) = absurd is
begins_none who c (Acks f pairs) h at (inl is) = absurd is
begins_none who c d h at (inr was) = was

-- nor does it split a packet
splits_none : (c : Context) (d : Deed) → IsNoSplit (in_context c d)
splits_none c (Opens f a) = tt
splits_none c (ActsOn f act) = tt
splits_none c (Makes f a) = tt
splits_none c (Takes f x) = tt
splits_none c (Hands f) = tt
splits_none c (Acks f pairs) = tt

-- ---- what it says

abbrev pub Said : ℕ → Context → History → Piece → Type 0
Said who c h (Data f x) = WasGiven (steps_of (name c f) h) x
Said who c h (Ack f a) = WasTold (steps_of (name (back c) f) h) a
Said who c h (Part id x) = HasPart c id x h

pub said_later : (who : ℕ) (c : Context) (h after : History) (p : Piece) → Grows who h after → Said who c h p → Said who c after p
said_later who c h after (Data f x) grows was = grows.given (name c f) x was
said_later who c h after (Ack f a) grows was = grows.told (name (back c) f) a was
said_later who c h after (Part id x) grows was = (was.0, was.1, grows.split c id was.0 was.1 was.2, was.3)

gives_here : (f : ℕ) (c : Context) (act : Act) (k : Option (Option Opened)) (x : Carried) → IsGiven k act x → Gives k (touch_of (name c f) (ActsOn_flow (name c f) act)) x
gives_here f c act k x given = subst (λ (t : Touch). Gives k t x) (sym (here f f c (BySender (Acts act)) ∙ ap (λ (b : Bool). cond b (BySender (Acts act)) Beside) (number_self f))) given

tells_here : (f : ℕ) (c : Context) (pairs : ℕ) (k : Option (Option Receiver)) (a : Told) → IsTold k pairs a → Tells k (touch_of (name c f) (AcksOn (name c f) pairs)) a
tells_here f c pairs k a is = subst (λ (t : Touch). Tells k t a) (sym (here f f c (ByReceiver (AcksStep pairs)) ∙ ap (λ (b : Bool). cond b (ByReceiver (AcksStep pairs)) Beside) (number_self f))) is

pub says_now : (who : ℕ) (c : Context) (fl : Flows) (d : Deed) (h : History) (p : Piece) → AreKept who c fl h → Says fl d p → Said who c (done who (in_context c d) ∷ h) p
says_now who c fl (ActsOn flow act) h (Data f x) k says =
    let D : Done_in = in_context c (ActsOn flow act) in
    inl (subst (λ (g : ℕ). Gives (sending_at (steps_of (name c g) h) who) (touch_of (name c g) D) x) (sym says.0)
    (gives_here flow c act (sending_at (steps_of (name c flow) h) who) x (subst (λ o. IsGiven o act x) (sym (k.sends flow)) says.1)))
says_now who c fl (Acks flow pairs) h (Ack f a) k says =
    let D : Done_in = in_context c (Acks flow pairs) in
    inl (subst (λ (g : ℕ). Tells (taking_at (steps_of (name (back c) g) h) who) (touch_of (name (back c) g) D) a) (sym says.0)
    (tells_here flow (back c) pairs (taking_at (steps_of (name (back c) flow) h) who) a (subst (λ o. IsTold o pairs a) (sym (k.takes flow)) says.1)))
says_now who c fl d h p k says = absurd says

-- ---- what it states

abbrev pub tell_of : Context → Stated → List Tell
tell_of c (OpenedOf flow) = []
tell_of c (QueuedOf flow seq message) = Queued (name c flow) (record { number = seq; bytes = message }) ∷ []
tell_of c (AbandonedOf flow seq) = Abandoned (name c flow) seq ∷ []
tell_of c (FinishedOf flow seq) = []
tell_of c (HandedOf flow seq message) = Handed (name (back c) flow) (record { number = seq; bytes = message }) ∷ []

-- one after another, the newest first
abbrev pub told_on : Context → List Stated → List Tell → List Tell
told_on c [] before = before
told_on c (x ∷ rest) before = told_on c rest (tell_of c x ++ before)

told_on_joined : (c : Context) (xs ys : List Stated) (before : List Tell) → told_on c (xs ++ ys) before ≡ told_on c ys (told_on c xs before)
told_on_joined c [] ys before = refl
told_on_joined c (x ∷ xs) ys before = told_on_joined c xs ys (tell_of c x ++ before)

pub messages_told : (c : Context) (stated : List Stated) (before : List Tell) → told_on c (of_messages stated) before ≡ told_on c stated before
messages_told c [] before = refl
messages_told c (OpenedOf flow ∷ rest) before = messages_told c rest before
messages_told c (QueuedOf flow seq message ∷ rest) before = messages_told c rest (tell_of c (QueuedOf flow seq message) ++ before)
messages_told c (AbandonedOf flow seq ∷ rest) before = messages_told c rest (tell_of c (AbandonedOf flow seq) ++ before)
messages_told c (FinishedOf flow seq ∷ rest) before = messages_told c rest before
messages_told c (HandedOf flow seq message ∷ rest) before = messages_told c rest (tell_of c (HandedOf flow seq message) ++ before)

-- one act queues one message, or abandons one, or neither
data AtMostOne (queued : List Message) (abandoned : List ℕ) : Type 0 where
  Neither : queued ≡ [] → abandoned ≡ [] → AtMostOne queued abandoned
  OneQueued : (m : Message) → queued ≡ m ∷ [] → abandoned ≡ [] → AtMostOne queued abandoned
  OneAbandoned : (n : ℕ) → queued ≡ [] → abandoned ≡ n ∷ [] → AtMostOne queued abandoned

abandons_one_or_none : (s : Sender) (n : ℕ) (b : Bool) → AtMostOne (abandons (alone s) n b).world.queued (abandons (alone s) n b).world.abandoned
abandons_one_or_none s n true = OneAbandoned n refl refl
abandons_one_or_none s n false = Neither refl refl

abandons_if : (s : Sender) (o : Option ℕ) → AtMostOne (abandons_one (alone s) o).world.queued (abandons_one (alone s) o).world.abandoned
abandons_if s None = Neither refl refl
abandons_if s (Some n) = abandons_one_or_none s n (waits s n)

queues_if : (s : Sender) (bytes : List ℕ) (options : _) (o : Option ℕ) → AtMostOne (queues (alone s) bytes options o).world.queued (queues (alone s) bytes options o).world.abandoned
queues_if s bytes options (Some n) = Neither refl refl
queues_if s bytes options None = OneQueued _ refl refl

finishes_if : (s : Sender) (o : Option ℕ) → AtMostOne (finishes (alone s) o).world.queued (finishes (alone s) o).world.abandoned
finishes_if s (Some n) = Neither refl refl
finishes_if s None = Neither refl refl

sends_one : (s : Sender) (moment : ℕ) (chosen : _) (o : Option Chunk) → AtMostOne (sends (alone s) moment chosen o).world.queued (sends (alone s) moment chosen o).world.abandoned
sends_one s moment chosen None = Neither refl refl
sends_one s moment chosen (Some x) = Neither refl refl

act_states : (k : Option Opened) (act : Act) → AtMostOne (queued_act (Some k) act) (abandoned_act (Some k) act)
act_states None act = Neither refl refl
act_states (Some x) (Queues bytes options) = queues_if x.sender bytes options x.sender.finish
act_states (Some x) (Abandons n) = abandons_if x.sender (Some n)
act_states (Some x) AbandonsFirst = abandons_if x.sender _
act_states (Some x) (AbandonsOverdue moment) = abandons_if x.sender _
act_states (Some x) Finishes = finishes_if x.sender x.sender.finish
act_states (Some x) (Loses moment resend) = Neither refl refl
act_states (Some x) (Sends moment resend) = sends_one x.sender moment (choice moment resend x.sender) _
act_states (Some x) (Hears a) = Neither refl refl

abbrev act_tells : Context → ℕ → List Message → List ℕ → List Tell
act_tells c f queued abandoned = map (λ (m : Message). Queued (name c f) m) queued ++ map (λ (n : ℕ). Abandoned (name c f) n) abandoned

act_told : (c : Context) (f : ℕ) (queued : List Message) (abandoned : List ℕ) (before : List Tell) → AtMostOne queued abandoned →
    act_tells c f queued abandoned ++ before ≡ told_on c (map (as_queued f) queued ++ map (AbandonedOf f) abandoned) before
act_told c f queued abandoned before (Neither p q) =
    let Goal : List Message → List ℕ → Type 0 = λ xs ns. act_tells c f xs ns ++ before ≡ told_on c (map (as_queued f) xs ++ map (AbandonedOf f) ns) before in
    subst (λ xs. Goal xs abandoned) (sym p) (subst (λ ns. Goal [] ns) (sym q) refl)
act_told c f queued abandoned before (OneQueued m p q) =
    let Goal : List Message → List ℕ → Type 0 = λ xs ns. act_tells c f xs ns ++ before ≡ told_on c (map (as_queued f) xs ++ map (AbandonedOf f) ns) before in
    subst (λ xs. Goal xs abandoned) (sym p) (subst (λ ns. Goal (m ∷ []) ns) (sym q) refl)
act_told c f queued abandoned before (OneAbandoned n p q) =
    let Goal : List Message → List ℕ → Type 0 = λ xs ns. act_tells c f xs ns ++ before ≡ told_on c (map (as_queued f) xs ++ map (AbandonedOf f) ns) before in
    subst (λ xs. Goal xs abandoned) (sym p) (subst (λ ns. Goal [] ns) (sym q) refl)

hand_told : (c : Context) (f : ℕ) (o : Option Run) (before : List Tell) → map (λ (m : Message). Handed (name (back c) f) m) (message_in o) ++ before ≡ told_on c (map (as_handed f) (message_in o)) before
hand_told c f None before = refl
hand_told c f (Some y) before = refl

handed_told : (c : Context) (f : ℕ) (k : Option Receiver) (before : List Tell) → map (λ (m : Message). Handed (name (back c) f) m) (handed_next_by (Some k)) ++ before ≡ told_on c (map (as_handed f) (handed_next_by (Some k))) before
handed_told c f None before = refl
handed_told c f (Some r) before = hand_told c f (next_run r) before

pub states_now : (who : ℕ) (c : Context) (fl : Flows) (d : Deed) (h : History) → AreKept who c fl h → log_of (done who (in_context c d) ∷ h) ≡ told_on c (told fl d) (log_of h)
states_now who c fl (Opens f a) h k = refl
states_now who c fl (ActsOn f act) h k =
    ap (λ o. act_tells c f (queued_act o act) (abandoned_act o act) ++ log_of h) (k.sends f) ∙ act_told c f _ _ (log_of h) (act_states (fl.opened f) act)
states_now who c fl (Makes f a) h k = refl
states_now who c fl (Takes f x) h k = refl
states_now who c fl (Hands f) h k = ap (λ o. map (λ (m : Message). Handed (name (back c) f) m) (handed_next_by o) ++ log_of h) (k.takes f) ∙ handed_told c f (fl.made f) (log_of h)
states_now who c fl (Acks f pairs) h k = refl

-- ---- the order of a flow that it opens

-- each deed among these that opens this flow opens it so
abbrev pub AllOpenAs : Bool → Name → Context → List Deed → Type 0
AllOpenAs b n c [] = Unit {0}
AllOpenAs b n c (Opens f a ∷ later) = (name c f ≡ n → a ≡ b) × AllOpenAs b n c later
AllOpenAs b n c (d ∷ later) = AllOpenAs b n c later

abbrev OpensSo : Bool → Name → Context → Deed → Type 0
OpensSo b n c (Opens f a) = name c f ≡ n → a ≡ b
OpensSo b n c d = Unit {0}

first_opens : (b : Bool) (n : Name) (c : Context) (d : Deed) (later : List Deed) → AllOpenAs b n c (d ∷ later) → OpensSo b n c d × AllOpenAs b n c later
first_opens b n c (Opens f a) later all = (all.0, all.1)
first_opens b n c (ActsOn f act) later all = (tt, all)
first_opens b n c (Makes f a) later all = (tt, all)
first_opens b n c (Takes f x) later all = (tt, all)
first_opens b n c (Hands f) later all = (tt, all)
first_opens b n c (Acks f pairs) later all = (tt, all)

opens_if : (t b a : Bool) → (t ≡ true → a ≡ b) → OpensAs b (cond t (BySender (OpensStep a)) Beside)
opens_if true b a so = so refl
opens_if false b a so = tt

acts_open : (t b : Bool) (act : Act) → OpensAs b (cond t (BySender (Acts act)) Beside)
acts_open true b act = tt
acts_open false b act = tt

takes_open : (t b : Bool) (x : _) → OpensAs b (cond t (ByReceiver x) Beside)
takes_open true b x = tt
takes_open false b x = tt

order_now : (b : Bool) (n : Name) (c : Context) (d : Deed) → OpensSo b n c d → OpensAs b (touch_of n (in_context c d))
order_now b n c (Opens f a) so = opens_if (same_name (name c f) n) b a (λ t. so (name_is (name c f) n t))
order_now b n c (ActsOn f act) so = acts_open (same_name (name c f) n) b act
order_now b n c (Makes f a) so = takes_open (same_name (name (back c) f) n) b (MakesStep a)
order_now b n c (Takes f x) so = takes_open (same_name (name (back c) f) n) b (TakesStep x)
order_now b n c (Hands f) so = takes_open (same_name (name (back c) f) n) b HandsStep
order_now b n c (Acks f pairs) so = takes_open (same_name (name (back c) f) n) b (AcksStep pairs)

-- ---- deed after deed

pub record Ran (who : ℕ) (c : Context) (fl : Flows) (deeds : List Deed) (h : History) : Type 0 where
  pub after : History
  pub grows : Grows who h after
  pub lawful : IsLawful after
  pub honest : IsHonest after
  pub begun : (d : Context) → HasBegun d after → HasBegun d h
  pub split : (d : Context) (id size : ℕ) (packet : List ℕ) → WasSplit d id size packet after → WasSplit d id size packet h
  pub split_by : (other : ℕ) (d : Context) (id : ℕ) → WasSplitBy other d id after → WasSplitBy other d id h
  pub kept : AreKept who c (did_all fl deeds) after
  pub beside : (d : Context) (flows : FlowsState) → (c ≡ d → ⊥) → FlowsKept who d flows h → FlowsKept who d flows after
  pub log : log_of after ≡ told_on c (told_all fl deeds) (log_of h)
  pub said : (p : Piece) → IsSaid fl deeds p → Said who c after p
  pub order : (b : Bool) (n : Name) → AllOpenAs b n c deeds → HasOrder b n h → HasOrder b n after

pub ran : (who : ℕ) (c : Context) (came : List Piece) (deeds : List Deed) (fl : Flows) (h : History) → IsLawful h → IsHonest h → AreKept who c fl h → HaveCome who c came h → MayAll came fl deeds → Ran who c fl deeds h
ran who c came [] fl h lawful honest kept all may = record {
  after = h;
  grows = grows_not who h;
  lawful = lawful;
  honest = honest;
  begun = λ d was. was;
  split = λ d id size packet was. was;
  split_by = λ other d id was. was;
  kept = kept;
  beside = λ d flows ne k. k;
  log = refl;
  said = λ p none. absurd none;
  order = λ b n so was. was;
}
ran who c came (d ∷ deeds) fl h lawful honest kept all may =
    let D : Done_in = in_context c d in
    let h1 : History = done who D ∷ h in
    let grew : Grows who h h1 = grows_by who D h in
    let rest : Ran who c (did fl d) deeds h1 =
    ran who c came deeds (did fl d) h1 (may_do who c came fl d h kept all may.0, lawful) (honest_deed c d h, honest) (kept_after who c fl d h kept) (λ p among. grew.came who (back c) p (all p among)) may.1 in
    record {
      after = rest.after;
      grows = grows_then who h h1 rest.after grew rest.grows;
      lawful = rest.lawful;
      honest = rest.honest;
      begun = λ at was. begins_none who c d h at (rest.begun at was);
      split = λ at id size packet was. split_before who (D ∷ []) at id size packet h (splits_none c d, tt) (rest.split at id size packet was);
      split_by = λ other at id was. split_by_before who other (D ∷ []) at id h (splits_none c d, tt) (rest.split_by other at id was);
      kept = rest.kept;
      beside = λ at flows ne k. rest.beside at flows ne (kept_by who at flows D h (deed_leaves_be c at d ne) k);
      log = rest.log ∙ ap (told_on c (told_all (did fl d) deeds)) (states_now who c fl d h kept) ∙ sym (told_on_joined c (told fl d) (told_all (did fl d) deeds) (log_of h));
      said = λ p is. elim is [
        | inl now ↦ said_later who c h1 rest.after p rest.grows (says_now who c fl d h p kept now)
        | inr later ↦ rest.said p later
      ];
      order = λ b n so was. (let parts = first_opens b n c d deeds so in rest.order b n parts.1 (order_now b n c d parts.0, was));
    }

-- ---- what is opened stays open

some_if : (b : Bool) (change : Option Opened → Option Opened) (x y : Option Opened) (k : Opened) → x ≡ Some k → ((k : Opened) → (j : Opened) × (change (Some k) ≡ Some j) × (j.arriving ≡ k.arriving)) →
    (j : Opened) × (cond b (change x) x ≡ Some j) × (j.arriving ≡ k.arriving)
some_if true change x y k e stays = let s = stays k in (s.0, ap change e ∙ s.1, s.2)
some_if false change x y k e stays = (k, e, refl)

pub stays_open : (d : Deed) (fl : Flows) (f : ℕ) (k : Opened) → fl.opened f ≡ Some k → (j : Opened) × ((did fl d).opened f ≡ Some j) × (j.arriving ≡ k.arriving)
stays_open (Opens g a) fl f k e = some_if (g == f) (opened_by a) (fl.opened f) None k e (λ x. (x, refl, refl))
stays_open (ActsOn g act) fl f k e = some_if (g == f) (acted_by act) (fl.opened f) None k e (λ x. (_, refl, refl))
stays_open (Makes g a) fl f k e = (k, e, refl)
stays_open (Takes g x) fl f k e = (k, e, refl)
stays_open (Hands g) fl f k e = (k, e, refl)
stays_open (Acks g pairs) fl f k e = (k, e, refl)

pub all_stay_open : (deeds : List Deed) (fl : Flows) (f : ℕ) (k : Opened) → fl.opened f ≡ Some k → (j : Opened) × ((did_all fl deeds).opened f ≡ Some j) × (j.arriving ≡ k.arriving)
all_stay_open [] fl f k e = (k, e, refl)
all_stay_open (d ∷ deeds) fl f k e =
    let one = stays_open d fl f k e in
    let rest = all_stay_open deeds (did fl d) f one.0 one.1 in
    (rest.0, rest.1, rest.2 ∙ one.2)

unopened_before : (d : Deed) (fl : Flows) (f : ℕ) → (did fl d).opened f ≡ None → fl.opened f ≡ None
unopened_before d fl f none = by (fl.opened f) refl
  where
    by : (o : Option Opened) → fl.opened f ≡ o → o ≡ None
    by None e = refl
    by (Some k) e = let s = stays_open d fl f k e in absurd (let clash : None ≡ Some s.0 = sym none ∙ s.1 in cc)

opened_now : (a : Bool) (fl : Flows) (f : ℕ) → fl.opened f ≡ None → (did fl (Opens f a)).opened f ≡ Some (record { arriving = a; sender = new_sender 1 })
opened_now a fl f none = ap (λ (b : Bool). cond b (opened_by a (fl.opened f)) (fl.opened f)) (number_self f) ∙ ap (opened_by a) none

-- Where each flow that is opened in the end has the order, each that is opened is opened so.
pub open_as : (b : Bool) (n : Name) (c : Context) (came : List Piece) (deeds : List Deed) (fl : Flows) → MayAll came fl deeds →
    ((f : ℕ) (k : Opened) → fl.opened f ≡ None → (did_all fl deeds).opened f ≡ Some k → name c f ≡ n → k.arriving ≡ b) → AllOpenAs b n c deeds
open_as b n c came [] fl may ends = tt
open_as b n c came (Opens f a ∷ deeds) fl may ends =
    let last = all_stay_open deeds (did fl (Opens f a)) f _ (opened_now a fl f may.0) in (
      (λ is. sym last.2 ∙ ends f last.0 may.0 last.1 is),
      open_as b n c came deeds (did fl (Opens f a)) may.1 (λ g k none e is. ends g k (unopened_before (Opens f a) fl g none) e is),
    )
open_as b n c came (ActsOn f act ∷ deeds) fl may ends = open_as b n c came deeds (did fl (ActsOn f act)) may.1 (λ g k none e is. ends g k (unopened_before (ActsOn f act) fl g none) e is)
open_as b n c came (Makes f a ∷ deeds) fl may ends = open_as b n c came deeds (did fl (Makes f a)) may.1 (λ g k none e is. ends g k none e is)
open_as b n c came (Takes f x ∷ deeds) fl may ends = open_as b n c came deeds (did fl (Takes f x)) may.1 (λ g k none e is. ends g k none e is)
open_as b n c came (Hands f ∷ deeds) fl may ends = open_as b n c came deeds (did fl (Hands f)) may.1 (λ g k none e is. ends g k none e is)
open_as b n c came (Acks f pairs ∷ deeds) fl may ends = open_as b n c came deeds (did fl (Acks f pairs)) may.1 (λ g k none e is. ends g k none e is)
