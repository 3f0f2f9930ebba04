-- What the two ends of a flow keep is what one exchange keeps, and what the log says is what has
-- happened in it.
use Rattle.std.proofs.Common.{◌≡◌, ℕ, ◌==◌, Bool, false, List, [], ◌∷◌, ◌++◌, Option, Some, None}
use Rattle.std.proofs.Common.{refl, sym, ap, subst, ◌∙◌, inl, inr, arith}
use Rattle.rtmfp_data_chunks.specs.Runs.{Chunk, Run, message_of}
use Rattle.rtmfp_data_chunks.specs.HandsOver.{IsIn}
use Rattle.flow_recv.specs.Receiver.{Receiver, fresh, taken, next_run, handed_next}
use Rattle.flow_send.specs.Sender.{Sender, new_sender, first_number, overdue}
use Rattle.flow_send.specs.Choice.{choice, chunk_for}
use Rattle.flow_send.specs.Acks.{Told}
use Rattle.flow_exchange.specs.Exchange.{Ack, World, Taken, Told as Ack_sent, Handed, after}
use Rattle.flow_exchange.specs.Sending.{Act, Queues, Abandons, AbandonsFirst, AbandonsOverdue}
use Rattle.flow_exchange.specs.Sending.{Finishes, Loses, Sends, Hears, acts, ack_of}
use Rattle.flow_exchange.specs.Pair.{Pair, pair, sender_of, with_sender, ack_by}
use Rattle.flow_exchange.proofs.Pairing.{Linked, linked_start, queues_linked, finishes_linked}
use Rattle.flow_exchange.proofs.Pairing.{abandons_one_linked, sends_linked, loses_linked, takes_if}
use Rattle.flow_exchange.proofs.Pairing.{hands_linked, acks_linked, hears_if}
use Rattle.flow_history.specs.Flow.{Opened, Carried, AtSender, SendingBegins, SendingEnds, Opens}
use Rattle.flow_history.specs.Flow.{Acts, AtReceiver, TakingBegins, TakingEnds, Makes, Takes, Hands}
use Rattle.flow_history.specs.Flow.{Acks, Touch, BySender, ByReceiver, Goes, Beside, Steps, step}
use Rattle.flow_history.specs.Flow.{acted, alone, opened_in, acted_in, sending_after, sending_at}
use Rattle.flow_history.specs.Flow.{made_in, with_receiver, taking_after, taking_at}
use Rattle.flow_history.specs.Said.{TellsOrder, given_by, Gives, WasGiven, Tells, WasTold, Carries}
use Rattle.flow_history.specs.Said.{Went, CarriesBack, WentBack}
use Rattle.flow_history.specs.Run.{HasBegunSending, HasBegunTaking, MayAct, May, IsRun, queued_act}
use Rattle.flow_history.specs.Run.{abandoned_act, handed_next_by, message_in, queued_in}
use Rattle.flow_history.specs.Run.{abandoned_in, handed_in, OpensAs, IsOrdered}
use Rattle.flow_history.proofs.Acting.{Alike, alike, given}
use Rattle.flow_history.proofs.Keeps.{OneKeeps, keeps_still, keeps_one, step_less, step_only}

-- what is kept of a flow that isn't open is a new sender's
abbrev pub SenderIs : Bool → Sender → Option Opened → Type 0
SenderIs b s None = s ≡ new_sender 1
SenderIs b s (Some flow) = (flow.arriving ≡ b) × (flow.sender ≡ s)

abbrev pub ReceiverIs : Bool → Receiver → Option Receiver → Type 0
ReceiverIs b r None = r ≡ fresh b
ReceiverIs b r (Some made) = made ≡ r

abbrev pub IsSent : Bool → World → Carried → Type 0
IsSent b w x = IsIn x.chunk w.sent × TellsOrder x.order b

-- what was given and told, and all that went out, was said in the exchange
pub record Said (b : Bool) (w : World) (h : Steps) : Type 0 where
  pub given : (x : Carried) → WasGiven h x → IsSent b w x
  pub went : (x : Carried) → Went h x → IsSent b w x
  pub told : (a : Told) → WasTold h a → IsIn (ack_of a) w.told
  pub back : (a : Told) → WentBack h a → IsIn (ack_of a) w.told

pub record Noted (w : World) (h : Steps) : Type 0 where
  pub queued : queued_in h ≡ w.queued
  pub abandoned : abandoned_in h ≡ w.abandoned
  pub handed : handed_in h ≡ w.handed

pub record Ties (b : Bool) (p : Pair) (h : Steps) : Type 0 where
  pub linked : Linked b p
  pub sender : OneKeeps (sending_at h) (HasBegunSending h) (p.sender ≡ new_sender 1)
      (SenderIs b p.sender)
  pub receiver : OneKeeps (taking_at h) (HasBegunTaking h) (p.receiver ≡ fresh b)
      (ReceiverIs b p.receiver)
  pub said : Said b p.world h
  pub noted : Noted p.world h

-- ---- what a step leaves as it was

no_end : {X : Type 0} (xs : List X) → xs ++ [] ≡ xs
no_end [] = refl
no_end (x ∷ xs) = ap (λ ys. x ∷ ys) (no_end xs)

sender_still : (b : Bool) (s : Sender) (h : Steps) (who : ℕ) (t : Touch) →
    ((k : Option (Option Opened)) (x : Option Opened) → sending_after k t ≡ Some x → k ≡ Some x) →
    OneKeeps (sending_at h) (HasBegunSending h) (s ≡ new_sender 1) (SenderIs b s) →
    OneKeeps (sending_at (step who t ∷ h)) (HasBegunSending (step who t ∷ h)) (s ≡ new_sender 1)
    (SenderIs b s)
sender_still b s h who t less k =
    keeps_still (sending_at h) (sending_at (step who t ∷ h)) (HasBegunSending h)
    (HasBegunSending (step who t ∷ h)) (s ≡ new_sender 1) (SenderIs b s)
    (λ a x e. step_less (who == a) (sending_after (sending_at h a) t) (sending_at h a) x
    (less (sending_at h a) x) e) (λ begun. inr begun) k

receiver_still : (b : Bool) (r : Receiver) (h : Steps) (who : ℕ) (t : Touch) →
    ((k : Option (Option Receiver)) (x : Option Receiver) → taking_after k t ≡ Some x →
    k ≡ Some x) →
    OneKeeps (taking_at h) (HasBegunTaking h) (r ≡ fresh b) (ReceiverIs b r) →
    OneKeeps (taking_at (step who t ∷ h)) (HasBegunTaking (step who t ∷ h)) (r ≡ fresh b)
    (ReceiverIs b r)
receiver_still b r h who t less k =
    keeps_still (taking_at h) (taking_at (step who t ∷ h)) (HasBegunTaking h)
    (HasBegunTaking (step who t ∷ h)) (r ≡ fresh b) (ReceiverIs b r)
    (λ a x e. step_less (who == a) (taking_after (taking_at h a) t) (taking_at h a) x
    (less (taking_at h a) x) e) (λ begun. inr begun) k

-- the world says no less, and what the step says is said in it
said_more : (b : Bool) (w v : World) (h : Steps) (who : ℕ) (t : Touch) →
    ((c : Chunk) → IsIn c w.sent → IsIn c v.sent) → ((a : Ack) → IsIn a w.told → IsIn a v.told) →
    ((x : Carried) → Gives (sending_at h who) t x → IsSent b v x) →
    ((x : Carried) → Carries t x → IsSent b v x) →
    ((a : Told) → Tells (taking_at h who) t a → IsIn (ack_of a) v.told) →
    ((a : Told) → CarriesBack t a → IsIn (ack_of a) v.told) → Said b w h →
    Said b v (step who t ∷ h)
said_more b w v h who t sent told gives goes tells backs s = record {
  given = λ x i. elim i [
    | inl g ↦ gives x g
    | inr k ↦ (let m = s.given x k in
        (sent x.chunk m.0, m.1))
  ];
  went = λ x i. elim i [
    | inl g ↦ goes x g
    | inr k ↦ (let m = s.went x k in
        (sent x.chunk m.0, m.1))
  ];
  told = λ a i. elim i [ inl g ↦ tells a g | inr k ↦ told (ack_of a) (s.told a k) ];
  back = λ a i. elim i [ inl g ↦ backs a g | inr k ↦ told (ack_of a) (s.back a k) ];
}

-- ---- the sending end

acts_linked : (b : Bool) (p : Pair) (h : Steps) (act : Act) → MayAct h act →
    ((a : Told) → WentBack h a → IsIn (ack_of a) p.world.told) → Linked b p →
    Linked b (with_sender p (acts (sender_of p) act))
acts_linked b p h (Queues bytes options) may back l =
    queues_linked b p bytes options p.sender.finish refl l
acts_linked b p h (Abandons n) may back l = abandons_one_linked b p (Some n) l
acts_linked b p h AbandonsFirst may back l =
    abandons_one_linked b p (first_number p.sender.waiting) l
acts_linked b p h (AbandonsOverdue moment) may back l =
    abandons_one_linked b p (overdue moment p.sender) l
acts_linked b p h Finishes may back l = finishes_linked b p p.sender.finish refl l
acts_linked b p h (Loses moment resend) may back l = loses_linked b p moment resend l
acts_linked b p h (Sends moment resend) may back l =
    sends_linked b p moment resend (chunk_for p.sender (choice moment resend p.sender)) refl l
acts_linked b p h (Hears a) may back l = hears_if b p a.blocks (ack_of a) false (back a may) l

queued_open : (k : Option (Option Opened)) (flow : Opened) (act : Act) → k ≡ Some (Some flow) →
    queued_act k act ≡ (acts (alone flow.sender) act).world.queued
queued_open k flow act e = ap (λ x. queued_act x act) e

abandoned_open : (k : Option (Option Opened)) (flow : Opened) (act : Act) → k ≡ Some (Some flow) →
    abandoned_act k act ≡ (acts (alone flow.sender) act).world.abandoned
abandoned_open k flow act e = ap (λ x. abandoned_act x act) e

acts_tie : (b : Bool) (p : Pair) (h : Steps) (who : ℕ) (act : Act) (flow : Opened) →
    sending_at h who ≡ Some (Some flow) → MayAct h act → Ties b p h →
    Ties b (with_sender p (acts (sender_of p) act)) (step who (BySender (Acts act)) ∷ h)
acts_tie b p h who act flow at may k =
    let t : Touch = BySender (Acts act) in
    let q : Pair = with_sender p (acts (sender_of p) act) in
    let same : Alike p.world (acts (alone p.sender) act) (acts (sender_of p) act) =
    alike p.sender p.world act in
    let is : (flow.arriving ≡ b) × (flow.sender ≡ p.sender) = k.sender.kept who (Some flow) at in
    let new : Opened = record { arriving = flow.arriving; sender = acted flow.sender act } in
    record {
      linked = acts_linked b p h act may k.said.back k.linked;
      sender =
          keeps_one (sending_at (step who t ∷ h)) who (Some new) (HasBegunSending (step who t ∷ h))
          (q.sender ≡ new_sender 1) (SenderIs b q.sender)
          (λ a y e. step_only (sending_at h) (λ c. sending_after (sending_at h c) t) who a
          (Some new) y (λ c x f. k.sender.one who c (Some flow) x at f)
          (ap (λ x. acted_in x act) at) e)
          (inr (k.sender.begins who (Some flow) at)) (
            is.0,
            ap (λ s. acted s act) is.1
                ∙ sym same.sender,
          );
      receiver = receiver_still b p.receiver h who t (λ x y e. e) k.receiver;
      said =
          said_more b p.world q.world h who t same.sent
          (λ a i. subst (λ (xs : List Ack). IsIn a xs) (sym same.told) i)
          (λ x g. (
          let mine = k.sender.kept who (Some g.flow) g.is_open in (
            given p.sender p.world act x.chunk (ap (λ s. given_by s act) (sym mine.1) ∙ g.given),
            subst (λ (c : Bool). TellsOrder x.order c) mine.0 g.order,
          )
          ))
          (λ x i. absurd i) (λ a i. absurd i) (λ a i. absurd i) k.said;
      noted =
          let n = k.noted in
          record {
            queued = ap (λ xs. xs ++ queued_in h) (queued_open (sending_at h who) flow act at
                ∙ ap (λ s. (acts (alone s) act).world.queued) is.1)
                ∙ ap (λ ys. (acts (alone p.sender) act).world.queued ++ ys) n.queued
                ∙ sym same.queued;
            abandoned =
                ap (λ xs. xs ++ abandoned_in h) (abandoned_open (sending_at h who) flow act at
                ∙ ap (λ s. (acts (alone s) act).world.abandoned) is.1)
                ∙ ap (λ ys. (acts (alone p.sender) act).world.abandoned ++ ys) n.abandoned
                ∙ sym same.abandoned;
            handed = no_end (handed_in h) ∙ n.handed ∙ sym same.handed;
          };
    }

sending_begins_tie : (b : Bool) (p : Pair) (h : Steps) (who : ℕ) → (HasBegunSending h → ⊥) →
    Ties b p h → Ties b p (step who (BySender SendingBegins) ∷ h)
sending_begins_tie b p h who none k =
    let t : Touch = BySender SendingBegins in
    record {
      linked = k.linked;
      sender =
          keeps_one (sending_at (step who t ∷ h)) who None (HasBegunSending (step who t ∷ h))
          (p.sender ≡ new_sender 1) (SenderIs b p.sender)
          (λ a y e. step_only (sending_at h) (λ c. sending_after (sending_at h c) t) who a None y
          (λ c x f. absurd (none (k.sender.begins c x f))) refl e) (inl tt)
          (k.sender.unbegun none);
      receiver = receiver_still b p.receiver h who t (λ x y e. e) k.receiver;
      said = said_more b p.world p.world h who t (λ c i. i) (λ a i. i) (λ x i. absurd i)
          (λ x i. absurd i) (λ a i. absurd i) (λ a i. absurd i) k.said;
      noted = record {
        queued = k.noted.queued;
        abandoned = k.noted.abandoned;
        handed =
            no_end (handed_in h) ∙ k.noted.handed;
      };
    }

sending_ends_tie : (b : Bool) (p : Pair) (h : Steps) (who : ℕ) → Ties b p h →
    Ties b p (step who (BySender SendingEnds) ∷ h)
sending_ends_tie b p h who k =
    let t : Touch = BySender SendingEnds in
    record {
      linked = k.linked;
      sender = sender_still b p.sender h who t (λ x y e. absurd cc) k.sender;
      receiver = receiver_still b p.receiver h who t (λ x y e. e) k.receiver;
      said = said_more b p.world p.world h who t (λ c i. i) (λ a i. i) (λ x i. absurd i)
          (λ x i. absurd i) (λ a i. absurd i) (λ a i. absurd i) k.said;
      noted = record {
        queued = k.noted.queued;
        abandoned = k.noted.abandoned;
        handed =
            no_end (handed_in h) ∙ k.noted.handed;
      };
    }

opens_tie : (b : Bool) (p : Pair) (h : Steps) (who : ℕ) (a : Bool) → sending_at h who ≡ Some None →
    a ≡ b → Ties b p h → Ties b p (step who (BySender (Opens a)) ∷ h)
opens_tie b p h who a at order k =
    let t : Touch = BySender (Opens a) in
    let new : Opened = record { arriving = a; sender = new_sender 1 } in
    record {
      linked = k.linked;
      sender =
          keeps_one (sending_at (step who t ∷ h)) who (Some new) (HasBegunSending (step who t ∷ h))
          (p.sender ≡ new_sender 1) (SenderIs b p.sender)
          (λ c y e. step_only (sending_at h) (λ d. sending_after (sending_at h d) t) who c
          (Some new) y (λ d x f. k.sender.one who d None x at f) (ap (λ x. opened_in x a) at) e)
          (inr (k.sender.begins who None at)) (order, sym (k.sender.kept who None at));
      receiver = receiver_still b p.receiver h who t (λ x y e. e) k.receiver;
      said = said_more b p.world p.world h who t (λ c i. i) (λ c i. i) (λ x i. absurd i)
          (λ x i. absurd i) (λ c i. absurd i) (λ c i. absurd i) k.said;
      noted = record {
        queued = k.noted.queued;
        abandoned = k.noted.abandoned;
        handed =
            no_end (handed_in h) ∙ k.noted.handed;
      };
    }

-- ---- the taking end

taking_begins_tie : (b : Bool) (p : Pair) (h : Steps) (who : ℕ) → (HasBegunTaking h → ⊥) →
    Ties b p h → Ties b p (step who (ByReceiver TakingBegins) ∷ h)
taking_begins_tie b p h who none k =
    let t : Touch = ByReceiver TakingBegins in
    record {
      linked = k.linked;
      sender = sender_still b p.sender h who t (λ x y e. e) k.sender;
      receiver =
          keeps_one (taking_at (step who t ∷ h)) who None (HasBegunTaking (step who t ∷ h))
          (p.receiver ≡ fresh b) (ReceiverIs b p.receiver)
          (λ a y e. step_only (taking_at h) (λ c. taking_after (taking_at h c) t) who a None y
          (λ c x f. absurd (none (k.receiver.begins c x f))) refl e) (inl tt)
          (k.receiver.unbegun none);
      said = said_more b p.world p.world h who t (λ c i. i) (λ a i. i) (λ x i. absurd i)
          (λ x i. absurd i) (λ a i. absurd i) (λ a i. absurd i) k.said;
      noted = record {
        queued = k.noted.queued;
        abandoned = k.noted.abandoned;
        handed =
            no_end (handed_in h) ∙ k.noted.handed;
      };
    }

taking_ends_tie : (b : Bool) (p : Pair) (h : Steps) (who : ℕ) → Ties b p h →
    Ties b p (step who (ByReceiver TakingEnds) ∷ h)
taking_ends_tie b p h who k =
    let t : Touch = ByReceiver TakingEnds in
    record {
      linked = k.linked;
      sender = sender_still b p.sender h who t (λ x y e. e) k.sender;
      receiver = receiver_still b p.receiver h who t (λ x y e. absurd cc) k.receiver;
      said = said_more b p.world p.world h who t (λ c i. i) (λ a i. i) (λ x i. absurd i)
          (λ x i. absurd i) (λ a i. absurd i) (λ a i. absurd i) k.said;
      noted = record {
        queued = k.noted.queued;
        abandoned = k.noted.abandoned;
        handed =
            no_end (handed_in h) ∙ k.noted.handed;
      };
    }

makes_tie : (b : Bool) (p : Pair) (h : Steps) (who : ℕ) (a : Bool) (c : Chunk) →
    taking_at h who ≡ Some None → Went h (record { chunk = c; order = Some a }) → Ties b p h →
    Ties b p (step who (ByReceiver (Makes a)) ∷ h)
makes_tie b p h who a c at went k =
    let t : Touch = ByReceiver (Makes a) in
    let order : a ≡ b = (k.said.went (record { chunk = c; order = Some a }) went).1 in
    record {
      linked = k.linked;
      sender = sender_still b p.sender h who t (λ x y e. e) k.sender;
      receiver =
          keeps_one (taking_at (step who t ∷ h)) who (Some (fresh a))
          (HasBegunTaking (step who t ∷ h)) (p.receiver ≡ fresh b) (ReceiverIs b p.receiver)
          (λ d y e. step_only (taking_at h) (λ i. taking_after (taking_at h i) t) who d
          (Some (fresh a)) y (λ i x f. k.receiver.one who i None x at f)
          (ap (λ x. made_in x a) at) e)
          (inr (k.receiver.begins who None at)) (ap fresh order
          ∙ sym (k.receiver.kept who None at));
      said = said_more b p.world p.world h who t (λ d i. i) (λ d i. i) (λ x i. absurd i)
          (λ x i. absurd i) (λ d i. absurd i) (λ d i. absurd i) k.said;
      noted = record {
        queued = k.noted.queued;
        abandoned = k.noted.abandoned;
        handed =
            no_end (handed_in h) ∙ k.noted.handed;
      };
    }

-- the receiver changes: of its end, and of the exchange
receiver_changes : (b : Bool) (h : Steps) (who : ℕ) (t : Touch) (r : Receiver) (f : Receiver →
    Receiver) (s : Receiver) → taking_at h who ≡ Some (Some r) →
    ((k : Option (Option Receiver)) → taking_after k t ≡ with_receiver k f) →
    OneKeeps (taking_at h) (HasBegunTaking h) (s ≡ fresh b) (ReceiverIs b s) →
    OneKeeps (taking_at (step who t ∷ h)) (HasBegunTaking (step who t ∷ h)) (f s ≡ fresh b)
    (ReceiverIs b (f s))
receiver_changes b h who t r f s at by k =
    keeps_one (taking_at (step who t ∷ h)) who (Some (f r)) (HasBegunTaking (step who t ∷ h))
    (f s ≡ fresh b) (ReceiverIs b (f s))
    (λ d y e. step_only (taking_at h) (λ i. taking_after (taking_at h i) t) who d (Some (f r)) y
    (λ i x g. k.one who i (Some r) x at g) (by (taking_at h who)
    ∙ ap (λ x. with_receiver x f) at) e)
    (inr (k.begins who (Some r) at)) (ap f (k.kept who (Some r) at))

takes_tie : (b : Bool) (p : Pair) (h : Steps) (who : ℕ) (c : Chunk) (r : Receiver)
    (order : Option Bool) → taking_at h who ≡ Some (Some r) →
    Went h (record { chunk = c; order = order }) → Ties b p h →
    Ties b (record {
      sender = p.sender;
      receiver = taken p.receiver c;
      world =
          after p.world (Taken c);
    }) (step who (ByReceiver (Takes c)) ∷ h)
takes_tie b p h who c r order at went k =
    let t : Touch = ByReceiver (Takes c) in
    record {
      linked = takes_if b p c false (k.said.went (record { chunk = c; order = order }) went).0
          k.linked;
      sender = sender_still b p.sender h who t (λ x y e. e) k.sender;
      receiver = receiver_changes b h who t r (λ x. taken x c) p.receiver at (λ x. refl) k.receiver;
      said = said_more b p.world (after p.world (Taken c)) h who t (λ d i. i) (λ d i. i)
          (λ x i. absurd i) (λ x i. absurd i) (λ d i. absurd i) (λ d i. absurd i) k.said;
      noted = record {
        queued = k.noted.queued;
        abandoned = k.noted.abandoned;
        handed =
            no_end (handed_in h) ∙ k.noted.handed;
      };
    }

handed_made : (k : Option (Option Receiver)) (r : Receiver) (y : Run) → k ≡ Some (Some r) →
    next_run r ≡ Some y → handed_next_by k ≡ message_of y ∷ []
handed_made k r y e f = ap handed_next_by e ∙ ap message_in f

hands_tie : (b : Bool) (p : Pair) (h : Steps) (who : ℕ) (r : Receiver) (y : Run) →
    taking_at h who ≡ Some (Some r) → next_run r ≡ Some y → Ties b p h →
    Ties b (record {
      sender = p.sender;
      receiver = handed_next p.receiver;
      world =
          after p.world (Handed (message_of y));
    }) (step who (ByReceiver Hands) ∷ h)
hands_tie b p h who r y at next k =
    let t : Touch = ByReceiver Hands in
    let is : r ≡ p.receiver = k.receiver.kept who (Some r) at in
    record {
      linked = hands_linked b p (Some y) (ap next_run (sym is) ∙ next) k.linked;
      sender = sender_still b p.sender h who t (λ x z e. e) k.sender;
      receiver = receiver_changes b h who t r handed_next p.receiver at (λ x. refl) k.receiver;
      said = said_more b p.world (after p.world (Handed (message_of y))) h who t (λ d i. i)
          (λ d i. i) (λ x i. absurd i) (λ x i. absurd i) (λ d i. absurd i) (λ d i. absurd i) k.said;
      noted = record {
        queued = k.noted.queued;
        abandoned = k.noted.abandoned;
        handed = ap (λ xs. handed_in h ++ xs) (handed_made (taking_at h who) r y at next)
            ∙ ap (λ xs. xs ++ message_of y ∷ []) k.noted.handed;
      };
    }

acks_tie : (b : Bool) (p : Pair) (h : Steps) (who pairs : ℕ) → Ties b p h →
    Ties b (record {
      sender = p.sender;
      receiver = p.receiver;
      world =
          after p.world (Ack_sent (ack_by p.receiver pairs));
    })
    (step who (ByReceiver (Acks pairs)) ∷ h)
acks_tie b p h who pairs k =
    let t : Touch = ByReceiver (Acks pairs) in
    record {
      linked = acks_linked b p pairs k.linked;
      sender = sender_still b p.sender h who t (λ x y e. e) k.sender;
      receiver = receiver_still b p.receiver h who t (λ x y e. e) k.receiver;
      said =
          said_more b p.world (after p.world (Ack_sent (ack_by p.receiver pairs))) h who t
          (λ d i. i) (λ d i. inr i) (λ x i. absurd i) (λ x i. absurd i)
          (λ a g. inl
          (g.told ∙ ap (λ (s : Receiver). ack_by s pairs)
          (k.receiver.kept who (Some g.receiver) g.is_made))) (λ a i. absurd i) k.said;
      noted = record {
        queued = k.noted.queued;
        abandoned = k.noted.abandoned;
        handed =
            no_end (handed_in h) ∙ k.noted.handed;
      };
    }

-- ---- datagrams that go out, and all else

goes_tie : (b : Bool) (p : Pair) (h : Steps) (who : ℕ) (chunks : List Carried) (acks : List Told) →
    May h who (Goes chunks acks) → Ties b p h → Ties b p (step who (Goes chunks acks) ∷ h)
goes_tie b p h who chunks acks may k =
    let t : Touch = Goes chunks acks in
    record {
      linked = k.linked;
      sender = sender_still b p.sender h who t (λ x y e. e) k.sender;
      receiver = receiver_still b p.receiver h who t (λ x y e. e) k.receiver;
      said =
          said_more b p.world p.world h who t (λ c i. i) (λ a i. i) (λ x i. absurd i)
          (λ x i. k.said.given x (may.0 x i)) (λ a i. absurd i)
          (λ a i. k.said.told a (may.1 a i)) k.said;
      noted = record {
        queued = k.noted.queued;
        abandoned = k.noted.abandoned;
        handed =
            no_end (handed_in h) ∙ k.noted.handed;
      };
    }

beside_tie : (b : Bool) (p : Pair) (h : Steps) (who : ℕ) → Ties b p h →
    Ties b p (step who Beside ∷ h)
beside_tie b p h who k = record {
  linked = k.linked;
  sender = sender_still b p.sender h who Beside (λ x y e. e) k.sender;
  receiver = receiver_still b p.receiver h who Beside (λ x y e. e) k.receiver;
  said = said_more b p.world p.world h who Beside (λ c i. i) (λ a i. i) (λ x i. absurd i)
      (λ x i. absurd i) (λ a i. absurd i) (λ a i. absurd i) k.said;
  noted = record {
    queued = k.noted.queued;
    abandoned = k.noted.abandoned;
    handed =
        no_end (handed_in h) ∙ k.noted.handed;
  };
}

-- ---- a step more

abbrev pub Tied : Bool → Steps → Type 0
Tied b h = (p : Pair) × Ties b p h

sending_tie : (b : Bool) (p : Pair) (h : Steps) (who : ℕ) (t : AtSender) → May h who (BySender t) →
    OpensAs b (BySender t) → Ties b p h → Tied b (step who (BySender t) ∷ h)
sending_tie b p h who SendingBegins may order k = (p, sending_begins_tie b p h who may k)
sending_tie b p h who SendingEnds may order k = (p, sending_ends_tie b p h who k)
sending_tie b p h who (Opens a) may order k = (p, opens_tie b p h who a may order k)
sending_tie b p h who (Acts act) may order k =
    (with_sender p (acts (sender_of p) act), acts_tie b p h who act may.0.0 may.0.1 may.1 k)

taking_tie : (b : Bool) (p : Pair) (h : Steps) (who : ℕ) (t : AtReceiver) →
    May h who (ByReceiver t) → Ties b p h → Tied b (step who (ByReceiver t) ∷ h)
taking_tie b p h who TakingBegins may k = (p, taking_begins_tie b p h who may k)
taking_tie b p h who TakingEnds may k = (p, taking_ends_tie b p h who k)
taking_tie b p h who (Makes a) may k = (p, makes_tie b p h who a may.1 may.0 may.2 k)
taking_tie b p h who (Takes c) may k = (
  record { sender = p.sender; receiver = taken p.receiver c; world = after p.world (Taken c) },
  takes_tie b p h who c may.0.0 may.1 may.0.1 may.2 k,
)
taking_tie b p h who Hands may k = (
  record {
    sender = p.sender;
    receiver = handed_next p.receiver;
    world =
        after p.world (Handed (message_of may.1));
  },
  hands_tie b p h who may.0 may.1 may.2 may.3 k,
)
taking_tie b p h who (Acks pairs) may k = (
  record {
    sender = p.sender;
    receiver = p.receiver;
    world =
        after p.world (Ack_sent (ack_by p.receiver pairs));
  },
  acks_tie b p h who pairs k,
)

step_tie : (b : Bool) (p : Pair) (h : Steps) (who : ℕ) (t : Touch) → May h who t → OpensAs b t →
    Ties b p h → Tied b (step who t ∷ h)
step_tie b p h who (BySender t) may order k = sending_tie b p h who t may order k
step_tie b p h who (ByReceiver t) may order k = taking_tie b p h who t may k
step_tie b p h who (Goes chunks acks) may order k = (p, goes_tie b p h who chunks acks may k)
step_tie b p h who Beside may order k = (p, beside_tie b p h who k)

start_tie : (b : Bool) → Ties b (pair 1 b) []
start_tie b = record {
  linked = linked_start b 1 (omega arith);
  sender = record {
    one = λ c d x y e f. absurd cc;
    begins = λ c x e. absurd cc;
    unbegun =
        λ no. refl;
    kept = λ c x e. absurd cc;
  };
  receiver = record {
    one = λ c d x y e f. absurd cc;
    begins = λ c x e. absurd cc;
    unbegun =
        λ no. refl;
    kept = λ c x e. absurd cc;
  };
  said = record {
    given = λ x i. absurd i;
    went = λ x i. absurd i;
    told = λ a i. absurd i;
    back =
        λ a i. absurd i;
  };
  noted = record { queued = refl; abandoned = refl; handed = refl };
}

pub tied : (b : Bool) (h : Steps) → IsRun h → IsOrdered b h → Tied b h
tied b [] run order = (pair 1 b, start_tie b)
tied b (s ∷ h) run order = let k : Tied b h = tied b h run.1 order.1 in
    step_tie b k.0 h s.who s.touch run.0 order.0 k.1
