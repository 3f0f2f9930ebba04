-- A lawful and honest history is a run of each of its flows.
use Rattle.std.proofs.Common.{◌≡◌, ℕ, ◌==◌, cond, Bool, true, false, List, [], ◌∷◌, Some, refl, sym}
use Rattle.std.proofs.Common.{ap, subst, ◌∙◌, inl, inr}
use Rattle.flow_send.specs.Acks.{Told}
use Rattle.flow_exchange.specs.Sending.{Act, Queues, Abandons, AbandonsFirst, AbandonsOverdue}
use Rattle.flow_exchange.specs.Sending.{Finishes, Loses, Sends, Hears}
use Rattle.rtmfp_data_chunks.specs.HandsOver.{IsIn}
use Rattle.flow_history.specs.Flow.{Carried, SendingBegins, SendingEnds, Opens, Acts, TakingBegins}
use Rattle.flow_history.specs.Flow.{TakingEnds, Makes, Takes, Hands, Acks, Touch, BySender}
use Rattle.flow_history.specs.Flow.{ByReceiver, Goes, Beside, Steps}
use Rattle.flow_history.specs.Said.{WasGiven, WasTold, Carries, Went, CarriesBack, WentBack}
use Rattle.flow_history.specs.Run.{BeginsSending, HasBegunSending, BeginsTaking, HasBegunTaking}
use Rattle.flow_history.specs.Run.{MayAct, May, IsRun}
use Rattle.flow_history.specs.Deeds.{Context, back, Name, name, same, same_name, Piece, Data, Ack, Part}
use Rattle.flow_history.specs.Deeds.{Deed, Begins, Leaves, OpensFlow, ActsOn, MakesFlow, TakesFrom}
use Rattle.flow_history.specs.Deeds.{HandsOn, AcksOn, In, Out, Splits, History, data_of, acks_of, touch_of}
use Rattle.flow_history.specs.Deeds.{steps_of}
use Rattle.flow_history.specs.Lawful.{BeginsIn, HasBegun, Brings, CameIn, SendsOut, WasSent}
use Rattle.flow_history.specs.Lawful.{MayActOn, MayDo, IsLawful, IsHonestDeed, IsHonest}
use Rattle.flow_history.proofs.Names.{number_self, number_same, same_is, same_self, same_back}
use Rattle.flow_history.proofs.Names.{back_back, name_is}

-- ---- a step that begins

begins_by : (t : Bool) (x : Touch) → (BeginsSending x → ⊥) → BeginsSending (cond t x Beside) → ⊥
begins_by true x f h = f h
begins_by false x f h = h

begins_taking_by : (t : Bool) (x : Touch) → (BeginsTaking x → ⊥) → BeginsTaking (cond t x Beside) →
    ⊥
begins_taking_by true x f h = f h
begins_taking_by false x f h = h

begins_sending_with : (s t : Bool) (x y : Touch) {P : Type 0} → (s ≡ true → BeginsSending x → P) →
    (t ≡ true → BeginsSending y → P) → BeginsSending (cond s x (cond t y Beside)) → P
begins_sending_with true t x y f g h = f refl h
begins_sending_with false true x y f g h = g refl h
begins_sending_with false false x y f g h = absurd h

begins_taking_with : (s t : Bool) (x y : Touch) {P : Type 0} → (s ≡ true → BeginsTaking x → P) →
    (t ≡ true → BeginsTaking y → P) → BeginsTaking (cond s x (cond t y Beside)) → P
begins_taking_with true t x y f g h = f refl h
begins_taking_with false true x y f g h = g refl h
begins_taking_with false false x y f g h = absurd h

pub sending_begun_at : (n : Name) (d : Deed) → BeginsSending (touch_of n d) → BeginsIn n.context d
sending_begun_at n (Begins c) h =
    begins_sending_with (same c n.context) (same (back c) n.context) (BySender SendingBegins)
    (ByReceiver TakingBegins) (λ e k. same_is c n.context e) (λ e k. absurd k) h
sending_begun_at n (Leaves c) h =
    absurd (begins_sending_with (same c n.context) (same (back c) n.context) (BySender SendingEnds)
    (ByReceiver TakingEnds) {P = ⊥} (λ e k. k) (λ e k. k) h)
sending_begun_at n (OpensFlow m b) h =
    absurd (begins_by (same_name m n) (BySender (Opens b)) (λ k. k) h)
sending_begun_at n (ActsOn m act) h =
    absurd (begins_by (same_name m n) (BySender (Acts act)) (λ k. k) h)
sending_begun_at n (MakesFlow m b) h =
    absurd (begins_by (same_name m n) (ByReceiver (Makes b)) (λ k. k) h)
sending_begun_at n (TakesFrom m c) h =
    absurd (begins_by (same_name m n) (ByReceiver (Takes c)) (λ k. k) h)
sending_begun_at n (HandsOn m) h = absurd (begins_by (same_name m n) (ByReceiver Hands) (λ k. k) h)
sending_begun_at n (AcksOn m pairs) h =
    absurd (begins_by (same_name m n) (ByReceiver (Acks pairs)) (λ k. k) h)
sending_begun_at n (In c pieces) h = absurd h
sending_begun_at n (Splits c id size packet) h = absurd h
sending_begun_at n (Out c pieces) h =
    absurd (begins_sending_with (same c n.context) (same (back c) n.context)
    (Goes (data_of n.flow pieces) []) (Goes [] (acks_of n.flow pieces)) {P = ⊥} (λ e k. k)
    (λ e k. k) h)

taking_begun_at : (n : Name) (d : Deed) → BeginsTaking (touch_of n d) → BeginsIn (back n.context) d
taking_begun_at n (Begins c) h =
    begins_taking_with (same c n.context) (same (back c) n.context) (BySender SendingBegins)
    (ByReceiver TakingBegins) (λ e k. absurd k)
    (λ e k. sym (back_back c) ∙ ap back (same_is (back c) n.context e)) h
taking_begun_at n (Leaves c) h =
    absurd (begins_taking_with (same c n.context) (same (back c) n.context) (BySender SendingEnds)
    (ByReceiver TakingEnds) {P = ⊥} (λ e k. k) (λ e k. k) h)
taking_begun_at n (OpensFlow m b) h =
    absurd (begins_taking_by (same_name m n) (BySender (Opens b)) (λ k. k) h)
taking_begun_at n (ActsOn m act) h =
    absurd (begins_taking_by (same_name m n) (BySender (Acts act)) (λ k. k) h)
taking_begun_at n (MakesFlow m b) h =
    absurd (begins_taking_by (same_name m n) (ByReceiver (Makes b)) (λ k. k) h)
taking_begun_at n (TakesFrom m c) h =
    absurd (begins_taking_by (same_name m n) (ByReceiver (Takes c)) (λ k. k) h)
taking_begun_at n (HandsOn m) h =
    absurd (begins_taking_by (same_name m n) (ByReceiver Hands) (λ k. k) h)
taking_begun_at n (AcksOn m pairs) h =
    absurd (begins_taking_by (same_name m n) (ByReceiver (Acks pairs)) (λ k. k) h)
taking_begun_at n (In c pieces) h = absurd h
taking_begun_at n (Splits c id size packet) h = absurd h
taking_begun_at n (Out c pieces) h =
    absurd (begins_taking_with (same c n.context) (same (back c) n.context)
    (Goes (data_of n.flow pieces) []) (Goes [] (acks_of n.flow pieces)) {P = ⊥} (λ e k. k)
    (λ e k. k) h)

sending_begun : (n : Name) (h : History) → HasBegunSending (steps_of n h) → HasBegun n.context h
sending_begun n [] i = i
sending_begun n (d ∷ h) (inl i) = inl (sending_begun_at n d.deed i)
sending_begun n (d ∷ h) (inr i) = inr (sending_begun n h i)

taking_begun : (n : Name) (h : History) → HasBegunTaking (steps_of n h) →
    HasBegun (back n.context) h
taking_begun n [] i = i
taking_begun n (d ∷ h) (inl i) = inl (taking_begun_at n d.deed i)
taking_begun n (d ∷ h) (inr i) = inr (taking_begun n h i)

-- ---- what comes went out

among_data_if : (f g : ℕ) (x y : Carried) (rest : List Piece) (t : Bool) → (g == f) ≡ t →
    (IsIn (Data f x) rest → IsIn x (data_of f rest)) → IsIn (Data f x) (Data g y ∷ rest) →
    IsIn x (cond t (y ∷ data_of f rest) (data_of f rest))
among_data_if f g x y rest true e ih (inl q) = inl cc
among_data_if f g x y rest true e ih (inr i) = inr (ih i)
among_data_if f g x y rest false e ih (inl q) =
    absurd (let s : f ≡ g = cc in let u : (g == f) ≡ true = ap (λ i. g == i) s ∙ number_self g in
    let v : true ≡ false = sym u ∙ e in cc)
among_data_if f g x y rest false e ih (inr i) = ih i

among_data : (f : ℕ) (x : Carried) (pieces : List Piece) → IsIn (Data f x) pieces →
    IsIn x (data_of f pieces)
among_data f x [] i = i
among_data f x (Data g y ∷ rest) i =
    among_data_if f g x y rest (g == f) refl (among_data f x rest) i
among_data f x (Ack g a ∷ rest) (inl q) = absurd cc
among_data f x (Ack g a ∷ rest) (inr i) = among_data f x rest i
among_data f x (Part id p ∷ rest) (inl q) = absurd cc
among_data f x (Part id p ∷ rest) (inr i) = among_data f x rest i

among_acks_if : (f g : ℕ) (x y : Told) (rest : List Piece) (t : Bool) → (g == f) ≡ t →
    (IsIn (Ack f x) rest → IsIn x (acks_of f rest)) → IsIn (Ack f x) (Ack g y ∷ rest) →
    IsIn x (cond t (y ∷ acks_of f rest) (acks_of f rest))
among_acks_if f g x y rest true e ih (inl q) = inl cc
among_acks_if f g x y rest true e ih (inr i) = inr (ih i)
among_acks_if f g x y rest false e ih (inl q) =
    absurd (let s : f ≡ g = cc in let u : (g == f) ≡ true = ap (λ i. g == i) s ∙ number_self g in
    let v : true ≡ false = sym u ∙ e in cc)
among_acks_if f g x y rest false e ih (inr i) = ih i

among_acks : (f : ℕ) (x : Told) (pieces : List Piece) → IsIn (Ack f x) pieces →
    IsIn x (acks_of f pieces)
among_acks f x [] i = i
among_acks f x (Ack g y ∷ rest) i = among_acks_if f g x y rest (g == f) refl (among_acks f x rest) i
among_acks f x (Data g a ∷ rest) (inl q) = absurd cc
among_acks f x (Data g a ∷ rest) (inr i) = among_acks f x rest i
among_acks f x (Part id p ∷ rest) (inl q) = absurd cc
among_acks f x (Part id p ∷ rest) (inr i) = among_acks f x rest i

data_among_if : (f g : ℕ) (x y : Carried) (rest : List Piece) (t : Bool) → (g == f) ≡ t →
    (IsIn x (data_of f rest) → IsIn (Data f x) rest) →
    IsIn x (cond t (y ∷ data_of f rest) (data_of f rest)) → IsIn (Data f x) (Data g y ∷ rest)
data_among_if f g x y rest true e ih (inl q) =
    inl (ap (λ z. Data f z) q ∙ ap (λ i. Data i y) (sym (number_same g f e)))
data_among_if f g x y rest true e ih (inr i) = inr (ih i)
data_among_if f g x y rest false e ih i = inr (ih i)

data_among : (f : ℕ) (x : Carried) (pieces : List Piece) → IsIn x (data_of f pieces) →
    IsIn (Data f x) pieces
data_among f x [] i = i
data_among f x (Data g y ∷ rest) i =
    data_among_if f g x y rest (g == f) refl (data_among f x rest) i
data_among f x (Ack g a ∷ rest) i = inr (data_among f x rest i)
data_among f x (Part id p ∷ rest) i = inr (data_among f x rest i)

acks_among_if : (f g : ℕ) (x y : Told) (rest : List Piece) (t : Bool) → (g == f) ≡ t →
    (IsIn x (acks_of f rest) → IsIn (Ack f x) rest) →
    IsIn x (cond t (y ∷ acks_of f rest) (acks_of f rest)) → IsIn (Ack f x) (Ack g y ∷ rest)
acks_among_if f g x y rest true e ih (inl q) =
    inl (ap (λ z. Ack f z) q ∙ ap (λ i. Ack i y) (sym (number_same g f e)))
acks_among_if f g x y rest true e ih (inr i) = inr (ih i)
acks_among_if f g x y rest false e ih i = inr (ih i)

acks_among : (f : ℕ) (x : Told) (pieces : List Piece) → IsIn x (acks_of f pieces) →
    IsIn (Ack f x) pieces
acks_among f x [] i = i
acks_among f x (Ack g y ∷ rest) i = acks_among_if f g x y rest (g == f) refl (acks_among f x rest) i
acks_among f x (Data g a ∷ rest) i = inr (acks_among f x rest i)
acks_among f x (Part id p ∷ rest) i = inr (acks_among f x rest i)

-- what an end took in a context was sent in it
pub record IsSentWith (c : Context) (piece : Piece) (h : History) : Type 0 where
  pub pieces : List Piece
  pub among : IsIn piece pieces
  pub sent : WasSent c pieces h

came_at : (c : Context) (piece : Piece) (h : History) (d : Deed) → IsHonestDeed h d →
    Brings c piece d → IsSentWith c piece h
came_at c piece h (Begins d) honest i = absurd i
came_at c piece h (Leaves d) honest i = absurd i
came_at c piece h (OpensFlow n b) honest i = absurd i
came_at c piece h (ActsOn n act) honest i = absurd i
came_at c piece h (MakesFlow n b) honest i = absurd i
came_at c piece h (TakesFrom n d) honest i = absurd i
came_at c piece h (HandsOn n) honest i = absurd i
came_at c piece h (AcksOn n pairs) honest i = absurd i
came_at c piece h (In d pieces) honest i =
    record {
      pieces = pieces;
      among = i.1;
      sent =
          subst (λ (e : Context). WasSent e pieces h) i.0 honest;
    }
came_at c piece h (Out d pieces) honest i = absurd i
came_at c piece h (Splits d id size packet) honest i = absurd i

pub came_sent : (who : ℕ) (c : Context) (piece : Piece) (h : History) → IsHonest h →
    CameIn who c piece h → IsSentWith c piece h
came_sent who c piece [] honest i = absurd i
came_sent who c piece (d ∷ h) honest (inl i) = let k = came_at c piece h d.deed honest.0 i.1 in
    record { pieces = k.pieces; among = k.among; sent = inr k.sent }
came_sent who c piece (d ∷ h) honest (inr i) = let k = came_sent who c piece h honest.1 i in
    record { pieces = k.pieces; among = k.among; sent = inr k.sent }

carries_in : (s t : Bool) (x y : Touch) (c : Carried) → s ≡ true → Carries x c →
    Carries (cond s x (cond t y Beside)) c
carries_in true t x y c e i = i
carries_in false t x y c e i = absurd cc

carries_back : (s t : Bool) (x y : Touch) (a : Told) → s ≡ false → t ≡ true → CarriesBack y a →
    CarriesBack (cond s x (cond t y Beside)) a
carries_back true t x y a e f i = absurd cc
carries_back false true x y a e f i = i
carries_back false false x y a e f i = absurd cc

went_at : (n : Name) (x : Carried) (pieces : List Piece) (d : Deed) → IsIn (Data n.flow x) pieces →
    SendsOut n.context pieces d → Carries (touch_of n d) x
went_at n x pieces (Begins d) i o = absurd o
went_at n x pieces (Leaves d) i o = absurd o
went_at n x pieces (OpensFlow m b) i o = absurd o
went_at n x pieces (ActsOn m act) i o = absurd o
went_at n x pieces (MakesFlow m b) i o = absurd o
went_at n x pieces (TakesFrom m d) i o = absurd o
went_at n x pieces (HandsOn m) i o = absurd o
went_at n x pieces (AcksOn m pairs) i o = absurd o
went_at n x pieces (In d sent) i o = absurd o
went_at n x pieces (Splits d id size packet) i o = absurd o
went_at n x pieces (Out d sent) i o =
    carries_in (same d n.context) (same (back d) n.context) (Goes (data_of n.flow sent) [])
    (Goes [] (acks_of n.flow sent)) x (ap (λ c. same c n.context) o.0 ∙ same_self n.context)
    (among_data n.flow x sent (subst (λ (ps : List Piece). IsIn (Data n.flow x) ps) (sym o.1) i))

went : (n : Name) (x : Carried) (pieces : List Piece) (h : History) → IsIn (Data n.flow x) pieces →
    WasSent n.context pieces h → Went (steps_of n h) x
went n x pieces [] i o = o
went n x pieces (d ∷ h) i (inl o) = inl (went_at n x pieces d.deed i o)
went n x pieces (d ∷ h) i (inr o) = inr (went n x pieces h i o)

back_at : (n : Name) (a : Told) (pieces : List Piece) (d : Deed) → IsIn (Ack n.flow a) pieces →
    SendsOut (back n.context) pieces d → CarriesBack (touch_of n d) a
back_at n a pieces (Begins d) i o = absurd o
back_at n a pieces (Leaves d) i o = absurd o
back_at n a pieces (OpensFlow m b) i o = absurd o
back_at n a pieces (ActsOn m act) i o = absurd o
back_at n a pieces (MakesFlow m b) i o = absurd o
back_at n a pieces (TakesFrom m d) i o = absurd o
back_at n a pieces (HandsOn m) i o = absurd o
back_at n a pieces (AcksOn m pairs) i o = absurd o
back_at n a pieces (In d sent) i o = absurd o
back_at n a pieces (Splits d id size packet) i o = absurd o
back_at n a pieces (Out d sent) i o =
    carries_back (same d n.context) (same (back d) n.context) (Goes (data_of n.flow sent) [])
    (Goes [] (acks_of n.flow sent)) a (ap (λ c. same c n.context) o.0 ∙ same_back n.context)
    (ap (λ c. same (back c) n.context) o.0 ∙ ap (λ c. same c n.context) (back_back n.context)
    ∙ same_self n.context)
    (among_acks n.flow a sent (subst (λ (ps : List Piece). IsIn (Ack n.flow a) ps) (sym o.1) i))

went_back : (n : Name) (a : Told) (pieces : List Piece) (h : History) → IsIn (Ack n.flow a) pieces →
    WasSent (back n.context) pieces h → WentBack (steps_of n h) a
went_back n a pieces [] i o = o
went_back n a pieces (d ∷ h) i (inl o) = inl (back_at n a pieces d.deed i o)
went_back n a pieces (d ∷ h) i (inr o) = inr (went_back n a pieces h i o)

came_data : (who : ℕ) (n : Name) (x : Carried) (h : History) → IsHonest h →
    CameIn who n.context (Data n.flow x) h → Went (steps_of n h) x
came_data who n x h honest i = let k = came_sent who n.context (Data n.flow x) h honest i in
    went n x k.pieces h k.among k.sent

came_ack : (who : ℕ) (n : Name) (a : Told) (h : History) → IsHonest h →
    CameIn who (back n.context) (Ack n.flow a) h → WentBack (steps_of n h) a
came_ack who n a h honest i = let k = came_sent who (back n.context) (Ack n.flow a) h honest i in
    went_back n a k.pieces h k.among k.sent

-- ---- what may be done may happen with each flow

by_flow : (st : Steps) (who : ℕ) (t : Bool) (x : Touch) → (t ≡ true → May st who x) →
    May st who (cond t x Beside)
by_flow st who true x f = f refl
by_flow st who false x f = tt

by_way : (st : Steps) (who : ℕ) (s t : Bool) (x y : Touch) → (s ≡ true → May st who x) →
    (t ≡ true → May st who y) → May st who (cond s x (cond t y Beside))
by_way st who true t x y f g = f refl
by_way st who false true x y f g = g refl
by_way st who false false x y f g = tt

may_act : (h : History) (who : ℕ) (n : Name) (act : Act) → IsHonest h → MayActOn h who n act →
    MayAct (steps_of n h) act
may_act h who n (Queues bytes options) honest may = tt
may_act h who n (Abandons k) honest may = tt
may_act h who n AbandonsFirst honest may = tt
may_act h who n (AbandonsOverdue moment) honest may = tt
may_act h who n Finishes honest may = tt
may_act h who n (Loses moment resend) honest may = tt
may_act h who n (Sends moment resend) honest may = tt
may_act h who n (Hears a) honest may = came_ack who n a h honest may

-- what may happen with the flow that is named may happen with this one, if it is the same
named : (h : History) (who : ℕ) (m n : Name) (x : Touch) → May (steps_of m h) who x →
    May (steps_of n h) who (cond (same_name m n) x Beside)
named h who m n x may =
    by_flow (steps_of n h) who (same_name m n) x
    (λ e. subst (λ (k : Name). May (steps_of k h) who x) (name_is m n e) may)

may_happen : (h : History) (who : ℕ) (d : Deed) (n : Name) → IsHonest h → MayDo h who d →
    May (steps_of n h) who (touch_of n d)
may_happen h who (Begins c) n honest may =
    by_way (steps_of n h) who (same c n.context) (same (back c) n.context) (BySender SendingBegins)
    (ByReceiver TakingBegins)
    (λ e begun. may (subst (λ (x : Context). HasBegun x h) (sym (same_is c n.context e))
    (sending_begun n h begun)))
    (λ e begun. may
    (subst (λ (x : Context). HasBegun x h)
    (sym (sym (back_back c) ∙ ap back (same_is (back c) n.context e)))
    (taking_begun n h begun)))
may_happen h who (Leaves c) n honest may =
    by_way (steps_of n h) who (same c n.context) (same (back c) n.context) (BySender SendingEnds)
    (ByReceiver TakingEnds) (λ e. tt) (λ e. tt)
may_happen h who (OpensFlow m b) n honest may = named h who m n (BySender (Opens b)) may
may_happen h who (ActsOn m act) n honest may =
    named h who m n (BySender (Acts act)) (may.0, may_act h who m act honest may.1)
may_happen h who (MakesFlow m b) n honest may =
    named h who m n (ByReceiver (Makes b))
    (may.0, may.1, came_data who m (record { chunk = may.1; order = Some b }) h honest may.2)
may_happen h who (TakesFrom m c) n honest may =
    named h who m n (ByReceiver (Takes c))
    (may.0, may.1, came_data who m (record { chunk = c; order = may.1 }) h honest may.2)
may_happen h who (HandsOn m) n honest may = named h who m n (ByReceiver Hands) may
may_happen h who (AcksOn m pairs) n honest may = named h who m n (ByReceiver (Acks pairs)) may
may_happen h who (In c pieces) n honest may = tt
may_happen h who (Splits c id size packet) n honest may = tt
may_happen h who (Out c pieces) n honest may =
    by_way (steps_of n h) who (same c n.context) (same (back c) n.context)
    (Goes (data_of n.flow pieces) []) (Goes [] (acks_of n.flow pieces))
    (λ e. (
      λ x i. subst (λ (d : Context). WasGiven (steps_of (name d n.flow) h) x)
          (same_is c n.context e) (may.0 n.flow x (data_among n.flow x pieces i)),
      λ a i. absurd i,
    ))
    (λ e. (
      λ x i. absurd i,
      λ a i. subst (λ (d : Context). WasTold (steps_of (name d n.flow) h) a)
          (same_is (back c) n.context e) (may.1 n.flow a (acks_among n.flow a pieces i)),
    ))

pub is_run : (n : Name) (h : History) → IsLawful h → IsHonest h → IsRun (steps_of n h)
is_run n [] lawful honest = tt
is_run n (d ∷ h) lawful honest =
    (may_happen h d.who d.deed n honest.1 lawful.0, is_run n h lawful.1 honest.1)
