-- What the log of a history says of a flow is what its steps say.
use Rattle.std.proofs.Common.{◌≡◌, ℕ, cond, map, Bool, true, false, List, [], ◌∷◌, ◌++◌, Option}
use Rattle.std.proofs.Common.{Some, None, refl, sym, ap, subst, ◌∙◌}
use Rattle.rtmfp_data_chunks.specs.Fragments.{Message}
use Rattle.rtmfp_data_chunks.specs.HandsOver.{HandsOver, HandsOnce}
use Rattle.rtmfp_data_chunks.specs.Runs.{Run, message_of}
use Rattle.flow_recv.specs.Receiver.{Receiver, next_run}
use Rattle.flow_history.specs.Flow.{Opened, SendingBegins, SendingEnds, Opens, Acts, TakingBegins}
use Rattle.flow_history.specs.Flow.{TakingEnds, Makes, Takes, Hands, Acks, Touch, BySender}
use Rattle.flow_history.specs.Flow.{ByReceiver, Goes, Beside, sending_at, taking_at}
use Rattle.flow_history.specs.Run.{queued_act, abandoned_act, handed_next_by, message_in, queued_at}
use Rattle.flow_history.specs.Run.{abandoned_at, handed_at, queued_in, abandoned_in, handed_in}
use Rattle.flow_history.specs.Deeds.{back, Name, same, same_name, Deed, Begins, Leaves, OpensFlow}
use Rattle.flow_history.specs.Deeds.{ActsOn, MakesFlow, TakesFrom, HandsOn, AcksOn, In, Out, Splits}
use Rattle.flow_history.specs.Deeds.{History, data_of, acks_of, touch_of, steps_of}
use Rattle.flow_history.specs.Lawful.{IsLawful, IsHonest}
use Rattle.flow_history.specs.Log.{HasOrder, Entry, Queued, Abandoned, Handed, entries_of, log_of}
use Rattle.flow_history.specs.Log.{queued_of, abandoned_of, handed_of}
use Rattle.flow_history.proofs.Names.{name_is}
use Rattle.flow_history.proofs.Hands.{hands_over, hands_once}
use Rattle.flow_history.proofs.Projected.{is_run}

-- ---- what a touch says where it is one of this flow, and nothing else

queued_by_way : (k : Option (Option Opened)) (s t : Bool) (x y : Touch) → queued_at k x ≡ [] →
    queued_at k y ≡ [] → queued_at k (cond s x (cond t y Beside)) ≡ []
queued_by_way k true t x y e f = e
queued_by_way k false true x y e f = f
queued_by_way k false false x y e f = refl

queued_by_flow : (k : Option (Option Opened)) (t : Bool) (x : Touch) →
    queued_at k (cond t x Beside) ≡ cond t (queued_at k x) []
queued_by_flow k true x = refl
queued_by_flow k false x = refl

abandoned_by_way : (k : Option (Option Opened)) (s t : Bool) (x y : Touch) → abandoned_at k x ≡ [] →
    abandoned_at k y ≡ [] → abandoned_at k (cond s x (cond t y Beside)) ≡ []
abandoned_by_way k true t x y e f = e
abandoned_by_way k false true x y e f = f
abandoned_by_way k false false x y e f = refl

abandoned_by_flow : (k : Option (Option Opened)) (t : Bool) (x : Touch) →
    abandoned_at k (cond t x Beside) ≡ cond t (abandoned_at k x) []
abandoned_by_flow k true x = refl
abandoned_by_flow k false x = refl

handed_by_way : (k : Option (Option Receiver)) (s t : Bool) (x y : Touch) → handed_at k x ≡ [] →
    handed_at k y ≡ [] → handed_at k (cond s x (cond t y Beside)) ≡ []
handed_by_way k true t x y e f = e
handed_by_way k false true x y e f = f
handed_by_way k false false x y e f = refl

handed_by_flow : (k : Option (Option Receiver)) (t : Bool) (x : Touch) →
    handed_at k (cond t x Beside) ≡ cond t (handed_at k x) []
handed_by_flow k true x = refl
handed_by_flow k false x = refl

either_none : {X : Type 0} (t : Bool) → ◌≡◌ {A = List X} (cond t [] []) []
either_none true = refl
either_none false = refl

-- ---- what an entry says of this flow

queued_notes : (m n : Name) (t : Bool) → same_name m n ≡ t →
    (qs : List Message) (gone : List ℕ) (rest : List Entry) →
    queued_of n
    ((map (λ (x : Message). Queued m x) qs ++ map
    (λ (i : ℕ). Abandoned m i) gone) ++ rest) ≡ cond t qs [] ++ queued_of n rest
queued_notes m n t e [] [] rest = ap (λ (xs : List Message). xs ++ queued_of n rest)
    (sym (either_none t))
queued_notes m n t e [] (i ∷ gone) rest = queued_notes m n t e [] gone rest
queued_notes m n true e (x ∷ qs) gone rest =
    ap (λ b. cond b
    (x ∷ queued_of n
    ((map (λ (y : Message). Queued m y) qs ++ map (λ (i : ℕ). Abandoned m i) gone) ++ rest))
    (queued_of n ((map (λ (y : Message). Queued m y) qs ++ map
    (λ (i : ℕ). Abandoned m i) gone) ++ rest))) e
    ∙ ap (λ ys. x ∷ ys) (queued_notes m n true e qs gone rest)
queued_notes m n false e (x ∷ qs) gone rest =
    ap (λ b. cond b
    (x ∷ queued_of n
    ((map (λ (y : Message). Queued m y) qs ++ map (λ (i : ℕ). Abandoned m i) gone) ++ rest))
    (queued_of n ((map (λ (y : Message). Queued m y) qs ++ map
    (λ (i : ℕ). Abandoned m i) gone) ++ rest))) e
    ∙ queued_notes m n false e qs gone rest

abandoned_notes : (m n : Name) (t : Bool) → same_name m n ≡ t →
    (qs : List Message) (gone : List ℕ) (rest : List Entry) →
    abandoned_of n
    ((map (λ (x : Message). Queued m x) qs ++ map
    (λ (i : ℕ). Abandoned m i) gone) ++ rest) ≡ cond t gone [] ++ abandoned_of n rest
abandoned_notes m n t e (x ∷ qs) gone rest = abandoned_notes m n t e qs gone rest
abandoned_notes m n t e [] [] rest =
    ap (λ (xs : List ℕ). xs ++ abandoned_of n rest) (sym (either_none t))
abandoned_notes m n true e [] (i ∷ gone) rest =
    ap (λ b. cond b (i ∷ abandoned_of n (map (λ (j : ℕ). Abandoned m j) gone ++ rest))
    (abandoned_of n (map (λ (j : ℕ). Abandoned m j) gone ++ rest))) e
    ∙ ap (λ ys. i ∷ ys) (abandoned_notes m n true e [] gone rest)
abandoned_notes m n false e [] (i ∷ gone) rest =
    ap (λ b. cond b (i ∷ abandoned_of n (map (λ (j : ℕ). Abandoned m j) gone ++ rest))
    (abandoned_of n (map (λ (j : ℕ). Abandoned m j) gone ++ rest))) e
    ∙ abandoned_notes m n false e [] gone rest

no_end : {X : Type 0} (xs : List X) → xs ++ [] ≡ xs
no_end [] = refl
no_end (x ∷ xs) = ap (λ ys. x ∷ ys) (no_end xs)

no_more : {X : Type 0} (xs : List X) (t : Bool) → ◌≡◌ {A = List X} xs (xs ++ cond t [] [])
no_more xs true = sym (no_end xs)
no_more xs false = sym (no_end xs)

run_notes : (m n : Name) (t : Bool) → same_name m n ≡ t → (o : Option Run) (rest : List Entry) →
    handed_of n
    (map (λ (x : Message). Handed m x) (message_in o) ++ rest) ≡ handed_of n rest ++ cond t
    (message_in o) []
run_notes m n t e None rest = no_more (handed_of n rest) t
run_notes m n t e (Some y) rest = ap (λ b. handed_of n rest ++ cond b (message_of y ∷ []) []) e

handed_notes : (m n : Name) (t : Bool) → same_name m n ≡ t →
    (k : Option (Option Receiver)) (rest : List Entry) →
    handed_of n
    (map (λ (x : Message). Handed m x) (handed_next_by k) ++ rest) ≡ handed_of n rest ++ cond t
    (handed_next_by k) []
handed_notes m n t e None rest = no_more (handed_of n rest) t
handed_notes m n t e (Some None) rest = no_more (handed_of n rest) t
handed_notes m n t e (Some (Some r)) rest = run_notes m n t e (next_run r) rest

-- acts and handings over leave the other lists as they are
handed_beside : (m n : Name) (qs : List Message) (gone : List ℕ) (rest : List Entry) →
    handed_of n
    ((map (λ (x : Message). Queued m x) qs ++ map
    (λ (i : ℕ). Abandoned m i) gone) ++ rest) ≡ handed_of n rest
handed_beside m n [] [] rest = refl
handed_beside m n [] (i ∷ gone) rest = handed_beside m n [] gone rest
handed_beside m n (x ∷ qs) gone rest = handed_beside m n qs gone rest

queued_beside : (m n : Name) (hs : List Message) (rest : List Entry) →
    queued_of n (map (λ (x : Message). Handed m x) hs ++ rest) ≡ queued_of n rest
queued_beside m n [] rest = refl
queued_beside m n (x ∷ hs) rest = queued_beside m n hs rest

abandoned_beside : (m n : Name) (hs : List Message) (rest : List Entry) →
    abandoned_of n (map (λ (x : Message). Handed m x) hs ++ rest) ≡ abandoned_of n rest
abandoned_beside m n [] rest = refl
abandoned_beside m n (x ∷ hs) rest = abandoned_beside m n hs rest

-- of another flow nothing, of this one the same
only_this : {X : Type 0} (f : Name → List X) (m n : Name) (t : Bool) → same_name m n ≡ t →
    ◌≡◌ {A = List X} (cond t (f m) []) (cond t (f n) [])
only_this f m n true e = ap f (name_is m n e)
only_this f m n false e = refl

-- ---- the deeds

empty_front : {X : Type 0} (xs ys : List X) → xs ≡ [] → ys ≡ xs ++ ys
empty_front xs ys e = ap (λ zs. zs ++ ys) (sym e)

empty_end : {X : Type 0} (xs ys : List X) → xs ≡ [] → ys ≡ ys ++ xs
empty_end xs ys e = sym (no_end ys) ∙ ap (λ zs. ys ++ zs) (sym e)

queued_deed : (n : Name) (h : History) (who : ℕ) (d : Deed) (rest : List Entry) →
    queued_of n (entries_of h who d ++ rest) ≡ queued_at (sending_at (steps_of n h) who)
    (touch_of n d) ++ queued_of n rest
queued_deed n h who (Begins c) rest =
    empty_front (queued_at (sending_at (steps_of n h) who) (touch_of n (Begins c)))
    (queued_of n rest)
    (queued_by_way (sending_at (steps_of n h) who) (same c n.context) (same (back c) n.context)
    (BySender SendingBegins) (ByReceiver TakingBegins) refl refl)
queued_deed n h who (Leaves c) rest =
    empty_front (queued_at (sending_at (steps_of n h) who) (touch_of n (Leaves c)))
    (queued_of n rest)
    (queued_by_way (sending_at (steps_of n h) who) (same c n.context) (same (back c) n.context)
    (BySender SendingEnds) (ByReceiver TakingEnds) refl refl)
queued_deed n h who (OpensFlow m b) rest =
    empty_front (queued_at (sending_at (steps_of n h) who) (touch_of n (OpensFlow m b)))
    (queued_of n rest)
    (queued_by_flow (sending_at (steps_of n h) who) (same_name m n) (BySender (Opens b))
    ∙ either_none (same_name m n))
queued_deed n h who (ActsOn m act) rest =
    queued_notes m n (same_name m n) refl (queued_act (sending_at (steps_of m h) who) act)
    (abandoned_act (sending_at (steps_of m h) who) act) rest
    ∙ ap (λ xs. xs ++ queued_of n rest) (
    only_this (λ k. queued_act (sending_at (steps_of k h) who) act) m n (same_name m n) refl
    ∙ sym (queued_by_flow (sending_at (steps_of n h) who) (same_name m n) (BySender (Acts act)))
    )
queued_deed n h who (MakesFlow m b) rest =
    empty_front (queued_at (sending_at (steps_of n h) who) (touch_of n (MakesFlow m b)))
    (queued_of n rest)
    (queued_by_flow (sending_at (steps_of n h) who) (same_name m n) (ByReceiver (Makes b))
    ∙ either_none (same_name m n))
queued_deed n h who (TakesFrom m c) rest =
    empty_front (queued_at (sending_at (steps_of n h) who) (touch_of n (TakesFrom m c)))
    (queued_of n rest)
    (queued_by_flow (sending_at (steps_of n h) who) (same_name m n) (ByReceiver (Takes c))
    ∙ either_none (same_name m n))
queued_deed n h who (HandsOn m) rest =
    queued_beside m n (handed_next_by (taking_at (steps_of m h) who)) rest
    ∙ empty_front (queued_at (sending_at (steps_of n h) who) (touch_of n (HandsOn m)))
    (queued_of n rest)
    (queued_by_flow (sending_at (steps_of n h) who) (same_name m n) (ByReceiver Hands)
    ∙ either_none (same_name m n))
queued_deed n h who (AcksOn m pairs) rest =
    empty_front (queued_at (sending_at (steps_of n h) who) (touch_of n (AcksOn m pairs)))
    (queued_of n rest)
    (queued_by_flow (sending_at (steps_of n h) who) (same_name m n) (ByReceiver (Acks pairs))
    ∙ either_none (same_name m n))
queued_deed n h who (In c pieces) rest = refl
queued_deed n h who (Splits c id size packet) rest = refl
queued_deed n h who (Out c pieces) rest =
    empty_front (queued_at (sending_at (steps_of n h) who) (touch_of n (Out c pieces)))
    (queued_of n rest)
    (queued_by_way (sending_at (steps_of n h) who) (same c n.context) (same (back c) n.context)
    (Goes (data_of n.flow pieces) []) (Goes [] (acks_of n.flow pieces)) refl refl)

pub queued_logged : (n : Name) (h : History) → queued_of n (log_of h) ≡ queued_in (steps_of n h)
queued_logged n [] = refl
queued_logged n (d ∷ h) =
    queued_deed n h d.who d.deed (log_of h)
    ∙ ap (λ xs. queued_at (sending_at (steps_of n h) d.who) (touch_of n d.deed) ++ xs)
    (queued_logged n h)

abandoned_deed : (n : Name) (h : History) (who : ℕ) (d : Deed) (rest : List Entry) →
    abandoned_of n (entries_of h who d ++ rest) ≡ abandoned_at (sending_at (steps_of n h) who)
    (touch_of n d) ++ abandoned_of n rest
abandoned_deed n h who (Begins c) rest =
    empty_front (abandoned_at (sending_at (steps_of n h) who) (touch_of n (Begins c)))
    (abandoned_of n rest)
    (abandoned_by_way (sending_at (steps_of n h) who) (same c n.context) (same (back c) n.context)
    (BySender SendingBegins) (ByReceiver TakingBegins) refl refl)
abandoned_deed n h who (Leaves c) rest =
    empty_front (abandoned_at (sending_at (steps_of n h) who) (touch_of n (Leaves c)))
    (abandoned_of n rest)
    (abandoned_by_way (sending_at (steps_of n h) who) (same c n.context) (same (back c) n.context)
    (BySender SendingEnds) (ByReceiver TakingEnds) refl refl)
abandoned_deed n h who (OpensFlow m b) rest =
    empty_front (abandoned_at (sending_at (steps_of n h) who) (touch_of n (OpensFlow m b)))
    (abandoned_of n rest)
    (abandoned_by_flow (sending_at (steps_of n h) who) (same_name m n) (BySender (Opens b))
    ∙ either_none (same_name m n))
abandoned_deed n h who (ActsOn m act) rest =
    abandoned_notes m n (same_name m n) refl (queued_act (sending_at (steps_of m h) who) act)
    (abandoned_act (sending_at (steps_of m h) who) act) rest
    ∙ ap (λ xs. xs ++ abandoned_of n rest) (
    only_this (λ k. abandoned_act (sending_at (steps_of k h) who) act) m n (same_name m n) refl
    ∙ sym (abandoned_by_flow (sending_at (steps_of n h) who) (same_name m n) (BySender (Acts act)))
    )
abandoned_deed n h who (MakesFlow m b) rest =
    empty_front (abandoned_at (sending_at (steps_of n h) who) (touch_of n (MakesFlow m b)))
    (abandoned_of n rest)
    (abandoned_by_flow (sending_at (steps_of n h) who) (same_name m n) (ByReceiver (Makes b))
    ∙ either_none (same_name m n))
abandoned_deed n h who (TakesFrom m c) rest =
    empty_front (abandoned_at (sending_at (steps_of n h) who) (touch_of n (TakesFrom m c)))
    (abandoned_of n rest)
    (abandoned_by_flow (sending_at (steps_of n h) who) (same_name m n) (ByReceiver (Takes c))
    ∙ either_none (same_name m n))
abandoned_deed n h who (HandsOn m) rest =
    abandoned_beside m n (handed_next_by (taking_at (steps_of m h) who)) rest
    ∙ empty_front (abandoned_at (sending_at (steps_of n h) who) (touch_of n (HandsOn m)))
    (abandoned_of n rest)
    (abandoned_by_flow (sending_at (steps_of n h) who) (same_name m n) (ByReceiver Hands)
    ∙ either_none (same_name m n))
abandoned_deed n h who (AcksOn m pairs) rest =
    empty_front (abandoned_at (sending_at (steps_of n h) who) (touch_of n (AcksOn m pairs)))
    (abandoned_of n rest)
    (abandoned_by_flow (sending_at (steps_of n h) who) (same_name m n) (ByReceiver (Acks pairs))
    ∙ either_none (same_name m n))
abandoned_deed n h who (In c pieces) rest = refl
abandoned_deed n h who (Splits c id size packet) rest = refl
abandoned_deed n h who (Out c pieces) rest =
    empty_front (abandoned_at (sending_at (steps_of n h) who) (touch_of n (Out c pieces)))
    (abandoned_of n rest)
    (abandoned_by_way (sending_at (steps_of n h) who) (same c n.context) (same (back c) n.context)
    (Goes (data_of n.flow pieces) []) (Goes [] (acks_of n.flow pieces)) refl refl)

pub abandoned_logged : (n : Name) (h : History) →
    abandoned_of n (log_of h) ≡ abandoned_in (steps_of n h)
abandoned_logged n [] = refl
abandoned_logged n (d ∷ h) =
    abandoned_deed n h d.who d.deed (log_of h)
    ∙ ap (λ xs. abandoned_at (sending_at (steps_of n h) d.who) (touch_of n d.deed) ++ xs)
    (abandoned_logged n h)

handed_deed : (n : Name) (h : History) (who : ℕ) (d : Deed) (rest : List Entry) →
    handed_of n (entries_of h who d ++ rest) ≡ handed_of n rest ++ handed_at
    (taking_at (steps_of n h) who) (touch_of n d)
handed_deed n h who (Begins c) rest =
    empty_end (handed_at (taking_at (steps_of n h) who) (touch_of n (Begins c))) (handed_of n rest)
    (handed_by_way (taking_at (steps_of n h) who) (same c n.context) (same (back c) n.context)
    (BySender SendingBegins) (ByReceiver TakingBegins) refl refl)
handed_deed n h who (Leaves c) rest =
    empty_end (handed_at (taking_at (steps_of n h) who) (touch_of n (Leaves c))) (handed_of n rest)
    (handed_by_way (taking_at (steps_of n h) who) (same c n.context) (same (back c) n.context)
    (BySender SendingEnds) (ByReceiver TakingEnds) refl refl)
handed_deed n h who (OpensFlow m b) rest =
    empty_end (handed_at (taking_at (steps_of n h) who) (touch_of n (OpensFlow m b)))
    (handed_of n rest)
    (handed_by_flow (taking_at (steps_of n h) who) (same_name m n) (BySender (Opens b))
    ∙ either_none (same_name m n))
handed_deed n h who (ActsOn m act) rest =
    handed_beside m n (queued_act (sending_at (steps_of m h) who) act)
    (abandoned_act (sending_at (steps_of m h) who) act) rest
    ∙ empty_end (handed_at (taking_at (steps_of n h) who) (touch_of n (ActsOn m act)))
    (handed_of n rest)
    (handed_by_flow (taking_at (steps_of n h) who) (same_name m n) (BySender (Acts act))
    ∙ either_none (same_name m n))
handed_deed n h who (MakesFlow m b) rest =
    empty_end (handed_at (taking_at (steps_of n h) who) (touch_of n (MakesFlow m b)))
    (handed_of n rest)
    (handed_by_flow (taking_at (steps_of n h) who) (same_name m n) (ByReceiver (Makes b))
    ∙ either_none (same_name m n))
handed_deed n h who (TakesFrom m c) rest =
    empty_end (handed_at (taking_at (steps_of n h) who) (touch_of n (TakesFrom m c)))
    (handed_of n rest)
    (handed_by_flow (taking_at (steps_of n h) who) (same_name m n) (ByReceiver (Takes c))
    ∙ either_none (same_name m n))
handed_deed n h who (HandsOn m) rest =
    handed_notes m n (same_name m n) refl (taking_at (steps_of m h) who) rest
    ∙ ap (λ xs. handed_of n rest ++ xs) (
    only_this (λ k. handed_next_by (taking_at (steps_of k h) who)) m n (same_name m n) refl
    ∙ sym (handed_by_flow (taking_at (steps_of n h) who) (same_name m n) (ByReceiver Hands))
    )
handed_deed n h who (AcksOn m pairs) rest =
    empty_end (handed_at (taking_at (steps_of n h) who) (touch_of n (AcksOn m pairs)))
    (handed_of n rest)
    (handed_by_flow (taking_at (steps_of n h) who) (same_name m n) (ByReceiver (Acks pairs))
    ∙ either_none (same_name m n))
handed_deed n h who (In c pieces) rest = sym (no_end (handed_of n rest))
handed_deed n h who (Splits c id size packet) rest = sym (no_end (handed_of n rest))
handed_deed n h who (Out c pieces) rest =
    empty_end (handed_at (taking_at (steps_of n h) who) (touch_of n (Out c pieces)))
    (handed_of n rest)
    (handed_by_way (taking_at (steps_of n h) who) (same c n.context) (same (back c) n.context)
    (Goes (data_of n.flow pieces) []) (Goes [] (acks_of n.flow pieces)) refl refl)

pub handed_logged : (n : Name) (h : History) → handed_of n (log_of h) ≡ handed_in (steps_of n h)
handed_logged n [] = refl
handed_logged n (d ∷ h) =
    handed_deed n h d.who d.deed (log_of h)
    ∙ ap (λ xs. xs ++ handed_at (taking_at (steps_of n h) d.who) (touch_of n d.deed))
    (handed_logged n h)

-- ---- the law

lawful_before : (later early : History) → IsLawful (later ++ early) → IsLawful early
lawful_before [] early l = l
lawful_before (d ∷ later) early l = lawful_before later early l.1

honest_before : (later early : History) → IsHonest (later ++ early) → IsHonest early
honest_before [] early l = l
honest_before (d ∷ later) early l = honest_before later early l.1

pub history_hands_over : (later early : History) → IsLawful (later ++ early) →
    IsHonest (later ++ early) → (n : Name) → HasOrder false n early →
    HandsOver (queued_of n (log_of early)) (abandoned_of n (log_of early))
    (handed_of n (log_of early))
history_hands_over later early lawful honest n order =
    let k = hands_over (steps_of n early)
    (is_run n early (lawful_before later early lawful) (honest_before later early honest)) order
    in
    subst (λ (q : List Message). HandsOver q (abandoned_of n (log_of early))
    (handed_of n (log_of early))) (sym (queued_logged n early))
    (
    subst (λ (a : List ℕ). HandsOver (queued_in (steps_of n early)) a (handed_of n (log_of early)))
    (sym (abandoned_logged n early))
    (subst (λ (m : List Message). HandsOver (queued_in (steps_of n early))
    (abandoned_in (steps_of n early)) m) (sym (handed_logged n early)) k)
    )

pub history_hands_once : (later early : History) → IsLawful (later ++ early) →
    IsHonest (later ++ early) → (n : Name) → HasOrder true n early →
    HandsOnce (queued_of n (log_of early)) (handed_of n (log_of early))
history_hands_once later early lawful honest n order =
    let k = hands_once (steps_of n early)
    (is_run n early (lawful_before later early lawful) (honest_before later early honest)) order
    in
    subst (λ (q : List Message). HandsOnce q (handed_of n (log_of early)))
    (sym (queued_logged n early))
    (subst (λ (m : List Message). HandsOnce (queued_in (steps_of n early)) m)
    (sym (handed_logged n early)) k)
