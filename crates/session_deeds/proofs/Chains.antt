-- One thing after another is one list of deeds after another.
use Rattle.std.proofs.Common.{◌≡◌, List, [], ◌∷◌, ◌++◌, refl, sym, ap, ◌∙◌, subst, inl, inr}
use Rattle.std.proofs.Common.{append_assoc, append-nil}
use Rattle.flow_history.specs.Deeds.{Piece}
use Rattle.flow_history.specs.Keeping.{Flows}
use Rattle.session_flows.specs.Keeping.{FlowsState, Did, nothing, then_do, Stated, Opened, Queued}
use Rattle.session_flows.specs.Keeping.{Abandoned, Finished, Handed}
use Rattle.session_deeds.specs.Deeds.{Deed, May, MayAll, did, did_all, told, told_all}
use Rattle.session_deeds.specs.Shows.{Shows}
use Rattle.session_deeds.specs.Goes.{of_messages, IsDoneBy, Goes, IsSaid, AllSaid}

-- ---- lists of deeds

pub did_joined : (xs ys : List Deed) (fl : Flows) →
    did_all fl (xs ++ ys) ≡ did_all (did_all fl xs) ys
did_joined [] ys fl = refl
did_joined (x ∷ xs) ys fl = did_joined xs ys (did fl x)

pub told_joined : (xs ys : List Deed) (fl : Flows) →
    told_all fl (xs ++ ys) ≡ told_all fl xs ++ told_all (did_all fl xs) ys
told_joined [] ys fl = refl
told_joined (x ∷ xs) ys fl = ap (λ (l : List Stated). told fl x ++ l) (told_joined xs ys (did fl x))
    ∙ sym (append_assoc (told fl x) (told_all (did fl x) xs) (told_all (did_all (did fl x) xs) ys))

pub may_joined : (came : List Piece) (xs ys : List Deed) (fl : Flows) → MayAll came fl xs →
    MayAll came (did_all fl xs) ys → MayAll came fl (xs ++ ys)
may_joined came [] ys fl h k = k
may_joined came (x ∷ xs) ys fl h k = (h.0, may_joined came xs ys (did fl x) h.1 k)

-- what is said by the first deeds is said by all, and so is what the others say
pub said_first : (xs ys : List Deed) (fl : Flows) (p : Piece) → IsSaid fl xs p →
    IsSaid fl (xs ++ ys) p
said_first [] ys fl p h = absurd h
said_first (x ∷ xs) ys fl p (inl h) = inl h
said_first (x ∷ xs) ys fl p (inr h) = inr (said_first xs ys (did fl x) p h)

pub said_later : (xs ys : List Deed) (fl : Flows) (p : Piece) → IsSaid (did_all fl xs) ys p →
    IsSaid fl (xs ++ ys) p
said_later [] ys fl p h = h
said_later (x ∷ xs) ys fl p h = inr (said_later xs ys (did fl x) p h)

pub all_first : (xs ys : List Deed) (fl : Flows) (ps : List Piece) → AllSaid fl xs ps →
    AllSaid fl (xs ++ ys) ps
all_first xs ys fl [] h = tt
all_first xs ys fl (p ∷ ps) h = (said_first xs ys fl p h.0, all_first xs ys fl ps h.1)

pub all_later : (xs ys : List Deed) (fl : Flows) (ps : List Piece) → AllSaid (did_all fl xs) ys ps →
    AllSaid fl (xs ++ ys) ps
all_later xs ys fl [] h = tt
all_later xs ys fl (p ∷ ps) h = (said_later xs ys fl p h.0, all_later xs ys fl ps h.1)

pub all_joined : (fl : Flows) (deeds : List Deed) (ps qs : List Piece) → AllSaid fl deeds ps →
    AllSaid fl deeds qs → AllSaid fl deeds (ps ++ qs)
all_joined fl deeds [] qs h k = k
all_joined fl deeds (p ∷ ps) qs h k = (h.0, all_joined fl deeds ps qs h.1 k)

-- ---- what is stated

pub messages_joined : (xs ys : List Stated) →
    of_messages (xs ++ ys) ≡ of_messages xs ++ of_messages ys
messages_joined [] ys = refl
messages_joined (Opened flow ∷ xs) ys = messages_joined xs ys
messages_joined (Queued flow seq message ∷ xs) ys =
    ap (λ (l : List Stated). Queued flow seq message ∷ l) (messages_joined xs ys)
messages_joined (Abandoned flow seq ∷ xs) ys =
    ap (λ (l : List Stated). Abandoned flow seq ∷ l) (messages_joined xs ys)
messages_joined (Finished flow seq ∷ xs) ys = messages_joined xs ys
messages_joined (Handed flow seq message ∷ xs) ys =
    ap (λ (l : List Stated). Handed flow seq message ∷ l) (messages_joined xs ys)

-- ---- things

-- a thing, by another name
pub same_goes : (came : List Piece) (s : FlowsState) (d e : Did) → d ≡ e → Goes came s d →
    Goes came s e
same_goes came s d e same h = subst (λ (x : Did). Goes came s x) same h

pub none_goes : (came : List Piece) (s : FlowsState) → Goes came s (nothing s)
none_goes came s fl shows = ([], record { may = tt; shows = shows; states = refl })

pub done_then : (came : List Piece) (fl : Flows) (d : Did) (next : FlowsState → Did)
    (xs ys : List Deed) → IsDoneBy came fl d xs → IsDoneBy came (did_all fl xs) (next d.flows) ys →
    IsDoneBy came fl (then_do d next) (xs ++ ys)
done_then came fl d next xs ys a b = record {
  may = may_joined came xs ys fl a.may b.may;
  shows = subst (λ (x : Flows). Shows (next d.flows).flows x) (sym (did_joined xs ys fl)) b.shows;
  states = told_joined xs ys fl
      ∙ ap (λ (l : List Stated). l ++ told_all (did_all fl xs) ys) a.states
      ∙ ap (λ (l : List Stated). of_messages d.stated ++ l) b.states
      ∙ sym (messages_joined d.stated (next d.flows).stated);
}

pub then_goes : (came : List Piece) (s : FlowsState) (d : Did) (next : FlowsState → Did) →
    Goes came s d → Goes came d.flows (next d.flows) → Goes came s (then_do d next)
then_goes came s d next first second fl shows =
    let a = first fl shows in
    let b = second (did_all fl a.0) a.1.shows in
    (a.0 ++ b.0, done_then came fl d next a.0 b.0 a.1 b.1)

-- one deed
pub one_goes : (came : List Piece) (fl : Flows) (d : Did) (deed : Deed) → May came fl deed →
    Shows d.flows (did fl deed) → told fl deed ≡ of_messages d.stated →
    IsDoneBy came fl d (deed ∷ [])
one_goes came fl d deed may shows states =
    record { may = (may, tt); shows = shows; states = append-nil (told fl deed) ∙ states }
