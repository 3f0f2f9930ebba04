-- What is done with a user data chunk is deeds, and so is what is handed over.
use Prim.Native.Nat.{zero, suc}
use Rattle.std.proofs.Common.{◌≡◌, ℕ, ◌+◌, ◌<◌, ◌^◌, Bool, true, false, cond, not, ◌&&◌, ◌||◌}
use Rattle.std.proofs.Common.{nat_lt, min, max, is_some, is_none, List, [], ◌∷◌, Option, Some, None}
use Rattle.std.proofs.Common.{option_map, length, map, refl, ap, ◌∙◌, subst, arith}
use Rattle.rtmfp_data_chunks.specs.Chunk.{UserParts}
use Rattle.rtmfp_data_chunks.specs.HandsOver.{IsIn}
use Rattle.rtmfp_data_chunks.specs.Runs.{Run}
use Rattle.flow_recv.specs.declared.spans.Span.{Span}
use Rattle.flow_recv.specs.Receiver.{Receiver, span, fresh, add_span, next_run, handed_next}
use Rattle.flow_recv.proofs.Knowing.{apart_add}
use Rattle.flow_history.specs.Run.{message_in, handed_next_by}
use Rattle.flow_history.specs.Deeds.{Piece, Data}
use Rattle.rtmfp_base.specs.Reasons.{where_true, first_that_stands}
use Rattle.session_core.specs.Session.{SessionState}
use Rattle.session_core.specs.Closing.{is_held}
use Rattle.rtmfp_base.specs.declared.cause.Cause.{Cause}
use Rattle.rtmfp_base.specs.declared.cause.Cause.TheVariants.{WrongState, UnknownFlow}
use Rattle.rtmfp_base.specs.declared.cause.Cause.TheVariants.{FlowsFull}
use Rattle.session_flows.specs.declared.taking.TakingFlow.{TakingFlow}
use Rattle.session_flows.specs.Told.{begins_with_a}
use Rattle.session_flows.specs.Keeping.{FlowsState, taking_at, with_changed, new_taking, nothing}
use Rattle.session_flows.specs.Causes.{piece_of, metadata_of, order_of, is_unknown, is_one_too_many}
use Rattle.session_flows.specs.Causes.{early_cause, receiver_cause}
use Rattle.session_flows.specs.Handing.{with_receiver, handed_run, hands_by, hands_once, hands}
use Rattle.session_flows.specs.Handing.{hands_all, most_by}
use Rattle.session_flows.specs.Chunks.{made_by, made, taken_of, data_taken}
use Rattle.session_flows.proofs.Hearing.{room_for}
use Rattle.session_deeds.specs.Deeds.{Makes, Takes, Hands, taken_by, handed_by, as_handed}
use Rattle.session_deeds.specs.Shows.{receiver_of, AreNarrow, IsTellable}
use Rattle.session_deeds.specs.Goes.{Goes}
use Rattle.rtmfp_data_chunks.specs.Fitting.{IsReadable}
use Rattle.session_deeds.specs.Pieces.{carried_of}
use Rattle.session_deeds.specs.Laws.{DataGoes, HandingGoes, HandingOneGoes}
use Rattle.session_deeds.proofs.Chains.{none_goes, one_goes, then_goes}
use Rattle.session_deeds.proofs.Lists.{each_in, added_there}
use Rattle.session_deeds.proofs.Changing.{changed_shows, made_shows}

-- ---- what a receiver tells

narrow_by : (a b : ℕ) (s : Span) (later : List Span) (p q : Bool) → s.last < 2 ^ 64 → b < 2 ^ 64 →
    AreNarrow later → AreNarrow (add_span a b later) →
    AreNarrow (add_span (min a s.first) (max b s.last) later) →
    AreNarrow (cond p (s ∷ add_span a b later)
    (cond q (span a b ∷ s ∷ later) (add_span (min a s.first) (max b s.last) later)))
narrow_by a b s later true q low few h ih joined = (low, ih)
narrow_by a b s later false true low few h ih joined = (few, (low, h))
narrow_by a b s later false false low few h ih joined = joined

narrow_add : (a b : ℕ) (ss : List Span) → b < 2 ^ 64 → AreNarrow ss → AreNarrow (add_span a b ss)
narrow_add a b [] few h = (few, tt)
narrow_add a b (s ∷ later) few h =
    narrow_by a b s later (nat_lt (s.last + 1) a) (nat_lt (b + 1) s.first) h.0 few h.1
    (narrow_add a b later few h.1)
    (narrow_add (min a s.first) (max b s.last) later (omega (arith, few, h.0)) h.1)

taken_tells : (user : UserParts) (t : TakingFlow) → IsReadable user → IsTellable t →
    IsTellable (taken_of user t)
taken_tells user t read h =
    let forward : user.forward < 2 ^ 64 = omega (arith, read.seq, read.behind.0) in
    record {
      id = h.id;
      apart = apart_add user.seq user.seq (add_span 0 user.forward t.receiver.spans) (omega arith)
          (apart_add 0 user.forward t.receiver.spans (omega arith) h.apart);
      narrow = narrow_add user.seq user.seq (add_span 0 user.forward t.receiver.spans) read.seq
          (narrow_add 0 user.forward t.receiver.spans forward h.narrow);
    }

new_tells : (flow : ℕ) (arriving : Bool) → flow < 2 ^ 64 →
    IsTellable (new_taking flow (fresh arriving))
new_tells flow arriving few =
    record { id = few; apart = (omega arith, λ t n. absurd n, tt); narrow = (omega arith, tt) }

-- ---- it is made, where it isn't there

all_false : (a b d : Bool) →
    first_that_stands
    (where_true a WrongState ∷ where_true b UnknownFlow ∷ where_true d (FlowsFull 256) ∷ [])
    ≡ None → b ≡ false
all_false true b d h = absurd cc
all_false false true d h = absurd cc
all_false false false d h = refl

early_none : (e r : Option Cause) → first_that_stands (e ∷ r ∷ []) ≡ None → e ≡ None
early_none None r h = refl
early_none (Some x) r h = absurd cc

told_by : (o : Option TakingFlow) (m : Option (List ℕ)) (q : Bool) → o ≡ None →
    ((not (is_some o) && is_none m) || q) ≡ false → option_map begins_with_a m ≡ Some (order_of m)
told_by None (Some m) q e h = refl
told_by None None q e h = absurd cc
told_by (Some t) m q e h = absurd cc

-- a chunk that makes its flow tells its order
order_told : (session : SessionState) (s : FlowsState) (user : UserParts) →
    early_cause session s user ≡ None → taking_at s user.flow ≡ None →
    option_map begins_with_a (metadata_of user) ≡ Some (order_of (metadata_of user))
order_told session s user free none =
    told_by (taking_at s user.flow) (metadata_of user) _ none
    (all_false (not (is_held session.stage)) (is_unknown s user) (is_one_too_many s user) free)

makes_goes : (came : List Piece) (session : SessionState) (s : FlowsState) (user : UserParts)
    (o : Option TakingFlow) → IsReadable user → early_cause session s user ≡ None →
    IsIn (Data user.flow (carried_of user)) came →
    taking_at s user.flow ≡ o → Goes came s (nothing (made_by s user o))
makes_goes came session s user (Some t) read free is there fl h = none_goes came s fl h
makes_goes came session s user None read free is none fl h =
    let arriving : Bool = order_of (metadata_of user) in
    let t : TakingFlow = new_taking user.flow (fresh arriving) in
    let gone : fl.made user.flow ≡ None = h.made user.flow
    ∙ ap (λ (o : Option TakingFlow). option_map receiver_of o) none in
    let tells : IsIn
    (Data user.flow (record { chunk = piece_of user; order = Some arriving })) came =
    subst (λ (b : Option Bool). IsIn
    (Data user.flow (record { chunk = piece_of user; order = b })) came)
    (order_told session s user free none) is in
    let few : length s.taking < 256 =
    room_for session s user free (ap (λ (o : Option TakingFlow). is_some o) none) in (
      Makes user.flow arriving ∷ [],
      one_goes came fl _ (Makes user.flow arriving) (gone, piece_of user, tells)
          (made_shows s fl arriving t h none refl few (new_tells user.flow arriving read.flow))
          refl,
    )

made_there : (s : FlowsState) (user : UserParts) (o : Option TakingFlow) →
    taking_at s user.flow ≡ o → (t : TakingFlow) × (taking_at (made_by s user o) user.flow ≡ Some t)
made_there s user (Some t) there = (t, there)
made_there s user None none =
    let t : TakingFlow = new_taking user.flow (fresh (order_of (metadata_of user))) in
    (t, added_there t s.taking none)

-- ---- it takes the chunk

takes_goes : (came : List Piece) (s : FlowsState) (user : UserParts) (t : TakingFlow) →
    IsReadable user → taking_at s user.flow ≡ Some t →
    IsIn (Data user.flow (carried_of user)) came →
    Goes came s (nothing (with_changed s user.flow (taken_of user)))
takes_goes came s user t read there is fl h =
    let made_is : fl.made user.flow ≡ Some t.receiver = h.made user.flow
    ∙ ap (λ (o : Option TakingFlow). option_map receiver_of o) there in
    let before : IsTellable t = each_in IsTellable user.flow t s.taking there h.tellable in (
      Takes user.flow (piece_of user) ∷ [],
      one_goes came fl _ (Takes user.flow (piece_of user))
          ((t.receiver, made_is), (carried_of user).order, is)
          (changed_shows s fl user.flow (taken_by (piece_of user)) (taken_of user) t h
          (λ x. refl) there refl (taken_tells user t read before)) refl,
    )

taken_goes : (came : List Piece) (session : SessionState) (s : FlowsState) (user : UserParts) →
    IsReadable user → early_cause session s user ≡ None →
    IsIn (Data user.flow (carried_of user)) came → Goes came s (nothing (data_taken s user))
taken_goes came session s user read free is =
    let there = made_there s user (taking_at s user.flow) refl in
    then_goes came s (nothing (made s user))
    (λ u. nothing (with_changed u user.flow (taken_of user)))
    (makes_goes came session s user (taking_at s user.flow) read free is refl)
    (takes_goes came (made s user) user there.0 read there.1 is)

-- ---- it hands over

handed_goes : (came : List Piece) (s : FlowsState) (id : ℕ) (t : TakingFlow) (o : Option Run) →
    taking_at s id ≡ Some t → next_run t.receiver ≡ o → Goes came s (handed_run s id o)
handed_goes came s id t None there is fl h = none_goes came s fl h
handed_goes came s id t (Some y) there is fl h =
    let made_is : fl.made id ≡ Some t.receiver = h.made id
    ∙ ap (λ (o : Option TakingFlow). option_map receiver_of o) there in
    let before : IsTellable t = each_in IsTellable id t s.taking there h.tellable in (
      Hands id ∷ [],
      one_goes came fl (handed_run s id (Some y)) (Hands id) (t.receiver, y, made_is, is)
          (changed_shows s fl id handed_by (with_receiver handed_next) t h (λ x. refl) there refl
          (record { id = before.id; apart = before.apart; narrow = before.narrow }))
          (ap (λ (o : Option Receiver). map (as_handed id) (handed_next_by (Some o))) made_is
          ∙ ap (λ (o : Option Run). map (as_handed id) (message_in o)) is),
    )

hand_goes_by : (came : List Piece) (s : FlowsState) (id : ℕ) (o : Option TakingFlow) →
    taking_at s id ≡ o → Goes came s (hands_by s id o)
hand_goes_by came s id None there = none_goes came s
hand_goes_by came s id (Some t) there = handed_goes came s id t (next_run t.receiver) there refl

pub hand_goes : HandingOneGoes
hand_goes came s id = hand_goes_by came s id (taking_at s id) refl

hands_on : (came : List Piece) (id count : ℕ) (s : FlowsState) → Goes came s (hands count id s)
hands_on came id zero s = none_goes came s
hands_on came id (suc count) s =
    then_goes came s (hands_once s id) (hands count id) (hand_goes came s id)
    (hands_on came id count (hands_once s id).flows)

pub hands_goes : HandingGoes
hands_goes came s id count = hands_on came id count s

-- ---- all of it

pub data_goes : DataGoes
data_goes came session s user read free is =
    let early : early_cause session s user ≡ None =
    early_none (early_cause session s user) (receiver_cause s user) free in
    then_goes came s (nothing (data_taken s user)) (λ t. hands_all t user.flow)
    (taken_goes came session s user read early is)
    (hands_on came user.flow (most_by (taking_at (data_taken s user) user.flow))
    (data_taken s user))
