-- What is done with an ack, a buffer probe and an exception is deeds.
use Prim.Native.Nat.{zero, suc}
use Rattle.std.proofs.Common.{◌≡◌, ℕ, ◌≤◌, Bool, true, false, cond, not, nat_lt, List, [], ◌∷◌}
use Rattle.std.proofs.Common.{◌++◌, Option, Some, None, option_map, map, refl, sym, ap, ◌∙◌, subst}
use Rattle.std.specs.Prelude.{slice_get, slice_set}
use Rattle.std.specs.Option.{is_some}
use Rattle.std.proofs.lemmas.Bool.{eq-eqb, ltb-false}
use Rattle.rtmfp_data_chunks.specs.HandsOver.{IsIn}
use Rattle.flow_send.specs.declared.waiting.Waiting.{Waiting}
use Rattle.flow_send.specs.Flow.{Flow, with_sender}
use Rattle.flow_send.specs.Acks.{Told, greatest, beyond, told_by}
use Rattle.flow_send.specs.Sender.{Sender, message_at, abandoned, abandoned_with, first_number}
use Rattle.flow_send.specs.Sender.{finish_by}
use Rattle.flow_send.specs.Steady.{Steady}
use Rattle.flow_send.proofs.Ends.{next_unfinished}
use Rattle.flow_send.proofs.Steadies.{steady_told, steady_abandoned, steady_finished}
use Rattle.flow_exchange.specs.Sending.{Sending, AbandonsFirst, Finishes, Hears, abandons_one}
use Rattle.flow_exchange.specs.Sending.{abandons, finishes}
use Rattle.flow_history.specs.Flow.{alone}
use Rattle.flow_history.specs.Deeds.{Piece, Ack}
use Rattle.rtmfp_base.specs.Reasons.{where_true, first_that_stands}
use Rattle.session_core.specs.Closing.{is_held}
use Rattle.rtmfp_base.specs.declared.cause.Cause.{Cause}
use Rattle.rtmfp_base.specs.declared.cause.Cause.TheVariants.{WrongState, AckBeyond}
use Rattle.session_flows.specs.declared.taking.TakingFlow.{TakingFlow}
use Rattle.session_flows.specs.Keeping.{FlowsState, sending_at, with_flow, with_sending}
use Rattle.session_flows.specs.Keeping.{with_taking, Stated, Abandoned, Did, nothing}
use Rattle.session_flows.specs.Causes.{beyond_of}
use Rattle.session_flows.specs.Chunks.{heard_by, owing, all_abandoned, without_messages, last_by}
use Rattle.session_flows.specs.Chunks.{finished_at, numbers_of, rejecting_by}
use Rattle.session_flows.specs.Owing.{paid}
use Rattle.session_flows.proofs.Rejected.{first_gone}
use Rattle.session_deeds.specs.Deeds.{as_queued}
use Rattle.session_deeds.specs.Goes.{of_messages, Goes}
use Rattle.session_deeds.specs.Laws.{HearingGoes, ProbingGoes, RejectingGoes, ForgettingGoes}
use Rattle.session_deeds.proofs.Chains.{same_goes, none_goes, then_goes}
use Rattle.session_deeds.proofs.Lists.{set_there, Alike, changed_alike}
use Rattle.session_deeds.proofs.Changing.{act_goes, alike_shows}

-- ---- an ack

within_by : (sent most : ℕ) (b : Bool) → nat_lt sent most ≡ b → cond b (Some most) None ≡ None →
    most ≤ sent
within_by sent most true e h = absurd cc
within_by sent most false e h = ltb-false sent most e

none_beyond : (o : Option ℕ) → option_map AckBeyond o ≡ None → o ≡ None
none_beyond None e = refl
none_beyond (Some n) e = absurd cc

last_cause : (a : Bool) (o : Option Cause) →
    first_that_stands (where_true a WrongState ∷ o ∷ []) ≡ None → o ≡ None
last_cause true o e = absurd cc
last_cause false None e = refl
last_cause false (Some x) e = absurd cc

heard_goes_by : (came : List Piece) (s : FlowsState) (id : ℕ) (a : Told) (o : Option Flow) →
    sending_at s id ≡ o → beyond_of o a ≡ None → IsIn (Ack id a) came →
    Goes came s (nothing (heard_by s id a o))
heard_goes_by came s id a None there free is = none_goes came s
heard_goes_by came s id a (Some f) there free is =
    let few : greatest a.upto a.spans ≤ f.sender.sent =
    within_by f.sender.sent (greatest a.upto a.spans)
    (nat_lt f.sender.sent (greatest a.upto a.spans)) refl
    (none_beyond (beyond f.sender a) free) in
    act_goes came s id (Hears a) f (told_by a f.sender) [] there refl
    (λ steady. steady_told f.sender a steady few) is refl

pub hearing_goes : HearingGoes
hearing_goes came session s id a free is =
    heard_goes_by came s id a (sending_at s id) refl
    (last_cause (not (is_held session.stage)) (beyond_of (sending_at s id) a) free) is

-- ---- what is owed

alike_goes : (came : List Piece) (s : FlowsState) (taking : List TakingFlow) →
    Alike s.taking taking → Goes came s (nothing (with_taking s taking))
alike_goes came s taking a fl h =
    ([], record { may = tt; shows = alike_shows s fl taking h a; states = refl })

pub probing_goes : ProbingGoes
probing_goes came s id = alike_goes came s _ (changed_alike owing (λ x. (refl, refl)) id s.taking)

paid_alike : (ts : List TakingFlow) → Alike ts (map paid ts)
paid_alike [] = tt
paid_alike (t ∷ ts) = ((refl, refl), paid_alike ts)

pub forgetting_goes : ForgettingGoes
forgetting_goes came s = alike_goes came s (map paid s.taking) (paid_alike s.taking)

-- ---- an exception

set_back : (fs : List Flow) (i : ℕ) (f : Flow) → slice_get fs i ≡ Some f → slice_set fs i f ≡ fs
set_back [] i f e = refl
set_back (x ∷ xs) zero f e = cc
set_back (x ∷ xs) (suc i) f e = ap (λ (l : List Flow). x ∷ l) (set_back xs i f e)

set_again : (fs : List Flow) (i : ℕ) (f g : Flow) →
    slice_set (slice_set fs i f) i g ≡ slice_set fs i g
set_again [] i f g = refl
set_again (x ∷ xs) zero f g = refl
set_again (x ∷ xs) (suc i) f g = ap (λ (l : List Flow). x ∷ l) (set_again xs i f g)

-- the flow of an ID goes from one sender to another, and this is stated
abbrev went : FlowsState → ℕ → Flow → Sender → List Stated → Did
went s id f left stated = record { flows = with_flow s id (with_sender f left); stated = stated }

-- one change of it after another
pub went_on : (came : List Piece) (s : FlowsState) (id : ℕ) (f : Flow) (middle left : Sender)
    (first second : List Stated) → Goes came s (went s id f middle first) →
    Goes came (with_flow s id (with_sender f middle))
    (went (with_flow s id (with_sender f middle)) id (with_sender f middle) left second) →
    Goes came s (went s id f left (first ++ second))
went_on came s id f middle left first second a b =
    same_goes came s _ (went s id f left (first ++ second))
    (ap (λ (l : List Flow). record { flows = with_sending s l; stated = first ++ second })
    (set_again s.sending id (with_sender f middle) (with_sender f left)))
    (then_goes came s (went s id f middle first)
    (λ t. went t id (with_sender f middle) left second) a b)

waits_first : (w : Waiting) (later : List Waiting) (s : Sender) → s.waiting ≡ w ∷ later →
    abandons_one (alone s) (first_number s.waiting) ≡ abandons (alone s) w.number true
waits_first w later s e =
    ap (λ (ws : List Waiting). abandons_one (alone s) (first_number ws)) e
    ∙ ap (λ (ws : List Waiting). abandons (alone s) w.number
    (is_some (message_at w.number ws))) e
    ∙ ap (λ (b : Bool). abandons (alone s) w.number
    (is_some (cond b (Some w) (message_at w.number later))))
    (eq-eqb w.number w.number refl)

all_goes : (came : List Piece) (id : ℕ) (ws : List Waiting) (s : FlowsState) (f : Flow) →
    sending_at s id ≡ Some f → f.sender.waiting ≡ ws →
    Goes came s (went s id f (all_abandoned ws f.sender) (map (Abandoned id) (numbers_of ws)))
all_goes came id [] s f there is =
    same_goes came s (nothing s) _
    (ap (λ (l : List Flow). nothing (with_sending s l)) (sym (set_back s.sending id f there)))
    (none_goes came s)
all_goes came id (w ∷ later) s f there is =
    let middle : Sender = abandoned w.number f.sender in
    went_on came s id f middle (all_abandoned later middle) (Abandoned id w.number ∷ [])
    (map (Abandoned id) (numbers_of later))
    (act_goes came s id AbandonsFirst f middle (Abandoned id w.number ∷ []) there
    (ap (λ (w : Sending). w.sender) (waits_first w later f.sender is))
    (λ steady. steady_abandoned f.sender w.number
    (message_at w.number f.sender.waiting) refl steady) tt
    (ap (λ (w : Sending). map (as_queued id) w.world.queued ++ map (Abandoned id) w.world.abandoned)
    (waits_first w later f.sender is)))
    (all_goes came id later (with_flow s id (with_sender f middle)) (with_sender f middle)
    (set_there s.sending id f (with_sender f middle) there) (first_gone w later f.sender is))

finish_kept_by : (o : Option Waiting) (n : ℕ) (s : Sender) →
    (abandoned_with o n s).finish ≡ s.finish
finish_kept_by None n s = refl
finish_kept_by (Some w) n s = refl

finish_kept : (ws : List Waiting) (s : Sender) → (all_abandoned ws s).finish ≡ s.finish
finish_kept [] s = refl
finish_kept (w ∷ later) s = finish_kept later (abandoned w.number s)
    ∙ finish_kept_by (message_at w.number s.waiting) w.number s

finishes_is : (s : Sender) (o : Option ℕ) → (finishes (alone s) o).sender ≡ finish_by s o
finishes_is s None = refl
finishes_is s (Some n) = refl

finishes_tells : (id : ℕ) (s : Sender) (o : Option ℕ) →
    map (as_queued id) (finishes (alone s) o).world.queued ++ map (Abandoned id)
    (finishes (alone s) o).world.abandoned ≡ of_messages (finished_at id (last_by s o))
finishes_tells id s None = refl
finishes_tells id s (Some n) = refl

steady_finish : (s : Sender) (o : Option ℕ) → s.finish ≡ o → Steady s → Steady (finish_by s o)
steady_finish s None e h = steady_finished s h e (next_unfinished s h e)
steady_finish s (Some n) e h = h

finish_goes : (came : List Piece) (s : FlowsState) (id : ℕ) (f : Flow) → sending_at s id ≡ Some f →
    Goes came s (went s id f (finish_by f.sender f.sender.finish)
    (finished_at id (last_by f.sender f.sender.finish)))
finish_goes came s id f there =
    act_goes came s id Finishes f (finish_by f.sender f.sender.finish)
    (finished_at id (last_by f.sender f.sender.finish)) there
    (finishes_is f.sender f.sender.finish) (steady_finish f.sender f.sender.finish refl) tt
    (finishes_tells id f.sender f.sender.finish)

rejecting_goes_by : (came : List Piece) (s : FlowsState) (id : ℕ) (o : Option Flow) →
    sending_at s id ≡ o → Goes came s (rejecting_by s id o)
rejecting_goes_by came s id None there = none_goes came s
rejecting_goes_by came s id (Some f) there =
    let middle : Sender = without_messages f.sender in
    let u : FlowsState = with_flow s id (with_sender f middle) in
    let kept : middle.finish ≡ f.sender.finish = finish_kept f.sender.waiting f.sender in
    let ends : Goes came u
    (went u id (with_sender f middle) (finish_by middle f.sender.finish)
    (finished_at id (last_by middle f.sender.finish))) =
    subst (λ (o : Option ℕ). Goes came u
    (went u id (with_sender f middle) (finish_by middle o) (finished_at id (last_by middle o))))
    kept (finish_goes came u id (with_sender f middle)
    (set_there s.sending id f (with_sender f middle) there)) in
    went_on came s id f middle (finish_by middle f.sender.finish)
    (map (Abandoned id) (numbers_of f.sender.waiting))
    (finished_at id (last_by middle f.sender.finish))
    (all_goes came id f.sender.waiting s f there refl) ends

pub rejecting_goes : RejectingGoes
rejecting_goes came s id = rejecting_goes_by came s id (sending_at s id) refl
