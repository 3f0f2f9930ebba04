-- How much a chunk states at most, and that a flow hands over no more where more is asked for.
use Prim.Native.Nat.{zero, suc}
use Rattle.std.proofs.Common.{◌≡◌, ℕ, ◌+◌, ◌≤◌, ◌==◌, Bool, true, false, cond, nat_lt, List, [], ◌∷◌, Option, Some, None, length, refl, sym, ap, ◌∙◌, subst, arith}
use Rattle.std.proofs.lemmas.Bool.{eq-eqb}
use Rattle.rtmfp_data_chunks.specs.Chunk.{UserParts}
use Rattle.rtmfp_data_chunks.specs.Runs.{Run}
use Rattle.flow_recv.specs.Receiver.{fresh, first_of, may_hand, next_run, handed_next, without_first}
use Rattle.flow_recv.proofs.Counting.{runs_few}
use Rattle.session_flows.specs.declared.taking.TakingFlow.{TakingFlow}
use Rattle.session_flows.specs.Keeping.{FlowsState, in_taking, changed, added, taking_at, with_changed, new_taking, Handed, Did, nothing, then_do, after_stated}
use Rattle.session_flows.specs.Handing.{with_receiver, handed_run, hands_by, hands_once, hands, hands_all, most_by}
use Rattle.session_flows.specs.Causes.{piece_of, metadata_of, order_of}
use Rattle.session_flows.specs.Chunks.{made_by, taken_of, data_taken, data_done, most_ready}
use Rattle.session_flows.proofs.Handed.{found_changed, at_some, quiet, still_there, shorter}

-- ---- so many things state so much at most

few_by : (count : ℕ) (s : FlowsState) (id : ℕ) (o : Option Run) → ((u : FlowsState) → length (hands count id u).stated ≤ count) → length (then_do (handed_run s id o) (hands count id)).stated ≤ suc count
few_by count s id None ih = let le : length (hands count id s).stated ≤ count = ih s in omega (arith, le)
few_by count s id (Some y) ih =
    let u : FlowsState = with_changed s id (with_receiver handed_next) in
    let le : length (hands count id u).stated ≤ count = ih u in
    omega (arith, le)

few_at : (count : ℕ) (s : FlowsState) (id : ℕ) (o : Option TakingFlow) → ((u : FlowsState) → length (hands count id u).stated ≤ count) → length (then_do (hands_by s id o) (hands count id)).stated ≤ suc count
few_at count s id None ih = let le : length (hands count id s).stated ≤ count = ih s in omega (arith, le)
few_at count s id (Some t) ih = few_by count s id (next_run t.receiver) ih

pub hands_few : (count : ℕ) (id : ℕ) (s : FlowsState) → length (hands count id s).stated ≤ count
hands_few zero id s = omega arith
hands_few (suc count) id s = few_at count s id (taking_at s id) (hands_few count id)

-- ---- the flow of a chunk, once it is taken

found_by : (t u : TakingFlow) (later : List TakingFlow) (b : Bool) → (u.id == t.id) ≡ false → in_taking t.id (added t later) ≡ Some t → in_taking t.id (cond b (t ∷ (u ∷ later)) (u ∷ added t later)) ≡ Some t
found_by t u later true e ih = ap (λ (b : Bool). cond b (Some t) (in_taking t.id (u ∷ later))) (eq-eqb t.id t.id refl)
found_by t u later false e ih = ap (λ (b : Bool). cond b (Some u) (in_taking t.id (added t later))) e ∙ ih

other_by : (id : ℕ) (u : TakingFlow) (later : List TakingFlow) (b : Bool) → (u.id == id) ≡ b → cond b (Some u) (in_taking id later) ≡ None → ((u.id == id) ≡ false) × (in_taking id later ≡ None)
other_by id u later true e h = absurd cc
other_by id u later false e h = (e, h)

found_added : (t : TakingFlow) (ts : List TakingFlow) → in_taking t.id ts ≡ None → in_taking t.id (added t ts) ≡ Some t
found_added t [] none = ap (λ (b : Bool). cond b (Some t) None) (eq-eqb t.id t.id refl)
found_added t (u ∷ later) none =
    let o = other_by t.id u later (u.id == t.id) refl none in
    found_by t u later (nat_lt t.id u.id) o.0 (found_added t later o.1)

taken_few : (s : FlowsState) (user : UserParts) (o : Option TakingFlow) → taking_at s user.flow ≡ o → most_by (taking_at (with_changed (made_by s user o) user.flow (taken_of user)) user.flow) ≤ most_by o + 1
taken_few s user None e =
    let first : TakingFlow = new_taking user.flow (fresh (order_of (metadata_of user))) in
    let there : in_taking user.flow (changed (taken_of user) user.flow (added first s.taking)) ≡ Some (taken_of user first) =
    found_changed (taken_of user) (λ x. refl) user.flow first (added first s.taking) (found_added first s.taking e) in
    subst (λ (o : Option TakingFlow). most_by o ≤ 0 + 1) (sym there) (runs_few (fresh (order_of (metadata_of user))) (piece_of user))
taken_few s user (Some t) e =
    let there : in_taking user.flow (changed (taken_of user) user.flow s.taking) ≡ Some (taken_of user t) = found_changed (taken_of user) (λ x. refl) user.flow t s.taking e in
    subst (λ (o : Option TakingFlow). most_by o ≤ length t.receiver.runs + 1) (sym there) (runs_few t.receiver (piece_of user))

-- it has no more runs than may be handed over after a chunk
pub ready_few : (s : FlowsState) (user : UserParts) → most_by (taking_at (data_taken s user) user.flow) ≤ most_ready s user.flow
ready_few s user = taken_few s user (taking_at s user.flow) refl

-- and so a chunk states no more
pub done_few : (s : FlowsState) (user : UserParts) → length (data_done s user).stated ≤ most_ready s user.flow
done_few s user =
    let most : ℕ = most_by (taking_at (data_taken s user) user.flow) in
    let le : length (hands most user.flow (data_taken s user)).stated ≤ most = hands_few most user.flow (data_taken s user) in
    omega (arith, le, ready_few s user)

-- ---- more than all

none_there : (count : ℕ) (id : ℕ) (s : FlowsState) → taking_at s id ≡ None → hands count id s ≡ nothing s
none_there zero id s e = refl
none_there (suc count) id s e = ap (λ (o : Option TakingFlow). then_do (hands_by s id o) (hands count id)) e ∙ none_there count id s e

no_next : (test : Run → Bool) (runs : List Run) → length runs ≤ 0 → first_of test runs ≡ None
no_next test [] few = refl
no_next test (y ∷ later) few = absurd (omega arith)

same_by : (n m id : ℕ) (s : FlowsState) (t : TakingFlow) (o : Option Run) → length t.receiver.runs ≤ suc n → length t.receiver.runs ≤ suc m → taking_at s id ≡ Some t → next_run t.receiver ≡ o →
    ((u : FlowsState) (x : TakingFlow) → length x.receiver.runs ≤ n → length x.receiver.runs ≤ m → taking_at u id ≡ Some x → hands n id u ≡ hands m id u) → hands (suc n) id s ≡ hands (suc m) id s
same_by n m id s t None few more there e ih = quiet (suc n) s id t there e ∙ sym (quiet (suc m) s id t there e)
same_by n m id s t (Some y) few more there e ih =
    let short : length (without_first (may_hand t.receiver) t.receiver.runs) + 1 ≡ length t.receiver.runs = shorter (may_hand t.receiver) y t.receiver.runs e in
    let u : FlowsState = with_changed s id (with_receiver handed_next) in
    let later : hands n id u ≡ hands m id u = ih u (with_receiver handed_next t) (omega (arith, short, few)) (omega (arith, short, more)) (still_there s id t there) in
    ap (λ (d : Did). then_do d (hands n id)) (at_some s id t y there e)
    ∙ ap (λ (d : Did). after_stated (Handed id y.first y.bytes ∷ []) d) later
    ∙ sym (ap (λ (d : Did). then_do d (hands m id)) (at_some s id t y there e))

-- as many as a flow has runs, or more, are as good as any
same_from : (n m id : ℕ) (s : FlowsState) (t : TakingFlow) → length t.receiver.runs ≤ n → length t.receiver.runs ≤ m → taking_at s id ≡ Some t → hands n id s ≡ hands m id s
same_from zero m id s t few more there = sym (quiet m s id t there (no_next (may_hand t.receiver) t.receiver.runs few))
same_from (suc n) zero id s t few more there = quiet (suc n) s id t there (no_next (may_hand t.receiver) t.receiver.runs more)
same_from (suc n) (suc m) id s t few more there = same_by n m id s t (next_run t.receiver) few more there refl (λ u x. same_from n m id u x)

all_by : (count id : ℕ) (s : FlowsState) (o : Option TakingFlow) → taking_at s id ≡ o → most_by o ≤ count → hands count id s ≡ hands (most_by o) id s
all_by count id s None e few = none_there count id s e
all_by count id s (Some t) e few = same_from count (length t.receiver.runs) id s t few (omega arith) e

pub hands_enough : (count id : ℕ) (s : FlowsState) → most_by (taking_at s id) ≤ count → hands count id s ≡ hands_all s id
hands_enough count id s few = all_by count id s (taking_at s id) refl few

-- what a chunk does is to take it, and to hand over so many
pub done_enough : (count : ℕ) (s : FlowsState) (user : UserParts) → most_ready s user.flow ≤ count → hands count user.flow (data_taken s user) ≡ data_done s user
done_enough count s user few = hands_enough count user.flow (data_taken s user) (omega (arith, few, ready_few s user))

-- ---- where none is handed over, none is afterwards

over_by : (count id : ℕ) (s : FlowsState) (t : TakingFlow) (o : Option Run) → taking_at s id ≡ Some t → next_run t.receiver ≡ o → (handed_run s id o).stated ≡ [] → hands count id s ≡ nothing s
over_by count id s t None there e h = quiet count s id t there e
over_by count id s t (Some y) there e h = absurd cc

over_at : (count id : ℕ) (s : FlowsState) (o : Option TakingFlow) → taking_at s id ≡ o → (hands_by s id o).stated ≡ [] → hands count id s ≡ nothing s
over_at count id s None e h = none_there count id s e
over_at count id s (Some t) e h = over_by count id s t (next_run t.receiver) e refl h

pub nothing_more : (count id : ℕ) (s : FlowsState) → (hands_once s id).stated ≡ [] → hands count id s ≡ nothing s
nothing_more count id s h = over_at count id s (taking_at s id) refl h
