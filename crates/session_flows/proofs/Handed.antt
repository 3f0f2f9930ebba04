-- After a chunk a flow hands over all that is ready, and nothing else.
use Prim.Native.Nat.{zero, suc}
use Rattle.std.proofs.Common.{◌≡◌, ℕ, ◌+◌, ◌≤◌, ◌==◌, Bool, true, false, cond, List, [], ◌∷◌, Option, Some, None, length, refl, sym, ap, ◌∙◌, arith}
use Rattle.std.specs.List.{filter}
use Rattle.rtmfp_data_chunks.specs.Runs.{Run}
use Rattle.flow_recv.specs.Receiver.{Receiver, may_hand, first_of, without_first, next_run, handed_next}
use Rattle.session_flows.specs.declared.taking.TakingFlow.{TakingFlow}
use Rattle.session_flows.specs.Keeping.{FlowsState, in_taking, changed, taking_at, with_changed, Stated, Handed, Did, nothing, then_do}
use Rattle.session_flows.specs.Handing.{with_receiver, handed_run, hands_by, hands_once, hands, most_by}
use Rattle.session_flows.specs.Laws.{handed_runs, HandsAllThatAreReady, LeavesNothingReady, none_ready_by}

-- ---- a list of runs

-- where none passes none is kept, and where one does it is the first
none_by : (test : Run → Bool) (y : Run) (later : List Run) (b : Bool) → (first_of test later ≡ None → filter test later ≡ []) →
    cond b (Some y) (first_of test later) ≡ None → cond b (y ∷ filter test later) (filter test later) ≡ []
none_by test y later true ih h = absurd cc
none_by test y later false ih h = ih h

none_passes : (test : Run → Bool) (runs : List Run) → first_of test runs ≡ None → filter test runs ≡ []
none_passes test [] e = refl
none_passes test (y ∷ later) e = none_by test y later (test y) (none_passes test later) e

first_by : (test : Run → Bool) (x y : Run) (later : List Run) (b : Bool) → (first_of test later ≡ Some x → filter test later ≡ x ∷ filter test (without_first test later)) → test y ≡ b →
    cond b (Some y) (first_of test later) ≡ Some x → cond b (y ∷ filter test later) (filter test later) ≡ x ∷ filter test (cond b later (y ∷ without_first test later))
first_by test x y later true ih e h = cc
first_by test x y later false ih e h = ih h ∙ ap (λ (b : Bool). x ∷ cond b (y ∷ filter test (without_first test later)) (filter test (without_first test later))) (sym e)

first_passes : (test : Run → Bool) (x : Run) (runs : List Run) → first_of test runs ≡ Some x → filter test runs ≡ x ∷ filter test (without_first test runs)
first_passes test x [] e = absurd cc
first_passes test x (y ∷ later) e = first_by test x y later (test y) (first_passes test x later) refl e

shorter_by : (test : Run → Bool) (x y : Run) (later : List Run) (b : Bool) → (first_of test later ≡ Some x → length (without_first test later) + 1 ≡ length later) →
    cond b (Some y) (first_of test later) ≡ Some x → length (cond b later (y ∷ without_first test later)) + 1 ≡ length later + 1
shorter_by test x y later true ih h = refl
shorter_by test x y later false ih h = let k : length (without_first test later) + 1 ≡ length later = ih h in omega arith

pub shorter : (test : Run → Bool) (x : Run) (runs : List Run) → first_of test runs ≡ Some x → length (without_first test runs) + 1 ≡ length runs
shorter test x [] e = absurd cc
shorter test x (y ∷ later) e = let k : length (cond (test y) later (y ∷ without_first test later)) + 1 ≡ length later + 1 = shorter_by test x y later (test y) (shorter test x later) e in omega arith

-- ---- a flow

some_same : {x t : TakingFlow} → ◌≡◌ {A = Option TakingFlow} (Some x) (Some t) → x ≡ t
some_same e = cc

found_by : (f : TakingFlow → TakingFlow) (id : ℕ) (t x : TakingFlow) (later : List TakingFlow) (b : Bool) → (in_taking id later ≡ Some t → in_taking id (changed f id later) ≡ Some (f t)) → (f x).id ≡ x.id →
    (x.id == id) ≡ b → cond b (Some x) (in_taking id later) ≡ Some t → in_taking id (cond b (f x ∷ later) (x ∷ changed f id later)) ≡ Some (f t)
found_by f id t x later true ih same e h =
    ap (λ (n : ℕ). cond (n == id) (Some (f x)) (in_taking id later)) same
    ∙ ap (λ (b : Bool). cond b (Some (f x)) (in_taking id later)) e ∙ ap (λ (u : TakingFlow). Some (f u)) (some_same h)
found_by f id t x later false ih same e h = ap (λ (b : Bool). cond b (Some x) (in_taking id (changed f id later))) e ∙ ih h

-- a flow that is changed is the changed one
pub found_changed : (f : TakingFlow → TakingFlow) → ((x : TakingFlow) → (f x).id ≡ x.id) → (id : ℕ) (t : TakingFlow) (ts : List TakingFlow) → in_taking id ts ≡ Some t → in_taking id (changed f id ts) ≡ Some (f t)
found_changed f keeps id t [] e = absurd cc
found_changed f keeps id t (x ∷ later) e = found_by f id t x later (x.id == id) (found_changed f keeps id t later) (keeps x) refl e

-- ---- all that is ready

abbrev AllHanded : FlowsState → ℕ → TakingFlow → ℕ → Type 0
AllHanded s id t count = (hands count id s).stated ≡ handed_runs id (filter (may_hand t.receiver) t.receiver.runs)

pub at_none : (s : FlowsState) (id : ℕ) (t : TakingFlow) → taking_at s id ≡ Some t → next_run t.receiver ≡ None → hands_once s id ≡ nothing s
at_none s id t there none = ap (λ (o : Option TakingFlow). hands_by s id o) there ∙ ap (λ (o : Option Run). handed_run s id o) none

pub at_some : (s : FlowsState) (id : ℕ) (t : TakingFlow) (y : Run) → taking_at s id ≡ Some t → next_run t.receiver ≡ Some y → hands_once s id ≡ handed_run s id (Some y)
at_some s id t y there some = ap (λ (o : Option TakingFlow). hands_by s id o) there ∙ ap (λ (o : Option Run). handed_run s id o) some

pub quiet : (count : ℕ) (s : FlowsState) (id : ℕ) (t : TakingFlow) → taking_at s id ≡ Some t → next_run t.receiver ≡ None → hands count id s ≡ nothing s
quiet zero s id t there none = refl
quiet (suc count) s id t there none = ap (λ (d : Did). then_do d (hands count id)) (at_none s id t there none) ∙ quiet count s id t there none

pub still_there : (s : FlowsState) (id : ℕ) (t : TakingFlow) → taking_at s id ≡ Some t → taking_at (with_changed s id (with_receiver handed_next)) id ≡ Some (with_receiver handed_next t)
still_there s id t there = found_changed (with_receiver handed_next) (λ x. refl) id t s.taking there

hands_some : (count : ℕ) (s : FlowsState) (id : ℕ) (t : TakingFlow) (o : Option Run) → length t.receiver.runs ≤ suc count → taking_at s id ≡ Some t → next_run t.receiver ≡ o →
    ((u : FlowsState) (x : TakingFlow) → length x.receiver.runs ≤ count → taking_at u id ≡ Some x → AllHanded u id x count) →
    AllHanded s id t (suc count)
hands_some count s id t None few there e ih =
    ap (λ (d : Did). d.stated) (quiet (suc count) s id t there e)
    ∙ sym (ap (λ (ys : List Run). handed_runs id ys) (none_passes (may_hand t.receiver) t.receiver.runs e))
hands_some count s id t (Some y) few there e ih =
    let short : length (without_first (may_hand t.receiver) t.receiver.runs) + 1 ≡ length t.receiver.runs = shorter (may_hand t.receiver) y t.receiver.runs e in
    let later = ih (with_changed s id (with_receiver handed_next)) (with_receiver handed_next t) (omega arith) (still_there s id t there) in
    ap (λ (d : Did). (then_do d (hands count id)).stated) (at_some s id t y there e)
    ∙ ap (λ (l : List Stated). Handed id y.first y.bytes ∷ l) later
    ∙ sym (ap (λ (ys : List Run). handed_runs id ys) (first_passes (may_hand t.receiver) y t.receiver.runs e))

no_runs : (id : ℕ) (r : Receiver) (runs : List Run) → length runs ≤ 0 → ◌≡◌ {A = List Stated} [] (handed_runs id (filter (may_hand r) runs))
no_runs id r [] few = refl
no_runs id r (y ∷ later) few = absurd (omega arith)

handed_all : (count : ℕ) (id : ℕ) (s : FlowsState) (t : TakingFlow) → length t.receiver.runs ≤ count → taking_at s id ≡ Some t → AllHanded s id t count
handed_all zero id s t few there = no_runs id t.receiver t.receiver.runs few
handed_all (suc count) id s t few there = hands_some count s id t (next_run t.receiver) few there refl (handed_all count id)

pub all_ready_handed : HandsAllThatAreReady
all_ready_handed s id t there =
    ap (λ (o : Option TakingFlow). (hands (most_by o) id s).stated) there ∙ handed_all (length t.receiver.runs) id s t (omega arith) there

-- ---- then none is ready

none_left_some : (count : ℕ) (s : FlowsState) (id : ℕ) (t : TakingFlow) (o : Option Run) → length t.receiver.runs ≤ suc count → taking_at s id ≡ Some t → next_run t.receiver ≡ o →
    ((u : FlowsState) (x : TakingFlow) → length x.receiver.runs ≤ count → taking_at u id ≡ Some x → none_ready_by (taking_at (hands count id u).flows id) ≡ None) →
    none_ready_by (taking_at (hands (suc count) id s).flows id) ≡ None
none_left_some count s id t None few there e ih =
    ap (λ (d : Did). none_ready_by (taking_at d.flows id)) (quiet (suc count) s id t there e) ∙ ap (λ (o : Option TakingFlow). none_ready_by o) there ∙ e
none_left_some count s id t (Some y) few there e ih =
    let short : length (without_first (may_hand t.receiver) t.receiver.runs) + 1 ≡ length t.receiver.runs = shorter (may_hand t.receiver) y t.receiver.runs e in
    ap (λ (d : Did). none_ready_by (taking_at (then_do d (hands count id)).flows id)) (at_some s id t y there e)
    ∙ ih (with_changed s id (with_receiver handed_next)) (with_receiver handed_next t) (omega arith) (still_there s id t there)

no_next : (r : Receiver) (runs : List Run) → length runs ≤ 0 → first_of (may_hand r) runs ≡ None
no_next r [] few = refl
no_next r (y ∷ later) few = absurd (omega arith)

none_left : (count : ℕ) (id : ℕ) (s : FlowsState) (t : TakingFlow) → length t.receiver.runs ≤ count → taking_at s id ≡ Some t → none_ready_by (taking_at (hands count id s).flows id) ≡ None
none_left zero id s t few there = ap (λ (o : Option TakingFlow). none_ready_by o) there ∙ no_next t.receiver t.receiver.runs few
none_left (suc count) id s t few there = none_left_some count s id t (next_run t.receiver) few there refl (none_left count id)

none_left_by : (s : FlowsState) (id : ℕ) (o : Option TakingFlow) → taking_at s id ≡ o → none_ready_by (taking_at (hands (most_by o) id s).flows id) ≡ None
none_left_by s id None e = ap (λ (o : Option TakingFlow). none_ready_by o) e
none_left_by s id (Some t) e = none_left (length t.receiver.runs) id s t (omega arith) e

pub nothing_left_ready : LeavesNothingReady
nothing_left_ready s id = none_left_by s id (taking_at s id) refl
