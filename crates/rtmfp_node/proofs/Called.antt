-- The calls of a turn, in their order; and how a run ends at its start.
use Rattle.std.proofs.Common.{◌≡◌, ℕ, ◌+◌, ◌<◌, List, [], ◌∷◌, ◌++◌, inl, inr, drop, length, refl, sym, ap, ◌∙◌, subst, Option, Some, None, arith}
use Rattle.std.proofs.lemmas.List.{length-append, length-drop}
use Rattle.rtmfp_forms.specs.Address.{AddressParts}
use Rattle.rtmfp_host.specs.Drawing.{next_block}
use Rattle.rtmfp_host.specs.declared.link.Given.{Given}
use Rattle.rtmfp_host.specs.declared.link.Given.TheVariants.{Datagram, Quiet}
use Rattle.endpoint_model.specs.declared.config.Draws.{Draws}
use Rattle.endpoint_model.specs.Event.{Call, OnFlows, Receive, Tick, Event}
use Rattle.endpoint_model.specs.FlowCall.{FlowCall}
use Rattle.rtmfp_host.specs.declared.link.LinkCall.{LinkCall}
use Rattle.rtmfp_host.specs.declared.link.LinkCall.TheVariants.{Bind}
use Rattle.rtmfp_words.specs.Node.{Serving}
use Rattle.rtmfp_words.specs.declared.opening_words.OpeningWords.{OpeningWords}
use Rattle.rtmfp_node.specs.declared.served.Served.TheVariants.{EntropyFault}
use Rattle.rtmfp_node.specs.Outside.{Told}
use Rattle.rtmfp_node.specs.Whole.{CutAtStart}
use Rattle.rtmfp_node.specs.Events.{AreMessages, AreOpened, AreSuccessions, AreTurnEvents, AreWholeEvents, AreZeroEvents, IsFlowCall, advance_call, draws_of, learn_call, opened_in, opening_call, opens_flow, queues}
use Rattle.rtmfp_node.specs.Calls.{asked, calls_in, first_added, message_calls, opening_calls}

calls_more : (es fs : List Event) → calls_in (es ++ fs) ≡ calls_in es ++ calls_in fs
calls_more [] fs = refl
calls_more (e ∷ es) fs = ap (λ (xs : List Call). e.call ∷ xs) (calls_more es fs)

flow_called : (near : ℕ) (call : FlowCall) (e : Event) → IsFlowCall near call e → e.call ≡ OnFlows near call
flow_called near call e h = ap (λ (k : Event). k.call) h.3

messages_called : (message nears : List ℕ) (log : List Event) → AreMessages message nears log → calls_in log ≡ message_calls message nears
messages_called message [] log h = ap calls_in h
messages_called message (near ∷ nears) log h =
    ap calls_in h.3
    ∙ ap (λ (c : Call). c ∷ h.1.call ∷ calls_in h.2) (flow_called near opens_flow h.0 h.4)
    ∙ ap (λ (c : Call). OnFlows near opens_flow ∷ c ∷ calls_in h.2) (flow_called near (queues message) h.1 h.5)
    ∙ ap (λ (xs : List Call). OnFlows near opens_flow ∷ OnFlows near (queues message) ∷ xs) (messages_called message nears h.2 h.6)

pub turn_called : (message : List ℕ) (from : AddressParts) (datagram : List ℕ) (moment : ℕ) (draws : Draws) (log : List Event) → AreTurnEvents (Some message) (Datagram from datagram) moment draws log →
    calls_in log ≡ Receive from datagram draws ∷ (message_calls message (opened_in (first_added log)) ++ Tick draws ∷ [])
turn_called message from datagram moment draws log h =
    let first : first_added log ≡ h.0 = ap first_added h.4 in
    ap calls_in h.4
    ∙ ap (λ (xs : List Call). Receive from datagram draws ∷ xs)
    (calls_more h.2 _
    ∙ ap (λ (xs : List Call). xs ++ Tick draws ∷ []) (messages_called message (opened_in h.0) h.2 h.3 ∙ ap (λ es. message_calls message (opened_in es)) (sym first)))

pub silent_called : (from : AddressParts) (datagram : List ℕ) (moment : ℕ) (draws : Draws) (log : List Event) → AreTurnEvents None (Datagram from datagram) moment draws log →
    calls_in log ≡ Receive from datagram draws ∷ Tick draws ∷ []
silent_called from datagram moment draws log h =
    ap calls_in h.4 ∙ ap (λ (xs : List Call). Receive from datagram draws ∷ xs) (calls_more h.2 _ ∙ ap (λ (es : List Event). calls_in es ++ Tick draws ∷ []) h.3)

pub openings_called : (openings : List OpeningWords) (moment : ℕ) (blocks : List (List ℕ)) (log : List Event) → AreOpened openings moment blocks log → calls_in log ≡ opening_calls openings blocks
openings_called [] moment blocks log h = ap calls_in h
openings_called (o ∷ os) moment blocks log h =
    ap calls_in h.2
    ∙ ap (λ (c : Call). c ∷ calls_in h.1) (ap (λ (k : Event). k.call) h.3.3)
    ∙ ap (λ (xs : List Call). opening_call o.whom o.at (draws_of (next_block blocks)) ∷ xs) (openings_called os moment (drop 1 blocks) h.1 h.4)

-- ---- calls on the group's secrets

succession_called : (o : Option Call) (log : List Event) → AreSuccessions o log → calls_in log ≡ asked o
succession_called None log h = ap calls_in h
succession_called (Some call) log h = ap calls_in h.2 ∙ ap (λ (k : Event). k.call ∷ []) h.1.3

pub zero_called : (next : Option (List ℕ)) (openings : List OpeningWords) (moment : ℕ) (blocks : List (List ℕ)) (log : List Event) → AreZeroEvents next openings moment blocks log →
    calls_in log ≡ asked (learn_call next) ++ opening_calls openings blocks
zero_called next openings moment blocks log h =
    ap calls_in h.4 ∙ calls_more h.0 h.1
    ∙ (λ i. succession_called (learn_call next) h.0 h.2 i ++ openings_called openings moment blocks h.1 h.3 i)

pub whole_called : (advance : Option ℕ) (turn : ℕ) (message : Option (List ℕ)) (given : Given) (moment : ℕ) (draws : Draws) (log : List Event) → AreWholeEvents advance turn message given moment draws log →
    (others : List Event) × AreTurnEvents message given moment draws others × (calls_in log ≡ asked (advance_call advance turn) ++ calls_in others)
whole_called advance turn message given moment draws log h =
    (h.1, h.3, ap calls_in h.4 ∙ calls_more h.0 h.1 ∙ ap (λ (xs : List Call). xs ++ calls_in h.1) (succession_called (advance_call advance turn) h.0 h.2))

-- ---- a fault of the random source at the start

fewer_left : (n : ℕ) (blocks : List (List ℕ)) → 0 < length blocks → length (drop n (drop 1 blocks)) < length blocks
fewer_left n [] some = absurd (omega (arith, some))
fewer_left n (block ∷ blocks) some = let most = length-drop n blocks in omega (arith, most)

pub draws_first : (v : Serving) (x y : Told) → CutAtStart EntropyFault v x y → 0 < length x.blocks → length y.blocks ≡ length x.blocks → y ≡ x
draws_first v x y (inl same) some still = same
draws_first v x y (inr cut) some still =
    let left : length y.blocks ≡ length (drop cut.0 (drop 1 x.blocks)) = ap (λ (z : Told). length z.blocks) cut.2 in
    let fewer = fewer_left cut.0 x.blocks some in
    absurd (omega (arith, still, left, fewer))

longer : (calls : List LinkCall) (call : LinkCall) → calls ≡ calls ++ call ∷ [] → ⊥
longer calls call e =
    let sum : length (calls ++ call ∷ []) ≡ length calls + 1 = length-append calls (call ∷ []) in
    let same : length calls ≡ length (calls ++ call ∷ []) = ap length e in
    omega (arith, sum, same)

pub binds_later : (v : Serving) (x y : Told) → CutAtStart EntropyFault v x y → 0 < length x.blocks → y.line.calls ≡ x.line.calls ++ Bind v.bind ∷ [] → length y.blocks < length x.blocks
binds_later v x y (inl same) some bound = absurd (longer x.line.calls (Bind v.bind) (sym (ap (λ (z : Told). z.line.calls) same) ∙ bound))
binds_later v x y (inr cut) some bound =
    let left : length y.blocks ≡ length (drop cut.0 (drop 1 x.blocks)) = ap (λ (z : Told). length z.blocks) cut.2 in
    let fewer = fewer_left cut.0 x.blocks some in
    omega (arith, left, fewer)
