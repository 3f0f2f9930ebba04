-- The calls of a turn, in their order.
use Rattle.std.specs.Prelude.{ℕ, List, [], ◌∷◌, ◌++◌, drop, Option, None, Some}
use Rattle.rtmfp_host.specs.Drawing.{next_block}
use Rattle.endpoint_model.specs.declared.entry.Entry.{Entry}
use Rattle.endpoint_model.specs.Event.{Call, OnFlows, Event}
use Rattle.rtmfp_words.specs.declared.opening_words.OpeningWords.{OpeningWords}
use Rattle.rtmfp_node.specs.Events.{draws_of, opening_call, opens_flow, queues}

-- the calls of these events
abbrev pub calls_in : List Event → List Call
calls_in [] = []
calls_in (e ∷ log) = e.call ∷ calls_in log

-- what the first event added
abbrev pub first_added : List Event → List Entry
first_added [] = []
first_added (e ∷ log) = e.entries

-- two calls for each of these sessions: a flow is opened, and the message is queued in it
abbrev pub message_calls : List ℕ → List ℕ → List Call
message_calls message [] = []
message_calls message (near ∷ nears) =
    OnFlows near opens_flow ∷ OnFlows near (queues message) ∷ message_calls message nears

-- a call for each opening, with a block each
abbrev pub opening_calls : List OpeningWords → List (List ℕ) → List Call
opening_calls [] blocks = []
opening_calls (opening ∷ openings) blocks =
    opening_call opening.whom opening.at (draws_of (next_block blocks))
    ∷ opening_calls openings (drop 1 blocks)

-- a call on the group's secrets, where there is one to make
abbrev pub asked : Option Call → List Call
asked None = []
asked (Some call) = call ∷ []
