-- A history in which two ends begin a session, one opens a flow and queues a message, and the other
-- takes it, hands it over and acknowledges it.
use Rattle.std.specs.Prelude.{true, false, [], ◌∷◌, Some, None}
use Rattle.rtmfp_data_chunks.specs.declared.user_data.Part.TheVariants.{Whole}
use Rattle.rtmfp_data_chunks.specs.Fragments.{Message}
use Rattle.rtmfp_data_chunks.specs.Runs.{Chunk}
use Rattle.flow_send.specs.Acks.{Told, told}
use Rattle.flow_exchange.specs.Sending.{Queues, Sends, Hears}
use Rattle.flow_history.specs.Flow.{Carried}
use Rattle.flow_history.specs.Deeds.{Context, back, Name, name, Data, Ack, Begins, Leaves}
use Rattle.flow_history.specs.Deeds.{OpensFlow, ActsOn, MakesFlow, TakesFrom, HandsOn, AcksOn}
use Rattle.flow_history.specs.Deeds.{In, Out, done, History}

abbrev pub there : Context
there = record {
  session = record {
    ni = 1 ∷ [];
    nr = 2 ∷ [];
    initiator = 3 ∷ [];
    responder = 4 ∷ [];
    near_i = 5;
    near_r = 6;
  };
  to_responder = true;
}

abbrev pub flow : Name
flow = name there 0

abbrev pub message : Message
message = record { number = 1; bytes = 1 ∷ 2 ∷ [] }

abbrev pub chunk : Chunk
chunk = record {
  part = Whole;
  abandon = false;
  last = false;
  seq = 1;
  forward = 0;
  bytes = 1 ∷ 2 ∷ [];
}

abbrev pub carried : Carried
carried = record { chunk = chunk; order = Some false }

abbrev pub ack : Told
ack = told 2048 1 []

-- each moment of it, the newest deed first
abbrev pub at_queued : History
at_queued =
    done 1 (ActsOn flow (Queues message.bytes (record { deadline = None; resends = None })))
    ∷ done 1 (OpensFlow flow false) ∷ done 2 (Begins (back there)) ∷ done 1 (Begins there) ∷ []

abbrev pub at_given : History
at_given = done 1 (ActsOn flow (Sends 0 1000)) ∷ at_queued

abbrev pub at_sent : History
at_sent = done 1 (Out there (Data 0 carried ∷ [])) ∷ at_given

abbrev pub at_made : History
at_made = done 2 (MakesFlow flow false) ∷ done 2 (In there (Data 0 carried ∷ [])) ∷ at_sent

abbrev pub at_handed : History
at_handed = done 2 (HandsOn flow) ∷ done 2 (TakesFrom flow chunk) ∷ at_made

abbrev pub at_acked : History
at_acked = done 2 (AcksOn flow 0) ∷ at_handed

abbrev pub at_told : History
at_told = done 2 (Out (back there) (Ack 0 ack ∷ [])) ∷ at_acked

abbrev pub lively : History
lively =
    done 1 (Leaves there) ∷ done 1 (ActsOn flow (Hears ack))
    ∷ done 1 (In (back there) (Ack 0 ack ∷ [])) ∷ at_told
