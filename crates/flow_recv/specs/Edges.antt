-- Small receivers, by which the rules are told at their edges.
use Rattle.std.specs.Prelude.{ℕ, Bool, true, false, List, [], None, ◌∷◌}
use Rattle.rtmfp_data_chunks.specs.declared.user_data.Part.{Part}
use Rattle.rtmfp_data_chunks.specs.declared.user_data.Part.TheVariants.{Whole}
use Rattle.rtmfp_data_chunks.specs.Runs.{Chunk, Run}
use Rattle.flow_recv.specs.declared.spans.Span.{Span}
use Rattle.flow_recv.specs.Receiver.{Receiver, span}

-- a chunk with a fragment
abbrev pub fragment : Part → ℕ → ℕ → List ℕ → Chunk
fragment part seq forward bytes = record {
  part = part;
  abandon = false;
  last = false;
  seq = seq;
  forward = forward;
  bytes = bytes;
}

-- a chunk that gives its number up
abbrev pub gives_up : ℕ → ℕ → Chunk
gives_up seq forward = record {
  part = Whole;
  abandon = true;
  last = false;
  seq = seq;
  forward = forward;
  bytes = [];
}

-- a chunk that is marked last
abbrev pub marked_last : ℕ → Chunk
marked_last seq = record {
  part = Whole;
  abandon = true;
  last = true;
  seq = seq;
  forward = 0;
  bytes = [];
}

-- a receiver in queueing order
abbrev pub keeping : List Span → List Run → Receiver
keeping spans runs = record {
  arriving = false;
  spans = spans;
  runs = runs;
  last = None;
  highest = 0;
}

-- fragments from one number to another, which begin with a begin or a whole one, and end with an
-- end or a whole one
abbrev pub run_of : ℕ → ℕ → Bool → Bool → List ℕ → Run
run_of first last front rear bytes = record {
  first = first;
  last = last;
  front = front;
  rear = rear;
  bytes = bytes;
}

-- the fragment of number 2 is held, with the end of its message or without
abbrev pub two_held : Bool → Receiver
two_held rear = keeping (span 0 0 ∷ span 2 2 ∷ []) (run_of 2 2 true rear (7 ∷ []) ∷ [])

-- the begin of number 2 and the end of number 4 are held
abbrev pub two_open : Receiver
two_open = keeping (span 0 0 ∷ span 2 2 ∷ span 4 4 ∷ [])
    (run_of 2 2 true false (7 ∷ []) ∷ run_of 4 4 false true (9 ∷ []) ∷ [])

-- the highest number that was taken
abbrev pub up_to : ℕ → Receiver → Receiver
up_to n r = record r { highest = n }

-- in arrival order
abbrev pub arriving : Receiver → Receiver
arriving r = record r { arriving = true }
