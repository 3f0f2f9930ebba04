-- The run that a form of it stands for.
use Rattle.std.specs.Prelude.{[]}
use Rattle.rtmfp_data_chunks.specs.Runs.{Run, single}
use Rattle.flow_recv.specs.declared.filled.FilledRun.{FilledRun}
use Rattle.flow_recv.specs.declared.filled.Form.{Form}
use Rattle.flow_recv.specs.declared.filled.Form.TheVariants.{Bare, Filled}

abbrev pub filled_run : FilledRun → Run
filled_run run = record {
  first = run.first;
  last = run.last;
  front = run.front;
  rear = run.rear;
  bytes = run.bytes;
}

abbrev pub run_in : Form → Run
run_in (Bare part number) = single number part []
run_in (Filled run) = filled_run run.value

-- it has a block of its own
abbrev pub IsFilled : Form → Type 0
IsFilled (Bare part number) = ⊥
IsFilled (Filled run) = Unit {0}
