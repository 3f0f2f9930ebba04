-- What a start and a wait do is a step of a run.
use Rattle.std.proofs.Common.{◌≡◌, ℕ, inl, inr, List, [], ◌∷◌, refl, ◌∙◌, subst, Option, Some, None}
use Rattle.std.specs.Prelude.{Ok, Err}
use Rattle.rtmfp_host.specs.Faults.{Counted}
use Rattle.rtmfp_host.specs.Seen.{SinkSeen}
use Rattle.rtmfp_host.specs.Spawning.{SpawnerSeen, Starts, child_of}
use Rattle.rtmfp_host.specs.declared.spawner.Begun.{Begun}
use Rattle.rtmfp_host.specs.declared.spawner.Begun.TheVariants as begun
use Rattle.rtmfp_host.specs.declared.spawner.SpawnCall.{SpawnCall}
use Rattle.rtmfp_host.specs.declared.spawner.SpawnCall.TheVariants.{Start}
use Rattle.rtmfp_host.proofs.Numbering.{started}
use Rattle.rtmfp_lines.specs.declared.status.Status.TheVariants as status
use Rattle.rtmfp_lines.proofs.Streams.{appends_none}
use Rattle.rtmfp_meet.specs.declared.node.Node.{Node}
use Rattle.rtmfp_meet.specs.Meeting.{Adds, IsCalm}
use Rattle.rtmfp_meet.specs.Nodes.{words_of}
use Rattle.rtmfp_meet.specs.Steps.{Begins}
use Rattle.rtmfp_meet.proofs.Going.{adds_none}

still : (sink : SinkSeen) → IsCalm sink sink
still sink = record { faults = refl; passed = inl refl }

-- ---- starts

starts_adds : (before now : Option (List SpawnCall)) (words : List (List ℕ)) (begun : Begun) → Starts before now words begun → Adds before now (Start words (child_of begun) ∷ [])
starts_adds before None words begun s = tt
starts_adds None (Some now) words begun s = absurd s
starts_adds (Some before) (Some now) words begun s = s.0

-- the same with the words of a node
begun_adds : (port turns : ℕ) (node : Node) (words : List (List ℕ)) (begun : Begun) (before after : SpawnerSeen) → words ≡ words_of node port turns → Starts before.calls after.calls words begun →
    Adds before.calls after.calls (Start (words_of node port turns) (child_of begun) ∷ [])
begun_adds port turns node words begun before after same s =
    let P : List (List ℕ) → Type 0 = λ xs. Adds before.calls after.calls (Start xs (child_of begun) ∷ []) in
    subst P same (starts_adds before.calls after.calls words begun s)

-- there was no memory for the words
pub no_words : (port turns : ℕ) (node : Node) (spawner : SpawnerSeen) → spawner.status ≡ None → Begins port turns node (Err status.Memory) spawner spawner
no_words port turns node spawner none = λ sink. record {
  last = [];
  part = [];
  ends = (inl refl, refl);
  first = none;
  fails = (refl, still sink);
  calls = adds_none spawner.calls;
  written = appends_none sink.written;
}

pub has_begun : (port turns : ℕ) (node : Node) (child : ℕ) (words : List (List ℕ)) (before after : SpawnerSeen) → before.status ≡ None → words ≡ words_of node port turns →
    Starts before.calls after.calls words (begun.Child child) → after.status ≡ before.status → after.faults ≡ before.faults → Begins port turns node (Ok child) before after
has_begun port turns node child words before after none same s kept calm = (
  started before.calls after.calls words child s,
  λ sink. record {
    first = kept ∙ none;
    fails = (calm, still sink);
    calls = begun_adds port turns node words (begun.Child child) before after same s;
    written = appends_none sink.written;
  },
)

pub start_failed : (port turns : ℕ) (node : Node) (words : List (List ℕ)) (before after : SpawnerSeen) → before.status ≡ None → words ≡ words_of node port turns →
    Starts before.calls after.calls words begun.Failed → after.status ≡ before.status → Counted before.faults after.faults → Begins port turns node (Err status.SpawnFault) before after
start_failed port turns node words before after none same s kept counted = λ sink. record {
  last = Start (words_of node port turns) None ∷ [];
  part = [];
  ends = (refl, refl);
  first = kept ∙ none;
  fails = (counted.0, still sink);
  calls = begun_adds port turns node words begun.Failed before after same s;
  written = appends_none sink.written;
}

pub start_without_memory : (port turns : ℕ) (node : Node) (words : List (List ℕ)) (before after : SpawnerSeen) → before.status ≡ None → words ≡ words_of node port turns →
    Starts before.calls after.calls words begun.Memory → after.status ≡ before.status → after.faults ≡ before.faults → Begins port turns node (Err status.Memory) before after
start_without_memory port turns node words before after none same s kept calm = λ sink. record {
  last = Start (words_of node port turns) None ∷ [];
  part = [];
  ends = (inr refl, refl);
  first = kept ∙ none;
  fails = (calm, still sink);
  calls = begun_adds port turns node words begun.Memory before after same s;
  written = appends_none sink.written;
}
