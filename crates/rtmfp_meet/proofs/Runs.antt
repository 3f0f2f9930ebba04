-- The six steps of a run, one after another.
use Rattle.std.proofs.Common.{◌≡◌, ℕ, List, [], ◌∷◌, refl, None}
use Rattle.std.specs.Prelude.{pos, Ok, Err}
use Rattle.rtmfp_host.specs.Seen.{SinkSeen}
use Rattle.rtmfp_host.specs.Spawning.{SpawnerSeen}
use Rattle.rtmfp_host.specs.declared.spawner.SpawnCall.TheVariants.{Wait}
use Rattle.rtmfp_lines.specs.declared.status.Status.{Status as RunStatus}
use Rattle.rtmfp_lines.specs.declared.status.Status.TheVariants as status
use Rattle.rtmfp_meet.specs.declared.node.Node.{Node}
use Rattle.rtmfp_meet.specs.declared.node.Node.TheVariants.{Introducer, Answerer, Caller}
use Rattle.rtmfp_meet.specs.Meeting.{MeetEnds, Sides, Starting, Step, Waiting, sides}
use Rattle.rtmfp_meet.specs.Nodes.{marked}
use Rattle.rtmfp_meet.specs.Steps.{Begins, Finishes, Goes}
use Rattle.rtmfp_meet.proofs.Going.{Went, of_three, run_done, run_stops, went_more, went_none}
use Rattle.rtmfp_meet.proofs.Stepping.{no_words}

-- ---- starts

one : (port turns i b a : ℕ) (text : Node → List ℕ) (s t : SpawnerSeen) (sink : SinkSeen) → s.status ≡ None → Begins port turns Introducer (Ok i) s t →
    Went port turns (of_three i b a) text (Starting Introducer ∷ []) (sides s sink) (sides t sink)
one port turns i b a text s t sink none first =
    went_more port turns (of_three i b a) text [] (Starting Introducer) (sides s sink) (sides s sink) (sides t sink) (went_none port turns (of_three i b a) text (sides s sink) none) (first.1 sink)

two : (port turns i b a : ℕ) (text : Node → List ℕ) (s t u : SpawnerSeen) (sink : SinkSeen) → s.status ≡ None → Begins port turns Introducer (Ok i) s t → Begins port turns Answerer (Ok b) t u →
    Went port turns (of_three i b a) text (Starting Introducer ∷ Starting Answerer ∷ []) (sides s sink) (sides u sink)
two port turns i b a text s t u sink none first second =
    went_more port turns (of_three i b a) text (Starting Introducer ∷ []) (Starting Answerer) (sides s sink) (sides t sink) (sides u sink) (one port turns i b a text s t sink none first) (second.1 sink)

abbrev starts : List Step
starts = Starting Introducer ∷ Starting Answerer ∷ Starting Caller ∷ []

pub three : (port turns i b a : ℕ) (text : Node → List ℕ) (s t u v : SpawnerSeen) (sink : SinkSeen) → s.status ≡ None → Begins port turns Introducer (Ok i) s t → Begins port turns Answerer (Ok b) t u →
    Begins port turns Caller (Ok a) u v → Went port turns (of_three i b a) text (Starting Introducer ∷ Starting Answerer ∷ Starting Caller ∷ []) (sides s sink) (sides v sink)
three port turns i b a text s t u v sink none first second third =
    went_more port turns (of_three i b a) text (Starting Introducer ∷ Starting Answerer ∷ []) (Starting Caller) (sides s sink) (sides u sink) (sides v sink) (two port turns i b a text s t u sink none first second) (third.1 sink)

abbrev no_text : Node → List ℕ
no_text node = []

pub first_stops : (port turns : ℕ) (s : RunStatus) (before after : SpawnerSeen) (sink : SinkSeen) → before.status ≡ None → Begins port turns Introducer (Err s) before after → MeetEnds port turns s (sides before sink) (sides after sink)
first_stops port turns s before after sink none stops =
    run_stops port turns (of_three 0 0 0) no_text [] _ (Starting Introducer) s (sides before sink) (sides before sink) (sides after sink) refl (went_none port turns (of_three 0 0 0) no_text (sides before sink) none) (stops sink)

pub second_stops : (port turns i : ℕ) (s : RunStatus) (before now after : SpawnerSeen) (sink : SinkSeen) → before.status ≡ None → Begins port turns Introducer (Ok i) before now → Begins port turns Answerer (Err s) now after →
    MeetEnds port turns s (sides before sink) (sides after sink)
second_stops port turns i s before now after sink none first stops =
    run_stops port turns (of_three i 0 0) no_text (Starting Introducer ∷ []) _ (Starting Answerer) s (sides before sink) (sides now sink) (sides after sink) refl (one port turns i 0 0 no_text before now sink none first) (stops sink)

pub third_stops : (port turns i b : ℕ) (s : RunStatus) (before t now after : SpawnerSeen) (sink : SinkSeen) → before.status ≡ None → Begins port turns Introducer (Ok i) before t → Begins port turns Answerer (Ok b) t now →
    Begins port turns Caller (Err s) now after → MeetEnds port turns s (sides before sink) (sides after sink)
third_stops port turns i b s before t now after sink none first second stops =
    run_stops port turns (of_three i b 0) no_text (Starting Introducer ∷ Starting Answerer ∷ []) _ (Starting Caller) s (sides before sink) (sides now sink) (sides after sink) refl (two port turns i b 0 no_text before t now sink none first second) (stops sink)

-- ---- waits

-- three children were started, whatever they write
pub record Started (port turns i b a : ℕ) (before now : Sides) : Type 0 where
  pub went : (text : Node → List ℕ) → Went port turns (of_three i b a) text (Starting Introducer ∷ Starting Answerer ∷ Starting Caller ∷ []) before now

pub fourth_stops : (port turns i b a : ℕ) (s : RunStatus) (before now after : Sides) → Started port turns i b a before now → Finishes Introducer i (Err s) now after → MeetEnds port turns s before after
fourth_stops port turns i b a s before now after started stops =
    let text : Node → List ℕ = of_three stops.0 [] [] in
    run_stops port turns (of_three i b a) text starts _ (Waiting Introducer) s before now after refl (started.went text) (stops.1 port turns)

four : (port turns i b a : ℕ) (text : Node → List ℕ) (before now after : Sides) → Started port turns i b a before now → Goes (Wait i (pos 0) (text Introducer)) (marked Introducer (text Introducer)) now after →
    Went port turns (of_three i b a) text (Starting Introducer ∷ Starting Answerer ∷ Starting Caller ∷ Waiting Introducer ∷ []) before after
four port turns i b a text before now after started goes = went_more port turns (of_three i b a) text starts (Waiting Introducer) before now after (started.went text) goes

pub fifth_stops : (port turns i b a : ℕ) (s : RunStatus) (before t now after : Sides) → Started port turns i b a before t → Finishes Introducer i (Ok tt) t now → Finishes Answerer b (Err s) now after → MeetEnds port turns s before after
fifth_stops port turns i b a s before t now after started first stops =
    let text : Node → List ℕ = of_three first.0 stops.0 [] in
    run_stops port turns (of_three i b a) text (Starting Introducer ∷ Starting Answerer ∷ Starting Caller ∷ Waiting Introducer ∷ []) _ (Waiting Answerer) s before now after refl (four port turns i b a text before t now started first.1) (stops.1 port turns)

five : (port turns i b a : ℕ) (text : Node → List ℕ) (before t now after : Sides) → Started port turns i b a before t → Goes (Wait i (pos 0) (text Introducer)) (marked Introducer (text Introducer)) t now →
    Goes (Wait b (pos 0) (text Answerer)) (marked Answerer (text Answerer)) now after →
    Went port turns (of_three i b a) text (Starting Introducer ∷ Starting Answerer ∷ Starting Caller ∷ Waiting Introducer ∷ Waiting Answerer ∷ []) before after
five port turns i b a text before t now after started first second =
    went_more port turns (of_three i b a) text (Starting Introducer ∷ Starting Answerer ∷ Starting Caller ∷ Waiting Introducer ∷ []) (Waiting Answerer) before now after (four port turns i b a text before t now started first) second

pub sixth_stops : (port turns i b a : ℕ) (s : RunStatus) (before t u now after : Sides) → Started port turns i b a before t → Finishes Introducer i (Ok tt) t u → Finishes Answerer b (Ok tt) u now → Finishes Caller a (Err s) now after →
    MeetEnds port turns s before after
sixth_stops port turns i b a s before t u now after started first second stops =
    let text : Node → List ℕ = of_three first.0 second.0 stops.0 in
    run_stops port turns (of_three i b a) text (Starting Introducer ∷ Starting Answerer ∷ Starting Caller ∷ Waiting Introducer ∷ Waiting Answerer ∷ []) _ (Waiting Caller) s before now after refl
    (five port turns i b a text before t u now started first.1 second.1) (stops.1 port turns)

pub all_done : (port turns i b a : ℕ) (before t u now after : Sides) → Started port turns i b a before t → Finishes Introducer i (Ok tt) t u → Finishes Answerer b (Ok tt) u now → Finishes Caller a (Ok tt) now after →
    MeetEnds port turns status.Done before after
all_done port turns i b a before t u now after started first second third =
    let text : Node → List ℕ = of_three first.0 second.0 third.0 in
    run_done port turns (of_three i b a) text before after
    (went_more port turns (of_three i b a) text (Starting Introducer ∷ Starting Answerer ∷ Starting Caller ∷ Waiting Introducer ∷ Waiting Answerer ∷ []) (Waiting Caller) before now after
    (five port turns i b a text before t u now started first.1 second.1) third.1)

-- nothing was done for want of memory
pub nothing_met : (port turns : ℕ) (spawner : SpawnerSeen) (sink : SinkSeen) → spawner.status ≡ None → MeetEnds port turns status.Memory (sides spawner sink) (sides spawner sink)
nothing_met port turns spawner sink none = first_stops port turns status.Memory spawner spawner sink none (no_words port turns Introducer spawner none)
