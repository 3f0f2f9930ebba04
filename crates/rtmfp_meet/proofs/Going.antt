-- A run goes on step by step, and ends at one of them or behind the last.
use Rattle.std.proofs.Common.{◌≡◌, ℕ, inl, inr, true, List, [], ◌∷◌, ◌++◌, map, refl, sym, ap, ◌∙◌, append_assoc, append-nil, subst, Option, Some, None}
use Rattle.std.specs.List.{flat_map}
use Rattle.std.proofs.Common.{◌||◌}
use Rattle.std.proofs.lemmas.List.Folds.{list_any-append}
use Rattle.rtmfp_host.specs.Faults.{Rose}
use Rattle.rtmfp_host.specs.Seen.{SinkSeen}
use Rattle.rtmfp_host.specs.Spawning.{IsStarted, gave, was_given}
use Rattle.rtmfp_host.specs.Writing.{Appends}
use Rattle.rtmfp_host.specs.declared.spawner.SpawnCall.{SpawnCall}
use Rattle.rtmfp_lines.specs.declared.status.Status.{Status as RunStatus}
use Rattle.rtmfp_lines.specs.declared.status.Status.TheVariants as status
use Rattle.rtmfp_lines.proofs.Streams.{appends_more, appends_none}
use Rattle.rtmfp_meet.specs.declared.node.Node.{Node}
use Rattle.rtmfp_meet.specs.declared.node.Node.TheVariants.{Introducer, Answerer, Caller}
use Rattle.rtmfp_meet.specs.Meeting.{Adds, EndsAt, EndsBehind, Fails, IsCalm, MeetEnds, Sides, Step, Starting, Waiting, call_at, node_of, steps, written_at}
use Rattle.rtmfp_meet.specs.Steps.{Goes, Stops}

-- ---- calls

pub adds_none : (o : Option (List SpawnCall)) → Adds o o []
adds_none None = tt
adds_none (Some calls) = sym (append-nil calls)

pub adds_more : (a b c : Option (List SpawnCall)) (x y : List SpawnCall) → Adds a b x → Adds b c y → Adds a c (x ++ y)
adds_more a b None x y p q = tt
adds_more a None (Some c) x y p q = absurd q
adds_more None (Some b) (Some c) x y p q = absurd p
adds_more (Some a) (Some b) (Some c) x y p q = q ∙ ap (λ s. s ++ y) p ∙ append_assoc a x y

-- ---- what has failed

calm_more : (a b c : SinkSeen) → IsCalm a b → IsCalm b c → IsCalm a c
calm_more a b c first second =
    let P : SinkSeen → Type 0 = λ s. s.passed ≡ s.written in
    record {
      faults = second.faults ∙ first.faults;
      passed =
          elim second.passed [
            | inl same ↦ elim first.passed [
              | inl before ↦ inl (same ∙ before)
              | inr passed ↦ inr (subst P (sym same) passed)
            ]
            | inr passed ↦ inr passed
          ];
    }

rose_from : (a b c : ℕ) → b ≡ a → Rose b c → Rose a c
rose_from a b c same rose = let P : ℕ → Type 0 = λ n. Rose n c in subst P same rose

fails_more : (s : RunStatus) (a b c : Sides) → Fails status.Done a b → Fails s b c → Fails s a c
fails_more status.SpawnFault a b c first second = (rose_from a.spawner.faults b.spawner.faults c.spawner.faults first.0 second.0, calm_more a.sink b.sink c.sink first.1 second.1)
fails_more status.SinkFault a b c first second = (second.0 ∙ first.0, rose_from a.sink.faults b.sink.faults c.sink.faults first.1.faults second.1)
fails_more _ a b c first second = (second.0 ∙ first.0, calm_more a.sink b.sink c.sink first.1 second.1)

-- ---- steps

-- these steps went well
pub record Went (port turns : ℕ) (child : Node → ℕ) (text : Node → List ℕ) (done : List Step) (before after : Sides) : Type 0 where
  pub first : after.spawner.status ≡ None
  pub fails : Fails status.Done before after
  pub calls : Adds before.spawner.calls after.spawner.calls (map (call_at port turns child text) done)
  pub written : Appends before.sink.written after.sink.written (flat_map (written_at text) done)

pub went_none : (port turns : ℕ) (child : Node → ℕ) (text : Node → List ℕ) (start : Sides) → start.spawner.status ≡ None → Went port turns child text [] start start
went_none port turns child text start none = record {
  first = none;
  fails = (refl, record { faults = refl; passed = inl refl });
  calls = adds_none start.spawner.calls;
  written = appends_none start.sink.written;
}

map-more : (f : Step → SpawnCall) (done : List Step) (step : Step) → map f (done ++ step ∷ []) ≡ map f done ++ f step ∷ []
map-more f [] step = refl
map-more f (x ∷ done) step = ap (λ xs. f x ∷ xs) (map-more f done step)

flat_map-more : (f : Step → List ℕ) (done : List Step) (step : Step) → flat_map f (done ++ step ∷ []) ≡ flat_map f done ++ f step
flat_map-more f [] step = append-nil (f step)
flat_map-more f (x ∷ done) step = ap (λ xs. f x ++ xs) (flat_map-more f done step) ∙ sym (append_assoc (f x) (flat_map f done) (f step))

pub went_more : (port turns : ℕ) (child : Node → ℕ) (text : Node → List ℕ) (done : List Step) (step : Step) (start now after : Sides) → Went port turns child text done start now →
    Goes (call_at port turns child text step) (written_at text step) now after → Went port turns child text (done ++ step ∷ []) start after
went_more port turns child text done step start now after went goes =
    let P : List SpawnCall → Type 0 = λ xs. Adds start.spawner.calls after.spawner.calls xs in
    let Q : List ℕ → Type 0 = λ xs. Appends start.sink.written after.sink.written xs in
    let call : SpawnCall = call_at port turns child text step in
    record {
      first = goes.first;
      fails = fails_more status.Done start now after went.fails goes.fails;
      calls = subst P (sym (map-more (call_at port turns child text) done step)) (adds_more start.spawner.calls now.spawner.calls after.spawner.calls (map (call_at port turns child text) done) (call ∷ []) went.calls goes.calls);
      written = subst Q (sym (flat_map-more (written_at text) done step)) (appends_more start.sink.written now.sink.written after.sink.written (flat_map (written_at text) done) (written_at text step) went.written goes.written);
    }

-- what ends a run at a step isn't that it is done
behind_steps : (s : RunStatus) (port turns : ℕ) (child : Node → ℕ) (text : Node → List ℕ) (done more : List Step) (next : Step) (calls : List SpawnCall) (part : List ℕ) → steps ≡ done ++ next ∷ more →
    EndsAt port turns next (child (node_of next)) (text (node_of next)) s calls part → EndsBehind port turns child text done s calls part
behind_steps status.Done port turns child text done more next calls part split ends = absurd (never port turns next (child (node_of next)) (text (node_of next)) calls part ends) where
  never : (port turns : ℕ) (step : Step) (number : ℕ) (words : List ℕ) (calls : List SpawnCall) (part : List ℕ) → EndsAt port turns step number words status.Done calls part → ⊥
  never port turns (Starting node) number words calls part ends = ends
  never port turns (Waiting node) number words calls part ends = ends
behind_steps _ port turns child text done more next calls part split ends = (next, more, split, ends)

-- the run ended at the next step
pub run_stops : (port turns : ℕ) (child : Node → ℕ) (text : Node → List ℕ) (done more : List Step) (next : Step) (s : RunStatus) (start now after : Sides) → steps ≡ done ++ next ∷ more →
    Went port turns child text done start now → Stops port turns next (child (node_of next)) (text (node_of next)) s now after → MeetEnds port turns s start after
run_stops port turns child text done more next s start now after split went stops = record {
  first = stops.first;
  fails = fails_more s start now after went.fails stops.fails;
  course = record {
    child = child;
    text = text;
    done = done;
    last = stops.last;
    part = stops.part;
    ends = behind_steps s port turns child text done more next stops.last stops.part split stops.ends;
    calls = adds_more start.spawner.calls now.spawner.calls after.spawner.calls (map (call_at port turns child text) done) stops.last went.calls stops.calls;
    written = appends_more start.sink.written now.sink.written after.sink.written (flat_map (written_at text) done) stops.part went.written stops.written;
  };
}

-- all steps went well
pub run_done : (port turns : ℕ) (child : Node → ℕ) (text : Node → List ℕ) (start after : Sides) → Went port turns child text steps start after → MeetEnds port turns status.Done start after
run_done port turns child text start after went =
    let P : List SpawnCall → Type 0 = λ xs. Adds start.spawner.calls after.spawner.calls xs in
    let Q : List ℕ → Type 0 = λ xs. Appends start.sink.written after.sink.written xs in
    record {
      first = went.first;
      fails = went.fails;
      course = record {
        child = child;
        text = text;
        done = steps;
        last = [];
        part = [];
        ends = (refl, refl, refl);
        calls = subst P (sym (append-nil (map (call_at port turns child text) steps))) went.calls;
        written = subst Q (sym (append-nil (flat_map (written_at text) steps))) went.written;
      };
    }

-- ---- children

-- one value for each node
abbrev pub of_three : {A : Type 0} → A → A → A → Node → A
of_three i b a Introducer = i
of_three i b a Answerer = b
of_three i b a Caller = a

given-append : (child : ℕ) (xs ys : List SpawnCall) → was_given child xs ≡ true → was_given child (xs ++ ys) ≡ true
given-append child xs ys given = list_any-append (gave child) xs ys ∙ ap (λ b. b || was_given child ys) given

-- a child that was started can be waited for later
pub still_started : (a b : Option (List SpawnCall)) (calls : List SpawnCall) (child : ℕ) → Adds a b calls → IsStarted a child → IsStarted b child
still_started a None calls child adds started = tt
still_started None (Some b) calls child adds started = absurd adds
still_started (Some a) (Some b) calls child adds started =
    let P : List SpawnCall → Type 0 = λ xs. was_given child xs ≡ true in
    subst P (sym adds) (given-append child a calls started)
