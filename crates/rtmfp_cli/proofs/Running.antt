-- What the words say is done, and nothing else.
use Rattle.std.proofs.Common.{◌≡◌, ℕ, inl, inr, List, false, refl, sym, ap, ◌∙◌, subst, None}
use Rattle.std.specs.Prelude.{String, Result, Ok, Err}
use Rattle.std.specs.declared.alloc.Global.{Global}
use Rattle.rtmfp_audit.specs.Audits.{AuditEnds}
use Rattle.rtmfp_lines.specs.declared.status.Status.{Status as RunStatus}
use Rattle.rtmfp_lines.specs.declared.status.Status.TheVariants as status
use Rattle.rtmfp_lines.specs.Outside.{Outside, outside}
use Rattle.rtmfp_host.specs.Seen.{SinkSeen}
use Rattle.rtmfp_host.specs.declared.spawner.SpawnCall.{SpawnCall}
use Rattle.rtmfp_meet.specs.Meeting.{EndsAt, MeetEnds, Sides, Step, Starting, Waiting, failed_with, sides}
use Rattle.rtmfp_play.specs.Generated.{GeneratedEnds}
use Rattle.rtmfp_words.specs.CommandLine.{IsFaulty, Says}
use Rattle.rtmfp_node.specs.declared.served.Served.{Served}
use Rattle.rtmfp_node.specs.declared.served.Served.TheVariants as served
use Rattle.rtmfp_node.specs.Outside.{Counted}
use Rattle.rtmfp_words.specs.Node.{IsMeet, IsServe, Serving}
use Rattle.rtmfp_words.specs.Words.{IsAudit, IsJournal, IsReplay, IsShow}
use Rattle.rtmfp_words.specs.declared.command.Command.TheVariants.{Show, Replay, Journal, Generate, Audit}
use Rattle.rtmfp_words.specs.declared.command_line.CommandLine.{CommandLine}
use Rattle.rtmfp_words.specs.declared.command_line.CommandLine.TheVariants.{Lines, Serve, Meet}
use Rattle.rtmfp_words.specs.declared.fault.WordsFault.{WordsFault}
use Rattle.rtmfp_words.specs.declared.fault.WordsFault.TheVariants.{Faulty, Memory}
use Rattle.rtmfp_words.proofs.Commanding.{Finds, faulty_only, not_read}
use Rattle.rtmfp_cli.specs.Commands.{CommandEnds, Fits, HasRisen, Objects, NodeEnds, around, reads_lines, serves, starts_nodes, status_of}
use Rattle.rtmfp_cli.specs.Doing.{journaling, playing, showing}
use Rattle.rtmfp_cli.specs.declared.doing.Doing.{Doing}
use Rattle.rtmfp_cli.specs.Script.{ScriptEnds}

-- ---- words

-- words say one command line
pub one_line : (result : Result CommandLine WordsFault) (line other : CommandLine) → result ≡ Ok line → Finds result other → line ≡ other
one_line result line other is finds =
    elim finds [
      | inl ok ↦ (let e : ◌≡◌ {A = Result CommandLine WordsFault} (Ok line) (Ok other) = sym is ∙ ok in cc)
      | inr memory ↦ (let e : ◌≡◌ {A = Result CommandLine WordsFault} (Ok line) (Err Memory) = sym is ∙ memory in absurd (cc))
    ]

pub not_faulty : (words : List (String Global)) (line : CommandLine) → Says words line → IsFaulty words → ⊥
not_faulty words line says faulty = not_read {A = CommandLine} (Err Faulty) line refl (faulty_only words (Err Faulty) faulty line says)

pub fits_of : (words : List (String Global)) (line : CommandLine) → Says words line → Fits line
fits_of words (Lines Show) says = tt
fits_of words (Lines Replay) says = tt
fits_of words (Lines Journal) says = tt
fits_of words (Lines (Generate seed steps)) says = says.few_steps
fits_of words (Lines Audit) says = tt
fits_of words (Serve v) says = says.name
fits_of words (Meet m) says = tt

-- ---- what doesn't come

-- statuses with which no step of `meet` ends
abbrev pub IsOfMeet : RunStatus → Type 0
IsOfMeet status.Done = Unit {0}
IsOfMeet status.Memory = Unit {0}
IsOfMeet status.SinkFault = Unit {0}
IsOfMeet status.SpawnFault = Unit {0}
IsOfMeet (status.ChildFailed c) = Unit {0}
IsOfMeet other = ⊥

of_meet_at : (s : RunStatus) (port turns : ℕ) (step : Step) (child : ℕ) (text : List ℕ) (calls : List SpawnCall) (part : List ℕ) → EndsAt port turns step child text s calls part → IsOfMeet s
of_meet_at status.Done port turns step child text calls part ends = tt
of_meet_at status.Memory port turns step child text calls part ends = tt
of_meet_at status.SinkFault port turns step child text calls part ends = tt
of_meet_at status.SpawnFault port turns step child text calls part ends = tt
of_meet_at (status.ChildFailed c) port turns step child text calls part ends = tt
of_meet_at _ port turns (Starting node) child text calls part ends = ends
of_meet_at _ port turns (Waiting node) child text calls part ends = ends

of_meet : (s : RunStatus) (port turns : ℕ) (before after : Sides) → MeetEnds port turns s before after → IsOfMeet s
of_meet status.Done port turns before after ends = tt
of_meet status.Memory port turns before after ends = tt
of_meet status.SinkFault port turns before after ends = tt
of_meet status.SpawnFault port turns before after ends = tt
of_meet (status.ChildFailed c) port turns before after ends = tt
of_meet _ port turns before after ends = let e = ends.course.ends in of_meet_at _ port turns e.0 _ _ _ _ e.3

-- ---- clauses

-- what the words say was done
pub ended_so : (result : Result CommandLine WordsFault) (line other : CommandLine) (s : RunStatus) (before after : Objects) → result ≡ Ok line → Finds result other → CommandEnds line s before after → CommandEnds other s before after
ended_so result line other s before after is finds ends = let P : CommandLine → Type 0 = λ x. CommandEnds x s before after in subst P (one_line result line other is finds) ends

-- a run of a node doesn't find the words bad
served_well : (how : Served) → status.BadWords ≡ status_of how → ⊥
served_well served.Done is = absurd (cc)
served_well served.Memory is = absurd (cc)
served_well served.LinkFault is = absurd (cc)
served_well served.SinkFault is = absurd (cc)
served_well served.EntropyFault is = absurd (cc)

bad_so : (words : List (String Global)) (line : CommandLine) (before after : Objects) → Says words line → CommandEnds line status.BadWords before after → IsFaulty words
bad_so words (Lines Show) before after says ends = absurd ends
bad_so words (Lines Replay) before after says ends = absurd ends
bad_so words (Lines Journal) before after says ends = absurd ends
bad_so words (Lines (Generate seed steps)) before after says ends = absurd ends
bad_so words (Lines Audit) before after says ends = absurd ends
bad_so words (Serve v) before after says ends = absurd (served_well ends.how ends.is)
bad_so words (Meet m) before after says ends = absurd (of_meet status.BadWords m.port m.turns _ _ ends)

-- only faulty words are bad
pub bad_words : (words : List (String Global)) (line : CommandLine) (s : RunStatus) (before after : Objects) → Says words line → s ≡ status.BadWords → CommandEnds line s before after → IsFaulty words
bad_words words line s before after says bad ends = let P : RunStatus → Type 0 = λ x. CommandEnds line x before after in bad_so words line before after says (subst P bad ends)

script_risen : (s : RunStatus) (doing : Doing) (before after : Objects) → ScriptEnds doing s (outside before.source before.sink) (outside after.source after.sink) → HasRisen s before after
script_risen status.SinkFault doing before after ends = ends.0.rose
script_risen status.SourceFault doing before after ends = ends.0.rose
script_risen status.Done doing before after ends = tt
script_risen status.Memory doing before after ends = tt
script_risen (status.BadScript n) doing before after ends = tt
script_risen (status.Forged n) doing before after ends = tt
script_risen status.ScriptLong doing before after ends = tt
script_risen _ doing before after ends = absurd ends

generated_risen : (s : RunStatus) (seed steps : ℕ) (before after : Objects) → GeneratedEnds seed steps s before.sink after.sink → HasRisen s before after
generated_risen status.SinkFault seed steps before after ends = ends.1
generated_risen status.Done seed steps before after ends = tt
generated_risen status.Memory seed steps before after ends = tt
generated_risen (status.BadScript n) seed steps before after ends = tt
generated_risen (status.Forged n) seed steps before after ends = tt
generated_risen _ seed steps before after ends = absurd ends

audit_risen : (s : RunStatus) (before after : Objects) → AuditEnds s (outside before.source before.sink) (outside after.source after.sink) → HasRisen s before after
audit_risen status.SinkFault before after ends = ends.0.rose
audit_risen status.SourceFault before after ends = ends.0.rose
audit_risen status.Done before after ends = tt
audit_risen status.Memory before after ends = tt
audit_risen (status.BadScript n) before after ends = tt
audit_risen (status.NotAgreed n) before after ends = tt
audit_risen _ before after ends = absurd ends

met_risen : (s : RunStatus) (port turns : ℕ) (before after : Objects) → MeetEnds port turns s (sides before.spawner before.sink) (sides after.spawner after.sink) → HasRisen s before after
met_risen status.SinkFault port turns before after ends = ends.fails.1
met_risen status.SpawnFault port turns before after ends = ends.fails.0
met_risen status.Done port turns before after ends = tt
met_risen status.Memory port turns before after ends = tt
met_risen (status.ChildFailed c) port turns before after ends = tt
met_risen status.BadWords port turns before after ends = tt
met_risen (status.BadScript n) port turns before after ends = tt
met_risen (status.Forged n) port turns before after ends = tt
met_risen status.ScriptLong port turns before after ends = tt
met_risen _ port turns before after ends = absurd (of_meet _ port turns _ _ ends)

counted_risen : (how : Served) (before after : Objects) → Counted how (around before) (around after) → HasRisen (status_of how) before after
counted_risen served.Done before after counted = tt
counted_risen served.Memory before after counted = tt
counted_risen served.LinkFault before after counted = counted.link
counted_risen served.SinkFault before after counted = counted.sink
counted_risen served.EntropyFault before after counted = counted.entropy

served_risen : (v : Serving) (s : RunStatus) (before after : Objects) → NodeEnds v s (around before) (around after) → HasRisen s before after
served_risen v s before after ends = let P : RunStatus → Type 0 = λ x. HasRisen x before after in subst P (sym ends.is) (counted_risen ends.how before after ends.counted)

pub risen : (line : CommandLine) (s : RunStatus) (before after : Objects) → CommandEnds line s before after → HasRisen s before after
risen (Lines Show) s before after ends = script_risen s showing before after ends
risen (Lines Replay) s before after ends = script_risen s playing before after ends
risen (Lines Journal) s before after ends = script_risen s journaling before after ends
risen (Lines (Generate seed steps)) s before after ends = generated_risen s seed steps before after ends
risen (Lines Audit) s before after ends = audit_risen s before after ends
risen (Serve v) s before after ends = served_risen v s before after ends
risen (Meet m) s before after ends = met_risen s m.port m.turns before after ends

-- ---- the status of a child

script_child : (s : RunStatus) (doing : Doing) (before after : Outside) → ScriptEnds doing s before after → failed_with s ≡ None
script_child (status.ChildFailed c) doing before after ends = absurd ends
script_child _ doing before after ends = refl

generated_child : (s : RunStatus) (seed steps : ℕ) (before after : SinkSeen) → GeneratedEnds seed steps s before after → failed_with s ≡ None
generated_child (status.ChildFailed c) seed steps before after ends = absurd ends
generated_child _ seed steps before after ends = refl

audit_child : (s : RunStatus) (before after : Outside) → AuditEnds s before after → failed_with s ≡ None
audit_child (status.ChildFailed c) before after ends = absurd ends
audit_child _ before after ends = refl

served_child : (how : Served) → failed_with (status_of how) ≡ None
served_child served.Done = refl
served_child served.Memory = refl
served_child served.LinkFault = refl
served_child served.SinkFault = refl
served_child served.EntropyFault = refl

pub child_told : (line : CommandLine) (s : RunStatus) (before after : Objects) → before.spawner.status ≡ None → (starts_nodes line ≡ false → after.spawner ≡ before.spawner) → CommandEnds line s before after → after.spawner.status ≡ failed_with s
child_told (Lines Show) s before after none same ends =
    ap (λ p. p.status) (same refl) ∙ none ∙ sym (script_child s showing (outside before.source before.sink) (outside after.source after.sink) ends)
child_told (Lines Replay) s before after none same ends =
    ap (λ p. p.status) (same refl) ∙ none ∙ sym (script_child s playing (outside before.source before.sink) (outside after.source after.sink) ends)
child_told (Lines Journal) s before after none same ends =
    ap (λ p. p.status) (same refl) ∙ none ∙ sym (script_child s journaling (outside before.source before.sink) (outside after.source after.sink) ends)
child_told (Lines (Generate seed steps)) s before after none same ends =
    ap (λ p. p.status) (same refl) ∙ none ∙ sym (generated_child s seed steps before.sink after.sink ends)
child_told (Lines Audit) s before after none same ends =
    ap (λ p. p.status) (same refl) ∙ none ∙ sym (audit_child s (outside before.source before.sink) (outside after.source after.sink) ends)
child_told (Serve v) s before after none same ends =
    ap (λ p. p.status) (same refl) ∙ none ∙ sym (ap failed_with ends.is ∙ served_child ends.how)
child_told (Meet m) s before after none same ends = ends.first

-- ---- what a command doesn't need

pub reads_none : (words : List (String Global)) (line : CommandLine) → Says words line → (IsShow words → ⊥) → (IsReplay words → ⊥) → (IsJournal words → ⊥) → (IsAudit words → ⊥) → reads_lines line ≡ false
reads_none words (Lines Show) says show replay journal audit = absurd (show says)
reads_none words (Lines Replay) says show replay journal audit = absurd (replay says)
reads_none words (Lines Journal) says show replay journal audit = absurd (journal says)
reads_none words (Lines (Generate seed steps)) says show replay journal audit = refl
reads_none words (Lines Audit) says show replay journal audit = absurd (audit says)
reads_none words (Serve v) says show replay journal audit = refl
reads_none words (Meet m) says show replay journal audit = refl

pub starts_none : (words : List (String Global)) (line : CommandLine) → Says words line → ((port turns : ℕ) → IsMeet words port turns → ⊥) → starts_nodes line ≡ false
starts_none words (Lines Show) says meet = refl
starts_none words (Lines Replay) says meet = refl
starts_none words (Lines Journal) says meet = refl
starts_none words (Lines (Generate seed steps)) says meet = refl
starts_none words (Lines Audit) says meet = refl
starts_none words (Serve v) says meet = refl
starts_none words (Meet m) says meet = absurd (meet m.port m.turns says)

pub serves_none : (words : List (String Global)) (line : CommandLine) → Says words line → ((v : Serving) → IsServe words v → ⊥) → serves line ≡ false
serves_none words (Lines Show) says serve = refl
serves_none words (Lines Replay) says serve = refl
serves_none words (Lines Journal) says serve = refl
serves_none words (Lines (Generate seed steps)) says serve = refl
serves_none words (Lines Audit) says serve = refl
serves_none words (Serve v) says serve = absurd (serve v says)
serves_none words (Meet m) says serve = refl
