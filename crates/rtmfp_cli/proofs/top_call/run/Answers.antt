use Rattle.std.proofs.Common.{inl, inr, refl, ap, ◌∙◌}
use Rattle.std.specs.Prelude.{Err}
use Rattle.rtmfp_meet.proofs.Runs.{nothing_met}
use Rattle.rtmfp_words.specs.declared.command.Command.TheVariants.{Show, Replay, Journal, Generate, Audit}
use Rattle.rtmfp_words.specs.declared.command_line.CommandLine.TheVariants.{Lines, Serve, Meet}
use Rattle.rtmfp_words.specs.declared.meet_words.MeetWords.{MeetWords}
use Rattle.rtmfp_cli.proofs.Running.{bad_words, child_told, ended_so, fits_of, not_faulty, reads_none, risen, serves_none, starts_none}
use Rattle.rtmfp_cli.proofs.top_call.run.Goals as goal

pub run_command-requires-clause-fits : goal.run_command-requires-clause-fits
run_command-requires-clause-fits g c = fits_of c.args.words.now c.in-Ok.line c.in-Ok.ensures.says

-- ---- a command

pub returns-in-Ok-clause-show : goal.returns-in-Ok-clause-show
returns-in-Ok-clause-show g c = λ show. ended_so c.read_command_line.result c.in-Ok.line (Lines Show) _ _ _ c.in-Ok.is (c.read_command_line.ensures.only (Lines Show) show) c.run_command.ensures.ends

pub returns-in-Ok-clause-replay : goal.returns-in-Ok-clause-replay
returns-in-Ok-clause-replay g c = λ replay. ended_so c.read_command_line.result c.in-Ok.line (Lines Replay) _ _ _ c.in-Ok.is (c.read_command_line.ensures.only (Lines Replay) replay) c.run_command.ensures.ends

pub returns-in-Ok-clause-journal : goal.returns-in-Ok-clause-journal
returns-in-Ok-clause-journal g c = λ journal. ended_so c.read_command_line.result c.in-Ok.line (Lines Journal) _ _ _ c.in-Ok.is (c.read_command_line.ensures.only (Lines Journal) journal) c.run_command.ensures.ends

pub returns-in-Ok-clause-generate : goal.returns-in-Ok-clause-generate
returns-in-Ok-clause-generate g c =
    λ seed steps generate. ended_so c.read_command_line.result c.in-Ok.line (Lines (Generate seed steps)) _ _ _ c.in-Ok.is (c.read_command_line.ensures.only (Lines (Generate seed steps)) generate) c.run_command.ensures.ends

pub returns-in-Ok-clause-audit : goal.returns-in-Ok-clause-audit
returns-in-Ok-clause-audit g c = λ audit. ended_so c.read_command_line.result c.in-Ok.line (Lines Audit) _ _ _ c.in-Ok.is (c.read_command_line.ensures.only (Lines Audit) audit) c.run_command.ensures.ends

pub returns-in-Ok-clause-serve : goal.returns-in-Ok-clause-serve
returns-in-Ok-clause-serve g c = λ v serve. inl (ended_so c.read_command_line.result c.in-Ok.line (Serve v) _ _ _ c.in-Ok.is (c.read_command_line.ensures.only (Serve v) serve) c.run_command.ensures.ends)

pub returns-in-Ok-clause-meet : goal.returns-in-Ok-clause-meet
returns-in-Ok-clause-meet g c =
    λ port turns meet. (
    let m : MeetWords = record { port = port; turns = turns } in
    ended_so c.read_command_line.result c.in-Ok.line (Meet m) _ _ _ c.in-Ok.is (c.read_command_line.ensures.only (Meet m) meet) c.run_command.ensures.ends
    )

pub returns-in-Ok-clause-refused : goal.returns-in-Ok-clause-refused
returns-in-Ok-clause-refused g c = λ faulty. absurd (not_faulty c.args.words.now c.in-Ok.line c.in-Ok.ensures.says faulty)

pub returns-in-Ok-clause-bad_words : goal.returns-in-Ok-clause-bad_words
returns-in-Ok-clause-bad_words g c = λ bad. bad_words c.args.words.now c.in-Ok.line c.run_command.result _ _ c.in-Ok.ensures.says bad c.run_command.ensures.ends

pub returns-in-Ok-clause-faults : goal.returns-in-Ok-clause-faults
returns-in-Ok-clause-faults g c = risen c.in-Ok.line c.run_command.result _ _ c.run_command.ensures.ends

pub returns-in-Ok-clause-child : goal.returns-in-Ok-clause-child
returns-in-Ok-clause-child g c =
    child_told c.in-Ok.line c.run_command.result _ _ c.requires (λ none. ap g.P.Spawner.seen (c.run_command.ensures.spawner none)) c.run_command.ensures.ends

pub returns-in-Ok-clause-link : goal.returns-in-Ok-clause-link
returns-in-Ok-clause-link g c = λ no. c.run_command.ensures.link (serves_none c.args.words.now c.in-Ok.line c.in-Ok.ensures.says no)

pub returns-in-Ok-clause-clock : goal.returns-in-Ok-clause-clock
returns-in-Ok-clause-clock g c = λ no. c.run_command.ensures.clock (serves_none c.args.words.now c.in-Ok.line c.in-Ok.ensures.says no)

pub returns-in-Ok-clause-entropy : goal.returns-in-Ok-clause-entropy
returns-in-Ok-clause-entropy g c = λ no. c.run_command.ensures.entropy (serves_none c.args.words.now c.in-Ok.line c.in-Ok.ensures.says no)

pub returns-in-Ok-clause-source : goal.returns-in-Ok-clause-source
returns-in-Ok-clause-source g c = λ no. c.run_command.ensures.source (reads_none c.args.words.now c.in-Ok.line c.in-Ok.ensures.says no.0 no.1 no.2 no.3)

pub returns-in-Ok-clause-sink : goal.returns-in-Ok-clause-sink
returns-in-Ok-clause-sink g c = λ faulty. absurd (not_faulty c.args.words.now c.in-Ok.line c.in-Ok.ensures.says faulty)

pub returns-in-Ok-clause-spawner : goal.returns-in-Ok-clause-spawner
returns-in-Ok-clause-spawner g c = λ meet. c.run_command.ensures.spawner (starts_none c.args.words.now c.in-Ok.line c.in-Ok.ensures.says meet)

-- ---- no command

pub returns-in-Err-Faulty-clause-generate : goal.returns-in-Err-Faulty-clause-generate
returns-in-Err-Faulty-clause-generate g c = λ seed steps says. (c.read_command_line.ensures.faulty (c.in-Err-Faulty.is ∙ ap Err c.in-Err-Faulty.field-0-is)).not_generate seed steps says

pub returns-in-Err-Memory-clause-meet : goal.returns-in-Err-Memory-clause-meet
returns-in-Err-Memory-clause-meet g c = λ port turns says. nothing_met port turns (g.P.Spawner.seen c.args.spawner.now) (g.K.Sink.seen c.args.sink.now) c.requires

pub returns-in-Err-Memory-clause-serve : goal.returns-in-Err-Memory-clause-serve
returns-in-Err-Memory-clause-serve g c = λ v serve. inr (refl, refl)

pub returns-in-Err-Faulty-clause-serve : goal.returns-in-Err-Faulty-clause-serve
returns-in-Err-Faulty-clause-serve g c = λ v says. absurd ((c.read_command_line.ensures.faulty (c.in-Err-Faulty.is ∙ ap Err c.in-Err-Faulty.field-0-is)).not_serve v says)
