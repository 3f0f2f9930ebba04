-- What `replay --journal` writes of a script: the text of the logs of its ends.
use Rattle.std.specs.Prelude.{ℕ, ◌≡◌, ◌≢◌, ◌⊎◌, List, [], ◌∷◌, ◌++◌, Option, Some}
use Rattle.endpoint_laws.specs.History.{History}
use Rattle.log_writing.specs.Written.{journal_text}
use Rattle.world_logs.specs.Heads.{name_at, setups_of}
use Rattle.placed_world.specs.declared.step.LostLine.{LostLine}
use Rattle.placed_world.specs.declared.step.PlacedStep.{PlacedStep}
use Rattle.placed_world.specs.Seen.{PlacedSeen}
use Rattle.placed_world.specs.Stepping.{Placed}
use Rattle.rendezvous_world.specs.History.{history_of}
use Rattle.rendezvous_world.specs.Seen.{Seen}
use Rattle.rtmfp_play.specs.declared.said.Said.{Said}
use Rattle.rtmfp_play.specs.declared.said.Said.TheVariants.{Text, Bad, Forged}
use Rattle.rtmfp_play.specs.Play.{HistoryHolds, IsBadPlay, IsForgedPlay, PlaysNothing, placed_said}
use Rattle.rtmfp_script.specs.declared.line.ScriptLine.{ScriptLine}
use Rattle.rtmfp_script.specs.declared.line.ScriptLine.TheVariants as says
use Rattle.rtmfp_script.specs.Grammar.{IsLineOf}

-- the text of the logs of all ends of a world: what each was given first, and the events
abbrev pub logs_text : Seen → List ℕ
logs_text w = journal_text (name_at w.ends) (setups_of w.ends) (history_of w)

-- what is written of a world so far: nothing before the first event
abbrev pub text_if : History → List ℕ → List ℕ
text_if [] text = []
text_if (event ∷ earlier) text = text

abbrev pub written_so_far : Seen → List ℕ
written_so_far w = text_if (history_of w) (logs_text w)

-- what is written at the end: the whole text where no event began, and else nothing more
abbrev pub text_unless : History → List ℕ → List ℕ
text_unless [] text = text
text_unless (event ∷ earlier) text = []

abbrev pub end_text : Seen → List ℕ
end_text w = text_unless (history_of w) (logs_text w)

-- ---- a line

-- An event began before this line, which says an end: the text of what ends were given first is
-- written, so no more may come.
pub record IsLateEnd (w : PlacedSeen) (line : List ℕ) : Type 0 where
  pub began : history_of w.world ≢ []
  pub name : List ℕ
  pub max_peers : ℕ
  pub max_sessions : ℕ
  pub cert : List ℕ
  pub is_line : IsLineOf line (says.End name max_peers max_sessions cert)

-- The line says a step, which was done whole; this text brings what is written to what it is then,
-- and the history holds.
pub record JournalsStep (w : PlacedSeen) (n : ℕ) (line : List ℕ) (t : PlacedSeen)
    (text : List ℕ) : Type 0 where
  pub said : ScriptLine
  pub step : PlacedStep
  pub lost : Option LostLine
  pub is_line : IsLineOf line said
  pub in_time : IsLateEnd w line → ⊥
  pub is_step : placed_said w said ≡ Some step
  pub stepped : Placed w n step lost t
  pub is_text : written_so_far t.world ≡ written_so_far w.world ++ text
  pub holds : HistoryHolds t.world

abbrev pub Journals : PlacedSeen → ℕ → List ℕ → PlacedSeen → List ℕ → Type 0
Journals w n line t text = PlaysNothing w line t text ⊎ JournalsStep w n line t text

abbrev pub IsBadJournal : PlacedSeen → List ℕ → Type 0
IsBadJournal w line = IsBadPlay w line ⊎ IsLateEnd w line

-- The line brings a datagram that nobody sent.
abbrev pub IsForgedJournal : PlacedSeen → List ℕ → Type 0
IsForgedJournal w line = IsForgedPlay w line

-- ---- what is told of line n

abbrev pub JournaledAs : Said → PlacedSeen → ℕ → List ℕ → PlacedSeen → List ℕ → Type 0
JournaledAs Text w n line t text = Journals w n line t text
JournaledAs Bad w n line t text = IsBadJournal w line
JournaledAs Forged w n line t text = IsForgedJournal w line
