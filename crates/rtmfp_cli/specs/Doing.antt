-- What a run does with the lines of its source, and what it makes of each.
use Rattle.std.specs.Prelude.{ℕ, ◌<◌, ◌^◌, List, []}
use Rattle.rtmfp_cli.specs.declared.doing.Doing.{Doing}
use Rattle.rtmfp_cli.specs.declared.doing.Doing.TheVariants.{Showing, Playing, Journaling}
use Rattle.rtmfp_play.specs.declared.said.Said.{Said}
use Rattle.rtmfp_play.specs.declared.said.Said.TheVariants.{Text, Bad, Forged}
use Rattle.rtmfp_script.specs.Grammar.{line_limit}
use Rattle.rendezvous_world.specs.Sound.{AreBelow}
use Rattle.rtmfp_play.specs.Play.{Plays, HistoryHolds, IsBadPlay, IsForgedPlay, empty_placed}
use Rattle.rtmfp_play.specs.Journaling.{Journals, IsBadJournal, IsForgedJournal, end_text}
use Rattle.rtmfp_show.specs.ShowLine.{ShowsLine, IsNoPacket, show_limit}

-- the longest line
abbrev pub limit_of : Doing → ℕ
limit_of Showing = show_limit
limit_of (Playing w) = line_limit
limit_of (Journaling w) = line_limit

-- what line n leaves, and the text that is written of it
abbrev pub Does : Doing → ℕ → List ℕ → Doing → List ℕ → Type 0
Does Showing n line Showing text = ShowsLine line text
Does (Playing w) n line (Playing t) text = Plays w n line t text
Does (Journaling w) n line (Journaling t) text = Journals w n line t text
Does doing n line left text = ⊥

-- what is written behind the text of all lines
abbrev pub ending_of : Doing → List ℕ
ending_of Showing = []
ending_of (Playing w) = []
ending_of (Journaling w) = end_text w.world

-- line n is outside the grammar, or can't be done
abbrev pub IsBadLine : Doing → ℕ → List ℕ → Type 0
IsBadLine Showing n line = IsNoPacket line
IsBadLine (Playing w) n line = IsBadPlay w line
IsBadLine (Journaling w) n line = IsBadJournal w line

-- line n brings a datagram that nobody sent
abbrev pub IsForgedLine : Doing → ℕ → List ℕ → Type 0
IsForgedLine Showing n line = ⊥
IsForgedLine (Playing w) n line = IsForgedPlay w line
IsForgedLine (Journaling w) n line = IsForgedJournal w line

-- what was told of line n
abbrev pub Tells : Said → Doing → ℕ → List ℕ → Doing → List ℕ → Type 0
Tells Text doing n line left text = Does doing n line left text
Tells Bad doing n line left text = IsBadLine doing n line
Tells Forged doing n line left text = IsForgedLine doing n line

abbrev pub ShownAs : Said → List ℕ → List ℕ → Type 0
ShownAs Text line text = ShowsLine line text
ShownAs Bad line text = IsNoPacket line
ShownAs Forged line text = ⊥

-- No line of the number n or above was done.
abbrev pub IsNext : Doing → ℕ → Type 0
IsNext Showing n = Unit {0}
IsNext (Playing w) n = AreBelow w.world.lines n × (n < 2 ^ 32)
IsNext (Journaling w) n = AreBelow w.world.lines n × (n < 2 ^ 32)

-- what `show`, `replay` and `replay --journal` begin with
abbrev pub showing : Doing
showing = Showing

abbrev pub playing : Doing
playing = Playing empty_placed

abbrev pub journaling : Doing
journaling = Journaling empty_placed

-- Of the world that the lines so far leave the history holds, wherever its ends are placed.
abbrev pub Holds : Doing → Type 0
Holds Showing = Unit {0}
Holds (Playing w) = HistoryHolds w.world
Holds (Journaling w) = HistoryHolds w.world
