-- What a run writes that keeps a journal: the lines of its log, and remarks between them.
use Rattle.std.specs.Prelude.{◌≡◌, ℕ, List, [], ◌∷◌, ◌++◌, Option, Some}
use Rattle.endpoint_model.specs.Event.{Setup, Event}
use Rattle.endpoint_laws.specs.History.{History}
use Rattle.audit_text.specs.declared.line.LogLine.{LogLine}
use Rattle.log_writing.specs.Written.{head_lines, journal_lines, text_of}
use Rattle.rtmfp_host.specs.Drawing.{next_block}
use Rattle.rtmfp_host.specs.Writing.{Appends}
use Rattle.rtmfp_words.specs.Node.{Serving}
use Rattle.rtmfp_node.specs.declared.sending.Front.TheVariants.{InJournal}
use Rattle.rtmfp_node.specs.Outside.{Told}
use Rattle.rtmfp_node.specs.Report.{unsent_line}
use Rattle.rtmfp_node.specs.Turn.{setup_of}
use Rattle.rtmfp_node.specs.Whole.{Ran}

-- the events of one end on top of a history, the oldest first
abbrev pub told_onto : History → List Event → History
told_onto earlier [] = earlier
told_onto earlier (e ∷ log) = told_onto (record { who = 0; event = e } ∷ earlier) log

-- the lines of the journal of one end, by what it was given first and its log
abbrev pub lines_of : List ℕ → Setup → List Event → List LogLine
lines_of label setup log =
    head_lines (λ _. label) 0 (setup ∷ []) ++ journal_lines (λ _. label) (told_onto [] log)

-- lines of datagrams that were lost, by their numbers
abbrev pub remarks : List ℕ → List ℕ
remarks [] = []
remarks (number ∷ numbers) = unsent_line InJournal number ++ remarks numbers

-- the lines of pieces of a journal, and the text of these, each with remarks behind it
abbrev pub all_lines : List (List LogLine × List ℕ) → List LogLine
all_lines [] = []
all_lines (piece ∷ pieces) = piece.0 ++ all_lines pieces

abbrev pub remarked : List (List LogLine × List ℕ) → List ℕ
remarked [] = []
remarked (piece ∷ pieces) = (text_of piece.0 ++ remarks piece.1) ++ remarked pieces

-- These lines were written, and remarks between them.
pub record Journals (lines : List LogLine) (before after : Option (List ℕ)) : Type 0 where
  pub pieces : List (List LogLine × List ℕ)
  pub whole : lines ≡ all_lines pieces
  pub text : Appends before after (remarked pieces)

-- A run whose words have a label has written the journal of its log.
abbrev pub EachJournalIsWritten : Type 0
EachJournalIsWritten = (v : Serving) (label : List ℕ) (turns : ℕ) (before after : Told) →
    v.journal ≡ Some label → (ran : Ran v turns before after) →
    Journals (lines_of label (setup_of v (next_block before.blocks)) ran.log) before.text after.text
