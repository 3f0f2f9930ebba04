use Rattle.std.proofs.Common.{◌∙◌}
use Rattle.std.specs.Prelude.{map, string_bytes}
use Rattle.rtmfp_words.proofs.Said.{reads_of, show-gives, replay-gives, journal-gives, generate-said, audit-gives}
use Rattle.rtmfp_words.proofs.command.read_command.Goals as goal

pub returns-clause-reads : goal.returns-clause-reads
returns-clause-reads c = reads_of c.args.words.now c.find_command.result c.find_command.ensures

pub returns-clause-show : goal.returns-clause-show
returns-clause-show c = λ show. c.find_command.ensures ∙ show-gives (map string_bytes c.args.words.now) show

pub returns-clause-replay : goal.returns-clause-replay
returns-clause-replay c = λ replay. c.find_command.ensures ∙ replay-gives (map string_bytes c.args.words.now) replay

pub returns-clause-journal : goal.returns-clause-journal
returns-clause-journal c = λ journal. c.find_command.ensures ∙ journal-gives (map string_bytes c.args.words.now) journal

pub returns-clause-generate : goal.returns-clause-generate
returns-clause-generate c = λ seed steps g. c.find_command.ensures ∙ generate-said c.args.words.now seed steps g

pub returns-clause-audit : goal.returns-clause-audit
returns-clause-audit c = λ audit. c.find_command.ensures ∙ audit-gives (map string_bytes c.args.words.now) audit
