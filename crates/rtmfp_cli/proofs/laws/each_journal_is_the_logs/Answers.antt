use Rattle.rtmfp_cli.proofs.Logs.{each_journal_is_agreed, each_journal_is_played, each_journal_is_the_logs}
use Rattle.rtmfp_cli.proofs.laws.each_journal_is_the_logs.Goals as goal

pub returns-clause-logs : goal.returns-clause-logs
returns-clause-logs c = each_journal_is_the_logs

pub returns-clause-played : goal.returns-clause-played
returns-clause-played c = each_journal_is_played

pub returns-clause-agreed : goal.returns-clause-agreed
returns-clause-agreed c = each_journal_is_agreed
