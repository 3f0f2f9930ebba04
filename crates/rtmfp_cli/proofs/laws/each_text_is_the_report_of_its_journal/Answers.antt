use Rattle.rtmfp_cli.proofs.Reporting.{each_text_is_the_report}
use Rattle.rtmfp_cli.proofs.laws.each_text_is_the_report_of_its_journal.Goals as goal

pub returns : goal.returns
returns c = each_text_is_the_report
