use Rattle.log_verdict.proofs.Whole.{each_passed_audit_is_agreed}
use Rattle.log_verdict.proofs.laws.each_passed_audit_is_agreed.Goals as goal

pub returns : goal.returns
returns c = each_passed_audit_is_agreed
