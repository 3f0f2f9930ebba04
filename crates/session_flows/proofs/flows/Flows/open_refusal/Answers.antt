use Rattle.std.proofs.Common.{rules}
use Rattle.session_flows.proofs.flows.Flows.open_refusal.Goals as goal

pub returns-clause-refusal : goal.returns-clause-refusal
returns-clause-refusal c = search rules

pub returns-then-metadata-gt-METADATA-clause-refusal : goal.returns-then-metadata-gt-METADATA-clause-refusal
returns-then-metadata-gt-METADATA-clause-refusal c = search rules
