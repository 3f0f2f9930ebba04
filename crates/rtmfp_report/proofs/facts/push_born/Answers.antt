use Rattle.rtmfp_report.specs.FactText.{fact_text}
use Rattle.rtmfp_text.proofs.Pushes.{push_then, push_end}
use Rattle.rtmfp_report.proofs.facts.push_born.Goals as goal

pub returns : goal.returns
unfolding fact_text
returns c = (push_then _ c.in_ok-push.ensures (push_end _ c.in_ok-push_joined.ensures)).joined
