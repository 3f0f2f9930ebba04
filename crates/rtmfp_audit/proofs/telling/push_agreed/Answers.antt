use Rattle.rtmfp_audit.proofs.Judging.{on_ok}
use Rattle.rtmfp_audit.specs.Texts.{agreed_text}
use Rattle.rtmfp_text.proofs.Pushes.{push_then, push_end}
use Rattle.rtmfp_audit.proofs.telling.push_agreed.Goals as goal

pub returns : goal.returns
unfolding agreed_text
returns c =
    on_ok c.push-4.result (λ last.
    (push_then _ c.in_ok-push.ensures
    (push_then _ c.in_ok-push_number.ensures
    (push_then _ c.in_ok-push-2.ensures
    (push_then _ c.in_ok-push_number-2.ensures
    (push_then _ c.in_ok-push-3.ensures
    (push_then _ c.in_ok-push_number-3.ensures (push_end _ last))))))).joined) c.push-4.ensures
