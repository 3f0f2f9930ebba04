use Rattle.std.proofs.Common.{◌≡◌, ◌++◌, ◌∙◌, List, ℕ, ap}
use Rattle.rtmfp_audit.proofs.Judging.{on_ok}
use Rattle.rtmfp_audit.specs.Texts.{cause_word, refused_text}
use Rattle.rtmfp_text.proofs.Pushes.{push_then, push_end}
use Rattle.rtmfp_audit.proofs.telling.push_refused.Goals as goal

pub returns : goal.returns
unfolding refused_text
returns c =
    let word : c.push-3.new.self ≡ c.push-2.new.self ++ cause_word c.args.fault = c.in_ok-push-3.ensures ∙ ap (λ (xs : List ℕ). c.push-2.new.self ++ xs) c.cause_word.ensures in
    on_ok c.push-4.result (λ last.
    (push_then _ c.in_ok-push.ensures
    (push_then _ c.in_ok-push_number.ensures
    (push_then _ c.in_ok-push-2.ensures
    (push_then _ word (push_end _ last))))).joined) c.push-4.ensures
