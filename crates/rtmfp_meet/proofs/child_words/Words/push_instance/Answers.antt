use Rattle.std.proofs.Common.{◌∷◌, [], ◌++◌, ap, ◌∙◌}
use Rattle.rtmfp_meet.proofs.Pushed.{push_then, push_end}
use Rattle.rtmfp_meet.proofs.child_words.Words.push_instance.Goals as goal

pub returns : goal.returns
returns c = (push_then _ c.in_ok-push.ensures (push_end _ (c.in_ok-push-2.ensures ∙ ap (λ xs. c.push.new.self ++ xs ∷ []) c.digits.ensures))).joined
