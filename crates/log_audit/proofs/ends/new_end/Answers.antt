use Rattle.std.proofs.Common.{◌∙◌, ap, sym}
use Rattle.endpoint_model.specs.Event.{Setup, own_of}
use Rattle.log_verdict.specs.Told.{end_of}
use Rattle.log_audit.proofs.ends.new_end.Goals as goal

pub returns : goal.returns
returns c = λ secrets setups who is. record {
  own = ap own_of is ∙ c.requires;
  cookies = ap (λ (s : Setup). s.cookie_secret) is ∙ sym c.new.ensures;
  watch = c.new-2.ensures secrets (end_of setups who) (ap (λ (s : Setup). s.generation) is);
}
