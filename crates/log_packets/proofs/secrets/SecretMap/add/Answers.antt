use Rattle.std.proofs.Common.{ℕ, List, Option, ◌∙◌, sym, ap}
use Rattle.std.specs.Str.{bytes_eq}
use Rattle.log_packets.specs.Secrets.{may_have}
use Rattle.log_packets.proofs.secrets.SecretMap.add.Goals as goal

pub returns-in-Some-clause-is : goal.returns-in-Some-clause-is
returns-in-Some-clause-is c =
    c.eq.ensures ∙ ap (λ (xs : List ℕ). bytes_eq xs c.args.secret.now) (c.bytes.ensures ∙ c.secret.ensures)
    ∙ sym (ap (λ (o : Option (List ℕ)). may_have o c.args.secret.now) c.in-Some.ensures.some)
