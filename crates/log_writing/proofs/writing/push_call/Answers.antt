use Rattle.std.proofs.Common.{◌≡◌, ◌++◌, ℕ, List, OnOk, sym, ap, ◌∙◌, subst}
use Rattle.audit_text.specs.Grammar.{call_text}
use Rattle.log_writing.specs.declared.said.SaidCall.{SaidCall}
use Rattle.log_writing.specs.Written.{said}
use Rattle.log_writing.proofs.Lines.{plain_receive}
use Rattle.log_writing.proofs.writing.push_call.Goals as goal

pub returns-in-Receive : goal.returns-in-Receive
returns-in-Receive c =
    let T : List ℕ → Type 0 = λ t. OnOk c.push_receive.result (c.push_receive.new.text ≡ c.args.text.now ++ t) in
    subst T (plain_receive c.in-Receive.from.now c.in-Receive.datagram.now ∙ ap (λ (call : SaidCall). call_text (said call)) (sym c.in-Receive.is)) c.push_receive.ensures
