use Rattle.std.proofs.Common.{◌≡◌, ◌++◌, ℕ, List, OnOk, sym, ap, ◌∙◌, subst}
use Rattle.endpoint_model.specs.declared.entry.Entry.{Entry}
use Rattle.audit_text.specs.declared.line.LogEntry.TheVariants.{Out}
use Rattle.audit_text.specs.Grammar.{entry_text}
use Rattle.log_writing.specs.Texts.{text_in}
use Rattle.log_writing.specs.Written.{written_entry}
use Rattle.log_writing.proofs.Lines.{plain_out}
use Rattle.log_writing.proofs.writing.push_told.Goals as goal

pub returns-in-Out : goal.returns-in-Out
returns-in-Out c =
    let T : List ℕ → Type 0 = λ t. OnOk c.push_out.result (c.push_out.new.text ≡ c.args.text.now ++ t) in
    subst T (ap (λ (d : List ℕ). entry_text (Out c.in-Out.to d c.in-Out.context)) c.bytes.ensures ∙ plain_out c.in-Out.to c.in-Out.datagram c.in-Out.context ∙ ap (λ (entry : Entry). text_in (written_entry entry)) (sym c.in-Out.is)) c.push_out.ensures
