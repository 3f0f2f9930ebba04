use Rattle.std.proofs.Common.{refl, sym, subst, Option, IfOk, drop}
use Rattle.crypto_profile.specs.Sealing.{number_of}
use Rattle.endpoint_model.specs.Views.{Sending, out_in}
use Rattle.log_contexts.specs.Contexts.{AreKeyingsOf}
use Rattle.log_entries.proofs.Adding.{no_keyings, sent_in}
use Rattle.log_entries.proofs.Meeting.{no_out_in}
use Rattle.log_entries.proofs.lines.keyings_in.Goals as goal

pub returns-in-Out : goal.returns-in-Out
returns-in-Out c = λ secrets.
    sent_in secrets c.args.leaving.now c.args.entry.now c.in-Out.to c.in-Out.datagram c.in-Out.context c.in-Out.is (λ (o : Option Sending). IfOk c.keyings_out.result (λ ids. AreKeyingsOf secrets o ids.items))
    (λ sealed. c.keyings_out.ensures secrets (record { to = c.in-Out.to; datagram = c.in-Out.datagram; context = c.in-Out.context }) (number_of (drop 4 c.in-Out.datagram)) refl sealed)

pub returns-in_default : goal.returns-in_default
returns-in_default c = λ secrets holds.
    subst (AreKeyingsOf secrets (out_in c.args.entry.now)) (sym c.new.ensures.items) (no_keyings secrets (out_in c.args.entry.now) (no_out_in c.args.entry.now c.in_default.not-Out))
