use Rattle.std.proofs.Common.{◌≡◌, ℕ, List, sym, subst, true, Option, IfOk, drop}
use Rattle.crypto_profile.specs.Sealing.{number_of}
use Rattle.packet_scramble.specs.Datagram.{sid_of}
use Rattle.endpoint_model.specs.declared.entry.Entry.{Entry}
use Rattle.endpoint_model.specs.Views.{Sending, out_in}
use Rattle.endpoint_laws.specs.Lawful.{Line, OutLine}
use Rattle.log_packets.specs.Asked.{Tells}
use Rattle.log_packets.specs.Opening.{IsSealed}
use Rattle.log_entries.specs.Scenes.{HoldsSent}
use Rattle.log_entries.proofs.Meeting.{no_out_in}
use Rattle.log_entries.proofs.lines.entry_line.Goals as goal

pub returns-in-Out-clause-tells : goal.returns-in-Out-clause-tells
returns-in-Out-clause-tells c = λ setup now e before past s reads h.
    subst (λ (x : Entry). IfOk c.sent_line.result (λ it. Tells (Line c.args.secrets.now setup now e.call past c.args.rest.now x) it)) (sym c.in-Out.is)
    (subst (λ (d : List ℕ). IfOk c.sent_line.result (λ it. Tells (OutLine c.args.secrets.now setup e.call past d c.in-Out.context) it)) c.bytes.ensures
    (c.sent_line.ensures.tells setup now e before past c.args.way s h))

pub returns-in-Out-clause-sealed : goal.returns-in-Out-clause-sealed
returns-in-Out-clause-sealed c =
    subst (λ (x : Entry). IfOk c.sent_line.result (λ it. it ≡ true → HoldsSent c.args.secrets.now (out_in x) c.sent_line.new.leaving)) (sym c.in-Out.is)
    (subst (λ (d : List ℕ). IfOk c.sent_line.result (λ it. it ≡ true → IsSealed c.args.secrets.now c.in-Out.context d (sid_of d) (number_of (drop 4 d)) c.sent_line.new.leaving)) c.bytes.ensures c.sent_line.ensures.sealed)

pub returns-in_default-clause-tells : goal.returns-in_default-clause-tells
returns-in_default-clause-tells c = λ setup now e before past s reads h.
    c.plain_line.ensures setup now e before past s reads h (no_out_in c.args.entry.now c.in_default.not-Out)

pub returns-in_default-clause-sealed : goal.returns-in_default-clause-sealed
returns-in_default-clause-sealed c = λ meets.
    subst (λ (o : Option Sending). HoldsSent c.args.secrets.now o c.args.leaving.now) (sym (no_out_in c.args.entry.now c.in_default.not-Out)) tt
