use Rattle.std.proofs.Common.{rules, ◌≡◌, true, false, Ok, Err, ap, ◌∙◌}
use Rattle.std.specs.Prelude.{is_none}
use Rattle.std.specs.Str.{bytes_eq}
use Rattle.sha2.specs.Sha256.{sha256}
use Rattle.glare_core.specs.declared.answers.Keying.{Keying}
use Rattle.glare_core.specs.Calls.{judged}
use Rattle.startup.specs.declared.judging.Hearing.{Hearing}
use Rattle.startup_packets.specs.Readings.{InitiatorKeying}
use Rattle.startup.specs.Attempts.{is_own}
use Rattle.startup.specs.Keyings.{keying_of}
use Rattle.startup_packets.specs.Read.{initiator_of}
use Rattle.startup.specs.Judging.{heard_as}
use Rattle.startup.proofs.Judged.{judged_ok, judged_err}
use Rattle.startup.proofs.startup.Startup.judge_named.Goals as goal

pub returns-in-Ok : goal.returns-in-Ok
returns-in-Ok c =
    let read : InitiatorKeying = initiator_of c.args.fields.now in
    let named : bytes_eq read.part.responder (sha256 c.args.self.now.cert) ≡ true = search rules in
    let other : is_own c.args.self.now read.cert ≡ false = search rules in
    let found : judged c.args.self.now.ledger (keying_of read) (is_none c.args.full) ≡ Ok c.in-Ok.judged = search rules in
    ap (λ (h : Hearing). Ok h) (c.heard_as.ensures ∙ ap (λ (k : Keying). heard_as k c.in-Ok.judged) c.keying_of-keying.ensures)
    ∙ judged_ok c.args.self.now read c.args.full c.in-Ok.judged named other found

pub returns-in-Err : goal.returns-in-Err
returns-in-Err c =
    let read : InitiatorKeying = initiator_of c.args.fields.now in
    let named : bytes_eq read.part.responder (sha256 c.args.self.now.cert) ≡ true = search rules in
    let other : is_own c.args.self.now read.cert ≡ false = search rules in
    let found : judged c.args.self.now.ledger (keying_of read) (is_none c.args.full) ≡ Err c.in-Err.refusal = search rules in
    judged_err c.args.self.now read c.args.full c.in-Err.refusal c.heard_cause.result named other found c.heard_cause.ensures
