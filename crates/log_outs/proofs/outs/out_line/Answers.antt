use Rattle.std.proofs.Common.{Bool, subst, drop}
use Rattle.crypto_profile.specs.Sealing.{number_of}
use Rattle.packet_scramble.specs.Datagram.{sid_of}
use Rattle.log_packets.specs.Opening.{WasSealed}
use Rattle.log_outs.proofs.Lines.{line_tells, not_sealed_tells, sealed_long}
use Rattle.log_outs.proofs.outs.out_line.Goals as goal

pub sealed_may-requires : goal.sealed_may-requires
sealed_may-requires c =
    sealed_long c.args.secrets.now c.args.context.now c.args.datagram.now (sid_of c.args.datagram.now) (number_of (drop 4 c.args.datagram.now)) c.sealed_by.new.self (c.in-Ok-true.ensures.is.yes c.in-Ok-true.field-0-test)

pub returns-in-Ok-true-clause-tells : goal.returns-in-Ok-true-clause-tells
returns-in-Ok-true-clause-tells c = λ setup past nonce is of.
    line_tells c.args.secrets.now setup past nonce c.args.sender.now c.args.why.now is of c.args.datagram.now c.sealed_by.new.self c.args.context.now c.sealed_may.result
    (subst (λ (b : Bool). WasSealed c.args.secrets.now c.args.context.now c.args.datagram.now b c.sealed_by.new.self) c.in-Ok-true.field-0-test c.in-Ok-true.ensures.is) c.sealed_may.ensures

pub returns-in-Ok-false-clause-tells : goal.returns-in-Ok-false-clause-tells
returns-in-Ok-false-clause-tells c = λ setup past nonce is of.
    not_sealed_tells c.args.secrets.now setup past nonce c.args.sender.now c.args.why.now is of c.args.datagram.now c.sealed_by.new.self c.args.context.now
    (subst (λ (b : Bool). WasSealed c.args.secrets.now c.args.context.now c.args.datagram.now b c.sealed_by.new.self) c.in-Ok-false.field-0-test c.in-Ok-false.ensures.is)
