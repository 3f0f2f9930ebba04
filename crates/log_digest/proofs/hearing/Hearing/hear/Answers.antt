use Rattle.std.proofs.Common.{Bool, subst, sym}
use Rattle.log_digest.specs.Hearing.{Heard, Hears, heard_with}
use Rattle.log_digest.proofs.Hears.{hears}
use Rattle.log_digest.proofs.hearing.Hearing.hear.Goals as goal

pub returns-clause-log : goal.returns-clause-log
returns-clause-log c = λ secrets context mode near taken datagram is opens.
    subst (λ (h : Heard). Hears secrets context mode near taken h (record { moment = c.args.moment; datagram = datagram }) c.note.result) (sym c.note.ensures.value)
    (subst (λ (b : Bool). Hears secrets context mode near taken (heard_with c.args.count c.args.moment c.args.fits c.args.self.now) (record { moment = c.args.moment; datagram = datagram }) b) (sym c.note.ensures.takes)
    (hears secrets context mode near taken c.args.self.now is datagram c.args.count c.args.moment c.args.fits opens))
