use Rattle.std.proofs.Common.{◌∙◌, sym, ap}
use Rattle.log_sent.specs.Pieces.{SealedSet, is_same_sealed, has_sealed}
use Rattle.log_sent.proofs.Keys.{any_mapped}
use Rattle.log_sent.proofs.pieces.Pieces.has.Goals as goal

pub returns : goal.returns
returns c =
    c.contains.ensures ∙ sym (any_mapped (is_same_sealed (record { datagram = c.args.datagram.now; context = c.args.context.now })) c.self.inside.set.keys)
    ∙ ap (λ (s : SealedSet). has_sealed s.each (record { datagram = c.args.datagram.now; context = c.args.context.now })) c.self.view_is
