use Rattle.std.proofs.Common.{List, ℕ, ◌++◌, ap, ◌∙◌}
use Rattle.crypto_profile.specs.Keys.{Keys}
use Rattle.crypto_profile.specs.Sealing.{sealed}
use Rattle.packet_scramble.specs.Datagram.{datagram}
use Rattle.rendezvous_world.specs.Datagrams.{forged_number}
use Rattle.rendezvous_world.proofs.forgery.forge.Goals as goal

pub returns : goal.returns
returns c =
    ap (λ (h : List ℕ). h ++ c.seal_into.new.part) (c.copy_from_slice.ensures.after ∙ c.to_be_bytes.ensures)
    ∙ c.scramble-scrambled.ensures.datagram
    ∙ ap (datagram 0) (c.seal_into.ensures ∙ ap (λ (k : Keys). sealed k 0 forged_number c.args.plain.now) c.forgers_keys.ensures)
