use Rattle.std.specs.Prelude.{false, not}
use Rattle.std.proofs.Common.{◌≡◌, ◌∷◌, [], ℕ, List, Option, Some, None, refl, ap, ◌∙◌}
use Rattle.rtmfp_base.specs.Reasons.{where_true}
use Rattle.rtmfp_base.specs.declared.cause.Cause.{Cause}
use Rattle.rtmfp_base.specs.declared.cause.Cause.TheVariants.{BadWhole}
use Rattle.rtmfp_packet.specs.declared.head.PacketHead.{PacketHead}
use Rattle.rtmfp_packet.specs.declared.head.Mode.TheVariants.{Startup as FromStartup}
use Rattle.session_core.specs.declared.stage.Role.{Role}
use Rattle.session_core.specs.declared.stage.Role.TheVariants.{Initiator, Responder}
use Rattle.endpoint_model.specs.declared.row.Row.{Row}
use Rattle.endpoint_model.specs.Admission.{has_mode, mode_by, packet_in, peers_mode}
use Rattle.endpoint_model.proofs.edges.refusals_of_pieces_have_numbers.Goals as goal

pub returns-clause-empty : goal.returns-clause-empty
unfolding packet_in
returns-clause-empty c s near = refl

pub returns-clause-zero : goal.returns-clause-zero
unfolding packet_in
returns-clause-zero c s near = refl

pub returns-clause-stamp : goal.returns-clause-stamp
unfolding packet_in
returns-clause-stamp c s near = refl

abbrev head : PacketHead
head = record { critical = false; reverse = false; stamp = None; echo = None; mode = FromStartup }

by_role : (role : Role) → where_true (not (has_mode head (peers_mode role))) (BadWhole 4) ≡ Some (BadWhole 4)
by_role Initiator = refl
by_role Responder = refl

pub returns-clause-mode : goal.returns-clause-mode
unfolding packet_in
returns-clause-mode c s near row there =
    ap (λ (o : Option Row). where_true (not (has_mode head (mode_by o))) (BadWhole 4)) there ∙ by_role row.session.role
