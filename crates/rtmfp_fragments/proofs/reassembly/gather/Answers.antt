use Rattle.std.proofs.Common.{◌≡◌, ◌++◌, ◌∷◌, [], List, Some, false, sym, ap, ◌∙◌, subst}
use Rattle.rtmfp_fragments.specs.Pieces.{PieceParts, piece_parts}
use Rattle.rtmfp_fragments.specs.Held.{PacketParts, kept_at, is_again, pieces_under, whole}
use Rattle.rtmfp_fragments.proofs.Weighing.{short}
use Rattle.rtmfp_fragments.proofs.reassembly.gather.Goals as goal

pub new-requires : goal.new-requires
new-requires c =
    let x : PieceParts = piece_parts c.args.x.now in
    let under : List PacketParts → List PieceParts = λ held. pieces_under c.args.id (kept_at c.args.moment held) in
    let again : is_again x (under c.args.packets.now.items) ≡ false = ap (λ held. is_again x (under held)) (sym c.deref.ensures.value) ∙ ap (is_again x) (sym c.pieces_under.ensures) ∙ sym c.is_again.ensures ∙ c.if-is_again.false in
    let are : c.pieces_under-then-is_whole.result.now ≡ under c.args.packets.now.items = c.pieces_under-then-is_whole.ensures ∙ ap under c.deref-then-is_whole.ensures.value in
    short c.args.packets.now.items c.args.id c.args.moment x c.in_ok-all.all.items c.requires.within again c.requires.free
    (subst (λ pieces. whole (pieces ++ x ∷ []) ≡ Some c.in_ok-all.all.items) are c.in_ok-all.ensures)
