-- Where all pieces from 0 to a last one are there, they are joined.
use Rattle.std.proofs.Common.{◌≡◌, ℕ, zero, suc, ◌+◌, ◌<◌, ◌==◌, Bool, true, false, if◌then◌else◌, All, List, [], ◌∷◌, ◌++◌, option_map, Option, Some, None, refl, sym, ap, ◌∙◌, arith}
use Rattle.std.proofs.lemmas.Bool.Decides.{nat_tests}
use Rattle.std.proofs.lemmas.List.Elements.{All-head, All-tail, All-push}
use Rattle.rtmfp_fragments.specs.Pieces.{PieceParts}
use Rattle.rtmfp_fragments.specs.Held.{PacketParts, piece_at, before, joined, is_kept, kept_at, pieces_under, AreHeld}
use Rattle.rtmfp_fragments.specs.Happenings.{JoinsFrom, Last, Next, KeepsWhatIsNotWhole}
use Rattle.rtmfp_fragments.proofs.Cutting.{at_true, at_false}
use Rattle.rtmfp_fragments.proofs.Joining.{whole_is}
use Rattle.rtmfp_fragments.proofs.Limits.{kept_now, low_number, limits_filter, nothing_held}

abbrev IsLow : PieceParts → Type 0
IsLow x = x.number < 64

none_some : {X : Type 0} (x : X) → None ≡ Some x → ⊥
none_some x e = absurd cc

low_by : (b : Bool) (k : ℕ) (z y : PieceParts) (later : Option PieceParts) → (z.number == k) ≡ b → IsLow z → (later ≡ Some y → k < 64) → (if b then Some z else later) ≡ Some y → k < 64
low_by true k z y later e low go found = grind (arith, nat_tests)
low_by false k z y later e low go found = go found

-- a number that is found is below 64
low : (k : ℕ) (y : PieceParts) (pieces : List PieceParts) → All IsLow pieces → piece_at k pieces ≡ Some y → k < 64
low k y [] all e = absurd (none_some y e)
low k y (z ∷ later) all e =
    low_by (z.number == k) k z y (piece_at k later) refl (All-head IsLow z later all) (λ found. low k y later (All-tail IsLow z later all) found) e

joined_back : (most number : ℕ) (pieces : List PieceParts) (packet : List ℕ) → number + most ≡ 64 → All IsLow pieces → JoinsFrom pieces number packet
    → joined most number pieces ≡ Some packet
joined_back zero number pieces packet e all (Last n x here last) = let below = low n x pieces all here in absurd (omega arith)
joined_back zero number pieces packet e all (Next n x later here more rest) = let below = low n x pieces all here in absurd (omega arith)
joined_back (suc most) number pieces packet e all (Last n x here last) =
    ap (λ (o : Option PieceParts). before o (joined most (n + 1) pieces)) here
    ∙ at_false x.more (option_map (λ bytes. x.bytes ++ bytes) (joined most (n + 1) pieces)) (Some x.bytes) last
joined_back (suc most) number pieces packet e all (Next n x later here more rest) =
    ap (λ (o : Option PieceParts). before o (joined most (n + 1) pieces)) here
    ∙ at_true x.more (option_map (λ bytes. x.bytes ++ bytes) (joined most (n + 1) pieces)) (Some x.bytes) more
    ∙ ap (λ (o : Option (List ℕ)). option_map (λ bytes. x.bytes ++ bytes) o) (joined_back most (n + 1) pieces later (omega arith) all rest)

under_by : (b : Bool) (q : PacketParts) (later : List PieceParts) → AreHeld q.pieces → AreHeld later → AreHeld (if b then q.pieces else later)
under_by true q later h rest = h
under_by false q later h rest = rest

pub held_under : (id : ℕ) (held : List PacketParts) → All (λ p. AreHeld p.pieces) held → AreHeld (pieces_under id held)
held_under id [] h = nothing_held
held_under id (q ∷ later) h =
    under_by (q.id == id) q (pieces_under id later) (All-head (λ p. AreHeld p.pieces) q later h) (held_under id later (All-tail (λ p. AreHeld p.pieces) q later h))

pub not_whole : KeepsWhatIsNotWhole
not_whole held id x moment packet h kept joins =
    let now = kept_at moment held in
    let limits = limits_filter (is_kept moment) held h in
    let is = kept_now id x now kept in
    let pieces = pieces_under id now ++ x ∷ [] in
    let under = held_under id now limits.packets in
    let all = joined_back 64 0 pieces packet (omega arith)
    (All-push IsLow (pieces_under id now) x under.numbers (low_number id x now is)) joins in
    none_some packet (sym is.is_open ∙ whole_is pieces ∙ all)
