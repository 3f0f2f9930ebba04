-- How many pieces a packet has, and bodies that go out one after another.
use Rattle.std.proofs.Common.{ℕ, zero, suc, ◌≡◌, ◌<◌, ◌≤◌, ◌+◌, ◌-◌, ◌/◌, ◌==◌, Bool, true, false, nat_le, if◌then◌else◌, List, [], ◌∷◌, ◌++◌, length, map, take, drop, Option, Some, None, refl, sym, ap, ◌∙◌, subst, arith, append_assoc, length-append, length-drop}
use Rattle.std.specs.Prelude.{option_to_list}
use Rattle.std.specs.List.{AllByRecursion}
use Rattle.std.proofs.lemmas.List.{append-nil, length-take-le, map-append}
use Rattle.std.specs.FinMap.{get}
use Rattle.std.proofs.Math.Nat.{add-div_right, div-eq_of_lt, div-mul-le_self}
use Rattle.std.proofs.lemmas.Nat.{le-div}
use Rattle.std.proofs.lemmas.Bool.Decides.{nat_tests}
use Rattle.rtmfp_forms.specs.Address.{AddressParts}
use Rattle.rtmfp_fragments.specs.Pieces.{PieceParts, piece, pieces_of, stretches}
use Rattle.session_core.specs.Session.{SessionState, context_of, head_at}
use Rattle.session_core.specs.Sealed.{after_seal}
use Rattle.session_table.specs.declared.sealing.Packed.{Packed}
use Rattle.session_table.specs.declared.sealing.Packed.TheVariants.{Nothing, Whole, Long}
use Rattle.session_table.specs.Table.{IsPacked, IsPackedBy}
use Rattle.endpoint_laws.proofs.PacketPieces.{head_few}
use Rattle.endpoint_model.specs.declared.row.Row.{Row}
use Rattle.endpoint_model.specs.declared.entry.Entry.TheVariants.{Out}
use Rattle.endpoint_model.specs.Added.{Added}
use Rattle.endpoint_model.specs.State.{State, Did, Done, after_entries, nothing, then_do, with_session}
use Rattle.endpoint_model.specs.Sending.{last_count, limit_of, packet_head, piece_body, sent_bodies, sent_whole, session_datagram, session_packet}
use Rattle.endpoint_model.proofs.Steps.{done_nothing, joined, then_nothing, then_then}
use Rattle.end_state.specs.Steps.{MayGo, datagrams_for, piece_sent}

-- ---- how many pieces

div_less : (a b k : ℕ) → 0 < k → a ≤ b → a / k ≤ b / k
div_less a b k some less = le-div (a / k) b k some (omega (arith, less, div-mul-le_self a k))

next_count : (len size : ℕ) → 0 < size → size < len → (len - 1) / size ≡ (len - size - 1) / size + 1
next_count len size some long =
    let parts : len - 1 ≡ (len - size - 1) + size = omega (arith, long) in
    ap (λ n. n / size) parts ∙ add-div_right (len - size - 1) some

stretch_count : (most number size : ℕ) (bytes : List ℕ) → 0 < size → 0 < length bytes → length bytes < most → length (stretches most number size bytes) ≡ (length bytes - 1) / size + 1
stretch_count zero number size bytes some any few = absurd (omega (arith, few))
stretch_count (suc most) number size bytes some any few =
    by (nat_le (length bytes) size) refl
    (λ long. stretch_count most (number + 1) size (drop size bytes) some (omega (arith, long, length-drop size bytes)) (omega (arith, long, few, some, length-drop size bytes)))
  where
    later : List PieceParts
    later = stretches most (number + 1) size (drop size bytes)

    by : (b : Bool) → nat_le (length bytes) size ≡ b → (size < length bytes → length later ≡ (length (drop size bytes) - 1) / size + 1) →
        length (if b then piece number false bytes ∷ [] else piece number true (take size bytes) ∷ later) ≡ (length bytes - 1) / size + 1
    by true fits rest =
        let short : length bytes ≤ size = grind (arith, nat_tests) in
        let none : (length bytes - 1) / size ≡ 0 = div-eq_of_lt (omega (arith, short, any)) in omega (arith, none)
    by false fits rest =
        let long : size < length bytes = grind (arith, nat_tests) in
        let left : (length (drop size bytes) - 1) / size ≡ (length bytes - size - 1) / size = ap (λ n. (n - 1) / size) (length-drop size bytes) in
        omega (arith, rest long, left, next_count (length bytes) size some long)

pub piece_count : (packet : List ℕ) (size : ℕ) → 0 < size → 0 < length packet → length (pieces_of packet size) ≡ (length packet - 1) / size + 1
piece_count packet size some any = stretch_count (suc (length packet)) 0 size packet some any (omega arith)

-- ---- what became of a packet may go out

enough_for : (limit body : ℕ) (packet : List ℕ) → 96 ≤ limit → limit < length packet → length packet ≤ 5 + body → length (pieces_of packet (limit - 32)) ≤ datagrams_for limit body
enough_for limit body packet least long few =
    let size : ℕ = limit - 32 in
    let some : 0 < size = omega (arith, least) in
    let over : nat_le (5 + body) limit ≡ false = grind (arith, nat_tests, long, few) in
    let is : datagrams_for limit body ≡ (5 + body) / size + 1 = ap (λ (b : Bool). if b then 1 else (5 + body) / size + 1) over in
    let count = piece_count packet size some (omega (arith, long)) in
    let less = div_less (length packet - 1) (5 + body) size some (omega (arith, few)) in
    omega (arith, is, count, less)

pub packed_may_go : (limit body blanks : ℕ) (packet : List ℕ) (session : SessionState) (packed : Packed) → 96 ≤ limit → (length packet ≤ 1164 → length packet ≤ 5 + body) → datagrams_for limit body ≤ blanks →
    IsPacked limit packet session packed → MayGo limit blanks packed
packed_may_go limit body blanks packet session Nothing least few enough is = tt
packed_may_go limit body blanks packet session (Whole x) least few enough is = is.2
packed_may_go limit body blanks packet session (Long long blank) least few enough is =
    let longer : limit < length packet = let over = is.0 in grind (arith, nat_tests) in
    let pieces = enough_for limit body packet least longer (few is.2) in (
      is.3,
      subst (λ (xs : List ℕ). limit < length xs) (sym is.1) longer,
      subst (λ (xs : List ℕ). length xs ≤ 1164) (sym is.1) is.2,
      subst (λ (xs : List ℕ). length (pieces_of xs (limit - 32)) ≤ blanks) (sym is.1) (omega (arith, pieces, enough)),
    )

by_most : (most limit body more blanks : ℕ) → most ≡ limit → more ≡ blanks → datagrams_for limit body ≤ blanks → datagrams_for most body ≤ more
by_most most limit body more blanks most_is more_is enough =
    subst (λ (n : ℕ). datagrams_for n body ≤ more) (sym most_is) (subst (λ (n : ℕ). datagrams_for limit body ≤ n) (sym more_is) enough)

-- that of a body of this length
pub body_may_go : (s t : State) (most moment more blanks : ℕ) (body : List ℕ) (o : Option Row) (packed : Packed) → s ≡ t → most ≡ limit_of t → 96 ≤ most → more ≡ blanks → datagrams_for (limit_of t) (length body) ≤ blanks →
    IsPackedBy most moment (λ row. body) o packed → MayGo (limit_of s) more packed
body_may_go s t most moment more blanks body o packed view most_is least more_is enough is =
    subst (λ (n : ℕ). MayGo n more packed) (most_is ∙ ap limit_of (sym view)) (by o is)
  where
    by : (o : Option Row) → IsPackedBy most moment (λ row. body) o packed → MayGo most more packed
    by None is = subst (λ (p : Packed). MayGo most more p) (sym is) tt
    by (Some row) is =
        packed_may_go most (length body) more (session_packet row.session moment body) row.session packed least
        (λ short. omega (arith, head_few (head_at row.session moment), length-append (packet_head row.session moment) body))
        (by_most most (limit_of t) (length body) more blanks most_is more_is enough) is

-- and of whatever body
pub any_may_go : (s t : State) (most moment more blanks : ℕ) (body : Row → List ℕ) (o : Option Row) (packed : Packed) → s ≡ t → most ≡ limit_of t → 96 ≤ most → more ≡ blanks → datagrams_for (limit_of t) 1159 ≤ blanks →
    IsPackedBy most moment body o packed → MayGo (limit_of s) more packed
any_may_go s t most moment more blanks body o packed view most_is least more_is enough is =
    subst (λ (n : ℕ). MayGo n more packed) (most_is ∙ ap limit_of (sym view)) (by o is)
  where
    by : (o : Option Row) → IsPackedBy most moment body o packed → MayGo most more packed
    by None is = subst (λ (p : Packed). MayGo most more p) (sym is) tt
    by (Some row) is =
        packed_may_go most 1159 more (session_packet row.session moment (body row)) row.session packed least (λ short. short)
        (by_most most (limit_of t) 1159 more blanks most_is more_is enough) is

-- ---- bodies one after another

pub one_at_most : (s : State) (near : ℕ) (to : AddressParts) (body : List ℕ) (o : Option Row) → length (sent_whole s near to body o).entries ≤ 1
one_at_most s near to body None = omega arith
one_at_most s near to body (Some row) = by (row.session.sealed == last_count)
  where
    by : (b : Bool) → length (if b then nothing s else record { state = with_session s near row (after_seal row.session); entries = Out to (session_datagram row.session s.moment body) (context_of row.session true) ∷ [] }).entries ≤ 1
    by true = omega arith
    by false = omega arith

pub bodies_more : (s : State) (near : ℕ) (to : AddressParts) (bodies : List (List ℕ)) (body : List ℕ) →
    sent_bodies s near to (bodies ++ body ∷ []) ≡ then_do (sent_bodies s near to bodies) (λ t. sent_whole t near to body (get t.sessions near))
bodies_more s near to [] body = then_nothing (sent_whole s near to body (get s.sessions near))
bodies_more s near to (first ∷ rest) body =
    let d : Did = sent_whole s near to first (get s.sessions near) in
    ap (after_entries d.entries) (bodies_more d.state near to rest body) ∙ sym (then_then d (λ t. sent_bodies t near to rest) (λ t. sent_whole t near to body (get t.sessions near)))

-- ---- pieces that go out one after another

-- a piece of each of these fits into a packet, whatever its ID and its number
abbrev pub AreSmall : List PieceParts → Type 0
AreSmall pieces = AllByRecursion (λ x. length x.bytes ≤ 1132) pieces

small_stretches : (most number size : ℕ) (bytes : List ℕ) → size ≤ 1132 → AreSmall (stretches most number size bytes)
small_stretches zero number size bytes short = tt
small_stretches (suc most) number size bytes short =
    by (nat_le (length bytes) size) refl (small_stretches most (number + 1) size (drop size bytes) short)
  where
    later : List PieceParts
    later = stretches most (number + 1) size (drop size bytes)

    by : (b : Bool) → nat_le (length bytes) size ≡ b → AreSmall later → AreSmall (if b then piece number false bytes ∷ [] else piece number true (take size bytes) ∷ later)
    by true fits rest = let few : length bytes ≤ size = grind (arith, nat_tests) in (omega (arith, few, short), tt)
    by false fits rest = let long : size ≤ length bytes = grind (arith, nat_tests) in (omega (arith, short, length-take-le size bytes long), rest)

pub small_pieces : (packet : List ℕ) (size : ℕ) → size ≤ 1132 → AreSmall (pieces_of packet size)
small_pieces packet size short = small_stretches (suc (length packet)) 0 size packet short

-- Of these pieces some went out, which brought the end from s to t, and the rest are left.
pub record ArePartlySent (s : State) (near : ℕ) (to : AddressParts) (id : ℕ) (all : List PieceParts) (before : Added) (rest : List PieceParts) (t : State) (after : Added) : Type 0 where
  pub gone : List PieceParts
  pub all_are : all ≡ gone ++ rest
  pub done : Done (sent_bodies s near to (map (piece_body id) gone)) t before after

pub none_sent : (s : State) (near : ℕ) (to : AddressParts) (id : ℕ) (all : List PieceParts) (out : Added) → ArePartlySent s near to id all out all s out
none_sent s near to id all out = record { gone = []; all_are = refl; done = done_nothing s out }

-- one more
pub one_sent : (s t new : State) (near : ℕ) (to : AddressParts) (id : ℕ) (all : List PieceParts) (before between after : Added) (left : List PieceParts) (x : PieceParts) (rest : List PieceParts) →
    left ≡ x ∷ rest → ArePartlySent s near to id all before left t between → Done (piece_sent t near to id x) new between after → ArePartlySent s near to id all before rest new after
one_sent s t new near to id all before between after left x rest is so done =
    let bodies : List (List ℕ) = map (piece_body id) so.gone in
    let more : sent_bodies s near to (map (piece_body id) (so.gone ++ x ∷ [])) ≡ then_do (sent_bodies s near to bodies) (λ u. piece_sent u near to id x) =
    ap (sent_bodies s near to) (map-append (piece_body id) so.gone (x ∷ [])) ∙ bodies_more s near to bodies (piece_body id x) in
    record {
      gone = so.gone ++ x ∷ [];
      all_are = so.all_are ∙ ap (λ (xs : List PieceParts). so.gone ++ xs) is ∙ sym (append_assoc so.gone (x ∷ []) rest);
      done =
          subst (λ (d : Did). Done d new before after) (sym more)
          (joined (sent_bodies s near to bodies) (λ u. piece_sent u near to id x) t new before between after so.done done);
    }

pub all_sent : (s t : State) (near : ℕ) (to : AddressParts) (id : ℕ) (all : List PieceParts) (before after : Added) (left : List PieceParts) → left ≡ [] →
    ArePartlySent s near to id all before left t after → Done (sent_bodies s near to (map (piece_body id) all)) t before after
all_sent s t near to id all before after left is so =
    let whole : all ≡ so.gone = so.all_are ∙ ap (λ (xs : List PieceParts). so.gone ++ xs) is ∙ append-nil so.gone in
    subst (λ (xs : List PieceParts). Done (sent_bodies s near to (map (piece_body id) xs)) t before after) (sym whole) so.done

-- ---- buffers for them

-- how many are left, of which one was taken out
abbrev pub spare : {A : Type 0} → Option A → List A → ℕ
spare None xs = 0
spare (Some x) xs = 1 + length xs

pub spare_next : {A : Type 0} (next : Option A) (xs ys : List A) → xs ≡ ys ++ option_to_list next → (next ≡ None → length xs ≡ 0) → length xs ≤ spare next ys
spare_next None xs ys is none = omega (arith, none refl)
spare_next (Some x) xs ys is none = omega (arith, ap length is, length-append ys (x ∷ []))
