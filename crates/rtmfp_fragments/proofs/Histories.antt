-- What is held under an id are pieces of one packet, where all that were taken are.
use Rattle.std.proofs.Common.{◌≡◌, ℕ, suc, ◌==◌, Bool, true, false, not, cond, filter, if◌then◌else◌, List, [], ◌∷◌, ◌++◌, length, Option, Some, None, Result, Ok, Err, ◌⊎◌, inl, inr, refl, sym, ap, ◌∙◌, arith}
use Rattle.std.proofs.lemmas.Bool.Decides.{nat_tests}
use Rattle.rtmfp_fragments.specs.declared.outcome.PieceRefusal.{PieceRefusal}
use Rattle.rtmfp_fragments.specs.declared.outcome.Gathered.{Gathered}
use Rattle.rtmfp_fragments.specs.declared.outcome.Gathered.TheVariants.{Again, Kept, Whole}
use Rattle.rtmfp_fragments.specs.Pieces.{PieceParts, pieces_of}
use Rattle.rtmfp_fragments.specs.Held.{PacketParts, has_id, is_kept, piece_at, whole, is_again, pieces_under, kept_at, with_piece, with_one_more}
use Rattle.rtmfp_fragments.specs.Answers.{unless, piece_refusal, gathered, answer_to, held_after}
use Rattle.rtmfp_fragments.specs.Happenings.{Happening, Took, Lacked, answer_then, held_by, JoinsFrom, JoinsByNumber, IsPieceOf, is_taking, AllOfOne, GivesThePacket}
use Rattle.rtmfp_fragments.proofs.Cutting.{at_true, at_false}
use Rattle.rtmfp_fragments.proofs.Joining.{whole_is}
use Rattle.rtmfp_fragments.proofs.Spelling.{joins, spelled}

whole_from : (b : Bool) (r : Option PieceRefusal) (o : Option (List ℕ)) (w : List ℕ)
    → ◌≡◌ {A = Result Gathered PieceRefusal} (if b then Ok Again else unless r (gathered o)) (Ok (Whole w)) → o ≡ Some w
whole_from true r o w e = absurd cc
whole_from false (Some refusal) o w e = absurd cc
whole_from false None None w e = absurd cc
whole_from false None (Some v) w e = let same : ◌≡◌ {A = Gathered} (Whole v) (Whole w) = cc in cc

-- by what is held once old packets are forgotten
pub by_number_now : (held : List PacketParts) (id : ℕ) (x : PieceParts) (packet : List ℕ) → answer_to id x held ≡ Ok (Whole packet)
    → JoinsFrom (pieces_under id held ++ x ∷ []) 0 packet
by_number_now held id x packet e =
    let pieces = pieces_under id held ++ x ∷ [] in
    let all = whole_from (is_again x (pieces_under id held)) (piece_refusal id x held) (whole pieces) packet e in
    joins 64 0 pieces packet (sym (whole_is pieces) ∙ all)

pub by_number : JoinsByNumber
by_number held id x moment packet e = by_number_now (kept_at moment held) id x packet e

abbrev pub Pure : List ℕ → ℕ → List PieceParts → Type 0
Pure p size pieces = (k : ℕ) (x : PieceParts) → piece_at k pieces ≡ Some x → piece_at k (pieces_of p size) ≡ Some x

abbrev pub AllPure : ℕ → List ℕ → ℕ → List PacketParts → Type 0
AllPure id p size [] = Unit {0}
AllPure id p size (q ∷ later) = (q.id ≡ id → Pure p size q.pieces) × AllPure id p size later

pub nothing_there : (k : ℕ) (x : PieceParts) → piece_at k [] ≡ Some x → ⊥
nothing_there k x e = absurd cc

head_or_later : (b : Bool) (p y : PieceParts) (later : Option PieceParts) → (if b then Some p else later) ≡ Some y → ((b ≡ true) × (y ≡ p)) ⊎ ((b ≡ false) × (later ≡ Some y))
head_or_later true p y later e = inl (refl, cc)
head_or_later false p y later e = inr (refl, e)

pure_end : (p : List ℕ) (size k : ℕ) (x y : PieceParts) → IsPieceOf p size x → ((x.number == k) ≡ true) × (y ≡ x) → piece_at k (pieces_of p size) ≡ Some y
pure_end p size k x y is h =
    let same : k ≡ x.number = let e : (x.number == k) ≡ true = h.0 in grind (arith, nat_tests) in
    ap (λ n. piece_at n (pieces_of p size)) same ∙ is ∙ ap (λ (z : PieceParts). Some z) (sym h.1)

end_last : (k : ℕ) (x y : PieceParts) → ((((x.number == k) ≡ true) × (y ≡ x)) ⊎ (((x.number == k) ≡ false) × (piece_at k [] ≡ Some y)))
    → (piece_at k [] ≡ Some y) ⊎ (((x.number == k) ≡ true) × (y ≡ x))
end_last k x y (inl h) = inr h
end_last k x y (inr h) = inl h.1

end_past : (k : ℕ) (x y z : PieceParts) (later : List PieceParts) → (z.number == k) ≡ false
    → (piece_at k later ≡ Some y) ⊎ (((x.number == k) ≡ true) × (y ≡ x)) → (piece_at k (z ∷ later) ≡ Some y) ⊎ (((x.number == k) ≡ true) × (y ≡ x))
end_past k x y z later not (inl h) = inl (at_false (z.number == k) (Some z) (piece_at k later) not ∙ h)
end_past k x y z later not (inr h) = inr h

end_more : (k : ℕ) (x y z : PieceParts) (later : List PieceParts)
    → (piece_at k (later ++ x ∷ []) ≡ Some y → (piece_at k later ≡ Some y) ⊎ (((x.number == k) ≡ true) × (y ≡ x)))
    → ((((z.number == k) ≡ true) × (y ≡ z)) ⊎ (((z.number == k) ≡ false) × (piece_at k (later ++ x ∷ []) ≡ Some y)))
    → (piece_at k (z ∷ later) ≡ Some y) ⊎ (((x.number == k) ≡ true) × (y ≡ x))
end_more k x y z later go (inl h) = inl (at_true (z.number == k) (Some z) (piece_at k later) h.0 ∙ ap (λ (p : PieceParts). Some p) (sym h.1))
end_more k x y z later go (inr h) = end_past k x y z later h.0 (go h.1)

pub end_or : (k : ℕ) (x y : PieceParts) (pieces : List PieceParts) → piece_at k (pieces ++ x ∷ []) ≡ Some y → (piece_at k pieces ≡ Some y) ⊎ (((x.number == k) ≡ true) × (y ≡ x))
end_or k x y [] e = end_last k x y (head_or_later (x.number == k) x y (piece_at k []) e)
end_or k x y (z ∷ later) e = end_more k x y z later (λ at. end_or k x y later at) (head_or_later (z.number == k) z y (piece_at k (later ++ x ∷ [])) e)

pure_either : (p : List ℕ) (size k : ℕ) (x y : PieceParts) (pieces : List PieceParts) → Pure p size pieces → IsPieceOf p size x
    → (piece_at k pieces ≡ Some y) ⊎ (((x.number == k) ≡ true) × (y ≡ x)) → piece_at k (pieces_of p size) ≡ Some y
pure_either p size k x y pieces are is (inl h) = are k y h
pure_either p size k x y pieces are is (inr h) = pure_end p size k x y is h

pure_more : (p : List ℕ) (size : ℕ) (x : PieceParts) (pieces : List PieceParts) → Pure p size pieces → IsPieceOf p size x → Pure p size (pieces ++ x ∷ [])
pure_more p size x pieces are is k y e = pure_either p size k x y pieces are is (end_or k x y pieces e)

pure_one : (p : List ℕ) (size : ℕ) (x : PieceParts) → IsPieceOf p size x → Pure p size (x ∷ [])
pure_one p size x is = pure_more p size x [] (λ k y e. absurd (nothing_there k y e)) is

filter_by : (b : Bool) (id : ℕ) (p : List ℕ) (size : ℕ) (q : PacketParts) (later : List PacketParts) → (q.id ≡ id → Pure p size q.pieces) → AllPure id p size later
    → AllPure id p size (cond b (q ∷ later) later)
filter_by true id p size q later h rest = (h, rest)
filter_by false id p size q later h rest = rest

pub pure_filter : (test : PacketParts → Bool) (id : ℕ) (p : List ℕ) (size : ℕ) (held : List PacketParts) → AllPure id p size held → AllPure id p size (filter test held)
pure_filter test id p size [] h = tt
pure_filter test id p size (q ∷ later) h = filter_by (test q) id p size q (filter test later) h.0 (pure_filter test id p size later h.1)

with_by : (b : Bool) (its id moment : ℕ) (p : List ℕ) (size : ℕ) (x : PieceParts) (q : PacketParts) (later more : List PacketParts) → (q.id == its) ≡ b
    → (its ≡ id → IsPieceOf p size x) → (q.id ≡ id → Pure p size q.pieces) → AllPure id p size later → AllPure id p size more
    → AllPure id p size (if b then with_one_more q x ∷ later else q ∷ more)
with_by true its id moment p size x q later more same is h rest over =
    (λ e. let its_id : its ≡ id = grind (arith, nat_tests) in pure_more p size x q.pieces (h e) (is its_id), rest)
with_by false its id moment p size x q later more same is h rest over = (h, over)

pure_with : (its id moment : ℕ) (p : List ℕ) (size : ℕ) (x : PieceParts) (held : List PacketParts) → (its ≡ id → IsPieceOf p size x) → AllPure id p size held
    → AllPure id p size (with_piece its moment x held)
pure_with its id moment p size x [] is h = (λ e. pure_one p size x (is e), tt)
pure_with its id moment p size x (q ∷ later) is h =
    with_by (q.id == its) its id moment p size x q later (with_piece its moment x later) refl is h.0 h.1 (pure_with its id moment p size x later is h.1)

under_by : (b : Bool) (id : ℕ) (p : List ℕ) (size : ℕ) (q : PacketParts) (later : List PieceParts) → (q.id == id) ≡ b → (q.id ≡ id → Pure p size q.pieces) → Pure p size later
    → Pure p size (if b then q.pieces else later)
under_by true id p size q later e h rest = let same : q.id ≡ id = grind (arith, nat_tests) in h same
under_by false id p size q later e h rest = rest

pub pure_under : (id : ℕ) (p : List ℕ) (size : ℕ) (held : List PacketParts) → AllPure id p size held → Pure p size (pieces_under id held)
pure_under id p size [] h = λ k x e. absurd (nothing_there k x e)
pure_under id p size (q ∷ later) h = under_by (q.id == id) id p size q (pieces_under id later) refl h.0 (pure_under id p size later h.1)

pure_after : (answer : Result Gathered PieceRefusal) (its id moment : ℕ) (p : List ℕ) (size : ℕ) (x : PieceParts) (now : List PacketParts)
    → (its ≡ id → is_taking answer ≡ true → IsPieceOf p size x) → AllPure id p size now → AllPure id p size (held_after its moment x now answer)
pure_after (Ok Again) its id moment p size x now is h = h
pure_after (Ok Kept) its id moment p size x now is h = pure_with its id moment p size x now (λ e. is e refl) h
pure_after (Ok (Whole packet)) its id moment p size x now is h = pure_filter (λ q. not (has_id its q)) id p size now h
pure_after (Err refusal) its id moment p size x now is h = h

pub all_pure : (id : ℕ) (p : List ℕ) (size : ℕ) (happened : List Happening) → AllOfOne id p size happened → AllPure id p size (held_by happened)
all_pure id p size [] h = tt
all_pure id p size (Took its x moment ∷ past) h =
    pure_after (answer_then (held_by past) its x moment) its id moment p size x (kept_at moment (held_by past)) h.0
    (pure_filter (is_kept moment) id p size (held_by past) (all_pure id p size past h.1))
all_pure id p size (Lacked its x moment ∷ past) h = pure_filter (is_kept moment) id p size (held_by past) (all_pure id p size past h)

pub gives : GivesThePacket
gives happened id size packet given x moment all e =
    let now = kept_at moment (held_by happened) in
    let are = pure_under id packet size now (pure_filter (is_kept moment) id packet size (held_by happened) (all_pure id packet size happened all.1)) in
    let is = all.0 refl (ap (λ (a : Result Gathered PieceRefusal). is_taking a) e) in
    let pieces = pieces_under id now ++ x ∷ [] in
    spelled pieces size (suc (length packet)) 0 packet given (λ k y above at. pure_more packet size x (pieces_under id now) are is k y at)
    (by_number_now now id x given e)
