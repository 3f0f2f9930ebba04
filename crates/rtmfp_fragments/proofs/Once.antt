-- A packet is given once, since its piece 0 would be taken again before it is given again.
use Rattle.std.proofs.Common.{◌≡◌, ℕ, ◌==◌, Bool, true, false, not, cond, filter, if◌then◌else◌, List, [], ◌∷◌, ◌++◌, Some, Result, Ok, Err, ◌⊎◌, inl, inr, refl, sym, ap, subst, arith}
use Rattle.std.proofs.lemmas.Bool.Decides.{nat_tests}
use Rattle.rtmfp_fragments.specs.declared.outcome.PieceRefusal.{PieceRefusal}
use Rattle.rtmfp_fragments.specs.declared.outcome.Gathered.{Gathered}
use Rattle.rtmfp_fragments.specs.declared.outcome.Gathered.TheVariants.{Again, Kept, Whole}
use Rattle.rtmfp_fragments.specs.Pieces.{PieceParts}
use Rattle.rtmfp_fragments.specs.Held.{PacketParts, has_id, is_kept, piece_at, pieces_under, kept_at, without, with_piece, with_one_more}
use Rattle.rtmfp_fragments.specs.Answers.{held_after}
use Rattle.rtmfp_fragments.specs.Happenings.{Happening, Took, Lacked, answer_then, held_by, JoinsFrom, Last, Next, is_taking, WasTaken, EachOnce, WasGiven, GivesOnce}
use Rattle.rtmfp_fragments.proofs.Histories.{end_or, nothing_there, by_number_now}

-- what holds of each number that is held under an id
abbrev pub Numbers : (ℕ → Type 0) → List PieceParts → Type 0
Numbers P pieces = (k : ℕ) (y : PieceParts) → piece_at k pieces ≡ Some y → P k

abbrev pub AllNumbers : ℕ → (ℕ → Type 0) → List PacketParts → Type 0
AllNumbers id P [] = Unit {0}
AllNumbers id P (q ∷ later) = (q.id ≡ id → Numbers P q.pieces) × AllNumbers id P later

either : (P : ℕ → Type 0) (k : ℕ) (x y : PieceParts) (pieces : List PieceParts) → Numbers P pieces → P x.number → (piece_at k pieces ≡ Some y) ⊎ (((x.number == k) ≡ true) × (y ≡ x)) → P k
either P k x y pieces all is (inl h) = all k y h
either P k x y pieces all is (inr h) =
    let same : x.number ≡ k = let e : (x.number == k) ≡ true = h.0 in grind (arith, nat_tests) in subst P same is

number_more : (P : ℕ → Type 0) (x : PieceParts) (pieces : List PieceParts) → Numbers P pieces → P x.number → Numbers P (pieces ++ x ∷ [])
number_more P x pieces all is k y e = either P k x y pieces all is (end_or k x y pieces e)

filter_by : (b : Bool) (id : ℕ) (P : ℕ → Type 0) (q : PacketParts) (later : List PacketParts) → (q.id ≡ id → Numbers P q.pieces) → AllNumbers id P later → AllNumbers id P (cond b (q ∷ later) later)
filter_by true id P q later h rest = (h, rest)
filter_by false id P q later h rest = rest

numbers_filter : (test : PacketParts → Bool) (id : ℕ) (P : ℕ → Type 0) (held : List PacketParts) → AllNumbers id P held → AllNumbers id P (filter test held)
numbers_filter test id P [] h = tt
numbers_filter test id P (q ∷ later) h = filter_by (test q) id P q (filter test later) h.0 (numbers_filter test id P later h.1)

gone_by : (b : Bool) (id : ℕ) (P : ℕ → Type 0) (q : PacketParts) (later : List PacketParts) → (q.id == id) ≡ b → AllNumbers id P later → AllNumbers id P (cond (not b) (q ∷ later) later)
gone_by true id P q later e rest = rest
gone_by false id P q later e rest = ((λ same. absurd (let other : (q.id == id) ≡ false = e in grind (arith, nat_tests))), rest)

numbers_gone : (id : ℕ) (P : ℕ → Type 0) (held : List PacketParts) → AllNumbers id P (without id held)
numbers_gone id P [] = tt
numbers_gone id P (q ∷ later) = gone_by (q.id == id) id P q (without id later) refl (numbers_gone id P later)

with_by : (b : Bool) (its id : ℕ) (P : ℕ → Type 0) (x : PieceParts) (q : PacketParts) (later more : List PacketParts) → (q.id == its) ≡ b
    → (its ≡ id → P x.number) → (q.id ≡ id → Numbers P q.pieces) → AllNumbers id P later → AllNumbers id P more
    → AllNumbers id P (if b then with_one_more q x ∷ later else q ∷ more)
with_by true its id P x q later more same is h rest over =
    (λ e. let its_id : its ≡ id = grind (arith, nat_tests) in number_more P x q.pieces (h e) (is its_id), rest)
with_by false its id P x q later more same is h rest over = (h, over)

numbers_with : (its id moment : ℕ) (P : ℕ → Type 0) (x : PieceParts) (held : List PacketParts) → (its ≡ id → P x.number) → AllNumbers id P held → AllNumbers id P (with_piece its moment x held)
numbers_with its id moment P x [] is h = (λ e. number_more P x [] (λ k y at. absurd (nothing_there k y at)) (is e), tt)
numbers_with its id moment P x (q ∷ later) is h =
    with_by (q.id == its) its id P x q later (with_piece its moment x later) refl is h.0 h.1 (numbers_with its id moment P x later is h.1)

under_by : (b : Bool) (id : ℕ) (P : ℕ → Type 0) (q : PacketParts) (later : List PieceParts) → (q.id == id) ≡ b → (q.id ≡ id → Numbers P q.pieces) → Numbers P later → Numbers P (if b then q.pieces else later)
under_by true id P q later e h rest = let same : q.id ≡ id = grind (arith, nat_tests) in h same
under_by false id P q later e h rest = rest

numbers_under : (id : ℕ) (P : ℕ → Type 0) (held : List PacketParts) → AllNumbers id P held → Numbers P (pieces_under id held)
numbers_under id P [] h = λ k x e. absurd (nothing_there k x e)
numbers_under id P (q ∷ later) h = under_by (q.id == id) id P q (pieces_under id later) refl h.0 (numbers_under id P later h.1)

numbers_after : (answer : Result Gathered PieceRefusal) (its id moment : ℕ) (P : ℕ → Type 0) (x : PieceParts) (now : List PacketParts)
    → (its ≡ id → is_taking answer ≡ true → P x.number) → AllNumbers id P now → AllNumbers id P (held_after its moment x now answer)
numbers_after (Ok Again) its id moment P x now is h = h
numbers_after (Ok Kept) its id moment P x now is h = numbers_with its id moment P x now (λ e. is e refl) h
numbers_after (Ok (Whole packet)) its id moment P x now is h = numbers_filter (λ q. not (has_id its q)) id P now h
numbers_after (Err refusal) its id moment P x now is h = h

wider : (id : ℕ) (P Q : ℕ → Type 0) (held : List PacketParts) → ((k : ℕ) → P k → Q k) → AllNumbers id P held → AllNumbers id Q held
wider id P Q [] f h = tt
wider id P Q (q ∷ later) f h = ((λ e k y at. f k (h.0 e k y at)), wider id P Q later f h.1)

-- what is held was taken
all_taken : (id : ℕ) (happened : List Happening) → AllNumbers id (λ k. WasTaken id k happened) (held_by happened)
all_taken id [] = tt
all_taken id (Took its x moment ∷ past) =
    numbers_after (answer_then (held_by past) its x moment) its id moment (λ k. WasTaken id k (Took its x moment ∷ past)) x (kept_at moment (held_by past))
    (λ e takes. inl (e, refl, takes))
    (numbers_filter (is_kept moment) id (λ k. WasTaken id k (Took its x moment ∷ past)) (held_by past)
    (wider id (λ k. WasTaken id k past) (λ k. WasTaken id k (Took its x moment ∷ past)) (held_by past) (λ k h. inr h) (all_taken id past)))
all_taken id (Lacked its x moment ∷ past) = numbers_filter (is_kept moment) id (λ k. WasTaken id k past) (held_by past) (all_taken id past)

-- a join has a piece of its first number
has_first : (pieces : List PieceParts) (number : ℕ) (w : List ℕ) → JoinsFrom pieces number w → (y : PieceParts) × (piece_at number pieces ≡ Some y)
has_first pieces number w (Last n x here last) = (x, here)
has_first pieces number w (Next n x later here more rest) = (x, here)

-- where a packet is given, what holds of the numbers held and of the new one holds of 0
of_zero : (P : ℕ → Type 0) (held : List PacketParts) (id : ℕ) (x : PieceParts) (moment : ℕ) (packet : List ℕ) → answer_then held id x moment ≡ Ok (Whole packet)
    → AllNumbers id P held → P x.number → P 0
of_zero P held id x moment packet e all is =
    let now = kept_at moment held in
    let first = has_first (pieces_under id now ++ x ∷ []) 0 packet (by_number_now now id x packet e) in
    number_more P x (pieces_under id now) (numbers_under id P now (numbers_filter (is_kept moment) id P held all)) is 0 first.0 first.1

takes_whole : (held : List PacketParts) (id : ℕ) (x : PieceParts) (moment : ℕ) (packet : List ℕ) → answer_then held id x moment ≡ Ok (Whole packet) → is_taking (answer_then held id x moment) ≡ true
takes_whole held id x moment packet e = ap (λ (a : Result Gathered PieceRefusal). is_taking a) e

zero_here : (its id : ℕ) (x : PieceParts) (moment : ℕ) (past : List Happening) (packet : List ℕ) → its ≡ id → answer_then (held_by past) its x moment ≡ Ok (Whole packet) → WasTaken id 0 (Took its x moment ∷ past)
zero_here its id x moment past packet same e =
    of_zero (λ k. WasTaken id k (Took its x moment ∷ past)) (held_by past) its x moment packet e
    (subst (λ n. AllNumbers n (λ k. WasTaken id k (Took its x moment ∷ past)) (held_by past)) (sym same)
    (wider id (λ k. WasTaken id k past) (λ k. WasTaken id k (Took its x moment ∷ past)) (held_by past) (λ k h. inr h) (all_taken id past)))
    (inl (same, refl, takes_whole (held_by past) its x moment packet e))

zero_taken : (id : ℕ) (happened : List Happening) → WasGiven id happened → WasTaken id 0 happened
zero_taken id (Took its x moment ∷ past) (inl h) = zero_here its id x moment past h.1.0 h.0 h.1.1
zero_taken id (Took its x moment ∷ past) (inr h) = inr (zero_taken id past h)
zero_taken id (Lacked its x moment ∷ past) h = zero_taken id past h
zero_taken id [] h = absurd h

abbrev NotZero : ℕ → Type 0
NotZero k = k ≡ 0 → ⊥

-- after a packet was given its piece 0 isn't held
never_zero : (id : ℕ) (happened : List Happening) → EachOnce id happened → WasGiven id happened → AllNumbers id NotZero (held_by happened)
never_zero id [] once h = absurd h
never_zero id (Lacked its x moment ∷ past) once h = numbers_filter (is_kept moment) id NotZero (held_by past) (never_zero id past once h)
never_zero id (Took its x moment ∷ past) once (inl h) =
    subst (λ (a : Result Gathered PieceRefusal). AllNumbers id NotZero (held_after its moment x (kept_at moment (held_by past)) a)) (sym h.1.1)
    (subst (λ n. AllNumbers id NotZero (without n (kept_at moment (held_by past)))) (sym h.0) (numbers_gone id NotZero (kept_at moment (held_by past))))
never_zero id (Took its x moment ∷ past) once (inr h) =
    numbers_after (answer_then (held_by past) its x moment) its id moment NotZero x (kept_at moment (held_by past))
    (λ e takes none. once.0 e takes (subst (λ k. WasTaken id k past) (sym none) (zero_taken id past h)))
    (numbers_filter (is_kept moment) id NotZero (held_by past) (never_zero id past once.1 h))

pub once : GivesOnce
once happened id x moment packet each e given =
    of_zero NotZero (held_by happened) id x moment packet e (never_zero id happened each.1 given)
    (λ none. each.0 refl (takes_whole (held_by happened) id x moment packet e) (subst (λ k. WasTaken id k happened) (sym none) (zero_taken id happened given))) refl
