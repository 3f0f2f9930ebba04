-- Lists that are added to a text, each item behind a comma.
use Rattle.std.proofs.Common.{◌≡◌, ℕ, suc, ◌-◌, ◌<◌, ◌≤◌, List, [], ◌∷◌, ◌++◌, refl, sym, ap, ◌∙◌, append_assoc, arith, codes, decimal, map}
use Rattle.std.specs.List.{flat_map}
use Rattle.std.proofs.lemmas.List.{map-append}
use Rattle.rtmfp_text.specs.Words.{behind_commas}
use Rattle.rtmfp_show.specs.DataText.{count_up, numbers_of}

-- one list of items behind another
pub commas_append : (xs ys : List (List ℕ)) → behind_commas (xs ++ ys) ≡ behind_commas xs ++ behind_commas ys
commas_append [] ys = refl
commas_append (x ∷ xs) ys =
    ap (λ t. codes "," ++ (x ++ t)) (commas_append xs ys)
    ∙ ap (λ t. codes "," ++ t) (sym (append_assoc x (behind_commas xs) (behind_commas ys)))
    ∙ sym (append_assoc (codes ",") (x ++ behind_commas xs) (behind_commas ys))

-- an item was added behind a comma
pub item_pushed : (old mid new item rest : List ℕ) → mid ≡ old ++ codes "," → new ≡ mid ++ item → new ++ rest ≡ old ++ (codes "," ++ (item ++ rest))
item_pushed old mid new item rest comma one =
    ap (λ t. t ++ rest) (one ∙ ap (λ t. t ++ item) comma ∙ append_assoc old (codes ",") item)
    ∙ append_assoc old (codes "," ++ item) rest
    ∙ ap (λ t. old ++ t) (append_assoc (codes ",") item rest)

-- the texts of the numbers above n up to last, each behind a comma
abbrev pub numbers_above : ℕ → ℕ → List ℕ
numbers_above n last = behind_commas (map decimal (count_up (suc n) (last - n)))

left_to : (n last : ℕ) → n < last → last - n ≡ suc (last - suc n)
left_to n last e = omega arith

-- one more number
pub number_pushed : (old mid new : List ℕ) (n next last : ℕ) → n < last → next ≡ suc n → mid ≡ old ++ codes "," → new ≡ mid ++ decimal next → new ++ numbers_above next last ≡ old ++ numbers_above n last
number_pushed old mid new n next last below is_next comma one =
    ap (λ k. new ++ numbers_above k last) is_next
    ∙ item_pushed old mid new (decimal (suc n)) (numbers_above (suc n) last) comma (one ∙ ap (λ k. mid ++ decimal k) is_next)
    ∙ ap (λ count. old ++ behind_commas (map decimal (count_up (suc n) count))) (sym (left_to n last below))

none_left : (n last : ℕ) → last ≤ n → last - n ≡ 0
none_left n last e = omega arith

-- the texts of the numbers of spans, each behind a comma
abbrev pub numbers_in : List (ℕ × ℕ) → List ℕ
numbers_in ss = behind_commas (map decimal (flat_map numbers_of ss))

-- the numbers of a span above its first one, and those of other spans
pub above_first : (s : ℕ × ℕ) (ss : List (ℕ × ℕ)) → behind_commas (map decimal (count_up (suc s.0) (s.1 - s.0) ++ flat_map numbers_of ss)) ≡ numbers_above s.0 s.1 ++ numbers_in ss
above_first s ss =
    ap behind_commas (map-append decimal (count_up (suc s.0) (s.1 - s.0)) (flat_map numbers_of ss))
    ∙ commas_append (map decimal (count_up (suc s.0) (s.1 - s.0))) (map decimal (flat_map numbers_of ss))

-- one more span
pub span_pushed : (old mid first new : List ℕ) (left rest : List (ℕ × ℕ)) (s : ℕ × ℕ) → left ≡ s ∷ rest → mid ≡ old ++ codes "," → first ≡ mid ++ decimal s.0 → new ≡ first ++ numbers_above s.0 s.1
    → new ++ numbers_in rest ≡ old ++ numbers_in left
span_pushed old mid first new left rest s e comma one more =
    ap (λ t. t ++ numbers_in rest) more
    ∙ append_assoc first (numbers_above s.0 s.1) (numbers_in rest)
    ∙ item_pushed old mid first (decimal s.0) (numbers_above s.0 s.1 ++ numbers_in rest) comma one
    ∙ ap (λ t. old ++ (codes "," ++ (decimal s.0 ++ t))) (sym (above_first s rest))
    ∙ ap (λ (ss : List (ℕ × ℕ)). old ++ numbers_in ss) (sym e)

-- the numbers of all spans, with commas between them
pub each_pushed : (old first mid new : List ℕ) (s : ℕ × ℕ) (rest : List (ℕ × ℕ)) → first ≡ old ++ decimal s.0 → mid ≡ first ++ numbers_above s.0 s.1 → new ≡ mid ++ numbers_in rest
    → new ≡ old ++ (decimal s.0 ++ behind_commas (map decimal (count_up (suc s.0) (s.1 - s.0) ++ flat_map numbers_of rest)))
each_pushed old first mid new s rest one more others =
    others
    ∙ ap (λ t. t ++ numbers_in rest) more
    ∙ append_assoc first (numbers_above s.0 s.1) (numbers_in rest)
    ∙ ap (λ t. t ++ (numbers_above s.0 s.1 ++ numbers_in rest)) one
    ∙ append_assoc old (decimal s.0) (numbers_above s.0 s.1 ++ numbers_in rest)
    ∙ ap (λ t. old ++ (decimal s.0 ++ t)) (sym (above_first s rest))
