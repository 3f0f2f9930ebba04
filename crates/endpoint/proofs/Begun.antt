-- Attempts and searches that begin.
use Rattle.std.proofs.Common.{if◌then◌else◌, ◌^◌, nat_le, nat_lt, is_some, ◌≡◌, ◌≤◌, ◌<◌, ◌+◌, ◌++◌, ◌==◌, ◌&&◌, ◌||◌, not, ℕ, Bool, true, false, List, [], ◌∷◌, length, Option, Some, None, refl, ap, ◌∙◌, subst, arith, length-append}
use Rattle.std.specs.FinMap.{get, contains_key}
use Rattle.std.specs.List.{fold, list_any}
use Rattle.std.proofs.lemmas.Bool.Decides.{nat_tests}
use Rattle.rtmfp_base.specs.Reasons.{where_true, first_that_stands}
use Rattle.glare_core.specs.Calls.{start_refusal}
use Rattle.startup.specs.Attempts.{joined, distinct_candidates}
use Rattle.endpoint_model.specs.declared.answers.OpenRefusal.{OpenRefusal}
use Rattle.endpoint_model.specs.declared.answers.SeekRefusal.{SeekRefusal}
use Rattle.endpoint_model.specs.declared.answers.SeekRefusal.TheVariants.{Candidates as TooFewOrMany}
use Rattle.rtmfp_forms.specs.Address.{AddressParts, is_same_place}
use Rattle.startup.specs.State.{AttemptState}
use Rattle.endpoint_model.specs.Effects.{candidates_refusal, start_refused, full_refused, open_refusal, places_refusal, no_place, seek_refusal}
use Rattle.endpoint_model.specs.State.{State, uses, is_used, is_free, full, free_from}
use Rattle.endpoint_model.proofs.Ids.{free_from_is_free}

-- ---- what isn't refused

some_place : (candidates start place : Option OpenRefusal) → first_that_stands (candidates ∷ start ∷ place ∷ []) ≡ None → place ≡ None
some_place None None None e = refl
some_place None None (Some refusal) e = absurd (cc)
some_place None (Some refusal) place e = absurd (cc)
some_place (Some refusal) start place e = absurd (cc)

not_refused : (limit : Option ℕ) → full_refused limit ≡ None → limit ≡ None
not_refused None e = refl
not_refused (Some limit) e = absurd (cc)

not_full : (most count : ℕ) → (if nat_le most count then Some most else None) ≡ None → count < most
not_full most count e = decided (nat_le most count) refl e
  where
    decided : (b : Bool) → nat_le most count ≡ b → (if b then Some most else None) ≡ None → count < most
    decided true is none = absurd (cc)
    decided false is none = grind (arith, nat_tests)

-- there is a place for an attempt that isn't refused
pub place_to_open : (s : State) (peer : List ℕ) (candidates : List AddressParts) → open_refusal s peer candidates ≡ None → full s ≡ None
place_to_open s peer candidates none =
    not_refused (full s) (some_place (candidates_refusal (length candidates)) (start_refused (start_refusal s.startup.ledger peer)) (full_refused (full s)) none)

-- and for a search
place_left : (candidates place : Option SeekRefusal) → first_that_stands (candidates ∷ place ∷ []) ≡ None → place ≡ None
place_left None None e = refl
place_left None (Some refusal) e = absurd (cc)
place_left (Some refusal) place e = absurd (cc)

has_place : (limit : Option ℕ) → no_place limit ≡ None → limit ≡ None
has_place None e = refl
has_place (Some limit) e = absurd (cc)

pub place_to_seek : (s : State) (candidates : List AddressParts) → seek_refusal s candidates ≡ None → full s ≡ None
place_to_seek s candidates none = has_place (full s) (place_left (places_refusal (length candidates)) (no_place (full s)) none)

few_used : (s : State) → s.config.max_sessions ≤ 65536 → full s ≡ None → uses s ≤ 65536
few_used s few left = omega (arith, few, not_full s.config.max_sessions (uses s) left)

-- the session ID that an attempt or a search is given
pub record IsUnused (s : State) (near : ℕ) : Type 0 where
  pub other : near ≡ 0 → ⊥
  pub none : get s.startup.attempts near ≡ None

no_zero : (near : ℕ) (used : Bool) → (not (near == 0) && not used) ≡ true → near ≡ 0 → ⊥
no_zero near used e is = let clash : false ≡ true = subst (λ (n : ℕ). (not (n == 0) && not used) ≡ true) is e in absurd (cc)

no_attempt : (zero_id there held : Bool) → (not zero_id && not (there || held)) ≡ true → there ≡ false
no_attempt true there held e = absurd (cc)
no_attempt false true held e = absurd (cc)
no_attempt false false held e = refl

none_there : (attempt : Option AttemptState) → is_some attempt ≡ false → attempt ≡ None
none_there None e = refl
none_there (Some a) e = absurd (cc)

unused : (s : State) (near : ℕ) → is_free s near ≡ true → IsUnused s near
unused s near free = record {
  other = no_zero near (is_used s near) free;
  none = none_there (get s.startup.attempts near) (no_attempt (near == 0) (contains_key s.startup.attempts near) (contains_key s.sessions near) free);
}

pub unused_from : (s : State) (word near : ℕ) → s.config.max_sessions ≤ 65536 → word < 2 ^ 32 → full s ≡ None → near ≡ free_from s word → IsUnused s near
unused_from s word near few fits left is = unused s near (ap (is_free s) is ∙ free_from_is_free s word (few_used s few left) fits)

-- ---- how many candidates there are

some_or_many : (count : ℕ) → places_refusal count ≡ None → (1 ≤ count) × (count ≤ 16)
some_or_many count e = decided (count == 0) (nat_lt 16 count) refl refl e
  where
    decided : (none many : Bool) → (count == 0) ≡ none → nat_lt 16 count ≡ many → where_true (none || many) (TooFewOrMany count) ≡ None → (1 ≤ count) × (count ≤ 16)
    decided true many is more e = absurd (cc)
    decided false true is more e = absurd (cc)
    decided false false is more e = (grind (arith, nat_tests), grind (arith, nat_tests))

places_left : (candidates place : Option SeekRefusal) → first_that_stands (candidates ∷ place ∷ []) ≡ None → candidates ≡ None
places_left None place e = refl
places_left (Some refusal) place e = absurd (cc)

-- a search that isn't refused has 1 to 16
pub places_to_seek : (s : State) (candidates : List AddressParts) → seek_refusal s candidates ≡ None → (1 ≤ length candidates) × (length candidates ≤ 16)
places_to_seek s candidates none = some_or_many (length candidates) (places_left (places_refusal (length candidates)) (no_place (full s)) none)

-- candidates at the same place count once

one_more : (there : Bool) (places : List AddressParts) (address : AddressParts) → length (if there then places else places ++ address ∷ []) ≤ length places + 1
one_more true places address = omega arith
one_more false places address = omega (arith, length-append places (address ∷ []))

places_from : (places candidates : List AddressParts) → length (fold joined places candidates) ≤ length places + length candidates
places_from places [] = omega arith
places_from places (address ∷ candidates) =
    omega (arith, places_from (joined places address) candidates, one_more (list_any (is_same_place address) places) places address)

pub few_places : (candidates : List AddressParts) → length (distinct_candidates candidates) ≤ length candidates
few_places candidates = omega (arith, places_from [] candidates)
